use Rattle.std.proofs.Common.{rules}
use Rattle.cnb_export.proofs.PlaceLaws.{placed_more, pushed_more}
use Rattle.cnb_export.proofs.rows.add_layer_rows.Goals as goal

pub loop-layer-preserved : goal.loop-layer-preserved
loop-layer-preserved c = record {
  pushed =
      pushed_more c.args.group.now c.args.layers.now c.loop-layer.layer-index c.layer-item.result c.args.rows.now
      c.loop-layer.rows c.push.new.self c.in_ok-place.place c.in_ok-by.by (search rules)
      (search rules) c.in_ok-place.ensures.place c.in_ok-by.ensures
      c.loop-layer.invariant.pushed c.in_ok-push.ensures.ok;
  placed = placed_more c.args.group.now c.args.layers.now c.loop-layer.layer-index c.layer-item.result
      (search rules) (search rules) c.in_ok-place.ensures.short c.loop-layer.invariant.placed;
}
