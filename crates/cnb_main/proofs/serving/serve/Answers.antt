use Rattle.std.proofs.Common.{◌≡◌, ◌∙◌, ap, arith, length, map, subst, vec_len}
use Rattle.std.proofs.lemmas.List.{length-map}
use Rattle.std.specs.List.{range_with_len}
use Rattle.std.specs.Prelude.{string_bytes}
use Rattle.steps.specs.Outside.{outside}
use Rattle.cnb_main.specs.Serving.{Serves}
use Rattle.cnb_main.proofs.serving.serve.Goals as goal

pub returns : goal.returns
returns g c =
    let folders : length c.as_slice-folders.result.now ≡ length c.args.started.now.caches = ap length
    c.as_slice-folders.ensures in
    let many : length c.loop-folder.shelves.items ≡ length c.args.started.now.caches = omega (arith, folders) in
    record {
      serves = subst (λ words. Serves words c.args.started.now.env (length c.args.started.now.caches)
          (outside g.W.World g.S.Spawner c.args.started.now.world c.args.started.now.spawners.items)
          (outside g.W.World g.S.Spawner c.lifecycle-status.new.world c.lifecycle-status.new.spawners.items)
          (g.O.Sink.taken c.args.started.now.out) (g.O.Sink.taken c.lifecycle-status.new.out) c.code-code.result)
          (ap (map string_bytes) c.as_slice.ensures.value) (record {
            caches_old = _;
            caches_new = _;
            many = length-map _ _ ∙ many;
            standing = _;
            all = ap (range_with_len 0) many;
            status = c.lifecycle-status.result;
            coded = c.code-code.ensures;
            does = c.lifecycle-status.ensures.does;
            refused = c.lifecycle-status.ensures.refused;
          });
    }
