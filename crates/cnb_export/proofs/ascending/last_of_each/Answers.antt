use Rattle.std.proofs.Common.{◌≡◌, ◌∙◌, ap, ℕ, List, Ok}
use Rattle.std.specs.FinMap as fin
use Rattle.std.specs.HashMap as hash
use Rattle.std.specs.Str.{bytes_eq}
use Rattle.std.proofs.lemmas.Iterator.{items_from_collect}
use Rattle.std.proofs.lemmas.Iterator.Consumers.{YieldsList-from_rest}
use Rattle.std.proofs.lemmas.List.{take_all}
use Rattle.cnb_export.specs.Ascending.{latest}
use Rattle.cnb_export.proofs.AscendingLemmas.{latest_more, latest_none, sorted_values}
use Rattle.cnb_export.proofs.ascending.last_of_each.Goals as goal

pub loop-row-init : goal.loop-row-init
loop-row-init g c = latest_none g.T.Keyed.key_of c.args.rows.now c.new-latest.result c.new-latest.ensures.empty

pub loop-row-preserved : goal.loop-row-preserved
loop-row-preserved g c =
    latest_more g.T.Keyed.key_of c.args.rows.now c.loop-row.row-index c.row-item.result c.in_ok-copy.field-0
    c.key.result c.loop-row.latest c.insert.new.self
    c.loop-row-test.true c.row-item.is c.in_ok-copy.ensures c.key.ensures c.in_ok-insert.ensures.updates
    c.loop-row.invariant

pub returns : goal.returns
returns g c =
    let all = take_all c.loop-row.row-index c.args.rows.now c.loop-row-test.false in
    let same : (q : List ℕ) → hash.get_by (λ k. bytes_eq q k.now) c.sort_keys.new.self
    ≡ fin.get (latest g.T.Keyed.key_of c.args.rows.now) q = λ q. c.in_ok-sort_keys.ensures.reordered.2
    (record { ref_ptr = (0, 0); now = q }) ∙ c.loop-row.invariant q
    ∙ ap (λ rows. fin.get (latest g.T.Keyed.key_of rows) q) all in
    let items = items_from_collect {E = Unit {0}} (Ok c.in_ok-collect.field-0) c.in_ok-collect.ensures.ran
    (YieldsList-from_rest _ c.into_values.ensures.rest) in
    c.from_vec.ensures ∙ items ∙ sorted_values c.sort_keys.new.self
    (latest g.T.Keyed.key_of c.args.rows.now) c.in_ok-sort_keys.ensures.sorted
    c.in_ok-sort_keys.ensures.unique same
