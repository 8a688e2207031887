use Rattle.std.proofs.Common.{◌≡◌, ◌-◌, ◌∙◌, ap, length, length-drop, take, drop, suc, add-one, refl, arith, get_or}
use Rattle.std.proofs.lemmas.List.{take_all}
use Rattle.plan_resolve.specs.Pruning.{row_holds}
use Rattle.std.proofs.lemmas.Option.{slice_get_past, slice_get_read}
use Rattle.plan_resolve.proofs.NearLemmas.{holds_at, holds_past}
use Rattle.plan_resolve.proofs.pruning.holds.Goals as goal

pub returns-in-Some : goal.returns-in-Some
returns-in-Some c =
    let trial = c.args.trial.now in
    let set = c.args.set.now in
    let place = get_or set c.args.index 0 in
    let row = c.in-Some.row.now in
    let found = c.in-Some.ensures.lookup.3 in
    let at = slice_get_read trial (length trial) place row refl found.0 (found.1 row) in
    let behind = drop c.args.index set in
    let back : take (length set - c.args.index) behind ≡ behind = take_all (length set - c.args.index) behind
    (omega (arith, length-drop c.args.index set)) in
    c.row_holds.ensures
    ∙ (ap (λ n. row_holds trial (take n set) (take (length set - c.args.index) behind) row) (add-one c.args.index)
    ∙ (ap (λ places. row_holds trial (take (suc c.args.index) set) places row) back
    ∙ holds_at trial set c.args.index 0 row c.requires.ascending c.requires.within at))

pub returns-in-None : goal.returns-in-None
returns-in-None c =
    let place = get_or c.args.set.now c.args.index 0 in
    holds_past c.args.trial.now c.args.set.now place
    (slice_get_past c.args.trial.now place (omega (arith, c.in-None.ensures.lookup.3)))
