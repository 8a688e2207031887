use Rattle.std.proofs.Common.{◌≡◌, ◌∙◌, ◌+◌, ◌-◌, ap, arith, drop, sym}
use Rattle.std.proofs.lemmas.List.{length-drop}
use Rattle.cnb_world.specs.Env.{is_ascending}
use Rattle.cnb_world.proofs.EnvLemmas.{next_ascends, alone_ascends}
use Rattle.cnb_world.proofs.env.are_ascending.Goals as goal

pub loop-place-preserved : goal.loop-place-preserved
loop-place-preserved c =
    let same : c.loop-place.place + 1 - 1 ≡ c.loop-place.place = omega arith in
    ap (λ place. is_ascending (drop place c.args.variables.now)) same
    ∙ next_ascends c.args.variables.now c.loop-place.place c.index-variables-place.result
    c.index-variables-place-in-loop-place.result c.as_str.result.now c.as_str-in-loop-place.result.now
    c.loop-place.auto.place c.loop-place-test.true c.as_str.ensures c.as_str-in-loop-place.ensures c.if-ge.ensures
    ∙ c.loop-place.invariant

pub returns : goal.returns
returns c =
    let vs = c.args.variables.now in
    let place = c.loop-place.place in
    sym (alone_ascends (drop (place - 1) vs) (omega (arith, length-drop (place - 1) vs, c.loop-place-test.false)))
    ∙ c.loop-place.invariant
