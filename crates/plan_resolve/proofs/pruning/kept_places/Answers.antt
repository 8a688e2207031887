use Rattle.std.proofs.Common.{◌≡◌, length, ap, sym, ◌∙◌, arith, vec_len, Some, None, cond}
use Rattle.std.specs.Prelude.{nat_lt}
use Rattle.plan_resolve.proofs.PruningLemmas.{on_the_way_start, on_the_way_end, unless_zero}
use Rattle.plan_resolve.proofs.pruning.kept_places.Goals as goal

pub rounds-init : goal.rounds-init
rounds-init c = rw c.in_ok-set.ensures (on_the_way_start c.args.trial.now)

pub returns-then-len-all : goal.returns-then-len-all
returns-then-len-all c =
    let trial = c.args.trial.now in
    let set = c.sweep.new.set.items in
    let len : vec_len c.sweep.new.set ≡ length set = omega arith in
    let same : length set ≡ length c.rounds.set.items = omega arith in
    rw (c.then_some.ensures, c.is_empty.ensures) (unless_zero (λ places. places.items) c.sweep.new.set
    (vec_len c.sweep.new.set)
    ∙ (ap (λ n. cond (nat_lt 0 n) (Some set) None) len
    ∙ sym (on_the_way_end trial set c.if-not-sweep.ensures.way (c.if-not-sweep.ensures.closed same))))
