use Rattle.std.proofs.Common.{sym, ◌∙◌, arith}
use Rattle.std.proofs.lemmas.Bool.{OnTrue_from}
use Rattle.plan_resolve.proofs.PrefixLemmas.{not_true, covers_more, covers_cut, dead_by_last}
use Rattle.plan_resolve.proofs.prefix.Prefix.push.Goals as goal

pub returns-then-are_provided-clause-covers : goal.returns-then-are_provided-clause-covers
returns-then-are_provided-clause-covers c =
    rw (c.in_ok-push-2.ensures.items, c.in_ok-push.ensures.items)
    (covers_more c.args.self.now.rows.items c.args.self.now.places.items _ c.args.row c.requires.covers (omega arith))

pub returns-clause-covers : goal.returns-clause-covers
returns-clause-covers c =
    let unmet = rw (
      c.as_slice.ensures.value,
      c.as_slice-2.ensures.value,
      c.needs-needs.ensures,
      c.in_ok-push-2.ensures.items,
      c.in_ok-push.ensures.items,
    ) at
    (sym c.are_provided.ensures ∙ c.if-are_provided.false) in
    rw (c.truncate.ensures.items, c.in_ok-push-2.ensures.items, c.in_ok-push.ensures.items)
    (covers_cut c.args.self.now.rows.items c.args.self.now.places.items _ _ c.args.row c.requires.covers
    (omega arith) (omega arith) unmet)

pub returns-clause-dead : goal.returns-clause-dead
returns-clause-dead c =
    let unmet = rw (
      c.as_slice.ensures.value,
      c.as_slice-2.ensures.value,
      c.needs-needs.ensures,
      c.in_ok-push-2.ensures.items,
      c.in_ok-push.ensures.items,
    ) at
    (sym c.are_provided.ensures ∙ c.if-are_provided.false) in
    rw c.in_ok-push-2.ensures.items (OnTrue_from _ _ (λ dead.
    dead_by_last c.args.self.now.rows.items c.args.self.now.places.items _ c.args.row c.requires.covers
    (omega arith) unmet
    (sym c.is_optional-optional.ensures ∙ not_true _ dead)))
