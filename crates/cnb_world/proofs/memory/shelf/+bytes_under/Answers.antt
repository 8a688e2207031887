use Rattle.std.proofs.Common.{cond, Some, sym, ap, ◌∙◌}
use Rattle.std.specs.FinMap.{get}
use Rattle.cnb_world.specs.Shelf.{held_of}
use Rattle.cnb_world.proofs.ShelfLemmas.{nothing_held, held_after_last}
use Rattle.cnb_world.proofs.memory.shelf.+bytes_under.Goals as goal

pub returns-in_default : goal.returns-in_default
returns-in_default t c = sym (nothing_held c.args.puts.now c.args.digest.now c.in_default.ensures.cases)

pub returns-then-is_under : goal.returns-then-is_under
returns-then-is_under t c =
    sym (held_after_last c.args.puts.now c.in-Some.earlier.now c.in-Some.last.now c.args.digest.now
    c.in-Some.ensures.cases.0
    ∙ ap (λ v. cond v (Some c.in-Some.last.now.bytes) (get (held_of c.in-Some.earlier.now) c.args.digest.now))
    (sym c.is_under.ensures ∙ c.if-is_under.true))

pub returns : goal.returns
returns t c =
    c.bytes_under.ensures
    ∙ sym (held_after_last c.args.puts.now c.in-Some.earlier.now c.in-Some.last.now c.args.digest.now
    c.in-Some.ensures.cases.0
    ∙ ap (λ v. cond v (Some c.in-Some.last.now.bytes) (get (held_of c.in-Some.earlier.now) c.args.digest.now))
    (sym c.is_under.ensures ∙ c.if-is_under.false))
