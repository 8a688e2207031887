use Rattle.std.proofs.Common.{◌≡◌, [], take}
use Rattle.order_expand.specs.Met.{marks_of}
use Rattle.order_expand.proofs.met.no_marks.Given as goal

abbrev pub invariant-loop : goal.invariant-loop
invariant-loop l = l.marks.items ≡ marks_of [] (take l.index l.items)
