use Rattle.std.proofs.Common.{◌≡◌, map}
use Rattle.plan_resolve.specs.Trials.{numbers_below}
use Rattle.cnb_drill.specs.Trees.{contents, drill_file, file_name}
use Rattle.cnb_drill.proofs.trees.tree.Given as goal

abbrev pub invariant-loop-place : goal.invariant-loop-place
invariant-loop-place l = l.files ≡ map (λ place. drill_file (contents l.tree) (file_name place)) (numbers_below l.place)
