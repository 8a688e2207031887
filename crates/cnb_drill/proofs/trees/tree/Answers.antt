use Rattle.std.proofs.Common.{◌≡◌, ◌∙◌, ap, true, [], arith}
use Rattle.tree_canon.specs.declared.node.Node.TheVariants.{Folder}
use Rattle.tree_canon.specs.Fits.{is_tree}
use Rattle.cnb_drill.specs.Trees.{contents, drill_file, file_name}
use Rattle.cnb_drill.proofs.ListLemmas.{pushed, all_pushed}
use Rattle.cnb_drill.proofs.TreeLemmas.{is_tree_of}
use Rattle.cnb_drill.proofs.trees.tree.Goals as goal

pub loop-place-preserved : goal.loop-place-preserved
loop-place-preserved c =
    pushed (λ place. drill_file (contents c.args.tree) (file_name place)) [] c.loop-place.place c.loop-place.files
    c.push.new.self c.in_ok-file.field-0
    c.loop-place.invariant c.in_ok-file.ensures c.in_ok-push.ensures.ok

pub unreachable-requires : goal.unreachable-requires
unreachable-requires c =
    let all = all_pushed (λ place. drill_file (contents c.args.tree) (file_name place)) [] c.loop-place.place 16
    c.loop-place.files (omega arith) (omega arith) c.loop-place.invariant in
    let fits : is_tree (Folder c.loop-place.files) ≡ true = ap (λ files. is_tree (Folder files)) all
    ∙ is_tree_of c.args.tree c.requires in
    let made = rw fits at c.new.ensures in
    cc
