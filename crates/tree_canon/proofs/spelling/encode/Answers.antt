use Rattle.std.proofs.Common.{◌≡◌, ◌∙◌, ◌++◌, ap, arith}
use Rattle.tree_canon.specs.Parts.{bytes_of_parts}
use Rattle.tree_canon.specs.Spelling.{spelling_of}
use Rattle.tree_canon.proofs.Divided.{tree_spells, same_exactly}
use Rattle.tree_canon.proofs.PartLemmas.{all_written}
use Rattle.tree_canon.proofs.spelling.encode.Goals as goal

written : (c : goal.After-from_vec) → c.from_vec.result ≡ spelling_of c.args.tree.now
written c = c.from_vec.ensures ∙ all_written c.write.new.out.items (bytes_of_parts c.write.new.self.items.items)
    (spelling_of c.args.tree.now) (c.in_ok-write.ensures.all
    ∙ ap (λ x. x ++ bytes_of_parts c.in_ok-new.field-0.items.items) c.in_ok-out.ensures.items
    ∙ c.in_ok-new.ensures ∙ ap spelling_of c.node.ensures.root)
    (λ few. c.in_ok-write.ensures.end (omega (arith, few, c.length-most.ensures)))

pub returns-clause-spelled : goal.returns-clause-spelled
returns-clause-spelled c = tree_spells c.args.tree.now c.from_vec.result c.node.ensures.tree (written c)

pub returns-clause-same : goal.returns-clause-same
returns-clause-same c other spelling h = same_exactly c.args.tree.now other c.from_vec.result spelling
    (tree_spells c.args.tree.now c.from_vec.result c.node.ensures.tree (written c)) h
