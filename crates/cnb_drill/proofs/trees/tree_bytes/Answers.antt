use Rattle.std.proofs.Common.{◌∙◌, ap, length}
use Rattle.tree_canon.specs.Spelling.{spelling_of}
use Rattle.cnb_drill.proofs.TreeLemmas.{bytes_of}
use Rattle.cnb_drill.proofs.trees.tree_bytes.Goals as goal

pub returns : goal.returns
returns c = ap length (c.as_slice-2.ensures ∙ (c.in_ok-encode.ensures.spelled.is
    ∙ ap spelling_of c.in_ok-tree.ensures)) ∙ bytes_of c.args.place
