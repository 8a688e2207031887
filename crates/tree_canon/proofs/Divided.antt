-- Each list of bytes is one of the three, and no two of them.
use Rattle.std.proofs.Common.{◌≡◌, ℕ, ◌∙◌, List, length, true, arith, sym, ap, subst}
use Rattle.std.specs.Prelude.{◌↔◌, nat_le}
use Rattle.std.proofs.lemmas.Bool.{and_parts, leb-true}
use Rattle.tree_canon.specs.declared.node.Node.{Node}
use Rattle.tree_canon.specs.Spelling.{limit, spelling_of}
use Rattle.tree_canon.specs.Fits.{fits, is_tree}
use Rattle.tree_canon.specs.Division.{Spells, Kind, IsDivided}
use Rattle.tree_canon.proofs.CutMoves.{one_tree, one_break, broken_not_spelled, short_not_spelled, broken_not_short}

pub divided : (bytes : List ℕ) → Kind bytes → IsDivided bytes
divided bytes kind = record {
  kind = kind;
  one_tree = λ root other a b. one_tree bytes root other a b;
  one_break = λ at place reason other a b. one_break bytes at place reason other a b;
  not_spelled_and_broken = λ root at reason a b. broken_not_spelled bytes at reason root b a;
  not_spelled_and_short = λ root a b. short_not_spelled bytes root b a;
  not_broken_and_short = λ at reason a b. broken_not_short bytes at reason a b;
}

pub tree_spells : (root : Node) (bytes : List ℕ) → is_tree root ≡ true → bytes ≡ spelling_of root → Spells root bytes
tree_spells root bytes tree is =
    let parts = and_parts (fits root 0) (nat_le (length (spelling_of root)) limit) tree in
    record {
      fit = parts.0;
      size = omega (
        arith,
        leb-true (length (spelling_of root)) limit parts.1,
        ap length
            is,
      );
      is = is;
    }

-- two trees are equal exactly where their bytes are
pub same_exactly : (root other : Node) (bytes spelling : List ℕ) → Spells root bytes → Spells other spelling
    → (spelling ≡ bytes) ↔ (other ≡ root)
same_exactly root other bytes spelling a b =
    (λ e. one_tree bytes other root (subst (Spells other) e b) a, λ e. b.is ∙ ap spelling_of e ∙ sym a.is)
