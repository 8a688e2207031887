-- The lengths of spellings.
use Rattle.std.proofs.Common.{◌≡◌, ℕ, ◌+◌, ◌≤◌, ◌∙◌, List, length, arith, refl, ap, true, false, Bool, if◌then◌else◌}
use Rattle.std.proofs.Common.{w16, length-append, Some, None}
use Rattle.std.specs.Prelude.{nat_le}
use Rattle.std.specs.Int.{to_be_bytes}
use Rattle.std.proofs.lemmas.Bool.{leb-true, le-leb}
use Rattle.tree_canon.specs.declared.node.Named.{Named}
use Rattle.tree_canon.specs.declared.node.Node.TheVariants.{Folder, File, Link}
use Rattle.tree_canon.specs.Spelling.{limit, folder_head, file_head, link_head, name_bytes, node_bytes, entry_bytes}
use Rattle.tree_canon.specs.Spelling.{entries_bytes}
use Rattle.tree_canon.specs.Writing.{room}
use Rattle.tree_canon.proofs.Equations.{node_bytes_folder, node_bytes_file, node_bytes_link, entry_bytes_is}

pub folder_length : (all : List Named) → length (node_bytes (Folder all)) ≡ 5 + length (entries_bytes all)
folder_length all = ap length (node_bytes_folder all) ∙ length-append (folder_head (length all)) (entries_bytes all)

pub file_length : (exec : Bool) (bytes : List ℕ) → length (node_bytes (File exec bytes)) ≡ 10 + length bytes
file_length exec bytes = ap length (node_bytes_file exec bytes) ∙ length-append (file_head exec (length bytes)) bytes

pub link_length : (target : List ℕ) → length (node_bytes (Link target)) ≡ 3 + length target
link_length target = ap length (node_bytes_link target) ∙ length-append (link_head (length target)) target

pub entry_length : (e : Named) → length (entry_bytes e) ≡ 2 + length e.name + length (node_bytes e.node)
entry_length e = omega (
  arith,
  ap length (entry_bytes_is e),
  length-append (name_bytes e.name)
      (node_bytes e.node),
  length-append (to_be_bytes w16 (length e.name)) e.name,
)

-- what has room is not too much
pub room_some : (n m : ℕ) → room n ≡ Some m → (n ≤ limit) × (m ≡ n)
room_some n m h = pick (nat_le n limit) refl h
  where
    pick : (b : Bool) → nat_le n limit ≡ b → (if b then Some n else None) ≡ Some m → (n ≤ limit) × (m ≡ n)
    pick true e is = (leb-true n limit e, cc)
    pick false e is = absurd cc

-- with more, what has no room has none
pub room_none : (n more : ℕ) → room n ≡ None → room (n + more) ≡ None
room_none n more h = pick (nat_le (n + more) limit) refl
  where
    pick : (b : Bool) → nat_le (n + more) limit ≡ b → (if b then Some (n + more) else None) ≡ None
    pick true e =
        let le : n + more ≤ limit = leb-true (n + more) limit e in
        let small : nat_le n limit ≡ true = le-leb n limit (omega arith) in
        let some : room n ≡ Some n = ap (λ (b : Bool). if b then Some n else None) small in
        absurd cc
    pick false e = refl
