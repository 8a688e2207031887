-- What the machine does with a whole field, and what stands behind it.
use Rattle.std.proofs.Common.{◌≡◌, ℕ, ◌+◌, ◌<◌, ◌∙◌, List, [], ◌∷◌, ◌++◌, length, arith, refl, sym, ap, subst, Option}
use Rattle.std.proofs.Common.{Some, None, Bool, true, false, if◌then◌else◌, ◌&&◌}
use Rattle.std.specs.Prelude.{nat_lt, nat_le, ◌==◌}
use Rattle.std.specs.Int.{from_be_bytes, w16, w32, w64}
use Rattle.std.proofs.lemmas.Bool.{ltb-true, and_parts, eqb-false}
use Rattle.std.proofs.lemmas.List.{append-nil}
use Rattle.tree_canon.specs.CutTree.{OpenFolder, Hole, Magic, Tag, Count, NameLength, Name, Executable, FileLength}
use Rattle.tree_canon.specs.CutTree.{Contents, TargetLength, Target, End, CutTree, width}
use Rattle.tree_canon.specs.Rules.{reason_of, either_reason, unless, large_past, first_byte}
use Rattle.tree_canon.specs.Reading.{entry, cut_at, filled, after, Going, with_field, run}
use Rattle.tree_canon.specs.declared.node.Node.{Node}
use Rattle.tree_canon.specs.declared.node.Node.TheVariants.{Folder, File, Link}
use Rattle.tree_canon.specs.declared.fault.Reason.{Reason}
use Rattle.tree_canon.specs.declared.fault.Reason.TheVariants as reasons
use Rattle.tree_canon.proofs.Reach.{run-append, whole_field, is_whole}

choose : (b : Bool) (x y : CutTree) → (b ≡ true → 0 < width x.hole) → (b ≡ false → 0 < width y.hole)
    → 0 < width (if b then x else y).hole
choose true x y f g = f refl
choose false x y f g = g refl

filled_some : (ls : List OpenFolder) (node : Node) → 0 < width (filled ls node).hole
filled_some [] node = omega arith
filled_some (l ∷ ls) node = choose (nat_lt (length (l.before ++ entry l.name node ∷ [])) l.count)
    (cut_at ls (NameLength l.count (l.before ++ entry l.name node ∷ [])))
    (filled ls (Folder (l.before ++ entry l.name node ∷ []))) (λ e. omega arith)
    (λ e. filled_some ls (Folder (l.before ++ entry l.name node ∷ [])))

pub none_parts : (a b : Option Reason) → either_reason a b ≡ None → b ≡ None
none_parts None b e = e
none_parts (Some r) b e = absurd cc

none_ok : (b : Bool) (r : Reason) → unless b r ≡ None → b ≡ true
none_ok true r e = refl
none_ok false r e = absurd cc

pub len_some : (at most : ℕ) (f : List ℕ) (r : Reason) → either_reason (large_past at)
    (unless (nat_lt 0 (from_be_bytes w16 f) && nat_le (from_be_bytes w16 f) most) r) ≡ None
    → 0 < from_be_bytes w16 f
len_some at most f r h = ltb-true 0 (from_be_bytes w16 f)
    (and_parts (nat_lt 0 (from_be_bytes w16 f)) (nat_le (from_be_bytes w16 f) most)
    (none_ok _ r (none_parts (large_past at) _ h))).0

pub positive : (n : ℕ) → (n ≡ 0 → ⊥) → 0 < n
positive n not0 = omega arith

after_some : (depth at : ℕ) (ls : List OpenFolder) (hole : Hole) (f : List ℕ) → reason_of depth at hole f ≡ None
    → 0 < width (after ls hole f).hole
after_some depth at ls (Magic k) f h = choose (nat_lt k 4) (cut_at ls (Magic (k + 1))) (cut_at ls Tag)
    (λ e. omega arith) (λ e. omega arith)
after_some depth at ls Tag f h = choose (first_byte f == 68) (cut_at ls Count)
    (if first_byte f == 70 then cut_at ls Executable else cut_at ls TargetLength) (λ e. omega arith)
    (λ e. choose (first_byte f == 70) (cut_at ls Executable) (cut_at ls TargetLength) (λ d. omega arith)
    (λ d. omega arith))
after_some depth at ls Count f h = choose (nat_lt 0 (from_be_bytes w32 f))
    (cut_at ls (NameLength (from_be_bytes w32 f) [])) (filled ls (Folder [])) (λ e. omega arith)
    (λ e. filled_some ls (Folder []))
after_some depth at ls (NameLength count before) f h = len_some (at + 2 + from_be_bytes w16 f) 255 f reasons.Name
    (none_parts (large_past (at + 2)) _ h)
after_some depth at ls (Name count before len) f h = omega arith
after_some depth at ls Executable f h = omega arith
after_some depth at ls (FileLength exec) f h = choose (from_be_bytes w64 f == 0) (filled ls (File exec []))
    (cut_at ls (Contents exec (from_be_bytes w64 f))) (λ e. filled_some ls (File exec []))
    (λ e. let no : from_be_bytes w64 f ≡ 0 → ⊥ = eqb-false (from_be_bytes w64 f) 0 e
    in positive (from_be_bytes w64 f) no)
after_some depth at ls (Contents exec len) f h = filled_some ls (File exec f)
after_some depth at ls TargetLength f h = len_some (at + 2 + from_be_bytes w16 f) 4096 f reasons.Name
    (none_parts (large_past (at + 2)) _ h)
after_some depth at ls (Target len) f h = filled_some ls (Link f)
after_some depth at ls (End node) f h = omega arith

pub some_after : (depth at : ℕ) (ls us : List OpenFolder) (hole next : Hole) (f : List ℕ)
    → reason_of depth at hole f ≡ None → cut_at us next ≡ after ls hole f → 0 < width next
some_after depth at ls us hole next f h is = subst (λ (c : CutTree). 0 < width c.hole) (sym is)
    (after_some depth at ls hole f h)

-- a whole field that came in two parts
pub over_field : (at : ℕ) (c : CutTree) (part front back : List ℕ) → length part < width c.hole
    → length (part ++ front) ≡ width c.hole → run (Going at c part) (front ++ back)
    ≡ run (with_field at c (part ++ front)) back
over_field at c part [] back lt is = absurd (omega (arith, ap length (append-nil part)))
over_field at c part (b ∷ bs) back lt is =
    run-append (Going at c part) (b ∷ bs) back ∙ ap (λ s. run s back)
    (whole_field at c part b bs is ∙ sym (is_whole at c (part ++ b ∷ bs) is))
