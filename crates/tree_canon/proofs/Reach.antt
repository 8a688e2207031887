-- The machine reaches each cut tree that is sound.
use Rattle.std.proofs.Common.{◌≡◌, ℕ, ◌+◌, ◌^◌, ◌≤◌, ◌<◌, ◌∙◌, List, [], ◌∷◌, ◌++◌, length, arith, refl, ap, subst}
use Rattle.std.proofs.Common.{append_assoc, Bool, if◌then◌else◌, true, ◌||◌, w16, w32, Option, None, Some}
use Rattle.std.proofs.Common.{length-append}
use Rattle.std.specs.Prelude.{nat_le, ◌==◌}
use Rattle.std.specs.Int.{to_be_bytes, from_be_bytes}
use Rattle.std.proofs.lemmas.Bool.{lt-ltb, le-ltb, le-leb, and_parts, and_from}
use Rattle.std.proofs.lemmas.Nat.{from_be_bytes-to_be_bytes_2, from_be_bytes-to_be_bytes_4}
use Rattle.tree_canon.specs.Spelling.{limit, name_bytes}
use Rattle.tree_canon.specs.Fits.{name_fits}
use Rattle.tree_canon.specs.Names.{is_name, follows}
use Rattle.tree_canon.specs.Rules.{reason_of, either_reason, large_past, unless}
use Rattle.tree_canon.proofs.Texts.{name_sizes}
use Rattle.tree_canon.specs.CutTree.{OpenFolder, Hole, Tag, Count, NameLength, Name, CutTree, width, last_name}
use Rattle.tree_canon.specs.Reading.{cut_at, opened, after_tag, after, State, Going, moved, with_field, step, run}
use Rattle.tree_canon.specs.declared.node.Named.{Named}
use Rattle.tree_canon.specs.declared.fault.Reason.{Reason}
use Rattle.tree_canon.specs.declared.fault.Reason.TheVariants as reasons

pub run-append : (s : State) (a b : List ℕ) → run s (a ++ b) ≡ run (run s a) b
run-append s [] b = refl
run-append s (x ∷ a) b = run-append (step s x) a b

-- a field that isn't whole yet
pub goes_on : (at : ℕ) (c : CutTree) (field : List ℕ) → length field < width c.hole
    → with_field at c field ≡ Going at c field
goes_on at c field lt = ap (λ b. if b then Going at c field else moved at c field
    (reason_of (length c.folders) at c.hole field)) (lt-ltb _ _ lt)

pub is_whole : (at : ℕ) (c : CutTree) (field : List ℕ) → length field ≡ width c.hole
    → with_field at c field ≡ moved at c field (reason_of (length c.folders) at c.hole field)
is_whole at c field is = ap (λ b. if b then Going at c field else moved at c field
    (reason_of (length c.folders) at c.hole field)) (le-ltb _ _ (omega arith))

pub whole_field : (at : ℕ) (c : CutTree) (part : List ℕ) (b : ℕ) (bs : List ℕ)
    → length (part ++ b ∷ bs) ≡ width c.hole → run (Going at c part) (b ∷ bs)
    ≡ moved at c (part ++ b ∷ bs) (reason_of (length c.folders) at c.hole (part ++ b ∷ bs))
whole_field at c part b [] is = is_whole at c (part ++ b ∷ []) is
whole_field at c part b (d ∷ bs) is =
    let same : (part ++ b ∷ []) ++ d ∷ bs ≡ part ++ b ∷ d ∷ bs = append_assoc part (b ∷ []) (d ∷ bs) in
    let len : length (part ++ b ∷ []) < width c.hole = omega
    (arith, is, length-append part (b ∷ []), length-append part (b ∷ d ∷ bs)) in
    ap (λ s. run s (d ∷ bs)) (goes_on at c (part ++ b ∷ []) len)
    ∙ whole_field at c (part ++ b ∷ []) d bs (ap length same ∙ is)
    ∙ ap (λ f. moved at c f (reason_of (length c.folders) at c.hole f)) same

-- over these bytes the machine goes from one hole to another
pub record Moves (at : ℕ) (c : CutTree) (bytes : List ℕ) (d : CutTree) : Type 0 where
  pub is : run (Going at c []) bytes ≡ Going (at + length bytes) d []

pub moves_none : (at : ℕ) (c : CutTree) → Moves at c [] c
moves_none at c = record { is = ap (λ n. Going n c []) (omega arith) }

pub moves-then : (at : ℕ) (c : CutTree) (a : List ℕ) (d : CutTree) (b : List ℕ) (e : CutTree) → Moves at c a d
    → Moves (at + length a) d b e → Moves at c (a ++ b) e
moves-then at c a d b e p q =
    let n : (at + length a) + length b ≡ at + length (a ++ b) = omega (arith, length-append a b) in
    record { is = run-append (Going at c []) a b ∙ ap (λ s. run s b) p.is ∙ q.is ∙ ap (λ m. Going m e []) n }

pub one_field : (at : ℕ) (ls : List OpenFolder) (hole : Hole) (f : List ℕ) → 0 < length f → length f ≡ width hole
    → reason_of (length ls) at hole f ≡ None → Moves at (cut_at ls hole) f (after ls hole f)
one_field at ls hole [] some len fine = absurd (omega arith)
one_field at ls hole (b ∷ bs) some len fine = record
    { is = whole_field at (cut_at ls hole) [] b bs len ∙ ap (moved at (cut_at ls hole) (b ∷ bs)) fine }

pub within_ok : (n : ℕ) → n ≤ limit → large_past n ≡ None
within_ok n h = ap (λ b. unless b reasons.Large) (le-leb n limit h)

pub first_ok : (a b : Option Reason) → a ≡ None → b ≡ None → either_reason a b ≡ None
first_ok None b e f = f
first_ok (Some r) b e f = absurd cc

pub ok_ok : (b : Bool) (r : Reason) → b ≡ true → unless b r ≡ None
ok_ok b r e = ap (λ x. unless x r) e

pub tag_moves : (at : ℕ) (ls : List OpenFolder) (tag : ℕ) → (tag == 68 || tag == 70 || tag == 76) ≡ true
    → nat_le (length ls) 64 ≡ true → at + 1 ≤ limit → Moves at (cut_at ls Tag) (tag ∷ []) (after_tag ls tag)
tag_moves at ls tag is deep fit = one_field at ls Tag (tag ∷ []) (omega arith) refl
    (first_ok _ _ (within_ok (at + 1) fit) (first_ok _ _ (ok_ok _ _ deep) (ok_ok _ _ is)))

pub count_moves : (at : ℕ) (ls : List OpenFolder) (n : ℕ) → n < 2 ^ 32 → at + 4 ≤ limit
    → Moves at (cut_at ls Count) (to_be_bytes w32 n) (opened ls n [])
count_moves at ls n lt fit =
    subst (λ k. Moves at (cut_at ls Count) (to_be_bytes w32 n) (opened ls k [])) (from_be_bytes-to_be_bytes_4 n lt)
    (one_field at ls Count (to_be_bytes w32 n) (omega arith) refl (first_ok _ _ (within_ok (at + 4) fit) refl))

judged_name_len : (depth at count : ℕ) (before : List Named) (f : List ℕ) → at + 2 + from_be_bytes w16 f ≤ limit
    → 0 < from_be_bytes w16 f → from_be_bytes w16 f ≤ 255 → reason_of depth at (NameLength count before) f ≡ None
judged_name_len depth at count before f fit some few =
    first_ok _ _ (within_ok (at + 2) (omega arith))
    (first_ok _ _ (within_ok (at + 2 + from_be_bytes w16 f) fit)
    (ok_ok _ _ (and_from _ _ (lt-ltb _ _ some) (le-leb _ _ few))))

pub name_len_moves : (at count : ℕ) (ls : List OpenFolder) (before : List Named) (n : ℕ) → 0 < n → n ≤ 255
    → at + 2 + n ≤ limit → Moves at (cut_at ls (NameLength count before)) (to_be_bytes w16 n)
    (cut_at ls (Name count before n))
name_len_moves at count ls before n some few fit =
    let same = from_be_bytes-to_be_bytes_2 n (omega arith) in
    subst (λ k. Moves at (cut_at ls (NameLength count before)) (to_be_bytes w16 n)
    (cut_at ls (Name count before k))) same
    (one_field at ls (NameLength count before) (to_be_bytes w16 n) (omega arith) refl
    (judged_name_len (length ls) at count before (to_be_bytes w16 n) (omega (arith, same))
    (omega (arith, same)) (omega (arith, same))))

abbrev pub level : ℕ → List Named → List ℕ → OpenFolder
level count before name = record { count = count; before = before; name = name }

pub name_moves : (at count : ℕ) (ls : List OpenFolder) (before : List Named) (name : List ℕ)
    → name_fits (last_name before) name ≡ true → at + length (name_bytes name) ≤ limit
    → Moves at (cut_at ls (NameLength count before)) (name_bytes name) (cut_at (level count before name ∷ ls) Tag)
name_moves at count ls before name ok fit =
    let form = and_parts (is_name name) (follows (last_name before) name) ok in
    let sizes = name_sizes name form.0 in
    let some : 0 < length name = sizes.0 in
    let few : length name ≤ 255 = sizes.1 in
    let room : at + 2 + length name ≤ limit = omega (arith, length-append (to_be_bytes w16 (length name)) name) in
    moves-then at (cut_at ls (NameLength count before)) (to_be_bytes w16 (length name))
    (cut_at ls (Name count before (length name))) name (cut_at (level count before name ∷ ls) Tag)
    (name_len_moves at count ls before (length name) some few room)
    (one_field (at + 2) ls (Name count before (length name)) name some refl
    (first_ok _ _ (within_ok (at + 2 + length name) room) (first_ok _ _ (ok_ok _ _ form.0) (ok_ok _ _ form.1))))
