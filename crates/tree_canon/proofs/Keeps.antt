-- What the machine has read is a sound cut tree.
use Rattle.std.proofs.Common.{◌≡◌, ℕ, suc, ◌+◌, ◌^◌, ◌≤◌, ◌<◌, ◌∙◌, List, [], ◌∷◌, ◌++◌, length, arith, refl, sym, ap}
use Rattle.std.proofs.Common.{subst, append_assoc, false, Bool, if◌then◌else◌, true, ◌&&◌, ◌||◌, w16, w32, w64}
use Rattle.std.proofs.Common.{length-append, Option, Some, None, ◌⊎◌, inl, inr}
use Rattle.std.specs.Prelude.{nat_lt, nat_le, ◌==◌}
use Rattle.std.specs.Int.{to_be_bytes, from_be_bytes}
use Rattle.std.proofs.lemmas.Bool.{lt-ltb, le-leb, ltb-true, ltb-false, leb-true, eqb-true, eqb-false, and_parts}
use Rattle.std.proofs.lemmas.Bool.{and_from}
use Rattle.std.proofs.lemmas.List.{append-nil}
use Rattle.std.proofs.lemmas.Nat.{be_bytes_2, be_bytes_4, be_bytes_8}
use Rattle.tree_canon.specs.Spelling.{limit, node_bytes, entry_bytes, entries_bytes, folder_head, name_bytes}
use Rattle.tree_canon.specs.Fits.{Fitting, fits, entries_fit, name_fits}
use Rattle.tree_canon.specs.Names.{is_name, is_target, follows}
use Rattle.tree_canon.specs.CutTree.{OpenFolder, Hole, Tag, Count, NameLength, Name, Executable, FileLength, Contents}
use Rattle.tree_canon.specs.CutTree.{TargetLength, Target, CutTree, last_from, last_name, open_folders_bytes}
use Rattle.tree_canon.specs.CutTree.{open_folder_bytes, cut_bytes, width}
use Rattle.tree_canon.specs.Rules.{reason_of, either_reason, unless, large_past, first_byte}
use Rattle.tree_canon.specs.Reading.{IsBytes}
use Rattle.tree_canon.specs.Reading.{entry, cut_at, filled, opened, after}
use Rattle.tree_canon.specs.Division.{FolderFits, OpenFoldersFit, IsSound}
use Rattle.tree_canon.specs.declared.node.Node.{Node}
use Rattle.tree_canon.specs.declared.node.Named.{Named}
use Rattle.tree_canon.specs.declared.node.Node.TheVariants.{Folder, File, Link}
use Rattle.tree_canon.specs.declared.fault.Reason.{Reason}
use Rattle.tree_canon.specs.declared.fault.Reason.TheVariants as reasons
use Rattle.tree_canon.proofs.Equations.{node_bytes_folder, node_bytes_file, node_bytes_link, entry_bytes_is}
use Rattle.tree_canon.proofs.Equations.{fits_folder, fits_file, fits_link, fits_named}
use Rattle.tree_canon.proofs.Nodes.{fits_cons}

-- the next cut tree is sound, and its bytes are these and a field
pub record Keeps (c : CutTree) (bytes : List ℕ) : Type 0 where
  pub sound : IsSound c
  pub is : cut_bytes c ≡ bytes

pub first_parts : (a b : Option Reason) → either_reason a b ≡ None → (a ≡ None) × (b ≡ None)
first_parts None b e = (refl, e)
first_parts (Some r) b e = absurd cc

pub ok_true : (b : Bool) (r : Reason) → unless b r ≡ None → b ≡ true
ok_true true r e = refl
ok_true false r e = absurd cc

pub within_le : (n : ℕ) → large_past n ≡ None → n ≤ limit
within_le n e = leb-true n limit (ok_true (nat_le n limit) reasons.Large e)

choose : (b : Bool) (P : CutTree → Type 0) (x y : CutTree) → (b ≡ true → P x) → (b ≡ false → P y)
    → P (if b then x else y)
choose true P x y f g = f refl
choose false P x y f g = g refl

fits_make : (last : Option (List ℕ)) (e : Named) (es : List Named) (depth : ℕ) → name_fits last e.name ≡ true
    → fits e.node depth ≡ true → entries_fit (Some e.name) es depth ≡ true
    → entries_fit last (e ∷ es) depth ≡ true
fits_make last e es depth p q r =
    ap (λ (f : Fitting). name_fits last f.0 && (f.1 depth && entries_fit (Some f.0) es depth)) (fits_named e)
    ∙ and_from (name_fits last e.name) _ p (and_from (fits e.node depth) _ q r)

pub entries_fit_push : (last : Option (List ℕ)) (es : List Named) (e : Named) (depth : ℕ)
    → entries_fit last es depth ≡ true → name_fits (last_from last es) e.name ≡ true → fits e.node depth ≡ true
    → entries_fit last (es ++ e ∷ []) depth ≡ true
entries_fit_push last [] e depth h p q = fits_make last e [] depth p q refl
entries_fit_push last (x ∷ xs) e depth h p q =
    let parts = fits_cons last x xs depth h in
    fits_make last x (xs ++ e ∷ []) depth parts.0 parts.1 (entries_fit_push (Some x.name) xs e depth parts.2 p q)

entries_push : (es : List Named) (e : Named) → entries_bytes (es ++ e ∷ []) ≡ entries_bytes es ++ entry_bytes e
entries_push [] e = append-nil (entry_bytes e)
entries_push (x ∷ xs) e = ap (λ b. entry_bytes x ++ b) (entries_push xs e)
    ∙ sym (append_assoc (entry_bytes x) (entries_bytes xs) (entry_bytes e))

-- the level's bytes and a node are the folder's with one more entry
level_push : (count : ℕ) (before : List Named) (name : List ℕ) (node : Node)
    → folder_head count ++ entries_bytes (before ++ entry name node ∷ [])
    ≡ (folder_head count ++ (entries_bytes before ++ name_bytes name)) ++ node_bytes node
level_push count before name node =
    ap (λ b. folder_head count ++ b) (entries_push before (entry name node)
    ∙ ap (λ b. entries_bytes before ++ b) (entry_bytes_is (entry name node))
    ∙ sym (append_assoc (entries_bytes before) (name_bytes name) (node_bytes node)))
    ∙ sym (append_assoc (folder_head count) (entries_bytes before ++ name_bytes name) (node_bytes node))

pub filled_keeps : (ls : List OpenFolder) (node : Node) → OpenFoldersFit ls → fits node (length ls) ≡ true
    → length (open_folders_bytes ls ++ node_bytes node) ≤ limit
    → Keeps (filled ls node) (open_folders_bytes ls ++ node_bytes node)
filled_keeps [] node ok fit size = record {
  sound = record
      { folders = tt; hole = (fit, refl); size = omega arith };
  is = refl;
}
filled_keeps (l ∷ ls) node ok fit size =
    let all : List Named = l.before ++ entry l.name node ∷ [] in
    let more : length l.before < l.count = ok.0.folder.more in
    let few : l.count < 2 ^ 32 = ok.0.folder.few in
    let deep : length ls ≤ 64 = ok.0.folder.deep in
    let len : length (l.before ++ entry l.name node ∷ []) ≡ length l.before + 1 = omega
    (arith, length-append l.before (entry l.name node ∷ [])) in
    let entries : entries_fit None (l.before ++ entry l.name node ∷ []) (suc (length ls))
    ≡ true = entries_fit_push None l.before (entry l.name node)
    (suc (length ls)) ok.0.folder.entries ok.0.name fit in
    let same : open_folders_bytes ls ++ (folder_head l.count
    ++ entries_bytes (l.before ++ entry l.name node ∷ [])) ≡ open_folders_bytes (l ∷ ls) ++ node_bytes node
    = ap (λ b. open_folders_bytes ls ++ b) (level_push l.count l.before l.name node)
    ∙ sym (append_assoc (open_folders_bytes ls) (open_folder_bytes l) (node_bytes node)) in
    choose (nat_lt (length (l.before ++ entry l.name node ∷ [])) l.count)
    (λ c. Keeps c (open_folders_bytes (l ∷ ls) ++ node_bytes node))
    (cut_at ls (NameLength l.count (l.before ++ entry l.name node ∷ [])))
    (filled ls (Folder (l.before ++ entry l.name node ∷ [])))
    (λ e. record {
      sound = record {
        folders = ok.1;
        hole = record
            { deep = deep; more = ltb-true _ _ e; few = few; entries = entries };
        size = omega
            (arith, ap length same);
      };
      is = same;
    })
    (λ e.
    let full : l.count ≡ length (l.before ++ entry l.name node ∷ []) = omega (arith, ltb-false _ _ e) in
    let whole : open_folders_bytes ls ++ node_bytes (Folder (l.before ++ entry l.name node ∷ []))
    ≡ open_folders_bytes (l ∷ ls) ++ node_bytes node
    = ap (λ b. open_folders_bytes ls ++ b) (node_bytes_folder (l.before ++ entry l.name node ∷ [])
    ∙ ap (λ n. folder_head n ++ entries_bytes (l.before ++ entry l.name node ∷ [])) (sym full)) ∙ same in
    let fit' : fits (Folder (l.before ++ entry l.name node ∷ [])) (length ls) ≡ true
    = fits_folder (l.before ++ entry l.name node ∷ []) (length ls)
    ∙ and_from _ _ (le-leb _ _ deep) (and_from _ _ (lt-ltb _ _ (omega arith)) entries) in
    subst (λ b. Keeps (filled ls (Folder (l.before ++ entry l.name node ∷ []))) b) whole
    (filled_keeps ls (Folder (l.before ++ entry l.name node ∷ [])) ok.1 fit' (omega (arith, ap length whole))))

-- ---- one field at each kind of hole

abbrev one_byte : (b : ℕ) (f : List ℕ) → Type 0
one_byte b f = f ≡ b ∷ []

pub single : (f : List ℕ) → length f ≡ 1 → f ≡ first_byte f ∷ []
single [] len = absurd (omega arith)
single (b ∷ []) len = refl
single (b ∷ c ∷ rest) len = absurd (omega arith)

or_left : (a b : Bool) → (a || b) ≡ true → a ≡ false → b ≡ true
or_left true b h e = absurd cc
or_left false b h e = h

or_false : (a b : Bool) → a ≡ false → b ≡ false → (a || b) ≡ false
or_false true b e f = absurd cc
or_false false b e f = f

or_right : (a b : Bool) → (a || b) ≡ true → b ≡ false → a ≡ true
or_right true b h e = refl
or_right false b h e = absurd cc

cases_bool : (b : Bool) → (b ≡ true) ⊎ (b ≡ false)
cases_bool true = inl refl
cases_bool false = inr refl

-- what a reason_of field passed
pub passed_size : (depth at : ℕ) (hole : Hole) (f : List ℕ) → reason_of depth at hole f ≡ None → at + width hole ≤ limit
passed_size depth at hole f h = within_le (at + width hole) (first_parts (large_past (at + width hole)) _ h).0

flag_is : (b : ℕ) → (b == 0 || b == 1) ≡ true → (if b == 1 then 1 else 0) ≡ b
flag_is b h = elim (cases_bool (b == 1)) [
  | inl e ↦ ap (λ (x : Bool). if x then 1 else 0) e ∙ sym (eqb-true b 1 e)
  | inr e ↦ ap (λ (x : Bool). if x then 1 else 0) e ∙ sym (eqb-true b 0 (or_right (b == 0) (b == 1) h e))
]

some_from : (n : ℕ) → (n == 0) ≡ false → 0 < n
some_from n e = let no : n ≡ 0 → ⊥ = eqb-false n 0 e in omega arith

module _ (ls : List OpenFolder) (ok : OpenFoldersFit ls) (at : ℕ) (f : List ℕ) (bytes : IsBytes f) where
  pub keeps_tag : at ≡ length (open_folders_bytes ls) → length f ≡ 1 → reason_of (length ls) at Tag f ≡ None
      → Keeps (after ls Tag f) (open_folders_bytes ls ++ f)
  keeps_tag place len h =
      let rules = first_parts (large_past (at + 1))
      (either_reason (unless (nat_le (length ls) 64) reasons.Deep)
      (unless (first_byte f == 68 || first_byte f == 70 || first_byte f == 76) reasons.Tag)) h in
      let room : at + 1 ≤ limit = within_le (at + 1) rules.0 in
      let two = first_parts (unless (nat_le (length ls) 64) reasons.Deep)
      (unless (first_byte f == 68 || first_byte f == 70 || first_byte f == 76) reasons.Tag) rules.1 in
      let deep : length ls ≤ 64 = leb-true _ _ (ok_true (nat_le (length ls) 64) reasons.Deep two.0) in
      let one : (first_byte f == 68 || first_byte f == 70 || first_byte f == 76) ≡ true = ok_true _ reasons.Tag two.1 in
      let size : (b : ℕ) → length (open_folders_bytes ls ++ b ∷ []) + 0
      ≤ limit = λ (b : ℕ). omega (arith, length-append (open_folders_bytes ls) (b ∷ [])) in
      let is : (b : ℕ) → first_byte f ≡ b → open_folders_bytes ls ++ b ∷ [] ≡ open_folders_bytes ls
      ++ f = λ (b : ℕ) (e : first_byte f ≡ b). ap (λ x. open_folders_bytes ls ++ x)
      (ap (λ n. n ∷ []) (sym e) ∙ sym (single f len)) in
      choose (first_byte f == 68) (λ c. Keeps c (open_folders_bytes ls ++ f)) (cut_at ls Count)
      (if first_byte f == 70 then cut_at ls Executable else cut_at ls TargetLength)
      (λ e. record { sound = record { folders = ok; hole = deep; size = size 68 }; is = is 68 (eqb-true _ _ e) })
      (λ e. choose (first_byte f == 70) (λ c. Keeps c (open_folders_bytes ls ++ f)) (cut_at ls Executable)
      (cut_at ls TargetLength)
      (λ d. record { sound = record { folders = ok; hole = deep; size = size 70 }; is = is 70 (eqb-true _ _ d) })
      (λ d. record {
        sound = record { folders = ok; hole = deep; size = size 76 };
        is = is 76
            (eqb-true (first_byte f) 76 (or_left (first_byte f == 68 || first_byte f == 70) (first_byte f == 76) one
            (or_false (first_byte f == 68) (first_byte f == 70) e d)));
      }))

  opened_keeps : (n : ℕ) → length ls ≤ 64 → n < 2 ^ 32 → length (open_folders_bytes ls ++ folder_head n) ≤ limit
      → Keeps (opened ls n []) (open_folders_bytes ls ++ folder_head n)
  opened_keeps n deep few size =
      choose (nat_lt 0 n) (λ c. Keeps c (open_folders_bytes ls ++ folder_head n)) (cut_at ls (NameLength n []))
      (filled ls (Folder []))
      (λ e. record {
        sound = record {
          folders = ok;
          hole = record
              { deep = deep; more = ltb-true _ _ e; few = few; entries = refl };
          size = omega arith;
        };
        is = refl;
      })
      (λ e.
      let none : n ≡ 0 = omega (arith, ltb-false _ _ e) in
      let same : open_folders_bytes ls ++ node_bytes (Folder []) ≡ open_folders_bytes ls
      ++ folder_head n = ap (λ b. open_folders_bytes ls ++ b)
      (node_bytes_folder [] ∙ ap (λ k. folder_head k) (sym none)) in
      subst (λ b. Keeps (filled ls (Folder [])) b) same
      (filled_keeps ls (Folder []) ok (fits_folder [] (length ls)
      ∙ and_from _ _ (le-leb _ _ deep) (and_from _ _ (lt-ltb 0 (2 ^ 32) (omega arith)) refl))
      (omega (arith, ap length same))))

  pub keeps_count : at ≡ length (open_folders_bytes ls ++ 68 ∷ []) → length f ≡ 4 → length ls ≤ 64
      → reason_of (length ls) at Count f ≡ None → Keeps (after ls Count f)
      ((open_folders_bytes ls ++ 68 ∷ []) ++ f)
  keeps_count place len deep h =
      let room : at + 4 ≤ limit = passed_size (length ls) at Count f h in
      let back : to_be_bytes w32 (from_be_bytes w32 f) ≡ f = be_bytes_4 f _ len bytes refl in
      let same : open_folders_bytes ls ++ folder_head (from_be_bytes w32 f) ≡ (open_folders_bytes ls ++ 68 ∷ []) ++ f
      = ap (λ b. open_folders_bytes ls ++ 68 ∷ b) back ∙ sym (append_assoc (open_folders_bytes ls) (68 ∷ []) f) in
      subst (λ b. Keeps (opened ls (from_be_bytes w32 f) []) b) same
      (opened_keeps (from_be_bytes w32 f) deep (omega (arith, bytes 0, bytes 1, bytes 2, bytes 3))
      (omega (arith, ap length same, length-append (open_folders_bytes ls ++ 68 ∷ []) f)))

  pub keeps_name_len : (count : ℕ) (before : List Named) → at
      ≡ length (open_folders_bytes ls ++ (folder_head count ++ entries_bytes before)) → length f ≡ 2
      → FolderFits (length ls) count before → reason_of (length ls) at (NameLength count before) f ≡ None
      → Keeps (after ls (NameLength count before) f)
      ((open_folders_bytes ls ++ (folder_head count ++ entries_bytes before)) ++ f)
  keeps_name_len count before place len folder h =
      let n : ℕ = from_be_bytes w16 f in
      let back : to_be_bytes w16 (from_be_bytes w16 f) ≡ f = be_bytes_2 f _ len bytes refl in
      let rules = first_parts (large_past (at + 2)) _ h in
      let two = first_parts (large_past (at + 2 + from_be_bytes w16 f))
      (unless (nat_lt 0 (from_be_bytes w16 f) && nat_le (from_be_bytes w16 f) 255) reasons.Name) rules.1 in
      let room : at + 2 + from_be_bytes w16 f ≤ limit = within_le _ two.0 in
      let sizes = and_parts _ _ (ok_true (nat_lt 0 (from_be_bytes w16 f) && nat_le (from_be_bytes w16 f) 255)
      reasons.Name two.1) in
      let some : 0 < from_be_bytes w16 f = ltb-true 0 (from_be_bytes w16 f) sizes.0 in
      let few : from_be_bytes w16 f ≤ 255 = leb-true (from_be_bytes w16 f) 255 sizes.1 in
      let same : open_folders_bytes ls ++ (folder_head count ++
      (entries_bytes before ++ to_be_bytes w16 (from_be_bytes w16 f)))
      ≡ (open_folders_bytes ls ++ (folder_head count ++ entries_bytes before)) ++ f
      = ap (λ b. open_folders_bytes ls ++ (folder_head count ++ (entries_bytes before ++ b))) back
      ∙ ap (λ b. open_folders_bytes ls ++ b) (sym (append_assoc (folder_head count) (entries_bytes before) f))
      ∙ sym (append_assoc (open_folders_bytes ls) (folder_head count ++ entries_bytes before) f) in
      record {
        sound = record {
          folders = ok;
          hole = (folder, some, few);
          size = omega (
            arith,
            ap length same,
            length-append (open_folders_bytes ls
                ++ (folder_head count ++ entries_bytes before)) f,
          );
        };
        is = same;
      }

  pub keeps_name : (count : ℕ) (before : List Named) (len : ℕ)
      → at ≡ length (open_folders_bytes ls ++ (folder_head count
      ++ (entries_bytes before ++ to_be_bytes w16 len))) → length f ≡ len → FolderFits (length ls) count before
      → 0 < len → len ≤ 255 → reason_of (length ls) at (Name count before len) f ≡ None
      → Keeps (after ls (Name count before len) f) ((open_folders_bytes ls
      ++ (folder_head count ++ (entries_bytes before ++ to_be_bytes w16 len))) ++ f)
  keeps_name count before len place is folder some few h =
      let room : at + len ≤ limit = passed_size (length ls) at (Name count before len) f h in
      let rules = first_parts (large_past (at + len)) _ h in
      let two = first_parts (unless (is_name f) reasons.Name)
      (unless (follows (last_name before) f) reasons.Order) rules.1 in
      let fine : name_fits (last_name before) f ≡ true = and_from _ _ (ok_true _ _ two.0) (ok_true _ _ two.1) in
      let same : open_folders_bytes ls ++ (folder_head count ++ (entries_bytes before ++ name_bytes f))
      ≡ (open_folders_bytes ls ++ (folder_head count ++ (entries_bytes before ++ to_be_bytes w16 len))) ++ f
      = ap (λ k. open_folders_bytes ls ++ (folder_head count ++ (entries_bytes before ++ (to_be_bytes w16 k ++ f)))) is
      ∙ ap (λ b. open_folders_bytes ls ++ (folder_head count ++ b))
      (sym (append_assoc (entries_bytes before) (to_be_bytes w16 len) f))
      ∙ ap (λ b. open_folders_bytes ls ++ b) (sym (append_assoc (folder_head count)
      (entries_bytes before ++ to_be_bytes w16 len) f))
      ∙ sym (append_assoc (open_folders_bytes ls) (folder_head count
      ++ (entries_bytes before ++ to_be_bytes w16 len)) f) in
      record {
        sound = record {
          folders = (record { folder = folder; name = fine }, ok);
          hole = tt;
          size = omega (
            arith,
            ap length same,
            length-append (open_folders_bytes ls
                ++ (folder_head count ++ (entries_bytes before ++ to_be_bytes w16 len))) f,
          );
        };
        is = same;
      }

  pub keeps_exec : at ≡ length (open_folders_bytes ls ++ 70 ∷ []) → length f ≡ 1 → length ls ≤ 64
      → reason_of (length ls) at Executable f ≡ None → Keeps (after ls Executable f)
      ((open_folders_bytes ls ++ 70 ∷ []) ++ f)
  keeps_exec place len deep h =
      let room : at + 1 ≤ limit = passed_size (length ls) at Executable f h in
      let one : (first_byte f == 0 || first_byte f == 1) ≡ true = ok_true
      (first_byte f == 0 || first_byte f == 1) reasons.Exec
      (first_parts (large_past (at + 1)) (unless (first_byte f == 0 || first_byte f == 1) reasons.Exec) h).1
      in
      let flag : (if first_byte f == 1 then 1 else 0) ≡ first_byte f = flag_is (first_byte f) one in
      let same : open_folders_bytes ls ++ (70 ∷ (if first_byte f == 1 then 1 else 0) ∷ [])
      ≡ (open_folders_bytes ls ++ 70 ∷ []) ++ f
      = ap (λ b. open_folders_bytes ls ++ 70 ∷ b) (ap (λ n. n ∷ []) flag ∙ sym (single f len))
      ∙ sym (append_assoc (open_folders_bytes ls) (70 ∷ []) f) in
      record {
        sound = record {
          folders = ok;
          hole = deep;
          size = omega
              (arith, ap length same, length-append (open_folders_bytes ls ++ 70 ∷ []) f);
        };
        is = same;
      }

  pub keeps_file_len : (exec : Bool) → at ≡ length (open_folders_bytes ls ++ (70 ∷ (if exec then 1 else 0) ∷ []))
      → length f ≡ 8 → length ls ≤ 64 → reason_of (length ls) at (FileLength exec) f ≡ None
      → Keeps (after ls (FileLength exec) f) ((open_folders_bytes ls ++ (70 ∷ (if exec then 1 else 0) ∷ [])) ++ f)
  keeps_file_len exec place len deep h =
      let back : to_be_bytes w64 (from_be_bytes w64 f) ≡ f = be_bytes_8 f _ len bytes refl in
      let rules = first_parts (large_past (at + 8)) (large_past (at + 8 + from_be_bytes w64 f)) h in
      let room : at + 8 + from_be_bytes w64 f ≤ limit = within_le _ rules.1 in
      let head : List ℕ = 70 ∷ (if exec then 1 else 0) ∷ [] in
      let same : open_folders_bytes ls ++ (70 ∷ (if exec then 1 else 0) ∷ to_be_bytes w64 (from_be_bytes w64 f))
      ≡ (open_folders_bytes ls ++ (70 ∷ (if exec then 1 else 0) ∷ [])) ++ f
      = ap (λ b. open_folders_bytes ls ++ 70 ∷ (if exec then 1 else 0) ∷ b) back
      ∙ sym (append_assoc (open_folders_bytes ls) (70 ∷ (if exec then 1 else 0) ∷ []) f) in
      let total = length-append (open_folders_bytes ls ++ (70 ∷ (if exec then 1 else 0) ∷ [])) f in
      choose (from_be_bytes w64 f == 0) (λ c. Keeps c
      ((open_folders_bytes ls ++ (70 ∷ (if exec then 1 else 0) ∷ [])) ++ f)) (filled ls (File exec []))
      (cut_at ls (Contents exec (from_be_bytes w64 f)))
      (λ e.
      let none : from_be_bytes w64 f ≡ 0 = eqb-true _ _ e in
      let whole : open_folders_bytes ls ++ node_bytes (File exec [])
      ≡ (open_folders_bytes ls ++ (70 ∷ (if exec then 1 else 0) ∷ [])) ++ f
      = ap (λ b. open_folders_bytes ls ++ b) (node_bytes_file exec []
      ∙ append-nil (70 ∷ (if exec then 1 else 0) ∷ to_be_bytes w64 0)
      ∙ ap (λ k. 70 ∷ (if exec then 1 else 0) ∷ to_be_bytes w64 k) (sym none)) ∙ same in
      subst (λ b. Keeps (filled ls (File exec [])) b) whole
      (filled_keeps ls (File exec []) ok (fits_file exec [] (length ls) ∙ le-leb _ _ deep)
      (omega (arith, ap length whole, total))))
      (λ e. record {
        sound = record {
          folders = ok;
          hole = (deep, some_from (from_be_bytes w64 f) e);
          size = omega
              (arith, ap length same, total);
        };
        is = same;
      })

  pub keeps_contents : (exec : Bool) (len : ℕ) → at ≡ length
      (open_folders_bytes ls ++ (70 ∷ (if exec then 1 else 0) ∷ to_be_bytes w64 len)) → length f ≡ len
      → length ls ≤ 64 → reason_of (length ls) at (Contents exec len) f ≡ None
      → Keeps (after ls (Contents exec len) f) ((open_folders_bytes ls
      ++ (70 ∷ (if exec then 1 else 0) ∷ to_be_bytes w64 len)) ++ f)
  keeps_contents exec len place is deep h =
      let room : at + len ≤ limit = passed_size (length ls) at (Contents exec len) f h in
      let whole : open_folders_bytes ls ++ node_bytes (File exec f)
      ≡ (open_folders_bytes ls ++ (70 ∷ (if exec then 1 else 0) ∷ to_be_bytes w64 len)) ++ f
      = ap (λ b. open_folders_bytes ls ++ b) (node_bytes_file exec f
      ∙ ap (λ k. (70 ∷ (if exec then 1 else 0) ∷ to_be_bytes w64 k) ++ f) is)
      ∙ sym (append_assoc (open_folders_bytes ls) (70 ∷ (if exec then 1 else 0) ∷ to_be_bytes w64 len) f) in
      subst (λ b. Keeps (filled ls (File exec f)) b) whole
      (filled_keeps ls (File exec f) ok (fits_file exec f (length ls) ∙ le-leb _ _ deep)
      (omega (
        arith,
        ap length whole,
        length-append
            (open_folders_bytes ls ++ (70 ∷ (if exec then 1 else 0) ∷ to_be_bytes w64 len)) f,
      )))

  pub keeps_target_len : at ≡ length (open_folders_bytes ls ++ 76 ∷ []) → length f ≡ 2 → length ls ≤ 64
      → reason_of (length ls) at TargetLength f ≡ None → Keeps (after ls TargetLength f)
      ((open_folders_bytes ls ++ 76 ∷ []) ++ f)
  keeps_target_len place len deep h =
      let back : to_be_bytes w16 (from_be_bytes w16 f) ≡ f = be_bytes_2 f _ len bytes refl in
      let rules = first_parts (large_past (at + 2)) _ h in
      let two = first_parts (large_past (at + 2 + from_be_bytes w16 f))
      (unless (nat_lt 0 (from_be_bytes w16 f) && nat_le (from_be_bytes w16 f) 4096) reasons.Name) rules.1 in
      let room : at + 2 + from_be_bytes w16 f ≤ limit = within_le _ two.0 in
      let sizes = and_parts _ _ (ok_true (nat_lt 0 (from_be_bytes w16 f) && nat_le (from_be_bytes w16 f) 4096)
      reasons.Name two.1) in
      let some : 0 < from_be_bytes w16 f = ltb-true 0 (from_be_bytes w16 f) sizes.0 in
      let few : from_be_bytes w16 f ≤ 4096 = leb-true (from_be_bytes w16 f) 4096 sizes.1 in
      let same : open_folders_bytes ls ++ (76 ∷ to_be_bytes w16 (from_be_bytes w16 f))
      ≡ (open_folders_bytes ls ++ 76 ∷ []) ++ f
      = ap (λ b. open_folders_bytes ls ++ 76 ∷ b) back ∙ sym (append_assoc (open_folders_bytes ls) (76 ∷ []) f) in
      record {
        sound = record {
          folders = ok;
          hole = (deep, some, few);
          size = omega
              (arith, ap length same, length-append (open_folders_bytes ls ++ 76 ∷ []) f);
        };
        is = same;
      }

  pub keeps_target : (len : ℕ) → at ≡ length (open_folders_bytes ls ++ (76 ∷ to_be_bytes w16 len))
      → length f ≡ len → length ls ≤ 64 → 0 < len → len ≤ 4096 → reason_of (length ls) at (Target len) f ≡ None
      → Keeps (after ls (Target len) f) ((open_folders_bytes ls ++ (76 ∷ to_be_bytes w16 len)) ++ f)
  keeps_target len place is deep some few h =
      let room : at + len ≤ limit = passed_size (length ls) at (Target len) f h in
      let form : is_target f ≡ true = ok_true (is_target f) reasons.Name
      (first_parts (large_past (at + len)) (unless (is_target f) reasons.Name) h).1 in
      let whole : open_folders_bytes ls ++ node_bytes (Link f)
      ≡ (open_folders_bytes ls ++ (76 ∷ to_be_bytes w16 len)) ++ f
      = ap (λ b. open_folders_bytes ls ++ b) (node_bytes_link f ∙ ap (λ k. (76 ∷ to_be_bytes w16 k) ++ f) is)
      ∙ sym (append_assoc (open_folders_bytes ls) (76 ∷ to_be_bytes w16 len) f) in
      subst (λ b. Keeps (filled ls (Link f)) b) whole (filled_keeps ls (Link f) ok
      (fits_link f (length ls) ∙ and_from _ _ (le-leb _ _ deep) form)
      (omega (arith, ap length whole, length-append (open_folders_bytes ls ++ (76 ∷ to_be_bytes w16 len)) f)))
