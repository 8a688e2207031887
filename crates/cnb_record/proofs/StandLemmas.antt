-- The documents of a choice stand where the record is written after them.
use Rattle.std.proofs.Common.{◌≡◌, ◌∙◌, refl, sym, ap, subst, arith, ℕ, ◌+◌, ◌<◌, Bool, true, false, cond, not, ◌&&◌}
use Rattle.std.proofs.Common.{◌||◌, List, [], ◌∷◌, ◌++◌, length, codes, Option, Some, None, inl, inr}
use Rattle.std.specs.Prelude.{IfSome, IsTrue}
use Rattle.std.specs.List.{list_all, list_any}
use Rattle.std.specs.Option.{option_map}
use Rattle.std.specs.Str.{bytes_eq}
use Rattle.std.proofs.lemmas.Bool.{and_parts}
use Rattle.std.proofs.lemmas.Slice.Eq.{bytes_eq-Decides}
use Rattle.cnb_world.specs.Path.{beside, is_path, joined, parent_of}
use Rattle.cnb_world.specs.Tree.{Tree, can_make_folder, is_file_or_absent, is_folder, item_at}
use Rattle.std.specs.Prelude.{is_some}
use Rattle.cnb_world.specs.Whole.{FolderMade, PartBeside, Progress, Unbegun, can_reach, can_write, left_of, written}
use Rattle.cnb_world.specs.declared.world.Item.{Item}
use Rattle.cnb_world.specs.declared.world.Item.TheVariants.{File}
use Rattle.cnb_world.proofs.Trees.{bytes_eq-other, bytes_eq-same}
use Rattle.cnb_words.specs.RecordPath.{has_room_beside, is_of_choice, is_record_path}
use Rattle.cnb_detect.specs.Documents.{group_document, plan_document}
use Rattle.cnb_detect.proofs.DocumentLemmas.{AreApart, apart, same_standing, written_other}
use Rattle.steps.specs.Keeping.{folder_paths, is_free, standing, touched}
use Rattle.steps.specs.Steps.{LeavesSome}
use Rattle.steps.proofs.KeepingLaws.{left_free, step_at, written_free}

-- ---- paths that differ

last_byte : List ℕ → ℕ
last_byte [] = 0
last_byte (byte ∷ []) = byte
last_byte (byte ∷ next ∷ bytes) = last_byte (next ∷ bytes)

last-append : (front : List ℕ) (byte : ℕ) (bytes : List ℕ)
    → last_byte (front ++ byte ∷ bytes) ≡ last_byte (byte ∷ bytes)
unfolding last_byte
last-append [] byte bytes = refl
last-append (first ∷ []) byte bytes = refl
last-append (first ∷ second ∷ front) byte bytes = last-append (second ∷ front) byte bytes

-- a document isn't one of those that are written first
not_beside : (front : List ℕ) (byte : ℕ) (bytes path : List ℕ) → last_byte (byte ∷ bytes) ≡ 108
    → front ++ byte ∷ bytes ≡ beside path → ⊥
unfolding last_byte
not_beside front byte bytes path ends e =
    let same : 108 ≡ 119 = sym ends ∙ sym (last-append front byte bytes) ∙ ap last_byte e
    ∙ last-append path 46 (110 ∷ 101 ∷ 119 ∷ []) in
    absurd (omega (arith, same))

in_work : List ℕ → List ℕ
in_work work = cond (bytes_eq work (47 ∷ [])) work (work ++ 47 ∷ [])

pub group_beside : (work path : List ℕ) → bytes_eq (group_document work) (beside path) ≡ false
unfolding in_work last_byte
group_beside work path = bytes_eq-other (group_document work) (beside path)
    (not_beside (in_work work) 103 (codes "roup.toml") path refl)

pub plan_beside : (work path : List ℕ) → bytes_eq (plan_document work) (beside path) ≡ false
unfolding in_work last_byte
plan_beside work path = bytes_eq-other (plan_document work) (beside path)
    (not_beside (in_work work) 112 (codes "lan.toml") path refl)

none_of_four : (a b c d : Bool) → (a || b || c || d) ≡ false → (a ≡ false) × (c ≡ false)
none_of_four true b c d h = absurd (cc)
none_of_four false true c d h = absurd (cc)
none_of_four false false true d h = absurd (cc)
none_of_four false false false d h = (refl, refl)

not_true : (b : Bool) → not b ≡ true → b ≡ false
not_true true h = absurd (cc)
not_true false h = refl

turned : (path file : List ℕ) → bytes_eq path file ≡ false → bytes_eq file path ≡ false
turned path file h = bytes_eq-other file path
    (λ e. let same : bytes_eq path path ≡ false = subst (λ f. bytes_eq path f ≡ false) e h
    in absurd (let never : true ≡ false = sym (bytes_eq-same path) ∙ same in cc))

-- the record is none of the documents
module _ (work path : List ℕ) (free : IsTrue (is_record_path work path)) where
  others : (bytes_eq path (joined work (codes "group.toml")) ≡ false)
      × (bytes_eq path (joined work (codes "plan.toml")) ≡ false)
  others =
      none_of_four (bytes_eq path (joined work (codes "group.toml")))
      (bytes_eq path (joined work (codes "group.toml.new"))) (bytes_eq path (joined work (codes "plan.toml")))
      (bytes_eq path (joined work (codes "plan.toml.new")))
      (not_true (is_of_choice work path) (and_parts (has_room_beside path) (not (is_of_choice work path)) free).1)

  pub group_apart : bytes_eq (group_document work) path ≡ false
  group_apart = turned path (group_document work) others.0

  pub plan_apart : bytes_eq (plan_document work) path ≡ false
  plan_apart = turned path (plan_document work) others.1

-- ---- a file that stands

among_by : (F : List ℕ → Bool) (file path : List ℕ) (v rest : Bool) → bytes_eq file path ≡ v → (v || rest) ≡ true
    → F path ≡ true → (rest ≡ true → F file ≡ true) → F file ≡ true
among_by F file path true rest e found here later = subst (λ p. F p ≡ true)
    (sym ((bytes_eq-Decides file path).0 e)) here
among_by F file path false rest e found here later = later found

among : (F : List ℕ → Bool) (file : List ℕ) (paths : List (List ℕ)) → list_any (bytes_eq file) paths ≡ true
    → list_all F paths ≡ true → F file ≡ true
among F file [] h k = absurd (cc)
among F file (path ∷ paths) h k =
    let parts = and_parts (F path) (list_all F paths) k in
    among_by F file path (bytes_eq file path) (list_any (bytes_eq file) paths) refl h parts.0
    (λ found. among F file paths found parts.1)

-- it is no folder and something
abbrev pub IsThere : List ℕ → Tree → Type 0
IsThere file files = (is_folder (item_at files file) || not (is_some (item_at files file))) ≡ false

module _ (path file : List ℕ) (apart_from : bytes_eq file path ≡ false)
    (beside_it : bytes_eq file (beside path) ≡ false) where
  free_by : (v : Bool) → list_any (bytes_eq file) (folder_paths (parent_of path)) ≡ v
      → is_free (touched path) file ≡ not v
  free_by v e =
      ap (λ b. not (b || (bytes_eq file (beside path) || list_any (bytes_eq file)
      (folder_paths (parent_of path))))) apart_from
      ∙ ap (λ b. not (b || list_any (bytes_eq file) (folder_paths (parent_of path)))) beside_it ∙ ap not e

  -- a folder can't be made where a file stands
  never_above : (files : Tree) → IsThere file files → list_any (bytes_eq file) (folder_paths (parent_of path))
      ≡ true → can_make_folder files (parent_of path) ≡ true → ⊥
  never_above files there above made =
      let fits = among (λ p. is_folder (item_at files p) || not (is_some (item_at files p))) file
      (folder_paths (parent_of path)) above made in
      let never : true ≡ false = sym fits ∙ there in absurd (cc)

  -- it stands where another file was written
  pub stands_written : (o o1 : Option Tree) (bytes : List ℕ) → IfSome o (IsThere file)
      → IfSome o (λ files. IsTrue (can_write path files)) → o1 ≡ option_map (written path bytes) o
      → standing o1 file ≡ standing o file
  stands_written None o1 bytes there fits e = ap (λ o. standing o file) e
  stands_written (Some files) o1 bytes there fits e = by (list_any (bytes_eq file) (folder_paths (parent_of path))) refl
    where
      by : (v : Bool) → list_any (bytes_eq file) (folder_paths (parent_of path)) ≡ v
          → standing o1 file ≡ Some (item_at files file)
      by false above = step_at (Some files) o1 (written path bytes) file
          (λ t. written_free t path file bytes (free_by false above)) e
      by true above =
          absurd (never_above files there above (and_parts
          (is_file_or_absent (item_at files path) && is_file_or_absent (item_at files (beside path)))
          (can_make_folder files (parent_of path)) fits).1)

  left_by : (files : Tree) (o1 : Option Tree) (bytes : List ℕ) (progress : Progress) → IsThere file files
      → IsTrue (can_reach progress path files) → o1 ≡ Some (left_of progress path bytes files)
      → standing o1 file ≡ Some (item_at files file)
  left_by files o1 bytes progress there reach e = by (list_any (bytes_eq file) (folder_paths (parent_of path)))
      refl progress reach e
    where
      by : (v : Bool) → list_any (bytes_eq file) (folder_paths (parent_of path)) ≡ v → (p : Progress)
          → IsTrue (can_reach p path files) → o1 ≡ Some (left_of p path bytes files)
          → standing o1 file ≡ Some (item_at files file)
      by false above p r is = ap (λ o. standing o file) is ∙ ap Some
          (left_free p bytes files path file (free_by false above))
      by true above Unbegun r is = ap (λ o. standing o file) is
      by true above FolderMade r is = absurd (never_above files there above r)
      by true above (PartBeside count) r is = absurd
          (never_above files there above (and_parts (can_make_folder files (parent_of path))
          (is_file_or_absent (item_at files (beside path))) r).0)

  -- and where its writing was refused
  pub stands_refused : (o o1 : Option Tree) (Says : List ℕ → Type 0) → IfSome o (IsThere file)
      → LeavesSome path Says o o1 → standing o1 file ≡ standing o file
  stands_refused o o1 Says there (inl same) = ap (λ files. standing files file) same
  stands_refused None o1 Says there (inr (bytes, says, (progress, reach, e))) = ap (λ files. standing files file) e
  stands_refused (Some files) o1 Says there (inr (bytes, says, (progress, reach, e))) = left_by files o1 bytes
      progress there reach e

-- ---- both documents of a choice

there_as : (files : Tree) (file bytes : List ℕ) → item_at files file ≡ Some (File false bytes) → IsThere file files
there_as files file bytes is = ap (λ item. is_folder item || not (is_some item)) is

some_is : (x y : Option Item) → (let one : Option (Option Item) = Some x in one) ≡ Some y → x ≡ y
some_is x y e = cc

written_same : (files : Tree) (path bytes : List ℕ) → 1 < length path
    → item_at (written path bytes files) path ≡ Some (File false bytes)
written_same files path bytes long =
    some_is (item_at (written path bytes files) path) (Some (File false bytes))
    (same_standing (Some files) (Some (written path bytes files)) path bytes long refl)

module _ (work group plan : List ℕ) (path : is_path work ≡ true) where
  pub plan_there : (o o1 : Option Tree) → o1 ≡ option_map
      (λ files. written (plan_document work) plan (written (group_document work) group files)) o
      → IfSome o1 (IsThere (plan_document work))
  plan_there None o1 e = subst (λ v. IfSome v (IsThere (plan_document work))) (sym e) tt
  plan_there (Some files) o1 e =
      let a : AreApart work (group_document work) (plan_document work) = apart work path in
      subst (λ v. IfSome v (IsThere (plan_document work))) (sym e)
      (there_as (written (plan_document work) plan (written (group_document work) group files))
      (plan_document work) plan (written_same (written (group_document work) group files)
      (plan_document work) plan a.plan_long))

  pub group_there : (o o1 : Option Tree) → o1 ≡ option_map
      (λ files. written (plan_document work) plan (written (group_document work) group files)) o
      → IfSome o1 (IsThere (group_document work))
  group_there None o1 e = subst (λ v. IfSome v (IsThere (group_document work))) (sym e) tt
  group_there (Some files) o1 e =
      let a : AreApart work (group_document work) (plan_document work) = apart work path in
      let more : length (group_document work) ≡ length (plan_document work) + 1 = a.other in
      let folder : length (parent_of (plan_document work)) ≡ length work = ap length a.plan_folder in
      let below : length work < length (group_document work) = a.below in
      subst (λ v. IfSome v (IsThere (group_document work))) (sym e)
      (there_as (written (plan_document work) plan (written (group_document work) group files))
      (group_document work) group
      (written_other (written (group_document work) group files) (plan_document work) (group_document work) plan
      (λ same. omega arith) (λ same. omega arith) (omega arith)
      ∙ written_same files (group_document work) group a.long))
