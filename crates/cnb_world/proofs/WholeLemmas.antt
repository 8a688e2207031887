-- What had to stand for a whole write, and what a refused one leaves.
use Rattle.std.proofs.Common.{◌≡◌, ℕ, ◌<◌, Bool, true, false, cond, List, [], ◌∷◌, ◌&&◌, Ok, refl, sym, ap, subst, ◌∙◌}
use Rattle.std.proofs.Common.{Option, Some, None, IsTrue, length, take, inl, inr}
use Rattle.std.specs.Prelude.{IfSome}
use Rattle.std.specs.Option.{option_map}
use Rattle.std.specs.FinMap.{insert}
use Rattle.cnb_world.specs.declared.world.Item.TheVariants.{Folder, File}
use Rattle.cnb_world.specs.Calls.{AppendsSome, CountsMisuse}
use Rattle.cnb_world.specs.Path.{parent_of, beside}
use Rattle.cnb_world.specs.Tree.{Tree, item_at, is_root, is_file, is_folder, is_file_or_absent, can_make_folder}
use Rattle.cnb_world.specs.Tree.{can_create, can_rename, created, appended, folder_made}
use Rattle.cnb_world.specs.Whole.{Unbegun, FolderMade, PartBeside, can_reach, can_write, left_of, LeavesPart}
use Rattle.cnb_world.proofs.Parents.{both_true}
use Rattle.cnb_world.proofs.Trees.{appended-created, made}
use Rattle.cnb_world.proofs.Folders.{get-folder_made_longer, length-parent_of, parent_shorter, item_at-insert_shorter}
use Rattle.cnb_world.proofs.Folders.{longer_beside, created_after, three}

-- a call that was answered found what it has to find
needed : {T : Type 0} (x : T) (v : Bool) (b c : ℕ) → CountsMisuse (Some v) (Ok x) b c → v ≡ true
needed x true b c h = refl
needed x false b c h = absurd h

-- the same of what stood before earlier calls that made `step` of the tree
needed_before : {T : Type 0} (x : T) (now whole : Tree → Bool) (step : Tree → Tree)
    → ((t : Tree) → now (step t) ≡ true → whole t ≡ true)
    → (o o1 : Option Tree) (b c : ℕ) → o1 ≡ option_map step o → CountsMisuse (option_map now o1) (Ok x) b c
    → IfSome o (λ t. IsTrue (whole t))
needed_before x now whole step back None o1 b c e h = tt
needed_before x now whole step back (Some t) o1 b c e h =
    back t (needed x (now (step t)) b c (subst (λ o. CountsMisuse (option_map now o) (Ok x) b c) e h))

same_tree : (o : Option Tree) → o ≡ option_map (λ t. t) o
same_tree None = refl
same_tree (Some t) = refl

back_create : (p : List ℕ) (t : Tree) → can_create (folder_made (parent_of p) t) (beside p) ≡ true
    → is_file_or_absent (item_at t (beside p)) ≡ true
back_create p t h =
    sym (ap (λ v. is_file_or_absent (cond (is_root (beside p)) (Some Folder) v))
    (get-folder_made_longer (parent_of p) (beside p) t (length-parent_of p)))
    ∙ (both_true (is_file_or_absent (item_at (folder_made (parent_of p) t) (beside p))) _ h).0

back_rename : (p bytes : List ℕ) (t : Tree) → 1 < length p
    → can_rename (appended (beside p) bytes (created (beside p) false (folder_made (parent_of p) t))) (beside p) p
    ≡ true → is_file_or_absent (item_at t p) ≡ true
back_rename p bytes t long h =
    sym (ap is_file_or_absent (item_at-insert_shorter (folder_made (parent_of p) t) (beside p)
    (File false bytes) p (longer_beside p)
    ∙ ap (cond (is_root p) (Some Folder)) (get-folder_made_longer (parent_of p) p t (parent_shorter p long))))
    ∙ (second (is_file (item_at after (beside p))) (is_file_or_absent (item_at after p))
    (is_folder (item_at after (parent_of p)))
    (ap (λ w. can_rename w (beside p) p) (sym (appended-created (beside p) bytes false
    (folder_made (parent_of p) t))) ∙ h))
  where
    after : Tree
    after = insert (folder_made (parent_of p) t) (beside p) (File false bytes)

    second : (a b c : Bool) → (a && b && c) ≡ true → b ≡ true
    second true true c e = refl
    second true false c e = absurd (cc)
    second false b c e = absurd (cc)

-- the calls of a whole write that were answered: the folder's, that of the file beside, and the renaming
module _ {T : Type 0} (x : T) (p q : List ℕ) (o : Option Tree) (is_parent : q ≡ parent_of p) where
  pub folder_fits : (b c : ℕ) → CountsMisuse (option_map (λ t. can_make_folder t q) o) (Ok x) b c
      → IfSome o (λ t. IsTrue (can_make_folder t (parent_of p)))
  folder_fits b c h =
      needed_before x (λ t. can_make_folder t q) (λ t. can_make_folder t (parent_of p)) (λ t. t)
      (λ t e. ap (can_make_folder t) (sym is_parent) ∙ e) o o b c (same_tree o) h

  module _ (u : List ℕ) (o1 : Option Tree) (is_beside : u ≡ beside p) (e1 : o1 ≡ option_map (folder_made q) o) where
    pub beside_fits : (b c : ℕ) → CountsMisuse (option_map (λ t. can_create t u) o1) (Ok x) b c
        → IfSome o (λ t. IsTrue (is_file_or_absent (item_at t (beside p))))
    beside_fits b c h =
        needed_before x (λ t. can_create t u) (λ t. is_file_or_absent (item_at t (beside p)))
        (folder_made (parent_of p))
        (λ t e. back_create p t (ap (can_create (folder_made (parent_of p) t)) (sym is_beside) ∙ e)) o o1 b c
        (made q p o o1 is_parent e1) h

    module _ (bytes : List ℕ) (o2 o3 : Option Tree) (e2 : o2 ≡ option_map (created u false) o1)
        (e3 : o3 ≡ option_map (appended u bytes) o2) where
      all_three : (o : Option Tree) → option_map (appended (beside p) bytes)
          (option_map (λ t. created (beside p) false (folder_made (parent_of p) t)) o)
          ≡ option_map (λ t. appended (beside p) bytes (created (beside p) false (folder_made (parent_of p) t))) o
      all_three None = refl
      all_three (Some t) = refl

      pub path_fits : (b c : ℕ) → 1 < length p → CountsMisuse (option_map (λ t. can_rename t u p) o3) (Ok x) b c
          → IfSome o (λ t. IsTrue (is_file_or_absent (item_at t p)))
      path_fits b c long h =
          needed_before x (λ t. can_rename t u p) (λ t. is_file_or_absent (item_at t p))
          (λ t. appended (beside p) bytes (created (beside p) false (folder_made (parent_of p) t)))
          (λ t e. back_rename p bytes t long (ap (λ v. can_rename
          (appended (beside p) bytes (created (beside p) false (folder_made (parent_of p) t))) v p)
          (sym is_beside) ∙ e))
          o o3 b c
          (e3 ∙ ap (λ v. option_map (appended v bytes) o2) is_beside
          ∙ ap (option_map (appended (beside p) bytes))
          (created_after p q u o o1 o2 is_parent is_beside e1 e2) ∙ all_three o)
          h

pub all_fit : (p : List ℕ) (o : Option Tree) → IfSome o (λ t. IsTrue (can_make_folder t (parent_of p)))
    → IfSome o (λ t. IsTrue (is_file_or_absent (item_at t (beside p))))
    → IfSome o (λ t. IsTrue (is_file_or_absent (item_at t p))) → IfSome o (λ t. IsTrue (can_write p t))
all_fit p None folder besides path = tt
all_fit p (Some t) folder besides path =
    three (is_file_or_absent (item_at t p)) (is_file_or_absent (item_at t (beside p)))
    (can_make_folder t (parent_of p)) path besides folder

-- ---- what a refused write leaves

both_fit : (p : List ℕ) (count : ℕ) (o : Option Tree) → IfSome o (λ t. IsTrue (can_make_folder t (parent_of p)))
    → IfSome o (λ t. IsTrue (is_file_or_absent (item_at t (beside p))))
    → IfSome o (λ t. IsTrue (can_reach (PartBeside count) p t))
both_fit p count None folder besides = tt
both_fit p count (Some t) folder besides = ap (λ v. v && is_file_or_absent (item_at t (beside p))) folder ∙ besides

pub unbegun : (o o1 : Option Tree) (p bytes : List ℕ) → o1 ≡ o → LeavesPart o o1 p bytes
unbegun o o1 p bytes e = (Unbegun, always o, e ∙ same_tree o)
  where
    always : (o : Option Tree) → IfSome o (λ t. IsTrue (can_reach Unbegun p t))
    always None = tt
    always (Some t) = refl

pub folder_left : (o o1 o2 : Option Tree) (p q bytes : List ℕ) → q ≡ parent_of p
    → IfSome o (λ t. IsTrue (can_make_folder t (parent_of p))) → o1 ≡ option_map (folder_made q) o → o2 ≡ o1
    → LeavesPart o o2 p bytes
folder_left o o1 o2 p q bytes is_parent fits e1 e2 = (FolderMade, fits, e2 ∙ made q p o o1 is_parent e1)

-- a file was made beside, and its first bytes were added
part_left : (o : Option Tree) (p bytes part : List ℕ) (count : ℕ) → part ≡ take count bytes
    → option_map (appended (beside p) part) (option_map
    (λ t. created (beside p) false (folder_made (parent_of p) t)) o)
    ≡ option_map (left_of (PartBeside count) p bytes) o
part_left None p bytes part count e = refl
part_left (Some t) p bytes part count e =
    ap Some (appended-created (beside p) part false (folder_made (parent_of p) t)
    ∙ ap (λ v. insert (folder_made (parent_of p) t) (beside p) (File false v)) e)

none_left : (o : Option Tree) (p bytes : List ℕ) → option_map
    (λ t. created (beside p) false (folder_made (parent_of p) t)) o
    ≡ option_map (left_of (PartBeside 0) p bytes) o
none_left None p bytes = refl
none_left (Some t) p bytes = ap (λ v. Some (insert (folder_made (parent_of p) t) (beside p) (File false v)))
    (no_bytes bytes)
  where
    no_bytes : (bs : List ℕ) → [] ≡ take 0 bs
    no_bytes [] = refl
    no_bytes (b ∷ bs) = refl

take_all : (bytes : List ℕ) → bytes ≡ take (length bytes) bytes
take_all [] = refl
take_all (b ∷ bs) = ap (λ r. b ∷ r) (take_all bs)

module _ (o o1 o2 : Option Tree) (p q u bytes : List ℕ) (is_parent : q ≡ parent_of p) (is_beside : u ≡ beside p)
    (e1 : o1 ≡ option_map (folder_made q) o) (e2 : o2 ≡ option_map (created u false) o1)
    (folder : IfSome o (λ t. IsTrue (can_make_folder t (parent_of p))))
    (besides : IfSome o (λ t. IsTrue (is_file_or_absent (item_at t (beside p))))) where
  begun : o2 ≡ option_map (λ t. created (beside p) false (folder_made (parent_of p) t)) o
  begun = created_after p q u o o1 o2 is_parent is_beside e1 e2

  with_part : (o3 : Option Tree) (part : List ℕ) (count : ℕ) → part ≡ take count bytes
      → o3 ≡ option_map (appended u part) o2 → LeavesPart o o3 p bytes
  with_part o3 part count first e = (
    PartBeside count,
    both_fit p count o folder besides,
    e ∙ ap (λ v. option_map (appended v part) o2) is_beside ∙ ap (option_map (appended (beside p) part)) begun
        ∙ part_left o p bytes part count first,
  )

  -- by a refused append, and by a refused renaming
  pub left_by_append : (o3 : Option Tree) → AppendsSome o2 o3 u bytes → LeavesPart o o3 p bytes
  left_by_append o3 (inl same) = (PartBeside 0, both_fit p 0 o folder besides, same ∙ begun ∙ none_left o p bytes)
  left_by_append o3 (inr (can, count, less, e)) = with_part o3 (take count bytes) count refl e

  pub left_by_rename : (o3 o4 : Option Tree) → o3 ≡ option_map (appended u bytes) o2 → o4 ≡ o3 → LeavesPart o o4 p bytes
  left_by_rename o3 o4 e same = with_part o4 bytes (length bytes) (take_all bytes) (same ∙ e)
