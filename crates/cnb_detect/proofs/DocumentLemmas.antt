-- The two documents of a choice: what each write leaves at both paths.
use Rattle.std.proofs.Common.{◌≡◌, ◌∙◌, refl, ap, ℕ, ◌+◌, ◌<◌, Bool, true, false, cond, List, [], ◌∷◌, ◌++◌, length}
use Rattle.std.proofs.Common.{length-append, codes, arith, take, Option, Some, None, inl, inr}
use Rattle.std.specs.Option.{option_map}
use Rattle.std.specs.Str.{bytes_eq}
use Rattle.std.specs.FinMap.{get}
use Rattle.cnb_world.specs.declared.world.Item.{Item}
use Rattle.cnb_world.specs.declared.world.Item.TheVariants.{Folder, File}
use Rattle.cnb_world.specs.Path.{parent_of, beside, is_path, joined}
use Rattle.cnb_world.specs.Tree.{Tree, item_at, is_root, folder_made}
use Rattle.cnb_world.specs.Whole.{Progress, Unbegun, FolderMade, PartBeside, written, left_of}
use Rattle.cnb_world.proofs.Joins.{parent_of_file}
use Rattle.cnb_world.proofs.Trees.{get-insert_bytes, get-remove_bytes, get-insert_same, get-insert_other}
use Rattle.cnb_world.proofs.Trees.{bytes_eq-other}
use Rattle.cnb_world.proofs.Folders.{get-folder_made_longer}
use Rattle.doc_files.proofs.Written.{long_by, longer, no_root}
use Rattle.steps.specs.Keeping.{standing, IsOldOrNew}
use Rattle.steps.specs.Steps.{LeavesSome}
use Rattle.cnb_detect.specs.Documents.{group_document, plan_document}

-- two documents of one folder, neither of which is where the other is written before it gets its name
pub record AreApart (work group plan : List ℕ) : Type 0 where
  pub folder : parent_of group ≡ work
  pub plan_folder : parent_of plan ≡ work
  pub below : length work < length group
  pub plan_below : length work < length plan
  pub long : 1 < length group
  pub plan_long : 1 < length plan
  pub other : length group ≡ length plan + 1

length_below : (work name : List ℕ) → 0 < length name → length work < length (joined work name)
length_below work name some = by (bytes_eq work (47 ∷ []))
  where
    by : (root : Bool) → length work < length (cond root work (work ++ 47 ∷ []) ++ name)
    by true = omega (arith, some, length-append work name)
    by false = omega (arith, some, length-append (work ++ 47 ∷ []) name, length-append work (47 ∷ []))

pub apart : (work : List ℕ) → is_path work ≡ true → AreApart work (group_document work) (plan_document work)
apart work path = by (bytes_eq work (47 ∷ [])) refl
  where
    lengths : (root : Bool) → length (cond root work (work ++ 47 ∷ []) ++ codes "group.toml")
        ≡ length (cond root work (work ++ 47 ∷ []) ++ codes "plan.toml") + 1
    lengths root = omega (
      arith,
      length-append (cond root work (work ++ 47 ∷ []))
          (codes "group.toml"),
      length-append (cond root work (work ++ 47 ∷ [])) (codes "plan.toml"),
    )

    by : (root : Bool) → bytes_eq work (47 ∷ []) ≡ root → AreApart work (group_document work) (plan_document work)
    by root e = record {
      folder = parent_of_file work (codes "group.toml") path refl;
      plan_folder = parent_of_file work (codes "plan.toml") path refl;
      below = length_below work (codes "group.toml") (omega arith);
      plan_below = length_below work (codes "plan.toml") (omega arith);
      long = long_by work (codes "group.toml") (omega arith);
      plan_long = long_by work (codes "plan.toml") (omega arith);
      other = lengths (bytes_eq work (47 ∷ []));
    }

pub unlike : (q p : List ℕ) → (length q ≡ length p → ⊥) → bytes_eq q p ≡ false
unlike q p h = bytes_eq-other q p (λ e. h (ap length e))

pub at_get : (t u : Tree) (q : List ℕ) → get t q ≡ get u q → item_at t q ≡ item_at u q
at_get t u q e = ap (cond (is_root q) (Some Folder)) e

-- another path of the folder is as before
pub written_other : (t : Tree) (p q bytes : List ℕ) → (length q ≡ length p → ⊥) → (length q ≡ length p + 4 → ⊥)
    → length (parent_of p) < length q → item_at (written p bytes t) q ≡ item_at t q
written_other t p q bytes ne besides below =
    at_get _ _ q (get-insert_other _ p _ q (λ e. ne (ap length e)) ∙ get-remove_bytes _ (beside p) q
    ∙ ap (λ b. cond b None (get (folder_made (parent_of p) t) q))
    (unlike q (beside p) (λ e. besides (e ∙ longer p))) ∙ get-folder_made_longer (parent_of p) q t below)

written_same : (t : Tree) (p bytes : List ℕ) → 1 < length p → item_at (written p bytes t) p ≡ Some (File false bytes)
written_same t p bytes long = ap (λ b. cond b (Some Folder) (get (written p bytes t) p)) (no_root p long)
    ∙ get-insert_same _ p _

left_other : (progress : Progress) (bytes : List ℕ) (t : Tree) (p q : List ℕ) → (length q ≡ length p + 4 → ⊥)
    → length (parent_of p) < length q → item_at (left_of progress p bytes t) q ≡ item_at t q
left_other Unbegun bytes t p q besides below = refl
left_other FolderMade bytes t p q besides below = at_get _ _ q (get-folder_made_longer (parent_of p) q t below)
left_other (PartBeside count) bytes t p q besides below =
    at_get _ _ q (get-insert_bytes _ (beside p) _ q
    ∙ ap (λ b. cond b (Some (File false (take count bytes))) (get (folder_made (parent_of p) t) q))
    (unlike q (beside p) (λ e. besides (e ∙ longer p))) ∙ get-folder_made_longer (parent_of p) q t below)

-- the same where the tree may not be told
pub left_standing : (o o1 : Option Tree) (p q : List ℕ) (Says : List ℕ → Type 0) → (length q ≡ length p + 4 → ⊥)
    → length (parent_of p) < length q → LeavesSome p Says o o1 → standing o1 q ≡ standing o q
left_standing o o1 p q Says besides below (inl same) = ap (λ x. standing x q) same
left_standing None o1 p q Says besides below (inr (bytes, says, (progress, fits, e))) = ap (λ x. standing x q) e
left_standing (Some t) o1 p q Says besides below (inr (bytes, says, (progress, fits, e))) = ap
    (λ x. standing x q) e ∙ ap Some (left_other progress bytes t p q besides below)

other_standing : (o o1 : Option Tree) (p q bytes : List ℕ) → (length q ≡ length p → ⊥)
    → (length q ≡ length p + 4 → ⊥) → length (parent_of p) < length q → o1 ≡ option_map (written p bytes) o
    → standing o1 q ≡ standing o q
other_standing None o1 p q bytes ne besides below e = ap (λ x. standing x q) e
other_standing (Some t) o1 p q bytes ne besides below e = ap (λ x. standing x q) e
    ∙ ap Some (written_other t p q bytes ne besides below)

pub same_standing : (o o1 : Option Tree) (p bytes : List ℕ) → 1 < length p → o1 ≡ option_map (written p bytes) o
    → standing o1 p ≡ option_map (λ t. Some (File false bytes)) o
same_standing None o1 p bytes long e = ap (λ x. standing x p) e
same_standing (Some t) o1 p bytes long e = ap (λ x. standing x p) e ∙ ap Some (written_same t p bytes long)

constant : (o o1 : Option Tree) (p bytes : List ℕ) (x : Option Item) → o1 ≡ option_map (written p bytes) o
    → option_map (λ t. x) o1 ≡ option_map (λ t. x) o
constant None o1 p bytes x e = ap (option_map (λ t. x)) e
constant (Some t) o1 p bytes x e = ap (option_map (λ t. x)) e

module _ (work : List ℕ) (path : is_path work ≡ true) where
  a : AreApart work (group_document work) (plan_document work)
  a = apart work path

  group_below : (folder : List ℕ) → folder ≡ work → length folder < length (group_document work)
  group_below folder e = let same : length folder ≡ length work = ap length e in let less = a.below in omega arith

  plan_below : (folder : List ℕ) → folder ≡ work → length folder < length (plan_document work)
  plan_below folder e = let same : length folder ≡ length work = ap length e in let less = a.plan_below in omega arith

  -- the group's write was refused
  pub first_refused_group : (o o1 : Option Tree) (Reads Says : List ℕ → Type 0)
      → LeavesSome (group_document work) Says o o1 → IsOldOrNew o o1 (group_document work) Reads
  first_refused_group o o1 Reads Says h = inl (left_standing o o1 (group_document work) (group_document work) Says
      (λ e. omega (arith, e)) (group_below _ a.folder) h)

  pub first_refused_plan : (o o1 : Option Tree) (Reads Says : List ℕ → Type 0)
      → LeavesSome (group_document work) Says o o1 → IsOldOrNew o o1 (plan_document work) Reads
  first_refused_plan o o1 Reads Says h = inl (left_standing o o1 (group_document work) (plan_document work) Says
      (λ e. let more = a.other in omega (arith, e, more)) (plan_below _ a.folder) h)

  -- the plan's write was refused
  pub second_refused_group : (o o1 o2 : Option Tree) (bytes : List ℕ) (Reads Says : List ℕ → Type 0) → Reads bytes
      → o1 ≡ option_map (written (group_document work) bytes) o → LeavesSome (plan_document work) Says o1 o2
      → IsOldOrNew o o2 (group_document work) Reads
  second_refused_group o o1 o2 bytes Reads Says reads e h =
      inr (
        bytes,
        reads,
        left_standing o1 o2 (plan_document work) (group_document work) Says
            (λ x. let more = a.other in omega (arith, x, more)) (group_below _ a.plan_folder) h
            ∙ same_standing o o1 (group_document work) bytes a.long e,
      )

  pub second_refused_plan : (o o1 o2 : Option Tree) (bytes : List ℕ) (Reads Says : List ℕ → Type 0)
      → o1 ≡ option_map (written (group_document work) bytes) o → LeavesSome (plan_document work) Says o1 o2
      → IsOldOrNew o o2 (plan_document work) Reads
  second_refused_plan o o1 o2 bytes Reads Says e h =
      inl (left_standing o1 o2 (plan_document work) (plan_document work) Says (λ x. omega (arith, x))
      (plan_below _ a.plan_folder) h
      ∙ other_standing o o1 (group_document work) (plan_document work) bytes
      (λ x. let more = a.other in omega (arith, x, more)) (λ x. let more = a.other in omega (arith, x, more))
      (plan_below _ a.folder) e)

  -- both were written
  pub both_group : (o o1 o2 : Option Tree) (bytes other : List ℕ) (Reads : List ℕ → Type 0) → Reads bytes
      → o1 ≡ option_map (written (group_document work) bytes) o
      → o2 ≡ option_map (written (plan_document work) other) o1 → IsOldOrNew o o2 (group_document work) Reads
  both_group o o1 o2 bytes other Reads reads e e2 =
      inr (
        bytes,
        reads,
        other_standing o1 o2 (plan_document work) (group_document work) other
            (λ x. let more = a.other in omega (arith, x, more)) (λ x. let more = a.other in omega (arith, x, more))
            (group_below _ a.plan_folder) e2 ∙ same_standing o o1 (group_document work) bytes a.long e,
      )

  pub both_plan : (o o1 o2 : Option Tree) (bytes other : List ℕ) (Reads : List ℕ → Type 0) → Reads other
      → o1 ≡ option_map (written (group_document work) bytes) o
      → o2 ≡ option_map (written (plan_document work) other) o1 → IsOldOrNew o o2 (plan_document work) Reads
  both_plan o o1 o2 bytes other Reads reads e e2 = inr (
    other,
    reads,
    same_standing o1 o2 (plan_document work) other a.plan_long e2
        ∙ constant o o1 (group_document work) bytes (Some (File false other)) e,
  )
