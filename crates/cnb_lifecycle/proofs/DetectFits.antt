-- Where the files fit `detect`, it makes no call on a path of the wrong kind, with a record and without one.
use Rattle.std.proofs.Common.{◌≡◌, ◌∙◌, refl, sym, ap, subst, ℕ, Bool, true, false, cond, not, ◌&&◌, ◌||◌, List, []}
use Rattle.std.proofs.Common.{◌∷◌, is_some, Option, Some, None, Result, Ok, Err, inl, inr, ◌⊎◌}
use Rattle.std.specs.Prelude.{IfSome, IsTrue}
use Rattle.std.specs.List.{list_all, list_any}
use Rattle.std.specs.Option.{option_map}
use Rattle.std.specs.Str.{bytes_eq}
use Rattle.std.specs.FinMap.{get, remove}
use Rattle.std.proofs.lemmas.Bool.{and_parts, and_from}
use Rattle.std.proofs.lemmas.List.Folds.{list_any-append}
use Rattle.cnb_detect.proofs.DocumentLemmas.{AreApart, apart}
use Rattle.cnb_detect.proofs.OutcomeLaws.{comes_to}
use Rattle.cnb_detect.specs.Detects.{is_fit_detect}
use Rattle.cnb_detect.specs.Documents.{can_write_choice, group_document, plan_document}
use Rattle.cnb_detect.specs.Preparation.{is_fit_preparation}
use Rattle.cnb_detect.specs.declared.refusal.DetectRefusal.{DetectRefusal}
use Rattle.cnb_detect.specs.declared.target.TargetSource.TheVariants.{Document}
use Rattle.cnb_record.proofs.RecordLaws.{comes_to_recorded}
use Rattle.cnb_record.specs.Outcome.{ComesToRecorded, WritesRecord}
use Rattle.cnb_words.specs.declared.detect.DetectWords.{DetectWords}
use Rattle.cnb_words.specs.declared.words.Asked.TheVariants.{Detect}
use Rattle.cnb_world.proofs.EffectLemmas.{same_path}
use Rattle.cnb_world.proofs.Folders.{get-with_folders}
use Rattle.cnb_world.proofs.Trees.{bytes_eq-other, bytes_eq-same, get-insert_bytes, get-remove_bytes}
use Rattle.cnb_world.specs.Calls.{MayMisuse}
use Rattle.cnb_world.specs.Path.{beside, is_path, parent_of}
use Rattle.cnb_world.specs.Tree.{Tree, can_make_folder, folder_made, folders_above, is_file_or_absent, is_folder}
use Rattle.cnb_world.specs.Tree.{is_root, is_within, item_at}
use Rattle.cnb_world.specs.Whole.{can_write, written}
use Rattle.cnb_world.specs.declared.env.Variable.{Variable}
use Rattle.cnb_world.specs.declared.world.Item.{Item}
use Rattle.cnb_world.specs.declared.world.Item.TheVariants.{File, Folder}
use Rattle.steps.specs.Keeping.{folder_paths}
use Rattle.steps.specs.Outside.{Outside}
use Rattle.tree_store.proofs.Apart.{above_within}
use Rattle.tree_store.proofs.Blames.{within_itself}
use Rattle.cnb_lifecycle.specs.Detecting.{detects_into}
use Rattle.cnb_lifecycle.specs.Fitting.{FitsDetect, FitsRecord, NoMisuse}
use Rattle.cnb_lifecycle.proofs.DetectingLemmas.{free_so}
use Rattle.cnb_lifecycle.proofs.FitSteps.{by_allows, narrow}
use Rattle.cnb_lifecycle.proofs.WordLaws.{HasPaths}

-- ---- the folders that are made

either : (a b : Bool) → (a || b) ≡ true → (a ≡ true) ⊎ (b ≡ true)
either true b h = inl refl
either false b h = inr h

neither : (a b : Bool) → (a || b) ≡ false → (a ≡ false) × (b ≡ false)
neither true b h = absurd (cc)
neither false b h = (refl, h)

-- each of them is the folder itself, or the folder lies below it
pub made_within : (folder q : List ℕ) → list_any (bytes_eq q) (folder_paths folder) ≡ true → is_within q folder ≡ true
made_within folder q h = by (either (list_any (bytes_eq q) (folders_above folder))
    (list_any (bytes_eq q) (folder ∷ [])) (sym (list_any-append (bytes_eq q) (folders_above folder) (folder ∷ []))
    ∙ h))
  where
    same : (bytes_eq q folder ≡ true) ⊎ (list_any (bytes_eq q) [] ≡ true) → is_within q folder ≡ true
    same (inl is) = subst (λ p. is_within q p ≡ true) (same_path q folder is) (within_itself q)
    same (inr never) = absurd (cc)

    by : (list_any (bytes_eq q) (folders_above folder) ≡ true) ⊎ (list_any (bytes_eq q) (folder ∷ []) ≡ true)
        → is_within q folder ≡ true
    by (inl above) = above_within folder q above
    by (inr last) = same (either (bytes_eq q folder) (list_any (bytes_eq q) []) last)

not_made : (folder q : List ℕ) → is_within q folder ≡ false → list_any (bytes_eq q) (folder_paths folder) ≡ false
not_made folder q out = by (list_any (bytes_eq q) (folder_paths folder)) refl
  where
    by : (v : Bool) → list_any (bytes_eq q) (folder_paths folder) ≡ v → v ≡ false
    by true is = sym (made_within folder q is) ∙ out
    by false is = refl

-- ---- what a document that is written leaves

-- a folder or nothing
abbrev can_be_folder : Option Item → Bool
can_be_folder found = is_folder found || not (is_some found)

file_over : (root same first made : Bool) (bytes : List ℕ) (old : Option Item) → made ≡ false
    → is_file_or_absent (cond root (Some Folder) old) ≡ true
    → is_file_or_absent (cond root (Some Folder) (cond same (Some (File false bytes))
    (cond first None (cond (made && not root) (Some Folder) old)))) ≡ true
file_over true same first made bytes old none h = h
file_over false true first made bytes old none h = refl
file_over false false true made bytes old none h = refl
file_over false false false true bytes old none h = absurd (cc)
file_over false false false false bytes old none h = h

folder_over : (root same first made : Bool) (bytes : List ℕ) (old : Option Item) → same ≡ false
    → can_be_folder (cond root (Some Folder) old) ≡ true
    → can_be_folder (cond root (Some Folder) (cond same (Some (File false bytes))
    (cond first None (cond (made && not root) (Some Folder) old)))) ≡ true
folder_over true same first made bytes old other h = h
folder_over false true first made bytes old other h = absurd (cc)
folder_over false false true made bytes old other h = refl
folder_over false false false true bytes old other h = refl
folder_over false false false false bytes old other h = h

each_stays : (F G : List ℕ → Bool) (document : List ℕ) →
    ((r : List ℕ) → bytes_eq document r ≡ false → F r ≡ true → G r ≡ true) → (paths : List (List ℕ))
    → list_any (bytes_eq document) paths ≡ false → list_all F paths ≡ true → list_all G paths ≡ true
each_stays F G document step [] none h = refl
each_stays F G document step (p ∷ ps) none h =
    let others = neither (bytes_eq document p) (list_any (bytes_eq document) ps) none in
    let parts = and_parts (F p) (list_all F ps) h in
    and_from (G p) (list_all G ps) (step p others.0 parts.0) (each_stays F G document step ps others.1 parts.1)

turned : (document r : List ℕ) → bytes_eq document r ≡ false → bytes_eq r document ≡ false
turned document r other = bytes_eq-other r document
    (λ e. let same : bytes_eq document document ≡ false = subst (λ p. bytes_eq document p ≡ false) e other
    in absurd (let never : true ≡ false = sym (bytes_eq-same document) ∙ same in cc))

module _ (document bytes : List ℕ) (t : Tree) where
  made : Tree
  made = folder_made (parent_of document) t

  get-after : (q : List ℕ) → get (written document bytes t) q
      ≡ cond (bytes_eq q document) (Some (File false bytes))
      (cond (bytes_eq q (beside document)) None (cond
      (list_any (bytes_eq q) (folder_paths (parent_of document)) && not (is_root q)) (Some Folder) (get t q)))
  unfolding made
  get-after q =
      get-insert_bytes (remove made (beside document)) document (File false bytes) q
      ∙ ap (cond (bytes_eq q document) (Some (File false bytes)))
      (get-remove_bytes made (beside document) q ∙ ap (cond (bytes_eq q (beside document)) None)
      (get-with_folders (folder_paths (parent_of document)) t q))

  -- a file or nothing stays one, where no folder is made
  file_stays : (q : List ℕ) → is_within q (parent_of document) ≡ false → is_file_or_absent (item_at t q) ≡ true
      → is_file_or_absent (item_at (written document bytes t) q) ≡ true
  file_stays q out h =
      ap (λ v. is_file_or_absent (cond (is_root q) (Some Folder) v)) (get-after q)
      ∙ file_over (is_root q) (bytes_eq q document) (bytes_eq q (beside document))
      (list_any (bytes_eq q) (folder_paths (parent_of document))) bytes (get t q)
      (not_made (parent_of document) q out) h

  -- a folder or nothing stays one, but at the document
  pub folder_stays : (q : List ℕ) → bytes_eq document q ≡ false → can_be_folder (item_at t q) ≡ true
      → can_be_folder (item_at (written document bytes t) q) ≡ true
  folder_stays q other h =
      ap (λ v. can_be_folder (cond (is_root q) (Some Folder) v)) (get-after q)
      ∙ folder_over (is_root q) (bytes_eq q document) (bytes_eq q (beside document))
      (list_any (bytes_eq q) (folder_paths (parent_of document))) bytes (get t q) (turned document q other) h

  -- a file that is apart from the document can still be written
  write_stays : (path : List ℕ) → is_within path (parent_of document) ≡ false
      → is_within (beside path) (parent_of document) ≡ false → is_within document (parent_of path) ≡ false
      → can_write path t ≡ true → can_write path (written document bytes t) ≡ true
  write_stays path here near above h =
      let outer = and_parts (is_file_or_absent (item_at t path) && is_file_or_absent (item_at t (beside path)))
      (can_make_folder t (parent_of path)) h in
      let both = and_parts (is_file_or_absent (item_at t path)) (is_file_or_absent (item_at t (beside path))) outer.0 in
      and_from _ _ (and_from _ _ (file_stays path here both.0) (file_stays (beside path) near both.1))
      (each_stays (λ r. can_be_folder (item_at t r)) (λ r. can_be_folder (item_at (written document bytes t) r))
      document folder_stays (folder_paths (parent_of path)) (not_made (parent_of path) document above)
      outer.1)

-- ---- a record behind both documents

-- both documents of a choice are written
abbrev both_written : List ℕ → List ℕ → List ℕ → Tree → Tree
both_written work group plan files = written (plan_document work) plan (written (group_document work) group files)

record_stays : (work path group plan : List ℕ) (t : Tree) → is_path work ≡ true → FitsRecord work path t
    → can_write path (both_written work group plan t) ≡ true
record_stays work path group plan t is fit =
    let a : AreApart work (group_document work) (plan_document work) = apart work is in
    let out : (folder q : List ℕ) → folder ≡ work → is_within q work ≡ false
    → is_within q folder ≡ false = λ folder q same h. subst (λ f. is_within q f ≡ false) (sym same) h in
    write_stays (plan_document work) plan (written (group_document work) group t) path
    (out _ path a.plan_folder fit.work_apart) (out _ (beside path) a.plan_folder fit.beside_apart)
    fit.plan_apart
    (write_stays (group_document work) group t path (out _ path a.folder fit.work_apart)
    (out _ (beside path) a.folder fit.beside_apart) fit.group_apart fit.written)

-- one call behind another: each is of the right kind where the files fit
behind : (Fit : Tree → Type 0) (F G : Tree → Bool) (step : Tree → Tree) → ((t : Tree) → Fit t → IsTrue (F t))
    → ((t : Tree) → Fit t → IsTrue (G (step t))) → (o o1 : Option Tree) (a b c : ℕ)
    → o1 ≡ option_map step o → MayMisuse (option_map F o) a b → MayMisuse (option_map G o1) b c
    → IfSome o (λ t. Fit t → c ≡ a)
behind Fit F G step so later None o1 a b c is first second = tt
behind Fit F G step so later (Some t) o1 a b c is first second = λ fit.
    let one : b ≡ a = subst (λ v. MayMisuse (Some v) a b) (so t fit) first in
    let told : MayMisuse (Some (G (step t))) b c = subst (λ o. MayMisuse (option_map G o) b c) is second in
    let two : c ≡ b = subst (λ v. MayMisuse (Some v) b c) (later t fit) told in
    two ∙ one

module _ (words : DetectWords) (path : List ℕ) (env : List Variable) (work : is_path words.choice.work ≡ true)
    (asked : words.proof_path ≡ Some path) where
  to_record : (t : Tree) → FitsDetect words t → FitsRecord words.choice.work path t
  to_record t fit = let at : IfSome (Some path) (λ p. FitsRecord words.choice.work p t) = subst
      (λ o. IfSome o (λ p. FitsRecord words.choice.work p t)) asked fit.record_file in at

  record_minds : (old new : Outside) (result : Result (List ℕ) DetectRefusal)
      → WritesRecord Document words.choice path env old result new
      → NoMisuse (FitsDetect words) old.world new.world
  record_minds old new result wrote =
      let both = wrote.comes.written.2 in
      behind (FitsDetect words) (is_fit_detect Document words.choice) (can_write path)
      (both_written words.choice.work both.group both.plan) (λ t fit. fit.choice)
      (λ t fit. record_stays words.choice.work path both.group both.plan t work (to_record t fit))
      old.world.files wrote.middle.world.files old.world.misused wrote.middle.world.misused new.world.misused
      both.files wrote.comes.misused wrote.misused

  recorded_minds : (old new : Outside) (result : Result (List ℕ) DetectRefusal)
      → ComesToRecorded Document words.choice path env old result new
      → NoMisuse (FitsDetect words) old.world new.world
  recorded_minds old new (Ok text) wrote = record_minds old new (Ok text) wrote
  recorded_minds old new (Err refusal) (inl comes) =
      narrow (λ t. IsTrue (is_fit_detect Document words.choice t))
      (FitsDetect words) old.world.files old.world.misused new.world.misused (λ t fit. fit.choice)
      (by_allows (is_fit_detect Document words.choice) old.world.files old.world.misused new.world.misused
      comes.misused)
  recorded_minds old new (Err refusal) (inr (inl large)) =
      narrow (λ t. IsTrue (is_fit_preparation Document words.choice t))
      (FitsDetect words) old.world.files old.world.misused new.world.misused
      (λ t fit. (and_parts (is_fit_preparation Document words.choice t)
      (can_write_choice words.choice.work t) fit.choice).0)
      (by_allows (is_fit_preparation Document words.choice) old.world.files old.world.misused new.world.misused
      large.misused)
  recorded_minds old new (Err refusal) (inr (inr wrote)) = record_minds old new (Err refusal) wrote

-- ---- the command

pub detect_minds : (proof_path : Option (List ℕ)) (words : DetectWords) (env : List Variable) (old new : Outside)
    (result : Result (List ℕ) DetectRefusal) → HasPaths (Detect words) → words.proof_path ≡ proof_path
    → detects_into proof_path words.choice env old result new → NoMisuse (FitsDetect words) old.world new.world
detect_minds None words env old new result paths is did =
    narrow (λ t. IsTrue (is_fit_detect Document words.choice t))
    (FitsDetect words) old.world.files old.world.misused new.world.misused (λ t fit. fit.choice)
    (by_allows (is_fit_detect Document words.choice) old.world.files old.world.misused new.world.misused
    (comes_to Document words.choice env paths.0 old new result did).misused)
detect_minds (Some path) words env old new result paths is did =
    recorded_minds words path env paths.0 is old new result
    (comes_to_recorded Document words.choice path env paths.0
    (free_so words.choice.work path words.proof_path is paths.1) old new result did)
