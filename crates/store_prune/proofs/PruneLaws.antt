-- What a prune removes, and what it leaves, whatever it answers.
use Rattle.std.proofs.Common.{◌≡◌, ◌∙◌, refl, sym, ap, subst, ℕ, List, [], ◌∷◌, map, Option, Some, None, Result, Ok}
use Rattle.std.proofs.Common.{Err, inl, inr}
use Rattle.std.specs.Prelude.{IfSome}
use Rattle.std.specs.Option.{option_map}
use Rattle.cnb_words.specs.declared.prune.PruneWords.{PruneWords}
use Rattle.cnb_world.specs.Memory.{all_without}
use Rattle.cnb_world.specs.Tree.{Tree}
use Rattle.steps.specs.Causes.{Cause, FileFailed, ChildFailed, OutOfMemory, Decided, IsAnswer, IsWriteCause}
use Rattle.steps.specs.Causes.{WhereDecided}
use Rattle.steps.specs.Each.{for_each}
use Rattle.steps.specs.Keeping.{standing}
use Rattle.steps.specs.Outside.{Seen}
use Rattle.steps.specs.Steps.{◌>>=◌, gives, removes, yields}
use Rattle.steps.proofs.ReadingLaws.{where_map}
use Rattle.tree_store.specs.Store.{tree_path}
use Rattle.store_prune.specs.Faults.{cause_of}
use Rattle.store_prune.specs.Prunes.{prunes, prunes_command, removes_all, removes_next, removes_trees}
use Rattle.store_prune.specs.Pruning.{KeepsNamed, KeepsOthers, KeepsWhere, PrunesPrinted, PrunesUnnamed, pruned_in}
use Rattle.store_prune.specs.Pruning.{removed_files}
use Rattle.store_prune.specs.Report.{pruned_text}
use Rattle.store_prune.specs.Surveys.{surveys}
use Rattle.store_prune.specs.declared.fault.PruneFault.{PruneFault}
use Rattle.store_prune.specs.declared.surveying.Pruned.{Pruned}
use Rattle.store_prune.proofs.RemovalLaws.{trees_gone, trees_still}
use Rattle.store_prune.proofs.SurveyLaws.{survey_tells}

-- ---- a removal is never refused by what was read

write_undecided : (path : List ℕ) (cause : Cause) (P : Type 0) → IsWriteCause path cause → WhereDecided cause P
write_undecided path (FileFailed failed) P h = tt
write_undecided path ChildFailed P h = tt
write_undecided path OutOfMemory P h = tt
write_undecided path Decided P h = absurd h

each_undecided : (P : Type 0) (paths : List (List ℕ)) (old new : Seen) (fault : PruneFault)
    → for_each removes_next paths tt old (Err fault) new → WhereDecided (cause_of fault) P
unfolding for_each yields removes ◌>>=◌
each_undecided P [] old new fault h = absurd h
each_undecided P (p ∷ ps) old new fault (inl h) = write_undecided p (cause_of fault) P h.0
each_undecided P (p ∷ ps) old new fault (inr (done, mid, h, k)) = each_undecided P ps mid new fault k

trees_undecided : (P : Type 0) (store : List ℕ) (digests : List (List ℕ)) (old new : Seen) (fault : PruneFault)
    → removes_trees store digests old (Err fault) new → WhereDecided (cause_of fault) P
unfolding removes_trees removes_all gives ◌>>=◌
trees_undecided P store digests old new fault (inl (same, is, cause)) = where_map (cause_of fault)
    (Ok (map (tree_path store) digests) ≡ Err fault) P (λ e. absurd (cc)) is
trees_undecided P store digests old new fault (inr (paths, mid, given, removed)) = each_undecided P paths mid new
    fault removed

where_so : (cause : Cause) (P : Type 0) → P → WhereDecided cause P
where_so (FileFailed path) P h = tt
where_so ChildFailed P h = tt
where_so OutOfMemory P h = tt
where_so Decided P h = h

-- where all went well, the files are those before without exactly the unnamed ones; after a refused document as before
pub pruned_so : (store : List ℕ) (old new : Seen) (result : Result Pruned PruneFault)
    → prunes store old result new → PrunesUnnamed store old.files result new.files
unfolding prunes yields ◌>>=◌
pruned_so store old new (Ok pruned) (found, mid, surveyed, (done, after, removed, (is, same))) =
    let told = survey_tells store old mid (Ok found) surveyed in
    let so : IfSome old.files (λ files. pruned_in store files ≡ Ok found)
    × (new.files ≡ option_map (all_without (removed_files store found)) old.files) = (
      told.answer,
      ap (λ s. s.files) same ∙ trees_gone store found.removed mid after done removed
          ∙ ap (option_map (all_without (removed_files store found))) told.files,
    ) in
    subst (λ (p : Pruned). PrunesUnnamed store old.files (Ok p) new.files) (sym is) so
pruned_so store old new (Err fault) (inl refused) = where_so (cause_of fault) (new.files ≡ old.files)
    (survey_tells store old new (Err fault) refused).files
pruned_so store old new (Err fault) (inr (found, mid, surveyed, inl removed)) = trees_undecided
    (new.files ≡ old.files) store found.removed mid new fault removed
pruned_so store old new (Err fault) (inr (found, mid, surveyed, inr (done, after, removed, h))) = absurd h

text_is : (text made : List ℕ) (found : Pruned) (given : Result (List ℕ) PruneFault) → text ≡ made
    → given ≡ Ok (pruned_text found) → given ≡ Ok made → text ≡ pruned_text found
text_is text made found given e f h = cc

-- the same of the command, which makes a text besides
pub command_prunes : (words : PruneWords) (old new : Seen) (result : Result (List ℕ) PruneFault)
    → prunes_command words old result new → PrunesPrinted words.store old.files result new.files
unfolding prunes_command prunes yields gives ◌>>=◌
command_prunes words old new (Ok text) (
  found,
  mid,
  surveyed,
  (made, still, (unmoved, given, cause), (done, after, removed, (is, same))),
) = (
  found,
  text_is text made found (Ok (pruned_text found)) is refl given,
  pruned_so words.store old new (Ok found) (
    found,
    mid,
    surveyed,
    (
      done,
      after,
      subst (λ (s : Seen). removes_trees words.store found.removed s (Ok done) after) unmoved removed,
      (refl, same),
    ),
  ),
)
command_prunes words old new (Err fault) (inl refused) = where_so (cause_of fault) (new.files ≡ old.files)
    (survey_tells words.store old new (Err fault) refused).files
command_prunes words old new (Err fault) (inr (found, mid, surveyed, inl (unmoved, given, cause))) =
    where_map (cause_of fault) (Ok (pruned_text found) ≡ Err fault) (new.files ≡ old.files) (λ e. absurd (cc)) given
command_prunes words old new (Err fault) (inr (found, mid, surveyed, inr (made, still, given, inl removed))) =
    trees_undecided (new.files ≡ old.files) words.store found.removed still new fault removed
command_prunes words old new (Err fault) (inr (
  found,
  mid,
  surveyed,
  inr
      (made, still, given, inr (done, after, removed, h)),
)) = absurd h

-- ---- what is left alone, whatever is answered

same_keeps : (store : List ℕ) (pruned : Result Pruned PruneFault) (o o1 : Option Tree) → o1 ≡ o
    → KeepsWhere store pruned o o1
same_keeps store (Ok pruned) o o1 e = λ path free. ap (λ files. standing files path) e
same_keeps store (Err fault) o o1 e = e

all_same : (store : List ℕ) (o o1 : Option Tree) → o1 ≡ o → KeepsNamed store o o1
all_same store None o1 e = tt
all_same store (Some files) o1 e = same_keeps store (pruned_in store files) (Some files) o1 e

but_removed : (store : List ℕ) (found : Pruned) (o o1 : Option Tree)
    → IfSome o (λ files. IsAnswer cause_of (Ok found) (pruned_in store files))
    → KeepsOthers (removed_files store found) o o1 → KeepsNamed store o o1
but_removed store found None o1 told h = tt
but_removed store found (Some files) o1 told h = subst (λ pruned. KeepsWhere store pruned (Some files) o1) (sym told) h

after_survey : (store : List ℕ) (found : Pruned) (old mid new : Seen) (result : Result (Unit {0}) PruneFault)
    → surveys store old (Ok found) mid → removes_trees store found.removed mid result new
    → KeepsNamed store old.files new.files
after_survey store found old mid new result surveyed removed =
    let told = survey_tells store old mid (Ok found) surveyed in
    but_removed store found old.files new.files told.answer
    (λ path free. trees_still path store found.removed free mid new result removed
    ∙ ap (λ files. standing files path) told.files)

pub kept_so : (store : List ℕ) (old new : Seen) (result : Result Pruned PruneFault) → prunes store old result new
    → KeepsNamed store old.files new.files
unfolding prunes yields ◌>>=◌
kept_so store old new (Ok pruned) (found, mid, surveyed, (done, after, removed, (is, same))) =
    subst (λ (s : Seen). KeepsNamed store old.files s.files) (sym same)
    (after_survey store found old mid after (Ok done) surveyed removed)
kept_so store old new (Err fault) (inl refused) = all_same store old.files new.files
    (survey_tells store old new (Err fault) refused).files
kept_so store old new (Err fault) (inr (found, mid, surveyed, inl removed)) = after_survey store found old mid new
    (Err fault) surveyed removed
kept_so store old new (Err fault) (inr (found, mid, surveyed, inr (done, after, removed, h))) = absurd h

-- the same of the command, which makes a text besides
pub command_keeps : (words : PruneWords) (old new : Seen) (result : Result (List ℕ) PruneFault)
    → prunes_command words old result new → KeepsNamed words.store old.files new.files
unfolding prunes_command yields gives ◌>>=◌
command_keeps words old new (Ok text) (
  found,
  mid,
  surveyed,
  (made, still, (unmoved, given, cause), (done, after, removed, (is, same))),
) =
    subst (λ (s : Seen). KeepsNamed words.store old.files s.files) (sym same)
    (after_survey words.store found old mid after (Ok done) surveyed
    (subst (λ (s : Seen). removes_trees words.store found.removed s (Ok done) after) unmoved removed))
command_keeps words old new (Err fault) (inl refused) = all_same words.store old.files new.files
    (survey_tells words.store old new (Err fault) refused).files
command_keeps words old new (Err fault) (inr (found, mid, surveyed, inl (unmoved, given, cause))) =
    all_same words.store old.files new.files (ap (λ s. s.files) unmoved
    ∙ (survey_tells words.store old mid (Ok found) surveyed).files)
command_keeps words old new (Err fault) (inr (
  found,
  mid,
  surveyed,
  inr
      (made, still, (unmoved, given, cause), inl removed),
)) =
    after_survey words.store found old mid new (Err fault) surveyed
    (subst (λ (s : Seen). removes_trees words.store found.removed s (Err fault) new) unmoved removed)
command_keeps words old new (Err fault) (inr (
  found,
  mid,
  surveyed,
  inr
      (made, still, given, inr (done, after, removed, h)),
)) = absurd h
