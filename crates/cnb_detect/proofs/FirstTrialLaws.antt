-- What follows from what `detect` comes to, and from nothing else.
use Rattle.std.proofs.Common.{◌≡◌, ◌∙◌, sym, ap, subst, ℕ, Bool, List, Option, Some, Result, Ok, Err}
use Rattle.std.specs.Prelude.{IfSome}
use Rattle.cnb_words.specs.declared.choice.ChoiceWords.{ChoiceWords}
use Rattle.cnb_world.specs.Runs.{Ran}
use Rattle.cnb_world.specs.Tree.{Tree}
use Rattle.cnb_world.specs.declared.env.Variable.{Variable}
use Rattle.detect_core.specs.Detection.{first_trial, has_erred}
use Rattle.steps.specs.Outside.{Outside, SpawnerSeen}
use Rattle.steps.specs.Results.{and_then}
use Rattle.cnb_detect.specs.Choice.{Choice, choice_by, choice_of}
use Rattle.cnb_detect.specs.Documents.{WritesChoice}
use Rattle.cnb_detect.specs.FirstTrial.{DetectsFirstTrial, HasNoTrial, IsFirstTrial, WritesFirstTrial}
use Rattle.cnb_detect.specs.Outcome.{ChoosesFirst, ComesTo, detect_choice, prepared_in}
use Rattle.cnb_detect.specs.declared.preparation.Prepared.{Prepared}
use Rattle.cnb_detect.specs.declared.refusal.DetectRefusal.{DetectRefusal}
use Rattle.cnb_detect.specs.declared.refusal.DetectRefusal.TheVariants.{NoGroup}
use Rattle.cnb_detect.specs.declared.target.TargetSource.{TargetSource}

if_told : (o : Option Tree) (files : Tree) (P : Tree → Type 0) → o ≡ Some files → IfSome o P → P files
if_told o files P told h = let known : IfSome (Some files) P = subst (λ v. IfSome v P) told h in known

same_choice : (one other : Choice) → (let made : Result Choice DetectRefusal = Ok one in made) ≡ Ok other
    → one ≡ other
same_choice one other e = cc

module _ (source : TargetSource) (options : ChoiceWords) (env : List Variable) (files : Tree) where
  pub is_first_trial : (told : Option Tree) (old new : List SpawnerSeen) (end : Result Choice DetectRefusal)
      → told ≡ Some files → ChoosesFirst source options env told old new end
      → IsFirstTrial source options env files old new end
  unfolding choice_of
  is_first_trial told old new end is h = record {
    prepared = h.prepared;
    made_for = h.made_for;
    read = if_told told files (λ tree. prepared_in source options env tree ≡ Ok h.prepared) is h.read;
    answers = h.answers;
    asked = h.asked;
    exactly = h.exactly;
    decides = λ finished by. ap (λ s. choice_by (has_erred h.prepared.frame.target s h.prepared.catalog
        h.prepared.order) (first_trial s h.prepared.catalog h.prepared.order))
        (h.any_order h.prepared.frame.target finished by) ∙ sym h.first;
  }

  -- the choice of the answers that are known is that of the files
  chosen_by : (prepared : Prepared) (answers : List Ran) (choice : Choice)
      → prepared_in source options env files ≡ Ok prepared
      → detect_choice source options env answers files ≡ Ok choice → choice_of prepared answers ≡ Ok choice
  unfolding detect_choice
  chosen_by prepared answers choice read is = sym (ap (λ p. and_then p (λ q. choice_of q answers)) read) ∙ is

  writes_first_trial : (old new : Outside) (text : List ℕ) → old.world.files ≡ Some files
      → ComesTo source options env old (Ok text) new
      → WritesFirstTrial source options env files old text new
  writes_first_trial old new text told comes =
      let first = is_first_trial old.world.files old.spawners new.spawners (Ok comes.first.0) told comes.first.2 in
      let both = comes.written in
      let is = chosen_by first.prepared comes.answers both.0 first.read (if_told old.world.files files
      (λ tree. detect_choice source options env comes.answers tree ≡ Ok both.0) told both.1) in
      let same = same_choice both.0 comes.first.0 (sym is ∙ first.decides comes.answers comes.asked) in
      record {
        choice = comes.first.0;
        first = first;
        told = comes.first.1;
        documents = subst (λ c. WritesChoice options.work c old.world.files new.world.files) same both.2;
      }

  has_no_trial : (old new : Outside) (erred : Bool) → old.world.files ≡ Some files
      → ComesTo source options env old (Err (NoGroup erred)) new
      → HasNoTrial source options env files old erred new
  has_no_trial old new erred told comes = record {
    first = is_first_trial old.world.files old.spawners new.spawners (Err (NoGroup erred)) told comes.first;
    same = comes.kept;
  }

pub detects_first_trial : DetectsFirstTrial
detects_first_trial source options env old new files told = (
  λ text comes. writes_first_trial source options env files old new text told comes,
  λ erred comes. has_no_trial source options env files old new erred told comes,
)
