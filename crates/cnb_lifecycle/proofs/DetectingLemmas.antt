-- What `detect` does with a record and without one, by whether one is asked for.
use Rattle.std.proofs.Common.{◌≡◌, sym, subst, ℕ, List, Option, Some, Result}
use Rattle.std.specs.Prelude.{IfSome, IsTrue}
use Rattle.cnb_words.specs.RecordPath.{is_record_path}
use Rattle.cnb_words.specs.declared.choice.ChoiceWords.{ChoiceWords}
use Rattle.cnb_world.specs.declared.env.Variable.{Variable}
use Rattle.steps.specs.Outside.{Outside}
use Rattle.cnb_lifecycle.specs.Detecting.{detects_into}
use Rattle.cnb_lifecycle.specs.Faults.{of_detect}
use Rattle.cnb_lifecycle.specs.Telling.{tells}
use Rattle.cnb_lifecycle.specs.declared.answer.Answer.{Answer}
use Rattle.cnb_lifecycle.specs.declared.answer.Answer.TheVariants.{Printed}
use Rattle.cnb_lifecycle.specs.declared.refusal.Refusal.{Refusal}

pub detects_so : (asked path : Option (List ℕ)) (choice : ChoiceWords) (env : List Variable) (old new : Outside)
    (end : Result Answer Refusal)
    → asked ≡ path → tells Printed of_detect (detects_into path choice env) old end new
    → tells Printed of_detect (detects_into asked choice env) old end new
detects_so asked path choice env old new end is h = subst
    (λ o. tells Printed of_detect (detects_into o choice env) old end new) (sym is) h

-- the path of a record that is asked for may be written
pub free_so : (work path : List ℕ) (asked : Option (List ℕ)) → asked ≡ Some path
    → IfSome asked (λ p. IsTrue (is_record_path work p)) → IsTrue (is_record_path work path)
free_so work path asked is h = subst (λ o. IfSome o (λ p. IsTrue (is_record_path work p))) is h
