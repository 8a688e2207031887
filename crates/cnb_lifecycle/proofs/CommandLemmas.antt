-- The command that is asked for, or why the words are refused.
use Rattle.std.proofs.Common.{◌≡◌, ◌∙◌, sym, ap, subst, Result, Ok, Err}
use Rattle.cnb_words.specs.Faults.{cause_of as words_cause_of}
use Rattle.cnb_words.specs.declared.fault.WordsFault.{WordsFault}
use Rattle.cnb_words.specs.declared.fault.WordsFault.TheVariants as words
use Rattle.cnb_words.specs.declared.words.Asked.{Asked}
use Rattle.steps.specs.Causes.{IsAnswer, IsGivenCause}
use Rattle.steps.proofs.ReadingLaws.{where_map}
use Rattle.cnb_lifecycle.specs.declared.refusal.Refusal.{Refusal}
use Rattle.cnb_lifecycle.specs.Commands.{of_words, where_served}
use Rattle.cnb_lifecycle.specs.Faults.{cause_of, of_words_fault}

pub words_refused : (fault : WordsFault) (want : Result Asked WordsFault) (api : Result (Unit {0}) Refusal)
    → IsAnswer {A = Asked} words_cause_of (Err fault) want → IsAnswer {A = Asked} cause_of
    (Err (of_words_fault fault)) (where_served (of_words want) api)
words_refused words.Usage want api h = ap (λ w. where_served (of_words w) api) h
words_refused words.Memory want api h = tt

pub words_cause : (fault : WordsFault) → IsGivenCause (cause_of (of_words_fault fault))
words_cause words.Usage = tt
words_cause words.Memory = tt

pub api_refused : (asked : Asked) (want : Result Asked WordsFault) (api : Result (Unit {0}) Refusal)
    (refusal : Refusal) → want ≡ Ok asked → IsAnswer {A = Unit {0}} cause_of (Err refusal) api
    → IsAnswer {A = Asked} cause_of (Err refusal) (where_served (of_words want) api)
api_refused asked want api refusal is h =
    subst (λ w. IsAnswer {A = Asked} cause_of (Err refusal) (where_served (of_words w) api)) (sym is)
    (where_map (cause_of refusal) (api ≡ Err refusal) (where_served (Ok asked) api ≡ Err refusal)
    (λ e. ap (where_served (Ok asked)) e) h)

pub served : (asked : Asked) (want : Result Asked WordsFault) (api : Result (Unit {0}) Refusal) (done : Unit {0})
    → want ≡ Ok asked → api ≡ Ok done → where_served (of_words want) api ≡ Ok asked
served asked want api done is on = ap (λ w. where_served (of_words w) api) is ∙ ap (where_served (Ok asked)) on
