-- Steps one behind another.
use Rattle.std.proofs.Common.{◌≡◌, ◌∙◌, ℕ, List, [], ◌∷◌, ◌++◌, Option, Some, None, ap, sym, refl, append_assoc}
use Rattle.std.specs.Option.{option_map}
use Rattle.detect_record.specs.declared.parts.Step.{Step}
use Rattle.detect_record.specs.Forms.{◌>>=◌, all_steps, cut, step_in, steps_in}
use Rattle.detect_record.proofs.CutLemmas.{cut_first, cut_none}

abbrev pub onto_steps : List Step → Option (List Step) → Option (List Step)
onto_steps steps more = option_map (λ others. steps ++ others) more

by_option : (more : Option (List Step)) → more ≡ onto_steps [] more
by_option (Some steps) = refl
by_option None = refl

abbrev pub with_step : Option Step → Option (List Step) → Option (List Step)
with_step first more = first >>= λ step. more >>= λ steps. Some (step ∷ steps)

pub steps_cut : (text first rest : List ℕ) → cut 32 text ≡ Some (first, rest)
    → steps_in text ≡ with_step (step_in first) (steps_in rest)
unfolding steps_in
steps_cut text first rest e = ap all_steps (cut_first 32 text first rest e)

pub steps_whole : (text : List ℕ) → cut 32 text ≡ None → steps_in text ≡ with_step (step_in text) (Some [])
unfolding steps_in
steps_whole text e = ap all_steps (cut_none 32 text e)

no_more : (steps : List Step) (more : Option (List Step)) → onto_steps steps (with_step None more) ≡ None
no_more steps more = refl

one_more : (steps : List Step) (step : Step) (more : Option (List Step))
    → onto_steps steps (with_step (Some step) more) ≡ onto_steps (steps ++ step ∷ []) more
one_more steps step None = refl
one_more steps step (Some others) = ap Some (sym (append_assoc steps (step ∷ []) others))

-- a step in front of others is read
pub steps_next : (all : Option (List Step)) (text first rest : List ℕ) (steps after : List Step) (step : Step)
    → all ≡ onto_steps steps (steps_in text) → cut 32 text ≡ Some (first, rest) → step_in first ≡ Some step
    → after ≡ steps ++ step ∷ [] → all ≡ onto_steps after (steps_in rest)
steps_next all text first rest steps after step so_far halves read pushed =
    so_far ∙ ap (onto_steps steps) (steps_cut text first rest halves ∙ ap (λ x. with_step x (steps_in rest)) read)
    ∙ one_more steps step (steps_in rest) ∙ ap (λ x. onto_steps x (steps_in rest)) (sym pushed)

-- one that is no step is refused
pub steps_refused : (all : Option (List Step)) (text first rest : List ℕ) (steps : List Step)
    → all ≡ onto_steps steps (steps_in text) → cut 32 text ≡ Some (first, rest) → step_in first ≡ None
    → all ≡ None
steps_refused all text first rest steps so_far halves read =
    so_far ∙ ap (onto_steps steps) (steps_cut text first rest halves ∙ ap (λ x. with_step x (steps_in rest)) read)

-- the last step is read
pub steps_end : (all : Option (List Step)) (text : List ℕ) (steps after : List Step) (step : Step)
    → all ≡ onto_steps steps (steps_in text) → cut 32 text ≡ None → step_in text ≡ Some step
    → after ≡ steps ++ step ∷ [] → all ≡ Some after
steps_end all text steps after step so_far whole read pushed =
    so_far ∙ ap (onto_steps steps) (steps_whole text whole ∙ ap (λ x. with_step x (Some [])) read)
    ∙ ap Some (sym pushed)

pub steps_refused_end : (all : Option (List Step)) (text : List ℕ) (steps : List Step)
    → all ≡ onto_steps steps (steps_in text) → cut 32 text ≡ None → step_in text ≡ None → all ≡ None
steps_refused_end all text steps so_far whole read =
    so_far ∙ ap (onto_steps steps) (steps_whole text whole ∙ ap (λ x. with_step x (Some [])) read)
