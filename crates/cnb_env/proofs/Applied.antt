-- Files applied one after another.
use Rattle.std.proofs.Common.{◌≡◌, ◌∙◌, refl, sym, ap, ℕ, ◌+◌, ◌<◌, List, [], ◌∷◌, ◌++◌, length, take, get_or}
use Rattle.std.proofs.lemmas.List.{take_more}
use Rattle.cnb_world.specs.declared.env.Variable.{Variable}
use Rattle.cnb_env.specs.Apply.{each_applied}
use Rattle.cnb_env.specs.declared.files.EnvFile.{EnvFile}

each_applied-behind : (step : EnvFile → List Variable → List Variable) (files : List EnvFile) (file : EnvFile)
    (env : List Variable) → each_applied step (files ++ file ∷ []) env ≡ step file (each_applied step files env)
each_applied-behind step [] file env = refl
each_applied-behind step (first ∷ files) file env = each_applied-behind step files file (step first env)

-- one file more than the first ones
pub one_more : (step : EnvFile → List Variable → List Variable) (files : List EnvFile) (i : ℕ) (file : EnvFile)
    (env : List Variable) → i < length files → file ≡ get_or files i file
    → each_applied step (take (i + 1) files) env ≡ step file (each_applied step (take i files) env)
one_more step files i file env h e = ap (λ x. each_applied step x env)
    (take_more files i file h ∙ ap (λ x. take i files ++ x ∷ []) (sym e))
    ∙ each_applied-behind step (take i files) file env
