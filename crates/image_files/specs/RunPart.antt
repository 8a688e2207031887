-- What an image takes from its run image (platform.md, "exporter", "rebaser").
use Rattle.std.specs.Prelude.{ℕ, List, [], ◌∷◌, ◌++◌, codes, Option, Some, None}
use Rattle.cnb_world.specs.Env.{value_of, with_value}
use Rattle.cnb_world.specs.declared.env.Variable.{Variable}
use Rattle.image_docs.specs.By.{run_by}
use Rattle.image_docs.specs.declared.base.Base.{Base}
use Rattle.image_docs.specs.declared.row.Role.TheVariants.{Run}
use Rattle.image_docs.specs.declared.row.Row.{Row}
use Rattle.image_docs.specs.declared.run_image.RunDoc.{RunDoc}

-- the last of some digests; this one where there is none
abbrev pub top_or : List ℕ → List (List ℕ) → List ℕ
top_or other [] = other
top_or other (digest ∷ digests) = top_or digest digests

-- what is noted of a run image
abbrev pub base_of : List ℕ → RunDoc → List ℕ → Base
base_of name run other = record { name = name; top = top_or other run.rows; os = run.os; arch = run.arch }

-- a row of the run image of this name, in an image
abbrev pub run_row : List ℕ → List ℕ → Row
run_row name digest = record { role = Run; place = codes "/"; digest = digest; by = run_by name }

-- the image's own folders, and behind them what the run image has in `PATH`
abbrev pub path_value : Option (List ℕ) → List ℕ
path_value None = codes "/cnb/process:/cnb/lifecycle"
path_value (Some []) = codes "/cnb/process:/cnb/lifecycle"
path_value (Some (byte ∷ bytes)) = codes "/cnb/process:/cnb/lifecycle" ++ codes ":" ++ (byte ∷ bytes)

-- the run image's environment with the image's folders
abbrev pub image_env : List Variable → List Variable
image_env run =
    with_value (codes "PATH") (path_value (value_of run (codes "PATH")))
    (with_value (codes "CNB_LAYERS_DIR") (codes "/layers") (with_value (codes "CNB_APP_DIR") (codes "/workspace") run))
