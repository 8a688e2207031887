-- How far a loop over the texts of several paths has come, and those of an option.
use Rattle.std.proofs.Common.{◌≡◌, ap, cond, refl, ℕ, Bool, true, false, Option, List, [], ◌∷◌}
use Rattle.cnb_words.specs.Options.{has_name, in_front}
use Rattle.cnb_words.specs.OptionValues.{paths_of}
use Rattle.cnb_words.specs.Reading.{paths_in, texts_of}
use Rattle.cnb_words.specs.Values.{path_in}
use Rattle.cnb_words.specs.declared.options.Given.{Given}
use Rattle.cnb_words.proofs.OptionLemmas.{behind}

-- with these paths done, the texts left give the whole
abbrev pub LeavesPaths : List (List ℕ) → List (List ℕ) → Option (List (List ℕ)) → Type 0
LeavesPaths done texts whole = behind done (paths_in texts) ≡ whole

-- the paths of an option are those that its texts are
pub paths_by_name : (name : List ℕ) (options : List Given) → paths_in (texts_of name options) ≡ paths_of name options
paths_by_name name [] = refl
paths_by_name name (option ∷ options) = go (has_name name option) (paths_by_name name options)
  where
    go : (b : Bool) → paths_in (texts_of name options) ≡ paths_of name options
        → paths_in (cond b (option.value ∷ texts_of name options) (texts_of name options))
        ≡ cond b (in_front (path_in option.value) (paths_of name options)) (paths_of name options)
    go true e = ap (in_front (path_in option.value)) e
    go false e = e
