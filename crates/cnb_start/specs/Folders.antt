-- The caches that the words ask for.
use Rattle.std.specs.Prelude.{ℕ, List, [], Result, Ok, Err}
use Rattle.cnb_words.specs.Words.{asked_by, caches_asked}
use Rattle.cnb_words.specs.declared.fault.WordsFault.{WordsFault}
use Rattle.cnb_words.specs.declared.words.Asked.{Asked}

abbrev pub caches_of_asked : Result Asked WordsFault → List (List ℕ)
caches_of_asked (Ok asked) = caches_asked asked
caches_of_asked (Err fault) = []

-- the folders of the caches; words that are refused ask for none
abbrev pub caches_by : List (List ℕ) → List (List ℕ)
caches_by words = caches_of_asked (asked_by words)
