-- What the words of `drill` ask for.
use Rattle.std.specs.Prelude.{ℕ, ◌<◌, List, [], ◌∷◌, Option, Some, None}
use Rattle.cnb_words.specs.OptionValues.{◌>>=◌}
use Rattle.cnb_words.specs.Values.{number_in}
use Rattle.cnb_words.specs.declared.drill.DrillWords.{DrillWords}

abbrev pub drill_of : List ℕ → Option DrillWords
drill_of word = do
  number ← number_in 0 4095 word
  Some (record { number = number })

-- one word, which is a number from 0 to 4,095
abbrev pub drill_in : List (List ℕ) → Option DrillWords
drill_in [] = None
drill_in (word ∷ []) = drill_of word
drill_in (word ∷ next ∷ words) = None

-- a number of four digits to the base 8
pub record KeepsLimits (words : DrillWords) : Type 0 where
  pub number : words.number < 4096
