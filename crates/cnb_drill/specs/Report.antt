-- The text of the drill.
use Rattle.std.specs.Prelude.{ℕ, ◌+◌, List, ◌++◌, codes}
use Rattle.std.specs.Fmt.{decimal}
use Rattle.cnb_drill.specs.declared.detection.Found.{Found}
use Rattle.cnb_drill.specs.Law.{found_of}

-- six lines, where groups and trials are counted from 1
abbrev pub drill_lines : Found → ℕ → List ℕ
drill_lines found bytes =
    codes "groups " ++ decimal found.groups ++ codes "\ntried " ++ decimal (found.place + 1) ++ codes "\nasked "
    ++ decimal found.asked
    ++ codes "\ntrial " ++ decimal (found.trial + 1) ++ codes " of " ++ decimal found.trials
    ++ codes "\nplan " ++ decimal found.entries ++ codes "\nlayer bytes " ++ decimal bytes ++ codes "\n"

-- the text for a number; four trees are spelled by as many bytes in all
unfoldable pub drill_text : ℕ → List ℕ
drill_text number = drill_lines (found_of number) 10486760
