-- What a call that judges a group says of its answer.
use Rattle.std.specs.Prelude.{List, Option, Some, None, Result, Ok, Err}
use Rattle.cnb_toml.specs.declared.names.Key.{Key}
use Rattle.detect_core.specs.declared.chosen.Chosen.{Chosen}
use Rattle.detect_core.specs.declared.chosen.DetectEnd.{DetectEnd}
use Rattle.detect_core.specs.declared.chosen.DetectEnd.TheVariants.{NoGroup, ManyTrials, Child, Memory}
use Rattle.detect_core.specs.Detection.{Ending, TooManyTrials, FirstTrial}
use Rattle.detect_core.specs.Search.{IsChoice}

-- The answer of a group that ends the search so, or does not end it, where these buildpacks were asked. Want of memory
-- says nothing.
abbrev pub EndsGroup : Result (Option Chosen) DetectEnd → Option Ending → List Key → Type 0
EndsGroup (Ok (Some chosen)) (Some (FirstTrial place resolved group)) asked = IsChoice chosen place resolved group asked
EndsGroup (Ok (Some chosen)) (Some (TooManyTrials place)) asked = ⊥
EndsGroup (Ok (Some chosen)) None asked = ⊥
EndsGroup (Ok None) None asked = Unit {0}
EndsGroup (Ok None) (Some ending) asked = ⊥
EndsGroup (Err ManyTrials) (Some (TooManyTrials place)) asked = Unit {0}
EndsGroup (Err ManyTrials) (Some (FirstTrial place resolved group)) asked = ⊥
EndsGroup (Err ManyTrials) None asked = ⊥
EndsGroup (Err Memory) ending asked = Unit {0}
EndsGroup (Err (NoGroup erred)) ending asked = ⊥
EndsGroup (Err Child) ending asked = ⊥
