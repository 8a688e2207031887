-- The patterns of the `slices` of a `launch.toml` (buildpack.md, "launch.toml (TOML)").
use Rattle.std.specs.Prelude.{ℕ, ◌≡◌, ◌++◌, chars, List, [], ◌∷◌, Result, Ok, Err}
use Rattle.app_slices.specs.Slots.{Slices}
use Rattle.app_slices.specs.Spelling.{IsNoPattern, Spells}
use Rattle.app_slices.specs.declared.item.Item.{Item}
use Rattle.steps.specs.Causes.{IsGivenCause, WhereDecided}
use Rattle.steps.specs.Each.{for_each}
use Rattle.steps.specs.Outside.{Seen}
use Rattle.steps.specs.Steps.{◌>>=◌, gives}
use Rattle.cnb_layers.specs.declared.fault.ExportFault.{ExportFault}
use Rattle.cnb_layers.specs.declared.fault.ExportFault.TheVariants.{BadPattern}
use Rattle.cnb_layers.specs.Refusals.{cause_of}

-- a text is these items, and no others
abbrev pub IsPattern : List ℕ → List Item → Type 0
IsPattern text items = Spells items (chars text) × ((other : List Item) → Spells other (chars text) → other ≡ items)

-- what a text is read as: its items; or, where no items are spelled so, it is refused, with its buildpack
abbrev pub IsRead : List ℕ → List ℕ → Result (List Item) ExportFault → Type 0
IsRead id text (Ok items) = IsPattern text items
IsRead id text (Err fault) =
    IsGivenCause (cause_of fault)
    × WhereDecided (cause_of fault) ((fault ≡ BadPattern id text) × IsNoPattern (chars text))

-- a text is read, which costs nothing but memory
unfoldable pub reads_pattern : List ℕ → List ℕ → Seen → Result (List Item) ExportFault → Seen → Type 0
reads_pattern id text old result new = (new ≡ old) × IsRead id text result

unfoldable pub adds_pattern : List ℕ → List ℕ → List (List Item) → Seen → Result (List (List Item)) ExportFault → Seen
    → Type 0
adds_pattern id text patterns = do
  pattern ← reads_pattern id text
  gives cause_of (Ok (patterns ++ pattern ∷ []))

-- the patterns of one slice, in order
abbrev pub reads_patterns : List ℕ → List (List ℕ) → Seen → Result (List (List Item)) ExportFault → Seen → Type 0
reads_patterns id texts = for_each (adds_pattern id) texts []

unfoldable pub adds_slice : List ℕ → List (List ℕ) → Slices → Seen → Result Slices ExportFault → Seen → Type 0
adds_slice id texts slices = do
  patterns ← reads_patterns id texts
  gives cause_of (Ok (slices ++ patterns ∷ []))

-- the slices of a buildpack, in order: the first text that is no pattern is refused
abbrev pub reads_slices : List ℕ → List (List (List ℕ)) → Seen → Result Slices ExportFault → Seen → Type 0
reads_slices id slices = for_each (adds_slice id) slices []
