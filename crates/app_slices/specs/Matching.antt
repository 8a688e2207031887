-- How a path is matched: run by run, each between two stars, which private calls alone speak of.
use Rattle.std.specs.Prelude.{ℕ, Bool, true, false, not, ◌&&◌, ◌||◌, ◌==◌, if◌then◌else◌}
use Rattle.std.specs.Prelude.{List, [], ◌∷◌, Option, None, Some}
use Rattle.std.specs.List.{list_all}
use Rattle.app_slices.specs.declared.item.Item.{Item}
use Rattle.app_slices.specs.declared.item.Item.TheVariants.{Star, One, Class, Just}
use Rattle.app_slices.specs.Items.{takes}

abbrev pub is_star : Item → Bool
is_star Star = true
is_star One = false
is_star (Class negated ranges) = false
is_star (Just only) = false

-- items without a star, one for each character
abbrev pub is_run : List Item → Bool
is_run run = list_all (λ item. not (is_star item)) run

-- what is left of a text behind these items, one character for each
abbrev pub behind_run : List Item → List ℕ → Option (List ℕ)
behind_run [] text = Some text
behind_run (item ∷ items) [] = None
behind_run (item ∷ items) (c ∷ cs) = if takes item c then behind_run items cs else None

-- the same at the first place before the next slash where they stand
abbrev pub or_later : Option (List ℕ) → Option (List ℕ) → Option (List ℕ)
or_later (Some rest) later = Some rest
or_later None later = later

abbrev pub behind_first : List Item → List ℕ → Option (List ℕ)
behind_first run [] = behind_run run []
behind_first run (c ∷ cs) = or_later (behind_run run (c ∷ cs)) (if c == 47 then None else behind_first run cs)

abbrev pub is_end : Option (List ℕ) → Bool
is_end None = false
is_end (Some []) = true
is_end (Some (c ∷ cs)) = false

-- these items stand at the end, with no slash before them
abbrev pub ends_with : List Item → List ℕ → Bool
ends_with run [] = is_end (behind_run run [])
ends_with run (c ∷ cs) = is_end (behind_run run (c ∷ cs)) || (not (c == 47) && ends_with run cs)

-- a test holds at some place before the next slash
abbrev pub somewhere : (List ℕ → Bool) → List ℕ → Bool
somewhere test [] = test []
somewhere test (c ∷ cs) = test (c ∷ cs) || (not (c == 47) && somewhere test cs)

abbrev pub next : Item → (List ℕ → Bool) → List ℕ → Bool
next item test [] = false
next item test (c ∷ cs) = takes item c && test cs

-- whether these items match, by trying all there is
abbrev pub matched : List Item → List ℕ → Bool
matched [] [] = true
matched [] (c ∷ cs) = false
matched (Star ∷ items) text = somewhere (matched items) text
matched (One ∷ items) text = next One (matched items) text
matched (Class negated ranges ∷ items) text = next (Class negated ranges) (matched items) text
matched (Just only ∷ items) text = next (Just only) (matched items) text
