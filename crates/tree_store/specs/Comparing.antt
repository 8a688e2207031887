-- What two pieces of files say, read at the same place.
use Rattle.std.specs.Prelude.{ℕ, ◌≡◌, ◌≢◌, ◌<◌, List, length}
use Rattle.tree_store.specs.declared.naming.Compared.{Compared}
use Rattle.tree_store.specs.declared.naming.Compared.TheVariants.{Other, Last, Whole}

-- they differ, or are the same; the last piece of the second file is shorter than what is read at once
abbrev pub IsCompared : List ℕ → List ℕ → Compared → Type 0
IsCompared there here Other = there ≢ here
IsCompared there here Last = (there ≡ here) × (length here < 65536)
IsCompared there here Whole = there ≡ here
