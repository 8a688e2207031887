-- Where a document is written.
use Rattle.std.proofs.Common.{◌≡◌, ℕ, ◌+◌, ◌<◌, false, cond, List, [], ◌∷◌, ◌++◌, length, arith, length-append}
use Rattle.std.specs.Str.{bytes_eq}
use Rattle.cnb_world.specs.Path.{beside, joined}
use Rattle.cnb_world.specs.Tree.{is_root}
use Rattle.cnb_world.proofs.Folders.{not_longer}

pub longer : (p : List ℕ) → length (beside p) ≡ length p + 4
longer p = length-append p (46 ∷ 110 ∷ 101 ∷ 119 ∷ [])

pub no_root : (p : List ℕ) → 1 < length p → is_root p ≡ false
no_root p h = not_longer p (47 ∷ []) h

pub long_by : (folder name : List ℕ) → 1 < length name → 1 < length (joined folder name)
long_by folder name h = omega (arith, length-append (cond (bytes_eq folder (47 ∷ [])) folder (folder ++ 47 ∷ [])) name)

pub no_root_below : (folder name : List ℕ) → 1 < length name → is_root (joined folder name) ≡ false
no_root_below folder name h = no_root (joined folder name) (long_by folder name h)
