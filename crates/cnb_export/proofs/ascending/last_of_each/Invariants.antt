use Rattle.std.specs.Prelude.{◌≡◌, ℕ, List, take}
use Rattle.std.specs.FinMap as fin
use Rattle.std.specs.HashMap as hash
use Rattle.std.specs.Str.{bytes_eq}
use Rattle.cnb_export.specs.Ascending.{latest}
use Rattle.cnb_export.proofs.ascending.last_of_each.Given as goal

abbrev pub invariant-loop-row : goal.invariant-loop-row
invariant-loop-row g l = (q : List ℕ) → hash.get_by (λ k. bytes_eq q k.now) l.latest
    ≡ fin.get (latest g.T.Keyed.key_of (take l.row-index l.rows)) q
