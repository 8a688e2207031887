use Rattle.std.proofs.Common.{◌≡◌, ◌++◌, string_bytes, take}
use Rattle.std.specs.Prelude.{flat_map}
use Rattle.cnb_restore.specs.Report.{cache_line}
use Rattle.cnb_restore.proofs.report.push_caches.Given as goal

abbrev pub invariant-loop-number : goal.invariant-loop-number
invariant-loop-number l = string_bytes l.text ≡ string_bytes l.initial.text
    ++ flat_map (cache_line l.told) (take l.number-index l.numbers)
