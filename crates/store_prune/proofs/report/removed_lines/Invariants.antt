use Rattle.std.proofs.Common.{◌≡◌, string_bytes, take}
use Rattle.std.specs.Prelude.{flat_map}
use Rattle.store_prune.specs.Report.{removed_line}
use Rattle.store_prune.proofs.report.removed_lines.Given as goal

abbrev pub invariant-loop-digest : goal.invariant-loop-digest
invariant-loop-digest l = string_bytes l.text ≡ flat_map removed_line (take l.digest-index l.digests)
