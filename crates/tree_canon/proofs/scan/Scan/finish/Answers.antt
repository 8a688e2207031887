use Rattle.std.specs.Prelude.{min}
use Rattle.std.proofs.Common.{ap, ◌+◌, ◌∙◌}
use Rattle.tree_canon.proofs.ScanFeeds.{scan_ends_whole, scan_ends_short, scan_ends_fault, gives_tree}
use Rattle.tree_canon.proofs.scan.Scan.finish.Goals as goal

pub returns-in-Some-clause-ends : goal.returns-in-Some-clause-ends
returns-in-Some-clause-ends c fed scans = scan_ends_fault c.args.self fed c.in-Some.fault scans c.in-Some.is

pub returns-in-End-clause-ends : goal.returns-in-End-clause-ends
returns-in-End-clause-ends c fed scans = scan_ends_whole c.args.self fed scans c.in_default.is c.in-End.is

pub returns-in-End-clause-given : goal.returns-in-End-clause-given
returns-in-End-clause-given c bytes given h = gives_tree c.args.self bytes given h c.in-End.is

pub returns-clause-ends : goal.returns-clause-ends
returns-clause-ends c fed scans = scan_ends_short c.args.self fed _ scans c.in_default.is
    c.in_default-next.not-End (c.saturating_add.ensures ∙ ap
    (λ n. min (c.args.self.scanner.at + n) 18446744073709551615) c.taken.ensures)
