use Rattle.std.proofs.Common.{◌≡◌, Err, subst}
use Rattle.tree_canon.specs.declared.fault.DecodeFault.{DecodeFault}
use Rattle.tree_canon.specs.declared.fault.DecodeFault.TheVariants as faults
use Rattle.tree_canon.specs.Scans.{ScanFeeds}
use Rattle.tree_store.proofs.Checked.{checked_on, checked_broken}
use Rattle.tree_store.proofs.checking.TreeCheck.take.Goals as goal

pub returns-in-Ok : goal.returns-in-Ok
returns-in-Ok c bytes h = checked_on c.args.self.now _ bytes c.args.piece.now (c.update.ensures bytes) c.in-Ok.ensures h

pub returns-in-Err-Bad : goal.returns-in-Err-Bad
returns-in-Err-Bad c bytes h =
    let known = c.in-Err-Bad.field-0-is in
    let is : c.in-Err-Bad.field-0 ≡ faults.Bad c.in-Err-Bad.field-0-0 c.in-Err-Bad.field-0-1 = cc in
    checked_broken c.args.self.now _ bytes c.args.piece.now c.in-Err-Bad.field-0-0 c.in-Err-Bad.field-0-1
    (c.update.ensures bytes)
    (λ fed scans. subst (λ (f : DecodeFault). ScanFeeds fed c.args.piece.now (Err f) c.feed.new.self) is
    (c.in-Err-Bad.ensures fed scans)) h
