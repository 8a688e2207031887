use Rattle.std.proofs.Common.{arith, ap, refl, Err}
use Rattle.tree_canon.specs.Reading.{IsBytes}
use Rattle.tree_canon.proofs.ScanFeeds.{feeds_on, feeds_fault, keeps_fault}
use Rattle.tree_canon.proofs.scan.Scan.feed.Goals as goal

pub returns-in-Some : goal.returns-in-Some
returns-in-Some c fed scans = keeps_fault c.args.self.now fed c.args.piece.now c.in-Some.fault scans c.in-Some.is

pub returns-in-Ok : goal.returns-in-Ok
returns-in-Ok c fed scans =
    let fits : IsBytes c.args.piece.now = λ i. omega (arith, c.type_inv.piece i) in
    feeds_on c.args.self.now _ fed c.args.piece.now fits scans c.in_default.is c.in_default.is c.in-Ok.ensures.runs

pub returns-in-Err : goal.returns-in-Err
returns-in-Err c fed scans =
    let fits : IsBytes c.args.piece.now = λ i. omega (arith, c.type_inv.piece i) in
    feeds_fault c.args.self.now _ fed c.args.piece.now c.in-Err.fault fits scans c.in_default.is refl
    (λ state h at reason e. c.in-Err.ensures.bad state h at reason (ap Err e))
