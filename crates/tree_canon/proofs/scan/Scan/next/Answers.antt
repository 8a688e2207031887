use Rattle.std.proofs.Common.{arith, ap, refl, Err}
use Rattle.tree_canon.specs.Reading.{IsBytes}
use Rattle.tree_canon.proofs.ScanFeeds.{takes_on, feeds_fault, keeps_fault}
use Rattle.tree_canon.proofs.scan.Scan.next.Goals as goal

pub returns-in-Some-clause-takes : goal.returns-in-Some-clause-takes
returns-in-Some-clause-takes c fed scans = keeps_fault c.args.self.now fed c.args.input.now c.in-Some.fault scans
    c.in-Some.is

pub returns-in-Ok-clause-takes : goal.returns-in-Ok-clause-takes
returns-in-Ok-clause-takes c fed scans =
    let fits : IsBytes c.args.input.now = λ i. omega (arith, c.type_inv.input i) in
    takes_on c.args.self.now _ fed c.args.input.now c.in-Ok.step fits scans c.in_default.is c.in_default.is
    c.in-Ok.ensures.runs

pub returns-in-Ok-clause-gives : goal.returns-in-Ok-clause-gives
returns-in-Ok-clause-gives c bytes given h = record
    { unbroken = c.in_default.is; told = c.in-Ok.ensures.told bytes given h.told }

pub returns-in-Err-clause-follows : goal.returns-in-Err-clause-follows
returns-in-Err-clause-follows c bytes given h at reason e = c.in-Err.ensures.follows bytes given h.told at reason
    (ap Err (cc e))

pub returns-in-Err-clause-takes : goal.returns-in-Err-clause-takes
returns-in-Err-clause-takes c fed scans =
    let fits : IsBytes c.args.input.now = λ i. omega (arith, c.type_inv.input i) in
    feeds_fault c.args.self.now _ fed c.args.input.now c.in-Err.fault fits scans c.in_default.is refl
    (λ state h at reason e. c.in-Err.ensures.bad state h at reason (ap Err e))
