use Rattle.std.proofs.Common.{arith, ap, Err}
use Rattle.tree_canon.specs.Reading.{IsBytes}
use Rattle.tree_canon.proofs.Feeds.{keeps_decoding, feeds_ok, feeds_err, feeds_divided}
use Rattle.tree_canon.proofs.decoder.Decoder.feed.Goals as goal

pub invariant_of-self : goal.invariant_of-self
invariant_of-self c =
    let fits : IsBytes c.args.piece.now = λ i. omega (arith, c.type_inv.piece i) in
    let d = c.self.inside in
    let n = c.in-Ok.ensures in
    keeps_decoding d.scanner d.building d.fault c.args.self.now c.args.piece.now fits c.self.view_is
    c.in_default.is c.self.invariant c.read.new.scanner c.read.new.building
    (record { partial = n.partial; small = n.small; owed = n.owed; made = n.made })

pub returns-in-Ok-clause-fed : goal.returns-in-Ok-clause-fed
returns-in-Ok-clause-fed c =
    let fits : IsBytes c.args.piece.now = λ i. omega (arith, c.type_inv.piece i) in
    let d = c.self.inside in
    let n = c.in-Ok.ensures in
    feeds_ok d.scanner d.building d.fault c.args.self.now c.args.piece.now fits c.self.view_is c.in_default.is
    c.self.invariant c.read.new.scanner c.read.new.building
    (record { partial = n.partial; small = n.small; owed = n.owed; made = n.made })

pub returns-in-Ok-clause-divided : goal.returns-in-Ok-clause-divided
returns-in-Ok-clause-divided c =
    let fits : IsBytes c.args.piece.now = λ i. omega (arith, c.type_inv.piece i) in
    let d = c.self.inside in
    feeds_divided d.scanner d.building d.fault c.args.self.now c.args.piece.now fits c.self.view_is
    c.in_default.is c.self.invariant

pub returns-in-Err-clause-fed : goal.returns-in-Err-clause-fed
returns-in-Err-clause-fed c =
    let fits : IsBytes c.args.piece.now = λ i. omega (arith, c.type_inv.piece i) in
    let d = c.self.inside in
    feeds_err d.scanner d.building d.fault c.args.self.now c.args.piece.now fits c.self.view_is c.in_default.is
    c.self.invariant c.in-Err.fault
    (λ state h at reason e. c.in-Err.ensures.bad state h at reason (ap Err e))

pub returns-in-Err-clause-divided : goal.returns-in-Err-clause-divided
returns-in-Err-clause-divided c =
    let fits : IsBytes c.args.piece.now = λ i. omega (arith, c.type_inv.piece i) in
    let d = c.self.inside in
    feeds_divided d.scanner d.building d.fault c.args.self.now c.args.piece.now fits c.self.view_is
    c.in_default.is c.self.invariant
