use Rattle.std.specs.Prelude.{min}
use Rattle.std.proofs.Common.{◌∙◌, ◌+◌, Ok, Err, ap, subst, sym}
use Rattle.tree_canon.specs.Feeding.{Ends}
use Rattle.tree_canon.proofs.Feeds.{exactly, measured, ends_whole, ends_short}
use Rattle.tree_canon.proofs.decoder.Decoder.finish.Goals as goal

pub measured-requires : goal.measured-requires
measured-requires c = measured c.self.inside.scanner c.self.inside.building c.self.inside.fault c.args.self
    c.self.view_is c.in_default.is c.self.invariant c.in-Whole.root c.in-Whole.is

pub returns-in-Whole-clause-ends : goal.returns-in-Whole-clause-ends
returns-in-Whole-clause-ends c =
    subst (λ x. Ends c.args.self (Ok x)) (sym c.measured.ensures)
    (ends_whole c.self.inside.scanner c.self.inside.building c.self.inside.fault c.args.self c.self.view_is
    c.in_default.is c.self.invariant c.in-Whole.root c.in-Whole.is)

pub returns-in-Whole-clause-exact : goal.returns-in-Whole-clause-exact
returns-in-Whole-clause-exact c =
    exactly c.args.self (Ok c.measured.result)
    (subst (λ x. Ends c.args.self (Ok x)) (sym c.measured.ensures)
    (ends_whole c.self.inside.scanner c.self.inside.building c.self.inside.fault c.args.self c.self.view_is
    c.in_default.is c.self.invariant c.in-Whole.root c.in-Whole.is))

pub returns : goal.returns
returns c =
    let size = c.saturating_add.ensures ∙ ap (λ n. min (c.self.inside.scanner.at + n) 18446744073709551615)
    c.taken.ensures in
    let ends = ends_short c.self.inside.scanner c.self.inside.building c.self.inside.fault c.args.self
    c.self.view_is c.in_default.is c.self.invariant c.saturating_add.result size
    c.in_default-current.not-Whole in
    record { ends = ends; exact = exactly c.args.self (Err _) ends }
