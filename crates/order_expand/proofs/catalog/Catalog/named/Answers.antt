use Rattle.std.proofs.Common.{sym, ◌∙◌, ap, List}
use Rattle.std.specs.List.{slice_get}
use Rattle.std.specs.Option.{option_copied}
use Rattle.bp_docs.specs.declared.descriptor.Descriptor.{Descriptor}
use Rattle.order_expand.proofs.Places.{named_there, named_nowhere, got}
use Rattle.order_expand.proofs.catalog.Catalog.named.Goals as goal

pub returns-in-Some-get-clause-place : goal.returns-in-Some-get-clause-place
returns-in-Some-get-clause-place c =
    sym (ap option_copied (sym c.in-Some-get.is)
    ∙ (got c.deref.result.now c.in-Some.place c.get.result c.get.ensures.lookup
    ∙ ap (λ (xs : List Descriptor). slice_get xs c.in-Some.place) (c.deref.ensures.value ∙ c.self.view_is)))

pub returns-in-Some-get-clause-named : goal.returns-in-Some-get-clause-named
returns-in-Some-get-clause-named c =
    sym (returns-in-Some-get-clause-place c) ∙ named_there c.args.self.now c.args.entry.now c.in-Some.place
    c.in-Some.ensures

pub returns-in-None-get-clause-named : goal.returns-in-None-get-clause-named
returns-in-None-get-clause-named c =
    ap option_copied (sym c.in-None-get.is)
    ∙ (got c.deref.result.now c.in-Some.place c.get.result c.get.ensures.lookup
    ∙ (ap (λ (xs : List Descriptor). slice_get xs c.in-Some.place) (c.deref.ensures.value ∙ c.self.view_is)
    ∙ named_there c.args.self.now c.args.entry.now c.in-Some.place c.in-Some.ensures))

pub returns-in-None-clause-named : goal.returns-in-None-clause-named
returns-in-None-clause-named c = named_nowhere c.args.self.now c.args.entry.now c.in-None.ensures
