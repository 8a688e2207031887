use Rattle.std.proofs.Common.{◌∙◌, Some, ap, subst, sym}
use Rattle.cnb_words.specs.Faults.{AreReadAs}
use Rattle.cnb_words.specs.Reading.{dashed, paths_in}
use Rattle.cnb_words.proofs.PathLemmas.{paths_by_name}
use Rattle.cnb_words.proofs.option_values.paths_of.Goals as goal

pub returns-in-Some-clause-reads : goal.returns-in-Some-clause-reads
returns-in-Some-clause-reads c =
    subst (AreReadAs c.paths_in.result) (ap paths_in c.in-Some.ensures
    ∙ paths_by_name (dashed c.args.name.now) c.args.options.now) c.paths_in.ensures.reads

pub returns-in-None-clause-reads : goal.returns-in-None-clause-reads
returns-in-None-clause-reads c =
    sym (paths_by_name (dashed c.args.name.now) c.args.options.now) ∙ ap paths_in (sym c.in-None.ensures)
    ∙ ap Some (sym c.new.ensures)
