use Rattle.std.proofs.Common.{◌∙◌, sym, subst}
use Rattle.std.proofs.lemmas.List.{length-map}
use Rattle.cnb_toml.specs.declared.names.Key.{Key}
use Rattle.detect_core.specs.declared.chosen.Verdict.{Verdict}
use Rattle.detect_core.specs.Kept.{keys_of}
use Rattle.detect_record.specs.Asked.{IsMet}
use Rattle.detect_record.proofs.AskedLemmas.{all_met, none_all_met}
use Rattle.detect_record.proofs.asked.are_all_met.Goals as goal

pub returns-in-Some : goal.returns-in-Some
returns-in-Some c = λ asked is.
    all_met (keys_of c.args.kept.now) asked c.in-Some.met c.len.result
    (c.len.ensures ∙ sym (length-map c.args.kept.now (λ (row : Key × Verdict). row.0)))
    (subst (IsMet (keys_of c.args.kept.now) asked) c.in-Some.is is)

pub returns-in-None : goal.returns-in-None
returns-in-None c = λ asked is.
    none_all_met (keys_of c.args.kept.now) asked (subst (IsMet (keys_of c.args.kept.now) asked) c.in-None.is is)
