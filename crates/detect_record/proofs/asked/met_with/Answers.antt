use Rattle.std.proofs.Common.{◌∙◌, sym, subst, ap}
use Rattle.detect_core.specs.Kept.{keys_of}
use Rattle.detect_record.specs.Asked.{IsMet, met_behind, put_key}
use Rattle.detect_record.proofs.AskedLemmas.{met_step, put_fit, put_unfit}
use Rattle.detect_record.proofs.asked.met_with.Goals as goal

pub returns-then-not-is_fit : goal.returns-then-not-is_fit
returns-then-not-is_fit c = λ asked is.
    subst (λ keys. IsMet (keys_of c.args.kept.now) keys c.args.met)
    (sym (put_unfit c.args.target.now asked c.args.member.now (sym c.is_fit.ensures ∙ c.if-not-is_fit.true))) is

pub returns : goal.returns
returns c = λ asked is.
    let keys = keys_of c.args.kept.now in
    let key = c.args.member.now.key in
    subst (λ ks. IsMet keys ks c.met_behind.result)
    (sym (put_fit c.args.target.now asked c.args.member.now (sym c.is_fit.ensures ∙ c.if-not-is_fit.false)))
    (subst (λ m. IsMet keys (put_key asked key) m)
    (sym (c.met_behind.ensures ∙ ap (met_behind c.args.met) c.place.ensures.place))
    (met_step keys asked key c.args.met is))
