use Rattle.std.proofs.Common.{take, subst}
use Rattle.std.proofs.lemmas.List.{take_all}
use Rattle.detect_core.specs.Kept.{keys_of}
use Rattle.detect_record.specs.Asked.{IsMet, put_members}
use Rattle.detect_record.proofs.AskedLemmas.{met_more}
use Rattle.detect_record.proofs.asked.met_in.Goals as goal

pub loop-member-preserved : goal.loop-member-preserved
loop-member-preserved c = λ asked is.
    met_more (keys_of c.args.kept.now) c.args.target.now c.args.group.now c.loop-member.member-index
    c.member-item.result c.met_with-met.result asked
    c.loop-member-test.true c.member-item.is
    (c.met_with-met.ensures (put_members c.args.target.now asked
    (take c.loop-member.member-index c.args.group.now)) (c.loop-member.invariant asked is))

pub returns : goal.returns
returns c = λ asked is.
    subst (λ members. IsMet (keys_of c.args.kept.now) (put_members c.args.target.now asked members) c.loop-member.met)
    (take_all c.loop-member.member-index c.args.group.now c.loop-member-test.false) (c.loop-member.invariant asked is)
