use Rattle.std.proofs.Common.{◌≡◌, ◌∙◌, Err, refl, subst, sym}
use Rattle.tree_canon.specs.Feeding.{Ends}
use Rattle.tree_canon.specs.Judging.{IsJudged}
use Rattle.tree_canon.specs.declared.fault.DecodeFault.{DecodeFault}
use Rattle.tree_canon.specs.declared.fault.DecodeFault.TheVariants as faults
use Rattle.tree_canon.proofs.Feeding.{ended_badly}
use Rattle.tree_canon.proofs.judging.Judging.end.Goals as goal

pub returns-in-Err-Bad : goal.returns-in-Err-Bad
returns-in-Err-Bad c bytes taken =
    let found = c.from_bytes-found.ensures ∙ c.finalize.ensures bytes taken.0 in
    let known = c.in-Err-Bad.field-0-is in
    let bad : c.in-Err-Bad.field-0 ≡ faults.Bad c.in-Err-Bad.field-0-0 c.in-Err-Bad.reason = cc in
    let ends = subst (λ (f : DecodeFault). Ends c.args.self.decoder (Err f)) bad c.in-Err-Bad.ensures.ends in
    let why = ended_badly c.args.self.decoder bytes c.in-Err-Bad.field-0-0 c.in-Err-Bad.reason taken.1 ends in
    subst (IsJudged c.args.digest.now bytes) (sym c.damaged-in-Err-Bad.ensures)
    (refl, found, (sym found ∙ c.if-not-same.ensures.0 refl, why.0, why.1))
