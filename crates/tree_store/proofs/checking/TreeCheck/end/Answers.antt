use Rattle.std.proofs.Common.{◌≡◌, ◌∙◌, Err, ap, subst, sym}
use Rattle.tree_canon.specs.declared.fault.DecodeFault.{DecodeFault}
use Rattle.tree_canon.specs.declared.fault.DecodeFault.TheVariants as faults
use Rattle.tree_canon.specs.Scans.{ScanEnds}
use Rattle.tree_store.specs.Checking.{ChecksOf}
use Rattle.tree_store.proofs.Checked.{ends_well, ends_badly, ends_other}
use Rattle.tree_store.proofs.checking.TreeCheck.end.Goals as goal

pub returns-then-not-same-clause-checks : goal.returns-then-not-same-clause-checks
returns-then-not-same-clause-checks c bytes h =
    let is = c.from_bytes-found.ensures ∙ c.finalize.ensures bytes h.hashed in
    subst (ChecksOf c.args.digest.now bytes) (sym (ap Err c.damaged.ensures))
    (ends_other c.args.digest.now bytes _ is c.if-not-same.ensures)

pub returns-in-Ok-clause-checks : goal.returns-in-Ok-clause-checks
returns-in-Ok-clause-checks c bytes h =
    let is = c.from_bytes-found.ensures ∙ c.finalize.ensures bytes h.hashed in
    ends_well c.args.self c.args.digest.now bytes _ h is c.if-not-same.ensures c.in-Ok.ensures.ends

pub returns-in-Err-Bad-clause-checks : goal.returns-in-Err-Bad-clause-checks
returns-in-Err-Bad-clause-checks c bytes h =
    let is = c.from_bytes-found.ensures ∙ c.finalize.ensures bytes h.hashed in
    let known = c.in-Err-Bad.field-0-is in
    let bad : c.in-Err-Bad.field-0 ≡ faults.Bad c.in-Err-Bad.field-0-0 c.in-Err-Bad.reason = cc in
    subst (ChecksOf c.args.digest.now bytes) (sym (ap Err c.damaged-in-Err-Bad.ensures))
    (ends_badly c.args.self c.args.digest.now bytes _ c.in-Err-Bad.field-0-0 c.in-Err-Bad.reason h is
    c.if-not-same.ensures
    (λ fed scans. subst (λ (f : DecodeFault). ScanEnds fed (Err f)) bad (c.in-Err-Bad.ensures.ends fed scans)))
