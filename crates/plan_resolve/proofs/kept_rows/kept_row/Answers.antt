use Rattle.std.proofs.Common.{length, refl, sym, arith}
use Rattle.std.proofs.lemmas.Option.{slice_get_past, slice_get_read}
use Rattle.plan_resolve.proofs.PlanLemmas.{with_keys_at, with_keys_past, with_keys_past_trial}
use Rattle.plan_resolve.proofs.kept_rows.kept_row.Goals as goal

pub returns-in_err-alive : goal.returns-in_err-alive
returns-in_err-alive c =
    rw c.from_residual.ensures (sym (with_keys_past c.args.rows.now c.args.trial.now c.args.place
    (slice_get_past c.args.rows.now c.args.place (omega (arith, c.in_err-alive.ensures.lookup.3)))))

pub returns-in_err-row : goal.returns-in_err-row
returns-in_err-row c =
    rw c.from_residual-in_err-row.ensures (sym (with_keys_past_trial c.args.rows.now c.args.trial.now c.args.place
    (slice_get_past c.args.trial.now c.args.place (omega (arith, c.in_err-row.ensures.lookup.3)))))

pub returns : goal.returns
returns c =
    let rows = c.args.rows.now in
    let trial = c.args.trial.now in
    let alive = c.in_ok-alive.alive.now in
    let row = c.in_ok-row.row.now in
    let first = c.in_ok-alive.ensures.lookup.3 in
    let second = c.in_ok-row.ensures.lookup.3 in
    rw c.of.ensures (sym (with_keys_at rows trial c.args.place alive row
    (slice_get_read rows (length rows) c.args.place alive refl first.0 (first.1 alive))
    (slice_get_read trial (length trial) c.args.place row refl second.0 (second.1 row))))
