use Rattle.std.proofs.Common.{◌≡◌, ℕ, arith, refl, sym, subst, ◌∙◌}
use Rattle.ticket_pool.specs.Core.{core_jobs, core_round, core_workers}
use Rattle.ticket_pool.specs.Round.{Round, IsLawful, after, start}
use Rattle.ticket_pool.specs.declared.round.Core.{Core}
use Rattle.ticket_pool.specs.declared.round.Event.{Event}
use Rattle.ticket_pool.specs.declared.round.Event.TheVariants.{Draw, End}
use Rattle.detection_rows.proofs.pool.round_of_two.Goals as goal

-- a core of two jobs and two workers that has come to this round
abbrev At : Core → Round → Type 0
At core round = (core_jobs core ≡ 2) × (core_workers core ≡ 2) × (core_round core ≡ round)

lawful : (core : Core) (round : Round) (event : Event) → At core round → IsLawful 2 round event
    → IsLawful (core_workers core) (core_round core) event
lawful core round event at is = subst (λ (p : ℕ × Round). IsLawful p.0 p.1 event) (λ i. (sym at.1 i, sym at.2 i)) is

next : (old new : Core) (round : Round) (event : Event) → At old round → core_jobs new ≡ core_jobs old
    → core_workers new ≡ core_workers old
    → core_round new ≡ after (core_jobs old) (core_round old) event → At new (after 2 round event)
next old new round event at jobs workers is = (jobs ∙ at.0, workers ∙ at.1, is ∙ (λ i. after (at.0 i) (at.2 i) event))

pub step-first-requires : goal.step-first-requires
step-first-requires c =
    let at : At c.in-Ok.core start = (c.in-Ok.ensures.jobs, c.in-Ok.ensures.workers, c.in-Ok.ensures.round) in
    lawful c.in-Ok.core start (Draw 1) at (omega arith, refl)

pub step-second-requires : goal.step-second-requires
step-second-requires c =
    let at : At c.in-Ok.core start = (c.in-Ok.ensures.jobs, c.in-Ok.ensures.workers, c.in-Ok.ensures.round) in
    let at-1 = next c.in-Ok.core c.step-first.new.self start
    (Draw 1) at c.step-first.ensures.jobs c.step-first.ensures.workers c.step-first.ensures.round in
    lawful c.step-first.new.self _ (Draw 0) at-1 (omega arith, refl)

pub step-one-requires : goal.step-one-requires
step-one-requires c =
    let at : At c.in-Ok.core start = (c.in-Ok.ensures.jobs, c.in-Ok.ensures.workers, c.in-Ok.ensures.round) in
    let at-1 = next c.in-Ok.core c.step-first.new.self start
    (Draw 1) at c.step-first.ensures.jobs c.step-first.ensures.workers c.step-first.ensures.round in
    let at-2 = next c.step-first.new.self c.step-second.new.self _
    (Draw 0) at-1 c.step-second.ensures.jobs c.step-second.ensures.workers c.step-second.ensures.round in
    lawful c.step-second.new.self _ (End 0 c.ended.result) at-2 (1, refl)

pub step-other-requires : goal.step-other-requires
step-other-requires c =
    let at : At c.in-Ok.core start = (c.in-Ok.ensures.jobs, c.in-Ok.ensures.workers, c.in-Ok.ensures.round) in
    let at-1 = next c.in-Ok.core c.step-first.new.self start
    (Draw 1) at c.step-first.ensures.jobs c.step-first.ensures.workers c.step-first.ensures.round in
    let at-2 = next c.step-first.new.self c.step-second.new.self _
    (Draw 0) at-1 c.step-second.ensures.jobs c.step-second.ensures.workers c.step-second.ensures.round in
    let at-3 = next c.step-second.new.self c.step-one.new.self _
    (End 0 c.ended.result) at-2 c.step-one.ensures.jobs c.step-one.ensures.workers c.step-one.ensures.round in
    lawful c.step-one.new.self _ (End 1 c.ended-2.result) at-3 (0, refl)

pub step-late-requires : goal.step-late-requires
step-late-requires c =
    let at : At c.in-Ok.core start = (c.in-Ok.ensures.jobs, c.in-Ok.ensures.workers, c.in-Ok.ensures.round) in
    let at-1 = next c.in-Ok.core c.step-first.new.self start
    (Draw 1) at c.step-first.ensures.jobs c.step-first.ensures.workers c.step-first.ensures.round in
    let at-2 = next c.step-first.new.self c.step-second.new.self _
    (Draw 0) at-1 c.step-second.ensures.jobs c.step-second.ensures.workers c.step-second.ensures.round in
    let at-3 = next c.step-second.new.self c.step-one.new.self _
    (End 0 c.ended.result) at-2 c.step-one.ensures.jobs c.step-one.ensures.workers c.step-one.ensures.round in
    let at-4 = next c.step-one.new.self c.step-other.new.self _
    (End 1 c.ended-2.result) at-3 c.step-other.ensures.jobs c.step-other.ensures.workers
    c.step-other.ensures.round in
    lawful c.step-other.new.self _ (Draw 0) at-4 (omega arith, refl)
