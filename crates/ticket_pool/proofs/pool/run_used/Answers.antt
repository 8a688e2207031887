use Rattle.std.proofs.Common.{◌≡◌, ℕ, ◌+◌, length, map, drop, sym, subst, ◌∙◌, ap, arith}
use Rattle.ticket_pool.specs.Deal.{NoneTwice, RanAll}
use Rattle.ticket_pool.specs.Passes.{spawners_of, view_of}
use Rattle.ticket_pool.specs.Placing.{HasAllAnswers}
use Rattle.ticket_pool.specs.TicketRule.{IsWhole}
use Rattle.ticket_pool.specs.Work.{numbers, AllDealt}
use Rattle.ticket_pool.proofs.PoolLemmas.{dealt_of, drawn_is, idle, idle_said, on_err, once_of, ran_all, ran_some}
use Rattle.ticket_pool.proofs.PoolLemmas.{take_all}
use Rattle.ticket_pool.proofs.pool.run_used.Goals as goal

pub returns-in_err-lists-clause-some : goal.returns-in_err-lists-clause-some
returns-in_err-lists-clause-some g c = on_err c.from_residual.result
    (idle g.S.Spawner.runs c.args.jobs.now c.args.spawners.now)

pub returns-in_err-lists-clause-said : goal.returns-in_err-lists-clause-said
returns-in_err-lists-clause-said g c = idle_said g.S.Spawner.runs g.S.Spawner.says c.args.spawners.now

pub returns-in_err-answers-clause-some : goal.returns-in_err-answers-clause-some
returns-in_err-answers-clause-some g c = on_err c.from_residual-in_err-answers.result
    (idle g.S.Spawner.runs c.args.jobs.now c.args.spawners.now)

pub returns-in_err-answers-clause-said : goal.returns-in_err-answers-clause-said
returns-in_err-answers-clause-said g c = idle_said g.S.Spawner.runs g.S.Spawner.says c.args.spawners.now

pub returns-in_err-run_halves-clause-some : goal.returns-in_err-run_halves-clause-some
returns-in_err-run_halves-clause-some g c =
    on_err c.from_residual-in_err-run_halves.result
    (ran_some g.S.Spawner.runs g.S.Spawner.says g.S.Spawner.faults c.args.jobs.now
    (spawners_of c.args.round.now) c.args.spawners.now c.run_halves.new.spawners _
    (view_of c.run_halves.new.pass) _
    c.in_err-run_halves.ensures.worked)

pub place_all-requires-clause-dealt : goal.place_all-requires-clause-dealt
place_all-requires-clause-dealt g c =
    let lent : length c.run_halves.new.lists ≡ length c.as_mut_slice.result.now = c.run_halves.auto.lists in
    let whole : length c.as_mut_slice.result.now ≡ length c.in_ok-lists.lists.items = ap length
    c.as_mut_slice.ensures.value in
    let kept = take_all c.run_halves.new.lists (drop (length c.run_halves.new.lists) c.in_ok-lists.lists.items)
    c.in_ok-lists.lists.len (c.in_ok-lists.lists.ok.0 ∙ sym (lent ∙ whole)) in
    let places : length c.as_mut_slice-2.result.now ≡ length c.in_ok-answers.answers.items = ap length
    c.as_mut_slice-2.ensures.value in
    let blank = c.in_ok-answers.ensures in
    let count : length c.args.jobs.now ≡ length c.as_mut_slice-2.result.now = omega arith in
    subst (λ l. AllDealt (length c.as_mut_slice-2.result.now) (map (λ list. list.items) l)) (sym kept)
    (subst (λ (n : ℕ). AllDealt n (map (λ list. list.items) c.run_halves.new.lists)) count
    (dealt_of g.S.Spawner.runs c.args.jobs.now c.args.spawners.now c.run_halves.new.spawners _
    c.in_ok-run_halves.ensures.worked.ran))

pub place_all-requires-clause-once : goal.place_all-requires-clause-once
place_all-requires-clause-once g c =
    let lent : length c.run_halves.new.lists ≡ length c.as_mut_slice.result.now = c.run_halves.auto.lists in
    let whole : length c.as_mut_slice.result.now ≡ length c.in_ok-lists.lists.items = ap length
    c.as_mut_slice.ensures.value in
    let kept = take_all c.run_halves.new.lists (drop (length c.run_halves.new.lists) c.in_ok-lists.lists.items)
    c.in_ok-lists.lists.len (c.in_ok-lists.lists.ok.0 ∙ sym (lent ∙ whole)) in
    let worked = c.in_ok-run_halves.ensures.worked in
    let drawn = drawn_is (length c.args.jobs.now) (length c.args.spawners.now) _
    (view_of c.run_halves.new.pass) worked.spawners
    (subst (λ (n : ℕ). IsWhole n (view_of c.run_halves.new.pass)) c.requires.round_spawners worked.whole)
    c.requires.some worked.drew in
    subst (λ l. NoneTwice (map numbers (map (λ list. list.items) l))) (sym kept)
    (once_of (length c.args.jobs.now) (length c.args.spawners.now) _ (view_of c.run_halves.new.pass)
    (length c.args.jobs.now + length c.args.spawners.now) drawn worked.drew)

pub returns-clause-all : goal.returns-clause-all
returns-clause-all g c =
    let lent : length c.run_halves.new.lists ≡ length c.as_mut_slice.result.now = c.run_halves.auto.lists in
    let whole : length c.as_mut_slice.result.now ≡ length c.in_ok-lists.lists.items = ap length
    c.as_mut_slice.ensures.value in
    let kept = take_all c.run_halves.new.lists (drop (length c.run_halves.new.lists) c.in_ok-lists.lists.items)
    c.in_ok-lists.lists.len (c.in_ok-lists.lists.ok.0 ∙ sym (lent ∙ whole)) in
    let worked = c.in_ok-run_halves.ensures.worked in
    let drawn = drawn_is (length c.args.jobs.now) (length c.args.spawners.now) _
    (view_of c.run_halves.new.pass) worked.spawners
    (subst (λ (n : ℕ). IsWhole n (view_of c.run_halves.new.pass)) c.requires.round_spawners worked.whole)
    c.requires.some worked.drew in
    let placed : length c.place_all.new.answers ≡ length c.as_mut_slice-2.result.now = c.place_all.auto.answers in
    let places : length c.as_mut_slice-2.result.now ≡ length c.in_ok-answers.answers.items = ap length
    c.as_mut_slice-2.ensures.value in
    let blank = c.in_ok-answers.ensures in
    let answered = take_all c.place_all.new.answers
    (drop (length c.place_all.new.answers) c.in_ok-answers.answers.items) c.in_ok-answers.answers.len
    (c.in_ok-answers.answers.ok.0 ∙ sym (placed ∙ places)) in
    let count : length c.place_all.new.answers ≡ length c.args.jobs.now = omega arith in
    subst (λ answers. RanAll g.S.Spawner.runs c.args.jobs.now answers c.args.spawners.now
    c.run_halves.new.spawners) (sym answered)
    (ran_all g.S.Spawner.runs c.args.jobs.now c.place_all.new.answers
    (length c.args.spawners.now) c.args.spawners.now c.run_halves.new.spawners
    (map (λ list. list.items) c.run_halves.new.lists)
    (view_of c.run_halves.new.pass) count worked.ran
    (subst (λ l. HasAllAnswers c.place_all.new.answers (map (λ list. list.items) l)) kept c.place_all.ensures)
    drawn worked.drew)

pub returns-clause-drawn : goal.returns-clause-drawn
returns-clause-drawn g c =
    let worked = c.in_ok-run_halves.ensures.worked in
    drawn_is (length c.args.jobs.now) (length c.args.spawners.now) _ (view_of c.run_halves.new.pass) worked.spawners
    (subst (λ (n : ℕ). IsWhole n (view_of c.run_halves.new.pass)) c.requires.round_spawners worked.whole)
    c.requires.some worked.drew
