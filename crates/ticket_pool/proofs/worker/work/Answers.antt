use Rattle.std.proofs.Common.{◌≡◌, ◌+◌, ℕ, length, vec_len, arith, subst, sym, refl, ap, ◌∙◌, ◌∷◌, [], length-append}
use Rattle.std.specs.Prelude.{Some, None, Err}
use Rattle.std.proofs.lemmas.Option.{slice_get_read}
use Rattle.std.proofs.lemmas.Result.{err_from_is_err_and}
use Rattle.ticket_pool.specs.Passes.{DrawsNext, spawners_of, view_of}
use Rattle.ticket_pool.specs.declared.answer.Answer.{Answer}
use Rattle.ticket_pool.proofs.WorkLemmas.{Going, goes, ends, fails, dealt-length}
use Rattle.ticket_pool.proofs.worker.work.Goals as goal

pub returns-in_err-probed-clause-worked : goal.returns-in_err-probed-clause-worked
returns-in_err-probed-clause-worked g c =
    let draw = subst (λ (k : ℕ). DrawsNext k (Some c.in-Some.number) (view_of c.draws.pass)
    (view_of c.draw.new.pass)) c.requires.jobs c.in-Some.ensures.drew in
    let exit = err_from_is_err_and c.from_residual.result c.from_residual.ensures.1 in
    fails g.S.Spawner.runs g.S.Spawner.says g.S.Spawner.faults c.args.jobs.now
    (spawners_of c.args.round.now) c.args.spawner.now c.draws.spawner c.detect.new.self c.draws.list.items
    (view_of c.draws.pass) (view_of c.draw.new.pass) c.in-Some.number c.in_err-probed.field-0.0
    c.from_residual.result c.draws.invariant.going draw.0 draw.1 c.draw.ensures.ascending c.draw.ensures.whole
    c.in_err-probed.ensures.err c.in_err-probed.ensures.says c.in_err-probed.ensures.faults (exit.1 ∙ ap Err exit.2)

-- the list with this answer is still one of jobs, so it had room
pub push_reserved-requires : goal.push_reserved-requires
push_reserved-requires g c =
    let draw = subst (λ (k : ℕ). DrawsNext k (Some c.in-Some.number) (view_of c.draws.pass)
    (view_of c.draw.new.pass)) c.requires.jobs c.in-Some.ensures.drew in
    let answer : Answer = record { number = c.in-Some.number; probed = c.in_ok-probed.probed } in
    let at = slice_get_read c.args.jobs.now (length c.args.jobs.now) c.in-Some.number c.index-jobs-number.result
    refl draw.0 c.index-jobs-number.is in
    let going = goes g.S.Spawner.runs g.S.Spawner.says g.S.Spawner.faults c.args.jobs.now c.args.spawner.now
    c.draws.spawner c.detect.new.self c.draws.list.items
    (view_of c.draws.pass) (view_of c.draw.new.pass) answer c.index-jobs-number.result c.draws.invariant.going
    draw.0 draw.1 at
    c.in_ok-probed.ensures.ok c.in_ok-probed.ensures.said c.in_ok-probed.ensures.says c.in_ok-probed.ensures.faults in
    let within = dealt-length (length c.args.jobs.now) _ going.dealt in
    let room = c.draws.invariant.room in
    let len : length c.draws.list.items ≡ vec_len c.draws.list = sym c.draws.list.ok.0 in
    omega (arith, length-append c.draws.list.items (answer ∷ []))

pub draws-smaller : goal.draws-smaller
draws-smaller g c =
    let draw = subst (λ (k : ℕ). DrawsNext k (Some c.in-Some.number) (view_of c.draws.pass)
    (view_of c.draw.new.pass)) c.requires.jobs c.in-Some.ensures.drew in
    let answer : Answer = record { number = c.in-Some.number; probed = c.in_ok-probed.probed } in
    let at = slice_get_read c.args.jobs.now (length c.args.jobs.now) c.in-Some.number c.index-jobs-number.result
    refl draw.0 c.index-jobs-number.is in
    let going = goes g.S.Spawner.runs g.S.Spawner.says g.S.Spawner.faults c.args.jobs.now c.args.spawner.now
    c.draws.spawner c.detect.new.self c.draws.list.items
    (view_of c.draws.pass) (view_of c.draw.new.pass) answer c.index-jobs-number.result c.draws.invariant.going
    draw.0 draw.1 at
    c.in_ok-probed.ensures.ok c.in_ok-probed.ensures.said c.in_ok-probed.ensures.says c.in_ok-probed.ensures.faults in
    let within = dealt-length (length c.args.jobs.now) _ going.dealt in
    let more : vec_len c.push_reserved.new.self ≡ vec_len c.draws.list + 1 = c.push_reserved.ensures.len in
    let len : length c.draws.list.items ≡ vec_len c.draws.list = sym c.draws.list.ok.0 in
    omega (arith, length-append c.draws.list.items (answer ∷ []))

pub draws-preserved : goal.draws-preserved
draws-preserved g c =
    let draw = subst (λ (k : ℕ). DrawsNext k (Some c.in-Some.number) (view_of c.draws.pass)
    (view_of c.draw.new.pass)) c.requires.jobs c.in-Some.ensures.drew in
    let answer : Answer = record { number = c.in-Some.number; probed = c.in_ok-probed.probed } in
    let at = slice_get_read c.args.jobs.now (length c.args.jobs.now) c.in-Some.number c.index-jobs-number.result
    refl draw.0 c.index-jobs-number.is in
    record {
      of = c.draw.ensures.round;
      going = subst (λ list. Going g.S.Spawner.runs g.S.Spawner.says g.S.Spawner.faults c.args.jobs.now
          c.args.spawner.now c.detect.new.self list (view_of c.draw.new.pass)) (sym c.push_reserved.ensures.items)
          (goes g.S.Spawner.runs g.S.Spawner.says g.S.Spawner.faults c.args.jobs.now c.args.spawner.now
          c.draws.spawner c.detect.new.self c.draws.list.items
          (view_of c.draws.pass) (view_of c.draw.new.pass) answer c.index-jobs-number.result
          c.draws.invariant.going draw.0 draw.1 at
          c.in_ok-probed.ensures.ok c.in_ok-probed.ensures.said c.in_ok-probed.ensures.says
          c.in_ok-probed.ensures.faults);
      room = (let capacity = c.push_reserved.ensures.capacity in let room = c.draws.invariant.room in omega arith);
    }

pub returns-clause-worked : goal.returns-clause-worked
returns-clause-worked g c =
    let draw = subst (λ (k : ℕ). DrawsNext k None (view_of c.draws.pass) (view_of c.draw.new.pass))
    c.requires.jobs c.in_default.ensures.drew in
    ends g.S.Spawner.runs g.S.Spawner.says g.S.Spawner.faults c.args.jobs.now
    (spawners_of c.args.round.now) c.args.spawner.now c.draws.spawner c.draws.list.items
    (view_of c.draws.pass) (view_of c.draw.new.pass) draw.0 c.draws.invariant.going draw.1 draw.2
    c.draw.ensures.ascending c.draw.ensures.whole
