use Rattle.std.proofs.Common.{◌≡◌, ◌∙◌, refl, ◌+◌, ◌≤◌, ◌∷◌, arith}
use Rattle.std.specs.Prelude.{Some, None, Ok, Err, ◌||◌}
use Rattle.steps.specs.Asking.{CountsSpawners}
use Rattle.steps.specs.Outside.{faults_of, spawner_seen, spawners_seen}
use Rattle.ticket_pool.specs.declared.fault.PoolFault.TheVariants as pool
use Rattle.detect_core.specs.declared.chosen.DetectEnd.TheVariants.{Memory}
use Rattle.detect_core.specs.Searching.{IsSearch, end_of_fault}
use Rattle.detect_core.proofs.TurnLemmas.{err_result, stopped_by, search_starts, stopped_next, finished, stopped_asking}
use Rattle.detect_core.proofs.TurnLemmas.{stopped_asked, short_rows, few_members, few_places, turn}
use Rattle.detect_core.specs.Detection.{ending_of_rows}
use Rattle.detect_core.specs.Kept.{keys_of}
use Rattle.detect_core.specs.Search.{end_cause}
use Rattle.detect_core.proofs.AskedLemmas.{still_some}
use Rattle.detect_core.proofs.CountLemmas.{end_counts, fault_counts, stayed}
use Rattle.detect_core.proofs.search.search_groups.Goals as goal

pub loop-group-init : goal.loop-group-init
loop-group-init g c = record {
  at = search_starts c.args.frame.now c.args.walk.now c.args.walk.now
      (spawners_seen g.S.Spawner c.args.spawners.now.items) c.args.kept.now c.args.rows.now refl c.requires.kept
      c.requires.rows;
  counts = refl;
  some = c.requires.spawners;
}

pub ask_group-requires-clause-few : goal.ask_group-requires-clause-few
ask_group-requires-clause-few g c κs within =
    let listed = c.args.walk.now in
    let r0 = spawners_seen g.S.Spawner c.args.spawners.now.items in
    let r1 = spawners_seen g.S.Spawner c.loop-group.spawners.items in
    let next : c.loop-group.walk ≡ c.in-Some.group ∷ c.next.new.self = rw c.in-Some.is at c.in_ok-group.ensures.ok in
    few_members c.args.frame.now listed c.loop-group.walk c.loop-group.place r0 r1 c.loop-group.kept
    c.loop-group.rows c.loop-group.erred c.loop-group.invariant.at
    c.in-Some.group c.next.new.self next c.as_slice.result.now c.requires.within c.as_slice.ensures

pub returns-in_err-group-clause-search : goal.returns-in_err-group-clause-search
returns-in_err-group-clause-search g c =
    let listed = c.args.walk.now in
    let r0 = spawners_seen g.S.Spawner c.args.spawners.now.items in
    let r1 = spawners_seen g.S.Spawner c.loop-group.spawners.items in
    err_result (IsSearch c.args.frame.now listed r0 r1 c.loop-group.rows) c.from_residual.result Memory
    c.from_residual.ensures.1
    (stopped_by c.args.frame.now listed r0 r1 c.loop-group.rows pool.Memory
    (stopped_next c.args.frame.now listed c.loop-group.walk c.loop-group.place r0 r1 c.loop-group.kept
    c.loop-group.rows c.loop-group.erred c.loop-group.invariant.at))

pub returns-in_err-ask_group-clause-search : goal.returns-in_err-ask_group-clause-search
returns-in_err-ask_group-clause-search g c =
    let listed = c.args.walk.now in
    let r0 = spawners_seen g.S.Spawner c.args.spawners.now.items in
    let r1 = spawners_seen g.S.Spawner c.loop-group.spawners.items in
    let r2 = spawners_seen g.S.Spawner c.ask_group.new.spawners.items in
    let next : c.loop-group.walk ≡ c.in-Some.group ∷ c.next.new.self = rw c.in-Some.is at c.in_ok-group.ensures.ok in
    err_result (IsSearch c.args.frame.now listed r0 r2 c.ask_group.new.rows)
    c.from_residual-in_err-ask_group.result (end_of_fault c.in_err-ask_group.field-0.0)
    c.from_residual-in_err-ask_group.ensures.1
    (stopped_by c.args.frame.now listed r0 r2 c.ask_group.new.rows c.in_err-ask_group.field-0.0
    (stopped_asking c.args.frame.now listed c.loop-group.walk c.loop-group.place r0 r1 c.loop-group.kept
    c.loop-group.rows c.loop-group.erred c.loop-group.invariant.at
    c.in-Some.group c.next.new.self next c.as_slice.result.now r2 c.as_slice.ensures c.in_err-ask_group.ensures.some))

pub returns-in_err-judged-clause-search : goal.returns-in_err-judged-clause-search
returns-in_err-judged-clause-search g c =
    let listed = c.args.walk.now in
    let r0 = spawners_seen g.S.Spawner c.args.spawners.now.items in
    let r1 = spawners_seen g.S.Spawner c.loop-group.spawners.items in
    let r2 = spawners_seen g.S.Spawner c.ask_group.new.spawners.items in
    let next : c.loop-group.walk ≡ c.in-Some.group ∷ c.next.new.self = rw c.in-Some.is at c.in_ok-group.ensures.ok in
    err_result (IsSearch c.args.frame.now listed r0 r2 c.ask_group.new.rows) c.from_residual-in_err-judged.result
    Memory c.from_residual-in_err-judged.ensures.1
    (stopped_by c.args.frame.now listed r0 r2 c.ask_group.new.rows pool.Memory
    (stopped_asked c.args.frame.now listed c.loop-group.walk c.loop-group.place r0 r1 c.loop-group.kept
    c.loop-group.rows c.loop-group.erred c.loop-group.invariant.at
    c.in-Some.group c.next.new.self next c.as_slice.result.now r2 c.ask_group.new.kept c.ask_group.new.rows
    c.as_slice.ensures c.in_ok-ask_group.ensures.all))

pub end_of-requires : goal.end_of-requires
end_of-requires g c =
    let listed = c.args.walk.now in
    let r0 = spawners_seen g.S.Spawner c.args.spawners.now.items in
    let r1 = spawners_seen g.S.Spawner c.loop-group.spawners.items in
    let next : c.loop-group.walk ≡ c.in-Some.group ∷ c.next.new.self = rw c.in-Some.is at c.in_ok-group.ensures.ok in
    short_rows c.args.frame.now listed c.loop-group.walk c.loop-group.place r0 r1 c.loop-group.kept
    c.loop-group.rows c.loop-group.erred c.loop-group.invariant.at
    c.in-Some.group c.next.new.self next c.as_slice-in-Some.result.now c.ask_group.new.kept c.in_ok-judged.judged
    c.requires.within c.as_slice-in-Some.ensures c.in_ok-judged.ensures

pub overflow_add-place : goal.overflow_add-place
overflow_add-place g c =
    let listed = c.args.walk.now in
    let r0 = spawners_seen g.S.Spawner c.args.spawners.now.items in
    let r1 = spawners_seen g.S.Spawner c.loop-group.spawners.items in
    let next : c.loop-group.walk ≡ c.in-Some.group ∷ c.next.new.self = rw c.in-Some.is at c.in_ok-group.ensures.ok in
    let few : c.loop-group.place + 1 ≤ 4096 =
    few_places c.args.frame.now listed c.loop-group.walk c.loop-group.place r0 r1 c.loop-group.kept
    c.loop-group.rows c.loop-group.erred c.loop-group.invariant.at
    c.in-Some.group c.next.new.self next c.requires.within in
    omega arith

pub returns-in_err-chosen-clause-search : goal.returns-in_err-chosen-clause-search
returns-in_err-chosen-clause-search g c =
    let listed = c.args.walk.now in
    let r0 = spawners_seen g.S.Spawner c.args.spawners.now.items in
    let r1 = spawners_seen g.S.Spawner c.loop-group.spawners.items in
    let r2 = spawners_seen g.S.Spawner c.ask_group.new.spawners.items in
    let next : c.loop-group.walk ≡ c.in-Some.group ∷ c.next.new.self = rw c.in-Some.is at c.in_ok-group.ensures.ok in
    err_result (IsSearch c.args.frame.now listed r0 r2 c.ask_group.new.rows) c.from_residual-in_err-chosen.result
    c.in_err-chosen.field-0.0 c.from_residual-in_err-chosen.ensures.1
    (turn c.args.frame.now listed c.loop-group.walk c.loop-group.place r0 r1 c.loop-group.kept c.loop-group.rows
    c.loop-group.erred c.loop-group.invariant.at
    c.in-Some.group c.next.new.self next c.as_slice.result.now c.as_slice-in-Some.result.now r2
    c.ask_group.new.kept c.ask_group.new.rows c.in_ok-judged.judged
    (c.loop-group.erred || c.in_ok-judged.judged.erred)
    (Err c.in_err-chosen.field-0.0) c.as_slice.ensures c.as_slice-in-Some.ensures c.in_ok-ask_group.ensures.all
    c.in_ok-judged.ensures refl c.in_err-chosen.ensures)

pub returns-in-Some-2-clause-search : goal.returns-in-Some-2-clause-search
returns-in-Some-2-clause-search g c =
    let listed = c.args.walk.now in
    let r0 = spawners_seen g.S.Spawner c.args.spawners.now.items in
    let r1 = spawners_seen g.S.Spawner c.loop-group.spawners.items in
    let r2 = spawners_seen g.S.Spawner c.ask_group.new.spawners.items in
    let next : c.loop-group.walk ≡ c.in-Some.group ∷ c.next.new.self = rw c.in-Some.is at c.in_ok-group.ensures.ok in
    turn c.args.frame.now listed c.loop-group.walk c.loop-group.place r0 r1 c.loop-group.kept c.loop-group.rows
    c.loop-group.erred c.loop-group.invariant.at
    c.in-Some.group c.next.new.self next c.as_slice.result.now c.as_slice-in-Some.result.now r2
    c.ask_group.new.kept c.ask_group.new.rows c.in_ok-judged.judged
    (c.loop-group.erred || c.in_ok-judged.judged.erred)
    (Ok (Some c.in-Some-2.chosen)) c.as_slice.ensures c.as_slice-in-Some.ensures c.in_ok-ask_group.ensures.all
    c.in_ok-judged.ensures refl (rw c.in-Some-2.is at c.in_ok-chosen.ensures)

pub loop-group-preserved : goal.loop-group-preserved
loop-group-preserved g c =
    let listed = c.args.walk.now in
    let r0 = spawners_seen g.S.Spawner c.args.spawners.now.items in
    let r1 = spawners_seen g.S.Spawner c.loop-group.spawners.items in
    let r2 = spawners_seen g.S.Spawner c.ask_group.new.spawners.items in
    let next : c.loop-group.walk ≡ c.in-Some.group ∷ c.next.new.self = rw c.in-Some.is at c.in_ok-group.ensures.ok in
    record {
      at = turn c.args.frame.now listed c.loop-group.walk c.loop-group.place r0 r1 c.loop-group.kept
          c.loop-group.rows c.loop-group.erred c.loop-group.invariant.at
          c.in-Some.group c.next.new.self next c.as_slice.result.now c.as_slice-in-Some.result.now r2
          c.ask_group.new.kept c.ask_group.new.rows c.in_ok-judged.judged
          (c.loop-group.erred || c.in_ok-judged.judged.erred)
          (Ok None) c.as_slice.ensures c.as_slice-in-Some.ensures c.in_ok-ask_group.ensures.all
          c.in_ok-judged.ensures refl (rw c.in_default-2.is at c.in_ok-chosen.ensures);
      counts = c.in_ok-ask_group.ensures.faults ∙ c.loop-group.invariant.counts;
      some = still_some (spawner_seen g.S.Spawner) c.in_ok-ask_group.ensures.all.answers
          c.loop-group.spawners.items c.ask_group.new.spawners.items c.in_ok-ask_group.ensures.all.asked
          c.loop-group.invariant.some;
    }

pub returns-clause-search : goal.returns-clause-search
returns-clause-search g c =
    let listed = c.args.walk.now in
    let r0 = spawners_seen g.S.Spawner c.args.spawners.now.items in
    let r1 = spawners_seen g.S.Spawner c.loop-group.spawners.items in
    finished c.args.frame.now listed c.loop-group.walk c.loop-group.place r0 r1 c.loop-group.kept
    c.loop-group.rows c.loop-group.erred c.loop-group.invariant.at
    (rw c.in_default.is at c.in_ok-group.ensures.ok)

pub returns-in_err-group-clause-faults : goal.returns-in_err-group-clause-faults
returns-in_err-group-clause-faults g c =
    let before = faults_of (spawners_seen g.S.Spawner c.args.spawners.now.items) in
    let now = faults_of (spawners_seen g.S.Spawner c.loop-group.spawners.items) in
    err_result (λ r. CountsSpawners end_cause r before now) c.from_residual.result Memory
    c.from_residual.ensures.1 (stayed before now c.loop-group.invariant.counts)

pub returns-in_err-ask_group-clause-faults : goal.returns-in_err-ask_group-clause-faults
returns-in_err-ask_group-clause-faults g c =
    let before = faults_of (spawners_seen g.S.Spawner c.args.spawners.now.items) in
    let mid = faults_of (spawners_seen g.S.Spawner c.loop-group.spawners.items) in
    let now = faults_of (spawners_seen g.S.Spawner c.ask_group.new.spawners.items) in
    err_result (λ r. CountsSpawners end_cause r before now) c.from_residual-in_err-ask_group.result
    (end_of_fault c.in_err-ask_group.field-0.0) c.from_residual-in_err-ask_group.ensures.1
    (fault_counts c.in_err-ask_group.field-0.0 before mid now c.loop-group.invariant.counts
    c.in_err-ask_group.ensures.faults)

pub returns-in_err-judged-clause-faults : goal.returns-in_err-judged-clause-faults
returns-in_err-judged-clause-faults g c =
    let before = faults_of (spawners_seen g.S.Spawner c.args.spawners.now.items) in
    let now = faults_of (spawners_seen g.S.Spawner c.ask_group.new.spawners.items) in
    err_result (λ r. CountsSpawners end_cause r before now) c.from_residual-in_err-judged.result Memory
    c.from_residual-in_err-judged.ensures.1
    (stayed before now (c.in_ok-ask_group.ensures.faults ∙ c.loop-group.invariant.counts))

pub returns-in_err-chosen-clause-faults : goal.returns-in_err-chosen-clause-faults
returns-in_err-chosen-clause-faults g c =
    let before = faults_of (spawners_seen g.S.Spawner c.args.spawners.now.items) in
    let now = faults_of (spawners_seen g.S.Spawner c.ask_group.new.spawners.items) in
    err_result (λ r. CountsSpawners end_cause r before now) c.from_residual-in_err-chosen.result
    c.in_err-chosen.field-0.0 c.from_residual-in_err-chosen.ensures.1
    (end_counts c.in_err-chosen.field-0.0 (ending_of_rows c.loop-group.place c.in_ok-judged.judged.alive)
    (keys_of c.ask_group.new.kept) before now c.in_err-chosen.ensures
    (c.in_ok-ask_group.ensures.faults ∙ c.loop-group.invariant.counts))
