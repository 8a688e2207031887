use Rattle.std.proofs.Common.{refl, subst, sym, [], false}
use Rattle.steps.specs.Asking.{CountsSpawners}
use Rattle.steps.specs.Outside.{faults_of, spawners_seen}
use Rattle.ticket_pool.specs.declared.fault.PoolFault.TheVariants as pool
use Rattle.order_expand.specs.Groups.{listed_groups}
use Rattle.detect_core.specs.declared.chosen.DetectEnd.TheVariants.{Memory}
use Rattle.detect_core.specs.Search.{end_cause}
use Rattle.detect_core.specs.Searching.{AreWithin, IsRecordedSearch}
use Rattle.detect_core.proofs.CountLemmas.{stayed}
use Rattle.detect_core.proofs.LimitLemmas.{listed_within}
use Rattle.detect_core.proofs.RecordedLemmas.{choice_found, no_choice}
use Rattle.detect_core.proofs.TurnLemmas.{err_result, search_start, stopped_by, stopped_next}
use Rattle.detect_core.proofs.search.search.Goals as goal

pub returns-in_err-walk-clause-search : goal.returns-in_err-walk-clause-search
returns-in_err-walk-clause-search g c =
    let listed = listed_groups c.args.catalog.now c.args.order.now in
    let r0 = spawners_seen g.S.Spawner c.args.spawners.now.items in
    err_result (IsRecordedSearch c.args.frame.now listed r0 r0) c.from_residual.result Memory c.from_residual.ensures.1
    (no_choice c.args.frame.now listed r0 r0 [] Memory
    (stopped_by c.args.frame.now listed r0 r0 [] pool.Memory
    (stopped_next c.args.frame.now listed listed 0 r0 r0 [] [] false
    (search_start c.args.frame.now listed r0))))

pub returns-in_err-walk-clause-faults : goal.returns-in_err-walk-clause-faults
returns-in_err-walk-clause-faults g c =
    let before = faults_of (spawners_seen g.S.Spawner c.args.spawners.now.items) in
    err_result (λ r. CountsSpawners end_cause r before before) c.from_residual.result Memory
    c.from_residual.ensures.1 (stayed before before refl)

pub search_groups-requires-clause-within : goal.search_groups-requires-clause-within
search_groups-requires-clause-within g c κs within =
    subst AreWithin (sym c.in_ok-walk.ensures) (listed_within c.args.catalog.now c.args.order.now c.requires.order)

pub returns-in-Ok-clause-search : goal.returns-in-Ok-clause-search
returns-in-Ok-clause-search g c =
    choice_found c.args.frame.now c.in_ok-walk.walk (listed_groups c.args.catalog.now c.args.order.now)
    (spawners_seen g.S.Spawner c.args.spawners.now.items)
    (spawners_seen g.S.Spawner c.search_groups.new.spawners.items)
    c.search_groups.new.rows c.search_groups.result c.in-Ok.chosen c.in_ok-walk.ensures
    c.search_groups.ensures.search c.in-Ok.is
