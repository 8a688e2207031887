use Rattle.std.proofs.Common.{◌≡◌, ◌<◌, length}
use Rattle.steps.specs.Outside.{faults_of, spawners_seen}
use Rattle.detect_core.proofs.SearchLemmas.{IsAt}
use Rattle.detect_core.proofs.search.search_groups.Given as goal

abbrev pub invariant-loop-group : goal.invariant-loop-group
invariant-loop-group g l = record {
  at : IsAt l.frame l.fn.walk l.walk l.place (spawners_seen g.S.Spawner l.initial.spawners.items)
      (spawners_seen g.S.Spawner l.spawners.items) l.kept l.rows l.erred;
  counts : faults_of (spawners_seen g.S.Spawner l.spawners.items)
      ≡ faults_of (spawners_seen g.S.Spawner l.initial.spawners.items);
  some : 0 < length l.spawners.items;
}

abbrev pub decreases-loop-group : goal.decreases-loop-group
decreases-loop-group g l = length l.walk
