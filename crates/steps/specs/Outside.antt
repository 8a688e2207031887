-- What is seen of the outside at one moment.
use Rattle.std.specs.Prelude.{ℕ, List, map, Option}
use Rattle.cnb_world.specs.Runs.{Ran, Run}
use Rattle.cnb_world.specs.Tree.{Tree}
use Rattle.cnb_world.specs.declared.child.Reply.{Reply}
use Rattle.cnb_world.specs.declared.child.Spawner as spawner
use Rattle.cnb_world.specs.declared.world.World as world

-- of a world: its files, where they are told, the children that ran in it, its counts of failed calls on files, of
-- children that gave no end, and of calls on a path of the wrong kind, and the path whose call failed last
pub record Seen : Type 0 where
  pub files : Option Tree
  pub runs : List Run
  pub file_faults : ℕ
  pub failed_at : Option (List ℕ)
  pub child_faults : ℕ
  pub misused : ℕ

abbrev pub seen : {W : Type 0} → world.Ghosts W → W → Seen
seen ghosts w = record {
  files = ghosts.tree w;
  runs = ghosts.runs w;
  file_faults = ghosts.file_faults w;
  failed_at = ghosts.failed_at w;
  child_faults = ghosts.child_faults w;
  misused = ghosts.misused w;
}

-- of a spawner: the detect children that it ran, what each buildpack's child says, where that is fixed, and its count
-- of children that gave no answer
pub record SpawnerSeen : Type 0 where
  pub runs : List Ran
  pub says : Option (List Reply)
  pub faults : ℕ

abbrev pub spawner_seen : {S : Type 0} → spawner.Ghosts S → S → SpawnerSeen
spawner_seen ghosts s = record { runs = ghosts.runs s; says = ghosts.says s; faults = ghosts.faults s }

abbrev pub spawners_seen : {S : Type 0} → spawner.Ghosts S → List S → List SpawnerSeen
spawners_seen ghosts spawners = map (spawner_seen ghosts) spawners

-- a world and its spawners: of caches each step says itself what they hold
pub record Outside : Type 0 where
  pub world : Seen
  pub spawners : List SpawnerSeen

abbrev pub outside : {W S : Type 0} → world.Ghosts W → spawner.Ghosts S → W → List S → Outside
outside world_ghosts spawner_ghosts w spawners = record
    { world = seen world_ghosts w; spawners = spawners_seen spawner_ghosts spawners }

-- the counts of the spawners
abbrev pub faults_of : List SpawnerSeen → List ℕ
faults_of spawners = map (λ spawner. spawner.faults) spawners
