use Rattle.std.proofs.Common.{List, ℕ}
use Rattle.cnb_world.specs.Calls.{AreNames}
use Rattle.cnb_world.specs.Memory.{tree_of}
use Rattle.cnb_world.specs.Names.{on_way, AddsStanding}
use Rattle.cnb_world.specs.Tree.{folders_above}
use Rattle.cnb_world.proofs.memory.changes.Changes.add_above.Given as goal

abbrev pub invariant-loop-place : goal.invariant-loop-place
invariant-loop-place l = record {
  names : AreNames l.initial.names.items → AreNames l.names.items;
  adds : (all : List (List ℕ)) → AddsStanding (tree_of l.self.list.items) l.folder
      (on_way l.path l.place) l.names.items all → AddsStanding (tree_of l.self.list.items) l.folder
      (folders_above l.path) l.initial.names.items all;
}
