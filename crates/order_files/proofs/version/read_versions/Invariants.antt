use Rattle.std.proofs.Common.{◌≡◌, ℕ, drop}
use Rattle.std.specs.Prelude.{Ok}
use Rattle.std.specs.Option.{option_map}
use Rattle.cnb_world.specs.Calls.{AreNames, MayMisuse}
use Rattle.order_files.specs.Catalog.{are_fit_versions, followed_by, versions_in}
use Rattle.order_files.specs.Places.{KeepsOtherIds}
use Rattle.order_files.proofs.Behind.{Leaves}
use Rattle.order_files.proofs.PlaceLemmas.{AreVacant}
use Rattle.order_files.proofs.version.read_versions.Given as goal

abbrev pub invariant-loop-version : goal.invariant-loop-version
invariant-loop-version g l = record {
  names : AreNames (drop l.version-index l.versions);
  vacant : AreVacant l.catalog l.id_folder (drop l.version-index l.versions);
  others : KeepsOtherIds l.id_folder l.initial.catalog l.catalog;
  tree : g.W.World.tree l.world ≡ g.W.World.tree l.initial.world;
  files : g.W.World.file_faults l.world ≡ g.W.World.file_faults l.initial.world;
  children : g.W.World.child_faults l.world ≡ g.W.World.child_faults l.initial.world;
  runs : g.W.World.runs l.world ≡ g.W.World.runs l.initial.world;
  misused : (now : ℕ) → MayMisuse (option_map (λ files. are_fit_versions files l.folder
      (drop l.version-index l.versions)) (g.W.World.tree l.initial.world)) (g.W.World.misused l.world) now
      → MayMisuse (option_map (λ files. are_fit_versions files l.folder l.versions)
      (g.W.World.tree l.initial.world)) (g.W.World.misused l.initial.world) now;
  leaves : Leaves (g.W.World.tree l.initial.world) l.catalog
      (λ files. versions_in files l.folder l.id_folder (drop l.version-index l.versions))
      (λ files. followed_by (Ok l.initial.catalog) (versions_in files l.folder l.id_folder l.versions));
}
