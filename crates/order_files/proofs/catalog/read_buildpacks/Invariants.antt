use Rattle.std.proofs.Common.{◌≡◌, ℕ, drop}
use Rattle.std.specs.List.{list_all}
use Rattle.std.specs.Option.{option_map}
use Rattle.cnb_world.specs.Calls.{AreNames, MayMisuse}
use Rattle.order_files.specs.Catalog.{buildpacks_in, is_fit_buildpack}
use Rattle.order_files.proofs.Behind.{Leaves}
use Rattle.order_files.proofs.PlaceLemmas.{AreVacantIds}
use Rattle.order_files.proofs.catalog.read_buildpacks.Given as goal

abbrev pub invariant-loop-id_folder : goal.invariant-loop-id_folder
invariant-loop-id_folder g l = record {
  names : AreNames (drop l.id_folder-index l.id_folders);
  vacant : AreVacantIds l.catalog (drop l.id_folder-index l.id_folders);
  tree : g.W.World.tree l.world ≡ g.W.World.tree l.initial.world;
  files : g.W.World.file_faults l.world ≡ g.W.World.file_faults l.initial.world;
  children : g.W.World.child_faults l.world ≡ g.W.World.child_faults l.initial.world;
  runs : g.W.World.runs l.world ≡ g.W.World.runs l.initial.world;
  misused : (now : ℕ) → MayMisuse (option_map (λ files. list_all (is_fit_buildpack files l.buildpacks)
      (drop l.id_folder-index l.id_folders)) (g.W.World.tree l.initial.world)) (g.W.World.misused l.world) now
      → MayMisuse (option_map (λ files. list_all (is_fit_buildpack files l.buildpacks) l.id_folders)
      (g.W.World.tree l.initial.world)) (g.W.World.misused l.initial.world) now;
  leaves : Leaves (g.W.World.tree l.initial.world) l.catalog
      (λ files. buildpacks_in files l.buildpacks (drop l.id_folder-index l.id_folders))
      (λ files. buildpacks_in files l.buildpacks l.id_folders);
}
