use Rattle.std.proofs.Common.{◌∙◌, ◌+◌, ◌∷◌, ℕ, List, ap, drop, refl, subst}
use Rattle.std.specs.List.{list_all}
use Rattle.std.proofs.lemmas.List.{drop_all}
use Rattle.std.proofs.lemmas.Result.{err_from_is_err_and}
use Rattle.cnb_world.specs.Calls.{AreNames}
use Rattle.cnb_world.specs.Tree.{Tree}
use Rattle.doc_files.proofs.NamesRead.{next_name}
use Rattle.order_files.specs.Catalog.{buildpack_in, buildpacks_in, is_fit_buildpack}
use Rattle.order_files.proofs.Behind.{Leaves, all_done, moves, nothing_done, stops}
use Rattle.cnb_world.proofs.Misuse.{no_misuse, one_fits, rest_fits}
use Rattle.order_files.proofs.PlaceLemmas.{AreVacantIds, later_vacant_ids, none_yet}
use Rattle.order_files.proofs.catalog.read_buildpacks.Goals as goal

pub loop-id_folder-init : goal.loop-id_folder-init
loop-id_folder-init g c =
    record {
      names = c.requires.names;
      vacant = none_yet c.new-catalog.result c.new-catalog.ensures c.args.id_folders.now;
      tree = refl;
      files = refl;
      children = refl;
      runs = refl;
      misused = λ now h. h;
      leaves = nothing_done (g.W.World.tree c.args.world.now) c.new-catalog.result
          (λ (files : Tree). buildpacks_in files c.args.buildpacks.now c.args.id_folders.now)
          c.new-catalog.ensures;
    }

pub returns-in_err-catalog-clause-reads : goal.returns-in_err-catalog-clause-reads
returns-in_err-catalog-clause-reads g c =
    let buildpacks = c.args.buildpacks.now in
    let id_folder = c.id_folder-item.result in
    let later = drop (c.loop-id_folder.id_folder-index + 1) c.args.id_folders.now in
    let next = next_name c.args.id_folders.now c.loop-id_folder.id_folder-index id_folder
    c.loop-id_folder-test.true c.id_folder-item.is in
    let L : List (List ℕ) → Type 0 = λ ns. Leaves (g.W.World.tree c.args.world.now) c.loop-id_folder.catalog
    (λ (files : Tree). buildpacks_in files buildpacks ns)
    (λ (files : Tree). buildpacks_in files buildpacks c.args.id_folders.now) in
    let exit = err_from_is_err_and c.from_residual.result c.from_residual.ensures.1 in
    rw (exit.1, exit.2) (stops (λ (files : Tree). buildpack_in files buildpacks id_folder)
    (λ (files : Tree). buildpacks_in files buildpacks later)
    (λ (files : Tree). buildpacks_in files buildpacks c.args.id_folders.now)
    c.loop-id_folder.catalog _ _ _ c.loop-id_folder.invariant.tree c.in_err-catalog.ensures.reads
    (subst L next c.loop-id_folder.invariant.leaves))

pub returns-in_err-catalog-clause-misused : goal.returns-in_err-catalog-clause-misused
returns-in_err-catalog-clause-misused g c =
    let id_folder = c.id_folder-item.result in
    let later = drop (c.loop-id_folder.id_folder-index + 1) c.args.id_folders.now in
    let next = next_name c.args.id_folders.now c.loop-id_folder.id_folder-index id_folder
    c.loop-id_folder-test.true c.id_folder-item.is in
    c.loop-id_folder.invariant.misused _ (one_fits
    (λ (files : Tree). is_fit_buildpack files c.args.buildpacks.now) id_folder later _ next _ _
    c.loop-id_folder.invariant.tree _ _ c.in_err-catalog.ensures.misused)

pub loop-id_folder-preserved : goal.loop-id_folder-preserved
loop-id_folder-preserved g c =
    let buildpacks = c.args.buildpacks.now in
    let id_folder = c.id_folder-item.result in
    let later = drop (c.loop-id_folder.id_folder-index + 1) c.args.id_folders.now in
    let next = next_name c.args.id_folders.now c.loop-id_folder.id_folder-index id_folder
    c.loop-id_folder-test.true c.id_folder-item.is in
    let L : List (List ℕ) → Type 0 = λ ns. Leaves (g.W.World.tree c.args.world.now) c.loop-id_folder.catalog
    (λ (files : Tree). buildpacks_in files buildpacks ns)
    (λ (files : Tree). buildpacks_in files buildpacks c.args.id_folders.now) in
    let names : AreNames (id_folder ∷ later) = subst AreNames next c.loop-id_folder.invariant.names in
    let vacant : AreVacantIds c.loop-id_folder.catalog (id_folder ∷ later) = subst
    (AreVacantIds c.loop-id_folder.catalog) next c.loop-id_folder.invariant.vacant in
    record {
      names = names.2;
      vacant = later_vacant_ids id_folder c.loop-id_folder.catalog _ c.in_ok-catalog.ensures.others later names.1
          vacant.1;
      tree = c.in_ok-catalog.ensures.leaves.files ∙ c.loop-id_folder.invariant.tree;
      files = c.in_ok-catalog.ensures.leaves.counts ∙ c.loop-id_folder.invariant.files;
      children = c.in_ok-catalog.ensures.leaves.children ∙ c.loop-id_folder.invariant.children;
      runs = c.in_ok-catalog.ensures.leaves.runs ∙ c.loop-id_folder.invariant.runs;
      misused = λ now h. c.loop-id_folder.invariant.misused now
          (rest_fits (λ (files : Tree). is_fit_buildpack files buildpacks) id_folder later _ next _ _
          c.loop-id_folder.invariant.tree _ _ now c.in_ok-catalog.ensures.misused h);
      leaves = moves (λ (files : Tree). buildpack_in files buildpacks id_folder)
          (λ (files : Tree). buildpacks_in files buildpacks later)
          (λ (files : Tree). buildpacks_in files buildpacks c.args.id_folders.now)
          c.loop-id_folder.catalog _ _ _ c.loop-id_folder.invariant.tree c.in_ok-catalog.ensures.reads
          (subst L next c.loop-id_folder.invariant.leaves);
    }

pub returns-clause-reads : goal.returns-clause-reads
returns-clause-reads g c =
    let buildpacks = c.args.buildpacks.now in
    all_done (g.W.World.tree c.args.world.now) c.loop-id_folder.catalog
    (λ (files : Tree). buildpacks_in files buildpacks
    (drop c.loop-id_folder.id_folder-index c.args.id_folders.now))
    (λ (files : Tree). buildpacks_in files buildpacks c.args.id_folders.now)
    (λ (files : Tree). ap (buildpacks_in files buildpacks)
    (drop_all c.loop-id_folder.id_folder-index c.args.id_folders.now c.loop-id_folder-test.false))
    c.loop-id_folder.invariant.leaves

pub returns-clause-misused : goal.returns-clause-misused
returns-clause-misused g c = c.loop-id_folder.invariant.misused _
    (no_misuse (λ (files : Tree). list_all (is_fit_buildpack files c.args.buildpacks.now)
    (drop c.loop-id_folder.id_folder-index c.args.id_folders.now)) (g.W.World.tree c.args.world.now)
    (g.W.World.misused c.loop-id_folder.world) _ refl)
