use Rattle.std.proofs.Common.{◌∙◌, ◌+◌, ◌∷◌, ℕ, List, Ok, ap, drop, refl, subst}
use Rattle.std.proofs.lemmas.List.{drop_all}
use Rattle.std.proofs.lemmas.Result.{err_from_is_err_and}
use Rattle.cnb_world.specs.Calls.{AreNames}
use Rattle.cnb_world.specs.Tree.{Tree}
use Rattle.doc_files.proofs.NamesRead.{next_name}
use Rattle.order_files.specs.Catalog.{are_fit_versions, followed_by, is_fit_version, version_in, versions_in}
use Rattle.order_files.proofs.Behind.{Leaves, all_done, moves, stops}
use Rattle.cnb_world.proofs.Misuse.{no_misuse, one_fits, rest_fits}
use Rattle.order_files.proofs.PlaceLemmas.{AreVacant, keeps_ids, later_vacant}
use Rattle.order_files.proofs.version.read_versions.Goals as goal

pub returns-in_err-catalog-clause-reads : goal.returns-in_err-catalog-clause-reads
returns-in_err-catalog-clause-reads g c =
    let folder = c.args.folder.now in
    let id_folder = c.args.id_folder.now in
    let version = c.version-item.result in
    let later = drop (c.loop-version.version-index + 1) c.args.versions.now in
    let next = next_name c.args.versions.now c.loop-version.version-index version c.loop-version-test.true
    c.version-item.is in
    let L : List (List ℕ) → Type 0 = λ ns. Leaves (g.W.World.tree c.args.world.now) c.loop-version.catalog
    (λ (files : Tree). versions_in files folder id_folder ns)
    (λ (files : Tree). followed_by (Ok c.args.catalog)
    (versions_in files folder id_folder c.args.versions.now)) in
    let exit = err_from_is_err_and c.from_residual.result c.from_residual.ensures.1 in
    rw (exit.1, exit.2) (stops (λ (files : Tree). version_in files folder id_folder version)
    (λ (files : Tree). versions_in files folder id_folder later)
    (λ (files : Tree). followed_by (Ok c.args.catalog)
    (versions_in files folder id_folder c.args.versions.now))
    c.loop-version.catalog _ _ _ c.loop-version.invariant.tree c.in_err-catalog.ensures.reads
    (subst L next c.loop-version.invariant.leaves))

pub returns-in_err-catalog-clause-misused : goal.returns-in_err-catalog-clause-misused
returns-in_err-catalog-clause-misused g c =
    let version = c.version-item.result in
    let later = drop (c.loop-version.version-index + 1) c.args.versions.now in
    let next = next_name c.args.versions.now c.loop-version.version-index version c.loop-version-test.true
    c.version-item.is in
    c.loop-version.invariant.misused _ (one_fits (λ (files : Tree). is_fit_version files c.args.folder.now)
    version later _ next _ _ c.loop-version.invariant.tree _ _ c.in_err-catalog.ensures.misused)

pub loop-version-preserved : goal.loop-version-preserved
loop-version-preserved g c =
    let folder = c.args.folder.now in
    let id_folder = c.args.id_folder.now in
    let version = c.version-item.result in
    let later = drop (c.loop-version.version-index + 1) c.args.versions.now in
    let next = next_name c.args.versions.now c.loop-version.version-index version c.loop-version-test.true
    c.version-item.is in
    let L : List (List ℕ) → Type 0 = λ ns. Leaves (g.W.World.tree c.args.world.now) c.loop-version.catalog
    (λ (files : Tree). versions_in files folder id_folder ns)
    (λ (files : Tree). followed_by (Ok c.args.catalog)
    (versions_in files folder id_folder c.args.versions.now)) in
    let names : AreNames (version ∷ later) = subst AreNames next c.loop-version.invariant.names in
    let vacant : AreVacant c.loop-version.catalog id_folder (version ∷ later) = subst
    (AreVacant c.loop-version.catalog id_folder) next c.loop-version.invariant.vacant in
    record {
      names = names.2;
      vacant = later_vacant id_folder version c.loop-version.catalog _ c.in_ok-catalog.ensures.others later
          names.1 vacant.1;
      others = keeps_ids id_folder version c.args.catalog c.loop-version.catalog _ c.in_ok-catalog.ensures.others
          c.loop-version.invariant.others;
      tree = c.in_ok-catalog.ensures.leaves.files ∙ c.loop-version.invariant.tree;
      files = c.in_ok-catalog.ensures.leaves.counts ∙ c.loop-version.invariant.files;
      children = c.in_ok-catalog.ensures.leaves.children ∙ c.loop-version.invariant.children;
      runs = c.in_ok-catalog.ensures.leaves.runs ∙ c.loop-version.invariant.runs;
      misused = λ now h. c.loop-version.invariant.misused now
          (rest_fits (λ (files : Tree). is_fit_version files folder) version later _ next _ _
          c.loop-version.invariant.tree _ _ now c.in_ok-catalog.ensures.misused h);
      leaves = moves (λ (files : Tree). version_in files folder id_folder version)
          (λ (files : Tree). versions_in files folder id_folder later)
          (λ (files : Tree). followed_by (Ok c.args.catalog)
          (versions_in files folder id_folder c.args.versions.now))
          c.loop-version.catalog _ _ _ c.loop-version.invariant.tree c.in_ok-catalog.ensures.reads
          (subst L next c.loop-version.invariant.leaves);
    }

pub returns-clause-reads : goal.returns-clause-reads
returns-clause-reads g c =
    let folder = c.args.folder.now in
    let id_folder = c.args.id_folder.now in
    all_done (g.W.World.tree c.args.world.now) c.loop-version.catalog
    (λ (files : Tree). versions_in files folder id_folder
    (drop c.loop-version.version-index c.args.versions.now))
    (λ (files : Tree). followed_by (Ok c.args.catalog)
    (versions_in files folder id_folder c.args.versions.now))
    (λ (files : Tree). ap (versions_in files folder id_folder)
    (drop_all c.loop-version.version-index c.args.versions.now c.loop-version-test.false))
    c.loop-version.invariant.leaves

pub returns-clause-misused : goal.returns-clause-misused
returns-clause-misused g c = c.loop-version.invariant.misused _
    (no_misuse (λ (files : Tree). are_fit_versions files c.args.folder.now
    (drop c.loop-version.version-index c.args.versions.now)) (g.W.World.tree c.args.world.now)
    (g.W.World.misused c.loop-version.world) _ refl)
