use Rattle.std.proofs.Common.{◌≡◌, ℕ, List, Err, Ok, refl, subst, sym}
use Rattle.std.specs.List.{list_all}
use Rattle.std.specs.Prelude.{IfSome}
use Rattle.std.proofs.lemmas.Result.{err_from_is_err_and}
use Rattle.cnb_world.specs.Listing.{names_in}
use Rattle.cnb_world.specs.Tree.{Tree, can_list}
use Rattle.order_files.specs.Catalog.{buildpacks_in, catalog_in, is_fit_buildpack, is_fit_catalog}
use Rattle.doc_files.proofs.NamesRead.{names_told, told}
use Rattle.order_files.proofs.FolderSteps.{names_fit}
use Rattle.cnb_world.proofs.Misuse.{both, no_misuse}
use Rattle.doc_files.specs.Faults.{read_cause}
use Rattle.doc_files.specs.Reading.{names_at}
use Rattle.steps.proofs.ReadingLaws.{answers_where}
use Rattle.order_files.proofs.catalog.read_catalog.Goals as goal

pub returns-in_err-id_folders-clause-misused : goal.returns-in_err-id_folders-clause-misused
unfolding is_fit_catalog
returns-in_err-id_folders-clause-misused g c =
    let buildpacks = c.args.buildpacks.now in
    both (λ (files : Tree). can_list files buildpacks)
    (λ (files : Tree). list_all (is_fit_buildpack files buildpacks) (names_in files buildpacks)) _ _ _ _ _
    refl c.in_err-id_folders.ensures.misused
    (no_misuse (λ (files : Tree). list_all (is_fit_buildpack files buildpacks) (names_in files buildpacks)) _ _ _ refl)

pub returns-in_err-catalog-clause-reads : goal.returns-in_err-catalog-clause-reads
unfolding catalog_in
returns-in_err-catalog-clause-reads g c =
    let buildpacks = c.args.buildpacks.now in
    let N : List (List ℕ) → Type 0 = λ names. IfSome (g.W.World.tree c.args.world.now)
    (λ files. names_at files buildpacks ≡ told names) in
    let names = subst N (sym c.as_slice.ensures) c.in_ok-id_folders.ensures.reads in
    let exit = err_from_is_err_and c.from_residual-in_err-catalog.result c.from_residual-in_err-catalog.ensures.1 in
    rw (exit.1, exit.2) (answers_where read_cause _ _ (λ (files : Tree). names_at files buildpacks)
    (λ (names : List (List ℕ)) (files : Tree). buildpacks_in files buildpacks names) c.as_slice.result.now
    (Err _) c.in_ok-id_folders.ensures.leaves.files names c.in_err-catalog.ensures.reads)

pub returns-in_err-catalog-clause-misused : goal.returns-in_err-catalog-clause-misused
unfolding is_fit_catalog
returns-in_err-catalog-clause-misused g c =
    let buildpacks = c.args.buildpacks.now in
    let N : List (List ℕ) → Type 0 = λ names. IfSome (g.W.World.tree c.args.world.now)
    (λ files. names_at files buildpacks ≡ told names) in
    let names = subst N (sym c.as_slice.ensures) c.in_ok-id_folders.ensures.reads in
    both (λ (files : Tree). can_list files buildpacks)
    (λ (files : Tree). list_all (is_fit_buildpack files buildpacks) (names_in files buildpacks)) _ _ _ _ _
    refl c.in_ok-id_folders.ensures.misused
    (names_fit (λ (files : Tree) (names : List (List ℕ)). list_all (is_fit_buildpack files buildpacks) names)
    buildpacks c.as_slice.result.now _ _ _ _ c.in_ok-id_folders.ensures.leaves.files
    (names_told buildpacks c.as_slice.result.now _ names) c.in_err-catalog.ensures.misused)

pub returns-clause-reads : goal.returns-clause-reads
unfolding catalog_in
returns-clause-reads g c =
    let buildpacks = c.args.buildpacks.now in
    let N : List (List ℕ) → Type 0 = λ names. IfSome (g.W.World.tree c.args.world.now)
    (λ files. names_at files buildpacks ≡ told names) in
    let names = subst N (sym c.as_slice.ensures) c.in_ok-id_folders.ensures.reads in
    answers_where read_cause _ _ (λ (files : Tree). names_at files buildpacks)
    (λ (names : List (List ℕ)) (files : Tree). buildpacks_in files buildpacks names) c.as_slice.result.now
    (Ok c.in_ok-catalog.catalog) c.in_ok-id_folders.ensures.leaves.files names c.in_ok-catalog.ensures.reads

pub returns-clause-misused : goal.returns-clause-misused
unfolding is_fit_catalog
returns-clause-misused g c =
    let buildpacks = c.args.buildpacks.now in
    let N : List (List ℕ) → Type 0 = λ names. IfSome (g.W.World.tree c.args.world.now)
    (λ files. names_at files buildpacks ≡ told names) in
    let names = subst N (sym c.as_slice.ensures) c.in_ok-id_folders.ensures.reads in
    both (λ (files : Tree). can_list files buildpacks)
    (λ (files : Tree). list_all (is_fit_buildpack files buildpacks) (names_in files buildpacks)) _ _ _ _ _
    refl c.in_ok-id_folders.ensures.misused
    (names_fit (λ (files : Tree) (names : List (List ℕ)). list_all (is_fit_buildpack files buildpacks) names)
    buildpacks c.as_slice.result.now _ _ _ _ c.in_ok-id_folders.ensures.leaves.files
    (names_told buildpacks c.as_slice.result.now _ names) c.in_ok-catalog.ensures.misused)
