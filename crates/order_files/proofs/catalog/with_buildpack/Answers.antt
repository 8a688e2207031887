use Rattle.std.proofs.Common.{◌≡◌, ◌∙◌, ℕ, List, Err, Ok, ap, subst, sym}
use Rattle.std.specs.Prelude.{IfSome}
use Rattle.std.proofs.lemmas.Result.{err_from_is_err_and}
use Rattle.cnb_world.specs.Listing.{names_in}
use Rattle.cnb_world.specs.Path.{joined}
use Rattle.cnb_world.specs.Tree.{Tree}
use Rattle.order_files.specs.Catalog.{are_fit_versions, followed_by, is_fit_buildpack, versions_in}
use Rattle.doc_files.proofs.NamesRead.{names_told, told}
use Rattle.order_files.proofs.Behind.{IsFolder, folder_read, folder_refused, passed_over}
use Rattle.order_files.proofs.FolderSteps.{buildpack_fits, buildpack_from, buildpack_refused_from, listable, names_fit}
use Rattle.cnb_world.proofs.Misuse.{no_misuse}
use Rattle.order_files.proofs.Misuse.{folder_fits}
use Rattle.doc_files.specs.Faults.{read_cause}
use Rattle.steps.proofs.ReadingLaws.{answers_where}
use Rattle.order_files.proofs.catalog.with_buildpack.Goals as goal

pub returns-then-not-branch-clause-reads : goal.returns-then-not-branch-clause-reads
returns-then-not-branch-clause-reads g c =
    let place = c.in_ok-folder.folder in
    let same = c.in_ok-folder.ensures.0 ∙ ap (joined c.args.buildpacks.now) c.as_str.ensures in
    let none = subst (IsFolder (g.W.World.tree c.args.world.now) place) c.if-not-branch.true
    c.in_ok-is_folder.ensures.reads in
    buildpack_from c.args.buildpacks.now c.args.id_folder.now place same c.args.catalog
    (g.W.World.tree c.args.world.now) (Ok c.args.catalog)
    (passed_over place (λ (files : Tree). versions_in files place c.args.id_folder.now (names_in files place))
    c.args.catalog _ none)

pub returns-in_err-versions-clause-misused : goal.returns-in_err-versions-clause-misused
returns-in_err-versions-clause-misused g c =
    let place = c.in_ok-folder.folder in
    let there = subst (IsFolder (g.W.World.tree c.args.world.now) place) c.if-not-branch.false
    c.in_ok-is_folder.ensures.reads in
    no_misuse (λ (files : Tree). is_fit_buildpack files c.args.buildpacks.now c.args.id_folder.now) _ _ _
    (listable place _ _ _ _ c.in_ok-is_folder.ensures.leaves.files there c.in_err-versions.ensures.misused
    ∙ c.in_ok-is_folder.ensures.misused)

pub returns-in_err-catalog-clause-reads : goal.returns-in_err-catalog-clause-reads
returns-in_err-catalog-clause-reads g c =
    let place = c.in_ok-folder.folder in
    let same = c.in_ok-folder.ensures.0 ∙ ap (joined c.args.buildpacks.now) c.as_str.ensures in
    let there = subst (IsFolder (g.W.World.tree c.args.world.now) place) c.if-not-branch.false
    c.in_ok-is_folder.ensures.reads in
    let N : List (List ℕ) → Type 0 = λ names. IfSome (g.W.World.tree c.is_folder.new.world)
    (λ files. told (names_in files place) ≡ told names) in
    let names = subst N (sym c.as_slice.ensures) (names_told place c.in_ok-versions.versions _
    c.in_ok-versions.ensures.reads) in
    let exit = err_from_is_err_and c.from_residual-in_err-catalog.result c.from_residual-in_err-catalog.ensures.1 in
    rw (exit.1, exit.2) (buildpack_refused_from c.args.buildpacks.now c.args.id_folder.now place same c.args.catalog _ _
    (folder_refused place (λ (files : Tree). versions_in files place c.args.id_folder.now (names_in files place))
    c.args.catalog _ _ _ c.in_ok-is_folder.ensures.leaves.files there
    (answers_where read_cause _ _ (λ (files : Tree). told (names_in files place))
    (λ (names : List (List ℕ)) (files : Tree). followed_by (Ok c.args.catalog)
    (versions_in files place c.args.id_folder.now names)) c.as_slice.result.now
    (Err _) c.in_ok-versions.ensures.leaves.files names c.in_err-catalog.ensures.reads)))

pub returns-in_err-catalog-clause-misused : goal.returns-in_err-catalog-clause-misused
returns-in_err-catalog-clause-misused g c =
    let place = c.in_ok-folder.folder in
    let same = c.in_ok-folder.ensures.0 ∙ ap (joined c.args.buildpacks.now) c.as_str.ensures in
    let there = subst (IsFolder (g.W.World.tree c.args.world.now) place) c.if-not-branch.false
    c.in_ok-is_folder.ensures.reads in
    let N : List (List ℕ) → Type 0 = λ names. IfSome (g.W.World.tree c.is_folder.new.world)
    (λ files. told (names_in files place) ≡ told names) in
    let names = subst N (sym c.as_slice.ensures) (names_told place c.in_ok-versions.versions _
    c.in_ok-versions.ensures.reads) in
    buildpack_fits c.args.buildpacks.now c.args.id_folder.now place same _ _ _
    (folder_fits place (λ (files : Tree). are_fit_versions files place (names_in files place)) _ _ _ _ _
    c.in_ok-is_folder.ensures.leaves.files
    (listable place _ _ _ _ c.in_ok-is_folder.ensures.leaves.files there c.in_ok-versions.ensures.misused
    ∙ c.in_ok-is_folder.ensures.misused) there
    (names_fit (λ (files : Tree) (names : List (List ℕ)). are_fit_versions files place names) place
    c.as_slice.result.now _ _ _ _ c.in_ok-versions.ensures.leaves.files names
    c.in_err-catalog.ensures.misused))

pub returns-clause-reads : goal.returns-clause-reads
returns-clause-reads g c =
    let place = c.in_ok-folder.folder in
    let same = c.in_ok-folder.ensures.0 ∙ ap (joined c.args.buildpacks.now) c.as_str.ensures in
    let there = subst (IsFolder (g.W.World.tree c.args.world.now) place) c.if-not-branch.false
    c.in_ok-is_folder.ensures.reads in
    let N : List (List ℕ) → Type 0 = λ names. IfSome (g.W.World.tree c.is_folder.new.world)
    (λ files. told (names_in files place) ≡ told names) in
    let names = subst N (sym c.as_slice.ensures) (names_told place c.in_ok-versions.versions _
    c.in_ok-versions.ensures.reads) in
    buildpack_from c.args.buildpacks.now c.args.id_folder.now place same c.args.catalog
    (g.W.World.tree c.args.world.now) (Ok c.in_ok-catalog.catalog)
    (folder_read place (λ (files : Tree). versions_in files place c.args.id_folder.now (names_in files place))
    c.args.catalog _ _ (Ok c.in_ok-catalog.catalog) c.in_ok-is_folder.ensures.leaves.files there
    (answers_where read_cause _ _ (λ (files : Tree). told (names_in files place))
    (λ (names : List (List ℕ)) (files : Tree). followed_by (Ok c.args.catalog)
    (versions_in files place c.args.id_folder.now names)) c.as_slice.result.now
    (Ok c.in_ok-catalog.catalog) c.in_ok-versions.ensures.leaves.files names c.in_ok-catalog.ensures.reads))

pub returns-clause-misused : goal.returns-clause-misused
returns-clause-misused g c =
    let place = c.in_ok-folder.folder in
    let same = c.in_ok-folder.ensures.0 ∙ ap (joined c.args.buildpacks.now) c.as_str.ensures in
    let there = subst (IsFolder (g.W.World.tree c.args.world.now) place) c.if-not-branch.false
    c.in_ok-is_folder.ensures.reads in
    let N : List (List ℕ) → Type 0 = λ names. IfSome (g.W.World.tree c.is_folder.new.world)
    (λ files. told (names_in files place) ≡ told names) in
    let names = subst N (sym c.as_slice.ensures) (names_told place c.in_ok-versions.versions _
    c.in_ok-versions.ensures.reads) in
    buildpack_fits c.args.buildpacks.now c.args.id_folder.now place same _ _ _
    (folder_fits place (λ (files : Tree). are_fit_versions files place (names_in files place)) _ _ _ _ _
    c.in_ok-is_folder.ensures.leaves.files
    (listable place _ _ _ _ c.in_ok-is_folder.ensures.leaves.files there c.in_ok-versions.ensures.misused
    ∙ c.in_ok-is_folder.ensures.misused) there
    (names_fit (λ (files : Tree) (names : List (List ℕ)). are_fit_versions files place names) place
    c.as_slice.result.now _ _ _ _ c.in_ok-versions.ensures.leaves.files names c.in_ok-catalog.ensures.misused))
