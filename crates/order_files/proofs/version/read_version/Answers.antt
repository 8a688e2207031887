use Rattle.std.proofs.Common.{◌∙◌, Ok, ap, subst}
use Rattle.std.proofs.lemmas.Result.{err_from_is_err_and}
use Rattle.cnb_world.specs.Path.{joined}
use Rattle.cnb_world.specs.Tree.{Tree}
use Rattle.order_files.specs.Catalog.{listed}
use Rattle.order_files.specs.Descriptor.{descriptor_at, is_fit_descriptor}
use Rattle.order_files.proofs.Behind.{IsFolder, descriptor_added, descriptor_refused, folder_read, folder_refused}
use Rattle.order_files.proofs.Behind.{passed_over}
use Rattle.order_files.proofs.FolderSteps.{version_fits, version_from, version_refused_from}
use Rattle.order_files.proofs.Misuse.{folder_fits}
use Rattle.order_files.proofs.version.read_version.Goals as goal

pub returns-then-not-branch-clause-reads : goal.returns-then-not-branch-clause-reads
returns-then-not-branch-clause-reads g c =
    let place = c.in_ok-place.place in
    let same = c.in_ok-place.ensures.0 ∙ ap (joined c.args.folder.now) c.as_str.ensures in
    let none = subst (IsFolder (g.W.World.tree c.args.world.now) place) c.if-not-branch.true
    c.in_ok-is_folder.ensures.reads in
    version_from c.args.folder.now c.args.id_folder.now c.args.version.now place same c.args.catalog
    (g.W.World.tree c.args.world.now) (Ok c.args.catalog)
    (passed_over place (λ (files : Tree). listed (descriptor_at files place c.args.id_folder.now
    c.args.version.now)) c.args.catalog _ none)

pub returns-in_err-found-clause-reads : goal.returns-in_err-found-clause-reads
returns-in_err-found-clause-reads g c =
    let place = c.in_ok-place.place in
    let same = c.in_ok-place.ensures.0 ∙ ap (joined c.args.folder.now) c.as_str.ensures in
    let there = subst (IsFolder (g.W.World.tree c.args.world.now) place) c.if-not-branch.false
    c.in_ok-is_folder.ensures.reads in
    let exit = err_from_is_err_and c.from_residual-in_err-found.result c.from_residual-in_err-found.ensures.1 in
    rw (exit.1, exit.2) (version_refused_from c.args.folder.now c.args.id_folder.now c.args.version.now place same
    c.args.catalog _ _
    (folder_refused place (λ (files : Tree). listed
    (descriptor_at files place c.args.id_folder.now c.args.version.now)) c.args.catalog _ _ _
    c.in_ok-is_folder.ensures.leaves.files there
    (descriptor_refused (λ (files : Tree). descriptor_at files place c.args.id_folder.now c.args.version.now)
    c.args.catalog _ _ c.in_err-found.ensures.reads)))

pub returns-in_err-found-clause-misused : goal.returns-in_err-found-clause-misused
returns-in_err-found-clause-misused g c =
    let place = c.in_ok-place.place in
    let same = c.in_ok-place.ensures.0 ∙ ap (joined c.args.folder.now) c.as_str.ensures in
    let there = subst (IsFolder (g.W.World.tree c.args.world.now) place) c.if-not-branch.false
    c.in_ok-is_folder.ensures.reads in
    version_fits c.args.folder.now c.args.id_folder.now c.args.version.now place same _ _ _
    (folder_fits place (λ (files : Tree). is_fit_descriptor files place) _ _ _ _ _
    c.in_ok-is_folder.ensures.leaves.files c.in_ok-is_folder.ensures.misused there
    c.in_err-found.ensures.misused)

pub returns-in_err-catalog-clause-misused : goal.returns-in_err-catalog-clause-misused
returns-in_err-catalog-clause-misused g c =
    let place = c.in_ok-place.place in
    let same = c.in_ok-place.ensures.0 ∙ ap (joined c.args.folder.now) c.as_str.ensures in
    let there = subst (IsFolder (g.W.World.tree c.args.world.now) place) c.if-not-branch.false
    c.in_ok-is_folder.ensures.reads in
    version_fits c.args.folder.now c.args.id_folder.now c.args.version.now place same _ _ _
    (folder_fits place (λ (files : Tree). is_fit_descriptor files place) _ _ _ _ _
    c.in_ok-is_folder.ensures.leaves.files c.in_ok-is_folder.ensures.misused there
    c.in_ok-found.ensures.misused)

pub returns-clause-reads : goal.returns-clause-reads
returns-clause-reads g c =
    let place = c.in_ok-place.place in
    let same = c.in_ok-place.ensures.0 ∙ ap (joined c.args.folder.now) c.as_str.ensures in
    let there = subst (IsFolder (g.W.World.tree c.args.world.now) place) c.if-not-branch.false
    c.in_ok-is_folder.ensures.reads in
    version_from c.args.folder.now c.args.id_folder.now c.args.version.now place same c.args.catalog
    (g.W.World.tree c.args.world.now) (Ok c.in_ok-catalog.catalog)
    (folder_read place (λ (files : Tree). listed (descriptor_at files place c.args.id_folder.now
    c.args.version.now)) c.args.catalog _ _ (Ok c.in_ok-catalog.catalog) c.in_ok-is_folder.ensures.leaves.files
    there
    (descriptor_added (λ (files : Tree). descriptor_at files place c.args.id_folder.now c.args.version.now)
    c.args.catalog _ c.in_ok-found.found c.in_ok-catalog.catalog c.in_ok-found.ensures.reads
    c.in_ok-catalog.ensures.added))

pub returns-clause-misused : goal.returns-clause-misused
returns-clause-misused g c =
    let place = c.in_ok-place.place in
    let same = c.in_ok-place.ensures.0 ∙ ap (joined c.args.folder.now) c.as_str.ensures in
    let there = subst (IsFolder (g.W.World.tree c.args.world.now) place) c.if-not-branch.false
    c.in_ok-is_folder.ensures.reads in
    version_fits c.args.folder.now c.args.id_folder.now c.args.version.now place same _ _ _
    (folder_fits place (λ (files : Tree). is_fit_descriptor files place) _ _ _ _ _
    c.in_ok-is_folder.ensures.leaves.files c.in_ok-is_folder.ensures.misused there
    c.in_ok-found.ensures.misused)
