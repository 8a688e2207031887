use Rattle.std.proofs.Common.{rules, ◌≤◌, length, sym, subst}
use Rattle.std.proofs.lemmas.Result.{on_ok_weaker}
use Rattle.app_slices.specs.Cutting.{AddsSlots, HasSlots, node_at}
use Rattle.app_slices.proofs.CutSlots.{folder_added}
use Rattle.app_slices.proofs.cutting.+cutting.Goals as goal

pub cut_node-returns-in_ok-of_folder-in-Folder : goal.cut_node-returns-in_ok-of_folder-in-Folder
cut_node-returns-in_ok-of_folder-in-Folder t c =
    let of_folder = c.in_ok-of_folder-in-Folder.of_folder in
    let has = subst (λ es. HasSlots c.args.slices.now c.args.own c.args.path.now es of_folder) c.as_slice.ensures
    c.in_ok-of_folder-in-Folder.ensures in
    let few : c.args.own ≤ length c.args.slices.now = search (rules, c.requires) in
    on_ok_weaker c.add_folders.result
    (λ adds. subst (λ n. AddsSlots c.args.slices.now
    (node_at c.args.slices.now c.args.own c.args.path.now c.args.name.now n) c.args.parts.now
    c.add_folders.new.parts) (sym c.in-Folder.is)
    (folder_added c.args.slices.now c.args.own c.args.path.now c.args.name.now _ of_folder c.args.parts.now
    c.add_folders.new.parts few has adds))
    c.add_folders.ensures
