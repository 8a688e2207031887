use Rattle.std.proofs.Common.{◌≡◌, ◌∙◌, refl, sym}
use Rattle.cnb_world.specs.Tree.{can_make_folder}
use Rattle.cnb_world.specs.declared.world.Kind.TheVariants as kind
use Rattle.tree_store.proofs.Around.{itself}
use Rattle.tree_store.proofs.Right.{can_make_absent, kind_not_root, right}
use Rattle.tree_store.proofs.PartlyLaid.{kind_other}
use Rattle.tree_store.proofs.Partly.{folder_has, made_partly, partly_itself}
use Rattle.tree_store.proofs.laying.lay_folder_over.Goals as goal

pub returns-in-Folder-clause-around : goal.returns-in-Folder-clause-around
returns-in-Folder-clause-around g c = itself _ _

pub returns-in-Folder-clause-right : goal.returns-in-Folder-clause-right
returns-in-Folder-clause-right g c = λ told all. refl

pub returns-in-Absent-clause-right : goal.returns-in-Absent-clause-right
returns-in-Absent-clause-right g c = λ told all. right (λ files. can_make_folder files c.args.path.now)
    (g.W.World.tree c.args.world.now) c.make_folder.result _ _
    (can_make_absent c.args.path.now (g.W.World.tree c.args.world.now) c.args.kind c.in-Absent.is told all)
    c.make_folder.ensures.misused

pub returns-in-File-clause-right : goal.returns-in-File-clause-right
returns-in-File-clause-right g c = λ told all. c.replace_by_folder.ensures.right
    (kind_not_root c.args.path.now (g.W.World.tree c.args.world.now) c.args.kind
    (λ e. let no : _ ≡ kind.Folder = sym c.in-File.is ∙ e in cc) told) all

pub returns-in-Odd-clause-right : goal.returns-in-Odd-clause-right
returns-in-Odd-clause-right g c = λ told all. c.replace_by_folder-in-Odd.ensures.right
    (kind_not_root c.args.path.now (g.W.World.tree c.args.world.now) c.args.kind
    (λ e. let no : _ ≡ kind.Folder = sym c.in-Odd.is ∙ e in cc) told) all

pub returns-in-Folder-clause-partly : goal.returns-in-Folder-clause-partly
returns-in-Folder-clause-partly g c = λ told. partly_itself _ _ _ _ refl

pub returns-in-Absent-clause-partly : goal.returns-in-Absent-clause-partly
returns-in-Absent-clause-partly g c = λ told. made_partly c.args.path.now _ c.make_folder.result _ _
    (folder_has c.args.path.now) c.make_folder.ensures.ok c.make_folder.ensures.err

pub returns-in-File-clause-partly : goal.returns-in-File-clause-partly
returns-in-File-clause-partly g c = λ told. c.replace_by_folder.ensures.partly
    (kind_other c.args.path.now (g.W.World.tree c.args.world.now) c.args.kind
    (λ e. let no : _ ≡ kind.Folder = sym c.in-File.is ∙ e in cc)
    (λ e. let no : _ ≡ kind.Absent = sym c.in-File.is ∙ e in cc) told)

pub returns-in-Link-clause-partly : goal.returns-in-Link-clause-partly
returns-in-Link-clause-partly g c = λ told. c.replace_by_folder-in-Link.ensures.partly
    (kind_other c.args.path.now (g.W.World.tree c.args.world.now) c.args.kind
    (λ e. let no : _ ≡ kind.Folder = sym c.in-Link.is ∙ e in cc)
    (λ e. let no : _ ≡ kind.Absent = sym c.in-Link.is ∙ e in cc) told)

pub returns-in-Odd-clause-partly : goal.returns-in-Odd-clause-partly
returns-in-Odd-clause-partly g c = λ told. c.replace_by_folder-in-Odd.ensures.partly
    (kind_other c.args.path.now (g.W.World.tree c.args.world.now) c.args.kind
    (λ e. let no : _ ≡ kind.Folder = sym c.in-Odd.is ∙ e in cc)
    (λ e. let no : _ ≡ kind.Absent = sym c.in-Odd.is ∙ e in cc) told)
