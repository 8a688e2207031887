use Rattle.std.proofs.Common.{[], List, ℕ, ap, codes, refl}
use Rattle.cnb_world.proofs.Misuse.{one_fits}
use Rattle.cnb_world.specs.Path.{joined}
use Rattle.cnb_world.specs.Tree.{Tree}
use Rattle.cnb_env.specs.Files.{is_fit_folder}
use Rattle.cnb_env.specs.Layers.{folder_applied, giving, phase_folders}
use Rattle.cnb_env.specs.declared.layers.Phase.{Phase}
use Rattle.cnb_env.proofs.EachLemmas.{one_alone}
use Rattle.cnb_env.proofs.layers.apply_phase_folders.Goals as goal

pub returns-in-Build-clause-reads : goal.returns-in-Build-clause-reads
returns-in-Build-clause-reads g c =
    let layer = c.args.layer.now in
    one_alone folder_applied (joined layer (codes "env.build")) c.args.env.now
    (phase_folders c.args.phase.now layer) (ap (λ (phase : Phase). phase_folders phase layer) c.in-Build.is)
    (g.W.World.tree c.args.world.now) (giving c.apply_folder.new.env c.apply_folder.result)
    c.apply_folder.ensures.reads

pub returns-in-Build-clause-misused : goal.returns-in-Build-clause-misused
returns-in-Build-clause-misused g c =
    let layer = c.args.layer.now in
    one_fits (λ (files : Tree) (folder : List ℕ). is_fit_folder folder files)
    (joined layer (codes "env.build")) [] (phase_folders c.args.phase.now layer)
    (ap (λ (phase : Phase). phase_folders phase layer) c.in-Build.is) _ _ refl _ _
    c.apply_folder.ensures.misused
