use Rattle.std.proofs.Common.{◌∙◌, ap}
use Rattle.cnb_world.specs.Tree.{is_root}
use Rattle.cnb_layers.proofs.RootLaws.{no_root}
use Rattle.cnb_layers.proofs.folder.contents_folder.Goals as goal

pub returns-clause-plain : goal.returns-clause-plain
returns-clause-plain c = ap is_root c.in_ok-path.ensures.path
    ∙ no_root c.args.folder.now c.args.layer.now c.named.ensures
