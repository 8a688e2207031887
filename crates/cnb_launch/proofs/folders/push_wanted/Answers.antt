use Rattle.cnb_launch.proofs.FolderLemmas.{below_fits}
use Rattle.cnb_launch.proofs.folders.push_wanted.Goals as goal

pub below-requires-clause-short : goal.below-requires-clause-short
below-requires-clause-short g c = below_fits c.args.folder.now c.args.name.now _ c.as_str.ensures c.requires.part
    c.requires.short
