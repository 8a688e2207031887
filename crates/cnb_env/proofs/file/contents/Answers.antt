use Rattle.std.proofs.Common.{◌≡◌}
use Rattle.cnb_world.specs.declared.world.Kind.TheVariants as kind
use Rattle.cnb_env.proofs.FileLemmas.{whole_read}
use Rattle.cnb_env.proofs.file.contents.Goals as goal

pub returns-in-Ok-read-clause-reads : goal.returns-in-Ok-read-clause-reads
returns-in-Ok-read-clause-reads g c =
    let is : c.in-Ok-File.field-0 ≡ kind.File c.in-Ok-File.field-0-0 c.in-Ok-File.len = cc in
    whole_read (g.W.World.tree c.args.world.now) _ c.args.path.now c.in-Ok-File.field-0 c.in-Ok-File.field-0-0
    c.in-Ok-File.len _ c.kind.ensures.tree is c.in-Ok-File.ensures.told c.if-len-gt-LONGEST_FILE.false
    c.in-Ok-read.ensures.told
