use Rattle.std.proofs.Common.{◌≤◌, is_ok, arith}
use Rattle.cnb_world.specs.Memory.{bytes_written}
use Rattle.cnb_world.proofs.ChangeLemmas.{pushed_fits}
use Rattle.cnb_world.proofs.memory.changes.Changes.add.Goals as goal

pub invariant_of-self : goal.invariant_of-self
invariant_of-self c =
    let counted : bytes_written c.push.new.self.items ≤ c.args.self.now.written = pushed_fits
    (is_ok c.push.result) c.args.self.now.list.items c.push.new.self.items c.args.change
    c.args.self.now.written c.push.ensures.items c.requires.counted in
    record { counted = counted; fits = omega arith }
