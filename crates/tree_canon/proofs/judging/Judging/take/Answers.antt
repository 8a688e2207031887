use Rattle.std.proofs.Common.{◌≡◌, Err, subst}
use Rattle.tree_canon.specs.Feeding.{Feeds}
use Rattle.tree_canon.specs.declared.fault.DecodeFault.TheVariants as faults
use Rattle.tree_canon.proofs.Feeding.{fed_broken}
use Rattle.tree_canon.proofs.judging.Judging.take.Goals as goal

pub returns-in-Err-Bad : goal.returns-in-Err-Bad
returns-in-Err-Bad c =
    let known = c.in-Err-Bad.field-0-is in
    let is : c.in-Err-Bad.field-0 ≡ faults.Bad c.in-Err-Bad.field-0-0 c.in-Err-Bad.field-0-1 = cc in
    λ bytes taken. (
      c.update.ensures bytes taken.0,
      fed_broken c.args.self.now.decoder c.feed.new.self bytes
          c.args.piece.now c.in-Err-Bad.field-0-0 c.in-Err-Bad.field-0-1
          (subst (λ f. Feeds c.args.self.now.decoder c.args.piece.now (Err f) c.feed.new.self) is
          c.in-Err-Bad.ensures.fed) taken.1,
    )
