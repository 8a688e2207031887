use Rattle.std.proofs.Common.{refl}
use Rattle.tree_canon.proofs.Pieces.{adds_close}
use Rattle.tree_canon.proofs.decoder.close.Goals as goal

pub loop-scanner-preserved : goal.loop-scanner-preserved
loop-scanner-preserved c =
    let before = c.loop-scanner in
    record {
      place = record {
        at = before.invariant.place.at;
        folders = before.invariant.place.folders;
        next =
            before.invariant.place.next;
        part = before.invariant.place.part;
      };
      made = λ bytes h. adds_close before.scanner _ before.building c.add.new.self c.loop-scanner-test.true refl
          refl refl refl refl c.in_ok-add.ensures bytes (before.invariant.made bytes h);
    }
