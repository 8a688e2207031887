use Rattle.std.proofs.Common.{◌∙◌, ap, false, refl, true, Err}
use Rattle.tree_store.proofs.Receivings.{did, did_fail, did_not, few_receivers, here_as, kept_at, set_at, still_at}
use Rattle.tree_store.proofs.receivers.give_at.Goals as goal

pub returns-then-index : goal.returns-then-index
returns-then-index g c =
    let kept = kept_at _ c.args.number (few_receivers _ c.args.shelves.now.items c.args.number c.requires.shelf) in
    record {
      before = kept.0;
      after = kept.0;
      had = true;
      has = true;
      shelf = kept.1;
      flag = still_at c.args.failed.now.items c.args.number c.index.result.now true c.requires.flag c.index.ensures
          c.if-index.true;
      does = refl;
    }

pub returns-in-Ok : goal.returns-in-Ok
returns-in-Ok g c = record {
  before = c.give_numbered.ensures.0;
  after = c.give_numbered.ensures.1;
  had = false;
  has = false;
  shelf = c.give_numbered.ensures.2;
  flag = still_at c.args.failed.now.items c.args.number c.index.result.now false c.requires.flag c.index.ensures
      c.if-index.false;
  does = did c.args.giving.now c.args.bytes.now _ _ _ _ c.give_numbered.ensures.3 c.in-Ok.is;
}

pub returns-in-Err-Failed : goal.returns-in-Err-Failed
returns-in-Err-Failed g c = record {
  before = c.give_numbered.ensures.0;
  after = c.give_numbered.ensures.1;
  had = false;
  has = true;
  shelf = c.give_numbered.ensures.2;
  flag = set_at c.args.failed.now.items c.args.number false true c.requires.flag
      (here_as c.args.failed.now.items c.args.number c.index.result.now false c.requires.flag c.index.ensures
      c.if-index.false);
  does = did_fail c.args.giving.now c.args.bytes.now _ _ _ c.give_numbered.ensures.3
      (c.in-Err-Failed.is ∙ ap Err c.in-Err-Failed.field-0-is);
}

pub returns-in-Err-Memory : goal.returns-in-Err-Memory
returns-in-Err-Memory g c = record {
  before = c.give_numbered.ensures.0;
  after = c.give_numbered.ensures.1;
  had = false;
  has = false;
  shelf = c.give_numbered.ensures.2;
  flag = still_at c.args.failed.now.items c.args.number c.index.result.now false c.requires.flag c.index.ensures
      c.if-index.false;
  does = did_not c.args.giving.now c.args.bytes.now _ _ _ c.give_numbered.ensures.3
      (c.in-Err-Memory.is ∙ ap Err c.in-Err-Memory.field-0-is);
}
