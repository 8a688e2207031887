use Rattle.std.proofs.Common.{◌+◌, ◌∷◌, drop, subst}
use Rattle.std.proofs.lemmas.Result.{err_from_is_err_and}
use Rattle.cnb_world.specs.Calls.{AreNames}
use Rattle.doc_files.proofs.NamesRead.{next_name}
use Rattle.steps.proofs.EachLemmas.{goes_on, over, stops}
use Rattle.store_prune.specs.Named.{adds_name}
use Rattle.store_prune.proofs.documents.add_names.Goals as goal

pub add_name-requires-clause-part : goal.add_name-requires-clause-part
add_name-requires-clause-part g c =
    let next = next_name c.args.names.now c.loop-name.name-index c.name-item.result c.loop-name-test.true
    c.name-item.is in
    let names : AreNames (c.name-item.result ∷ drop (c.loop-name.name-index + 1) c.args.names.now) = subst
    AreNames next c.loop-name.invariant.names in
    names.0

pub returns-in_err-named : goal.returns-in_err-named
returns-in_err-named g c =
    let exit = err_from_is_err_and c.from_residual.result c.from_residual.ensures.1 in
    rw (exit.1, exit.2) (record {
      steps = c.loop-name.invariant.left _ _
          (stops (adds_name g.D.TableForm.value_in g.D.NamesTrees.digests_of c.args.folder.now) c.args.names.now
          c.loop-name.name-index c.name-item.result _ _ _ _ c.loop-name-test.true c.name-item.is
          c.in_err-named.ensures.steps);
    })

pub loop-name-preserved : goal.loop-name-preserved
loop-name-preserved g c =
    let next = next_name c.args.names.now c.loop-name.name-index c.name-item.result c.loop-name-test.true
    c.name-item.is in
    let names : AreNames (c.name-item.result ∷ drop (c.loop-name.name-index + 1) c.args.names.now) = subst
    AreNames next c.loop-name.invariant.names in
    record {
      names = names.2;
      left = λ result new h. c.loop-name.invariant.left result new
          (goes_on (adds_name g.D.TableForm.value_in g.D.NamesTrees.digests_of c.args.folder.now) c.args.names.now
          c.loop-name.name-index c.name-item.result _ _ _ _ c.loop-name-test.true c.name-item.is
          c.in_ok-named.ensures.steps result new h);
    }

pub returns : goal.returns
returns g c = record {
  steps = c.loop-name.invariant.left _ _
      (over (adds_name g.D.TableForm.value_in g.D.NamesTrees.digests_of c.args.folder.now) c.args.names.now
      c.loop-name.name-index _ _ c.loop-name-test.false);
}
