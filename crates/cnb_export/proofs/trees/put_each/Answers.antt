use Rattle.std.proofs.Common.{◌≡◌, ◌<◌, ◌≤◌, ap, arith, drop, get_or, length, subst}
use Rattle.std.proofs.lemmas.Iterator.Adapters.{YieldsList-from_vec}
use Rattle.std.proofs.lemmas.Iterator.Consumers.{YieldsList-end, YieldsList-turn}
use Rattle.std.proofs.lemmas.List.{length_push}
use Rattle.std.proofs.lemmas.Result.{err_from_is_err_and}
use Rattle.steps.specs.Each.{for_each}
use Rattle.steps.specs.Outside.{seen}
use Rattle.steps.proofs.EachLemmas.{goes_on, over, stops}
use Rattle.cnb_export.specs.Trees.{puts_part}
use Rattle.cnb_export.proofs.trees.put_each.Goals as goal

pub returns-in_err-digests : goal.returns-in_err-digests
returns-in_err-digests g c =
    let into = c.into_iter-tree-iterator.ensures.into_iter_gives in
    let every = YieldsList-from_vec {s = c.into_iter-tree-iterator.result} c.into_vec-tree-items.result.items
    into.0 (omega (arith, into.1, c.into_vec-tree-items.result.ok.0)) in
    let turn = YieldsList-turn every c.loop-tree.yielded c.loop-tree.tree-iterator c.loop-tree.yielded_by
    c.next.result c.next.new.self c.in-Some.tree c.in-Some.is c.next.ensures.steps in
    let here = subst (λ trees. (length c.loop-tree.yielded < length trees)
    × (c.in-Some.tree ≡ get_or trees (length c.loop-tree.yielded) c.in-Some.tree))
    c.into_vec-tree-items.ensures turn in
    let exit = err_from_is_err_and c.from_residual.result c.from_residual.ensures.1 in
    rw (exit.1, exit.2) (record {
      step = c.loop-tree.invariant _ _
          (stops _ c.args.trees (length c.loop-tree.yielded) c.in-Some.tree _ _ _ _ here.0 here.1
          c.in_err-digests.ensures.step);
    })

pub loop-tree-preserved : goal.loop-tree-preserved
loop-tree-preserved g c = λ result new h.
    let into = c.into_iter-tree-iterator.ensures.into_iter_gives in
    let every = YieldsList-from_vec {s = c.into_iter-tree-iterator.result} c.into_vec-tree-items.result.items
    into.0 (omega (arith, into.1, c.into_vec-tree-items.result.ok.0)) in
    let turn = YieldsList-turn every c.loop-tree.yielded c.loop-tree.tree-iterator c.loop-tree.yielded_by
    c.next.result c.next.new.self c.in-Some.tree c.in-Some.is c.next.ensures.steps in
    let here = subst (λ trees. (length c.loop-tree.yielded < length trees)
    × (c.in-Some.tree ≡ get_or trees (length c.loop-tree.yielded) c.in-Some.tree))
    c.into_vec-tree-items.ensures turn in
    let rest = subst (λ n. for_each (puts_part c.args.store.now) (drop n c.args.trees) c.in_ok-digests.digests
    (seen g.W.World c.put_part.new.world) result new) (length_push c.loop-tree.yielded c.in-Some.tree) h in
    c.loop-tree.invariant result new (goes_on _ c.args.trees
    (length c.loop-tree.yielded) c.in-Some.tree _ _ _ _ here.0 here.1 c.in_ok-digests.ensures.step result new
    rest)

pub returns : goal.returns
returns g c =
    let into = c.into_iter-tree-iterator.ensures.into_iter_gives in
    let every = YieldsList-from_vec {s = c.into_iter-tree-iterator.result} c.into_vec-tree-items.result.items
    into.0 (omega (arith, into.1, c.into_vec-tree-items.result.ok.0)) in
    let done = YieldsList-end every c.loop-tree.yielded c.loop-tree.tree-iterator c.loop-tree.yielded_by
    c.next.result c.next.new.self c.in-None.is c.next.ensures.steps in
    let all : length c.args.trees ≤ length c.loop-tree.yielded = omega
    (arith, done.1, ap length c.into_vec-tree-items.ensures) in
    record { step = c.loop-tree.invariant _ _ (over _ c.args.trees (length c.loop-tree.yielded) _ _ all) }
