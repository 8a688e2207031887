use Rattle.std.proofs.Common.{append-nil, subst, sym, ◌∙◌, ap, ◌++◌}
use Rattle.std.proofs.lemmas.Result.{err_from_is_err_and}
use Rattle.tree_store.specs.Reading.{tree_in}
use Rattle.tree_store.specs.Writing.{IsTreeOf}
use Rattle.tree_store.proofs.Descents.{free_refuses}
use Rattle.tree_store.proofs.Written.{added_as, added_stop, added_then, leaves_stop, leaves_then}
use Rattle.tree_store.proofs.caching.walk.Goals as goal

pub returns-in_err-put_tree : goal.returns-in_err-put_tree
returns-in_err-put_tree g c =
    let exit = err_from_is_err_and c.from_residual.result c.from_residual.ensures.1 in
    rw (exit.1, exit.2) (record {
      leaves = leaves_stop c.in_err-put_tree.ensures.leaves;
      adds = record {
        so = λ store before bytes h apart. added_stop (λ why. why)
            (c.in_err-put_tree.ensures.puts.so store before bytes h apart);
      };
      held = tt;
    })

pub returns : goal.returns
returns g c = record {
  leaves = leaves_then c.in_ok-put_tree.ensures.leaves (c.flush.ensures.leaves c.args.path.now);
  adds = record {
    so = λ store before bytes h apart. added_then (c.in_ok-put_tree.ensures.puts.so store before bytes h apart)
        (λ more is held. added_as
        (λ done next none. (
          _,
          subst (IsTreeOf before c.args.path.now _) (sym (ap (λ n. more ++ n) none
              ∙ append-nil more)) is,
        )) (λ fault free. free_refuses before (tree_in c.args.path.now) fault free)
        ((c.flush.ensures.adds c.args.path.now).so store before _ held apart));
  };
  held = c.flush.ensures.empty;
}
