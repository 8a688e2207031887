use Rattle.std.proofs.Common.{Err, None}
use Rattle.std.proofs.lemmas.Result.{err_from_is_err_and}
use Rattle.tree_store.specs.Reading.{link_of, node_at}
use Rattle.tree_store.specs.Writing.{writer_seen}
use Rattle.tree_store.proofs.Descents.{added_from, leaves_read, link_same, node_as, refuses_as, written_read}
use Rattle.tree_store.proofs.Written.{added_as, leaves_stop}
use Rattle.tree_store.proofs.putting.put_link.Goals as goal

pub returns-in_err-target-clause-leaves : goal.returns-in_err-target-clause-leaves
returns-in_err-target-clause-leaves g c =
    let exit = err_from_is_err_and c.from_residual.result c.from_residual.ensures.1 in
    rw (exit.1, exit.2) (leaves_stop (leaves_read None (writer_seen g.T.Target.state c.args.writer.now)
    (Err _) _ _ c.in_err-target.ensures.leaves c.in_err-target.ensures.blames c.in_err-target.ensures.misused))

pub returns-clause-puts : goal.returns-clause-puts
returns-clause-puts g c =
    record {
      so = λ store before bytes h apart. added_from c.in_ok-target.ensures.misused
          (added_as (λ now more is. node_as (link_same c.args.levels c.args.size c.as_str.result.now
          c.in_ok-target.target c.as_str.ensures h apart c.requires.kind c.in_ok-target.ensures.told) is)
          (λ fault why. refuses_as before (λ files. link_of c.args.path.now c.args.levels c.args.size
          c.as_str.result.now) (λ files. node_at c.args.levels files c.args.path.now c.args.size) fault
          (link_same c.args.levels c.args.size c.as_str.result.now c.in_ok-target.target c.as_str.ensures h
          apart c.requires.kind c.in_ok-target.ensures.told) why)
          (c.put_target.ensures.puts.so store before bytes (written_read c.in_ok-target.ensures.leaves.files h) apart));
    }
