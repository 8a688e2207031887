use Rattle.std.proofs.Common.{◌∙◌, [], ap, arith}
use Rattle.std.proofs.lemmas.Result.{err_from_is_err_and}
use Rattle.std.specs.Option.{option_map}
use Rattle.tree_store.specs.Target.{ToFile}
use Rattle.tree_store.specs.Writing.{can_begin}
use Rattle.tree_store.proofs.FolderPuts.{not_begun, put_all_others, tree_named, walk_refused}
use Rattle.tree_store.proofs.Settled.{may_then}
use Rattle.tree_store.proofs.Written.{others_value, same_file}
use Rattle.tree_store.proofs.folders.put_walked.Goals as goal

pub returns-in_err-writer : goal.returns-in_err-writer
returns-in_err-writer g c =
    let exit = err_from_is_err_and c.from_residual.result c.from_residual.ensures.1 in
    rw (exit.1, exit.2) (record {
      steps = (not_begun c.args.store.now c.args.path.now
          c.in_err-writer.ensures.leaves c.in_err-writer.ensures.free c.in_err-writer.ensures.blames
          c.in_err-writer.ensures.misused);
    })

pub put_or_clear-requires : goal.put_or_clear-requires
put_or_clear-requires g c =
    record {
      store = c.requires.store;
      file = c.requires.file;
      path = same_file _ _ c.in-Ok.ensures.leaves.stays ∙ c.in_ok-writer.ensures.path;
    }

pub returns-in-Ok : goal.returns-in-Ok
returns-in-Ok g c = record {
  steps =
      let walked = c.in-Ok.ensures.puts.so c.args.store.now (g.W.World.tree c.args.world.now) []
      c.in_ok-writer.ensures.begun c.requires.apart in let tree = walked.added.1 in
      tree_named c.args.path.now tree.node tree.bytes tree.read
      (may_then (option_map (can_begin c.args.store.now) (g.W.World.tree c.args.world.now)) _ walked.right
      c.in_ok-writer.ensures.misused) (put_all_others (ap ToFile c.in_ok-writer.ensures.path)
      c.in_ok-writer.ensures.leaves
      c.in-Ok.ensures.leaves c.put_or_clear.ensures.leaves)
      (c.put_or_clear.ensures.puts (g.W.World.tree c.args.world.now) walked.added.0 walked.added.2
      (omega (arith, tree.length_is))) c.put_or_clear.ensures.blames;
}

pub returns-in-Err : goal.returns-in-Err
returns-in-Err g c = record {
  steps =
      let walked = c.in-Err.ensures.puts.so c.args.store.now (g.W.World.tree c.args.world.now) []
      c.in_ok-writer.ensures.begun c.requires.apart in
      walk_refused (ap ToFile c.in_ok-writer.ensures.path) (others_value tt c.in_ok-writer.ensures.leaves)
      c.in_ok-writer.ensures.misused c.in-Err.ensures.leaves walked.refused walked.right
      c.cleared.ensures.cleared c.cleared.ensures.blames;
}
