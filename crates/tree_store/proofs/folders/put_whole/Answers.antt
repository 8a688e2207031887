use Rattle.std.proofs.Common.{◌≡◌, ◌∙◌, [], ap, arith, length, sym, Err}
use Rattle.std.proofs.lemmas.Result.{err_from_is_err_and}
use Rattle.cnb_world.specs.Tree.{is_within}
use Rattle.tree_store.specs.Writing.{new_path, trees_of}
use Rattle.std.specs.Option.{option_map}
use Rattle.tree_store.specs.Target.{ToFile}
use Rattle.tree_store.specs.Writing.{can_begin}
use Rattle.tree_store.proofs.FolderPuts.{no_memory, not_added, not_begun, read_refused, read_still, read_then}
use Rattle.tree_store.proofs.FolderPuts.{tree_named}
use Rattle.tree_store.proofs.Settled.{apart_name, either_in, may_then, new_within, other_path, put_others_then}
use Rattle.tree_store.proofs.Written.{leaves_others, others_then, same_file}
use Rattle.tree_store.proofs.folders.put_whole.Goals as goal

pub returns-in_err-tree : goal.returns-in_err-tree
returns-in_err-tree g c =
    let exit = err_from_is_err_and c.from_residual.result c.from_residual.ensures.1 in
    rw (exit.1, exit.2) (record {
      steps = (read_refused _ _ _ _ _ c.in_err-tree.ensures.steps
          c.in_err-tree.ensures.blames);
    })

pub returns-in_err-bytes : goal.returns-in_err-bytes
returns-in_err-bytes g c =
    let exit = err_from_is_err_and c.from_residual-in_err-bytes.result c.from_residual-in_err-bytes.ensures.1 in
    rw (exit.1, exit.2) (record {
      steps = (read_then _ _ _ _ _ _ _ c.in_ok-tree.ensures.steps
          (no_memory c.args.store.now c.args.path.now _));
    })

pub returns-in_err-writer : goal.returns-in_err-writer
returns-in_err-writer g c =
    let exit = err_from_is_err_and c.from_residual-in_err-writer.result c.from_residual-in_err-writer.ensures.1 in
    rw (exit.1, exit.2) (record {
      steps = (read_then _ _ _ _ _ _ _ c.in_ok-tree.ensures.steps
          (not_begun c.args.store.now c.args.path.now c.in_err-writer.ensures.leaves c.in_err-writer.ensures.free
          c.in_err-writer.ensures.blames c.in_err-writer.ensures.misused));
    })

pub returns : goal.returns
returns g c = record {
  steps =
      let x = ((c.in-Err.ensures.adds (other_path c.args.store.now)).so c.args.store.now
      (g.W.World.tree c.read_tree.new.world) [] c.in_ok-writer.ensures.begun (apart_name c.args.store.now)) in
      read_then _ _ _ _ _ _ _ c.in_ok-tree.ensures.steps
      (not_added c.args.store.now c.args.path.now (others_then c.in_ok-writer.ensures.leaves
      (leaves_others (new_path c.args.store.now) (ap ToFile c.in_ok-writer.ensures.path)
      (c.in-Err.ensures.leaves (trees_of c.args.store.now)))) x.refused
      (either_in {A = Unit {0}} (trees_of c.args.store.now) _ (Err _)
      (ap (is_within (trees_of c.args.store.now)) c.in_ok-writer.ensures.path ∙ new_within c.args.store.now)
      (c.in-Err.ensures.leaves (trees_of c.args.store.now)).blames)
      (may_then (option_map (can_begin c.args.store.now) (g.W.World.tree c.read_tree.new.world)) _ x.right
      c.in_ok-writer.ensures.misused) c.cleared.ensures.cleared c.cleared.ensures.blames);
}

pub put_or_clear-requires : goal.put_or_clear-requires
put_or_clear-requires g c =
    record {
      store = c.requires.store;
      file = c.requires.file;
      path = same_file _ _ (c.in-Ok.ensures.leaves (trees_of c.args.store.now)).stays
          ∙ c.in_ok-writer.ensures.path;
    }

pub returns-in-Ok : goal.returns-in-Ok
returns-in-Ok g c = record {
  steps =
      let x = ((c.in-Ok.ensures.adds (other_path c.args.store.now)).so c.args.store.now
      (g.W.World.tree c.read_tree.new.world) [] c.in_ok-writer.ensures.begun (apart_name c.args.store.now)) in
      let is : x.added.0 ≡ c.in_ok-bytes.bytes = x.added.1 ∙ c.as_slice-2.ensures in
      read_then _ _ _ _ _ _ _ c.in_ok-tree.ensures.steps
      (tree_named c.args.path.now c.in_ok-tree.tree (is ∙ c.in_ok-bytes.ensures.spelled.is)
      (read_still _ _ _ _ c.in_ok-tree.ensures.steps)
      (may_then (option_map (can_begin c.args.store.now) (g.W.World.tree c.read_tree.new.world)) _ x.right
      c.in_ok-writer.ensures.misused) (put_others_then c.in_ok-writer.ensures.leaves
      (put_others_then (leaves_others (new_path c.args.store.now) (ap ToFile c.in_ok-writer.ensures.path)
      (c.in-Ok.ensures.leaves (trees_of c.args.store.now))) c.put_or_clear.ensures.leaves))
      (c.put_or_clear.ensures.puts (g.W.World.tree c.read_tree.new.world) x.added.0 x.added.2
      (let same : length x.added.0 ≡ length c.as_slice.result.now = ap length (is ∙ sym c.as_slice.ensures)
      in omega (arith, same))) c.put_or_clear.ensures.blames);
}
