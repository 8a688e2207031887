use Rattle.std.proofs.Common.{◌≡◌, ◌<◌, ◌-◌, ◌++◌, ◌∷◌, [], ◌∙◌, arith, Ok}
use Rattle.std.proofs.lemmas.Result.{err_from_is_err_and}
use Rattle.tree_store.proofs.Nodes.{absent_read, odd_read, file_read, folder_read, folder_reads, folder_refused}
use Rattle.tree_store.proofs.Entries.{leaves_on}
use Rattle.tree_store.proofs.Fitting.{pushed_is, pushed_names, pushed_behind, pushed_fits, pushed_bytes}
use Rattle.tree_store.proofs.Fitting.{read_folder_fits}
use Rattle.tree_store.proofs.reading.+read.Goals as goal

pub read_folder-returns-in_err-entries-clause-reads : goal.read_folder-returns-in_err-entries-clause-reads
read_folder-returns-in_err-entries-clause-reads g t c =
    let exit = err_from_is_err_and c.from_residual-in_err-entries.result c.from_residual-in_err-entries.ensures.1 in
    rw (exit.1, exit.2) (folder_refused (g.W.World.tree c.args.world.now)
    (g.W.World.tree c.listed.new.world) c.args.levels c.args.path.now c.args.size c.in_ok-size.size
    c.as_slice.result.now c.in_ok-names.names _ c.in_ok-names.ensures.leaves.files c.requires.kind
    c.in_ok-size.ensures c.as_slice.ensures c.in_ok-names.ensures.told c.in_err-entries.ensures.reads)

pub read_folder-returns-clause-reads : goal.read_folder-returns-clause-reads
read_folder-returns-clause-reads g t c =
    folder_reads (g.W.World.tree c.args.world.now) (g.W.World.tree c.listed.new.world) c.args.levels
    c.args.path.now c.args.size c.in_ok-size.size c.as_slice.result.now c.in_ok-names.names
    (Ok (c.in_ok-entries.entries, c.in_ok-entries.size)) c.in_ok-names.ensures.leaves.files c.requires.kind
    c.in_ok-size.ensures c.as_slice.ensures c.in_ok-names.ensures.told c.in_ok-entries.ensures.reads

pub read_node-returns-in-Absent-clause-reads : goal.read_node-returns-in-Absent-clause-reads
read_node-returns-in-Absent-clause-reads g t c = absent_read
    (g.W.World.tree c.args.world.now) c.args.levels c.args.path.now c.args.size c.in_ok-kind_at.field-0
    c.odd.result c.in-Absent.is c.in_ok-kind_at.ensures.told c.odd.ensures

pub read_node-returns-in-Odd-clause-reads : goal.read_node-returns-in-Odd-clause-reads
read_node-returns-in-Odd-clause-reads g t c = odd_read (g.W.World.tree c.args.world.now) c.args.levels
    c.args.path.now c.args.size c.in_ok-kind_at.field-0 c.odd-in-Odd.result c.in-Odd.is
    c.in_ok-kind_at.ensures.told c.odd-in-Odd.ensures

pub read_node-returns-else-levels-eq0-clause-reads : goal.read_node-returns-else-levels-eq0-clause-reads
read_node-returns-else-levels-eq0-clause-reads g t c =
    let above : 0 < c.args.levels = omega (arith, c.if-levels-eq0.false) in
    file_read (g.W.World.tree c.args.world.now) _ c.args.levels c.args.path.now c.args.size c.read_file.result
    c.in_ok-kind_at.ensures.leaves.files above c.read_file.ensures.reads

pub read_node-returns-else-levels-eq0-2-clause-reads : goal.read_node-returns-else-levels-eq0-2-clause-reads
read_node-returns-else-levels-eq0-2-clause-reads g t c =
    let above : 0 < c.args.levels = omega (arith, c.if-levels-eq0-2.false) in
    folder_read (g.W.World.tree c.args.world.now) _ c.args.levels c.args.path.now c.args.size c.read_folder.result
    c.in_ok-kind_at.ensures.leaves.files above c.read_folder.ensures.reads

pub read_entries-loop-name-preserved : goal.read_entries-loop-name-preserved
read_entries-loop-name-preserved g t c =
    let more : c.push_entry.new.entries.items ≡ c.loop-name.entries.items
    ++ record { name = c.name-item.result; node = c.in_ok-node.node }
    ∷ [] = pushed_is c.loop-name.entries.items c.push_entry.new.entries.items c.name-item.result
    c.in_ok-copy.field-0 c.in_ok-node.node c.in_ok-copy.ensures c.in_ok-push_entry.ensures in
    record {
      names = pushed_names c.args.names.now c.loop-name.name-index c.name-item.result c.loop-name-test.true
          c.name-item.is c.loop-name.invariant.names;
      behind = pushed_behind c.loop-name.entries.items c.push_entry.new.entries.items c.args.names.now
          c.loop-name.name-index c.name-item.result c.in_ok-node.node c.loop-name-test.true c.name-item.is
          c.loop-name.invariant.names more;
      fit = pushed_fits c.loop-name.entries.items c.push_entry.new.entries.items c.args.names.now
          c.loop-name.name-index c.name-item.result c.in_ok-node.node
          (65 - c.args.levels) c.loop-name-test.true c.name-item.is c.loop-name.invariant.fit
          c.in_ok-node.ensures.name c.loop-name.invariant.behind c.in_ok-node.ensures.fit.0 more;
      bytes = pushed_bytes c.loop-name.entries.items c.push_entry.new.entries.items c.name-item.result
          c.in_ok-node.node c.args.size c.loop-name.so_far c.in_ok-node.now c.loop-name.invariant.bytes
          c.in_ok-node.ensures.fit.1 more;
      few = c.in_ok-node.ensures.few;
      tree = c.in_ok-node.ensures.leaves.files ∙ c.loop-name.invariant.tree;
      files = c.in_ok-node.ensures.leaves.counts ∙ c.loop-name.invariant.files;
      children = c.in_ok-node.ensures.leaves.children ∙ c.loop-name.invariant.children;
      runs = c.in_ok-node.ensures.leaves.runs ∙ c.loop-name.invariant.runs;
      misused = c.in_ok-node.ensures.misused ∙ c.loop-name.invariant.misused;
      leaves = leaves_on (g.W.World.tree c.args.world.now) (g.W.World.tree c.loop-name.world) c.args.levels
          c.args.size c.loop-name.so_far c.in_ok-node.now c.loop-name.name-index c.args.folder.now
          c.name-item.result c.loop-name.entries.items c.push_entry.new.entries.items c.args.names.now
          c.in_ok-node.node c.loop-name-test.true c.name-item.is c.loop-name.invariant.tree more
          c.loop-name.invariant.leaves c.in_ok-node.ensures.reads;
    }

pub read_folder-returns-clause-fit : goal.read_folder-returns-clause-fit
read_folder-returns-clause-fit g t c = read_folder_fits c.in_ok-entries.entries c.args.size c.in_ok-size.size
    c.in_ok-entries.size c.args.levels c.requires.levels c.in_ok-entries.ensures.fit c.in_ok-size.ensures
    c.in_ok-entries.ensures.bytes c.in_ok-entries.ensures.few
