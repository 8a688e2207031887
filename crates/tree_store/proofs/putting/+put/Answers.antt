use Rattle.std.proofs.Common.{◌≡◌, ◌≤◌, ◌<◌, ◌+◌, ◌++◌, ◌∙◌, ap, arith, length, refl, Err, None, Ok}
use Rattle.std.proofs.lemmas.Result.{err_from_is_err_and}
use Rattle.cnb_world.specs.Path.{joined}
use Rattle.cnb_world.specs.Tree.{item_at}
use Rattle.tree_canon.specs.Spelling.{limit, name_bytes}
use Rattle.tree_store.specs.Reading.{node_at, node_of}
use Rattle.tree_store.specs.declared.fault.StoreFault.TheVariants.{Memory}
use Rattle.tree_store.specs.Writing.{writer_seen}
use Rattle.tree_store.proofs.Descents.{added_from, added_with, apart_part, deep_file_refuses, deep_folder_refuses}
use Rattle.tree_store.proofs.Descents.{entries_put, entry_joined, entry_put, entry_refused, folder_above}
use Rattle.tree_store.proofs.Descents.{folder_no_room, folder_put, folder_refuses, free_refuses, joined_refused}
use Rattle.tree_store.proofs.Descents.{kind_before, leaves_deep, leaves_read, node_bytes_as, none_put, refuses_above}
use Rattle.tree_store.proofs.Descents.{written_read}
use Rattle.tree_store.proofs.Fitting.{pushed_names}
use Rattle.tree_store.proofs.Nodes.{absent_read, odd_read}
use Rattle.tree_store.proofs.Written.{added_as, added_none, added_nothing, added_stop, added_then, added_value}
use Rattle.tree_store.proofs.Written.{leaves_local, leaves_memory, leaves_odd, leaves_room, leaves_stop, leaves_then}
use Rattle.tree_store.proofs.Written.{leaves_value, leaves_wider}
use Rattle.tree_store.proofs.putting.+put.Goals as goal

pub put_entry-returns-in_err-bytes-clause-leaves : goal.put_entry-returns-in_err-bytes-clause-leaves
put_entry-returns-in_err-bytes-clause-leaves g t c =
    let exit = err_from_is_err_and c.from_residual.result c.from_residual.ensures.1 in
    rw (exit.1, exit.2) (leaves_memory c.args.folder.now _ _ _ refl)

pub put_entry-returns-in_err-add-clause-leaves : goal.put_entry-returns-in_err-add-clause-leaves
put_entry-returns-in_err-add-clause-leaves g t c =
    let exit = err_from_is_err_and c.from_residual-in_err-add.result c.from_residual-in_err-add.ensures.1 in
    rw (exit.1, exit.2) (leaves_stop (c.in_err-add.ensures.leaves c.args.folder.now))

pub put_entry-returns-in_err-add-clause-puts : goal.put_entry-returns-in_err-add-clause-puts
put_entry-returns-in_err-add-clause-puts g t c =
    let exit = err_from_is_err_and c.from_residual-in_err-add.result c.from_residual-in_err-add.ensures.1 in
    rw (exit.1, exit.2) (record {
      so = λ store before bytes h apart. added_stop
          (λ free. free_refuses before (λ files. node_at c.args.levels files
          (joined c.args.folder.now c.args.name.now) (c.args.size + (2 + length c.args.name.now))) _ free)
          ((c.in_err-add.ensures.adds c.args.folder.now).so store before bytes h apart);
    })

pub put_entry-returns-in_err-path-clause-leaves : goal.put_entry-returns-in_err-path-clause-leaves
put_entry-returns-in_err-path-clause-leaves g t c =
    let exit = err_from_is_err_and c.from_residual-in_err-path.result c.from_residual-in_err-path.ensures.1 in
    rw (exit.1, exit.2) (leaves_then (c.in_ok-add.ensures.leaves c.args.folder.now)
    (leaves_memory c.args.folder.now _ _ _ refl))

pub put_entry-returns-in_err-path-clause-puts : goal.put_entry-returns-in_err-path-clause-puts
put_entry-returns-in_err-path-clause-puts g t c =
    let exit = err_from_is_err_and c.from_residual-in_err-path.result c.from_residual-in_err-path.ensures.1 in
    rw (exit.1, exit.2) (record {
      so = λ store before bytes h apart. added_then
          ((c.in_ok-add.ensures.adds c.args.folder.now).so store before bytes h apart)
          (λ more is held. added_none (free_refuses before
          (λ files. node_at c.args.levels files (joined c.args.folder.now c.args.name.now)
          (c.args.size + (2 + length c.args.name.now))) Memory refl) refl);
    })

pub put_entry-returns-clause-leaves : goal.put_entry-returns-clause-leaves
put_entry-returns-clause-leaves g t c =
    leaves_then (c.in_ok-add.ensures.leaves c.args.folder.now)
    (leaves_wider c.args.name.now (c.in_ok-path.ensures.0 ∙ ap (joined c.args.folder.now) c.as_str-2.ensures)
    c.requires.part c.put_node.ensures.leaves)

pub put_entry-returns-clause-puts : goal.put_entry-returns-clause-puts
put_entry-returns-clause-puts g t c =
    record {
      so = λ store before bytes h apart. added_then
          ((c.in_ok-add.ensures.adds c.args.folder.now).so store before bytes h apart)
          (λ more is held. added_as (λ now next one. entry_joined c.args.levels c.args.size c.args.folder.now
          c.args.name.now c.in_ok-path.path c.head_length-head.result c.head_length-head.ensures.length
          (c.in_ok-path.ensures.0 ∙ ap (joined c.args.folder.now) c.as_str-2.ensures)
          (is ∙ c.as_slice.ensures.value ∙ c.in_ok-bytes.ensures.bytes ∙ ap name_bytes c.as_str.ensures) one)
          (λ fault why. joined_refused before c.args.levels c.args.size c.args.folder.now c.args.name.now
          c.in_ok-path.path c.head_length-head.result fault c.head_length-head.ensures.length
          (c.in_ok-path.ensures.0 ∙ ap (joined c.args.folder.now) c.as_str-2.ensures) why)
          (c.put_node.ensures.puts.so store before _ held
          (apart_part store c.args.folder.now c.args.name.now c.in_ok-path.path
          (c.in_ok-path.ensures.0 ∙ ap (joined c.args.folder.now) c.as_str-2.ensures) c.requires.part
          apart)));
    }

pub put_entries-loop-name-init : goal.put_entries-loop-name-init
put_entries-loop-name-init g t c =
    record {
      within = omega arith;
      names = c.requires.names;
      few = c.requires.size;
      leaves = leaves_local c.args.folder.now _ _ _ (Ok tt) refl (λ n. refl);
      puts = record {
        so = λ store before bytes h apart. added_nothing tt
            (none_put before c.args.levels c.args.folder.now c.args.names.now c.args.size) h;
      };
    }

pub put_entries-loop-name-preserved : goal.put_entries-loop-name-preserved
put_entries-loop-name-preserved g t c =
    record {
      within = omega (arith, c.loop-name-test.true);
      names = pushed_names c.args.names.now c.loop-name.name-index c.name-item.result c.loop-name-test.true
          c.name-item.is c.loop-name.invariant.names;
      few = c.in_ok-now.ensures.few;
      leaves = leaves_then c.loop-name.invariant.leaves (leaves_value tt c.in_ok-now.ensures.leaves);
      puts = record {
        so = λ store before bytes h apart. added_then (c.loop-name.invariant.puts.so store before bytes h apart)
            (λ more far held. added_value tt (λ next one. entry_put c.in_ok-now.now c.name-item.result
            c.loop-name-test.true c.name-item.is c.loop-name.invariant.names c.in_ok-now.ensures.name far one)
            (c.in_ok-now.ensures.puts.so store before _ held apart));
      };
    }

pub put_entries-returns-in_err-now-clause-leaves : goal.put_entries-returns-in_err-now-clause-leaves
put_entries-returns-in_err-now-clause-leaves g t c =
    let exit = err_from_is_err_and c.from_residual.result c.from_residual.ensures.1 in
    rw (exit.1, exit.2) (leaves_then c.loop-name.invariant.leaves (leaves_stop c.in_err-now.ensures.leaves))

pub put_entries-returns-in_err-now-clause-puts : goal.put_entries-returns-in_err-now-clause-puts
put_entries-returns-in_err-now-clause-puts g t c =
    let exit = err_from_is_err_and c.from_residual.result c.from_residual.ensures.1 in
    rw (exit.1, exit.2) (record {
      so = λ store before bytes h apart. added_then (c.loop-name.invariant.puts.so store before bytes h apart)
          (λ more far held. added_stop (λ why. entry_refused c.name-item.result _ c.loop-name-test.true
          c.name-item.is far why) (c.in_err-now.ensures.puts.so store before _ held apart));
    })

pub put_entries-returns-clause-leaves : goal.put_entries-returns-clause-leaves
put_entries-returns-clause-leaves g t c =
    leaves_value _ c.loop-name.invariant.leaves

pub put_entries-returns-clause-puts : goal.put_entries-returns-clause-puts
put_entries-returns-clause-puts g t c =
    let end : c.loop-name.name-index ≡ length c.args.names.now = omega
    (arith, c.loop-name-test.false, c.loop-name.invariant.within) in
    record {
      so = λ store before bytes h apart. added_value _ (λ more far. entries_put end far)
          (c.loop-name.invariant.puts.so store before bytes h apart);
    }

pub put_names-returns-in_err-size-clause-leaves : goal.put_names-returns-in_err-size-clause-leaves
put_names-returns-in_err-size-clause-leaves g t c =
    let exit = err_from_is_err_and c.from_residual.result c.from_residual.ensures.1 in
    rw (exit.1, exit.2) (leaves_room c.args.path.now _ _ (c.args.size + 5) _ c.in_err-size.ensures)

pub put_names-returns-in_err-size-clause-puts : goal.put_names-returns-in_err-size-clause-puts
put_names-returns-in_err-size-clause-puts g t c =
    let exit = err_from_is_err_and c.from_residual.result c.from_residual.ensures.1 in
    rw (exit.1, exit.2) (record {
      so = λ store before bytes h apart. added_none
          (folder_no_room c.args.levels c.args.size _ h apart c.requires.kind c.in_err-size.ensures) refl;
    })

pub put_names-returns-in_err-names-clause-leaves : goal.put_names-returns-in_err-names-clause-leaves
put_names-returns-in_err-names-clause-leaves g t c =
    let exit = err_from_is_err_and c.from_residual-in_err-names.result c.from_residual-in_err-names.ensures.1 in
    rw (exit.1, exit.2) (leaves_stop (leaves_read None (writer_seen g.T.Target.state c.args.writer.now)
    (Err _) _ _ c.in_err-names.ensures.leaves c.in_err-names.ensures.blames c.in_err-names.ensures.misused))

pub put_names-returns-in_err-names-clause-puts : goal.put_names-returns-in_err-names-clause-puts
put_names-returns-in_err-names-clause-puts g t c =
    let exit = err_from_is_err_and c.from_residual-in_err-names.result c.from_residual-in_err-names.ensures.1 in
    rw (exit.1, exit.2) (record {
      so = λ store before bytes h apart. added_none
          (free_refuses before (λ files. node_of files c.args.path.now
          (λ name. node_at c.args.levels files (joined c.args.path.now name)) c.args.size
          (item_at files c.args.path.now)) _ c.in_err-names.ensures.free) c.in_err-names.ensures.misused;
    })

pub put_names-returns-in_err-head-clause-leaves : goal.put_names-returns-in_err-head-clause-leaves
put_names-returns-in_err-head-clause-leaves g t c =
    let exit = err_from_is_err_and c.from_residual-in_err-head.result c.from_residual-in_err-head.ensures.1 in
    rw (exit.1, exit.2) (leaves_then (leaves_read None (writer_seen g.T.Target.state c.args.writer.now)
    (Ok c.in_ok-names.names) _ _ c.in_ok-names.ensures.leaves tt c.in_ok-names.ensures.misused)
    (leaves_memory c.args.path.now _ _ _ refl))

pub put_names-returns-in_err-head-clause-puts : goal.put_names-returns-in_err-head-clause-puts
put_names-returns-in_err-head-clause-puts g t c =
    let exit = err_from_is_err_and c.from_residual-in_err-head.result c.from_residual-in_err-head.ensures.1 in
    rw (exit.1, exit.2) (record {
      so = λ store before bytes h apart. added_none
          (free_refuses before (λ files. node_of files c.args.path.now
          (λ name. node_at c.args.levels files (joined c.args.path.now name)) c.args.size
          (item_at files c.args.path.now)) Memory refl) c.in_ok-names.ensures.misused;
    })

pub put_names-returns-in_err-add-clause-leaves : goal.put_names-returns-in_err-add-clause-leaves
put_names-returns-in_err-add-clause-leaves g t c =
    let exit = err_from_is_err_and c.from_residual-in_err-add.result c.from_residual-in_err-add.ensures.1 in
    rw (exit.1, exit.2) (leaves_then (leaves_read None (writer_seen g.T.Target.state c.args.writer.now)
    (Ok c.in_ok-names.names) _ _ c.in_ok-names.ensures.leaves tt c.in_ok-names.ensures.misused)
    (leaves_stop (c.in_err-add.ensures.leaves c.args.path.now)))

pub put_names-returns-in_err-add-clause-puts : goal.put_names-returns-in_err-add-clause-puts
put_names-returns-in_err-add-clause-puts g t c =
    let exit = err_from_is_err_and c.from_residual-in_err-add.result c.from_residual-in_err-add.ensures.1 in
    rw (exit.1, exit.2) (record {
      so = λ store before bytes h apart. added_from c.in_ok-names.ensures.misused
          (added_stop (λ free. free_refuses before (λ files. node_of files c.args.path.now
          (λ name. node_at c.args.levels files (joined c.args.path.now name)) c.args.size
          (item_at files c.args.path.now)) _ free) ((c.in_err-add.ensures.adds c.args.path.now).so store before
          bytes (written_read c.in_ok-names.ensures.leaves.files h) apart));
    })

pub put_names-returns-clause-leaves : goal.put_names-returns-clause-leaves
put_names-returns-clause-leaves g t c =
    leaves_then (leaves_read None (writer_seen g.T.Target.state c.args.writer.now)
    (Ok c.in_ok-names.names) _ _ c.in_ok-names.ensures.leaves tt
    c.in_ok-names.ensures.misused) (leaves_then (c.in_ok-add.ensures.leaves c.args.path.now)
    c.put_entries.ensures.leaves)

pub put_names-returns-clause-puts : goal.put_names-returns-clause-puts
put_names-returns-clause-puts g t c =
    record {
      so = λ store before bytes h apart. added_from c.in_ok-names.ensures.misused
          (added_then ((c.in_ok-add.ensures.adds c.args.path.now).so store before bytes
          (written_read c.in_ok-names.ensures.leaves.files h) apart)
          (λ more is held. added_with (λ now. now ≤ limit) c.put_entries.ensures.few
          (λ total next few es. node_bytes_as (ap (λ m. m ++ next)
          (is ∙ c.as_slice.ensures.value ∙ c.in_ok-head.ensures.bytes))
          (folder_put h apart c.requires.levels c.requires.kind c.in_ok-size.ensures c.as_slice-items.ensures
          c.in_ok-names.ensures.names c.in_ok-names.ensures.lists few es))
          (λ fault why. folder_refuses c.args.levels c.args.size fault h apart c.requires.kind
          c.in_ok-size.ensures c.as_slice-items.ensures c.in_ok-names.ensures.names
          c.in_ok-names.ensures.lists why)
          (c.put_entries.ensures.puts.so store before _ held apart)));
    }

pub put_node-returns-in_err-kind_at-clause-leaves : goal.put_node-returns-in_err-kind_at-clause-leaves
put_node-returns-in_err-kind_at-clause-leaves g t c =
    let exit = err_from_is_err_and c.from_residual.result c.from_residual.ensures.1 in
    rw (exit.1, exit.2) (leaves_stop (leaves_read None (writer_seen g.T.Target.state c.args.writer.now)
    (Err _) _ _ c.in_err-kind_at.ensures.leaves c.in_err-kind_at.ensures.blames
    c.in_err-kind_at.ensures.misused))

pub put_node-returns-in_err-kind_at-clause-puts : goal.put_node-returns-in_err-kind_at-clause-puts
put_node-returns-in_err-kind_at-clause-puts g t c =
    let exit = err_from_is_err_and c.from_residual.result c.from_residual.ensures.1 in
    rw (exit.1, exit.2) (record {
      so = λ store before bytes h apart. added_none
          (free_refuses before (λ files. node_at c.args.levels files c.args.path.now c.args.size) _
          c.in_err-kind_at.ensures.free) c.in_err-kind_at.ensures.misused;
    })

pub put_node-returns-in-Absent-clause-leaves : goal.put_node-returns-in-Absent-clause-leaves
put_node-returns-in-Absent-clause-leaves g t c =
    leaves_then (leaves_read None (writer_seen g.T.Target.state c.args.writer.now)
    (Ok c.in_ok-kind_at.field-0) _ _ c.in_ok-kind_at.ensures.leaves
    tt c.in_ok-kind_at.ensures.misused) (leaves_odd c.args.path.now _ _ c.args.path.now c.odd.result
    c.odd.ensures)

pub put_node-returns-in-Absent-clause-puts : goal.put_node-returns-in-Absent-clause-puts
put_node-returns-in-Absent-clause-puts g t c =
    record {
      so = λ store before bytes h apart. added_none
          (absent_read before c.args.levels c.args.path.now c.args.size c.in_ok-kind_at.field-0 c.odd.result
          c.in-Absent.is (kind_before c.in_ok-kind_at.field-0 h apart c.in_ok-kind_at.ensures.told) c.odd.ensures)
          c.in_ok-kind_at.ensures.misused;
    }

pub put_node-returns-in-Odd-clause-leaves : goal.put_node-returns-in-Odd-clause-leaves
put_node-returns-in-Odd-clause-leaves g t c =
    leaves_then (leaves_read None (writer_seen g.T.Target.state c.args.writer.now)
    (Ok c.in_ok-kind_at.field-0) _ _ c.in_ok-kind_at.ensures.leaves
    tt c.in_ok-kind_at.ensures.misused) (leaves_odd c.args.path.now _ _ c.args.path.now c.odd-in-Odd.result
    c.odd-in-Odd.ensures)

pub put_node-returns-in-Odd-clause-puts : goal.put_node-returns-in-Odd-clause-puts
put_node-returns-in-Odd-clause-puts g t c =
    record {
      so = λ store before bytes h apart. added_none
          (odd_read before c.args.levels c.args.path.now c.args.size c.in_ok-kind_at.field-0 c.odd-in-Odd.result
          c.in-Odd.is (kind_before c.in_ok-kind_at.field-0 h apart c.in_ok-kind_at.ensures.told)
          c.odd-in-Odd.ensures) c.in_ok-kind_at.ensures.misused;
    }

pub put_node-returns-in-Link-clause-leaves : goal.put_node-returns-in-Link-clause-leaves
put_node-returns-in-Link-clause-leaves g t c =
    leaves_then (leaves_read None (writer_seen g.T.Target.state c.args.writer.now)
    (Ok c.in_ok-kind_at.field-0) _ _ c.in_ok-kind_at.ensures.leaves
    tt c.in_ok-kind_at.ensures.misused) c.put_link.ensures.leaves

pub put_node-returns-in-Link-clause-puts : goal.put_node-returns-in-Link-clause-puts
put_node-returns-in-Link-clause-puts g t c =
    record {
      so = λ store before bytes h apart. added_from c.in_ok-kind_at.ensures.misused
          (c.put_link.ensures.puts.so store before bytes (written_read c.in_ok-kind_at.ensures.leaves.files h)
          apart);
    }

pub put_node-returns-then-levels-eq0-clause-leaves : goal.put_node-returns-then-levels-eq0-clause-leaves
put_node-returns-then-levels-eq0-clause-leaves g t c =
    leaves_then (leaves_read None (writer_seen g.T.Target.state c.args.writer.now)
    (Ok c.in_ok-kind_at.field-0) _ _ c.in_ok-kind_at.ensures.leaves
    tt c.in_ok-kind_at.ensures.misused) (leaves_deep c.args.path.now _ _ c.too_deep.result c.too_deep.ensures)

pub put_node-returns-then-levels-eq0-clause-puts : goal.put_node-returns-then-levels-eq0-clause-puts
put_node-returns-then-levels-eq0-clause-puts g t c =
    record {
      so = λ store before bytes h apart. added_none
          (deep_file_refuses before c.args.levels c.args.path.now c.args.size c.in_ok-kind_at.field-0 c.in-File.exec
          c.in-File.len c.too_deep.result c.if-levels-eq0.true c.too_deep.ensures c.in-File.is
          (kind_before c.in_ok-kind_at.field-0 h apart c.in_ok-kind_at.ensures.told))
          c.in_ok-kind_at.ensures.misused;
    }

pub put_node-returns-else-levels-eq0-clause-leaves : goal.put_node-returns-else-levels-eq0-clause-leaves
put_node-returns-else-levels-eq0-clause-leaves g t c =
    leaves_then (leaves_read None (writer_seen g.T.Target.state c.args.writer.now)
    (Ok c.in_ok-kind_at.field-0) _ _ c.in_ok-kind_at.ensures.leaves
    tt c.in_ok-kind_at.ensures.misused) c.put_file.ensures.leaves

pub put_node-returns-else-levels-eq0-clause-puts : goal.put_node-returns-else-levels-eq0-clause-puts
put_node-returns-else-levels-eq0-clause-puts g t c =
    let above : 0 < c.args.levels = omega (arith, c.if-levels-eq0.false) in
    record {
      so = λ store before bytes h apart. added_from c.in_ok-kind_at.ensures.misused
          ((c.put_file.ensures.puts c.args.levels above c.requires.levels).so store before bytes
          (written_read c.in_ok-kind_at.ensures.leaves.files h) apart);
    }

pub put_node-returns-then-levels-eq0-2-clause-leaves : goal.put_node-returns-then-levels-eq0-2-clause-leaves
put_node-returns-then-levels-eq0-2-clause-leaves g t c =
    leaves_then (leaves_read None (writer_seen g.T.Target.state c.args.writer.now)
    (Ok c.in_ok-kind_at.field-0) _ _ c.in_ok-kind_at.ensures.leaves
    tt c.in_ok-kind_at.ensures.misused) (leaves_deep c.args.path.now _ _ c.too_deep-then-levels-eq0-2.result
    c.too_deep-then-levels-eq0-2.ensures)

pub put_node-returns-then-levels-eq0-2-clause-puts : goal.put_node-returns-then-levels-eq0-2-clause-puts
put_node-returns-then-levels-eq0-2-clause-puts g t c =
    record {
      so = λ store before bytes h apart. added_none
          (deep_folder_refuses before c.args.levels c.args.path.now c.args.size c.in_ok-kind_at.field-0
          c.too_deep-then-levels-eq0-2.result c.if-levels-eq0-2.true c.too_deep-then-levels-eq0-2.ensures
          c.in-Folder.is (kind_before c.in_ok-kind_at.field-0 h apart c.in_ok-kind_at.ensures.told))
          c.in_ok-kind_at.ensures.misused;
    }

pub put_node-returns-else-levels-eq0-2-clause-leaves : goal.put_node-returns-else-levels-eq0-2-clause-leaves
put_node-returns-else-levels-eq0-2-clause-leaves g t c =
    leaves_then (leaves_read None (writer_seen g.T.Target.state c.args.writer.now)
    (Ok c.in_ok-kind_at.field-0) _ _ c.in_ok-kind_at.ensures.leaves
    tt c.in_ok-kind_at.ensures.misused) c.put_names.ensures.leaves

pub put_node-returns-else-levels-eq0-2-clause-puts : goal.put_node-returns-else-levels-eq0-2-clause-puts
put_node-returns-else-levels-eq0-2-clause-puts g t c =
    let above : 0 < c.args.levels = omega (arith, c.if-levels-eq0-2.false) in
    record {
      so = λ store before bytes h apart. added_from c.in_ok-kind_at.ensures.misused
          (added_as (λ now more one. folder_above c.args.path.now above one)
          (λ fault why. refuses_above before c.args.path.now c.args.levels c.args.size fault above why)
          (c.put_names.ensures.puts.so store before bytes (written_read c.in_ok-kind_at.ensures.leaves.files h)
          apart));
    }
