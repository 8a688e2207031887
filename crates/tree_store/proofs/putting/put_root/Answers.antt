use Rattle.std.proofs.Common.{◌≡◌, ◌∙◌, sym, Err, None, Ok}
use Rattle.std.proofs.lemmas.Result.{err_from_is_err_and}
use Rattle.cnb_world.specs.declared.world.Kind.TheVariants as kind
use Rattle.tree_store.specs.Reading.{tree_in}
use Rattle.tree_store.specs.Writing.{writer_seen}
use Rattle.tree_store.proofs.Descents.{added_from, free_refuses, kind_before, leaves_read, root_added, written_read}
use Rattle.tree_store.proofs.Roots.{no_root}
use Rattle.tree_store.proofs.Written.{added_none, leaves_odd, leaves_stop, leaves_then}
use Rattle.tree_store.proofs.putting.put_root.Goals as goal

pub returns-in_err-kind_at-clause-leaves : goal.returns-in_err-kind_at-clause-leaves
returns-in_err-kind_at-clause-leaves g c =
    let exit = err_from_is_err_and c.from_residual.result c.from_residual.ensures.1 in
    rw (exit.1, exit.2) (leaves_stop (leaves_read None (writer_seen g.T.Target.state c.args.writer.now)
    (Err _) _ _ c.in_err-kind_at.ensures.leaves c.in_err-kind_at.ensures.blames
    c.in_err-kind_at.ensures.misused))

pub returns-in_err-kind_at-clause-puts : goal.returns-in_err-kind_at-clause-puts
returns-in_err-kind_at-clause-puts g c =
    let exit = err_from_is_err_and c.from_residual.result c.from_residual.ensures.1 in
    rw (exit.1, exit.2) (record {
      so = λ store before bytes h apart. added_none
          (free_refuses before (tree_in c.args.path.now) _ c.in_err-kind_at.ensures.free)
          c.in_err-kind_at.ensures.misused;
    })

pub returns-in-Folder-clause-leaves : goal.returns-in-Folder-clause-leaves
returns-in-Folder-clause-leaves g c =
    leaves_then (leaves_read None (writer_seen g.T.Target.state c.args.writer.now)
    (Ok c.in_ok-kind_at.field-0) _ _ c.in_ok-kind_at.ensures.leaves
    tt c.in_ok-kind_at.ensures.misused) c.put_names.ensures.leaves

pub returns-in-Folder-clause-puts : goal.returns-in-Folder-clause-puts
returns-in-Folder-clause-puts g c =
    record {
      so = λ store before bytes h apart. added_from c.in_ok-kind_at.ensures.misused
          (root_added c.in_ok-kind_at.field-0 c.in-Folder.is
          (kind_before c.in_ok-kind_at.field-0 h apart c.in_ok-kind_at.ensures.told)
          (c.put_names.ensures.puts.so store before bytes (written_read c.in_ok-kind_at.ensures.leaves.files h)
          apart));
    }

pub returns-in-Absent-clause-leaves : goal.returns-in-Absent-clause-leaves
returns-in-Absent-clause-leaves g c =
    leaves_then (leaves_read None (writer_seen g.T.Target.state c.args.writer.now)
    (Ok c.in_ok-kind_at.field-0) _ _ c.in_ok-kind_at.ensures.leaves
    tt c.in_ok-kind_at.ensures.misused) (leaves_odd c.args.path.now _ _ c.args.path.now c.odd.result
    c.odd.ensures)

pub returns-in-Absent-clause-puts : goal.returns-in-Absent-clause-puts
returns-in-Absent-clause-puts g c =
    record {
      so = λ store before bytes h apart. added_none
          (no_root before c.args.path.now c.in_ok-kind_at.field-0 c.odd.result
          (λ e. let clash : _ ≡ kind.Folder = sym c.in-Absent.is ∙ e in cc)
          (kind_before c.in_ok-kind_at.field-0 h apart c.in_ok-kind_at.ensures.told) c.odd.ensures)
          c.in_ok-kind_at.ensures.misused;
    }

pub returns-in-File-clause-leaves : goal.returns-in-File-clause-leaves
returns-in-File-clause-leaves g c =
    leaves_then (leaves_read None (writer_seen g.T.Target.state c.args.writer.now)
    (Ok c.in_ok-kind_at.field-0) _ _ c.in_ok-kind_at.ensures.leaves
    tt c.in_ok-kind_at.ensures.misused) (leaves_odd c.args.path.now _ _ c.args.path.now c.odd-in-File.result
    c.odd-in-File.ensures)

pub returns-in-File-clause-puts : goal.returns-in-File-clause-puts
returns-in-File-clause-puts g c =
    record {
      so = λ store before bytes h apart. added_none
          (no_root before c.args.path.now c.in_ok-kind_at.field-0 c.odd-in-File.result
          (λ e. let clash : _ ≡ kind.Folder = sym c.in-File.is ∙ e in cc)
          (kind_before c.in_ok-kind_at.field-0 h apart c.in_ok-kind_at.ensures.told) c.odd-in-File.ensures)
          c.in_ok-kind_at.ensures.misused;
    }

pub returns-in-Link-clause-leaves : goal.returns-in-Link-clause-leaves
returns-in-Link-clause-leaves g c =
    leaves_then (leaves_read None (writer_seen g.T.Target.state c.args.writer.now)
    (Ok c.in_ok-kind_at.field-0) _ _ c.in_ok-kind_at.ensures.leaves
    tt c.in_ok-kind_at.ensures.misused) (leaves_odd c.args.path.now _ _ c.args.path.now c.odd-in-Link.result
    c.odd-in-Link.ensures)

pub returns-in-Link-clause-puts : goal.returns-in-Link-clause-puts
returns-in-Link-clause-puts g c =
    record {
      so = λ store before bytes h apart. added_none
          (no_root before c.args.path.now c.in_ok-kind_at.field-0 c.odd-in-Link.result
          (λ e. let clash : _ ≡ kind.Folder = sym c.in-Link.is ∙ e in cc)
          (kind_before c.in_ok-kind_at.field-0 h apart c.in_ok-kind_at.ensures.told) c.odd-in-Link.ensures)
          c.in_ok-kind_at.ensures.misused;
    }

pub returns-in-Odd-clause-leaves : goal.returns-in-Odd-clause-leaves
returns-in-Odd-clause-leaves g c =
    leaves_then (leaves_read None (writer_seen g.T.Target.state c.args.writer.now)
    (Ok c.in_ok-kind_at.field-0) _ _ c.in_ok-kind_at.ensures.leaves
    tt c.in_ok-kind_at.ensures.misused) (leaves_odd c.args.path.now _ _ c.args.path.now c.odd-in-Odd.result
    c.odd-in-Odd.ensures)

pub returns-in-Odd-clause-puts : goal.returns-in-Odd-clause-puts
returns-in-Odd-clause-puts g c =
    record {
      so = λ store before bytes h apart. added_none
          (no_root before c.args.path.now c.in_ok-kind_at.field-0 c.odd-in-Odd.result
          (λ e. let clash : _ ≡ kind.Folder = sym c.in-Odd.is ∙ e in cc)
          (kind_before c.in_ok-kind_at.field-0 h apart c.in_ok-kind_at.ensures.told) c.odd-in-Odd.ensures)
          c.in_ok-kind_at.ensures.misused;
    }
