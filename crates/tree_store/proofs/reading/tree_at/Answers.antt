use Rattle.std.proofs.Common.{◌≡◌, sym, ◌∙◌}
use Rattle.std.proofs.lemmas.Result.{err_from_is_err_and}
use Rattle.cnb_world.specs.declared.world.Kind.TheVariants as kind
use Rattle.tree_store.proofs.Roots.{root_read, root_refused, no_root}
use Rattle.tree_store.proofs.reading.tree_at.Goals as goal

pub returns-in_err-root-in-Folder-clause-reads : goal.returns-in_err-root-in-Folder-clause-reads
returns-in_err-root-in-Folder-clause-reads g c =
    let exit = err_from_is_err_and c.from_residual-in_err-root-in-Folder.result
    c.from_residual-in_err-root-in-Folder.ensures.1 in
    rw (exit.1, exit.2) (root_refused (g.W.World.tree c.args.world.now)
    (g.W.World.tree c.kind_at.new.world) c.args.path.now c.in_ok-kind_at.field-0 _
    c.in_ok-kind_at.ensures.leaves.files c.in-Folder.is c.in_ok-kind_at.ensures.told
    c.in_err-root-in-Folder.ensures.reads)

pub returns-in_ok-root-in-Folder-clause-reads : goal.returns-in_ok-root-in-Folder-clause-reads
returns-in_ok-root-in-Folder-clause-reads g c = rw c.measured.ensures
    (root_read (g.W.World.tree c.args.world.now) (g.W.World.tree c.kind_at.new.world) c.args.path.now
    c.in_ok-kind_at.field-0 (c.in_ok-root-in-Folder.root, c.in_ok-root-in-Folder.size)
    c.in_ok-kind_at.ensures.leaves.files c.in-Folder.is c.in_ok-kind_at.ensures.told
    c.in_ok-root-in-Folder.ensures.reads)

pub returns-in-Absent-clause-reads : goal.returns-in-Absent-clause-reads
returns-in-Absent-clause-reads g c = no_root (g.W.World.tree c.args.world.now) c.args.path.now
    c.in_ok-kind_at.field-0 c.odd.result (λ e. let clash : _ ≡ kind.Folder = sym c.in-Absent.is ∙ e in cc)
    c.in_ok-kind_at.ensures.told c.odd.ensures

pub returns-in-File-clause-reads : goal.returns-in-File-clause-reads
returns-in-File-clause-reads g c = no_root (g.W.World.tree c.args.world.now) c.args.path.now
    c.in_ok-kind_at.field-0 c.odd-in-File.result (λ e. let clash : _ ≡ kind.Folder = sym c.in-File.is ∙ e in cc)
    c.in_ok-kind_at.ensures.told c.odd-in-File.ensures

pub returns-in-Link-clause-reads : goal.returns-in-Link-clause-reads
returns-in-Link-clause-reads g c = no_root (g.W.World.tree c.args.world.now) c.args.path.now
    c.in_ok-kind_at.field-0 c.odd-in-Link.result (λ e. let clash : _ ≡ kind.Folder = sym c.in-Link.is ∙ e in cc)
    c.in_ok-kind_at.ensures.told c.odd-in-Link.ensures

pub returns-in-Odd-clause-reads : goal.returns-in-Odd-clause-reads
returns-in-Odd-clause-reads g c = no_root (g.W.World.tree c.args.world.now) c.args.path.now
    c.in_ok-kind_at.field-0 c.odd-in-Odd.result (λ e. let clash : _ ≡ kind.Folder = sym c.in-Odd.is ∙ e in cc)
    c.in_ok-kind_at.ensures.told c.odd-in-Odd.ensures
