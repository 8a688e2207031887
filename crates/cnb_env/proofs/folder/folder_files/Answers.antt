use Rattle.std.proofs.Common.{◌≡◌, true, false, inl}
use Rattle.std.proofs.lemmas.Result.{err_from_is_err_and}
use Rattle.doc_files.proofs.Blame.{blames_among}
use Rattle.cnb_env.specs.Files.{IsOfFolder, is_absent}
use Rattle.cnb_env.proofs.FolderLemmas.{absent_folder, standing_refused, standing_folder}
use Rattle.cnb_env.proofs.folder.folder_files.Goals as goal

pub returns-in-Ok-clause-reads : goal.returns-in-Ok-clause-reads
returns-in-Ok-clause-reads g c =
    let absent : is_absent c.in-Ok.kind ≡ true = cc in
    absent_folder c.args.naming c.args.folder.now (g.W.World.tree c.args.world.now) c.in-Ok.kind c.new.result
    c.new.ensures absent c.in-Ok.ensures.told

pub returns-in_err-read_folder-in-Ok-2-clause-reads : goal.returns-in_err-read_folder-in-Ok-2-clause-reads
returns-in_err-read_folder-in-Ok-2-clause-reads g c =
    let stands : is_absent c.in-Ok.kind ≡ false = cc in
    let exit = err_from_is_err_and c.from_residual.result c.from_residual.ensures.1 in
    rw (exit.1, exit.2) (standing_refused c.args.naming c.args.folder.now _ _ c.in-Ok.kind _ c.kind.ensures.tree
    stands c.in-Ok.ensures.told c.in_err-read_folder-in-Ok-2.ensures.reads)

pub returns-in_ok-read_folder-in-Ok-2-clause-reads : goal.returns-in_ok-read_folder-in-Ok-2-clause-reads
returns-in_ok-read_folder-in-Ok-2-clause-reads g c =
    let stands : is_absent c.in-Ok.kind ≡ false = cc in
    standing_folder c.args.naming c.args.folder.now _ _ c.in-Ok.kind _ c.kind.ensures.tree stands
    c.in-Ok.ensures.told c.in_ok-read_folder-in-Ok-2.ensures.reads

pub returns-in-Err-clause-blames : goal.returns-in-Err-clause-blames
returns-in-Err-clause-blames g c = blames_among c.args.folder.now (IsOfFolder c.args.folder.now)
    (λ blamed e. inl e) _ _ c.blamed.ensures
