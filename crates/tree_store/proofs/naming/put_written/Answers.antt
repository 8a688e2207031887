use Rattle.std.proofs.Common.{◌∙◌, ap, refl, Err}
use Rattle.std.proofs.lemmas.Result.{err_from_is_err_and}
use Rattle.cnb_world.specs.Tree.{is_within}
use Rattle.tree_store.specs.Target.{ToFile}
use Rattle.tree_store.specs.Writing.{new_path, trees_of}
use Rattle.tree_store.proofs.Settled.{apart_name, either_in, is_flushed, names_free, names_from, new_within, other_path}
use Rattle.tree_store.proofs.Settled.{put_others, put_others_stop, put_others_then, put_others_value, same_right}
use Rattle.tree_store.proofs.Written.{leaves_others, others_stop, same_file}
use Rattle.tree_store.proofs.naming.put_written.Goals as goal

pub returns-in_err-flush-clause-leaves : goal.returns-in_err-flush-clause-leaves
returns-in_err-flush-clause-leaves g c =
    let exit = err_from_is_err_and c.from_residual.result c.from_residual.ensures.1 in
    rw (exit.1, exit.2) (put_others (others_stop (leaves_others (new_path c.args.store.now) (ap ToFile c.requires.path)
    (c.in_err-flush.ensures.leaves (trees_of c.args.store.now)))))

pub returns-in_err-flush-clause-blames : goal.returns-in_err-flush-clause-blames
returns-in_err-flush-clause-blames g c =
    let exit = err_from_is_err_and c.from_residual.result c.from_residual.ensures.1 in
    rw (exit.1, exit.2) (either_in {A = Unit {0}} (trees_of c.args.store.now) c.args.writer.target.path (Err _)
    (ap (is_within (trees_of c.args.store.now)) c.requires.path ∙ new_within c.args.store.now)
    (c.in_err-flush.ensures.leaves (trees_of c.args.store.now)).blames)

pub returns-in_err-flush-clause-puts : goal.returns-in_err-flush-clause-puts
returns-in_err-flush-clause-puts g c =
    λ before bytes h short.
    let exit = err_from_is_err_and c.from_residual.result c.from_residual.ensures.1 in
    rw (exit.1, exit.2) (let x = ((c.in_err-flush.ensures.adds (other_path c.args.store.now)).so c.args.store.now
    before bytes h (apart_name c.args.store.now)) in record
    { digest = tt; named = names_free x.refused (same_right before _ _ _ x.right) })

pub returns-in_err-name_file-clause-leaves : goal.returns-in_err-name_file-clause-leaves
returns-in_err-name_file-clause-leaves g c =
    let exit = err_from_is_err_and c.from_residual-in_err-name_file.result c.from_residual-in_err-name_file.ensures.1 in
    rw (exit.1, exit.2) (put_others_then (leaves_others (new_path c.args.store.now) (ap ToFile c.requires.path)
    (c.in_ok-flush.ensures.leaves (trees_of c.args.store.now)))
    (put_others_stop c.in_err-name_file.ensures.leaves))

pub returns-in_err-name_file-clause-puts : goal.returns-in_err-name_file-clause-puts
returns-in_err-name_file-clause-puts g c =
    λ before bytes h short. let x = ((c.in_ok-flush.ensures.adds (other_path c.args.store.now)).so
    c.args.store.now before bytes h (apart_name c.args.store.now))
    in let flushed = is_flushed _ refl x.added.1 c.in_ok-flush.ensures.empty x.added.2 in
    let exit = err_from_is_err_and c.from_residual-in_err-name_file.result c.from_residual-in_err-name_file.ensures.1 in
    rw (exit.1, exit.2) (record {
      digest = tt;
      named = names_from x.right
          (c.in_err-name_file.ensures.names before bytes (c.end-path.ensures.digest bytes flushed.hashed) short
          flushed.files flushed.kept);
    })

pub returns-clause-leaves : goal.returns-clause-leaves
returns-clause-leaves g c =
    put_others_then (leaves_others (new_path c.args.store.now) (ap ToFile c.requires.path)
    (c.in_ok-flush.ensures.leaves (trees_of c.args.store.now)))
    (put_others_value _ c.in_ok-name_file.ensures.leaves)

pub returns-clause-puts : goal.returns-clause-puts
returns-clause-puts g c =
    λ before bytes h short. let x = ((c.in_ok-flush.ensures.adds (other_path c.args.store.now)).so
    c.args.store.now before bytes h (apart_name c.args.store.now))
    in let flushed = is_flushed _ refl x.added.1 c.in_ok-flush.ensures.empty x.added.2 in
    record {
      digest = c.end-path.ensures.digest bytes flushed.hashed;
      named = names_from x.right
          (c.in_ok-name_file.ensures.names before bytes (c.end-path.ensures.digest bytes flushed.hashed) short
          flushed.files flushed.kept);
    }

pub name_file-requires : goal.name_file-requires
name_file-requires g c = record {
  store = c.requires.store;
  file = ap (λ file. file.path) c.end-path.ensures.target
      ∙ same_file _ _ (c.in_ok-flush.ensures.leaves (trees_of c.args.store.now)).stays ∙ c.requires.path;
}
