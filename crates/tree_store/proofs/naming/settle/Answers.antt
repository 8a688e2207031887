use Rattle.std.proofs.Common.{◌≡◌, ◌∙◌, ℕ, List, ap, false}
use Rattle.std.specs.Option.{option_map}
use Rattle.std.proofs.lemmas.Result.{err_from_is_err_and}
use Rattle.cnb_world.specs.Tree.{is_file_or_absent, is_root, item_at, without}
use Rattle.sha2.specs.Sha256.{sha256}
use Rattle.tree_store.specs.Store.{tree_path}
use Rattle.tree_store.specs.Writing.{new_path}
use Rattle.tree_store.proofs.Descents.{may_rise}
use Rattle.tree_store.proofs.Settled.{blames_fault, clash_blames, clash_counts, compared_right, may_then, names_free}
use Rattle.tree_store.proofs.Settled.{names_settled, new_plain}
use Rattle.tree_store.proofs.Written.{others_local, others_read, others_stop, others_then}
use Rattle.tree_store.proofs.naming.settle.Goals as goal

plain : (store file : List ℕ) → file ≡ new_path store → is_root file ≡ false
plain store file at = ap is_root at ∙ new_plain store

pub returns-in_err-same-clause-leaves : goal.returns-in_err-same-clause-leaves
returns-in_err-same-clause-leaves g c =
    let exit = err_from_is_err_and c.from_residual.result c.from_residual.ensures.1 in
    rw (exit.1, exit.2) (others_stop (others_read c.args.file.now c.in_err-same.ensures.leaves
    (may_rise _ _ _ c.in_err-same.ensures.misused)))

pub returns-in_err-same-clause-settles : goal.returns-in_err-same-clause-settles
returns-in_err-same-clause-settles g c =
    λ before store bytes digest_is short at new apart is kept stands.
    let exit = err_from_is_err_and c.from_residual.result c.from_residual.ensures.1 in
    rw (exit.1, exit.2) (names_free c.in_err-same.ensures.free
    (compared_right store bytes c.args.path.now c.args.file.now before _ _ _ at new apart kept is stands
    c.in_err-same.ensures.misused))

pub returns-in_err-remove_new-clause-settles : goal.returns-in_err-remove_new-clause-settles
returns-in_err-remove_new-clause-settles g c =
    λ before store bytes digest_is short at new apart is kept stands.
    let exit = err_from_is_err_and c.from_residual-in_err-remove_new.result
    c.from_residual-in_err-remove_new.ensures.1 in
    rw (exit.1, exit.2) (names_free c.in_err-remove_new.ensures.free
    (may_then (option_map (λ t. is_file_or_absent (item_at t (tree_path store (sha256 bytes)))) before) _
    (c.in_err-remove_new.ensures.right (plain store c.args.file.now new))
    (compared_right store bytes c.args.path.now c.args.file.now before _ _ _ at new apart kept is stands
    c.in_ok-same.ensures.misused)))

pub returns-clause-settles : goal.returns-clause-settles
returns-clause-settles g c =
    λ before store bytes digest_is short at new apart is kept stands. names_settled store bytes c.args.path.now
    c.args.file.now c.args.digest.now before _ _ _ c.or_clash.result c.in_ok-same.same c.args.len
    c.or_clash.ensures digest_is short at new apart kept is c.in_ok-same.ensures.told
    c.in_ok-same.ensures.stands (c.in_ok-remove_new.ensures.ok
    ∙ ap (option_map (without c.args.file.now)) c.in_ok-same.ensures.leaves.files)
    (may_then (option_map (λ t. is_file_or_absent (item_at t (tree_path store (sha256 bytes)))) before) _
    (c.in_ok-remove_new.ensures.right (plain store c.args.file.now new))
    (compared_right store bytes c.args.path.now c.args.file.now before _ _ _ at new apart kept is stands
    c.in_ok-same.ensures.misused))

pub returns-clause-leaves : goal.returns-clause-leaves
returns-clause-leaves g c =
    others_then (others_read c.args.file.now c.in_ok-same.ensures.leaves
    (may_rise _ _ _ c.in_ok-same.ensures.misused))
    (others_then c.in_ok-remove_new.ensures.leaves (others_local c.args.file.now _ c.or_clash.result
    (clash_counts c.in_ok-same.same c.args.digest.now c.or_clash.result c.or_clash.ensures)))

pub returns-in_err-remove_new-clause-leaves : goal.returns-in_err-remove_new-clause-leaves
returns-in_err-remove_new-clause-leaves g c =
    let exit = err_from_is_err_and c.from_residual-in_err-remove_new.result
    c.from_residual-in_err-remove_new.ensures.1 in
    rw (exit.1, exit.2) (others_then (others_read c.args.file.now c.in_ok-same.ensures.leaves
    (may_rise _ _ _ c.in_ok-same.ensures.misused)) (others_stop c.in_err-remove_new.ensures.leaves))

pub returns-clause-blames : goal.returns-clause-blames
returns-clause-blames g c =
    λ folder path file. clash_blames c.in_ok-same.same c.args.digest.now c.or_clash.result folder c.or_clash.ensures

pub returns-in_err-remove_new-clause-blames : goal.returns-in_err-remove_new-clause-blames
returns-in_err-remove_new-clause-blames g c =
    λ folder path file.
    let exit = err_from_is_err_and c.from_residual-in_err-remove_new.result
    c.from_residual-in_err-remove_new.ensures.1 in
    rw (exit.1, exit.2) (blames_fault folder c.args.file.now _ file c.in_err-remove_new.ensures.blames)
