use Rattle.std.proofs.lemmas.Result.{err_from_is_err_and}
use Rattle.tree_store.proofs.Receivings.{appended_short, appended_to}
use Rattle.tree_store.proofs.receivers.ReceiversTarget.append.Goals as goal

pub returns-in_err-give_each : goal.returns-in_err-give_each
returns-in_err-give_each g c =
    let exit = err_from_is_err_and c.from_residual.result c.from_residual.ensures.1 in
    rw (exit.1, exit.2) (appended_short c.args.bytes.now c.args.self.now.digest _ _ _ _ _ _
    c.in_err-give_each.ensures.gives)

pub returns : goal.returns
returns g c = appended_to c.args.bytes.now c.args.self.now.digest _ _ _ _ _ _ c.in_ok-give_each.ensures.gives
