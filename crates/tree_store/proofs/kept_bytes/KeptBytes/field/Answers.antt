use Rattle.std.proofs.Common.{ap, arith, ◌≡◌, ◌≤◌, ◌++◌, ℕ, List, length, length-append}
use Rattle.std.proofs.lemmas.Result.{err_from_is_err_and}
use Rattle.tree_store.proofs.Ahead.{does_local, does_on, does_stop, leaves_local, leaves_on, leaves_stop}
use Rattle.tree_store.proofs.Takes.{ok_then, takes_then}
use Rattle.tree_store.proofs.kept_bytes.KeptBytes.field.Goals as goal

within : (field rest : List ℕ) (len : ℕ) → length field ≡ len → len ≤ length (field ++ rest)
within field rest len is = omega (arith, length-append field rest)

pub returns-in_err-fill-clause-leaves : goal.returns-in_err-fill-clause-leaves
returns-in_err-fill-clause-leaves g c = λ path.
    let exit = err_from_is_err_and c.from_residual.result c.from_residual.ensures.1 in
    rw (exit.1, exit.2) (leaves_stop path _ _ _ _ _ (c.in_err-fill.ensures.leaves path))

pub returns-in_err-fill-clause-reads : goal.returns-in_err-fill-clause-reads
returns-in_err-fill-clause-reads g c = λ field rest folders is.
    let exit = err_from_is_err_and c.from_residual.result c.from_residual.ensures.1 in
    rw (exit.1, exit.2) (does_stop _ _ (field ++ rest) (field ++ rest) rest _ _ folders folders folders _ _ _ _ _
    (c.in_err-fill.ensures.reads (field ++ rest) folders (within field rest c.args.len is)))

pub returns-clause-leaves : goal.returns-clause-leaves
returns-clause-leaves g c = λ path. leaves_on path _ _ _ _ _ _ tt _ (c.in_ok-fill.ensures.leaves path)
    (leaves_local path (g.O.Origin.state c.fill.new.self.origin) _ _ _
    (ap g.O.Origin.state c.cut.ensures.stays) c.cut.ensures.counts
    (c.cut.ensures.blames path (g.O.Origin.state c.fill.new.self.origin)))

pub returns-clause-reads : goal.returns-clause-reads
returns-clause-reads g c = λ field rest folders is.
    does_on (λ done. Unit {0}) (λ read. read ≡ field) (field ++ rest) (field ++ rest) rest (λ files. files)
    (λ files. files) folders folders folders _ _ _ _ _ _ tt _
    (c.in_ok-fill.ensures.reads (field ++ rest) folders (within field rest c.args.len is))
    (λ done. does_local (λ read. read ≡ field) (field ++ rest) rest folders _ _ _ _
    (c.cut.ensures.value _ field rest is) (c.cut.ensures.ahead _ field rest is)
    (c.cut.ensures.free _ (field ++ rest) (within field rest c.args.len is)))

pub returns-clause-takes : goal.returns-clause-takes
returns-clause-takes g c = ok_then _ _ c.cut.result
    (λ read cut. takes_then c.in_ok-fill.ensures.takes (cut _)) c.cut.ensures.takes
