use Rattle.std.proofs.Common.{◌∙◌, ◌++◌, ap, codes, cond, nat_eq, string_bytes}
use Rattle.cnb_env.proofs.PathLemmas.{joined_more}
use Rattle.cnb_env.proofs.paths.joined_paths.Goals as goal

pub loop-place-preserved : goal.loop-place-preserved
loop-place-preserved c =
    let text = string_bytes c.loop-place.text in
    c.in_ok-push_separated.ensures
    ∙ ap (λ path. cond (nat_eq c.loop-place.place 0) text (text ++ codes ":") ++ path) c.as_str.ensures.text
    ∙ joined_more c.args.paths.now c.loop-place.place c.index-paths-place.result text c.loop-place-test.true
    c.index-paths-place.is c.loop-place.invariant
