use Rattle.std.proofs.Common.{◌∙◌, ap}
use Rattle.std.specs.Prelude.{◌++◌, ◌∷◌, []}
use Rattle.cnb_toml.specs.Keys.{same_key}
use Rattle.indexmap.proofs.CallerLemmas.{insert_entry-new}
use Rattle.detect_core.specs.Kept.{has_key}
use Rattle.detect_core.proofs.KeptLemmas.{not_kept}
use Rattle.detect_core.proofs.kept.Kept.add.Goals as goal

pub returns-clause-ok : goal.returns-clause-ok
returns-clause-ok c =
    let new = ap (λ rows. has_key rows c.args.key) c.self.view_is ∙ c.requires in
    c.in_ok-insert.ensures.entries
    ∙ (insert_entry-new same_key c.self.inside.answers c.args.key c.args.verdict
    (not_kept c.self.inside.answers.entries c.args.key new)
    ∙ ap (λ rows. rows ++ (c.args.key, c.args.verdict) ∷ []) c.self.view_is)
