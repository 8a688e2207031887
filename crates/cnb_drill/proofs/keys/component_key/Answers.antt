use Rattle.std.proofs.Common.{◌≡◌, ◌∙◌, ap, subst, IfOk, ℕ, List}
use Rattle.cnb_toml.specs.Names.{is_bp_id}
use Rattle.cnb_drill.specs.Buildpacks.{key_of_id}
use Rattle.cnb_drill.proofs.BuildpackLemmas.{component_id, component_text}
use Rattle.cnb_drill.proofs.keys.component_key.Goals as goal

pub key-requires : goal.key-requires
key-requires c =
    ap is_bp_id (c.as_str.ensures.value ∙ (c.in_ok-name.ensures.ok
    ∙ component_text c.args.column c.args.digit c.requires.column c.requires.digit))
    ∙ component_id c.args.column c.args.digit c.requires.column c.requires.digit

pub returns : goal.returns
returns c =
    let name = c.as_str.ensures.value ∙ (c.in_ok-name.ensures.ok
    ∙ component_text c.args.column c.args.digit c.requires.column c.requires.digit) in
    subst (λ (id : List ℕ). IfOk c.key.result (λ key. key ≡ key_of_id id)) name c.key.ensures
