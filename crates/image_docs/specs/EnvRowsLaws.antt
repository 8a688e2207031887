-- An environment reads back.
use Rattle.std.specs.Prelude.{◌≡◌, ◌≤◌, true, List, Ok}
use Rattle.std.proofs.Common.{refl}
use Rattle.std.proofs.Math.Nat.{le_refl}
use Rattle.std.proofs.lemmas.Bool.{cond-true}
use Rattle.toml.specs.Data.{depth, has_valid_dates}
use Rattle.cnb_world.specs.declared.env.Variable.{Variable}
use Rattle.cnb_toml.specs.Form.{table_of}
use Rattle.cnb_toml.specs.Written.{table_data}
use Rattle.cnb_toml.specs.WrittenLaws.{all_true, list_read, list_dates, list_within}
use Rattle.image_docs.specs.EnvRows.{variable_in, is_env, env_of, variable_members, env_data}

pub env_read : (variables : List Variable) → is_env variables ≡ true → env_of (env_data variables) ≡ Ok variables
env_read variables sound =
    rw (list_read (table_data variable_members) (table_of variable_in) (λ variable. true) (λ variable. true)
    (λ variable typed sound. refl) variables (all_true variables) (all_true variables))
    (cond-true (is_env variables) _ _ sound)

pub env_dates : (variables : List Variable) → has_valid_dates (env_data variables) ≡ true
env_dates variables = list_dates (table_data variable_members) (λ variable. refl) variables

pub env_within : (variables : List Variable) → depth (env_data variables) ≤ 2
env_within variables = list_within (table_data variable_members) (λ variable. true) 1
    (λ variable sound. le_refl 1) variables (all_true variables)
