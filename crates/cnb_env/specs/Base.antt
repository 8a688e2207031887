-- The environment that buildpacks' children begin with (buildpack.md, "Environment"; platform.md, "Environment").
use Rattle.std.specs.Prelude.{◌≡◌, ◌⊎◌, ◌&&◌, Bool, true, not, List, Option, Some, None, codes, nat_eq}
use Rattle.std.specs.List.{filter, starts_with}
use Rattle.cnb_world.specs.declared.env.Variable.{Variable}
use Rattle.cnb_world.specs.Env.{with_value}
use Rattle.cnb_toml.specs.Names.{is_target_name}
use Rattle.cnb_toml.specs.declared.target.Target.{Target}

-- variables of this prefix are the lifecycle's own, and no child gets those that were handed in
abbrev pub is_own : Variable → Bool
is_own variable = starts_with nat_eq variable.name (codes "CNB_")

abbrev pub base_env : List Variable → List Variable
base_env env = filter (λ variable. not (is_own variable)) env

-- the environment with the two variables of the image that is built for, where it is known
abbrev pub with_target : Option Target → List Variable → List Variable
with_target None env = env
with_target (Some target) env = with_value (codes "CNB_TARGET_ARCH") target.arch
    (with_value (codes "CNB_TARGET_OS") target.os env)

-- what is left where memory ran out: nothing was set, or the first of the two
abbrev pub HasBegun : Option Target → List Variable → List Variable → Type 0
HasBegun None old new = ⊥
HasBegun (Some target) old new = (new ≡ old) ⊎ (new ≡ with_value (codes "CNB_TARGET_OS") target.os old)

-- whether the texts of a target are names, where it is known
abbrev pub is_named_target : Option Target → Bool
is_named_target None = true
is_named_target (Some target) = is_target_name target.os && is_target_name target.arch
