-- The variables of a command: one more, in front of those that are set.
use Rattle.std.proofs.Common.{◌≡◌, ℕ, ◌+◌, List, [], ◌∷◌, Bool, true, false, cond, Option, Some, drop, zero, suc, refl}
use Rattle.std.proofs.Common.{◌∙◌, ap, add-one, option_map}
use Rattle.std.specs.List.{slice_get}
use Rattle.std.specs.Str.{bytes_eq}
use Rattle.cnb_world.specs.declared.env.Variable.{Variable}
use Rattle.cnb_world.specs.Env.{value_of}

value_of-from : (env : List Variable) (place : ℕ) (name value : List ℕ)
    → option_map (λ v. v.name) (slice_get env place) ≡ Some name
    → option_map (λ v. v.value) (slice_get env place) ≡ Some value → (other : List ℕ)
    → value_of (drop place env) other ≡ cond (bytes_eq name other) (Some value)
    (value_of (drop (suc place) env) other)
value_of-from [] place name value named valued other = absurd (cc)
value_of-from (v ∷ vs) zero name value named valued other = let n : v.name ≡ name = cc
    in let w : v.value ≡ value = cc in cc
value_of-from (v ∷ vs) (suc k) name value named valued other = value_of-from vs k name value named valued other

said : (b : Bool) (value : List ℕ) (rest : Option (List ℕ))
    → cond b (Some (Some value)) (option_map Some rest) ≡ option_map Some (cond b (Some value) rest)
said true value rest = refl
said false value rest = refl

pub vars_from : (env : List Variable) (place next : ℕ) (name value : List ℕ)
    (before after : List ℕ → Option (Option (List ℕ))) → next ≡ place + 1
    → option_map (λ v. v.name) (slice_get env place) ≡ Some name
    → option_map (λ v. v.value) (slice_get env place) ≡ Some value
    → ((other : List ℕ) → after other ≡ cond (bytes_eq name other) (Some (Some value)) (before other))
    → ((other : List ℕ) → before other ≡ option_map Some (value_of (drop next env) other)) → (other : List ℕ)
    → after other ≡ option_map Some (value_of (drop place env) other)
vars_from env place next name value before after e named valued set rest other =
    set other
    ∙ ap (λ r. cond (bytes_eq name other) (Some (Some value)) r)
    (rest other ∙ ap (λ n. option_map Some (value_of (drop n env) other)) (e ∙ add-one place))
    ∙ said (bytes_eq name other) value (value_of (drop (suc place) env) other)
    ∙ ap (option_map Some) (let back = value_of-from env place name value named valued other in cc)
