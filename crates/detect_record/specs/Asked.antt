-- Whether exactly the buildpacks that have to be asked are answered, in order.
use Rattle.std.specs.Prelude.{ℕ, ◌+◌, ◌≤◌, ◌≡◌, ◌==◌, false, List, [], ◌∷◌, ◌++◌, fold, length, nat_lt, take}
use Rattle.std.specs.Prelude.{if◌then◌else◌, Option, Some, None}
use Rattle.std.specs.List.{list_any}
use Rattle.cnb_toml.specs.declared.names.Key.{Key}
use Rattle.cnb_toml.specs.Keys.{same_key}
use Rattle.cnb_toml.specs.declared.target.Target.{Target}
use Rattle.order_expand.specs.declared.member.Member.{Member}
use Rattle.detect_core.specs.Answer.{is_fit}
use Rattle.detect_record.specs.Proving.{same_keys}

-- these keys and one more, unless it is among them
abbrev pub put_key : List Key → Key → List Key
put_key keys key = if list_any (same_key key) keys then keys else keys ++ key ∷ []

abbrev pub put_member : Option Target → List Key → Member → List Key
put_member target keys member = if is_fit target member then put_key keys member.key else keys

-- these keys, and those of the members that are for the target
abbrev pub put_members : Option Target → List Key → List Member → List Key
put_members target keys members = fold (put_member target) keys members

-- how many of the answered buildpacks were met in their order, or none where another one was met first, behind the
-- buildpack that is answered at this place
abbrev pub met_behind : Option ℕ → Option ℕ → Option ℕ
met_behind None place = None
met_behind (Some met) None = None
met_behind (Some met) (Some place) = if nat_lt place met then Some met else
    (if place == met then Some (met + 1) else None)

-- the asked keys are the first answered ones, or no answered ones begin with them
abbrev pub IsMet : List Key → List Key → Option ℕ → Type 0
IsMet answered asked (Some met) = (asked ≡ take met answered) × (met ≤ length answered)
IsMet answered asked None = (more : List Key) → same_keys answered (asked ++ more) ≡ false
