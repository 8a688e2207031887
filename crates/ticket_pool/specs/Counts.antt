-- What an answer says of the spawners' counts of faults.
use Rattle.std.specs.Prelude.{◌≡◌, ◌⊎◌, ℕ, ◌≤◌, List, ◌∷◌, Result, Ok, Err}
use Rattle.std.specs.List.{AllZip}
use Rattle.cnb_world.specs.Calls.{Rose}
use Rattle.cnb_world.specs.declared.child.DetectFault.{DetectFault}
use Rattle.cnb_world.specs.declared.child.DetectFault.TheVariants as detect
use Rattle.ticket_pool.specs.declared.fault.PoolFault.{PoolFault}
use Rattle.ticket_pool.specs.declared.fault.PoolFault.TheVariants.{Child, Memory}

-- a child without an answer gives `Child`
abbrev pub pool_fault : DetectFault → PoolFault
pool_fault detect.Failed = Child
pool_fault detect.Memory = Memory

abbrev pub OneRose : List ℕ → List ℕ → Type 0
OneRose (before ∷ befores) (now ∷ nows) = Rose before now ⊎ OneRose befores nows
OneRose _ _ = ⊥

-- a count rose, and none fell
pub record SomeRose (befores nows : List ℕ) : Type 0 where
  pub none_fell : AllZip (λ before now. before ≤ now) befores nows
  pub one_rose : OneRose befores nows

-- `Child` comes where a count rose, and else all counts stay
abbrev pub CountsPool : {T : Type 0} → Result T PoolFault → List ℕ → List ℕ → Type 0
CountsPool (Ok value) befores nows = nows ≡ befores
CountsPool (Err Child) befores nows = SomeRose befores nows
CountsPool (Err Memory) befores nows = nows ≡ befores

-- of two workers' faults a child's comes first
abbrev pub first_fault : {T : Type 0} → Result T PoolFault → Result T PoolFault → Result T PoolFault
first_fault (Ok value) other = other
first_fault (Err Child) other = Err Child
first_fault (Err Memory) (Ok value) = Err Memory
first_fault (Err Memory) (Err fault) = Err fault
