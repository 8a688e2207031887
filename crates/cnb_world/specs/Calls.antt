-- What each call of a world says of its counts.
use Rattle.std.specs.Prelude.{ℕ, Bool, true, false, not, ◌||◌, ◌+◌, ◌-◌, ◌^◌, ◌≤◌, ◌≡◌, ◌⊎◌, min, List, [], ◌∷◌, length}
use Rattle.std.specs.Prelude.{take, Option, Some, None, Result, Ok, Err, IsTrue, IfSome}
use Rattle.std.specs.List.{AllByRecursion}
use Rattle.std.specs.FinMap.{retain_keys}
use Rattle.std.specs.Ordering.{nat_cmp}
use Rattle.std.specs.Cmp.Lexicographic.{slice_cmp}
use Rattle.std.specs.Option.{option_map}
use Rattle.std.specs.declared.cmp.Ordering.TheVariants.{Less}
use Rattle.cnb_world.specs.Path.{is_part}
use Rattle.cnb_world.specs.Tree.{Tree, appended, can_read, is_within}
use Rattle.cnb_world.specs.declared.child.ChildFault.{ChildFault}
use Rattle.cnb_world.specs.declared.child.ChildFault.TheVariants as child
use Rattle.cnb_world.specs.declared.child.DetectFault.{DetectFault}
use Rattle.cnb_world.specs.declared.child.DetectFault.TheVariants as detect
use Rattle.cnb_world.specs.declared.shelf.ShelfFault.{ShelfFault}
use Rattle.cnb_world.specs.declared.shelf.ShelfFault.TheVariants as shelf
use Rattle.cnb_world.specs.declared.sink.SinkFault.{SinkFault}
use Rattle.cnb_world.specs.declared.sink.SinkFault.TheVariants as sink
use Rattle.cnb_world.specs.declared.world.FileFault.{FileFault}
use Rattle.cnb_world.specs.declared.world.FileFault.TheVariants.{Failed, Memory}

-- a count went up, or stands at its last value
pub record Rose (before now : ℕ) : Type 0 where
  pub later : before ≤ now
  pub up : min (before + 1) (2 ^ 64 - 1) ≤ now

-- `Failed` comes where the count rose, and else the count stays
abbrev pub CountsFailed : {T : Type 0} → Result T FileFault → ℕ → ℕ → Type 0
CountsFailed (Ok value) before now = now ≡ before
CountsFailed (Err Failed) before now = Rose before now
CountsFailed (Err Memory) before now = now ≡ before

-- the path whose call failed last: this one, where the call failed
abbrev pub LastFailed : {T : Type 0} → List ℕ → Result T FileFault → Option (List ℕ) → Option (List ℕ) → Type 0
LastFailed path (Ok value) before now = now ≡ before
LastFailed path (Err Failed) before now = now ≡ Some path
LastFailed path (Err Memory) before now = now ≡ before

-- A call that the tree doesn't allow answers `Failed` and is counted, or memory ran out; no other is counted.
abbrev pub CountsMisuse : {T : Type 0} → Option Bool → Result T FileFault → ℕ → ℕ → Type 0
CountsMisuse (Some false) (Ok value) before now = ⊥
CountsMisuse (Some false) (Err Failed) before now = Rose before now
CountsMisuse (Some false) (Err Memory) before now = now ≡ before
CountsMisuse (Some true) result before now = now ≡ before
CountsMisuse None result before now = now ≡ before

-- names ascending, each fit to be a part of a path
abbrev pub AreNames : List (List ℕ) → Type 0
AreNames [] = Unit {0}
AreNames (x ∷ xs) = IsTrue (is_part x) × AllByRecursion (λ y. slice_cmp nat_cmp x y ≡ Less) xs × AreNames xs

-- nothing changed, or a prefix of the bytes was added to the file
abbrev pub AppendsSome : Option Tree → Option Tree → List ℕ → List ℕ → Type 0
AppendsSome old new path bytes =
    (new ≡ old) ⊎ (IfSome old (λ t. IsTrue (can_read t path)) × (n : ℕ) × (n ≤ length bytes)
    × (new ≡ option_map (appended path (take n bytes)) old))

-- nothing changed, or some of what stood at the path and below it is gone
abbrev pub RemovesSome : Option Tree → Option Tree → List ℕ → Type 0
RemovesSome old new path =
    (new ≡ old) ⊎ ((stays : List ℕ → Bool) × (new ≡ option_map
    (λ tree. retain_keys tree (λ q. not (is_within path q) || stays q)) old))

-- where the tree allows the call, or isn't told, no misuse is counted
abbrev pub MayMisuse : Option Bool → ℕ → ℕ → Type 0
MayMisuse (Some false) before now = before ≤ now
MayMisuse (Some true) before now = now ≡ before
MayMisuse None before now = now ≡ before

-- the same for a child, for a spawner, for a shelf and for the sink
abbrev pub CountsChild : {T : Type 0} → Result T ChildFault → ℕ → ℕ → Type 0
CountsChild (Ok value) before now = now ≡ before
CountsChild (Err child.Failed) before now = Rose before now
CountsChild (Err child.Memory) before now = now ≡ before

abbrev pub CountsDetect : {T : Type 0} → Result T DetectFault → ℕ → ℕ → Type 0
CountsDetect (Ok value) before now = now ≡ before
CountsDetect (Err detect.Failed) before now = Rose before now
CountsDetect (Err detect.Memory) before now = now ≡ before

abbrev pub CountsShelf : {T : Type 0} → Result T ShelfFault → ℕ → ℕ → Type 0
CountsShelf (Ok value) before now = now ≡ before
CountsShelf (Err shelf.Failed) before now = Rose before now
CountsShelf (Err shelf.Memory) before now = now ≡ before

abbrev pub CountsSink : {T : Type 0} → Result T SinkFault → ℕ → ℕ → Type 0
CountsSink (Ok value) before now = now ≡ before
CountsSink (Err sink.Failed) before now = Rose before now
