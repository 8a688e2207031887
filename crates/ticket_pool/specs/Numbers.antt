-- Lists of numbers: what they weigh together, lists that ascend, and two such lists as one.
use Rattle.std.specs.Prelude.{ℕ, zero, suc, ◌+◌, ◌<◌, ◌≤◌, ◌==◌, nat_le, nat_lt, if◌then◌else◌, List, [], ◌∷◌, ◌++◌}
use Rattle.std.specs.List.{AllByRecursion}

-- the weights of the numbers, added up
abbrev pub weigh : (ℕ → ℕ) → List ℕ → ℕ
weigh h [] = 0
weigh h (x ∷ xs) = h x + weigh h xs

-- 1 where the two are one number: so a number stands in a list as often as `weigh (same x)` says
abbrev pub same : ℕ → ℕ → ℕ
same x y = if x == y then 1 else 0

-- 1 where the number is no job's
abbrev pub late_one : ℕ → ℕ → ℕ
late_one jobs x = if nat_le jobs x then 1 else 0

-- how many of the numbers are no job's
abbrev pub late_of : ℕ → List ℕ → ℕ
late_of jobs xs = weigh (late_one jobs) xs

-- the numbers below n, ascending
abbrev pub upto : ℕ → List ℕ
upto zero = []
upto (suc n) = upto n ++ n ∷ []

abbrev pub AllAbove : ℕ → List ℕ → Type 0
AllAbove n xs = AllByRecursion (λ x. n < x) xs

abbrev pub AllBelow : ℕ → List ℕ → Type 0
AllBelow n xs = AllByRecursion (λ x. x < n) xs

-- each number is less than those after it
abbrev pub IsAscending : List ℕ → Type 0
IsAscending [] = Unit {0}
IsAscending (x ∷ xs) = AllAbove x xs × IsAscending xs

-- x at its place in an ascending list
abbrev pub placed : ℕ → List ℕ → List ℕ
placed x [] = x ∷ []
placed x (y ∷ ys) = if nat_lt x y then x ∷ y ∷ ys else y ∷ placed x ys

-- two ascending lists as one
abbrev pub merged : List ℕ → List ℕ → List ℕ
merged [] ys = ys
merged (x ∷ xs) ys = placed x (merged xs ys)

-- the lists share no number, and have none twice
abbrev pub Apart : List ℕ → List ℕ → Type 0
Apart xs ys = (x : ℕ) → weigh (same x) xs + weigh (same x) ys ≤ 1
