-- How many members the drill asks.
use Rattle.std.proofs.Common.{◌≡◌, ◌∙◌, refl, sym, ap, subst, inl, inr, ℕ, zero, suc, ◌+◌, ◌<◌, Bool, true, false, not}
use Rattle.std.proofs.Common.{List, [], ◌∷◌, ◌++◌, map, length, arith, append_assoc}
use Rattle.std.specs.Prelude.{◌&&◌, ◌||◌, eqb, ◌==◌}
use Rattle.std.specs.List.{flat_map, list_any, AllByRecursion}
use Rattle.std.proofs.lemmas.Bool.{cases_Bool, or_left, or_right, eq-eqb, ne_eqb, both_ways, false_from_ne_true}
use Rattle.std.proofs.lemmas.Bool.{cases_eq}
use Rattle.std.proofs.lemmas.Grind.{flat_map-append}
use Rattle.std.proofs.lemmas.List.{map-append}
use Rattle.std.proofs.lemmas.List.Folds.{list_any-append}
use Rattle.cnb_toml.specs.declared.names.Key.{Key}
use Rattle.cnb_toml.specs.Keys.{same_key}
use Rattle.order_expand.specs.declared.member.Member.{Member}
use Rattle.plan_resolve.specs.Trials.{numbers_below}
use Rattle.detect_core.specs.Detection.{same_member, members_of}
use Rattle.detect_core.proofs.MemberLemmas.{same_key-true, same_key-same, flat}
use Rattle.cnb_drill.proofs.Members.{digit_member, tail_member, members}
use Rattle.cnb_drill.specs.Buildpacks.{eight}
use Rattle.cnb_drill.specs.Digits.{asked_from}
use Rattle.cnb_drill.proofs.Digits.{by_eight}
use Rattle.cnb_drill.proofs.WordLemmas.{words, in_front, before, behind, words_at, AreDigits}
use Rattle.cnb_drill.proofs.CountLemmas.{one_if, total, total-zero, total-append, total-map, total_each, IsSameness}
use Rattle.cnb_drill.proofs.CountLemmas.{each_all, each_both, each_weaker, each_append, each_first, each_map, each_flat}
use Rattle.cnb_drill.proofs.CountLemmas.{Once, length-distinct}

-- ---- members that are the same

swap_key : (a b : Key) → same_key a b ≡ same_key b a
swap_key a b = elim (cases_Bool (same_key a b)) [
  | inl e ↦ e ∙ sym (same_key-same b a (sym (same_key-true a b e)))
  | inr e ↦ e ∙ sym (false_from_ne_true (same_key b a)
      (λ h. both_ways (same_key a b) e (same_key-same a b (sym (same_key-true b a h)))))
]

pub is_sameness : IsSameness same_member
is_sameness = record {
  itself = λ m. same_key-same m.key m.key refl;
  alike = λ m n e other. ap (λ key. same_key key other.key) (same_key-true m.key n.key e);
  swap = λ m n. swap_key m.key n.key;
}

same_if : (b : Bool) → ((true && (true && (b && true))) && true) ≡ b
same_if true = refl
same_if false = refl

eqb_shift : (a b : ℕ) → eqb (48 + a) (48 + b) ≡ eqb a b
eqb_shift a b = elim (cases_eq a b) [
  | inl e ↦ eq-eqb (48 + a) (48 + b) (omega arith) ∙ sym (eq-eqb a b e)
  | inr e ↦ ne_eqb (48 + a) (48 + b) (λ f. e (omega arith)) ∙ sym (ne_eqb a b e)
]

-- of one column, by their digits
same_digit : (column digit other : ℕ) → same_member (digit_member column digit) (digit_member column other)
    ≡ eqb digit other
same_digit column digit other =
    (λ i. ((eq-eqb (48 + column) (48 + column) refl i) && (true && (eqb_shift digit other i && true))) && true)
    ∙ same_if (eqb digit other)

-- of two columns, never
other_column : (column digit later other : ℕ) → (column ≡ later → ⊥)
    → same_member (digit_member column digit) (digit_member later other) ≡ false
other_column column digit later other h =
    (λ i. ((ne_eqb (48 + column) (48 + later) (λ e. h (omega arith)) i)
    && (true && (eqb (48 + digit) (48 + other) && true))) && true)

-- ---- who occurs in the groups of some lists of digits

abbrev meets : ℕ → List (List ℕ) → Member → Bool
meets column ws m = list_any (same_member m) (flat (map (members column) ws))

abbrev has_some : {X : Type 0} → List X → Bool
has_some [] = false
has_some (x ∷ xs) = true

meets-append : (column : ℕ) (vs ws : List (List ℕ)) (m : Member)
    → meets column (vs ++ ws) m ≡ (meets column vs m || meets column ws m)
meets-append column vs ws m =
    ap (list_any (same_member m)) (ap flat (map-append (members column) vs ws)
    ∙ flat_map-append (λ (g : List Member). g) (map (members column) vs) (map (members column) ws))
    ∙ list_any-append (same_member m) (flat (map (members column) vs)) (flat (map (members column) ws))

none_step : (s : Bool) → false ≡ ((s && false) || false)
none_step true = refl
none_step false = refl

front_step : (s w some rest : Bool) → (s || (w || ((s && some) || rest))) ≡ ((s && true) || (w || rest))
front_step true w some rest = refl
front_step false w some rest = refl

meets-front : (column digit : ℕ) (ws : List (List ℕ)) (m : Member)
    → meets column (in_front digit ws) m ≡ ((same_member m (digit_member column digit) && has_some ws)
    || meets (column + 1) ws m)
meets-front column digit [] m = none_step (same_member m (digit_member column digit))
meets-front column digit (w ∷ ws) m =
    let s = same_member m (digit_member column digit) in
    let here = list_any (same_member m) (members (column + 1) w) in
    ap (λ b. s || b) (list_any-append (same_member m) (members (column + 1) w)
    (flat (map (members column) (in_front digit ws))) ∙ ap (λ b. here || b) (meets-front column digit ws m))
    ∙ (front_step s here (has_some ws) (meets (column + 1) ws m)
    ∙ ap (λ b. (s && true) || b) (sym (list_any-append (same_member m) (members (column + 1) w)
    (flat (map (members (column + 1)) ws)))))

columns_step : (s some rest any more : Bool) → (((s && some) || rest) || ((any && some) || (more && rest)))
    ≡ (((s || any) && some) || (true && rest))
columns_step true true rest any more = refl
columns_step true false true any more = refl
columns_step true false false true true = refl
columns_step true false false true false = refl
columns_step true false false false true = refl
columns_step true false false false false = refl
columns_step false true true true more = refl
columns_step false false true true more = refl
columns_step false true false true more = refl
columns_step false false false true true = refl
columns_step false false false true false = refl
columns_step false some true false more = refl
columns_step false some false false true = refl
columns_step false some false false false = refl

meets-columns : (column : ℕ) (digits : List ℕ) (ws : List (List ℕ)) (m : Member)
    → meets column (flat_map (λ digit. in_front digit ws) digits) m
    ≡ ((list_any (λ digit. same_member m (digit_member column digit)) digits && has_some ws)
    || (has_some digits && meets (column + 1) ws m))
meets-columns column [] ws m = refl
meets-columns column (digit ∷ digits) ws m =
    meets-append column (in_front digit ws) (flat_map (λ d. in_front d ws) digits) m
    ∙ ((λ i. meets-front column digit ws m i || meets-columns column digits ws m i)
    ∙ columns_step (same_member m (digit_member column digit)) (has_some ws) (meets (column + 1) ws m)
    (list_any (λ d. same_member m (digit_member column d)) digits) (has_some digits))

-- ---- who there is

abbrev pub all_members : ℕ → ℕ → List Member
all_members column zero = tail_member ∷ []
all_members column (suc places) = map (digit_member column) eight ++ all_members (column + 1) places

abbrev IsElsewhere : ℕ → Member → Type 0
IsElsewhere column m = (digit : ℕ) → (same_member m (digit_member column digit) ≡ false)
    × (same_member (digit_member column digit) m ≡ false)

elsewhere : (column later other : ℕ) → column < later → IsElsewhere column (digit_member later other)
elsewhere column later other h = λ digit. (
  other_column later other column digit
      (λ e. omega arith),
  other_column column digit later other (λ e. omega arith),
)

all_elsewhere : (column later places : ℕ) → column < later
    → AllByRecursion (IsElsewhere column) (all_members later places)
all_elsewhere column later zero h = (λ digit. (refl, refl), tt)
all_elsewhere column later (suc places) h =
    each_append (IsElsewhere column) (map (digit_member later) eight) (all_members (later + 1) places)
    (each_map (IsElsewhere column) (digit_member later) eight
    (each_all (λ other. IsElsewhere column (digit_member later other))
    (λ other. elsewhere column later other h) eight))
    (all_elsewhere column (later + 1) places (omega arith))

group_elsewhere : (column later : ℕ) (digits : List ℕ) → column < later
    → AllByRecursion (IsElsewhere column) (members later digits)
group_elsewhere column later [] h = (λ digit. (refl, refl), tt)
group_elsewhere column later (other ∷ digits) h =
    (elsewhere column later other h, group_elsewhere column (later + 1) digits (omega arith))

-- a member of an earlier column isn't met in later ones
not_in_group : (column digit later : ℕ) (digits : List ℕ) → column < later
    → list_any (same_member (digit_member column digit)) (members later digits) ≡ false
not_in_group column digit later [] h = refl
not_in_group column digit later (other ∷ digits) h =
    λ i. other_column column digit later other (λ e. omega arith) i
    || not_in_group column digit (later + 1) digits (omega arith) i

not_met : (column digit later : ℕ) (ws : List (List ℕ)) → column < later
    → meets later ws (digit_member column digit) ≡ false
not_met column digit later [] h = refl
not_met column digit later (w ∷ ws) h =
    list_any-append (same_member (digit_member column digit)) (members later w) (flat (map (members later) ws))
    ∙ (λ i. not_in_group column digit later w h i || not_met column digit later ws h i)

any_none : {X : Type 0} (p : X → Bool) → ((x : X) → p x ≡ false) → (xs : List X) → list_any p xs ≡ false
any_none p each [] = refl
any_none p each (x ∷ xs) = λ i. each x i || any_none p each xs i

any_same : {X : Type 0} (p q : X → Bool) → ((x : X) → p x ≡ q x) → (xs : List X) → list_any p xs ≡ list_any q xs
any_same p q each [] = refl
any_same p q each (x ∷ xs) = λ i. each x i || any_same p q each xs i

-- ---- there are lists

some_map : {X Y : Type 0} (f : X → Y) (xs ys : List Y) (zs : List X) → has_some zs ≡ true
    → has_some (map f zs ++ ys) ≡ true
some_map f xs ys [] h = absurd cc
some_map f xs ys (z ∷ zs) h = refl

some_words : (places : ℕ) → has_some (words places) ≡ true
some_words zero = refl
some_words (suc places) = some_map (λ word. 0 ∷ word) []
    (flat_map (λ d. in_front d (words places)) (1 ∷ 2 ∷ 3 ∷ 4 ∷ 5 ∷ 6 ∷ 7 ∷ [])) (words places)
    (some_words places)

some_push : {X : Type 0} (xs : List X) (x : X) → has_some (xs ++ x ∷ []) ≡ true
some_push [] x = refl
some_push (y ∷ xs) x = refl

-- among all lists of digits everybody is met
any_eight : (digit : ℕ) → digit < 8 → list_any (eqb digit) eight ≡ true
any_eight = by_eight (λ digit. list_any (eqb digit) eight ≡ true) refl refl refl refl refl refl refl refl

below_eight : AllByRecursion (λ digit. digit < 8) eight
below_eight = (
  omega arith,
  (
    omega arith,
    (
      omega arith,
      (omega arith, (omega arith, (omega arith, (omega arith, (omega arith, tt))))),
    ),
  ),
)

met_here : (column places digit : ℕ) → digit < 8 → meets column (words (suc places)) (digit_member column digit) ≡ true
met_here column places digit h =
    meets-columns column eight (words places) (digit_member column digit)
    ∙ or_left (list_any (λ d. same_member (digit_member column digit) (digit_member column d)) eight
    && has_some (words places)) (true && meets (column + 1) (words places) (digit_member column digit))
    (λ i. (any_same (λ d. same_member (digit_member column digit) (digit_member column d)) (eqb digit)
    (same_digit column digit) eight ∙ any_eight digit h) i && some_words places i)

met_later : (column places : ℕ) (m : Member) → meets (column + 1) (words places) m ≡ true
    → meets column (words (suc places)) m ≡ true
met_later column places m h =
    meets-columns column eight (words places) m
    ∙ or_right (list_any (λ d. same_member m (digit_member column d)) eight && has_some (words places))
    (meets (column + 1) (words places) m) h

all_met : (column places : ℕ) → AllByRecursion (λ m. meets column (words places) m ≡ true) (all_members column places)
all_met column zero = (refl, tt)
all_met column (suc places) =
    each_append (λ m. meets column (words (suc places)) m ≡ true) (map (digit_member column) eight)
    (all_members (column + 1) places)
    (each_map (λ m. meets column (words (suc places)) m ≡ true) (digit_member column) eight
    (each_weaker (λ digit. digit < 8) (λ digit. meets column (words (suc places)) (digit_member column digit)
    ≡ true) (met_here column places) eight below_eight))
    (each_weaker (λ m. meets (column + 1) (words places) m ≡ true)
    (λ m. meets column (words (suc places)) m ≡ true) (met_later column places)
    (all_members (column + 1) places) (all_met (column + 1) places))

-- how many there are
count_all : (column : ℕ) (digits : List ℕ) → total (λ (m : Member). 1) (all_members column (length digits))
    ≡ asked_from true digits
count_all column [] = refl
count_all column (digit ∷ digits) =
    total-append (λ (m : Member). 1) (map (digit_member column) eight) (all_members (column + 1) (length digits))
    ∙ ap (λ n. 8 + n) (count_all (column + 1) digits)

-- ---- the lists up to one

abbrev pub up_to : List ℕ → List (List ℕ)
up_to digits = before digits ++ digits ∷ []

up_to-split : (digit : ℕ) (digits : List ℕ) → up_to (digit ∷ digits)
    ≡ flat_map (λ d. in_front d (words (length digits))) (numbers_below digit) ++ in_front digit (up_to digits)
up_to-split digit digits =
    append_assoc (flat_map (λ d. in_front d (words (length digits))) (numbers_below digit))
    (in_front digit (before digits)) ((digit ∷ digits) ∷ [])
    ∙ ap (λ ws. flat_map (λ d. in_front d (words (length digits))) (numbers_below digit) ++ ws)
    (sym (map-append (λ word. digit ∷ word) (before digits) (digits ∷ [])))

meets-up_to : (column digit : ℕ) (digits : List ℕ) (m : Member) → meets column (up_to (digit ∷ digits)) m
    ≡ (((list_any (λ d. same_member m (digit_member column d)) (numbers_below digit)
    && has_some (words (length digits))) || (has_some (numbers_below digit)
    && meets (column + 1) (words (length digits)) m))
    || ((same_member m (digit_member column digit) && has_some (up_to digits)) || meets (column + 1) (up_to digits) m))
meets-up_to column digit digits m =
    ap (λ ws. meets column ws m) (up_to-split digit digits)
    ∙ (meets-append column (flat_map (λ d. in_front d (words (length digits))) (numbers_below digit))
    (in_front digit (up_to digits)) m
    ∙ (λ i. meets-columns column (numbers_below digit) (words (length digits)) m i
    || meets-front column digit (up_to digits) m i))

abbrev is_up_to : ℕ → ℕ → Bool
is_up_to digit other = list_any (eqb other) (numbers_below digit) || eqb other digit

here_step : (a h e : Bool) → (((a && true) || (h && false)) || ((e && true) || false)) ≡ (a || e)
here_step true h e = refl
here_step false true true = refl
here_step false true false = refl
here_step false false true = refl
here_step false false false = refl

-- in a column the digits up to its own are met
met_up_to : (column digit : ℕ) (digits : List ℕ) (other : ℕ)
    → meets column (up_to (digit ∷ digits)) (digit_member column other) ≡ is_up_to digit other
met_up_to column digit digits other =
    meets-up_to column digit digits (digit_member column other)
    ∙ ((λ i. ((any_same (λ d. same_member (digit_member column other) (digit_member column d)) (eqb other)
    (same_digit column other) (numbers_below digit) i && some_words (length digits) i)
    || (has_some (numbers_below digit) && not_met column other (column + 1) (words (length digits)) (omega arith) i))
    || ((same_digit column other digit i && some_push (before digits) digits i)
    || not_met column other (column + 1) (up_to digits) (omega arith) i))
    ∙ here_step (list_any (eqb other) (numbers_below digit)) (has_some (numbers_below digit)) (eqb other digit))

count_up_to : (digit : ℕ) → digit < 8 → total (λ other. one_if (is_up_to digit other)) eight ≡ digit + 1
count_up_to = by_eight (λ digit. total (λ other. one_if (is_up_to digit other)) eight ≡ digit + 1) refl refl refl
    refl refl refl refl refl

later_step : (h w r u : Bool) → (((false && w) || (h && r)) || ((false && u) || r)) ≡ r
later_step true w true u = refl
later_step true w false u = refl
later_step false w r u = refl

-- members of later columns are met where they are met behind the digit, or in all lists where the digit isn't 0
met_behind : (column digit : ℕ) (digits : List ℕ) (m : Member) → IsElsewhere column m
    → meets column (up_to (digit ∷ digits)) m
    ≡ ((has_some (numbers_below digit) && meets (column + 1) (words (length digits)) m)
    || meets (column + 1) (up_to digits) m)
met_behind column digit digits m h =
    meets-up_to column digit digits m
    ∙ (λ i. ((any_none (λ d. same_member m (digit_member column d)) (λ d. (h d).0) (numbers_below digit) i
    && has_some (words (length digits))) || (has_some (numbers_below digit)
    && meets (column + 1) (words (length digits)) m))
    || (((h digit).0 i && has_some (up_to digits)) || meets (column + 1) (up_to digits) m))

some_below : (digit : ℕ) → digit < 8 → has_some (numbers_below digit) ≡ not (digit == 0)
some_below = by_eight (λ digit. has_some (numbers_below digit) ≡ not (digit == 0)) refl refl refl refl refl refl
    refl refl

count_met : ℕ → List ℕ → ℕ
count_met column digits = total (λ m. one_if (meets column (up_to digits) m)) (all_members column (length digits))

count_behind : (column : ℕ) (digits : List ℕ) (some : Bool)
    → total (λ m. one_if (meets (column + 1) (up_to digits) m)) (all_members (column + 1) (length digits))
    ≡ asked_from false digits →
    total (λ m. one_if ((some && meets (column + 1) (words (length digits)) m)
    || meets (column + 1) (up_to digits) m)) (all_members (column + 1) (length digits))
    ≡ asked_from some digits
count_behind column digits false h = h
count_behind column digits true h =
    total_each (λ m. one_if (meets (column + 1) (words (length digits)) m || meets (column + 1) (up_to digits) m))
    (λ m. 1) (all_members (column + 1) (length digits))
    (each_weaker (λ m. meets (column + 1) (words (length digits)) m ≡ true)
    (λ m. one_if (meets (column + 1) (words (length digits)) m || meets (column + 1) (up_to digits) m) ≡ 1)
    (λ m e i. one_if (e i || meets (column + 1) (up_to digits) m)) (all_members (column + 1) (length digits))
    (all_met (column + 1) (length digits)))
    ∙ count_all (column + 1) digits

count_asked : (column : ℕ) (digits : List ℕ) → AreDigits digits
    → total (λ m. one_if (meets column (up_to digits) m)) (all_members column (length digits))
    ≡ asked_from false digits
count_asked column [] h = refl
count_asked column (digit ∷ digits) h =
    let met = λ (m : Member). one_if (meets column (up_to (digit ∷ digits)) m) in
    let later = all_members (column + 1) (length digits) in
    total-append met (map (digit_member column) eight) later
    ∙ (λ i. (total-map met (digit_member column) eight
    ∙ (total_each (λ other. met (digit_member column other)) (λ other. one_if (is_up_to digit other)) eight
    (each_all (λ other. met (digit_member column other) ≡ one_if (is_up_to digit other))
    (λ other. ap one_if (met_up_to column digit digits other)) eight)
    ∙ count_up_to digit h.0)) i
    + (total_each met (λ m. one_if ((has_some (numbers_below digit)
    && meets (column + 1) (words (length digits)) m) || meets (column + 1) (up_to digits) m)) later
    (each_weaker (IsElsewhere column) (λ m. met m
    ≡ one_if ((has_some (numbers_below digit) && meets (column + 1) (words (length digits)) m)
    || meets (column + 1) (up_to digits) m))
    (λ m e. ap one_if (met_behind column digit digits m e)) later
    (all_elsewhere column (column + 1) (length digits) (omega arith)))
    ∙ (count_behind column digits (has_some (numbers_below digit)) (count_asked (column + 1) digits h.1)
    ∙ ap (λ b. asked_from b digits) (some_below digit h.0))) i)

-- ---- each member stands once among all

abbrev pub IsWord : ℕ → List ℕ → Type 0
IsWord zero [] = Unit {0}
IsWord zero (digit ∷ digits) = ⊥
IsWord (suc places) [] = ⊥
IsWord (suc places) (digit ∷ digits) = (digit < 8) × IsWord places digits

pub are_words : (places : ℕ) → AllByRecursion (IsWord places) (words places)
are_words zero = (tt, tt)
are_words (suc places) =
    each_flat (IsWord (suc places)) (λ digit. in_front digit (words places)) eight
    (each_weaker (λ digit. digit < 8) (λ digit. AllByRecursion (IsWord (suc places)) (in_front digit (words places)))
    (λ digit h. each_map (IsWord (suc places)) (λ word. digit ∷ word) (words places)
    (each_weaker (IsWord places) (λ word. IsWord (suc places) (digit ∷ word)) (λ word w. (h, w))
    (words places) (are_words places)))
    eight below_eight)

once_eight : (digit : ℕ) → digit < 8 → total (λ other. one_if (eqb other digit)) eight ≡ 1
once_eight = by_eight (λ digit. total (λ other. one_if (eqb other digit)) eight ≡ 1) refl refl refl refl refl refl
    refl refl

total_none : {X : Type 0} (p : X → Bool) (xs : List X) → AllByRecursion (λ x. p x ≡ false) xs
    → total (λ x. one_if (p x)) xs ≡ 0
total_none p xs h = total_each (λ x. one_if (p x)) (λ x. 0) xs
    (each_weaker (λ x. p x ≡ false) (λ x. one_if (p x) ≡ 0) (λ x e. ap one_if e) xs h) ∙ total-zero xs

once_word : (column places : ℕ) (digits : List ℕ) → IsWord places digits
    → AllByRecursion (Once same_member (all_members column places)) (members column digits)
once_word column zero [] h = (refl, tt)
once_word column zero (digit ∷ digits) h = absurd h
once_word column (suc places) [] h = absurd h
once_word column (suc places) (digit ∷ digits) h =
    let later = all_members (column + 1) places in
    let split = λ (x : Member). total-append (λ m. one_if (same_member m x)) (map (digit_member column) eight) later in
    let front = λ (x : Member). total-map (λ m. one_if (same_member m x)) (digit_member column) eight in (
      split (digit_member column digit)
          ∙ (λ i. (front (digit_member column digit)
          ∙ (total_each (λ other. one_if (same_member (digit_member column other) (digit_member column digit)))
          (λ other. one_if (eqb other digit)) eight
          (each_all (λ other. one_if (same_member (digit_member column other) (digit_member column digit))
          ≡ one_if (eqb other digit)) (λ other. ap one_if (same_digit column other digit)) eight)
          ∙ once_eight digit h.0)) i
          + total_none (λ m. same_member m (digit_member column digit)) later
          (each_weaker (IsElsewhere column) (λ m. same_member m (digit_member column digit) ≡ false)
          (λ m e. (e digit).0) later (all_elsewhere column (column + 1) places (omega arith))) i),
      each_both (IsElsewhere column) (Once same_member later) (Once same_member (all_members column (suc places)))
          (λ x elsewhere_x once. split x
          ∙ ((λ i. (front x ∙ total_none (λ other. same_member (digit_member column other) x) eight
          (each_all (λ other. same_member (digit_member column other) x ≡ false)
          (λ other. (elsewhere_x other).1) eight)) i + once i)))
          (members (column + 1) digits) (group_elsewhere column (column + 1) digits (omega arith))
          (once_word (column + 1) places digits h.1),
    )

once_met : (column places : ℕ) (ws : List (List ℕ)) → AllByRecursion (IsWord places) ws
    → AllByRecursion (Once same_member (all_members column places)) (flat (map (members column) ws))
once_met column places ws h =
    each_flat (Once same_member (all_members column places)) (λ g. g) (map (members column) ws)
    (each_map (AllByRecursion (Once same_member (all_members column places))) (members column) ws
    (each_weaker (IsWord places) (λ w. AllByRecursion (Once same_member (all_members column places))
    (members column w)) (once_word column places) ws h))

up_to-words : (digits : List ℕ) → AreDigits digits → AllByRecursion (IsWord (length digits)) (up_to digits)
up_to-words digits h =
    each_first (IsWord (length digits)) (up_to digits) (behind digits)
    (subst (AllByRecursion (IsWord (length digits)))
    (words_at digits h ∙ sym (append_assoc (before digits) (digits ∷ []) (behind digits)))
    (are_words (length digits)))

-- as many members as the digits say
pub length-asked : (column : ℕ) (digits : List ℕ) → AreDigits digits
    → length (members_of (map (members column) (up_to digits))) ≡ asked_from false digits
length-asked column digits h =
    length-distinct same_member is_sameness (all_members column (length digits))
    (flat (map (members column) (up_to digits)))
    (once_met column (length digits) (up_to digits) (up_to-words digits h))
    ∙ count_asked column digits h
