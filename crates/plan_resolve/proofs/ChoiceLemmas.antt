-- The trials of a group by their numbers.
use Rattle.std.proofs.Common.{◌≡◌, ℕ, zero, suc, ◌+◌, ◌-◌, ◌*◌, ◌/◌, ◌%◌, ◌<◌, ◌≤◌, true, cond, List, [], ◌∷◌, ◌++◌}
use Rattle.std.proofs.Common.{map, length, drop, take, get_or, refl, sym, ◌∙◌, ap, subst, arith, Option, Some, None}
use Rattle.std.proofs.Common.{append_assoc, append-nil, length-append}
use Rattle.std.specs.Prelude.{slice_get, nat_lt}
use Rattle.std.specs.Option.{option_map}
use Rattle.std.specs.List.{flat_map, list_all}
use Rattle.std.proofs.lemmas.Bool.{and_parts, ltb-true, lt-ltb, cond-true}
use Rattle.std.proofs.lemmas.List.{length-map, drop_more, drop_all, take_more, take-append-drop}
use Rattle.std.proofs.lemmas.List.Folds.{list_all-append}
use Rattle.std.proofs.lemmas.Nat.{div-add-mod'}
use Rattle.std.proofs.lemmas.Option.{slice_get-map, slice_get-get_or, slice_get_within}
use Rattle.std.proofs.Math.Nat.{mul_assoc, mul-le-mul_right, one-le-mul, le-mul_of_pos_right, mul-div_cancel_left}
use Rattle.std.proofs.Math.Nat.{div-lt_iff_lt-mul, mod-lt}
use Rattle.bp_docs.specs.declared.build_plan.PlanOption.{PlanOption}
use Rattle.plan_resolve.specs.declared.rows.TrialRow.{TrialRow}
use Rattle.plan_resolve.specs.declared.rows.AliveRow.{AliveRow}
use Rattle.plan_resolve.specs.Trials.{kept_of}
use Rattle.plan_resolve.specs.Choices.{chosen_row, choices_of, choice_count}
use Rattle.plan_resolve.specs.Prefixes.{IsDead, AllFail}
use Rattle.plan_resolve.specs.Resolution.{has_options}

-- ---- how many there are

pub count-append : (xs ys : List AliveRow) → choice_count (xs ++ ys) ≡ choice_count xs * choice_count ys
count-append [] ys = omega arith
count-append (row ∷ xs) ys = ap (λ n. length row.options * n) (count-append xs ys)
    ∙ sym (mul_assoc (length row.options) (choice_count xs) (choice_count ys))

-- where each buildpack has an alternative there is a trial
pub count_positive : (rows : List AliveRow) → list_all has_options rows ≡ true → 0 < choice_count rows
count_positive [] h = omega arith
count_positive (row ∷ rows) h =
    let parts = and_parts (has_options row) (list_all has_options rows) h in
    let some = ltb-true 0 (length row.options) parts.0 in
    let later = count_positive rows parts.1 in
    let both : 1 ≤ length row.options * choice_count rows = one-le-mul (omega arith) (omega arith)
    in omega (arith, both)

-- the first buildpacks' choices are no more than all
pub count_front : (rows : List AliveRow) (i : ℕ) → list_all has_options rows ≡ true
    → choice_count (take i rows) ≤ choice_count rows
count_front rows i h =
    let front = take i rows in
    let back = drop i rows in
    let whole = take-append-drop i rows in
    let parts = and_parts (list_all has_options front) (list_all has_options back)
    (sym (list_all-append has_options front back) ∙ subst (λ (rs : List AliveRow). list_all has_options rs ≡ true)
    (sym whole) h) in
    subst (λ (n : ℕ). choice_count front ≤ n) (sym (count-append front back) ∙ ap choice_count whole)
    (le-mul_of_pos_right (choice_count front) (count_positive back parts.1))

-- one buildpack more
pub count_more : (rows : List AliveRow) (i : ℕ) (row : AliveRow) → i < length rows → row ≡ get_or rows i row
    → choice_count (take (i + 1) rows) ≡ choice_count (take i rows) * length row.options
count_more rows i row lt is =
    ap choice_count (take_more rows i row lt)
    ∙ (count-append (take i rows) (get_or rows i row ∷ [])
    ∙ ap (λ n. choice_count (take i rows) * n) (ap (λ r. length r.options * 1) (sym is) ∙ omega arith))

-- where the first buildpacks have too many choices, all have
pub too_many : (rows : List AliveRow) (i : ℕ) (row : AliveRow) → i < length rows → row ≡ get_or rows i row
    → list_all has_options rows ≡ true →
    65536 < choice_count (take i rows) * length row.options
    → None ≡ cond (nat_lt 65536 (choice_count rows)) None (Some (choice_count rows))
too_many rows i row lt is options many =
    sym (cond-true (nat_lt 65536 (choice_count rows)) None (Some (choice_count rows))
    (lt-ltb 65536 (choice_count rows) (omega (
      arith,
      count_front rows
          (i + 1) options,
      count_more rows i row lt is,
      many,
    ))))

-- ---- pieces of one length, joined

length-pieces : {X Y : Type 0} (f : X → List Y) (xs : List X) (count : ℕ) → ((x : X) → length (f x) ≡ count)
    → length (flat_map f xs) ≡ length xs * count
length-pieces f [] count each = omega arith
length-pieces f (x ∷ xs) count each =
    let rest = length-pieces f xs count each in
    length-append (f x) (flat_map f xs) ∙ omega (arith, each x, rest)

pub slice_get-append_within : {X : Type 0} (xs ys : List X) (n : ℕ) → n < length xs
    → slice_get (xs ++ ys) n ≡ slice_get xs n
slice_get-append_within [] ys n h = absurd (omega arith)
slice_get-append_within (x ∷ xs) ys zero h = refl
slice_get-append_within (x ∷ xs) ys (suc n) h = slice_get-append_within xs ys n (omega arith)

pub slice_get-append_past : {X : Type 0} (xs ys : List X) (n m : ℕ) → n ≡ length xs + m
    → slice_get (xs ++ ys) n ≡ slice_get ys m
slice_get-append_past [] ys n m e = ap (slice_get ys) (omega arith)
slice_get-append_past (x ∷ xs) ys zero m e = absurd (omega arith)
slice_get-append_past (x ∷ xs) ys (suc n) m e = slice_get-append_past xs ys n m (omega arith)

pieces_at : {X Y : Type 0} (f : X → List Y) (xs : List X) (count place within : ℕ) (x : X)
    → ((x : X) → length (f x) ≡ count) → within < count →
    slice_get xs place ≡ Some x → slice_get (flat_map f xs) (place * count + within) ≡ slice_get (f x) within
pieces_at f [] count place within x each lt e = absurd cc
pieces_at f (y ∷ ys) count zero within x each lt e =
    let same : y ≡ x = cc in
    ap (slice_get (f y ++ flat_map f ys)) (omega arith)
    ∙ (slice_get-append_within (f y) (flat_map f ys) within (omega (arith, each y))
    ∙ ap (λ z. slice_get (f z) within) same)
pieces_at f (y ∷ ys) count (suc place) within x each lt e =
    slice_get-append_past (f y) (flat_map f ys) (suc place * count + within) (place * count + within)
    (omega (arith, each y))
    ∙ pieces_at f ys count place within x each lt e

pub length-choices : (rows : List AliveRow) → length (choices_of rows) ≡ choice_count rows
length-choices [] = omega arith
length-choices (row ∷ rows) =
    length-pieces (λ option. map (λ trial. chosen_row row option ∷ trial) (choices_of rows)) row.options
    (choice_count rows)
    (λ option. length-map (choices_of rows) (λ trial. chosen_row row option ∷ trial) ∙ length-choices rows)

-- the trials with one of the first buildpack's alternatives, among all
pub choice_at : (row : AliveRow) (rows : List AliveRow) (place number : ℕ) (option : PlanOption)
    → number < choice_count rows →
    slice_get row.options place ≡ Some option →
    slice_get (choices_of (row ∷ rows)) (place * choice_count rows + number)
    ≡ option_map (λ trial. chosen_row row option ∷ trial) (slice_get (choices_of rows) number)
choice_at row rows place number option lt e =
    pieces_at (λ o. map (λ trial. chosen_row row o ∷ trial) (choices_of rows)) row.options
    (choice_count rows) place number option
    (λ o. length-map (choices_of rows) (λ trial. chosen_row row o ∷ trial) ∙ length-choices rows) lt e
    ∙ slice_get-map (λ trial. chosen_row row option ∷ trial) (choices_of rows) number

-- ---- a trial that is chosen row by row

-- the first i rows of a trial are chosen; there are as many trials with them as choices of the others, and its number
-- among these is left
pub record IsChoosing (rows : List AliveRow) (first i later number : ℕ) (trial : List TrialRow) : Type 0 where
  pub later_is : later ≡ choice_count (drop i rows)
  pub within : number < later
  pub below : number ≤ first
  pub rest : (k : ℕ) → k < later →
      slice_get (choices_of rows) ((first - number) + k) ≡ option_map (λ rest. trial ++ rest)
      (slice_get (choices_of (drop i rows)) k)
  pub len : length trial ≡ i

positive_left : (a b n : ℕ) → n < a * b → 0 < a
positive_left zero b n h = absurd (omega arith)
positive_left (suc a) b n h = omega arith

positive_right : (a b n : ℕ) → n < a * b → 0 < b
positive_right a zero n h = absurd (omega arith)
positive_right a (suc b) n h = omega arith

-- what the next row's alternatives are to the numbers
pub record IsTurn (options rest later number : ℕ) : Type 0 where
  pub positive : 0 < options
  pub positive_rest : 0 < rest
  pub bound : options ≤ later
  pub rest_is : later / options ≡ rest
  pub index : number / rest < options

turn_of : (options rest later number : ℕ) → later ≡ options * rest → number < later → IsTurn options rest later number
turn_of options rest later number e lt =
    let within : number < options * rest = omega (arith, e) in
    let some = positive_left options rest number within in
    let some_rest = positive_right options rest number within in
    record {
      positive = some;
      positive_rest = some_rest;
      bound = omega (arith, le-mul_of_pos_right options some_rest);
      rest_is = ap (λ n. n / options) e ∙ mul-div_cancel_left rest some;
      index = (div-lt_iff_lt-mul some_rest).1 within;
    }

drop_at : (rows : List AliveRow) (i : ℕ) (row : AliveRow) → i < length rows → row ≡ get_or rows i row
    → drop i rows ≡ row ∷ drop (i + 1) rows
drop_at rows i row lt is = drop_more rows i row lt ∙ ap (λ r. r ∷ drop (i + 1) rows) (sym is)

pub turn : (rows : List AliveRow) (first i later number : ℕ) (trial : List TrialRow) (row : AliveRow)
    → i < length rows → row ≡ get_or rows i row →
    IsChoosing rows first i later number trial → IsTurn (length row.options)
    (choice_count (drop (i + 1) rows)) later number
turn rows first i later number trial row lt is so_far =
    turn_of (length row.options) (choice_count (drop (i + 1) rows)) later number
    (so_far.later_is ∙ ap choice_count (drop_at rows i row lt is)) so_far.within

join_map : (trial : List TrialRow) (row : TrialRow) (rest : Option (List TrialRow)) →
    option_map (λ rs. trial ++ rs) (option_map (λ rs. row ∷ rs) rest)
    ≡ option_map (λ rs. (trial ++ row ∷ []) ++ rs) rest
join_map trial row None = refl
join_map trial row (Some rs) = ap Some (sym (append_assoc trial (row ∷ []) rs))

nothing_before : (o : Option (List TrialRow)) → o ≡ option_map (λ rest. [] ++ rest) o
nothing_before None = refl
nothing_before (Some trial) = refl

pub choosing_start : (rows : List AliveRow) (later number : ℕ) → later ≡ choice_count rows → number < later
    → IsChoosing rows number 0 later number []
choosing_start rows later number e lt = record {
  later_is = e;
  within = lt;
  below = omega arith;
  rest = λ k h. let at : (number - number) + k ≡ k = omega arith
      in rw at (nothing_before (slice_get (choices_of rows) k));
  len = refl;
}

place_within : (place count options k : ℕ) → place < options → k < count → place * count + k < options * count
place_within place count options k lt h = let most : (place + 1) * count
    ≤ options * count = mul-le-mul_right count (omega arith) in omega arith

pub choosing_step : (rows : List AliveRow) (first i later number : ℕ) (trial : List TrialRow) (row : AliveRow)
    (option : PlanOption) →
    i < length rows → row ≡ get_or rows i row → IsChoosing rows first i later number trial →
    slice_get row.options (number / (later / length row.options)) ≡ Some option →
    IsChoosing rows first (i + 1) (later / length row.options) (number % (later / length row.options))
    (trial ++ chosen_row row option ∷ [])
choosing_step rows first i later number trial row option lt is so_far e =
    let back = drop (i + 1) rows in
    let count = choice_count back in
    let now = turn rows first i later number trial row lt is so_far in
    let chosen = chosen_row row option in
    let at = drop_at rows i row lt is in
    let all : later ≡ length row.options * count = so_far.later_is ∙ ap choice_count at in
    let parts : number / count * count + number % count ≡ number = div-add-mod' number count in
    rw now.rest_is (record {
      later_is = refl;
      within = mod-lt number now.positive_rest;
      below = omega (arith, so_far.below);
      rest = λ k h.
          let place : (first - number % count) + k ≡ (first - number) + (number / count * count + k) = omega
          (arith, so_far.below) in
          let within = place_within (number / count) count (length row.options) k now.index h in
          ap (slice_get (choices_of rows)) place
          ∙ (so_far.rest (number / count * count + k) (omega arith)
          ∙ (ap (λ rs. option_map (λ rest. trial ++ rest) (slice_get (choices_of rs) (number / count * count + k))) at
          ∙ (ap (option_map (λ rest. trial ++ rest)) (choice_at row back (number / count) k option h
          (ap (λ n. slice_get row.options (number / n)) (sym now.rest_is) ∙ e))
          ∙ join_map trial chosen (slice_get (choices_of back) k))));
      len = length-append trial (chosen ∷ []) ∙ omega (arith, so_far.len);
    })

last_choice : (trial : List TrialRow) (number : ℕ) → number < 1
    → option_map (λ rest. trial ++ rest) (slice_get ([] ∷ []) number) ≡ Some trial
last_choice trial zero lt = ap Some (append-nil trial)
last_choice trial (suc n) lt = absurd (omega arith)

pub choosing_end : (rows : List AliveRow) (first i later number : ℕ) (trial : List TrialRow) → length rows ≤ i
    → IsChoosing rows first i later number trial →
    slice_get (choices_of rows) first ≡ Some trial
choosing_end rows first i later number trial le so_far =
    let none = drop_all i rows le in
    let one : later ≡ 1 = so_far.later_is ∙ ap choice_count none in
    let here : first ≡ (first - number) + number = omega (arith, so_far.below) in
    ap (slice_get (choices_of rows)) here
    ∙ (so_far.rest number so_far.within
    ∙ (ap (λ rs. option_map (λ rest. trial ++ rest) (slice_get (choices_of rs) number)) none
    ∙ last_choice trial number (omega (arith, so_far.within, one))))

-- ---- trials that begin with a dead prefix

dead_one : (prefix trial : List TrialRow) (rest : Option (List TrialRow)) → IsDead prefix
    → Some trial ≡ option_map (λ rs. prefix ++ rs) rest → kept_of trial ≡ None
dead_one prefix trial None dead e = absurd cc
dead_one prefix trial (Some rs) dead e = let same : trial ≡ prefix ++ rs = cc in ap kept_of same ∙ dead rs

pub dead_choices : (rows : List AliveRow) (first i later number : ℕ) (prefix : List TrialRow)
    → IsChoosing rows first i later number prefix → IsDead prefix →
    AllFail rows first (later - number)
dead_choices rows first i later number prefix so_far dead =
    let back = choices_of (drop i rows) in
    let last : later - 1 < length back = omega (arith, so_far.within, so_far.later_is, length-choices (drop i rows)) in
    let there : slice_get (choices_of rows) ((first - number) + (later - 1))
    ≡ Some (prefix ++ get_or back (later - 1) []) =
    so_far.rest (later - 1) (omega (arith, so_far.within)) ∙ ap (option_map (λ rest. prefix ++ rest))
    (slice_get-get_or back (later - 1) [] last) in
    let most = slice_get_within (choices_of rows) ((first - number) + (later - 1))
    (prefix ++ get_or back (later - 1) []) there in
    record {
      some = omega (arith, so_far.within);
      within = omega (arith, so_far.within, so_far.below, most, length-choices rows);
      each = λ k trial lt e.
          let at : (first - number) + (number + k) ≡ first + k = omega (arith, so_far.below) in
          dead_one prefix trial (slice_get back (number + k)) dead
          (sym e ∙ (ap (slice_get (choices_of rows)) (sym at) ∙ so_far.rest (number + k) (omega arith)));
    }
