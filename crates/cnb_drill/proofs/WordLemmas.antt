-- All lists of so many digits, in lexicographic order: those before one have a smaller digit, and are as many as its
-- value.
use Rattle.std.proofs.Common.{◌≡◌, ◌∙◌, refl, sym, ap, ℕ, zero, suc, ◌+◌, ◌*◌, ◌<◌, ◌^◌, Bool, true, false, List, []}
use Rattle.std.proofs.Common.{◌∷◌, ◌++◌, map, length, drop, arith, append_assoc, length-append}
use Rattle.std.specs.Prelude.{nat_lt, ◌||◌}
use Rattle.std.specs.List.{flat_map, list_all}
use Rattle.std.proofs.lemmas.Bool.{and_from, or_left, or_right}
use Rattle.std.proofs.lemmas.Grind.{flat_map-append}
use Rattle.std.proofs.lemmas.List.{map-append, length-map}
use Rattle.std.proofs.lemmas.List.Folds.{list_all-append, list_all-map}
use Rattle.std.proofs.Math.Nat.{pow-succ'}
use Rattle.detect_core.proofs.ListLemmas.{all_each, all_weaker, all_flat}
use Rattle.plan_resolve.specs.Trials.{numbers_below}
use Rattle.cnb_drill.proofs.Members.{value}
use Rattle.cnb_drill.specs.Buildpacks.{eight}
use Rattle.cnb_drill.proofs.Digits.{eight_at, below-lt}

abbrev pub in_front : ℕ → List (List ℕ) → List (List ℕ)
in_front digit words = map (λ word. digit ∷ word) words

-- all lists of so many digits, the first varying slowest
abbrev pub words : ℕ → List (List ℕ)
words zero = [] ∷ []
words (suc places) = flat_map (λ digit. in_front digit (words places)) eight

-- those before one, and those behind it
abbrev pub before : List ℕ → List (List ℕ)
before [] = []
before (digit ∷ digits) = flat_map (λ smaller. in_front smaller (words (length digits))) (numbers_below digit)
    ++ in_front digit (before digits)

abbrev pub behind : List ℕ → List (List ℕ)
behind [] = []
behind (digit ∷ digits) = in_front digit (behind digits)
    ++ flat_map (λ larger. in_front larger (words (length digits))) (drop (digit + 1) eight)

abbrev pub AreDigits : List ℕ → Type 0
AreDigits [] = Unit {0}
AreDigits (digit ∷ digits) = (digit < 8) × AreDigits digits

regroup : {X : Type 0} (a b : List X) (x : X) (c d : List X) → a ++ ((b ++ x ∷ c) ++ d) ≡ (a ++ b) ++ x ∷ (c ++ d)
regroup a b x c d = ap (λ xs. a ++ xs) (append_assoc b (x ∷ c) d) ∙ sym (append_assoc a b (x ∷ (c ++ d)))

-- where a list of digits stands among all
pub words_at : (digits : List ℕ) → AreDigits digits → words (length digits) ≡ before digits ++ digits ∷ behind digits
words_at [] h = refl
words_at (digit ∷ digits) h =
    let all = words (length digits) in
    let f : ℕ → List (List ℕ) = λ d. in_front d all in
    ap (flat_map f) (eight_at digit h.0)
    ∙ (flat_map-append f (numbers_below digit) (digit ∷ drop (digit + 1) eight)
    ∙ (ap (λ ws. flat_map f (numbers_below digit) ++ (ws ++ flat_map f (drop (digit + 1) eight)))
    (ap (in_front digit) (words_at digits h.1) ∙ map-append (λ word. digit ∷ word) (before digits)
    (digits ∷ behind digits))
    ∙ regroup (flat_map f (numbers_below digit)) (in_front digit (before digits)) (digit ∷ digits)
    (in_front digit (behind digits)) (flat_map f (drop (digit + 1) eight))))

-- as many lists as lists of each element, times the elements
length_each : {X : Type 0} (f : ℕ → List X) (m : ℕ) → ((n : ℕ) → length (f n) ≡ m) → (n : ℕ)
    → length (flat_map f (numbers_below n)) ≡ n * m
length_each f m each zero = sym (omega arith)
length_each f m each (suc n) =
    ap length (flat_map-append f (numbers_below n) (n ∷ []))
    ∙ (length-append (flat_map f (numbers_below n)) (f n ++ [])
    ∙ ((λ i. length_each f m each n i + (length-append (f n) [] ∙ ap (λ l. l + 0) (each n)) i) ∙ omega arith))

pub length-words : (places : ℕ) → length (words places) ≡ 8 ^ places
length-words zero = refl
length-words (suc places) =
    length_each (λ digit. in_front digit (words places)) (8 ^ places)
    (λ digit. length-map (words places) (λ word. digit ∷ word) ∙ length-words places) 8
    ∙ sym (pow-succ' 8 places)

pub length-before : (digits : List ℕ) → length (before digits) ≡ value digits
length-before [] = refl
length-before (digit ∷ digits) =
    let all = words (length digits) in
    let f : ℕ → List (List ℕ) = λ d. in_front d all in
    length-append (flat_map f (numbers_below digit)) (in_front digit (before digits))
    ∙ (λ i. length_each f (8 ^ length digits) (λ d. length-map all (λ word. d ∷ word)
    ∙ length-words (length digits)) digit i
    + (length-map (before digits) (λ word. digit ∷ word) ∙ length-before digits) i)

-- some digit is smaller than the other list's digit at its place
abbrev pub has_smaller : List ℕ → List ℕ → Bool
has_smaller [] digits = false
has_smaller (x ∷ xs) [] = false
has_smaller (x ∷ xs) (digit ∷ digits) = nat_lt x digit || has_smaller xs digits

pub smaller-before : (digits : List ℕ) → AreDigits digits
    → list_all (λ word. has_smaller word digits) (before digits) ≡ true
smaller-before [] h = refl
smaller-before (digit ∷ digits) h =
    let all = words (length digits) in
    let test : List ℕ → Bool = λ word. has_smaller word (digit ∷ digits) in
    let f : ℕ → List (List ℕ) = λ d. in_front d all in
    let first : list_all test (flat_map f (numbers_below digit)) ≡ true =
    all_flat test f (numbers_below digit)
    (all_weaker (λ x. nat_lt x digit) (λ x. list_all test (f x)) (numbers_below digit)
    (λ x e. list_all-map test (λ word. x ∷ word) all ∙ all_each
    (λ word. nat_lt x digit || has_smaller word digits) all
    (λ word. or_left (nat_lt x digit) (has_smaller word digits) e))
    (below-lt digit h.0)) in
    let second : list_all test (in_front digit (before digits)) ≡ true =
    list_all-map test (λ word. digit ∷ word) (before digits)
    ∙ all_weaker (λ word. has_smaller word digits) (λ word. nat_lt digit digit || has_smaller word digits)
    (before digits)
    (λ word e. or_right (nat_lt digit digit) (has_smaller word digits) e) (smaller-before digits h.1) in
    list_all-append test (flat_map f (numbers_below digit)) (in_front digit (before digits))
    ∙ and_from (list_all test (flat_map f (numbers_below digit)))
    (list_all test (in_front digit (before digits))) first second
