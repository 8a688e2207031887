-- The members of a listed group have ids of their own, and so have those that a trial keeps.
use Rattle.std.proofs.Common.{◌≡◌, ◌∙◌, refl, sym, ap, ℕ, zero, suc, ◌<◌, Bool, true, false, cond, not, List, [], ◌∷◌}
use Rattle.std.proofs.Common.{map, inl, inr, arith}
use Rattle.std.specs.Prelude.{◌&&◌, ◌||◌, nat_lt, slice_get, Option, Some, None}
use Rattle.std.specs.List.{filter, filter_map, list_all, cons_option}
use Rattle.std.specs.Str.{bytes_eq}
use Rattle.std.proofs.lemmas.Bool.{and_parts, and_from, ltb-true, cases_Bool, false_from_ne_true, both_ways}
use Rattle.std.proofs.lemmas.Slice.Eq.{bytes_eq-Decides}
use Rattle.run_docs.specs.Group.{is_listed, is_group_doc}
use Rattle.order_expand.specs.declared.member.Member.{Member}
use Rattle.order_expand.specs.Groups.{distinct, same_id}
use Rattle.plan_resolve.specs.declared.rows.AliveRow.{AliveRow}
use Rattle.plan_resolve.specs.Plan.{at_places}
use Rattle.plan_resolve.specs.Pruning.{is_ascending}
use Rattle.detect_core.specs.declared.chosen.Verdict.{Verdict}
use Rattle.detect_core.specs.declared.chosen.Verdict.TheVariants.{Pass, Fail, Error}
use Rattle.detect_core.specs.Answer.{alive_row}
use Rattle.detect_core.specs.Search.{group_rows}
use Rattle.detect_core.proofs.ListLemmas.{all_weaker, all_filter, filter_passes, all_get, all_places}

pub bytes_eq-swap : (a b : List ℕ) → bytes_eq a b ≡ bytes_eq b a
bytes_eq-swap a b = elim (cases_Bool (bytes_eq a b)) [
  | inl e ↦ e ∙ sym ((bytes_eq-Decides b a).1 (sym ((bytes_eq-Decides a b).0 e)))
  | inr e ↦ e ∙ sym (false_from_ne_true (bytes_eq b a)
      (λ h. both_ways (bytes_eq a b) e ((bytes_eq-Decides a b).1 (sym ((bytes_eq-Decides b a).0 h)))))
]

-- an element has another id than this
abbrev pub differs : {X : Type 0} → (X → List ℕ) → List ℕ → X → Bool
differs id name x = not (bytes_eq (id x) name)

-- no later element has an earlier one's id
abbrev pub own_ids : {X : Type 0} → (X → List ℕ) → List X → Bool
own_ids id [] = true
own_ids id (x ∷ xs) = list_all (differs id (id x)) xs && own_ids id xs

abbrev pub member_id : Member → List ℕ
member_id member = member.key.id

abbrev pub alive_id : AliveRow → List ℕ
alive_id row = row.key.id

-- ---- listed groups

own_put_if : {X : Type 0} (id : X → List ℕ) (b : Bool) (x : X) (xs : List X)
    → list_all (differs id (id x)) xs ≡ true → own_ids id xs ≡ true → own_ids id (cond b (x ∷ xs) xs) ≡ true
own_put_if id true x xs here own = and_from (list_all (differs id (id x)) xs) (own_ids id xs) here own
own_put_if id false x xs here own = own

own-filter : {X : Type 0} (id : X → List ℕ) (p : X → Bool) (xs : List X) → own_ids id xs ≡ true
    → own_ids id (filter p xs) ≡ true
own-filter id p [] own = refl
own-filter id p (x ∷ xs) own =
    let parts = and_parts (list_all (differs id (id x)) xs) (own_ids id xs) own in
    own_put_if id (p x) x (filter p xs) (all_filter p (differs id (id x)) xs parts.0) (own-filter id p xs parts.1)

pub own-distinct : (members : List Member) → own_ids member_id (distinct same_id members) ≡ true
own-distinct [] = refl
own-distinct (m ∷ ms) =
    let later : Member → Bool = λ other. not (same_id m other) in
    let left = filter later (distinct same_id ms) in
    and_from (list_all (differs member_id m.key.id) left) (own_ids member_id left)
    (all_weaker later (differs member_id m.key.id) left
    (λ other h. ap not (bytes_eq-swap other.key.id m.key.id) ∙ h) (filter_passes later (distinct same_id ms)))
    (own-filter member_id later (distinct same_id ms) (own-distinct ms))

-- ---- the members that pass

differs_alive : (name : List ℕ) (m : Member) (v : Verdict) (rows : List AliveRow)
    → differs member_id name m ≡ true → list_all (differs alive_id name) rows ≡ true
    → list_all (differs alive_id name) (cons_option (alive_row m v) rows) ≡ true
differs_alive name m (Pass options) rows h a = and_from (not (bytes_eq m.key.id name))
    (list_all (differs alive_id name) rows) h a
differs_alive name m Fail rows h a = a
differs_alive name m Error rows h a = a

all_differ : (says : Member → Verdict) (name : List ℕ) (group : List Member)
    → list_all (differs member_id name) group ≡ true → list_all (differs alive_id name)
    (filter_map (λ m. alive_row m (says m)) group) ≡ true
all_differ says name [] a = refl
all_differ says name (m ∷ ms) a =
    let parts = and_parts (differs member_id name m) (list_all (differs member_id name) ms) a in
    differs_alive name m (says m) (filter_map (λ n. alive_row n (says n)) ms) parts.0 (all_differ says name ms parts.1)

own_alive : (m : Member) (v : Verdict) (rows : List AliveRow) → list_all (differs alive_id m.key.id) rows ≡ true
    → own_ids alive_id rows ≡ true → own_ids alive_id (cons_option (alive_row m v) rows) ≡ true
own_alive m (Pass options) rows here own = and_from (list_all (differs alive_id m.key.id) rows)
    (own_ids alive_id rows) here own
own_alive m Fail rows here own = own
own_alive m Error rows here own = own

pub own-alive : (says : Member → Verdict) (group : List Member) → own_ids member_id group ≡ true
    → own_ids alive_id (filter_map (λ m. alive_row m (says m)) group) ≡ true
own-alive says [] own = refl
own-alive says (m ∷ ms) own =
    let parts = and_parts (list_all (differs member_id m.key.id) ms) (own_ids member_id ms) own in
    own_alive m (says m) (filter_map (λ n. alive_row n (says n)) ms) (all_differ says m.key.id ms parts.0)
    (own-alive says ms parts.1)

-- ---- those at ascending places

apart : {X : Type 0} (id : X → List ℕ) (xs : List X) (i j : ℕ) (x y : X) → i < j → slice_get xs i ≡ Some x
    → slice_get xs j ≡ Some y → own_ids id xs ≡ true → differs id (id x) y ≡ true
apart id [] i j x y lt a b own = absurd cc
apart id (z ∷ xs) zero zero x y lt a b own = absurd (omega (arith, lt))
apart id (z ∷ xs) zero (suc j) x y lt a b own =
    let same : x ≡ z = cc in
    ap (λ w. differs id (id w) y) same ∙ all_get (differs id (id z)) xs j y b
    (and_parts (list_all (differs id (id z)) xs) (own_ids id xs) own).0
apart id (z ∷ xs) (suc i) zero x y lt a b own = absurd (omega (arith, lt))
apart id (z ∷ xs) (suc i) (suc j) x y lt a b own = apart id xs i j x y (omega (arith, lt)) a b
    (and_parts (list_all (differs id (id z)) xs) (own_ids id xs) own).1

own_cons_option : {X : Type 0} (id : X → List ℕ) (o : Option X) (ys : List X)
    → ((x : X) → o ≡ Some x → list_all (differs id (id x)) ys ≡ true) → own_ids id ys ≡ true
    → own_ids id (cons_option o ys) ≡ true
own_cons_option id None ys here own = own
own_cons_option id (Some x) ys here own = and_from (list_all (differs id (id x)) ys) (own_ids id ys) (here x refl) own

pub own-places : {X : Type 0} (id : X → List ℕ) (xs : List X) (set : List ℕ) → is_ascending set ≡ true
    → own_ids id xs ≡ true → own_ids id (at_places xs set) ≡ true
own-places id xs [] up own = refl
own-places id xs (place ∷ places) up own =
    let parts = and_parts (list_all (nat_lt place) places) (is_ascending places) up in
    own_cons_option id (slice_get xs place) (at_places xs places)
    (λ x e. all_places (differs id (id x)) (nat_lt place) xs places
    (λ other y f lt. apart id xs place other x y (ltb-true place other lt) e f own) parts.0)
    (own-places id xs places parts.1 own)

-- ---- the rows of the chosen group

neither : (a b : Bool) → not a ≡ true → not b ≡ true → not (a || b) ≡ true
neither true b h k = h
neither false b h k = k

not_listed : (name : List ℕ) (rows : List AliveRow) → list_all (differs alive_id name) rows ≡ true
    → not (is_listed (group_rows (map (λ row. row.key) rows)) name) ≡ true
not_listed name [] a = refl
not_listed name (row ∷ rows) a =
    let parts = and_parts (differs alive_id name row) (list_all (differs alive_id name) rows) a in
    neither (bytes_eq row.key.id name) (is_listed (group_rows (map (λ r. r.key) rows)) name) parts.0
    (not_listed name rows parts.1)

-- rows with ids of their own are a group that can be written
pub group_of_own : (rows : List AliveRow) → own_ids alive_id rows ≡ true
    → is_group_doc (group_rows (map (λ row. row.key) rows)) ≡ true
group_of_own [] own = refl
group_of_own (row ∷ rows) own =
    let parts = and_parts (list_all (differs alive_id row.key.id) rows) (own_ids alive_id rows) own in
    let later = group_rows (map (λ (r : AliveRow). r.key) rows) in
    and_from (not (is_listed later row.key.id)) (is_group_doc later) (not_listed row.key.id rows parts.0)
    (group_of_own rows parts.1)
