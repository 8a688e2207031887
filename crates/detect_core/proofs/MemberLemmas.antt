-- The members of some groups, each buildpack once, and what one more group adds to them.
use Rattle.std.proofs.Common.{◌≡◌, ◌∙◌, refl, sym, ap, inl, inr, Bool, true, false, not, List, [], ◌∷◌, ◌++◌, map}
use Rattle.std.proofs.Common.{append_assoc, append-nil}
use Rattle.std.specs.Prelude.{◌||◌, if◌then◌else◌}
use Rattle.std.specs.List.{filter, flat_map, list_any}
use Rattle.std.specs.Str.{bytes_eq}
use Rattle.std.proofs.lemmas.Bool.{and_parts, and_from, or_left, cases_Bool, false_from_ne_true, not_from_false}
use Rattle.std.proofs.lemmas.Bool.{both_ways}
use Rattle.std.proofs.lemmas.Grind.{flat_map-append}
use Rattle.std.proofs.lemmas.List.{map-append}
use Rattle.std.proofs.lemmas.List.Elements.{filter-append}
use Rattle.std.proofs.lemmas.Map.Views.{any-filter_same}
use Rattle.std.proofs.lemmas.Slice.Eq.{bytes_eq-Decides}
use Rattle.cnb_toml.specs.declared.names.Key.{Key}
use Rattle.cnb_toml.specs.Keys.{same_key}
use Rattle.order_expand.specs.declared.member.Member.{Member}
use Rattle.order_expand.specs.Groups.{distinct}
use Rattle.detect_core.specs.Asking.{unmet}
use Rattle.detect_core.specs.Detection.{same_member, members_of}

pub same_key-true : (a b : Key) → same_key a b ≡ true → a ≡ b
same_key-true a b h =
    let parts = and_parts (bytes_eq a.id b.id) (bytes_eq a.version b.version) h in
    let id = (bytes_eq-Decides a.id b.id).0 parts.0 in
    let version = (bytes_eq-Decides a.version b.version).0 parts.1 in
    λ i. record { id = id i; version = version i }

pub same_key-same : (a b : Key) → a ≡ b → same_key a b ≡ true
same_key-same a b e =
    and_from (bytes_eq a.id b.id) (bytes_eq a.version b.version)
    ((bytes_eq-Decides a.id b.id).1 (λ i. (e i).id)) ((bytes_eq-Decides a.version b.version).1 (λ i. (e i).version))

same_key-swap : (a b : Key) → same_key a b ≡ same_key b a
same_key-swap a b = elim (cases_Bool (same_key a b)) [
  | inl e ↦ e ∙ sym (same_key-same b a (sym (same_key-true a b e)))
  | inr e ↦ e ∙ sym (false_from_ne_true (same_key b a)
      (λ h. both_ways (same_key a b) e (same_key-same a b (sym (same_key-true b a h)))))
]

-- a test that cannot tell members of one buildpack apart finds one among the distinct exactly where it finds one at all
pub any-distinct : (p : Member → Bool) → ((a b : Member) → a.key ≡ b.key → p a ≡ p b) → (members : List Member) →
    list_any p (distinct same_member members) ≡ list_any p members
any-distinct p respects [] = refl
any-distinct p respects (m ∷ ms) =
    let kept = filter (λ (n : Member). not (same_member m n)) (distinct same_member ms) in
    elim (cases_Bool (p m)) [
      | inl e ↦ or_left (p m) (list_any p kept) e ∙ sym (or_left (p m) (list_any p ms) e)
      | inr e ↦ ap (λ b. p m || b)
          (any-filter_same p (λ (n : Member). not (same_member m n)) true
          (λ n h. not_from_false (same_member m n)
          (false_from_ne_true (same_member m n) (λ same. both_ways (p m) e
          (respects m n (same_key-true m.key n.key same) ∙ h))))
          (distinct same_member ms) ∙ any-distinct p respects ms)
    ]

abbrev pub keys_of_members : List Member → List Key
keys_of_members members = map (λ member. member.key) members

pub any-member_keys : (key : Key) (members : List Member)
    → list_any (same_key key) (keys_of_members members) ≡ list_any (λ m. same_key key m.key) members
any-member_keys key [] = refl
any-member_keys key (m ∷ ms) = ap (λ b. same_key key m.key || b) (any-member_keys key ms)

pub any-met : (key : Key) (members : List Member) → list_any (same_key key)
    (keys_of_members (distinct same_member members)) ≡ list_any (λ m. same_key key m.key) members
any-met key members =
    any-member_keys key (distinct same_member members) ∙ any-distinct (λ (m : Member). same_key key m.key)
    (λ a b e. ap (same_key key) e) members

push_step : (p : Member → Bool) (x y : Member) (met : List Member) (b c : Bool) → p y ≡ not c →
    x ∷ filter p (if b then met else met ++ y ∷ []) ≡ (if c || b then x ∷ filter p met else x ∷ filter p met ++ y ∷ [])
push_step p x y met true true e = refl
push_step p x y met true false e = refl
push_step p x y met false true e =
    ap (λ ms. x ∷ ms) (filter-append p met (y ∷ [])
    ∙ (ap (λ b. filter p met ++ (if b then y ∷ [] else [])) e ∙ append-nil (filter p met)))
push_step p x y met false false e =
    ap (λ ms. x ∷ ms) (filter-append p met (y ∷ []) ∙ ap (λ b. filter p met ++ (if b then y ∷ [] else [])) e)

-- what one member more adds
distinct-push : (xs : List Member) (y : Member) →
    distinct same_member (xs ++ y ∷ []) ≡ (if list_any (same_member y) xs then distinct same_member xs else
    distinct same_member xs ++ y ∷ [])
distinct-push [] y = refl
distinct-push (x ∷ xs) y =
    ap (λ ms. x ∷ filter (λ z. not (same_member x z)) ms) (distinct-push xs y)
    ∙ push_step (λ z. not (same_member x z)) x y (distinct same_member xs) (list_any (same_member y) xs)
    (same_member y x) (ap not (same_key-swap x.key y.key))

-- what some members more add
pub distinct-append : (xs ys : List Member) →
    distinct same_member (xs ++ ys) ≡ distinct same_member xs ++ unmet (keys_of_members (distinct same_member xs)) ys
distinct-append xs [] = ap (distinct same_member) (append-nil xs) ∙ sym (append-nil (distinct same_member xs))
distinct-append xs (y ∷ ys) =
    let met = distinct same_member xs in
    let pushed : distinct same_member (xs ++ y ∷ [])
    ≡ (if list_any (same_key y.key) (keys_of_members met) then met else met ++ y ∷ []) =
    distinct-push xs y ∙ ap (λ b. if b then met else met ++ y ∷ []) (sym (any-met y.key xs)) in
    let step = λ (b : Bool) (e : distinct same_member (xs ++ y ∷ []) ≡ (if b then met else met ++ y ∷ [])).
    let whole : (if b then met else met ++ y ∷ []) ++ unmet (keys_of_members (if b then met else met ++ y ∷ [])) ys
    ≡ met ++ (if b then unmet (keys_of_members met) ys else y ∷ unmet (keys_of_members met ++ y.key ∷ []) ys) =
    elim b as (λ c. (if c then met else met ++ y ∷ []) ++ unmet (keys_of_members (if c then met else met ++ y ∷ [])) ys
    ≡ met ++ (if c then unmet (keys_of_members met) ys else y ∷ unmet (keys_of_members met ++ y.key ∷ []) ys)) [
      | true ↦ refl
      | false ↦ append_assoc met (y ∷ []) (unmet (keys_of_members (met ++ y ∷ [])) ys)
          ∙ ap (λ ks. met ++ y ∷ unmet ks ys) (map-append (λ (m : Member). m.key) met (y ∷ []))
    ] in
    ap (λ ms. ms ++ unmet (keys_of_members ms) ys) e ∙ whole in
    ap (distinct same_member) (sym (append_assoc xs (y ∷ []) ys))
    ∙ (distinct-append (xs ++ y ∷ []) ys ∙ step (list_any (same_key y.key) (keys_of_members met)) pushed)

abbrev pub flat : List (List Member) → List Member
flat groups = flat_map (λ group. group) groups

-- what one group more adds to the members
pub members-push : (done : List (List Member)) (group : List Member) →
    members_of (done ++ group ∷ []) ≡ members_of done ++ unmet (keys_of_members (members_of done)) group
members-push done group =
    ap (distinct same_member) (flat_map-append (λ (g : List Member). g) done (group ∷ [])
    ∙ ap (λ ms. flat done ++ ms) (append-nil group))
    ∙ distinct-append (flat done) group

-- the members of more groups begin with those of the first ones
pub members-front : (done later : List (List Member)) →
    members_of (done ++ later) ≡ members_of done ++ unmet (keys_of_members (members_of done)) (flat later)
members-front done later = ap (distinct same_member) (flat_map-append (λ (g : List Member). g) done later)
    ∙ distinct-append (flat done) (flat later)
