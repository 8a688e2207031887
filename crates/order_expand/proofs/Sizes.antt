-- How many groups there are, and how long the longest is.
use Rattle.std.proofs.Common.{◌≡◌, ℕ, zero, suc, ◌+◌, ◌-◌, ◌*◌, ◌^◌, ◌<◌, ◌≤◌, List, [], ◌∷◌, ◌++◌, map, refl, sym, ◌∙◌}
use Rattle.std.proofs.Common.{ap, inl, inr, ◌⊎◌, length, arith, mul_comm, length-append}
use Rattle.std.specs.Prelude.{min, max}
use Rattle.std.specs.List.{flat_map}
use Rattle.std.proofs.Math.Nat.{mul-le-mul_left}
use Rattle.std.proofs.lemmas.Bool.{cases_lt}
use Rattle.order_expand.specs.declared.member.Member.{Member}
use Rattle.order_expand.specs.declared.size.Size.{Size}
use Rattle.order_expand.specs.Sizes.{longest, size_of}

-- ---- numbers of groups

pub length_map : {X Y : Type 0} (f : X → Y) (xs : List X) → length (map f xs) ≡ length xs
length_map f [] = refl
length_map f (x ∷ xs) = ap suc (length_map f xs)

pub length_product : {X Y Z : Type 0} (f : X → Y → Z) (xs : List X) (ys : List Y)
    → length (flat_map (λ x. map (f x) ys) xs) ≡ length xs * length ys
length_product f [] ys = omega arith
length_product f (x ∷ xs) ys =
    length-append (map (f x) ys) (flat_map (λ z. map (f z) ys) xs)
    ∙ ((λ i. length_map (f x) ys i + length_product f xs ys i) ∙ omega arith)

empty_of_length : {X : Type 0} (xs : List X) → length xs ≡ 0 → xs ≡ []
empty_of_length [] e = refl
empty_of_length (x ∷ xs) e = absurd (omega arith)

-- a number within the limit, or one that is cut off
cut : (n : ℕ) → ((n ≤ 4096) × (min 4097 n ≡ n)) ⊎ ((4097 ≤ n) × (min 4097 n ≡ 4097))
cut n = elim (cases_lt n 4097) [ inl h ↦ inl (omega arith, omega arith) | inr h ↦ inr (h, omega arith) ]

few_of_few : (a b : ℕ) → a ≤ 4096 → b ≤ 4096 → a * b ≤ 16777216
few_of_few a b p q = let m : a * b ≤ a * 4096 = mul-le-mul_left a q in omega arith

cut_of_many : (b : ℕ) → (B : ℕ) → ((b ≤ 4096) × (B ≡ b)) ⊎ ((4097 ≤ b) × (B ≡ 4097)) → (a : ℕ) → 4097 ≤ a
    → min 4097 (min (4097 * B) (2 ^ 32 - 1)) ≡ min 4097 (a * b)
cut_of_many zero B c a h = elim c [ inl p ↦ (let e = p.1 in omega arith) | inr p ↦ absurd (omega (arith, p.0)) ]
cut_of_many (suc k) B c a h = elim c [ inl p ↦ (let e = p.1 in omega arith) | inr p ↦ (let e = p.1 in omega arith) ]

-- a product whose factors and value are cut off
mul_cut : (a b : ℕ) → min 4097 (min (min 4097 a * min 4097 b) (2 ^ 32 - 1)) ≡ min 4097 (a * b)
mul_cut a b = elim (cut a) [
  | inr p ↦ ap (λ n. min 4097 (min (n * min 4097 b) (2 ^ 32 - 1))) p.1 ∙ cut_of_many b (min 4097 b) (cut b) a p.0
  | inl p ↦ elim (cut b) [
    | inr q ↦ (λ i. min 4097 (min (mul_comm (min 4097 a) (q.1 i) i) (2 ^ 32 - 1)))
        ∙ (cut_of_many a (min 4097 a) (inl p) b q.0 ∙ ap (λ n. min 4097 n) (mul_comm b a))
    | inl q ↦ (λ i. min 4097 (min (p.1 i * q.1 i) (2 ^ 32 - 1))) ∙ (let few = few_of_few a b p.0 q.0 in omega arith)
  ]
]

-- ---- lengths

pub longest-append : (xs ys : List (List Member)) → longest (xs ++ ys) ≡ max (longest xs) (longest ys)
longest-append [] ys = omega arith
longest-append (x ∷ xs) ys = ap (λ n. max (length x) n) (longest-append xs ys) ∙ omega arith

pub longest-member : (m : Member) (gs : List (List Member)) → 0 < length gs
    → longest (map (λ g. m ∷ g) gs) ≡ longest gs + 1
longest-member m [] h = absurd (omega arith)
longest-member m (g ∷ []) h = omega arith
longest-member m (g ∷ h ∷ gs) p =
    let behind : longest (map (λ k. m ∷ k) (h ∷ gs)) ≡ longest (h ∷ gs) + 1 = longest-member m (h ∷ gs) (omega arith) in
    ap (λ n. max (suc (length g)) n) behind ∙ omega arith

longest-front : (front : List Member) (gs : List (List Member)) → 0 < length gs
    → longest (map (λ g. front ++ g) gs) ≡ length front + longest gs
longest-front front [] h = absurd (omega arith)
longest-front front (g ∷ []) h = ap (λ n. max n 0) (length-append front g) ∙ omega arith
longest-front front (g ∷ h ∷ gs) p =
    let behind : longest (map (λ k. front ++ k) (h ∷ gs)) ≡ length front + longest (h ∷ gs) = longest-front front
    (h ∷ gs) (omega arith) in
    (λ i. max (length-append front g i) (behind i)) ∙ omega arith

longest-product : (fronts gs : List (List Member)) → 0 < length fronts → 0 < length gs
    → longest (flat_map (λ front. map (λ g. front ++ g) gs) fronts) ≡ longest fronts + longest gs
longest-product [] gs p q = absurd (omega arith)
longest-product (front ∷ []) gs p q =
    longest-append (map (λ g. front ++ g) gs) [] ∙ (ap (λ n. max n 0) (longest-front front gs q) ∙ omega arith)
longest-product (front ∷ other ∷ fronts) gs p q =
    let behind : longest (flat_map (λ front. map (λ g. front ++ g) gs) (other ∷ fronts))
    ≡ longest (other ∷ fronts) + longest gs = longest-product (other ∷ fronts) gs (omega arith) q in
    longest-append (map (λ g. front ++ g) gs) (flat_map (λ front. map (λ g. front ++ g) gs) (other ∷ fronts))
    ∙ ((λ i. max (longest-front front gs q i) (behind i)) ∙ omega arith)

-- ---- sizes

pub size_is : (groups longest_one : ℕ) (gs : List (List Member)) → groups ≡ min 4097 (length gs)
    → longest_one ≡ min 257 (longest gs) →
    record { groups = groups; longest = longest_one } ≡ size_of gs
unfolding size_of
size_is groups longest_one gs e h = λ i. record { groups = e i; longest = h i }

pub size_of-groups : (size : Size) (gs : List (List Member)) → size ≡ size_of gs → size.groups ≡ min 4097 (length gs)
unfolding size_of
size_of-groups size gs e = ap (λ (s : Size). s.groups) e

pub size_of-longest : (size : Size) (gs : List (List Member)) → size ≡ size_of gs → size.longest ≡ min 257 (longest gs)
unfolding size_of
size_of-longest size gs e = ap (λ (s : Size). s.longest) e

-- a size without groups is that of no groups
pub none_of_size : (size : Size) (gs : List (List Member)) → size ≡ size_of gs → size.groups ≡ 0 → gs ≡ []
none_of_size size gs e z = let h : length gs ≡ 0 = omega (arith, size_of-groups size gs e) in empty_of_length gs h

pub none_with_member : (size : Size) (gs : List (List Member)) (m : Member) → size ≡ size_of gs → size.groups ≡ 0
    → size ≡ size_of (map (λ g. m ∷ g) gs)
none_with_member size gs m e z =
    let none = none_of_size size gs e z in
    e ∙ (ap size_of none ∙ sym (ap (λ hs. size_of (map (λ g. m ∷ g) hs)) none))

pub some_with_member : (size : Size) (gs : List (List Member)) (m : Member) (n : ℕ) → size ≡ size_of gs
    → (size.groups ≡ 0 → ⊥) → n ≡ min 257 (min (size.longest + 1) (2 ^ 32 - 1)) →
    record { groups = size.groups; longest = n } ≡ size_of (map (λ g. m ∷ g) gs)
some_with_member size gs m n e some h =
    let groups = size_of-groups size gs e in
    let long = size_of-longest size gs e in
    let there : 0 < length gs = omega arith in
    size_is size.groups n (map (λ g. m ∷ g) gs) (groups ∙ sym (ap (λ k. min 4097 k) (length_map (λ g. m ∷ g) gs)))
    (let l = longest-member m gs there in omega arith)

pub both_sizes : (a b : Size) (xs ys : List (List Member)) (groups longest_one : ℕ) → a ≡ size_of xs → b ≡ size_of ys →
    groups ≡ min 4097 (min (a.groups + b.groups) (2 ^ 32 - 1)) → longest_one ≡ max a.longest b.longest
    → record { groups = groups; longest = longest_one } ≡ size_of (xs ++ ys)
both_sizes a b xs ys groups longest_one e f g h =
    let ag = size_of-groups a xs e in
    let bg = size_of-groups b ys f in
    let al = size_of-longest a xs e in
    let bl = size_of-longest b ys f in
    size_is groups longest_one (xs ++ ys) (let n = length-append xs ys in omega arith)
    (let n = longest-append xs ys in omega arith)

pub none_of_fronts : (a : Size) (xs ys : List (List Member)) → a ≡ size_of xs → a.groups ≡ 0
    → size_of [] ≡ size_of (flat_map (λ front. map (λ g. front ++ g) ys) xs)
none_of_fronts a xs ys e z = sym (ap (λ hs. size_of (flat_map (λ front. map (λ g. front ++ g) ys) hs))
    (none_of_size a xs e z))

flat_map_none : (xs : List (List Member)) → flat_map (λ front. map (λ (g : List Member). front ++ g) []) xs ≡ []
flat_map_none [] = refl
flat_map_none (x ∷ xs) = flat_map_none xs

pub none_of_behind : (b : Size) (xs ys : List (List Member)) → b ≡ size_of ys → b.groups ≡ 0
    → size_of [] ≡ size_of (flat_map (λ front. map (λ g. front ++ g) ys) xs)
none_of_behind b xs ys f z =
    sym (ap (λ hs. size_of (flat_map (λ front. map (λ g. front ++ g) hs) xs)) (none_of_size b ys f z)
    ∙ ap size_of (flat_map_none xs))

pub product_size : (a b : Size) (xs ys : List (List Member)) (groups longest_one : ℕ) → a ≡ size_of xs
    → b ≡ size_of ys → (a.groups ≡ 0 → ⊥) → (b.groups ≡ 0 → ⊥) →
    groups ≡ min 4097 (min (a.groups * b.groups) (2 ^ 32 - 1))
    → longest_one ≡ min 257 (min (a.longest + b.longest) (2 ^ 32 - 1)) →
    record { groups = groups; longest = longest_one } ≡ size_of (flat_map (λ front. map (λ g. front ++ g) ys) xs)
product_size a b xs ys groups longest_one e f p q g h =
    let ag = size_of-groups a xs e in
    let bg = size_of-groups b ys f in
    let al = size_of-longest a xs e in
    let bl = size_of-longest b ys f in
    let x : 0 < length xs = omega arith in
    let y : 0 < length ys = omega arith in
    size_is groups longest_one (flat_map (λ front. map (λ g. front ++ g) ys) xs)
    (g ∙ ((λ i. min 4097 (min (ag i * bg i) (2 ^ 32 - 1))) ∙
    (mul_cut (length xs) (length ys) ∙ sym (ap (λ n. min 4097 n)
    (length_product (λ front g. front ++ g) xs ys)))))
    (let n = longest-product xs ys x y in omega arith)
