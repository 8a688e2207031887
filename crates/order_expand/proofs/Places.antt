-- Looking up the descriptor that an entry names.
use Rattle.std.proofs.Common.{◌≡◌, ℕ, ◌+◌, ◌<◌, Bor, Bool, true, false, cond, List, [], ◌∷◌, ◌++◌, map, refl, sym, ◌∙◌}
use Rattle.std.proofs.Common.{ap, subst, length, take, drop, get_or, zero-add, arith, append_assoc, append-nil}
use Rattle.std.proofs.Common.{length-append}
use Rattle.std.specs.Prelude.{Option, Some, None, is_some}
use Rattle.std.specs.List.{filter, slice_get}
use Rattle.std.specs.Option.{option_map, option_to_list, option_copied}
use Rattle.std.proofs.lemmas.Option.{slice_get_past, slice_get-get_or}
use Rattle.std.specs.Slice.{IsGetResult}
use Rattle.std.proofs.lemmas.List.{take_more, length-take-le, take-append-drop}
use Rattle.bp_docs.specs.declared.descriptor.Entry.{Entry}
use Rattle.bp_docs.specs.declared.descriptor.Descriptor.{Descriptor}
use Rattle.order_expand.specs.Groups.{the_only, may_mean, named}
use Rattle.order_expand.specs.Places.{places_from, place_of}

cond_append : {X : Type 0} (b : Bool) (x : X) (xs ys : List X)
    → cond b (x ∷ (xs ++ ys)) (xs ++ ys) ≡ cond b (x ∷ xs) xs ++ ys
cond_append true x xs ys = refl
cond_append false x xs ys = refl

pub places_from-append : (n : ℕ) (entry : Entry) (xs ys : List Descriptor)
    → places_from n entry (xs ++ ys) ≡ places_from n entry xs ++ places_from (n + length xs) entry ys
places_from-append n entry [] ys = ap (λ m. places_from m entry ys) (omega arith)
places_from-append n entry (x ∷ xs) ys =
    let rest : places_from (n + 1) entry (xs ++ ys) ≡ places_from (n + 1) entry xs
    ++ places_from (n + length (x ∷ xs)) entry ys =
    places_from-append (n + 1) entry xs ys ∙ ap (λ m. places_from (n + 1) entry xs ++ places_from m entry ys)
    (omega arith) in
    ap (λ ps. cond (may_mean entry x) (n ∷ ps) ps) rest ∙ cond_append (may_mean entry x) n
    (places_from (n + 1) entry xs) (places_from (n + length (x ∷ xs)) entry ys)

-- the places up to one descriptor more
pub places_more : (entry : Entry) (xs : List Descriptor) (i : ℕ) (d : Descriptor) → i < length xs → d ≡ get_or xs i d →
    places_from 0 entry (take (i + 1) xs) ≡ places_from 0 entry (take i xs) ++ cond (may_mean entry d) (i ∷ []) []
places_more entry xs i d h e =
    ap (places_from 0 entry) (take_more xs i d h ∙ ap (λ x. take i xs ++ x ∷ []) (sym e))
    ∙ (places_from-append 0 entry (take i xs) (d ∷ [])
    ∙ ap (λ m. places_from 0 entry (take i xs) ++ cond (may_mean entry d) (m ∷ []) [])
    (zero-add (length (take i xs)) ∙ length-take-le i xs (omega arith)))

-- where a second descriptor may be meant, none is named
pub none_of_two : (entry : Entry) (xs : List Descriptor) (i : ℕ) (d : Descriptor) (found : Option ℕ)
    → i < length xs → d ≡ get_or xs i d →
    places_from 0 entry (take i xs) ≡ option_to_list found → may_mean entry d ≡ true → is_some found ≡ true
    → None ≡ place_of xs entry
none_of_two entry xs i d None h e w m s = cc
none_of_two entry xs i d (Some place) h e w m s =
    let first : places_from 0 entry (take (i + 1) xs) ≡ place ∷ i ∷ [] =
    places_more entry xs i d h e ∙ (λ k. w k ++ cond (m k) (i ∷ []) []) in
    let all : places_from 0 entry xs ≡ place ∷ i ∷ places_from (0 + length (take (i + 1) xs)) entry (drop (i + 1) xs) =
    ap (places_from 0 entry) (sym (take-append-drop (i + 1) xs))
    ∙ (places_from-append 0 entry (take (i + 1) xs) (drop (i + 1) xs)
    ∙ ap (λ ps. ps ++ places_from (0 + length (take (i + 1) xs)) entry (drop (i + 1) xs)) first) in
    sym (ap the_only all)

-- one place more
pub place_step : (entry : Entry) (xs : List Descriptor) (i : ℕ) (d : Descriptor) (found : Option ℕ)
    → i < length xs → d ≡ get_or xs i d →
    places_from 0 entry (take i xs) ≡ option_to_list found → may_mean entry d ≡ true → is_some found ≡ false
    → places_from 0 entry (take (i + 1) xs) ≡ i ∷ []
place_step entry xs i d None h e w m s = places_more entry xs i d h e ∙ (λ k. w k ++ cond (m k) (i ∷ []) [])
place_step entry xs i d (Some place) h e w m s = cc

pub place_same : (entry : Entry) (xs : List Descriptor) (i : ℕ) (d : Descriptor) (found : Option ℕ)
    → i < length xs → d ≡ get_or xs i d →
    places_from 0 entry (take i xs) ≡ option_to_list found → may_mean entry d ≡ false
    → places_from 0 entry (take (i + 1) xs) ≡ option_to_list found
place_same entry xs i d found h e w m = places_more entry xs i d h e
    ∙ ((λ k. w k ++ cond (m k) (i ∷ []) []) ∙ append-nil (option_to_list found))

-- ---- what stands at the place

slice_get_seam : {X : Type 0} (pre : List X) (x : X) (xs : List X) → slice_get (pre ++ x ∷ xs) (length pre) ≡ Some x
slice_get_seam [] x xs = refl
slice_get_seam (y ∷ pre) x xs = slice_get_seam pre x xs

map_cond : {X Y : Type 0} (f : X → Option Y) (b : Bool) (p : X) (ps : List X) (d : Y) (ds : List Y) → f p ≡ Some d
    → map f ps ≡ map Some ds →
    map f (cond b (p ∷ ps) ps) ≡ map Some (cond b (d ∷ ds) ds)
map_cond f true p ps d ds e rest = λ i. e i ∷ rest i
map_cond f false p ps d ds e rest = rest

-- a place for each descriptor that may be meant
at_places : (pre : List Descriptor) (entry : Entry) (xs : List Descriptor) →
    map (slice_get (pre ++ xs)) (places_from (length pre) entry xs) ≡ map Some (filter (may_mean entry) xs)
at_places pre entry [] = refl
at_places pre entry (x ∷ xs) =
    let Same : List Descriptor → ℕ → Type 0 = λ ys n. map (slice_get ys) (places_from n entry xs)
    ≡ map Some (filter (may_mean entry) xs) in
    let behind : Same (pre ++ x ∷ xs) (length pre + 1) =
    subst (λ (ys : List Descriptor). Same ys (length pre + 1)) (append_assoc pre (x ∷ []) xs)
    (subst (λ (n : ℕ). Same ((pre ++ x ∷ []) ++ xs) n) (length-append pre (x ∷ []))
    (at_places (pre ++ x ∷ []) entry xs)) in
    map_cond (slice_get (pre ++ x ∷ xs)) (may_mean entry x) (length pre) (places_from (length pre + 1) entry xs) x
    (filter (may_mean entry) xs)
    (slice_get_seam pre x xs) behind

the_only-map : {X Y : Type 0} (f : X → Y) (xs : List X) → the_only (map f xs) ≡ option_map f (the_only xs)
the_only-map f [] = refl
the_only-map f (x ∷ []) = refl
the_only-map f (x ∷ y ∷ xs) = refl

-- the descriptor at the place
pub at_place : (catalog : List Descriptor) (entry : Entry)
    → option_map (slice_get catalog) (place_of catalog entry) ≡ option_map Some (named catalog entry)
at_place catalog entry =
    sym (the_only-map (slice_get catalog) (places_from 0 entry catalog))
    ∙ (ap the_only (at_places [] entry catalog) ∙ the_only-map Some (filter (may_mean entry) catalog))

inner_some : {X : Type 0} (x o : Option X) → Some x ≡ option_map Some o → x ≡ o
inner_some x None e = cc
inner_some x (Some y) e = cc

inner_none : {X : Type 0} (o : Option X) → None ≡ option_map Some o → None ≡ o
inner_none None e = refl
inner_none (Some y) e = cc

pub named_there : (catalog : List Descriptor) (entry : Entry) (place : ℕ) → Some place ≡ place_of catalog entry
    → slice_get catalog place ≡ named catalog entry
named_there catalog entry place e = inner_some (slice_get catalog place) (named catalog entry)
    (ap (option_map (slice_get catalog)) e ∙ at_place catalog entry)

pub named_nowhere : (catalog : List Descriptor) (entry : Entry) → None ≡ place_of catalog entry
    → None ≡ named catalog entry
named_nowhere catalog entry e = inner_none (named catalog entry)
    (ap (option_map (slice_get catalog)) e ∙ at_place catalog entry)

pub got : {X : Type 0} (xs : List X) (i : ℕ) (r : Option (Bor X)) → IsGetResult xs i i r
    → option_copied r ≡ slice_get xs i
got xs i None h = sym (slice_get_past xs i h.3)
got xs i (Some x) h = ap Some h.1 ∙ sym (slice_get-get_or xs i x.now h.3.0)
