-- A set takes a name as an ascending list does.
use Rattle.std.proofs.Common.{◌≡◌, ℕ, List, [], ◌∷◌, ◌++◌, map, refl, ◌∙◌, ap}
use Rattle.std.specs.declared.cmp.Ordering.{Ordering}
use Rattle.std.specs.declared.cmp.Ordering.TheVariants.{Less, Equal, Greater}
use Rattle.std.specs.Ordering.{nat_cmp, match_ordering}
use Rattle.std.specs.Cmp.Lexicographic.{slice_cmp}
use Rattle.std.specs.BTreeSet.{insert_key}
use Rattle.cnb_toml.specs.Ascending.{put_name, put_name_by, ascending}

-- these names put, from the last to the first, into a list of names
abbrev pub put_all : List (List ℕ) → List (List ℕ) → List (List ℕ)
put_all [] set = set
put_all (name ∷ names) set = put_name name (put_all names set)

pub put_all_is : (names : List (List ℕ)) → put_all names [] ≡ ascending names
put_all_is [] = refl
put_all_is (name ∷ names) = ap (put_name name) (put_all_is names)

pub put_all-push : (names : List (List ℕ)) (name : List ℕ) (set : List (List ℕ))
    → put_all (names ++ name ∷ []) set ≡ put_all names (put_name name set)
put_all-push [] name set = refl
put_all-push (x ∷ names) name set = ap (put_name x) (put_all-push names name set)

put_by : {K : Type 0} (f : K → List ℕ) (o : Ordering) (k x : K) (xs later : List K) →
    map f (match_ordering o (k ∷ x ∷ xs) (x ∷ xs) (x ∷ later)) ≡ put_name_by o (f k) (f x) (map f xs) (map f later)
put_by f Less k x xs later = refl
put_by f Equal k x xs later = refl
put_by f Greater k x xs later = refl

-- a set of borrowed names takes a name as a list of names does
pub insert_put : {K : Type 0} (f : K → List ℕ) (keys : List K) (k : K)
    → map f (insert_key (λ x y. slice_cmp nat_cmp (f x) (f y)) keys k) ≡ put_name (f k) (map f keys)
insert_put f [] k = refl
insert_put f (x ∷ xs) k =
    put_by f (slice_cmp nat_cmp (f k) (f x)) k x xs (insert_key (λ y z. slice_cmp nat_cmp (f y) (f z)) xs k)
    ∙ ap (put_name_by (slice_cmp nat_cmp (f k) (f x)) (f k) (f x) (map f xs)) (insert_put f xs k)
