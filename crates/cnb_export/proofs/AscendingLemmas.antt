-- A map of the last rows, sorted by its keys, has the rows ascending.
use Rattle.std.proofs.Common.{◌≡◌, ◌∙◌, refl, sym, ap, subst, arith, ℕ, ◌+◌, ◌<◌, suc, Bool, true, false, cond, ◌&&◌}
use Rattle.std.proofs.Common.{List, [], ◌∷◌, map, length, take, get_or, Some}
use Rattle.std.specs.Prelude.{T}
use Rattle.std.specs.Borrow.{Bor}
use Rattle.std.specs.Cmp.Lexicographic.{slice_cmp, nat_list_cmp_total}
use Rattle.std.specs.FinMap as fin
use Rattle.std.specs.FinMap.{FinMap, find, is_sorted, entries, entries_sorted, get-entries, get-empty, get-insert}
use Rattle.std.specs.FinMap.{slice_cmp-IsAntisymmetric, nat_cmp-IsAntisymmetric}
use Rattle.std.specs.FinMap.Entries.{below_all, same_entries}
use Rattle.std.specs.HashMap as hash
use Rattle.std.specs.HashMap.{HashMap, UpdatesBy}
use Rattle.std.specs.List.{AllByRecursion, IsDistinct}
use Rattle.std.specs.List.Sorted.{IsSorted}
use Rattle.std.specs.Map.{lookup, keys_of, values_of}
use Rattle.std.specs.Ordering.{nat_cmp, is_lt, is_eq, ordering_reverse}
use Rattle.std.specs.Str.{bytes_eq}
use Rattle.std.specs.declared.cmp.Ordering.{Ordering}
use Rattle.std.specs.declared.cmp.Ordering.TheVariants.{Less, Equal, Greater}
use Rattle.std.proofs.lemmas.List.Sorted.{sorted_far, ranks_by}
use Rattle.std.proofs.lemmas.List.Sums.{fold_more}
use Rattle.std.proofs.lemmas.Map.Text.{is_eq-slice_cmp, hash_map_updates_str}
use Rattle.cnb_toml.specs.DistinctLaws.{bytes_eq-symmetric}
use Rattle.cnb_export.specs.Ascending.{latest}

abbrev bytes_cmp : List ℕ → List ℕ → Ordering
bytes_cmp = slice_cmp nat_cmp

above : (r s : Ordering) → r ≡ ordering_reverse s → is_lt s ≡ false → is_eq r ≡ false → is_lt r ≡ true
above Less s e low other = refl
above Equal s e low other = absurd (cc)
above Greater Less e low other = absurd (cc)
above Greater Equal e low other = absurd (cc)
above Greater Greater e low other = absurd (cc)

rises : (x y : List ℕ) → is_lt (bytes_cmp y x) ≡ false → bytes_eq x y ≡ false → is_lt (bytes_cmp x y) ≡ true
rises x y low other = above (bytes_cmp x y) (bytes_cmp y x) (nat_list_cmp_total.antisymm x y) low
    (is_eq-slice_cmp x y ∙ other)

both_true : (a b : Bool) → a ≡ true → b ≡ true → a && b ≡ true
both_true true b p q = q
both_true false b p q = absurd (cc)

shifted : (k : ℕ) → suc k + 1 ≡ suc (k + 1)
shifted k = omega arith

module _ {V : Type 0} where
  abbrev pub plain : List (Bor (List ℕ) × V) → List (List ℕ × V)
  plain [] = []
  plain (e ∷ es) = (e.0.now, e.1) ∷ plain es

  plain_values : (es : List (Bor (List ℕ) × V)) → map (λ (e : List ℕ × V). e.1) (plain es) ≡ values_of es
  plain_values [] = refl
  plain_values (e ∷ es) = ap (λ vs. e.1 ∷ vs) (plain_values es)

  plain_find : (q : List ℕ) (es : List (Bor (List ℕ) × V))
      → find bytes_cmp q (plain es) ≡ lookup (λ k. bytes_eq q k.now) es
  plain_find q [] = refl
  plain_find q (e ∷ es) = ap (λ b. cond b (Some e.1) (find bytes_cmp q (plain es))) (is_eq-slice_cmp q e.0.now)
      ∙ ap (λ o. cond (bytes_eq q e.0.now) (Some e.1) o) (plain_find q es)

  below : (x : List ℕ) (es : List (Bor (List ℕ) × V)) → AllByRecursion
      (λ (y : Bor (List ℕ)). bytes_eq x y.now ≡ false) (keys_of es)
      → ((j : ℕ) (d : Bor (List ℕ)) → j < length (keys_of es)
      → is_lt (bytes_cmp (get_or (keys_of es) j d).now x) ≡ false) → below_all bytes_cmp x (plain es) ≡ true
  below x [] others far = refl
  below x (e ∷ es) others far =
      both_true _ _ (rises x e.0.now (far 0 e.0 (omega arith)) others.0)
      (below x es others.1 (λ j d lt. far (suc j) d (omega (arith, lt))))

  sorted : (es : List (Bor (List ℕ) × V)) → IsSorted (λ (x y : Bor (List ℕ)). bytes_cmp x.now y.now) (keys_of es)
      → IsDistinct (λ (x y : Bor (List ℕ)). bytes_eq x.now y.now) (keys_of es)
      → is_sorted bytes_cmp (plain es) ≡ true
  unfolding IsDistinct
  sorted [] up distinct = refl
  sorted (e ∷ es) up distinct =
      both_true _ _ (below e.0.now es distinct.0 (λ j d lt. sorted_far
      (λ (x y : Bor (List ℕ)). is_lt (bytes_cmp x.now y.now))
      (ranks_by nat_list_cmp_total (λ (k : Bor (List ℕ)). k.now)) (keys_of (e ∷ es)) up 0 (suc j) d
      (omega arith) (omega (arith, lt))))
      (sorted es (λ k d low lt. subst (λ n. is_lt (bytes_cmp (get_or (keys_of (e ∷ es)) n d).now
      (get_or (keys_of es) k d).now) ≡ false) (shifted k) (up (suc k) d (omega arith) (omega (arith, lt))))
      distinct.1)

-- the values of a map that was sorted by its keys
pub sorted_values : {V S : Type 0} (m : HashMap (Bor (List ℕ)) V S) (f : FinMap bytes_cmp V)
    → IsSorted (λ (x y : Bor (List ℕ)). bytes_cmp x.now y.now) (keys_of m.entries)
    → IsDistinct (λ (x y : Bor (List ℕ)). bytes_eq x.now y.now) (keys_of m.entries)
    → ((q : List ℕ) → hash.get_by (λ k. bytes_eq q k.now) m ≡ fin.get f q) → values_of m.entries ≡ fin.values f
sorted_values {V} m f up distinct same =
    let one : plain m.entries ≡ entries f =
    same_entries bytes_cmp nat_list_cmp_total (slice_cmp-IsAntisymmetric nat_cmp-IsAntisymmetric)
    (plain m.entries) (entries f) (subst T (sym (sorted m.entries up distinct)) tt) (entries_sorted f)
    (λ q. plain_find q m.entries ∙ same q ∙ get-entries f q) in
    sym (plain_values m.entries) ∙ ap (map (λ (e : List ℕ × V). e.1)) one

-- one row more
pub latest_more : {T S : Type 0} (key_of : T → List ℕ) (rows : List T) (i : ℕ) (row copy : T) (key : Bor (List ℕ))
    (m n : HashMap (Bor (List ℕ)) T S) → i < length rows → row ≡ get_or rows i row → copy ≡ row
    → key.now ≡ key_of row
    → UpdatesBy (λ x y. bytes_eq x.now y.now) (λ k. bytes_eq key.now k.now) m n (Some copy)
    → ((q : List ℕ) → hash.get_by (λ k. bytes_eq q k.now) m ≡ fin.get (latest key_of (take i rows)) q)
    → (q : List ℕ) → hash.get_by (λ k. bytes_eq q k.now) n ≡ fin.get (latest key_of (take (i + 1) rows)) q
latest_more {T} {S} key_of rows i row copy key m n lt is copied keyed given same q =
    let updates : UpdatesBy (λ x y. bytes_eq x.now y.now) (λ k. bytes_eq key.now k.now) m n (Some row) = subst
    (λ (v : T). UpdatesBy (λ x y. bytes_eq x.now y.now) (λ k. bytes_eq key.now k.now) m n (Some v)) copied
    given in
    let before : FinMap bytes_cmp T = latest key_of (take i rows) in
    let here : latest key_of (take (i + 1) rows) ≡ fin.insert before key.now row =
    fold_more (λ found r. fin.insert found (key_of r) r) fin.empty rows i row lt
    ∙ ap (λ r. fin.insert before (key_of r) r) (sym is) ∙ ap (λ k. fin.insert before k row) (sym keyed) in
    hash_map_updates_str key.now m n (Some row) updates q
    ∙ ap (λ b. cond b (Some row) (hash.get_by (λ k. bytes_eq q k.now) m)) (bytes_eq-symmetric key.now q)
    ∙ ap (λ o. cond (bytes_eq q key.now) (Some row) o) (same q)
    ∙ ap (λ b. cond b (Some row) (fin.get before q)) (sym (is_eq-slice_cmp q key.now))
    ∙ sym (get-insert nat_list_cmp_total before key.now row q)
    ∙ ap (λ f. fin.get f q) (sym here)

-- no row yet
pub latest_none : {T S : Type 0} (key_of : T → List ℕ) (rows : List T) (m : HashMap (Bor (List ℕ)) T S)
    → m.entries ≡ [] → (q : List ℕ) → hash.get_by (λ k. bytes_eq q k.now) m
    ≡ fin.get (latest key_of (take 0 rows)) q
latest_none key_of rows m none q = ap (lookup (λ k. bytes_eq q k.now)) none ∙ sym (get-empty bytes_cmp q)
