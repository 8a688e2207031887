-- Digests that aren't named.
use Rattle.std.proofs.Common.{◌≡◌, ◌∙◌, ap, sym, subst, arith, ℕ, ◌≤◌, ◌-◌, Bool, true, false, cond, not, List, [], ◌∷◌}
use Rattle.std.proofs.Common.{length}
use Rattle.std.specs.HashSet.{HashSet, contains}
use Rattle.std.specs.List.{filter}
use Rattle.std.specs.Str.{bytes_eq}
use Rattle.std.proofs.lemmas.List.Elements.{filter_agree}
use Rattle.cnb_toml.specs.Distinct.{HasKeysOf}
use Rattle.hex.specs.Hex.{encode_lower}
use Rattle.store_prune.specs.Digests.{is_among, unnamed}
use Rattle.store_prune.specs.Surveys.{pruned_of}
use Rattle.store_prune.specs.declared.surveying.Pruned.{Pruned}

few : {X : Type 0} (p : X → Bool) (xs : List X) → length (filter p xs) ≤ length xs
few p [] = omega arith
few {X} p (x ∷ xs) = by (p x) (few p xs)
  where
    by : (b : Bool) → length (filter p xs) ≤ length xs → length (cond b (x ∷ filter p xs) (filter p xs))
        ≤ length (x ∷ xs)
    by true h = omega (arith, h)
    by false h = omega (arith, h)

pub few_unnamed : (named digests : List (List ℕ)) → length (unnamed named digests) ≤ length digests
few_unnamed named digests = few (λ digest. not (is_among named digest)) digests

-- those whose digits aren't in a set of the named ones
pub unless_in : {S : Type 0} (named digests : List (List ℕ)) (seen : HashSet (List ℕ) S)
    → HasKeysOf bytes_eq encode_lower named seen → filter (λ one. not (contains bytes_eq seen (encode_lower one)))
    digests ≡ unnamed named digests
unless_in named digests seen has = filter_agree (λ one. not (contains bytes_eq seen (encode_lower one)))
    (λ one. not (is_among named one)) (λ one. ap not (has (encode_lower one))) digests

pub fewer : (named digests removed others : List (List ℕ)) → removed ≡ unnamed named digests → others ≡ removed
    → length others ≤ length digests
fewer named digests removed others is same = subst (λ xs. length xs ≤ length digests) (sym (same ∙ is))
    (few_unnamed named digests)

pub pruned_is : (named trees removed others : List (List ℕ)) (kept : ℕ) → removed ≡ unnamed named trees
    → others ≡ removed → kept ≡ length trees - length others
    → record { kept = kept; removed = removed } ≡ pruned_of named trees
pruned_is named trees removed others kept is same counted =
    let pruned : ℕ → List (List ℕ) → Pruned = λ k r. record { kept = k; removed = r } in
    ap (λ k. pruned k removed) (counted ∙ ap (λ xs. length trees - length xs) (same ∙ is))
    ∙ ap (pruned (length trees - length (unnamed named trees))) is
