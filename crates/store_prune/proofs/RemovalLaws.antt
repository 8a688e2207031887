-- What removals leave, and what they leave alone.
use Rattle.std.proofs.Common.{◌≡◌, ◌∙◌, refl, sym, ap, ℕ, ◌||◌, Bool, false, not, cond, List, [], ◌∷◌, map, Option}
use Rattle.std.proofs.Common.{Some, None, Result, Ok, Err, inl, inr}
use Rattle.std.specs.FinMap.{get, get-retain_keys, retain_keys, slice_cmp-IsAntisymmetric, nat_cmp-IsAntisymmetric}
use Rattle.std.specs.List.{list_any}
use Rattle.std.specs.Option.{option_map}
use Rattle.std.proofs.lemmas.Bool.{or_parts}
use Rattle.cnb_world.specs.Calls.{RemovesSome}
use Rattle.cnb_world.specs.Memory.{all_without}
use Rattle.cnb_world.specs.Tree.{Tree, is_root, is_within, item_at, without}
use Rattle.cnb_world.proofs.EffectLemmas.{emptied_elsewhere}
use Rattle.cnb_world.specs.declared.world.Item.TheVariants.{Folder}
use Rattle.steps.specs.Each.{for_each}
use Rattle.steps.specs.Keeping.{standing}
use Rattle.steps.specs.Outside.{Seen}
use Rattle.steps.specs.Steps.{◌>>=◌, gives, removes, yields}
use Rattle.steps.proofs.EndLaws.{Links, Obeys, Relation, Rests, obeys_bind, obeys_yields}
use Rattle.steps.proofs.KeepingLaws.{step_at}
use Rattle.tree_store.specs.Store.{tree_path}
use Rattle.store_prune.specs.Faults.{cause_of}
use Rattle.store_prune.specs.Prunes.{removes_all, removes_next, removes_trees}
use Rattle.store_prune.specs.declared.fault.PruneFault.{PruneFault}

same_paths : (paths others : List (List ℕ)) (found : Result (List (List ℕ)) PruneFault) → found ≡ Ok paths
    → found ≡ Ok others → others ≡ paths
same_paths paths others found e f = cc

-- ---- what is left alone

same_get : (t u : Tree) (q : List ℕ) → get t q ≡ get u q → item_at t q ≡ item_at u q
same_get t u q e = ap (cond (is_root q) (Some Folder)) e

kept_without : (p q : List ℕ) → is_within p q ≡ false → (t : Tree) → item_at (without p t) q ≡ item_at t q
kept_without p q free t = same_get (without p t) t q (emptied_elsewhere t p q free)

kept_some : (p q : List ℕ) (stays : List ℕ → Bool) → is_within p q ≡ false → (t : Tree)
    → item_at (retain_keys t (λ r. not (is_within p r) || stays r)) q ≡ item_at t q
kept_some p q stays free t =
    same_get _ t q (get-retain_keys t (λ r. not (is_within p r) || stays r) q
    (λ x tied. ap (λ r. not (is_within p r) || stays r)
    (sym (slice_cmp-IsAntisymmetric nat_cmp-IsAntisymmetric q x tied)))
    ∙ ap (λ b. cond (not b || stays q) (get t q) None) free)

module _ (q : List ℕ) where
  abbrev pub stands_still : Relation Seen
  stands_still last old new = standing new.files q ≡ standing old.files q

  still_link : Links stands_still
  still_link last a b c h k = k ∙ h

  still_rest : Rests stands_still
  still_rest = record { none = λ s. refl; memory = λ s. refl; decided = λ s. refl }

  part_kept : (p : List ℕ) → is_within p q ≡ false → (o o1 : Option Tree) → RemovesSome o o1 p
      → standing o1 q ≡ standing o q
  part_kept p free o o1 (inl same) = ap (λ files. standing files q) same
  part_kept p free o o1 (inr (stays, e)) = step_at o o1 (λ t. retain_keys t (λ r. not (is_within p r) || stays r))
      q (kept_some p q stays free) e

  one_still : (p : List ℕ) → is_within p q ≡ false → Obeys stands_still cause_of (removes cause_of p)
  unfolding removes
  one_still p free old new (Ok done) h = step_at old.files new.files (without p) q (kept_without p q free) h.0.files
  one_still p free old new (Err fault) h = part_kept p free old.files new.files h.1.files

  each_still : (paths : List (List ℕ)) → list_any (λ removed. is_within removed q) paths ≡ false
      → Obeys stands_still cause_of (for_each removes_next paths tt)
  unfolding for_each
  each_still [] free = obeys_yields stands_still cause_of tt still_rest
  each_still (p ∷ ps) free =
      let parts = or_parts (is_within p q) (list_any (λ removed. is_within removed q) ps) free in
      obeys_bind stands_still cause_of (removes_next p tt) (for_each removes_next ps) still_link
      (one_still p parts.0) (λ done. each_still ps parts.1)

  pub trees_still : (store : List ℕ) (digests : List (List ℕ))
      → list_any (λ removed. is_within removed q) (map (tree_path store) digests) ≡ false
      → Obeys stands_still cause_of (removes_trees store digests)
  unfolding removes_trees removes_all gives ◌>>=◌
  trees_still store digests free old new (Ok done) (paths, mid, (same, is, cause), removed) = each_still paths
      (ap (list_any (λ removed. is_within removed q))
      (same_paths (map (tree_path store) digests) paths (Ok (map (tree_path store) digests)) refl is) ∙ free) mid
      new (Ok done) removed ∙ ap (λ s. standing s.files q) same
  trees_still store digests free old new (Err fault) (inl (same, is, cause)) = ap (λ s. standing s.files q) same
  trees_still store digests free old new (Err fault) (inr (paths, mid, (same, is, cause), removed)) = each_still
      paths (ap (list_any (λ removed. is_within removed q))
      (same_paths (map (tree_path store) digests) paths (Ok (map (tree_path store) digests)) refl is) ∙ free) mid
      new (Err fault) removed ∙ ap (λ s. standing s.files q) same

-- ---- what is gone

joined_maps : (f g : Tree → Tree) (o : Option Tree) → option_map f (option_map g o) ≡ option_map (λ t. f (g t)) o
joined_maps f g None = refl
joined_maps f g (Some t) = refl

itself : (o : Option Tree) → o ≡ option_map (λ t. t) o
itself None = refl
itself (Some t) = refl

each_gone : (paths : List (List ℕ)) (old new : Seen) (done : Unit {0})
    → for_each removes_next paths tt old (Ok done) new → new.files ≡ option_map (all_without paths) old.files
unfolding for_each yields removes ◌>>=◌
each_gone [] old new done h = ap (λ s. s.files) h.1 ∙ itself old.files
each_gone (p ∷ ps) old new done (a, mid, h, k) = each_gone ps mid new done k
    ∙ ap (option_map (all_without ps)) h.0.files ∙ joined_maps (all_without ps) (without p) old.files

pub trees_gone : (store : List ℕ) (digests : List (List ℕ)) (old new : Seen) (done : Unit {0})
    → removes_trees store digests old (Ok done) new → new.files
    ≡ option_map (all_without (map (tree_path store) digests)) old.files
unfolding removes_trees removes_all gives ◌>>=◌
trees_gone store digests old new done (paths, mid, (same, is, cause), removed) =
    each_gone paths mid new done removed ∙ ap (λ s. option_map (all_without paths) s.files) same
    ∙ ap (λ ps. option_map (all_without ps) old.files)
    (same_paths (map (tree_path store) digests) paths (Ok (map (tree_path store) digests)) refl is)
