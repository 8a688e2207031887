-- From a search to a tree that is restored.
use Rattle.std.proofs.Common.{◌≡◌, ◌∙◌, refl, sym, ap, subst, arith, ℕ, ◌+◌, ◌≤◌, Bool, true, List, [], codes, inl, inr}
use Rattle.std.proofs.Common.{◌⊎◌}
use Rattle.std.proofs.Common.{length, take, drop, Option, Some, None, Result, Ok, Err}
use Rattle.std.proofs.lemmas.List.{length-append, take-append-drop}
use Rattle.std.specs.Option.{option_map}
use Rattle.cnb_world.specs.Calls.{MayMisuse}
use Rattle.cnb_world.specs.Tree.{Tree}
use Rattle.cnb_world.specs.declared.values.Memory.{Memory}
use Rattle.steps.specs.Causes.{ended_by}
use Rattle.steps.specs.Counts.{FileCounts}
use Rattle.steps.specs.Outside.{Seen}
use Rattle.steps.proofs.EndLaws.{files_link}
use Rattle.tree_canon.specs.declared.judging.Judged.{Judged}
use Rattle.tree_canon.specs.declared.judging.Judged.TheVariants as judged
use Rattle.tree_canon.specs.declared.node.Node.TheVariants as node
use Rattle.tree_store.proofs.Around.{kept_itself, onward}
use Rattle.tree_store.proofs.Partly.{partly_itself}
use Rattle.tree_store.specs.Answers.{cause_of}
use Rattle.tree_store.specs.Around.{LeavesAround}
use Rattle.tree_store.specs.Partly.{items_placed}
use Rattle.tree_store.specs.Steps.{can_lay, lays_tree}
use Rattle.tree_store.specs.declared.fault.StoreFault.{StoreFault}
use Rattle.tree_store.specs.declared.fault.StoreFault.TheVariants as store
use Rattle.shelf_set.specs.Caches.{Caches, world_and_caches}
use Rattle.shelf_set.specs.Finding.{Finds, InCaches, IsFound, LeavesSearched, Whole, Missing, Broken}
use Rattle.shelf_set.specs.Laying.{AnswersBy, AnswersFiles, AnswersTold, FindsFree, Fits, IsRefused, LooksAt}
use Rattle.shelf_set.specs.Laying.{SearchesTree}
use Rattle.shelf_set.specs.Restoring.{AllTell, HasFolder, LaysNothing, RestoresBy}
use Rattle.shelf_set.specs.Restoring.{restores_tree}
use Rattle.shelf_set.specs.Searching.{HoldsJudged}
use Rattle.shelf_set.specs.ShelfState.{ShelfState}
use Rattle.shelf_set.specs.declared.restoring.Found.{Found}
use Rattle.shelf_set.specs.declared.restoring.Search.{Search}
use Rattle.shelf_set.proofs.CountLemmas.{dropped_count}
use Rattle.shelf_set.proofs.FindLemmas.{finds, leaves}
use Rattle.shelf_set.proofs.RestoreLemmas.{nothing_laid, searched_tell}
use Rattle.shelf_set.proofs.SearchLemmas.{none_asked}
use Rattle.shelf_set.proofs.SearchTrees.{lays_from, nothing_on}

-- ---- the path was looked at

module _ (root : List ℕ) (result : Result Bool StoreFault) (old new : Seen) (h : LooksAt root old result new) where
  pub looked_around : LeavesAround root old new
  looked_around = record {
    files = kept_itself root old.files new.files h.files;
    runs = h.runs;
    misused = let same : new.misused ≡ old.misused = h.misused in omega (arith, same);
  }

  pub looked_nothing : LaysNothing old new
  looked_nothing = record { files = h.files; misused = h.misused }

stays : (o : Option Bool) (a b : ℕ) → b ≡ a → MayMisuse o a b
stays None a b e = e
stays (Some true) a b e = e
stays (Some Rattle.std.proofs.Common.false) a b e = omega (arith, e)

looked_refused : (root : List ℕ) (fault : StoreFault) (old new : Seen) → LooksAt root old (Err fault) new
    → IsRefused root fault old new
unfolding lays_tree
looked_refused root fault old new h = (
  node.Folder [],
  (
    h.cause,
    looked_around root (Err fault) old new h,
    stays (option_map (can_lay root (codes "/") (node.Folder [])) old.files) old.misused new.misused h.misused,
    h.counts,
    partly_itself root (items_placed root (codes "/") (node.Folder [])) old.files new.files h.files,
  ),
)

-- memory ran out before a cache was asked
pub no_memory : (digest root : List ℕ) (w : Seen) (old : Caches) → length old.standing ≤ length old.shelves
    → restores_tree digest root (world_and_caches w old) (Err store.Memory) (world_and_caches w old)
no_memory digest root w old h = nothing_laid digest root w old old (none_asked old.shelves old.standing digest h)

-- the path could not be looked at
pub not_looked : (digest root : List ℕ) (fault : StoreFault) (a b : Seen) (old : Caches)
    → length old.standing ≤ length old.shelves → LooksAt root a (Err fault) b
    → restores_tree digest root (world_and_caches a old) (Err fault) (world_and_caches b old)
unfolding restores_tree
not_looked digest root fault a b old h looked = record {
  around = looked_around root (Err fault) a b looked;
  counts = looked.counts;
  by = (
    looked.cause,
    none_asked old.shelves old.standing digest h,
    λ tell there. looked_refused root fault a b looked,
  );
  tell = λ tell. tell;
}

-- ---- caches were searched

held_of : Option Judged → InCaches
held_of None = Missing
held_of (Some (judged.Tree tree)) = Whole tree
held_of (Some (judged.Damaged asked is bad)) = Broken asked is bad

found_so : (judged : Option Judged) (digest : List ℕ) (held : Option (List ℕ)) → HoldsJudged digest held judged
    → IsFound digest held (held_of judged)
unfolding held_of
found_so None digest None h = refl
found_so None digest (Some bytes) h = absurd h
found_so (Some (judged.Tree tree)) digest None h = absurd (cc)
found_so (Some (judged.Tree tree)) digest (Some bytes) h = h
found_so (Some (judged.Damaged asked is bad)) digest None h = absurd (cc)
found_so (Some (judged.Damaged asked is bad)) digest (Some bytes) h = h

module _ (digest root : List ℕ) (a b c : Seen) (old new : Caches) (free : Bool) (numbers : List ℕ) (n : ℕ)
    (looked : LooksAt root a (Ok free) b) (left : new.standing ≡ take n numbers) where
  fits : (o : Option Tree) → a.files ≡ o → HasFolder root o → Fits free root b.files
  fits None is there = absurd there
  fits (Some files) is there = subst (Fits free root) (sym (looked.files ∙ is))
      (there, subst (FindsFree root free) is looked.free)

  module _ (found : Result Found StoreFault)
      (s : SearchesTree free digest root old.shelves old.standing found new.shelves numbers n b c) where
    searched : LeavesSearched old.shelves old.standing digest new.shelves new.standing
    searched = leaves old.shelves old.standing digest s.found new.shelves numbers new.standing n s.searches left

    told : AllTell old → HasFolder root a.files → AnswersTold root found s.found b c
    told tell there = s.told tell (fits a.files refl there)

    files : HasFolder root a.files → AnswersFiles root found s.found a.files c.files
    files there = subst (λ o. AnswersFiles root found s.found o c.files) looked.files
        (s.files (fits a.files refl there))

    around_all : LeavesAround root a c
    around_all = onward root a b c (looked_around root (Ok free) a b looked) s.around

    counts_all : FileCounts (ended_by cause_of found) a c
    counts_all = files_link (ended_by cause_of found) a b c looked.counts s.counts

  pub search_refused : (fault : StoreFault)
      → SearchesTree free digest root old.shelves old.standing (Err fault) new.shelves numbers n b c
      → restores_tree digest root (world_and_caches a old) (Err fault) (world_and_caches c new)
  unfolding restores_tree
  search_refused fault s = record {
    around = around_all (Err fault) s;
    counts = counts_all (Err fault) s;
    by = (
      s.by,
      searched (Err fault) s,
      λ tell there. let (tree, h) = told (Err fault) s tell there in (
        tree,
        lays_from root (codes "/") tree a b c (Err fault) (looked_nothing root (Ok free) a b looked)
            (looked_around root (Ok free) a b looked) looked.counts h,
      ),
    );
    tell = searched_tell digest old new (searched (Err fault) s);
  }

  pub search_ends : (search : Search) → search.gone ≡ drop n numbers
      → SearchesTree free digest root old.shelves old.standing (Ok search.found) new.shelves numbers n b c
      → restores_tree digest root (world_and_caches a old) (Ok search) (world_and_caches c new)
  unfolding restores_tree held_of
  search_ends search gone s = record {
    around = around_all (Ok search.found) s;
    counts = counts_all (Ok search.found) s;
    by = by s.found refl s.by (told (Ok search.found) s) (files (Ok search.found) s);
    tell = searched_tell digest old new (searched (Ok search.found) s);
  }
    where
      found_as : (judged : Option Judged) → s.found ≡ Ok judged
          → Finds old.shelves old.standing digest (held_of judged) new.shelves new.standing search.gone
      found_as judged is = finds old.shelves old.standing digest s.found judged (held_of judged) new.shelves numbers
          new.standing search.gone n s.searches is left gone (found_so judged)

      by : (found : Result (Option Judged) Memory) → s.found ≡ found → AnswersBy root (Ok search.found) found
          → (AllTell old → HasFolder root a.files → AnswersTold root (Ok search.found) s.found b c)
          → (HasFolder root a.files → AnswersFiles root (Ok search.found) s.found a.files c.files)
          → RestoresBy digest root (world_and_caches a old) (Ok search) (world_and_caches c new)
      by (Err memory) is h told files = absurd h
      by (Ok None) is h told files = (
        Missing,
        found_as None is,
        inl h,
        λ there same. subst (λ f. AnswersFiles root (Ok search.found) f a.files c.files) is (files there),
        λ tell there. (
          h,
          nothing_on a b c (looked_nothing root (Ok free) a b looked)
              (subst (λ f. AnswersTold root (Ok search.found) f b c) is (told tell there)),
        ),
      )
      by (Ok (Some (judged.Damaged asked d bad))) is h told files = (
        Broken asked d bad,
        found_as (Some (judged.Damaged asked d bad)) is,
        inl h,
        λ there same. subst (λ f. AnswersFiles root (Ok search.found) f a.files c.files) is (files there),
        λ tell there. (
          h,
          nothing_on a b c (looked_nothing root (Ok free) a b looked)
              (subst (λ f. AnswersTold root (Ok search.found) f b c) is (told tell there)),
        ),
      )
      by (Ok (Some (judged.Tree tree))) is h told files = (
        Whole tree,
        found_as (Some (judged.Tree tree)) is,
        h,
        λ there same. subst (λ f. AnswersFiles root (Ok search.found) f a.files c.files) is (files there) same,
        λ tell there. let laid = subst (λ f. AnswersTold root (Ok search.found) f b c) is (told tell there) in (
          laid.0,
          lays_from root (codes "/") tree a b c (Ok tt) (looked_nothing root (Ok free) a b looked)
              (looked_around root (Ok free) a b looked) looked.counts laid.1,
        ),
      )

-- ---- the same of what calls answered

module _ (digest root : List ℕ) (a b c : Seen) (old new : Caches) (free : Bool) (looks : Result Bool StoreFault)
    (given numbers : List ℕ) (n : ℕ) (found : Result Found StoreFault) (is_free : looks ≡ Ok free)
    (looked : LooksAt root a looks b) (same : given ≡ old.standing) (left : new.standing ≡ take n numbers)
    (s : SearchesTree free digest root old.shelves given found new.shelves numbers n b c) where
  looked_as : LooksAt root a (Ok free) b
  looked_as = subst (λ r. LooksAt root a r b) is_free looked

  searched_as : (answer : Result Found StoreFault) → found ≡ answer
      → SearchesTree free digest root old.shelves old.standing answer new.shelves numbers n b c
  searched_as answer is = subst (λ p. SearchesTree free digest root old.shelves p answer new.shelves numbers n b c) same
      (subst (λ r. SearchesTree free digest root old.shelves given r new.shelves numbers n b c) is s)

  pub refused_so : (fault : StoreFault) (end : Result Search StoreFault) → found ≡ Err fault → end ≡ Err fault
      → restores_tree digest root (world_and_caches a old) end (world_and_caches c new)
  refused_so fault end is ends = subst
      (λ e. restores_tree digest root (world_and_caches a old) e (world_and_caches c new)) (sym ends)
      (search_refused digest root a b c old new free numbers n looked_as left fault (searched_as (Err fault) is))

  pub ended_so : (search : Search) → found ≡ Ok search.found → search.gone ≡ drop n numbers
      → restores_tree digest root (world_and_caches a old) (Ok search) (world_and_caches c new)
  ended_so search is gone = search_ends digest root a b c old new free numbers n looked_as left search gone
      (searched_as (Ok search.found) is)

pub looked_so : (digest root : List ℕ) (a b : Seen) (old : Caches) (looks : Result Bool StoreFault) (fault : StoreFault)
    (end : Result Search StoreFault) → length old.standing ≤ length old.shelves → looks ≡ Err fault → end ≡ Err fault
    → LooksAt root a looks b → restores_tree digest root (world_and_caches a old) end (world_and_caches b old)
looked_so digest root a b old looks fault end fits is ends looked = subst
    (λ e. restores_tree digest root (world_and_caches a old) e (world_and_caches b old)) (sym ends)
    (not_looked digest root fault a b old fits (subst (λ r. LooksAt root a r b) is looked))

-- ---- how many caches are dropped, and how many left

module _ (free : Bool) (digest root : List ℕ) (old new : List ShelfState) (places : List ℕ)
    (answer : Result Found StoreFault) (numbers : List ℕ) (n : ℕ) (a b : Seen)
    (s : SearchesTree free digest root old places answer new numbers n a b) where
  all_numbers : length (drop n numbers) + length (take n numbers) ≡ length places
  all_numbers = dropped_count s.searches.turns old new places (take n numbers) (drop n numbers) s.searches.drops

  pub as_many : (others : List ℕ) → others ≡ places → length others ≡ length numbers
  as_many others is =
      let size = ap length (take-append-drop n numbers) in
      let parts = length-append (take n numbers) (drop n numbers) in
      let same = ap length is in omega (arith, all_numbers, size, parts, same)

  pub counted_so : (others gone left : List ℕ) → places ≡ others → left ≡ take n numbers → gone ≡ drop n numbers
      → length gone + length left ≡ length others
  counted_so others gone left same is are = let l = ap length is in let g = ap length are in
      let o = ap length same in omega (arith, l, g, o, all_numbers)
