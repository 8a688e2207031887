-- Storing the layers that a cache keeps.
use Rattle.std.proofs.Common.{◌≡◌, ◌∙◌, refl, sym, subst, arith, inl, inr, ℕ, Bool, true, List, [], length, map}
use Rattle.std.proofs.Common.{Option, Some, None, Result, Ok, Err}
use Rattle.std.specs.Prelude.{IfSome, IsTrue}
use Rattle.cnb_world.specs.Tree.{Tree}
use Rattle.steps.specs.Causes.{IsAnswer}
use Rattle.steps.specs.Outside.{Seen}
use Rattle.steps.specs.Steps.{reads}
use Rattle.steps.proofs.EndLaws.{files_rest}
use Rattle.tree_canon.specs.declared.node.Node.{Node}
use Rattle.tree_store.specs.Answers.{cause_of}
use Rattle.tree_store.specs.declared.fault.StoreFault.{StoreFault}
use Rattle.tree_store.specs.declared.fault.StoreFault.TheVariants.{Memory}
use Rattle.tree_store.proofs.Kept.{may_begin}
use Rattle.std.specs.Option.{option_map}
use Rattle.image_docs.specs.CacheRows.{cache_in}
use Rattle.image_docs.specs.declared.layer_row.LayerRow.{LayerRow}
use Rattle.shelf_set.specs.ShelfState.{ShelfState}
use Rattle.shelf_set.specs.Caches.{WorldAndCaches, caches_of, world_and_caches}
use Rattle.shelf_set.specs.Caching.{StoresPart, digest_of_row, reads_trees, spelled, stores_folders}
use Rattle.shelf_set.specs.Caching.{trees_under}
use Rattle.shelf_set.specs.Dropping.{AreStanding, Drops}
use Rattle.shelf_set.specs.Storing.{IsStored, MayBeStored}
use Rattle.shelf_set.specs.StoringEach.{MaybeStored, PutsAll, Stored}
use Rattle.shelf_set.specs.Turns.{DropsFailed}
use Rattle.shelf_set.proofs.SettleLemmas.{all_turns, settled_drops, turns_of}
use Rattle.shelf_set.proofs.StoreLemmas.{each_within}
use Rattle.shelf_set.proofs.TurnLemmas.{standing_again}

-- nothing was read, and nothing stored
pub not_stored : (readable : Bool) (rows : List LayerRow) (folders : List (List ℕ)) (s : WorldAndCaches)
    → stores_folders readable rows folders s (Err Memory) s
unfolding stores_folders reads_trees reads
not_stored readable rows folders s = record {
  read = Err Memory;
  reads = record {
    same = record { files = refl; runs = refl };
    answer = any s.world.files;
    cause = tt;
    named = tt;
    allows = may_begin (option_map (λ files. true) s.world.files) s.world.misused;
    counts = files_rest.memory s.world;
  };
  stores = (refl, ([], inl (refl, refl)));
}
  where
    any : (o : Option Tree) → IfSome o (λ files. IsAnswer {A = List Node} cause_of (Err Memory)
        (trees_under (map digest_of_row rows) folders files))
    any None = tt
    any (Some files) = tt

-- lists that are told otherwise
pub put_as : (rows given : List LayerRow) (folders walked : List (List ℕ)) (document set : List ℕ)
    (failed marks : List Bool) (result : Result Unit StoreFault) (before : List Bool) (old mid : List ShelfState)
    (start end : Seen) → given ≡ rows → walked ≡ folders → set ≡ document → marks ≡ failed
    → PutsAll given walked set result before failed old mid start end
    → PutsAll rows folders document result before marks old mid start end
put_as rows given folders walked document set failed marks result before old mid start end r f d m p =
    subst (λ l. PutsAll l folders document result before marks old mid start end) r
    (subst (λ l. PutsAll given l document result before marks old mid start end) f
    (subst (λ l. PutsAll given walked l result before marks old mid start end) d
    (subst (λ l. PutsAll given walked set result before l old mid start end) (sym m) p)))

-- where the shelves stand that were asked
pub all_there : (rows : List LayerRow) (folders : List (List ℕ)) (document : List ℕ) (result : Result Unit StoreFault)
    (before failed : List Bool) (old mid : List ShelfState) (start end : Seen) (places : List ℕ)
    → length before ≡ length places → PutsAll rows folders document result before failed old mid start end
    → AreStanding places mid
all_there rows folders document (Ok done) before failed old mid start end places count p =
    let within = each_within (Stored (map spelled p.trees) document) failed old mid p.each in
    let paired = p.paired in
    omega (arith, within, paired, count)
all_there rows folders document (Err fault) before failed old mid start end places count p =
    let within = each_within (MaybeStored (map spelled p.trees) document) failed old mid p.each in
    let paired = p.paired in
    omega (arith, within, paired, count)

module _ (rows : List LayerRow) (folders : List (List ℕ)) (document : List ℕ) (before failed : List Bool)
    (old mid new : List ShelfState) (start end : Seen) (places standing gone : List ℕ)
    (count : length before ≡ length places) (dropped : DropsFailed failed mid places new standing gone)
  where
    drops : (done : Unit {0}) → (p : PutsAll rows folders document (Ok done) before failed old mid start end)
        → Drops (turns_of failed places old mid) old new places standing gone
    drops done p = settled_drops (Stored (map spelled p.trees) document) (λ f b a h. h.1) failed places old mid new
        standing gone p.each (p.paired ∙ count) dropped

    drops_part : (fault : StoreFault) → (p : PutsAll rows folders document (Err fault) before failed old mid start end)
        → Drops (turns_of failed places old mid) old new places standing gone
    drops_part fault p = settled_drops (MaybeStored (map spelled p.trees) document) (λ f b a h. h.1) failed places
        old mid new standing gone p.each (p.paired ∙ count) dropped

    -- the list is as the next call asks for
    pub stored_again : (result : Result Unit StoreFault)
        → PutsAll rows folders document result before failed old mid start end → AreStanding standing new
    stored_again (Ok done) p = standing_again (turns_of failed places old mid) old new places standing gone
        (drops done p)
    stored_again (Err fault) p = standing_again (turns_of failed places old mid) old new places standing gone
        (drops_part fault p)

    module _ (readable : Bool) (reads_back : IsTrue readable → cache_in document ≡ Ok rows) where
      -- all was stored
      pub stored_all : (result : Result Unit StoreFault) (done : Unit {0})
          → PutsAll rows folders document result before failed old mid start end → result ≡ Ok done
          → stores_folders readable rows folders (world_and_caches start (caches_of old places)) (Ok gone)
          (world_and_caches end (caches_of new standing))
      unfolding stores_folders
      stored_all result done put is =
          let p = subst (λ r. PutsAll rows folders document r before failed old mid start end) is put in
          record {
            read = Ok p.trees;
            reads = subst (λ r. reads_trees rows folders start r end) p.answer.0 p.reads;
            stores = record {
              named = p.answer.1;
              document = document;
              reads = reads_back;
              stores = record {
                turns = turns_of failed places old mid;
                drops = drops done p;
                stored = all_turns (Stored (map spelled p.trees) document)
                    (IsStored (map spelled p.trees) document) (λ n f b a h. h.0) failed places old mid p.each;
              };
            };
          }

      -- a part was
      pub stored_part : (result : Result Unit StoreFault) (fault : StoreFault)
          → PutsAll rows folders document result before failed old mid start end → result ≡ Err fault
          → stores_folders readable rows folders (world_and_caches start (caches_of old places)) (Err fault)
          (world_and_caches end (caches_of new standing))
      unfolding stores_folders
      stored_part result fault put is =
          let p = subst (λ r. PutsAll rows folders document r before failed old mid start end) is put in
          let part : StoresPart readable rows p.trees old places new standing = record {
            named = p.named;
            document = document;
            reads = reads_back;
            stores = record {
              turns = turns_of failed places old mid;
              gone = gone;
              drops = drops_part fault p;
              may_be = all_turns (MaybeStored (map spelled p.trees) document)
                  (MayBeStored (map spelled p.trees) document) (λ n f b a h. h.0) failed places old mid p.each;
            };
          } in
          record {
            read = Err fault;
            reads = subst (λ r. reads_trees rows folders start r end) p.answer p.reads;
            stores = (refl, (p.trees, inr part));
          }
