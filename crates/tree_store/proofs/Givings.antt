-- The tree of a folder is given to shelves.
use Rattle.std.proofs.Common.{◌≡◌, ◌≤◌, ◌∙◌, refl, sym, ap, subst, arith, ℕ, suc, Bool, true, false, cond, List, []}
use Rattle.std.proofs.Common.{◌∷◌, ◌++◌}
use Rattle.std.proofs.Common.{◌+◌, append-nil, append_assoc, length, length-append, map, Option, Some, None, Result, Ok}
use Rattle.std.proofs.Common.{Err, inl, inr, drop}
use Rattle.std.specs.Option.{option_map}
use Rattle.std.specs.Prelude.{IfSome, codes}
use Rattle.std.specs.Str.{bytes_eq}
use Rattle.std.specs.FinMap.{insert}
use Rattle.std.proofs.lemmas.Bool.{false_from_ne_true}
use Rattle.std.proofs.lemmas.Slice.Eq.{bytes_eq-Decides}
use Rattle.cnb_world.specs.Path.{joined}
use Rattle.cnb_world.specs.Shelf.{Held, empty_at, with_kept, with_more}
use Rattle.cnb_world.specs.Tree.{Tree, is_root, is_within}
use Rattle.cnb_world.specs.declared.memory.shelf.Held.{Held as HeldBytes}
use Rattle.cnb_world.specs.declared.values.Memory.{Memory as OutOfMemory}
use Rattle.sha2.specs.Hashers.{Holds256}
use Rattle.sha2.specs.Sha256.{sha256}
use Rattle.steps.specs.Causes.{Decided, IsAnswer, OutOfMemory as MemoryEnd}
use Rattle.steps.specs.Outside.{Seen}
use Rattle.steps.specs.Steps.{◌>>=◌, reads, yields}
use Rattle.steps.proofs.EndLaws.{files_link, files_rest}
use Rattle.steps.proofs.ReadingLaws.{where_map}
use Rattle.steps.proofs.StepLemmas.{allowed_by}
use Rattle.tree_canon.specs.Spelling.{spelling_of}
use Rattle.tree_canon.specs.declared.node.Node.{Node}
use Rattle.tree_store.specs.Answers.{AtOrBelow, cause_of, is_odd_file}
use Rattle.tree_store.specs.Caching.{CachesFolder, CachesRead, CachesRows, HasPut, HasRows, KeepsTold, MayHavePut}
use Rattle.tree_store.specs.Caching.{MayHaveRows, OnEach, digests_folder, if_read, reads_under, tree_under}
use Rattle.tree_store.specs.Giving.{GivenRead, GivesFolder, KeepsFound, WalksFolder}
use Rattle.tree_store.specs.Reading.{tree_in}
use Rattle.tree_store.specs.Receiving.{GivesEach, HasDone, MayHaveDone}
use Rattle.tree_store.specs.ShelfState.{ShelfState}
use Rattle.tree_store.specs.Shelves.{OnEachSeen}
use Rattle.tree_store.specs.Steps.{reads_tree}
use Rattle.tree_store.specs.Target.{AsTold, BlamesTarget, HasGone, HaveBegun, KeepsTarget, LeavesFiles, LeavesOthers}
use Rattle.tree_store.specs.Target.{Receiver, TargetState, ToShelves, WentTo, shelf_of}
use Rattle.tree_store.specs.Writing.{AreApart, HasWritten, WriterState, new_path}
use Rattle.tree_store.specs.declared.fault.StoreFault.{StoreFault}
use Rattle.tree_store.specs.declared.fault.StoreFault.TheVariants.{OddFile, Limit, File, NoTree, Damaged, Clash, Memory}
use Rattle.tree_store.specs.declared.receivers.Giving.TheVariants.{Begin, Keep, SetRows}
use Rattle.tree_store.proofs.Around.{kept_itself}
use Rattle.tree_store.proofs.Blames.{within_named}
use Rattle.tree_store.proofs.Caches.{each_as, each_seen, each_seen_same, each_then, none_read}
use Rattle.tree_store.proofs.CountLaws.{counted}
use Rattle.tree_store.proofs.Places.{or_from, starts_split}
use Rattle.tree_store.proofs.Written.{told_then, written_first}

-- ---- a file that lies apart from a folder

joined_begins : (path name : List ℕ) → (rest : List ℕ) × (joined path name ≡ path ++ rest)
joined_begins path name = by (bytes_eq path (47 ∷ [])) refl
  where
    by : (v : Bool) → bytes_eq path (47 ∷ []) ≡ v → (rest : List ℕ) × (joined path name ≡ path ++ rest)
    by true e = (name, ap (λ v. cond v path (path ++ 47 ∷ []) ++ name) e)
    by false e = (
      47 ∷ name,
      ap (λ v. cond v path (path ++ 47 ∷ []) ++ name) e ∙ append_assoc path (47 ∷ []) name,
    )

abbrev pub beside : List ℕ → List ℕ
beside path = path ++ 0 ∷ []

beside_begins : (path : List ℕ) → (rest : List ℕ) × (new_path (beside path) ≡ path ++ 0 ∷ rest)
beside_begins path =
    let one = joined_begins (beside path) (codes "trees") in
    let two = joined_begins (joined (beside path) (codes "trees")) (codes "new") in (
      one.0 ++ two.0,
      two.1 ∙ ap (λ p. p ++ two.0) (one.1 ∙ append_assoc path (0 ∷ []) one.0) ∙ append_assoc path (0 ∷ one.0) two.0,
    )

same_rest : (p xs ys : List ℕ) → p ++ xs ≡ p ++ ys → xs ≡ ys
same_rest [] xs ys e = e
same_rest (c ∷ p) xs ys e = same_rest p xs ys (let same : p ++ xs ≡ p ++ ys = cc in same)

longer : (path rest : List ℕ) (c : ℕ) → length (path ++ c ∷ rest) ≡ length path + suc (length rest)
longer path rest c = length-append path (c ∷ rest)

not_inside : (path rest : List ℕ) → is_root path ≡ false → is_within path (path ++ 0 ∷ rest) ≡ false
not_inside path rest plain = or_from _ _ plain (or_from _ _
    (false_from_ne_true _ (λ e. let same : path ++ 0 ∷ rest ≡ path = (bytes_eq-Decides (path ++ 0 ∷ rest) path).0 e
    in let n = longer path rest 0 in let m = ap length same in absurd (omega (arith, n, m))))
    (false_from_ne_true _ (λ e. let other : ◌≡◌ {A = List ℕ} (0 ∷ rest)
    (47 ∷ drop (length (path ++ 47 ∷ [])) (path ++ 0 ∷ rest))
    = same_rest path _ _ (starts_split (path ++ 0 ∷ rest) (path ++ 47 ∷ []) e ∙ append_assoc path (47 ∷ []) _)
    in let no : ◌≡◌ {A = ℕ} 0 47 = cc in absurd (omega (arith, no)))))

not_around : (path rest : List ℕ) → is_within (path ++ 0 ∷ rest) path ≡ false
not_around path rest = or_from _ _ (root path) (or_from _ _
    (false_from_ne_true _ (λ e. let same : path ≡ path ++ 0 ∷ rest = (bytes_eq-Decides path (path ++ 0 ∷ rest)).0 e
    in let n = longer path rest 0 in let m = ap length same in absurd (omega (arith, n, m))))
    (false_from_ne_true _ (λ e. let same = ap length (starts_split path ((path ++ 0 ∷ rest) ++ 47 ∷ []) e)
    in let n = longer path rest 0 in let m = longer (path ++ 0 ∷ rest) [] 47
    in let k = length-append ((path ++ 0 ∷ rest) ++ 47 ∷ []) (drop (length ((path ++ 0 ∷ rest) ++ 47 ∷ [])) path)
    in absurd (omega (arith, same, n, m, k)))))
  where
    root : (p : List ℕ) → is_root (p ++ 0 ∷ rest) ≡ false
    root [] = refl
    root (c ∷ p) = false_from_ne_true _ (λ e. let same : c ∷ (p ++ 0 ∷ rest) ≡ 47 ∷ []
        = (bytes_eq-Decides (c ∷ (p ++ 0 ∷ rest)) (47 ∷ [])).0 e in let n = longer p rest 0
        in let m = ap length same in absurd (omega (arith, n, m)))

apart_beside : (path : List ℕ) → is_root path ≡ false → AreApart (new_path (beside path)) path
apart_beside path plain = let begins = beside_begins path in
    subst (λ f. AreApart f path) (sym begins.1) (record {
      outside = not_inside path begins.0 plain;
      beside = not_around path begins.0;
    })

-- ---- the folder is read

pub record Walked (path : List ℕ) (after : WriterState) (old new : Seen) : Type 0 where
  pub node : Node
  pub read : reads_tree path old (Ok node) new
  pub hashed : Holds256 after.hasher (spelling_of node)
  pub gone : HasGone (beside path) old.files after.target (spelling_of node) new.files

-- a writer that took nothing, of a target of shelves
pub record IsNew (path : List ℕ) (writer : WriterState) (digest : List ℕ) (receivers : List Receiver)
    (failed : List Bool) : Type 0 where
  pub target : writer.target ≡ ToShelves digest receivers failed
  pub piece : writer.piece ≡ []
  pub hashed : Holds256 writer.hasher []
  pub begun : HaveBegun digest [] failed receivers
  pub plain : is_root path ≡ false

first_written : (path : List ℕ) (writer : WriterState) (digest : List ℕ) (receivers : List Receiver)
    (failed : List Bool) (files : Option Tree) → IsNew path writer digest receivers failed
    → HasWritten (beside path) files writer [] files
first_written path writer digest receivers failed files new = written_first writer new.piece new.hashed
    (subst (λ t. HasGone (beside path) files t [] files) (sym new.target) (record {
      went = (refl, new.begun);
      kept = kept_itself (new_path (beside path)) files files refl;
    }))

others_files : {A : Type 0} (t : TargetState) (digest : List ℕ) (receivers : List Receiver) (failed : List Bool)
    (a b : Seen) (r : Result A StoreFault) → t ≡ ToShelves digest receivers failed → LeavesOthers t a r b
    → LeavesFiles a r b
others_files t digest receivers failed a b r at h = subst (λ t. LeavesOthers t a r b) at h

pub walked_ok : (path : List ℕ) (writer after : WriterState) (digest : List ℕ) (receivers : List Receiver)
    (failed : List Bool) (a b : Seen) (done : Unit {0}) → IsNew path writer digest receivers failed
    → WalksFolder path writer a (Ok done) after b → Walked path after a b
unfolding reads_tree reads
walked_ok path writer after digest receivers failed a b done new h =
    let walked = h.adds.so (beside path) a.files [] (first_written path writer digest receivers failed a.files new)
    (apart_beside path new.plain) in
    let tree = walked.added.1.1 in let written = walked.added.2 in
    let files = others_files writer.target digest receivers failed a b (Ok done) new.target h.leaves.others in
    let all : walked.added.0 ≡ written.first = written.is ∙ ap (λ p. written.first ++ p) h.held
    ∙ append-nil written.first in
    let spelled : written.first ≡ spelling_of tree.node = sym all ∙ tree.bytes in record {
      node = tree.node;
      read = record {
        same = record { files = files.files; runs = files.runs };
        answer = tree.read;
        cause = tt;
        named = tt;
        allows = allowed_by (λ t. true) a.files a.misused b.misused walked.right;
        counts = counted {A = Unit {0}} (Ok done) a b files.counts files.children;
      };
      hashed = subst (Holds256 after.hasher) tree.bytes written.hashed;
      gone = subst (λ m. HasGone (beside path) a.files after.target m b.files) spelled written.gone;
    }

blamed_within : (path : List ℕ) (t : TargetState) (digest : List ℕ) (receivers : List Receiver)
    (failed : List Bool) (fault : StoreFault) → t ≡ ToShelves digest receivers failed → BlamesTarget path t fault
    → BlamesTarget path (ToShelves digest receivers failed) fault
blamed_within path t digest receivers failed fault at h = subst (λ t. BlamesTarget path t fault) at h

pub walked_err : (path : List ℕ) (writer after : WriterState) (digest : List ℕ) (receivers : List Receiver)
    (failed : List Bool) (a b : Seen) (fault : StoreFault) → IsNew path writer digest receivers failed
    → WalksFolder path writer a (Err fault) after b → reads_tree path a (Err fault) b
unfolding reads_tree reads
walked_err path writer after digest receivers failed a b fault new h =
    let walked = h.adds.so (beside path) a.files [] (first_written path writer digest receivers failed a.files new)
    (apart_beside path new.plain) in
    let files = others_files writer.target digest receivers failed a b (Err fault) new.target h.leaves.others in
    record {
      same = record { files = files.files; runs = files.runs };
      answer = walked.refused;
      cause = files.cause;
      named = within_named {A = Unit {0}} path (Err fault)
          (blamed_within path writer.target digest receivers failed fault new.target h.leaves.blames);
      allows = allowed_by (λ t. true) a.files a.misused b.misused walked.right;
      counts = counted {A = Unit {0}} (Err fault) a b files.counts files.children;
    }

pub digest_walked : (path : List ℕ) (after : WriterState) (a b : Seen) (found : List ℕ) → Walked path after a b
    → ((bytes : List ℕ) → Holds256 after.hasher bytes → found ≡ sha256 bytes) → digests_folder path a (Ok found) b
unfolding digests_folder ◌>>=◌ yields
digest_walked path after a b found walked is = (
  walked.node,
  b,
  walked.read,
  (
    is (spelling_of walked.node) walked.hashed,
    refl,
  ),
)

pub digest_refused : (path : List ℕ) (a b : Seen) (fault : StoreFault) → reads_tree path a (Err fault) b
    → digests_folder path a (Err fault) b
unfolding digests_folder ◌>>=◌
digest_refused path a b fault h = inl h

-- ---- what shelves have then

-- by what was begun on each
each_from : (digest bytes : List ℕ) (D E : Receiver → Receiver → Type 0)
    → ((a b : Receiver) → a.begun ≡ option_map (λ _. with_more bytes (empty_at digest)) a.shelf.held → D a b → E a b)
    → (fs gs : List Bool) (rs ss : List Receiver) → HaveBegun digest bytes fs rs → OnEachSeen shelf_of D fs gs rs ss
    → OnEachSeen shelf_of E fs gs rs ss
each_from digest bytes D E so [] [] rs ss h x = x
each_from digest bytes D E so [] (g ∷ gs) rs ss h x = absurd x
each_from digest bytes D E so (f ∷ fs) [] rs ss h x = absurd x
each_from digest bytes D E so (f ∷ fs) (g ∷ gs) [] ss h x = absurd x
each_from digest bytes D E so (f ∷ fs) (g ∷ gs) (r ∷ rs) [] h x = absurd x
each_from digest bytes D E so (true ∷ fs) (true ∷ gs) (r ∷ rs) (s ∷ ss) h x =
    (x.0, each_from digest bytes D E so fs gs rs ss h x.1)
each_from digest bytes D E so (true ∷ fs) (false ∷ gs) (r ∷ rs) (s ∷ ss) h x = absurd x.0
each_from digest bytes D E so (false ∷ fs) (true ∷ gs) (r ∷ rs) (s ∷ ss) h x =
    (x.0, each_from digest bytes D E so fs gs rs ss h.1 x.1)
each_from digest bytes D E so (false ∷ fs) (false ∷ gs) (r ∷ rs) (s ∷ ss) h x =
    ((so r s h.0 x.0.0, x.0.1), each_from digest bytes D E so fs gs rs ss h.1 x.1)

kept_so : (digest bytes : List ℕ) (held : Option Held) (begun : Option HeldBytes)
    → begun ≡ option_map (λ _. with_more bytes (empty_at digest)) held
    → with_kept held begun ≡ option_map (λ h. insert h digest bytes) held
kept_so digest bytes held begun is = ap (with_kept held) is ∙ by held
  where
    by : (o : Option Held) → with_kept o (option_map (λ _. with_more bytes (empty_at digest)) o)
        ≡ option_map (λ h. insert h digest bytes) o
    by None = refl
    by (Some h) = refl

has_put : (digest bytes : List ℕ) (a b : Receiver)
    → a.begun ≡ option_map (λ _. with_more bytes (empty_at digest)) a.shelf.held → HasDone Keep [] a b
    → HasPut digest bytes a.shelf b.shelf
has_put digest bytes a b begun h = (h.0 ∙ kept_so digest bytes a.shelf.held a.begun begun, h.1)

may_have_put : (digest bytes : List ℕ) (a b : Receiver)
    → a.begun ≡ option_map (λ _. with_more bytes (empty_at digest)) a.shelf.held → MayHaveDone Keep [] a b
    → MayHavePut digest bytes a.shelf b.shelf
may_have_put digest bytes a b begun (inl h) = inl h
may_have_put digest bytes a b begun (inr h) = inr (has_put digest bytes a b begun h)

-- behind calls that left what shelves tell
put_behind : (digest bytes : List ℕ) (a b c : Receiver) → AsTold a b → HasPut digest bytes b.shelf c.shelf
    → HasPut digest bytes a.shelf c.shelf
put_behind digest bytes a b c told h = (
  h.0 ∙ ap (option_map (λ m. insert m digest bytes)) told.0,
  h.1 ∙ told.1,
)

may_behind : (digest bytes : List ℕ) (a b c : Receiver) → AsTold a b → MayHavePut digest bytes b.shelf c.shelf
    → MayHavePut digest bytes a.shelf c.shelf
may_behind digest bytes a b c told (inl h) = inl (h.0 ∙ told.0, h.1 ∙ told.1)
may_behind digest bytes a b c told (inr h) = inr (put_behind digest bytes a b c told h)

-- the shelves of a target that kept what they tell
moved : (D E : Receiver → Receiver → Type 0) (d e : List ℕ) (rs ss us : List Receiver) (fs gs hs : List Bool)
    → ((a b : Receiver) → D a b → E a b) → ((a b c : Receiver) → AsTold a b → D b c → E a c)
    → KeepsTarget (ToShelves d rs fs) (ToShelves e ss gs) → OnEachSeen shelf_of D gs hs ss us
    → OnEachSeen shelf_of E fs hs rs us
moved D E d e rs ss us fs gs hs so join (inl same) h = subst (λ l. OnEachSeen shelf_of E l hs rs us) flags
    (subst (λ l. OnEachSeen shelf_of E gs hs l us) items (each_as shelf_of D E so gs hs ss us h))
  where
    flags : gs ≡ fs
    flags = let all : ToShelves e ss gs ≡ ToShelves d rs fs = same in cc

    items : ss ≡ rs
    items = let all : ToShelves e ss gs ≡ ToShelves d rs fs = same in cc
moved D E d e rs ss us fs gs hs so join (inr stays) h =
    each_then shelf_of AsTold D E (λ a b t. t) join fs gs hs rs ss us stays.1 h

moved_told : (d e : List ℕ) (rs ss : List Receiver) (fs gs : List Bool) → length fs ≤ length rs
    → KeepsTarget (ToShelves d rs fs) (ToShelves e ss gs) → OnEachSeen shelf_of AsTold fs gs rs ss
moved_told d e rs ss fs gs few (inl same) = subst (λ l. OnEachSeen shelf_of AsTold fs l rs ss) (sym flags)
    (subst (λ l. OnEachSeen shelf_of AsTold fs fs rs l) (sym items)
    (each_seen_same shelf_of AsTold (λ s. (refl, refl)) fs rs few))
  where
    flags : gs ≡ fs
    flags = let all : ToShelves e ss gs ≡ ToShelves d rs fs = same in cc

    items : ss ≡ rs
    items = let all : ToShelves e ss gs ≡ ToShelves d rs fs = same in cc
moved_told d e rs ss fs gs few (inr stays) = stays.1

same_digest : (d e : List ℕ) (rs ss : List Receiver) (fs gs : List Bool)
    → KeepsTarget (ToShelves d rs fs) (ToShelves e ss gs) → e ≡ d
same_digest d e rs ss fs gs (inl same) = let all : ToShelves e ss gs ≡ ToShelves d rs fs = same in cc
same_digest d e rs ss fs gs (inr stays) = stays.0

-- ---- the folder is given

told_under : (digest path : List ℕ) (node : Node) (v : Bool) (o : Option Tree)
    → bytes_eq (sha256 (spelling_of node)) digest ≡ v → IfSome o (λ files. tree_in path files ≡ Ok node)
    → IfSome o (λ files. tree_under digest path files ≡ cond v (Ok node) (Err (OddFile path)))
told_under digest path node v None e h = tt
told_under digest path node v (Some files) e h = ap (if_read digest path) h
    ∙ ap (λ w. cond w (Ok node) (Err (OddFile path))) e

under_same : (digest path : List ℕ) (a b : Seen) (node : Node)
    → bytes_eq (sha256 (spelling_of node)) digest ≡ true → reads_tree path a (Ok node) b
    → reads_under digest path a (Ok node) b
unfolding reads_tree reads_under reads
under_same digest path a b node e h = record {
  same = h.same;
  answer = told_under digest path node true a.files e h.answer;
  cause = tt;
  named = tt;
  allows = h.allows;
  counts = h.counts;
}

any_answer : {A : Type 0} (o : Option Tree) (want : Tree → Result A StoreFault)
    → IfSome o (λ files. IsAnswer cause_of (Err Memory) (want files))
any_answer None want = tt
any_answer (Some files) want = tt

under_short : (digest path : List ℕ) (a b : Seen) (node : Node) → reads_tree path a (Ok node) b
    → reads_under digest path a (Err Memory) b
unfolding reads_tree reads_under reads
under_short digest path a b node h = record {
  same = h.same;
  answer = any_answer a.files (tree_under digest path);
  cause = tt;
  named = tt;
  allows = h.allows;
  counts = files_link (Some MemoryEnd) a b b h.counts (files_rest.memory b);
}

under_odd : (digest path : List ℕ) (a b : Seen) (node : Node) (fault : StoreFault) → is_odd_file path fault
    → bytes_eq (sha256 (spelling_of node)) digest ≡ false → reads_tree path a (Ok node) b
    → reads_under digest path a (Err fault) b
unfolding reads_tree reads_under reads
under_odd digest path a b node (OddFile odd) is e h = record {
  same = h.same;
  answer = subst (λ p. IfSome a.files (λ files. tree_under digest path files ≡ Err (OddFile p))) (sym is)
      (told_under digest path node false a.files e h.answer);
  cause = tt;
  named = tt;
  allows = h.allows;
  counts = files_link (Some Decided) a b b h.counts (files_rest.decided b);
}
under_odd digest path a b node Memory is e h = under_short digest path a b node h
under_odd digest path a b node (File blamed) is e h = absurd is
under_odd digest path a b node (Limit kind) is e h = absurd is
under_odd digest path a b node (NoTree asked) is e h = absurd is
under_odd digest path a b node (Damaged asked found bad) is e h = absurd is
under_odd digest path a b node (Clash clashed) is e h = absurd is

under_refused : (digest path : List ℕ) (a b : Seen) (fault : StoreFault) → reads_tree path a (Err fault) b
    → reads_under digest path a (Err fault) b
unfolding reads_tree reads_under reads
under_refused digest path a b fault h = record {
  same = h.same;
  answer = refused a.files h.answer;
  cause = h.cause;
  named = h.named;
  allows = h.allows;
  counts = h.counts;
}
  where
    refused : (o : Option Tree) → IfSome o (λ files. IsAnswer {A = Node} cause_of (Err fault) (tree_in path files))
        → IfSome o (λ files. IsAnswer {A = Node} cause_of (Err fault) (tree_under digest path files))
    refused None h = tt
    refused (Some files) h = where_map (cause_of fault) (tree_in path files ≡ Err fault)
        (tree_under digest path files ≡ Err fault) (λ e. ap (if_read digest path) e) h

-- what was begun is kept, or not
pub folder_given : (path digest found : List ℕ) (writer after : WriterState) (e : List ℕ) (rs ss us : List Receiver)
    (fs gs hs : List Bool) (a b : Seen) (done : Unit {0}) (kept : Result Unit StoreFault)
    → length fs ≤ length rs → IsNew path writer digest rs fs → WalksFolder path writer a (Ok done) after b
    → after.target ≡ ToShelves e ss gs → ((bytes : List ℕ) → Holds256 after.hasher bytes → found ≡ sha256 bytes)
    → KeepsFound (bytes_eq found e) e path ss gs kept us hs → GivesFolder digest path rs fs a kept us hs b
folder_given path digest found writer after e rs ss us fs gs hs a b done kept few new walks at is keeps =
    by (bytes_eq found e) refl kept keeps
  where
    walked : Walked path after a b
    walked = walked_ok path writer after digest rs fs a b done new walks

    stays : KeepsTarget (ToShelves digest rs fs) (ToShelves e ss gs)
    stays = subst (λ t. KeepsTarget t (ToShelves e ss gs)) new.target
        (subst (λ t. KeepsTarget writer.target t) at walks.leaves.stays)

    same : e ≡ digest
    same = same_digest digest e rs ss fs gs stays

    found_is : found ≡ sha256 (spelling_of walked.node)
    found_is = is (spelling_of walked.node) walked.hashed

    begun : HaveBegun e (spelling_of walked.node) gs ss
    begun = (subst (λ t. WentTo (beside path) a.files t (spelling_of walked.node) b.files) at walked.gone.went).1

    tested : (v : Bool) → bytes_eq found e ≡ v → bytes_eq (sha256 (spelling_of walked.node)) digest ≡ v
    tested v h = subst (λ d. bytes_eq (sha256 (spelling_of walked.node)) d ≡ v) same
        (subst (λ f. bytes_eq f e ≡ v) found_is h)

    named : bytes_eq found e ≡ true → digest ≡ sha256 (spelling_of walked.node)
    named h = sym same ∙ sym ((bytes_eq-Decides found e).0 h) ∙ found_is

    nothing : OnEachSeen shelf_of AsTold fs gs rs ss
    nothing = moved_told digest e rs ss fs gs few stays

    by : (v : Bool) → bytes_eq found e ≡ v → (kept : Result Unit StoreFault) → KeepsFound v e path ss gs kept us hs
        → GivesFolder digest path rs fs a kept us hs b
    by true h (Ok kept) keeps = record {
      read = Ok walked.node;
      reads = under_same digest path a b walked.node (tested true h) walked.read;
      answer = refl;
      given = (
        named h,
        moved (λ b c. HasPut digest (spelling_of walked.node) b.shelf c.shelf)
            (λ b c. HasPut digest (spelling_of walked.node) b.shelf c.shelf) digest e rs ss us fs gs hs (λ b c x. x)
            (put_behind digest (spelling_of walked.node)) stays
            (each_from e (spelling_of walked.node) (HasDone Keep [])
            (λ b c. HasPut digest (spelling_of walked.node) b.shelf c.shelf)
            (λ b c begun x. subst (λ d. HasPut d (spelling_of walked.node) b.shelf c.shelf) same
            (has_put e (spelling_of walked.node) b c begun x)) gs hs ss us begun keeps),
      );
    }
    by true h (Err fault) keeps = record {
      read = Err fault;
      reads = subst (λ f. reads_under digest path a (Err f) b) (sym keeps.0)
          (under_short digest path a b walked.node walked.read);
      answer = refl;
      given = inr (
        keeps.0,
        walked.node,
        named h,
        moved (λ b c. MayHavePut digest (spelling_of walked.node) b.shelf c.shelf)
            (λ b c. MayHavePut digest (spelling_of walked.node) b.shelf c.shelf) digest e rs ss us fs gs hs
            (λ b c x. x) (may_behind digest (spelling_of walked.node)) stays
            (each_from e (spelling_of walked.node) (MayHaveDone Keep [])
            (λ b c. MayHavePut digest (spelling_of walked.node) b.shelf c.shelf)
            (λ b c begun x. subst (λ d. MayHavePut d (spelling_of walked.node) b.shelf c.shelf) same
            (may_have_put e (spelling_of walked.node) b c begun x)) gs hs ss us begun keeps.1.1),
      );
    }
    by false h (Ok kept) keeps = absurd keeps
    by false h (Err fault) keeps = record {
      read = Err fault;
      reads = under_odd digest path a b walked.node fault keeps.0 (tested false h) walked.read;
      answer = refl;
      given = inl (subst (λ l. OnEachSeen shelf_of AsTold fs l rs us) (sym keeps.2)
          (subst (λ l. OnEachSeen shelf_of AsTold fs gs rs l) (sym keeps.1) nothing));
    }

pub folder_not_given : (path digest : List ℕ) (writer after : WriterState) (e : List ℕ) (rs ss : List Receiver)
    (fs gs : List Bool) (a b : Seen) (fault : StoreFault) → length fs ≤ length rs → IsNew path writer digest rs fs
    → WalksFolder path writer a (Err fault) after b → after.target ≡ ToShelves e ss gs
    → GivesFolder digest path rs fs a (Err fault) ss gs b
folder_not_given path digest writer after e rs ss fs gs a b fault few new walks at = record {
  read = Err fault;
  reads = under_refused digest path a b fault (walked_err path writer after digest rs fs a b fault new walks);
  answer = refl;
  given = inl (moved_told digest e rs ss fs gs few (subst (λ t. KeepsTarget t (ToShelves e ss gs)) new.target
      (subst (λ t. KeepsTarget writer.target t) at walks.leaves.stays)));
}

-- ---- the calls

-- nothing was put on any
begun_each : (digest : List ℕ) (fs gs : List Bool) (rs ss : List Receiver)
    → OnEachSeen shelf_of (HasDone (Begin digest) []) fs gs rs ss → HaveBegun digest [] gs ss
begun_each digest [] [] rs ss x = tt
begun_each digest [] (g ∷ gs) rs ss x = absurd x
begun_each digest (f ∷ fs) [] rs ss x = absurd x
begun_each digest (f ∷ fs) (g ∷ gs) [] ss x = absurd x
begun_each digest (f ∷ fs) (g ∷ gs) (r ∷ rs) [] x = absurd x
begun_each digest (true ∷ fs) (true ∷ gs) (r ∷ rs) (s ∷ ss) x = begun_each digest fs gs rs ss x.1
begun_each digest (true ∷ fs) (false ∷ gs) (r ∷ rs) (s ∷ ss) x = absurd x.0
begun_each digest (false ∷ fs) (true ∷ gs) (r ∷ rs) (s ∷ ss) x = begun_each digest fs gs rs ss x.1
begun_each digest (false ∷ fs) (false ∷ gs) (r ∷ rs) (s ∷ ss) x = (
  x.0.0.1 ∙ ap (option_map (λ _. empty_at digest)) (sym x.0.0.0.0),
  begun_each digest fs gs rs ss x.1,
)

pub begun_on : (digest d : List ℕ) (fs gs hs : List Bool) (rs ss us : List Receiver) (done : Unit {0})
    → GivesEach (Begin digest) [] rs fs (Ok done) ss gs → d ≡ digest → hs ≡ gs → us ≡ ss → HaveBegun d [] hs us
begun_on digest d fs gs hs rs ss us done h named flags items = subst (λ n. HaveBegun n [] hs us) (sym named)
    (subst (λ l. HaveBegun digest [] l us) (sym flags) (subst (λ l. HaveBegun digest [] gs l) (sym items)
    (begun_each digest fs gs rs ss h)))

maps : {X Y Z : Type 0} (f : Y → Z) (g : X → Y) (xs : List X) → map f (map g xs) ≡ map (λ x. f (g x)) xs
maps f g [] = refl
maps f g (x ∷ xs) = ap (λ l. f (g x) ∷ l) (maps f g xs)

folder_cached : {X : Type 0} (digest path : List ℕ) (see : X → Receiver) (xs ys zs : List X) (fs gs hs : List Bool)
    (a b : Seen) (done : Unit {0}) (result : Result Unit StoreFault)
    → GivesEach (Begin digest) [] (map see xs) fs (Ok done) (map see ys) gs
    → GivesFolder digest path (map see ys) gs a result (map see zs) hs b
    → CachesFolder digest path (map (λ x. (see x).shelf) xs) fs a result (map (λ x. (see x).shelf) zs) hs b
folder_cached digest path see xs ys zs fs gs hs a b done result begins gives = record {
  read = gives.read;
  reads = gives.reads;
  answer = gives.answer;
  caches = as_seen (CachesRead digest gives.read) (given gives.read gives.given);
}
  where
    as_seen : (P : List Bool → List Bool → List ShelfState → List ShelfState → Type 0)
        → P fs hs (map shelf_of (map see xs)) (map shelf_of (map see zs))
        → P fs hs (map (λ x. (see x).shelf) xs) (map (λ x. (see x).shelf) zs)
    as_seen P h = subst (λ l. P fs hs l (map (λ x. (see x).shelf) zs)) (maps shelf_of see xs)
        (subst (λ l. P fs hs (map shelf_of (map see xs)) l) (maps shelf_of see zs) h)

    begun : OnEachSeen shelf_of AsTold fs gs (map see xs) (map see ys)
    begun = each_as shelf_of (HasDone (Begin digest) []) AsTold (λ a b x. x.0) fs gs (map see xs) (map see ys) begins

    behind : (D : ShelfState → ShelfState → Type 0)
        → ((a b c : Receiver) → AsTold a b → D b.shelf c.shelf → D a.shelf c.shelf)
        → OnEachSeen shelf_of (λ b a. D b.shelf a.shelf) gs hs (map see ys) (map see zs)
        → OnEach D fs hs (map shelf_of (map see xs)) (map shelf_of (map see zs))
    behind D join h = each_seen shelf_of D fs hs (map see xs) (map see zs)
        (each_then shelf_of AsTold (λ b a. D b.shelf a.shelf) (λ b a. D b.shelf a.shelf) (λ a b t. t) join fs gs hs
        (map see xs) (map see ys) (map see zs) begun h)

    given : (read : Result Node StoreFault) → GivenRead digest read gs hs (map see ys) (map see zs)
        → CachesRead digest read fs hs (map shelf_of (map see xs)) (map shelf_of (map see zs))
    given (Ok tree) h = (h.0, behind (HasPut digest (spelling_of tree)) (put_behind digest (spelling_of tree)) h.1)
    given (Err fault) (inl h) = inl (behind KeepsTold told_then h)
    given (Err fault) (inr h) = inr (
      h.0,
      h.1,
      h.2,
      behind (MayHavePut digest (spelling_of h.1))
          (may_behind digest (spelling_of h.1)) h.3,
    )

pub folder_cached_on : {X : Type 0} (digest d path : List ℕ) (see : X → Receiver) (xs ys ws zs : List X)
    (fs gs ks hs : List Bool) (a b : Seen) (done : Unit {0}) (result : Result Unit StoreFault)
    → GivesEach (Begin digest) [] (map see xs) fs (Ok done) (map see ys) gs
    → GivesFolder d path (map see ws) ks a result (map see zs) hs b → d ≡ digest → ks ≡ gs → ws ≡ ys
    → CachesFolder digest path (map (λ x. (see x).shelf) xs) fs a result (map (λ x. (see x).shelf) zs) hs b
folder_cached_on digest d path see xs ys ws zs fs gs ks hs a b done result begins gives named flags items =
    folder_cached digest path see xs ys zs fs gs hs a b done result begins
    (subst (λ n. GivesFolder n path (map see ys) gs a result (map see zs) hs b) named
    (subst (λ l. GivesFolder d path (map see ys) l a result (map see zs) hs b) flags
    (subst (λ l. GivesFolder d path (map see l) ks a result (map see zs) hs b) items gives)))

-- it was not begun on all
begins_told : (digest : List ℕ) (a b : Receiver) → MayHaveDone (Begin digest) [] a b → AsTold a b
begins_told digest a b (inl h) = h
begins_told digest a b (inr h) = h.0

pub folder_not_begun : {X : Type 0} (digest path : List ℕ) (see : X → Receiver) (xs ys : List X) (fs gs : List Bool)
    (a : Seen) (memory : OutOfMemory) → GivesEach (Begin digest) [] (map see xs) fs (Err memory) (map see ys) gs
    → CachesFolder digest path (map (λ x. (see x).shelf) xs) fs a (Err Memory) (map (λ x. (see x).shelf) ys) gs a
unfolding reads_under
folder_not_begun digest path see xs ys fs gs a memory begins = record {
  read = Err Memory;
  reads = none_read (AtOrBelow path) (tree_under digest path) a;
  answer = refl;
  caches = inl (subst (λ l. OnEach KeepsTold fs gs l (map (λ x. (see x).shelf) ys)) (maps shelf_of see xs)
      (subst (λ l. OnEach KeepsTold fs gs (map shelf_of (map see xs)) l) (maps shelf_of see ys)
      (each_seen shelf_of KeepsTold fs gs (map see xs) (map see ys)
      (each_as shelf_of (MayHaveDone (Begin digest) []) AsTold (begins_told digest) fs gs (map see xs) (map see ys)
      begins))));
}

may_have_rows : (document : List ℕ) (a b : Receiver) → MayHaveDone SetRows document a b
    → MayHaveRows document a.shelf b.shelf
may_have_rows document a b (inl h) = inl h
may_have_rows document a b (inr h) = inr h

pub rows_cached : {X : Type 0} (document : List ℕ) (see : X → Receiver) (xs ys : List X) (fs gs : List Bool)
    (result : Result Unit OutOfMemory) → GivesEach SetRows document (map see xs) fs result (map see ys) gs
    → CachesRows document (map (λ x. (see x).shelf) xs) fs result (map (λ x. (see x).shelf) ys) gs
rows_cached document see xs ys fs gs (Ok done) h =
    subst (λ l. OnEach (HasRows document) fs gs l (map (λ x. (see x).shelf) ys)) (maps shelf_of see xs)
    (subst (λ l. OnEach (HasRows document) fs gs (map shelf_of (map see xs)) l) (maps shelf_of see ys)
    (each_seen shelf_of (HasRows document) fs gs (map see xs) (map see ys) h))
rows_cached document see xs ys fs gs (Err memory) h =
    subst (λ l. OnEach (MayHaveRows document) fs gs l (map (λ x. (see x).shelf) ys)) (maps shelf_of see xs)
    (subst (λ l. OnEach (MayHaveRows document) fs gs (map shelf_of (map see xs)) l) (maps shelf_of see ys)
    (each_seen shelf_of (MayHaveRows document) fs gs (map see xs) (map see ys)
    (each_as shelf_of (MayHaveDone SetRows document) (λ a b. MayHaveRows document a.shelf b.shelf)
    (may_have_rows document) fs gs (map see xs) (map see ys) h)))
