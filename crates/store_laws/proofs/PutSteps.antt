-- What the store has behind steps that read and put.
use Rattle.std.proofs.Common.{◌≡◌, ◌∙◌, refl, sym, ap, subst, ℕ, Bool, true, List, [], ◌∷◌, Some, Result, Ok}
use Rattle.std.specs.Option.{option_map}
use Rattle.std.specs.Str.{IsUtf8}
use Rattle.cnb_world.specs.Tree.{Tree, is_within}
use Rattle.image_docs.specs.DigestText.{is_digest}
use Rattle.sha2.specs.Sha256.{sha256}
use Rattle.steps.specs.Causes.{Cause}
use Rattle.steps.specs.Each.{for_each}
use Rattle.steps.specs.Outside.{Seen}
use Rattle.steps.specs.Steps.{◌>>=◌, gives, map_err, reads, yields}
use Rattle.store_prune.specs.Verifying.{HasTreeFile}
use Rattle.tree_canon.specs.Fits.{is_tree}
use Rattle.tree_canon.specs.Spelling.{spelling_of}
use Rattle.tree_canon.specs.declared.node.Node.{Node}
use Rattle.tree_store.specs.Answers.{cause_of}
use Rattle.tree_store.specs.Reading.{tree_in}
use Rattle.tree_store.specs.Steps.{PutsRead, folder_put, puts_folder, puts_tree, reads_tree}
use Rattle.tree_store.specs.Store.{Puts, tree_put}
use Rattle.tree_store.proofs.Blames.{within_itself}
use Rattle.unpack_laws.proofs.VerifiedLaws.{on_told}
use Rattle.store_laws.specs.Sound.{Grows}
use Rattle.store_laws.specs.Texts.{AreTexts}
use Rattle.store_laws.proofs.DigestLemmas.{hash_is}
use Rattle.store_laws.proofs.Putting.{bytes_are_kept, bytes_are_put, grows_none, grows_on, put_grows, put_has, IsPut}
use Rattle.store_laws.proofs.ReadFits.{read_is_tree}

-- ---- steps that change no file where they are done

abbrev pub Reading : {E A : Type 0} → (Seen → Result A E → Seen → Type 0) → Type 0
Reading {E} {A} step = (old new : Seen) (a : A) → step old (Ok a) new → new.files ≡ old.files

pub read_then : {E A B : Type 0} (first : Seen → Result A E → Seen → Type 0)
    (next : A → Seen → Result B E → Seen → Type 0) → Reading first → ((a : A) → Reading (next a))
    → Reading (first >>= next)
unfolding ◌>>=◌
read_then first next p q old new b (a, mid, h, k) = q a mid new b k ∙ p old mid a h

pub read_files : {E A : Type 0} (cause_of : E → Cause) (Among : List ℕ → Type 0) (fits : Tree → Bool)
    (want : Tree → Result A E) → Reading (reads cause_of Among fits want)
unfolding reads
read_files cause_of Among fits want old new a h = h.same.files

pub read_given : {E A : Type 0} (cause_of : E → Cause) (want : Result A E) → Reading (gives cause_of want)
unfolding gives
read_given cause_of want old new a h = ap (λ (s : Seen). s.files) h.0

pub read_value : (E : Type 0) {A : Type 0} (want : A) → Reading {E = E} (yields want)
unfolding yields
read_value E want old new a h = ap (λ (s : Seen). s.files) h.1

pub read_told : {E F A : Type 0} (of : E → F) (step : Seen → Result A E → Seen → Type 0) → Reading step
    → Reading (map_err of step)
unfolding map_err
read_told of step p old new a h = p old new a h

pub read_each : {E A X : Type 0} (step : X → A → Seen → Result A E → Seen → Type 0)
    → ((x : X) (a : A) → Reading (step x a)) → (xs : List X) (a : A) → Reading (for_each step xs a)
unfolding for_each
read_each {E = E} step p [] a = read_value E a
read_each step p (x ∷ xs) a = read_then (step x a) (for_each step xs) (p x a) (λ more. read_each step p xs more)

-- ---- the files at one moment

module _ (store : List ℕ) where
  -- From these files it came to others that are told: what the store had is there, and what it has besides spells
  -- trees.
  pub record Went (a : Tree) (now : Seen) : Type 0 where
    pub files : Tree
    pub told : now.files ≡ Some files
    pub grows : Grows store a files
    pub texts : (top : List ℕ) → AreTexts top a → AreTexts top files

  abbrev pub went_none : (a : Tree) (now : Seen) → now.files ≡ Some a → Went a now
  went_none a now told = record {
    files = a;
    told = told;
    grows = grows_none store a;
    texts = λ top texts. texts;
  }

  abbrev pub went_read : (a : Tree) (old new : Seen) → new.files ≡ old.files → Went a old → Went a new
  went_read a old new same h = record {
    files = h.files;
    told = same ∙ h.told;
    grows = h.grows;
    texts = h.texts;
  }

  -- a tree was put besides
  pub record WentPut (a : Tree) (digest : List ℕ) (old : Seen) (before : Went a old) (new : Seen) : Type 0 where
    pub went : Went a new
    pub on : Grows store before.files went.files
    pub is : is_digest digest ≡ true
    pub has : HasTreeFile store went.files digest

  module _ (text : IsUtf8 store) (a : Tree) (old new : Seen) (before : Went a old) where
    went_put : (tree : Node) (digest : List ℕ) (after : Tree) → is_tree tree ≡ true
        → digest ≡ sha256 (spelling_of tree) → IsPut store (spelling_of tree) before.files after
        → new.files ≡ Some after → Puts store tree before.files (Ok digest) → WentPut a digest old before new
    went_put tree digest after is named put told answer =
        let on = put_grows store (spelling_of tree) tree is refl before.files after put in
        record {
          went = record {
            files = after;
            told = told;
            grows = grows_on store a before.files after before.grows on;
            texts = λ top texts. put.texts top (before.texts top texts);
          };
          on = on;
          is = ap is_digest named ∙ hash_is (spelling_of tree);
          has = subst (HasTreeFile store after) (sym named)
              (put_has store (spelling_of tree) tree is refl before.files after put answer);
        }

    pub folder_went : (top : List ℕ) → AreTexts top a → (folder digest : List ℕ) → is_within top folder ≡ true
        → puts_folder store folder old (Ok digest) new
        → WentPut a digest old before new
    unfolding puts_folder
    folder_went top texts folder digest within h =
        let (tree, named, read, put) = h.leaves in
        let found : tree_in folder before.files ≡ Ok tree = on_told old.files before.files
        (λ files. tree_in folder files ≡ Ok tree) before.told read in
        let answer : PutsRead store (tree_in folder before.files) before.files (Ok digest) = on_told old.files
        before.files (λ files. PutsRead store (tree_in folder files) files (Ok digest)) before.told h.answer in
        went_put tree digest (folder_put store tree before.files)
        (read_is_tree top before.files (before.texts top texts) folder tree within found) named
        (bytes_are_put store (spelling_of tree) text before.files)
        (put ∙ ap (option_map (folder_put store tree)) before.told)
        (subst (λ (r : Result Node _). PutsRead store r before.files (Ok digest)) found answer)

    pub tree_went : (tree : Node) (digest : List ℕ) → is_tree tree ≡ true
        → puts_tree store tree old (Ok digest) new → WentPut a digest old before new
    unfolding puts_tree
    tree_went tree digest is h =
        went_put tree digest (tree_put store tree before.files) is h.leaves.0
        (bytes_are_kept store (spelling_of tree) text before.files)
        (h.leaves.1 ∙ ap (option_map (tree_put store tree)) before.told)
        (on_told old.files before.files (λ files. Puts store tree files (Ok digest)) before.told h.answer)

-- a tree that is read of a folder is one
pub tree_read : (folder : List ℕ) (tree : Node) (old new : Seen) (files : Tree) → AreTexts folder files
    → old.files ≡ Some files → reads_tree folder old (Ok tree) new → is_tree tree ≡ true
unfolding reads_tree reads
tree_read folder tree old new files texts told h = read_is_tree folder files texts folder tree
    (within_itself folder) (on_told old.files files (λ t. tree_in folder t ≡ Ok tree) told h.answer)

pub tree_reading : (folder : List ℕ) → Reading (reads_tree folder)
unfolding reads_tree
tree_reading folder = read_files cause_of _ _ _
