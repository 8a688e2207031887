-- What a store has when a tree was put into it.
use Rattle.std.proofs.Common.{◌≡◌, ◌∙◌, refl, sym, ap, subst, ℕ, Bool, true, false, cond, List, Option, Some, None, inl}
use Rattle.std.proofs.Common.{inr, ◌⊎◌, Ok}
use Rattle.std.specs.FinMap.{get, insert, remove}
use Rattle.std.specs.Str.{IsUtf8, bytes_eq}
use Rattle.std.proofs.lemmas.Slice.Eq.{bytes_eq-Decides}
use Rattle.cnb_world.specs.Path.{beside, parent_of}
use Rattle.cnb_world.specs.Tree.{Tree, folder_made, is_file, item_at, without}
use Rattle.cnb_world.specs.declared.world.Item.{Item}
use Rattle.cnb_world.specs.declared.world.Item.TheVariants as item
use Rattle.cnb_world.proofs.EffectLemmas.{emptied_elsewhere}
use Rattle.cnb_world.proofs.Folders.{get-folder_made_longer}
use Rattle.cnb_world.proofs.Trees.{bytes_eq-same, get-insert_bytes, get-remove_bytes}
use Rattle.image_docs.specs.DigestText.{is_digest}
use Rattle.sha2.specs.Sha256.{sha256}
use Rattle.store_prune.specs.Verifying.{HasTreeFile}
use Rattle.tree_canon.specs.Fits.{is_tree}
use Rattle.tree_canon.specs.Spelling.{spelling_of}
use Rattle.tree_canon.specs.declared.node.Node.{Node}
use Rattle.tree_canon.proofs.Divided.{tree_spells}
use Rattle.tree_store.specs.Store.{Gets, Keeps, kept_or_written, left_or_written, tree_path}
use Rattle.tree_store.specs.Writing.{bytes_put, named_or_left, new_path, trees_of}
use Rattle.store_laws.specs.Texts.{AreTexts}
use Rattle.store_laws.specs.Sound.{Grows, HasFile, IsSound}
use Rattle.store_laws.proofs.DigestLemmas.{hash_is, not_beside, not_in_new, not_new, not_root, not_shorter, path_utf8}
use Rattle.store_laws.proofs.DigestLemmas.{same_digest_path, trees_shorter, trees_utf8}
use Rattle.store_laws.proofs.Texts.{folder_made_texts, insert_texts, parent_text, remove_texts, without_texts}

-- ---- what stands under digests

file_some : (found : Option Item) → is_file found ≡ true → (x : Item) × (found ≡ Some x)
file_some None h = absurd (cc)
file_some (Some x) h = (x, refl)

pub grows_none : (store : List ℕ) (files : Tree) → Grows store files files
grows_none store files = record { keeps = λ digest is there. refl; adds = λ digest is there. inl refl }

has_file : (digest : List ℕ) (found : Option Item) (tree : Node) → Gets digest found (Ok tree) → is_file found ≡ true
has_file digest None tree h = absurd h
has_file digest (Some (item.File exec bytes)) tree h = refl
has_file digest (Some item.Folder) tree h = absurd h
has_file digest (Some (item.Link target)) tree h = absurd h
has_file digest (Some item.Odd) tree h = absurd h

-- a file that spells a tree is there
pub tree_there : (store : List ℕ) (files : Tree) (digest : List ℕ) → HasTreeFile store files digest
    → HasFile store files digest
tree_there store files digest h = has_file digest (item_at files (tree_path store digest)) h.tree h.gets

-- and stays
pub tree_stays : (store : List ℕ) (a b : Tree) (digest : List ℕ)
    → item_at b (tree_path store digest) ≡ item_at a (tree_path store digest) → HasTreeFile store a digest
    → HasTreeFile store b digest
tree_stays store a b digest same h = record {
  tree = h.tree;
  gets = subst (λ found. Gets digest found (Ok h.tree)) (sym same) h.gets;
}

module _ (store : List ℕ) (a b : Tree) (grows : Grows store a b) where
  pub file_kept : (digest : List ℕ) → is_digest digest ≡ true → HasFile store a digest → HasFile store b digest
  file_kept digest is there = ap is_file (grows.keeps digest is there) ∙ there

  pub tree_kept : (digest : List ℕ) → is_digest digest ≡ true → HasTreeFile store a digest
      → HasTreeFile store b digest
  tree_kept digest is h = tree_stays store a b digest (grows.keeps digest is (tree_there store a digest h)) h

  pub sound_kept : IsSound store a → IsSound store b
  sound_kept sound = record { spells = λ digest is there. by digest is (grows.adds digest is there) there }
    where
      by : (digest : List ℕ) → is_digest digest ≡ true
          → (item_at b (tree_path store digest) ≡ item_at a (tree_path store digest)) ⊎ HasTreeFile store b digest
          → HasFile store b digest → HasTreeFile store b digest
      by digest is (inl same) there = tree_stays store a b digest same
          (sound.spells digest is (ap is_file (sym same) ∙ there))
      by digest is (inr new) there = new

pub grows_on : (store : List ℕ) (a b c : Tree) → Grows store a b → Grows store b c → Grows store a c
grows_on store a b c first second = record {
  keeps = λ digest is there. second.keeps digest is (file_kept store a b first digest is there)
      ∙ first.keeps digest is there;
  adds = λ digest is there. by digest is (second.adds digest is there) there;
}
  where
    again : (digest : List ℕ) → is_digest digest ≡ true
        → item_at c (tree_path store digest) ≡ item_at b (tree_path store digest)
        → (item_at b (tree_path store digest) ≡ item_at a (tree_path store digest)) ⊎ HasTreeFile store b digest
        → (item_at c (tree_path store digest) ≡ item_at a (tree_path store digest)) ⊎ HasTreeFile store c digest
    again digest is same (inl before) = inl (same ∙ before)
    again digest is same (inr h) = inr (tree_stays store b c digest same h)

    by : (digest : List ℕ) → is_digest digest ≡ true
        → (item_at c (tree_path store digest) ≡ item_at b (tree_path store digest)) ⊎ HasTreeFile store c digest
        → HasFile store c digest
        → (item_at c (tree_path store digest) ≡ item_at a (tree_path store digest)) ⊎ HasTreeFile store c digest
    by digest is (inl same) there = again digest is same
        (first.adds digest is (ap is_file (sym same) ∙ there))
    by digest is (inr h) there = inr h

-- ---- bytes that are put

module _ (store bytes : List ℕ) where
  abbrev place : List ℕ
  place = tree_path store (sha256 bytes)

  -- These bytes are put under their digest: nothing stands at another one's file that did not, and what stood under
  -- theirs stays.
  pub record IsPut (a b : Tree) : Type 0 where
    pub others : (digest : List ℕ) → is_digest digest ≡ true
        → bytes_eq (tree_path store digest) place ≡ false
        → item_at b (tree_path store digest) ≡ item_at a (tree_path store digest)
    pub left : (x : Item) → item_at a place ≡ Some x → (digest : List ℕ) → is_digest digest ≡ true
        → item_at b (tree_path store digest) ≡ item_at a (tree_path store digest)
    pub comes : item_at a place ≡ None → item_at b place ≡ Some (item.File false bytes)
    pub texts : (top : List ℕ) → AreTexts top a → AreTexts top b

  put_tree : (tree : Node) → is_tree tree ≡ true → bytes ≡ spelling_of tree → (b : Tree)
      → (exec : Bool) → item_at b place ≡ Some (item.File exec bytes) → HasTreeFile store b (sha256 bytes)
  put_tree tree is spells b exec at = record {
    tree = tree;
    gets = subst (λ found. Gets (sha256 bytes) found (Ok tree)) (sym at) (refl, tree_spells tree bytes is spells);
  }

  module _ (tree : Node) (is : is_tree tree ≡ true) (spells : bytes ≡ spelling_of tree) (a b : Tree)
      (put : IsPut a b) where
    -- nothing was there before, or these bytes were
    pub put_has : Keeps (sha256 bytes) bytes (item_at a place) (Ok tt) → HasTreeFile store b (sha256 bytes)
    put_has keeps = by (item_at a place) refl keeps
      where
        by : (found : Option Item) → item_at a place ≡ found → Keeps (sha256 bytes) bytes found (Ok tt)
            → HasTreeFile store b (sha256 bytes)
        by None e k = put_tree tree is spells b false (put.comes e)
        by (Some (item.File exec old)) e k = put_tree tree is spells b exec
            (put.left (item.File exec old) e (sha256 bytes) (hash_is bytes) ∙ e ∙ ap (λ x. Some (item.File exec x)) k)
        by (Some item.Folder) e k = absurd k
        by (Some (item.Link target)) e k = absurd k
        by (Some item.Odd) e k = absurd k

    pub put_grows : Grows store a b
    put_grows = record {
      keeps = λ digest h there. kept digest h there (bytes_eq (tree_path store digest) place) refl;
      adds = λ digest h there. added digest h (bytes_eq (tree_path store digest) place) refl (item_at a place) refl;
    }
      where
        path_is : (digest : List ℕ) → bytes_eq (tree_path store digest) place ≡ true → tree_path store digest ≡ place
        path_is digest e = (bytes_eq-Decides (tree_path store digest) place).0 e

        kept : (digest : List ℕ) → is_digest digest ≡ true → HasFile store a digest → (v : Bool)
            → bytes_eq (tree_path store digest) place ≡ v
            → item_at b (tree_path store digest) ≡ item_at a (tree_path store digest)
        kept digest h there false e = put.others digest h e
        kept digest h there true e =
            let (x, found) = file_some (item_at a (tree_path store digest)) there in
            put.left x (ap (item_at a) (sym (path_is digest e)) ∙ found) digest h

        added : (digest : List ℕ) → is_digest digest ≡ true → (v : Bool)
            → bytes_eq (tree_path store digest) place ≡ v → (found : Option Item) → item_at a place ≡ found
            → (item_at b (tree_path store digest) ≡ item_at a (tree_path store digest)) ⊎ HasTreeFile store b digest
        added digest h false e found at = inl (put.others digest h e)
        added digest h true e (Some x) at = inl (put.left x at digest h)
        added digest h true e None at = inr (subst (HasTreeFile store b)
            (sym (same_digest_path store digest (sha256 bytes) h (hash_is bytes) (path_is digest e)))
            (put_tree tree is spells b false (put.comes at)))

-- ---- the two ways to put

module _ (store bytes : List ℕ) (text : IsUtf8 store) where
  abbrev file : List ℕ
  file = tree_path store (sha256 bytes)

  abbrev wrote : Tree → Tree
  wrote folders = insert folders file (item.File false bytes)

  at_key : (files : Tree) (digest : List ℕ) → is_digest digest ≡ true
      → item_at files (tree_path store digest) ≡ get files (tree_path store digest)
  at_key files digest h = ap (λ v. cond v (Some item.Folder) (get files (tree_path store digest)))
      (not_root store digest h)

  wrote_other : (folders : Tree) (digest : List ℕ) → bytes_eq (tree_path store digest) file ≡ false
      → get (wrote folders) (tree_path store digest) ≡ get folders (tree_path store digest)
  wrote_other folders digest e = get-insert_bytes folders file (item.File false bytes) (tree_path store digest)
      ∙ ap (λ v. cond v (Some (item.File false bytes)) (get folders (tree_path store digest))) e

  wrote_here : (folders : Tree) → item_at (wrote folders) file ≡ Some (item.File false bytes)
  wrote_here folders = at_key (wrote folders) (sha256 bytes) (hash_is bytes)
      ∙ get-insert_bytes folders file (item.File false bytes) file
      ∙ ap (λ v. cond v (Some (item.File false bytes)) (get folders file)) (bytes_eq-same file)

  removed_other : (folders : Tree) (path digest : List ℕ) → bytes_eq (tree_path store digest) path ≡ false
      → get (remove folders path) (tree_path store digest) ≡ get folders (tree_path store digest)
  removed_other folders path digest e = get-remove_bytes folders path (tree_path store digest)
      ∙ ap (λ v. cond v None (get folders (tree_path store digest))) e

  -- as `put_folder` does
  module _ (files : Tree) where
    abbrev made : Tree
    made = folder_made (trees_of store) files

    made_other : (digest : List ℕ) → is_digest digest ≡ true
        → get made (tree_path store digest) ≡ get files (tree_path store digest)
    made_other digest h = get-folder_made_longer (trees_of store) (tree_path store digest) files
        (trees_shorter store digest h)

    named : (found : Option Item) → item_at files file ≡ found
        → IsPut store bytes files (named_or_left found (new_path store) file bytes made)
    named None at = record {
      others = λ digest h e. at_key (wrote (remove made (new_path store))) digest h
          ∙ wrote_other (remove made (new_path store)) digest e
          ∙ removed_other made (new_path store) digest (not_new store digest h) ∙ made_other digest h
          ∙ sym (at_key files digest h);
      left = λ x there digest h. absurd (let no : None ≡ Some x = sym at ∙ there in cc);
      comes = λ none. wrote_here (remove made (new_path store));
      texts = λ top texts. insert_texts top file (item.File false bytes) (remove made (new_path store))
          (path_utf8 store (sha256 bytes) text (hash_is bytes)) (remove_texts top (new_path store) made
          (folder_made_texts top (trees_of store) files (trees_utf8 store text) texts));
    }
    named (Some x) at =
        let same : (digest : List ℕ) → is_digest digest ≡ true
        → item_at (without (new_path store) made) (tree_path store digest) ≡ item_at files (tree_path store digest)
        = λ digest h. at_key (without (new_path store) made) digest h
        ∙ emptied_elsewhere made (new_path store) (tree_path store digest) (not_in_new store digest h)
        ∙ made_other digest h ∙ sym (at_key files digest h) in
        record {
          others = λ digest h e. same digest h;
          left = λ y there digest h. same digest h;
          comes = λ none. absurd (let no : Some x ≡ None = sym at ∙ none in cc);
          texts = λ top texts. without_texts top (new_path store) made
              (folder_made_texts top (trees_of store) files (trees_utf8 store text) texts);
        }

    pub bytes_are_put : IsPut store bytes files (bytes_put store bytes files)
    bytes_are_put = named (item_at files file) refl

    -- as `put` does
    abbrev above : Tree
    above = folder_made (parent_of file) files

    above_other : (digest : List ℕ) → is_digest digest ≡ true
        → get above (tree_path store digest) ≡ get files (tree_path store digest)
    above_other digest h = get-folder_made_longer (parent_of file) (tree_path store digest) files
        (not_shorter store digest (sha256 bytes) h (hash_is bytes))

    stays_or_written : (found : Option Item) → item_at files file ≡ found
        → IsPut store bytes files (left_or_written found file bytes files)
    stays_or_written None at = record {
      others = λ digest h e. at_key (wrote (remove above (beside file))) digest h
          ∙ wrote_other (remove above (beside file)) digest e
          ∙ removed_other above (beside file) digest (not_beside store digest (sha256 bytes) h (hash_is bytes))
          ∙ above_other digest h ∙ sym (at_key files digest h);
      left = λ x there digest h. absurd (let no : None ≡ Some x = sym at ∙ there in cc);
      comes = λ none. wrote_here (remove above (beside file));
      texts = λ top texts. insert_texts top file (item.File false bytes) (remove above (beside file))
          (path_utf8 store (sha256 bytes) text (hash_is bytes)) (remove_texts top (beside file) above
          (folder_made_texts top (parent_of file) files (parent_text file
          (path_utf8 store (sha256 bytes) text (hash_is bytes))) texts));
    }
    stays_or_written (Some x) at = record {
      others = λ digest h e. refl;
      left = λ y there digest h. refl;
      comes = λ none. absurd (let no : Some x ≡ None = sym at ∙ none in cc);
      texts = λ top texts. texts;
    }

    pub bytes_are_kept : IsPut store bytes files (kept_or_written file bytes files)
    bytes_are_kept = stays_or_written (item_at files file) refl
