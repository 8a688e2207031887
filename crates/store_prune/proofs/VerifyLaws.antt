-- `verify` says yes exactly where an image is whole.
use Rattle.std.proofs.Common.{◌≡◌, ◌∙◌, refl, sym, ap, subst, ℕ, Bool, List, [], ◌∷◌, length, Option, Some, None}
use Rattle.std.proofs.Common.{Result, Ok, Err, inl, inr}
use Rattle.std.specs.Prelude.{IfSome}
use Rattle.std.specs.List.{AllByRecursion}
use Rattle.cnb_world.specs.Tree.{Tree, item_at}
use Rattle.cnb_world.specs.declared.world.Item.{Item}
use Rattle.cnb_world.specs.declared.world.Item.TheVariants as item
use Rattle.cnb_words.specs.declared.verify.VerifyWords.{VerifyWords}
use Rattle.image_docs.specs.declared.image.ImageDoc.{ImageDoc}
use Rattle.image_files.specs.Faults as image_files
use Rattle.image_files.specs.Images.{image_at, reads_image}
use Rattle.image_files.specs.declared.fault.ImageFault.{ImageFault}
use Rattle.steps.specs.Causes.{Cause, FileFailed, ChildFailed, OutOfMemory, Decided, IsAnswer, WhereDecided}
use Rattle.steps.specs.Each.{for_each}
use Rattle.steps.specs.Outside.{Seen}
use Rattle.steps.specs.Steps.{◌>>=◌, gives, map_err, reads, yields}
use Rattle.steps.proofs.ReadingLaws.{where_map}
use Rattle.tree_canon.proofs.CutMoves.{broken_not_spelled, short_not_spelled}
use Rattle.tree_canon.specs.declared.node.Node.{Node}
use Rattle.tree_store.specs.Answers as tree_store
use Rattle.tree_store.specs.Steps.{checks_tree, gets_tree}
use Rattle.tree_store.specs.Store.{Gets, tree_path}
use Rattle.tree_store.specs.declared.fault.StoreFault.{StoreFault}
use Rattle.tree_store.specs.declared.fault.StoreFault.TheVariants as store_fault
use Rattle.store_prune.specs.Faults.{of_image_fault, verify_cause}
use Rattle.store_prune.specs.Report.{verified_text}
use Rattle.store_prune.specs.Verifies.{checks_all, checks_image, checks_next, trees_of_rows, verifies, verifies_command}
use Rattle.store_prune.specs.Verifying.{HasTreeFile, IsWhole, VerifiesExactly, VerifiesPrinted}
use Rattle.store_prune.specs.declared.fault.VerifyFault.{VerifyFault}
use Rattle.store_prune.specs.declared.fault.VerifyFault.TheVariants.{Store}
use Rattle.store_prune.proofs.CountLaws.{image_cause}

where_so : (cause : Cause) (P : Type 0) → P → WhereDecided cause P
where_so (FileFailed path) P h = tt
where_so ChildFailed P h = tt
where_so OutOfMemory P h = tt
where_so Decided P h = h

-- ---- one tree

-- a file that is refused spells no tree of the digest
file_not : (digest bytes : List ℕ) (exec : Bool) (fault : StoreFault)
    → Gets digest (Some (item.File exec bytes)) (Err fault)
    → WhereDecided (tree_store.cause_of fault) ((tree : Node)
    → Gets digest (Some (item.File exec bytes)) (Ok tree) → ⊥)
file_not digest bytes exec (store_fault.File path) h = tt
file_not digest bytes exec store_fault.Memory h = tt
file_not digest bytes exec (store_fault.OddFile path) h = absurd h
file_not digest bytes exec (store_fault.Limit kind) h = absurd h
file_not digest bytes exec (store_fault.NoTree other) h = absurd h
file_not digest bytes exec (store_fault.Clash other) h = absurd h
file_not digest bytes exec (store_fault.Damaged asked found None) (one, two, other) = λ tree k. other k.0
file_not digest bytes exec (store_fault.Damaged asked found (Some reason))
    (one, two, (same, at, inl broken)) = λ tree k. broken_not_spelled bytes at reason tree broken k.1
file_not digest bytes exec (store_fault.Damaged asked found (Some reason))
    (one, two, (same, at, inr (short, end, why))) = λ tree k. short_not_spelled bytes tree short k.1

pub gets_not : (digest : List ℕ) (found : Option Item) (fault : StoreFault) → Gets digest found (Err fault)
    → WhereDecided (tree_store.cause_of fault) ((tree : Node) → Gets digest found (Ok tree) → ⊥)
gets_not digest None fault h = where_so (tree_store.cause_of fault)
    ((tree : Node) → Gets digest None (Ok tree) → ⊥) (λ tree k. k)
gets_not digest (Some (item.File exec bytes)) fault h = file_not digest bytes exec fault h
gets_not digest (Some item.Folder) fault h = where_so (tree_store.cause_of fault)
    ((tree : Node) → Gets digest (Some item.Folder) (Ok tree) → ⊥) (λ tree k. k)
gets_not digest (Some (item.Link target)) fault h = where_so (tree_store.cause_of fault)
    ((tree : Node) → Gets digest (Some (item.Link target)) (Ok tree) → ⊥) (λ tree k. k)
gets_not digest (Some item.Odd) fault h = where_so (tree_store.cause_of fault)
    ((tree : Node) → Gets digest (Some item.Odd) (Ok tree) → ⊥) (λ tree k. k)

-- what holds of the files, where they are told
on_files : (o : Option Tree) (P Q : Tree → Type 0) → ((files : Tree) → P files → Q files) → IfSome o P → IfSome o Q
on_files None P Q f h = tt
on_files (Some files) P Q f h = f files h

both : (o : Option Tree) (P Q R : Tree → Type 0) → ((files : Tree) → P files → Q files → R files) → IfSome o P
    → IfSome o Q → IfSome o R
both None P Q R f h k = tt
both (Some files) P Q R f h k = f files h k

always : (o : Option Tree) (P : Tree → Type 0) → ((files : Tree) → P files) → IfSome o P
always None P f = tt
always (Some files) P f = f files

module _ (store : List ℕ) where
  pub record Checked (digests : List (List ℕ)) (old new : Seen) : Type 0 where
    pub files : new.files ≡ old.files
    pub trees : IfSome old.files (λ files. AllByRecursion (HasTreeFile store files) digests)

  pub record One (digest : List ℕ) (old new : Seen) : Type 0 where
    pub files : new.files ≡ old.files
    pub tree : IfSome old.files (λ files. HasTreeFile store files digest)

  one_checked : (digest : List ℕ) (old new : Seen) (done : Unit {0})
      → checks_next store digest tt old (Ok done) new → One digest old new
  unfolding map_err checks_tree gets_tree yields ◌>>=◌
  one_checked digest old new done (tree, mid, gets, (is, same)) = record {
    files = ap (λ s. s.files) same ∙ gets.same.files;
    tree = on_files old.files (λ files. Gets digest (item_at files (tree_path store digest)) (Ok tree))
        (λ files. HasTreeFile store files digest) (λ files h. record { tree = tree; gets = h }) gets.answer;
  }

  one_refused : (digest : List ℕ) (old new : Seen) (refusal : VerifyFault)
      → checks_next store digest tt old (Err refusal) new → IfSome old.files
      (λ files. WhereDecided (verify_cause refusal) (HasTreeFile store files digest → ⊥))
  unfolding map_err checks_tree gets_tree yields ◌>>=◌
  one_refused digest old new refusal (fault, is, inl gets) =
      subst (λ (r : VerifyFault). IfSome old.files (λ files. WhereDecided (verify_cause r)
      (HasTreeFile store files digest → ⊥))) (sym is)
      (on_files old.files (λ files. Gets digest (item_at files (tree_path store digest)) (Err fault))
      (λ files. WhereDecided (verify_cause (Store fault)) (HasTreeFile store files digest → ⊥))
      (λ files h. where_map (tree_store.cause_of fault)
      ((tree : Node) → Gets digest (item_at files (tree_path store digest)) (Ok tree) → ⊥)
      (HasTreeFile store files digest → ⊥) (λ not has. not has.tree has.gets)
      (gets_not digest (item_at files (tree_path store digest)) fault h)) gets.answer)
  one_refused digest old new refusal (fault, is, inr (tree, mid, gets, h)) = absurd h

  all_checked : (digests : List (List ℕ)) (old new : Seen) (done : Unit {0})
      → for_each (checks_next store) digests tt old (Ok done) new → Checked digests old new
  unfolding for_each yields ◌>>=◌
  all_checked [] old new done h = record {
    files = ap (λ s. s.files) h.1;
    trees = always old.files
        (λ files. AllByRecursion (HasTreeFile store files) []) (λ files. tt);
  }
  all_checked (digest ∷ digests) old new done (first, mid, h, k) =
      let one = one_checked digest old mid first h in
      let rest = all_checked digests mid new done k in
      record {
        files = rest.files ∙ one.files;
        trees = both old.files (λ files. HasTreeFile store files digest)
            (λ files. AllByRecursion (HasTreeFile store files) digests)
            (λ files. AllByRecursion (HasTreeFile store files) (digest ∷ digests)) (λ files a b. (a, b)) one.tree
            (subst (λ (o : Option Tree). IfSome o (λ files. AllByRecursion (HasTreeFile store files) digests))
            one.files rest.trees);
      }

  all_refused : (digests : List (List ℕ)) (old new : Seen) (refusal : VerifyFault)
      → for_each (checks_next store) digests tt old (Err refusal) new
      → IfSome old.files (λ files. WhereDecided (verify_cause refusal)
      (AllByRecursion (HasTreeFile store files) digests → ⊥))
  unfolding for_each yields ◌>>=◌
  all_refused [] old new refusal h = absurd h
  all_refused (digest ∷ digests) old new refusal (inl h) =
      on_files old.files (λ files. WhereDecided (verify_cause refusal) (HasTreeFile store files digest → ⊥))
      (λ files. WhereDecided (verify_cause refusal)
      (AllByRecursion (HasTreeFile store files) (digest ∷ digests) → ⊥))
      (λ files not. where_map (verify_cause refusal) (HasTreeFile store files digest → ⊥)
      (AllByRecursion (HasTreeFile store files) (digest ∷ digests) → ⊥) (λ lacks all. lacks all.0) not)
      (one_refused digest old new refusal h)
  all_refused (digest ∷ digests) old new refusal (inr (first, mid, h, k)) =
      let one = one_checked digest old mid first h in
      on_files old.files (λ files. WhereDecided (verify_cause refusal)
      (AllByRecursion (HasTreeFile store files) digests → ⊥))
      (λ files. WhereDecided (verify_cause refusal)
      (AllByRecursion (HasTreeFile store files) (digest ∷ digests) → ⊥))
      (λ files not. where_map (verify_cause refusal) (AllByRecursion (HasTreeFile store files) digests → ⊥)
      (AllByRecursion (HasTreeFile store files) (digest ∷ digests) → ⊥) (λ lacks all. lacks all.1) not)
      (subst (λ (o : Option Tree). IfSome o (λ files. WhereDecided (verify_cause refusal)
      (AllByRecursion (HasTreeFile store files) digests → ⊥))) one.files
      (all_refused digests mid new refusal k))

  -- ---- an image

  trees_are : (image : ImageDoc) (digests : List (List ℕ)) (found : Result (List (List ℕ)) VerifyFault)
      → found ≡ Ok (trees_of_rows image) → found ≡ Ok digests → digests ≡ trees_of_rows image
  trees_are image digests found e f = cc

  same_image : (one other : ImageDoc) (found : Result ImageDoc ImageFault) → found ≡ Ok one → found ≡ Ok other
      → one ≡ other
  same_image one other found e f = cc

  module _ (name : List ℕ) where
    whole : (image : ImageDoc) (digests : List (List ℕ)) (count : ℕ) (o : Option Tree)
        → digests ≡ trees_of_rows image → count ≡ length digests
        → IfSome o (λ files. image_at store name files ≡ Ok image)
        → IfSome o (λ files. AllByRecursion (HasTreeFile store files) digests)
        → IfSome o (λ files. IsWhole store name files count)
    whole image digests count o is counted read trees =
        both o (λ files. image_at store name files ≡ Ok image)
        (λ files. AllByRecursion (HasTreeFile store files) digests) (λ files. IsWhole store name files count)
        (λ files r t. record {
          image = image;
          read = r;
          trees = subst
              (AllByRecursion (HasTreeFile store files)) is t;
          counted = counted ∙ ap length is;
        }) read trees

    not_whole : (image : ImageDoc) (digests : List (List ℕ)) (fault : VerifyFault) (o : Option Tree)
        → digests ≡ trees_of_rows image
        → IfSome o (λ files. image_at store name files ≡ Ok image)
        → IfSome o (λ files. WhereDecided (verify_cause fault)
        (AllByRecursion (HasTreeFile store files) digests → ⊥)) → VerifiesExactly store name o (Err fault)
    not_whole image digests fault o is read lacks =
        both o (λ files. image_at store name files ≡ Ok image)
        (λ files. WhereDecided (verify_cause fault) (AllByRecursion (HasTreeFile store files) digests → ⊥))
        (λ files. WhereDecided (verify_cause fault) ((count : ℕ) → IsWhole store name files count → ⊥))
        (λ files r not. where_map (verify_cause fault) (AllByRecursion (HasTreeFile store files) digests → ⊥)
        ((count : ℕ) → IsWhole store name files count → ⊥)
        (λ no count has. no (subst (AllByRecursion (HasTreeFile store files))
        (ap trees_of_rows (same_image has.image image (image_at store name files) has.read r) ∙ sym is)
        has.trees)) not) read lacks

    not_read : (why : ImageFault) (fault : VerifyFault) (o : Option Tree) → fault ≡ of_image_fault why
        → IfSome o (λ files. IsAnswer {A = ImageDoc} image_files.cause_of (Err why) (image_at store name files))
        → VerifiesExactly store name o (Err fault)
    not_read why fault o is answer =
        subst (λ (f : VerifyFault). VerifiesExactly store name o (Err f)) (sym is)
        (on_files o (λ files. IsAnswer {A = ImageDoc} image_files.cause_of (Err why) (image_at store name files))
        (λ files. WhereDecided (verify_cause (of_image_fault why))
        ((count : ℕ) → IsWhole store name files count → ⊥))
        (λ files h. subst (λ cause. WhereDecided cause ((count : ℕ) → IsWhole store name files count → ⊥))
        (sym (image_cause why))
        (where_map (image_files.cause_of why) (image_at store name files ≡ Err why)
        ((count : ℕ) → IsWhole store name files count → ⊥)
        (λ e count has. no_value has.image (image_at store name files) has.read e) h)) answer)
      where
        no_value : (image : ImageDoc) (found : Result ImageDoc ImageFault) → found ≡ Ok image → found ≡ Err why → ⊥
        no_value image found e f = absurd (let no : Ok image ≡ Err why = sym e ∙ f in cc)

    pub verified_so : (old new : Seen) (result : Result ℕ VerifyFault) → verifies store name old result new
        → VerifiesExactly store name old.files result
    unfolding verifies checks_image checks_all map_err reads_image reads gives yields ◌>>=◌
    verified_so old new (Ok count) (
      image,
      mid,
      read,
      (digests, still, (unmoved, given, cause), (done, after, checked, (is, same))),
    ) =
        let start : still.files ≡ old.files = ap (λ s. s.files) unmoved ∙ read.same.files in
        whole image digests count old.files (trees_are image digests (Ok (trees_of_rows image)) refl given) is
        read.answer
        (subst (λ (o : Option Tree). IfSome o (λ files. AllByRecursion (HasTreeFile store files) digests)) start
        (all_checked digests still after done checked).trees)
    verified_so old new (Err fault) (inl (why, is, read)) = not_read why fault old.files is read.answer
    verified_so old new (Err fault) (inr (image, mid, read, inl (unmoved, given, cause))) =
        always old.files (λ files. WhereDecided (verify_cause fault)
        ((count : ℕ) → IsWhole store name files count → ⊥))
        (λ files. where_map (verify_cause fault) (Ok (trees_of_rows image) ≡ Err fault)
        ((count : ℕ) → IsWhole store name files count → ⊥) (λ e. absurd (cc)) given)
    verified_so old new (Err fault) (inr (
      image,
      mid,
      read,
      inr
          (digests, still, (unmoved, given, cause), inl checked),
    )) =
        let start : still.files ≡ old.files = ap (λ s. s.files) unmoved ∙ read.same.files in
        not_whole image digests fault old.files (trees_are image digests (Ok (trees_of_rows image)) refl given)
        read.answer
        (subst (λ (o : Option Tree). IfSome o (λ files. WhereDecided (verify_cause fault)
        (AllByRecursion (HasTreeFile store files) digests → ⊥))) start
        (all_refused digests still new fault checked))
    verified_so old new (Err fault) (inr (
      image,
      mid,
      read,
      inr
          (digests, still, given, inr (done, after, checked, h)),
    )) = absurd h

text_is : (name text : List ℕ) (count : ℕ) (given : Result (List ℕ) VerifyFault)
    → given ≡ Ok (verified_text name count) → given ≡ Ok text → text ≡ verified_text name count
text_is name text count given e f = cc

-- the same of the command, which makes a text besides
pub command_verifies : (words : VerifyWords) (old new : Seen) (result : Result (List ℕ) VerifyFault)
    → verifies_command words old result new → VerifiesPrinted words.store words.image old.files result
unfolding verifies_command gives ◌>>=◌
command_verifies words old new (Ok text) (count, mid, verified, (unmoved, given, cause)) = (
  count,
  text_is words.image text count (Ok (verified_text words.image count)) refl given,
  verified_so words.store words.image old mid (Ok count) verified,
)
command_verifies words old new (Err fault) (inl refused) = verified_so words.store words.image old new (Err fault)
    refused
command_verifies words old new (Err fault) (inr (count, mid, verified, (unmoved, given, cause))) =
    always old.files (λ files. WhereDecided (verify_cause fault)
    ((many : ℕ) → IsWhole words.store words.image files many → ⊥))
    (λ files. where_map (verify_cause fault) (Ok (verified_text words.image count) ≡ Err fault)
    ((many : ℕ) → IsWhole words.store words.image files many → ⊥) (λ e. absurd (cc)) given)
