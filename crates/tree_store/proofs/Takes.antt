-- Calls that take bytes, one after another, and what they lay.
use Rattle.std.proofs.Common.{◌≡◌, ◌≤◌, ◌<◌, ◌+◌, ◌-◌, ◌^◌, ◌∙◌, refl, sym, ap, subst, arith, ℕ, zero, suc, Bool, true}
use Rattle.std.proofs.Common.{false, if◌then◌else◌, List, [], ◌∷◌, ◌++◌, append_assoc, length, length-append, nat_eq}
use Rattle.std.proofs.Common.{codes, Option, Some, None, Result, Ok, Err}
use Rattle.std.specs.Prelude.{IfOk, IfSome, IsTrue, OnOk, is_ok}
use Rattle.std.specs.Int.{to_be_bytes, w16, w32, w64}
use Rattle.std.specs.List.{list_all}
use Rattle.std.specs.Option.{option_map}
use Rattle.std.proofs.lemmas.Bool.{and_from, and_parts, le-leb, lt-ltb}
use Rattle.std.proofs.lemmas.List.{append-nil}
use Rattle.sha2.specs.Hashers.{Holds256}
use Rattle.sha2.specs.declared.Sha256.{Sha256}
use Rattle.cnb_world.specs.Path.{is_part, joined}
use Rattle.cnb_world.specs.Tree.{IsTree, Tree, appended, folder_made, is_root}
use Rattle.cnb_world.specs.declared.world.FileFault.{FileFault}
use Rattle.steps.specs.Outside.{Seen}
use Rattle.tree_canon.specs.CutTree.{last_name}
use Rattle.tree_canon.specs.Fits.{entries_fit}
use Rattle.tree_canon.specs.Names.{follows, is_name, is_target}
use Rattle.tree_canon.specs.Rules.{first_byte}
use Rattle.tree_canon.specs.Spelling.{entries_bytes, entry_bytes, limit, magic, name_bytes, node_bytes}
use Rattle.tree_canon.specs.declared.node.Named.{Named}
use Rattle.tree_canon.specs.declared.node.Node.{Node}
use Rattle.tree_canon.specs.declared.node.Node.TheVariants.{Folder, File, Link}
use Rattle.tree_canon.proofs.Equations.{entry_bytes_is, fits_file, fits_folder, fits_link, node_bytes_file}
use Rattle.tree_canon.proofs.Equations.{node_bytes_folder, node_bytes_link}
use Rattle.tree_canon.proofs.LastNames.{last_from-push}
use Rattle.tree_store.specs.Ahead.{HasDigest}
use Rattle.tree_store.specs.Held.{LaysSome}
use Rattle.tree_store.specs.Laying.{entries_laid, entry_laid, file_laid, folder_laid, laid_under, node_laid}
use Rattle.tree_store.specs.Overlay.{parts_of, tree_laid}
use Rattle.tree_store.specs.Source.{Source}
use Rattle.tree_store.specs.Taking.{LaysTaken, Takes, TakesBytes, TakesContents, TakesEntries, TakesEntry, TakesFile}
use Rattle.tree_store.specs.Taking.{TakesFolder, TakesLink, TakesNode}
use Rattle.tree_store.specs.declared.fault.StoreFault.{StoreFault}
use Rattle.tree_store.proofs.Contents.{one_more}
use Rattle.tree_store.proofs.Fitting.{push_fits}
use Rattle.tree_store.proofs.Laid.{laid_entry, laid_file, laid_folder}
use Rattle.tree_store.proofs.Stored.{IsBegun, laid_ok}
use Rattle.tree_store.proofs.Ways.{when_ok}

-- ---- files

pub itself : (o : Option Tree) → o ≡ option_map (λ files. files) o
itself None = refl
itself (Some files) = refl

twice : (c1 c2 : Tree → Tree) (o : Option Tree)
    → option_map c2 (option_map c1 o) ≡ option_map (λ files. c2 (c1 files)) o
twice c1 c2 None = refl
twice c1 c2 (Some files) = refl

mapped : (c1 c2 : Tree → Tree) → ((files : Tree) → c1 files ≡ c2 files) → (o : Option Tree)
    → option_map c1 o ≡ option_map c2 o
mapped c1 c2 same None = refl
mapped c1 c2 same (Some files) = ap Some (same files)

-- ---- calls

-- some bytes are taken, and then others
pub takes_on : {first next : List ℕ} {c1 c2 : Tree → Tree} {s0 s1 s2 : Source} {a b d : Seen}
    → Takes first c1 s0 a s1 b → Takes next c2 s1 b s2 d → Takes (first ++ next) (λ files. c2 (c1 files)) s0 a s2 d
takes_on {first} {next} {c1} {c2} {s0} {s1} {s2} {a} {b} {d} one two = record {
  digest = two.digest ∙ one.digest;
  at = let e : s1.at ≡ s0.at + length first = one.at in
      let f : s2.at ≡ s1.at + length next = two.at in omega (arith, e, f, length-append first next);
  few = λ few. two.few (one.few few);
  hashed = λ taken holds. subst (Holds256 s2.hasher) (append_assoc taken first next)
      (two.hashed (taken ++ first) (one.hashed taken holds));
  files = two.files ∙ ap (option_map c2) one.files ∙ twice c1 c2 a.files;
}

-- the same bytes and the same change, told in another way
pub takes_as : {bytes other : List ℕ} {c1 c2 : Tree → Tree} {s0 s1 : Source} {a b : Seen}
    → bytes ≡ other → ((files : Tree) → c1 files ≡ c2 files) → Takes bytes c1 s0 a s1 b → Takes other c2 s0 a s1 b
takes_as {bytes} {other} {c1} {c2} {s0} {s1} {a} {b} same change h = record {
  digest = h.digest;
  at = subst (λ bytes. s1.at ≡ s0.at + length bytes) same h.at;
  few = h.few;
  hashed = λ taken holds. subst (λ bytes. Holds256 s1.hasher (taken ++ bytes)) same (h.hashed taken holds);
  files = h.files ∙ mapped c1 c2 change a.files;
}

pub takes_so : {bytes other : List ℕ} {change : Tree → Tree} {s0 s1 : Source} {a b : Seen}
    → bytes ≡ other → Takes bytes change s0 a s1 b → Takes other change s0 a s1 b
takes_so same h = takes_as same (λ files. refl) h

-- the files change, and no bytes are taken
pub takes_none : {change : Tree → Tree} {s : Source} {a b : Seen} → b.files ≡ option_map change a.files
    → Takes [] change s a s b
takes_none {change} {s} {a} {b} files = record {
  digest = refl;
  at = omega arith;
  few = λ few. few;
  hashed = λ taken holds. subst (Holds256 s.hasher) (sym (append-nil taken)) holds;
  files = files;
}

-- bytes are read, and then something else is done
pub takes_then : {first next : List ℕ} {change : Tree → Tree} {s0 s1 s2 : Source} {a b d : Seen}
    → TakesBytes first s0 a s1 b → Takes next change s1 b s2 d → Takes (first ++ next) change s0 a s2 d
takes_then one two = takes_on one two

-- a change first, and then bytes are taken
pub takes_after : {bytes : List ℕ} {c1 c2 : Tree → Tree} {s0 s1 s2 : Source} {a b d : Seen}
    → Takes [] c1 s0 a s1 b → Takes bytes c2 s1 b s2 d → Takes bytes (λ files. c2 (c1 files)) s0 a s2 d
takes_after one two = takes_on one two

-- bytes are held that come next
pub takes_filled : (s0 s1 : Source) (a b : Seen) → s1.digest ≡ s0.digest → s1.at ≡ s0.at → s1.hasher ≡ s0.hasher
    → b.files ≡ a.files → TakesBytes [] s0 a s1 b
takes_filled s0 s1 a b digest at hasher files = record {
  digest = digest;
  at = let e : s1.at ≡ s0.at = at in omega (arith, e);
  few = λ few. subst (λ n. n ≤ limit) (sym at) few;
  hashed = λ taken holds. subst (λ (h : Sha256). Holds256 h (taken ++ [])) (sym hasher)
      (subst (Holds256 s0.hasher) (sym (append-nil taken)) holds);
  files = files ∙ itself a.files;
}

-- some of the bytes that are held are taken
pub takes_cut : (bytes : List ℕ) (s0 s1 : Source) (a : Seen) → s1.digest ≡ s0.digest → s1.at ≡ s0.at + length bytes
    → s1.at ≤ limit → ((taken : List ℕ) → Holds256 s0.hasher taken → Holds256 s1.hasher (taken ++ bytes))
    → TakesBytes bytes s0 a s1 a
takes_cut bytes s0 s1 a digest at few hashed = record {
  digest = digest;
  at = at;
  few = λ before. few;
  hashed = hashed;
  files = itself a.files;
}

-- ---- results

pub ok_then : {A : Type 0} (P Q : A → Type 0) (result : Result A StoreFault) → ((v : A) → P v → Q v)
    → IfOk result P → IfOk result Q
ok_then P Q (Ok v) so h = so v h
ok_then P Q (Err fault) so h = tt

pub done_then : (P Q : Type 0) (result : Result (Unit {0}) StoreFault) → (P → Q) → OnOk result P → OnOk result Q
done_then P Q (Ok done) so h = so h
done_then P Q (Err fault) so h = tt

pub done_of : (P Q : Type 0) (answer : Result (Unit {0}) FileFault) (result : Result (Unit {0}) StoreFault)
    → OnOk result (IsTrue (is_ok answer)) → (P → Q) → OnOk answer P → OnOk result Q
done_of P Q answer (Ok done) ok so h = so (when_ok answer ok h)
done_of P Q answer (Err fault) ok so h = tt

-- ---- fields

pub one_byte : (field slice : List ℕ) (b : ℕ) → length field ≡ 1 → slice ≡ field → b ≡ first_byte slice
    → field ≡ b ∷ []
one_byte [] slice b one same is = absurd (omega arith)
one_byte (x ∷ []) slice b one same is = ap (λ y. y ∷ []) (sym (is ∙ ap first_byte same))
one_byte (x ∷ y ∷ ys) slice b one same is = absurd (omega arith)

pub text_bytes : (head slice text bytes : List ℕ) (size : ℕ) → length head ≡ 2 → slice ≡ head
    → (length slice ≡ 2 → to_be_bytes w16 size ≡ slice) → length bytes ≡ size → text ≡ bytes
    → head ++ bytes ≡ name_bytes text
text_bytes head slice text bytes size two same number long is =
    ap (λ h. h ++ bytes) (sym (number (ap length same ∙ two) ∙ same)) ∙ ap (λ n. to_be_bytes w16 n ++ bytes) (sym long)
    ∙ ap (λ t. to_be_bytes w16 (length t) ++ t) (sym is)

bit_is : (b : ℕ) → b ≤ 1 → (if nat_eq b 1 then 1 else 0) ≡ b
bit_is zero le = refl
bit_is (suc zero) le = refl
bit_is (suc (suc b)) le = absurd (omega (arith, le))

-- ---- a link

pub takes_link : (path target text : List ℕ) (s0 s1 : Source) (a b d : Seen) → is_target target ≡ true
    → TakesBytes (name_bytes target) s0 a s1 b → text ≡ target
    → d.files ≡ option_map (node_laid (Link text) path) b.files → TakesLink path s0 a s1 d
takes_link path target text s0 s1 a b d form read same files = record {
  target = target;
  form = form;
  takes = takes_as (append-nil (name_bytes target)) (λ files. ap (λ t. node_laid (Link t) path files) same)
      (takes_on read (takes_none files));
}

-- ---- a file

-- some of a file's bytes were taken, and so many are left
pub record ContentsTaken (exec : Bool) (path : List ℕ) (len left : ℕ) (s0 : Source) (a : Seen) (s1 : Source)
    (b : Seen) : Type 0 where
  pub written : List ℕ
  pub count : length written + left ≡ len
  pub takes : Takes written (file_laid exec written path) s0 a s1 b

pub contents_first : (exec : Bool) (path : List ℕ) (len : ℕ) (s : Source) (a b : Seen)
    → b.files ≡ option_map (node_laid (File exec []) path) a.files → ContentsTaken exec path len len s a s b
contents_first exec path len s a b files = record {
  written = [];
  count = omega arith;
  takes = takes_none (files ∙ mapped (node_laid (File exec []) path) (file_laid exec [] path)
      (laid_file exec [] path) a.files);
}

pub contents_next : (exec : Bool) (path : List ℕ) (len left size : ℕ) (piece slice : List ℕ) (s0 s1 s2 : Source)
    (a b c d : Seen) → ContentsTaken exec path len left s0 a s1 b → TakesBytes piece s1 b s2 c → length piece ≡ size
    → size ≤ left → slice ≡ piece → d.files ≡ option_map (appended path slice) c.files
    → ContentsTaken exec path len (left - size) s0 a s2 d
contents_next exec path len left size piece slice s0 s1 s2 a b c d h read long le same added = record {
  written = h.written ++ piece;
  count = let count : length h.written + left ≡ len = h.count in
      omega (arith, count, long, le, length-append h.written piece);
  takes = record {
    digest = both.digest;
    at = both.at;
    few = both.few;
    hashed = both.hashed;
    files = one_more exec h.written piece path a.files b.files c.files d.files h.takes.files read.files
        (added ∙ ap (λ p. option_map (appended path p) c.files) same);
  };
}
  where
    both : Takes (h.written ++ piece) (file_laid exec h.written path) s0 a s2 c
    both = takes_on h.takes read

pub contents_last : (exec : Bool) (path : List ℕ) (len left : ℕ) (s0 s1 : Source) (a b : Seen) → left ≡ 0
    → ContentsTaken exec path len left s0 a s1 b → TakesContents exec len path s0 a s1 b
contents_last exec path len left s0 s1 a b none h = record {
  bytes = h.written;
  count = let count : length h.written + left ≡ len = h.count in omega (arith, count, none);
  takes = takes_as refl (λ files. sym (laid_file exec h.written path files)) h.takes;
}

pub takes_file : (path head slice : List ℕ) (bit len : ℕ) (s0 s1 s2 s3 : Source) (a b c d : Seen) → bit ≤ 1
    → TakesBytes (bit ∷ []) s0 a s1 b → TakesBytes head s1 b s2 c → length head ≡ 8 → slice ≡ head
    → (length slice ≡ 8 → to_be_bytes w64 len ≡ slice) → TakesContents (nat_eq bit 1) len path s2 c s3 d
    → TakesFile path s0 a s3 d
takes_file path head slice bit len s0 s1 s2 s3 a b c d le first second eight same number h = record {
  exec = nat_eq bit 1;
  bytes = h.bytes;
  takes = takes_so
      (ap (λ n. n ∷ (head ++ h.bytes)) (sym (bit_is bit le))
      ∙ ap (λ l. (if nat_eq bit 1 then 1 else 0) ∷ (l ++ h.bytes)) (sym (number (ap length same ∙ eight) ∙ same)
      ∙ ap (to_be_bytes w64) (sym h.count)))
      (takes_then first (takes_then second h.takes));
}

-- ---- a node by its first byte

pub node_file : (path : List ℕ) (depth tag : ℕ) (s0 s1 s2 : Source) (a b d : Seen) → depth ≤ 64 → tag ≡ 70
    → TakesBytes (tag ∷ []) s0 a s1 b → TakesFile path s1 b s2 d
    → TakesNode depth (λ node. node_laid node path) s0 a s2 d
node_file path depth tag s0 s1 s2 a b d deep is first h = record {
  node = File h.exec h.bytes;
  fit = fits_file h.exec h.bytes depth ∙ le-leb depth 64 deep;
  takes = takes_so
      (ap (λ n. n ∷ ((if h.exec then 1 else 0) ∷ (to_be_bytes w64 (length h.bytes) ++ h.bytes))) is
      ∙ sym (node_bytes_file h.exec h.bytes)) (takes_then first h.takes);
}

pub node_link : (path : List ℕ) (depth tag : ℕ) (s0 s1 s2 : Source) (a b d : Seen) → depth ≤ 64 → tag ≡ 76
    → TakesBytes (tag ∷ []) s0 a s1 b → TakesLink path s1 b s2 d
    → TakesNode depth (λ node. node_laid node path) s0 a s2 d
node_link path depth tag s0 s1 s2 a b d deep is first h = record {
  node = Link h.target;
  fit = fits_link h.target depth ∙ and_from _ _ (le-leb depth 64 deep) h.form;
  takes = takes_so (ap (λ n. n ∷ name_bytes h.target) is ∙ sym (node_bytes_link h.target)) (takes_then first h.takes);
}

pub node_folder : (path : List ℕ) (depth tag : ℕ) (s0 s1 s2 : Source) (a b d : Seen) → tag ≡ 68
    → TakesBytes (tag ∷ []) s0 a s1 b → TakesFolder depth path s1 b s2 d
    → TakesNode depth (λ node. node_laid node path) s0 a s2 d
node_folder path depth tag s0 s1 s2 a b d is first h = record {
  node = Folder h.all;
  fit = h.fit;
  takes = takes_so (ap (λ n. n ∷ (to_be_bytes w32 (length h.all) ++ entries_bytes h.all)) is
      ∙ sym (node_bytes_folder h.all)) (takes_then first h.takes);
}

-- ---- a folder

pub takes_folder : (path head slice : List ℕ) (depth count : ℕ) (s0 s1 s2 : Source) (a b c d : Seen) → depth ≤ 64
    → count < 2 ^ 32 → TakesBytes head s0 a s1 b → length head ≡ 4 → slice ≡ head
    → (length slice ≡ 4 → to_be_bytes w32 count ≡ slice) → c.files ≡ option_map (folder_laid path) b.files
    → TakesEntries count (depth + 1) path s1 c s2 d → TakesFolder depth path s0 a s2 d
takes_folder path head slice depth count s0 s1 s2 a b c d deep few first four same number made h = record {
  all = h.all;
  fit = fits_folder h.all depth ∙ and_from _ _ (le-leb depth 64 deep) (and_from _ _
      (lt-ltb (length h.all) (2 ^ 32) (let number : length h.all ≡ count = h.number in omega (arith, number, few)))
      (ap (entries_fit None h.all) (let e : suc depth ≡ depth + 1 = omega arith in e) ∙ h.fit));
  takes = takes_as
      (ap (λ l. l ++ entries_bytes h.all) (sym (number (ap length same ∙ four) ∙ same)
      ∙ ap (to_be_bytes w32) (sym h.number))) (λ files. sym (laid_folder h.all path files))
      (takes_on first (takes_after (takes_none made) h.takes));
}

-- some entries were taken, and so many are left
pub record EntriesTaken (path : List ℕ) (depth count left : ℕ) (last : Option (List ℕ)) (s0 : Source) (a : Seen)
    (s1 : Source) (b : Seen) : Type 0 where
  pub all : List Named
  pub number : length all + left ≡ count
  pub last_is : last ≡ last_name all
  pub fit : entries_fit None all depth ≡ true
  pub takes : Takes (entries_bytes all) (entries_laid all path) s0 a s1 b

pub taken_first : (path : List ℕ) (depth count : ℕ) (s : Source) (a : Seen)
    → EntriesTaken path depth count count None s a s a
taken_first path depth count s a = record {
  all = [];
  number = omega arith;
  last_is = refl;
  fit = refl;
  takes = takes_none (itself a.files);
}

more_bytes : (all : List Named) (e : Named)
    → entries_bytes all ++ entry_bytes e ≡ entries_bytes (all ++ e ∷ [])
more_bytes [] e = sym (append-nil (entry_bytes e))
more_bytes (x ∷ xs) e = append_assoc (entry_bytes x) (entries_bytes xs) (entry_bytes e)
    ∙ ap (λ l. entry_bytes x ++ l) (more_bytes xs e)

more_laid : (all : List Named) (e : Named) (path : List ℕ) (files : Tree)
    → entry_laid e path (entries_laid all path files) ≡ entries_laid (all ++ e ∷ []) path files
more_laid [] e path files = refl
more_laid (x ∷ xs) e path files = more_laid xs e path (entry_laid x path files)

pub taken_next : (path : List ℕ) (depth count left : ℕ) (last : Option (List ℕ)) (name : List ℕ)
    (s0 s1 s2 : Source) (a b d : Seen) → 0 < left → EntriesTaken path depth count left last s0 a s1 b
    → TakesEntry last depth path name s1 b s2 d → EntriesTaken path depth count (left - 1) (Some name) s0 a s2 d
taken_next path depth count left last name s0 s1 s2 a b d some h one = record {
  all = h.all ++ e ∷ [];
  number = let number : length h.all + left ≡ count = h.number in
      omega (arith, number, some, length-append h.all (e ∷ []));
  last_is = sym (last_from-push None h.all e);
  fit = push_fits h.all name one.node depth h.fit forms.0
      (ap (λ l. follows l name) (sym h.last_is) ∙ forms.1) one.fit;
  takes = takes_as (more_bytes h.all e) (more_laid h.all e path) (takes_on h.takes one.takes);
}
  where
    e : Named
    e = record { name = name; node = one.node }

    forms : (is_name name ≡ true) × (follows last name ≡ true)
    forms = and_parts (is_name name) (follows last name) one.form

pub taken_last : (path : List ℕ) (depth count left : ℕ) (last : Option (List ℕ)) (s0 s1 : Source) (a b : Seen)
    → left ≡ 0 → EntriesTaken path depth count left last s0 a s1 b → TakesEntries count depth path s0 a s1 b
taken_last path depth count left last s0 s1 a b none h = record {
  all = h.all;
  number = let number : length h.all + left ≡ count = h.number in omega (arith, number, none);
  fit = h.fit;
  takes = h.takes;
}

pub takes_entry : (folder path name : List ℕ) (last : Option (List ℕ)) (depth : ℕ) (s0 s1 s2 : Source) (a b d : Seen)
    → is_name name ≡ true → follows last name ≡ true → path ≡ joined folder name
    → TakesBytes (name_bytes name) s0 a s1 b → TakesNode depth (λ node. node_laid node path) s1 b s2 d
    → TakesEntry last depth folder name s0 a s2 d
takes_entry folder path name last depth s0 s1 s2 a b d form behind is first h = record {
  node = h.node;
  form = and_from _ _ form behind;
  fit = h.fit;
  takes = takes_as (sym (entry_bytes_is e))
      (λ files. ap (λ p. node_laid h.node p files) is ∙ sym (laid_entry e folder files)) (takes_then first h.takes);
}
  where
    e : Named
    e = record { name = name; node = h.node }

-- ---- along the way to a place

pub takes_below : (folder : List ℕ) (depth : ℕ) (inner lay : Node → Tree → Tree) (s0 s1 : Source) (a b d : Seen)
    → b.files ≡ option_map (folder_laid folder) a.files
    → ((node : Node) (files : Tree) → inner node (folder_laid folder files) ≡ lay node files)
    → TakesNode depth inner s0 b s1 d → TakesNode depth lay s0 a s1 d
takes_below folder depth inner lay s0 s1 a b d made same h = record {
  node = h.node;
  fit = h.fit;
  takes = takes_as refl (same h.node) (takes_after (takes_none made) h.takes);
}

pub node_so : (depth : ℕ) (one lay : Node → Tree → Tree) (s0 s1 : Source) (a b : Seen)
    → ((node : Node) (files : Tree) → one node files ≡ lay node files)
    → TakesNode depth one s0 a s1 b → TakesNode depth lay s0 a s1 b
node_so depth one lay s0 s1 a b same h = record {
  node = h.node;
  fit = h.fit;
  takes = takes_as refl (same h.node) h.takes;
}

-- a tree at a place under a folder, which was made
pub takes_tree : (root place : List ℕ) (s0 s1 : Source) (a b d : Seen) → is_root root ≡ false
    → b.files ≡ option_map (folder_made root) a.files → IfSome a.files IsTree
    → IsTrue (list_all is_part (parts_of place))
    → TakesNode 0 (λ node. laid_under node (parts_of place) root) s0 b s1 d
    → TakesNode 0 (λ tree. tree_laid root place tree) s0 a s1 d
takes_tree root place s0 s1 a b d plain made tree names h = record {
  node = h.node;
  fit = h.fit;
  takes = record {
    digest = h.takes.digest;
    at = h.takes.at;
    few = h.takes.few;
    hashed = h.takes.hashed;
    files = laid_ok root place h.node a.files b.files d.files plain h.fit made tree names h.takes.files;
  };
}

-- ---- the digest of what was laid

pub laid_ended : (lay : Node → Tree → Tree) (s0 s1 : Source) (a b : Seen) (result : Result (Unit {0}) StoreFault)
    → ((bytes : List ℕ) → Holds256 s1.hasher bytes → HasDigest s1.digest bytes result)
    → TakesNode 0 lay s0 a s1 b → OnOk result (LaysTaken lay s0 a.files b.files)
laid_ended lay s0 s1 a b (Ok done) has h = record {
  tree = h.node;
  fit = h.fit;
  named = λ taken holds. has (taken ++ node_bytes h.node) (h.takes.hashed taken holds) ∙ h.takes.digest;
  few = λ few. subst (λ n. n ≤ limit) h.takes.at (h.takes.few few);
  files = h.takes.files;
}
laid_ended lay s0 s1 a b (Err fault) has h = tt

-- a tree whose reader was begun for a digest
pub laid_some : (root digest : List ℕ) (s : Source) (old new : Option Tree) → IsBegun s digest
    → LaysTaken (tree_laid root (codes "/")) s old new → LaysSome root digest old new
laid_some root digest s old new begun h = record {
  tree = h.tree;
  named = h.named magic begun.hashed ∙ begun.named;
  fit = h.fit;
  size = let few : s.at + length (node_bytes h.tree) ≤ limit = h.few (omega (arith, begun.at)) in
      omega (arith, few, begun.at, length-append magic (node_bytes h.tree));
  files = h.files;
}
