-- A file whose bytes are read and written piece by piece.
use Rattle.std.proofs.Common.{◌≡◌, ◌≤◌, ◌-◌, ◌∙◌, refl, sym, ap, subst, arith, ℕ, Bool, true, false, cond, List, []}
use Rattle.std.proofs.Common.{◌∷◌, ◌++◌, append_assoc, length, take, drop, Option, Some, None, Result, Ok, Err}
use Rattle.std.specs.Prelude.{IfErr, IfSome, IsTrue, OnOk, is_ok}
use Rattle.std.specs.Option.{option_map}
use Rattle.std.specs.FinMap.{get}
use Rattle.std.proofs.lemmas.List.{append-nil, length-take, length-drop, take-append-drop}
use Rattle.cnb_world.specs.Calls.{CountsMisuse}
use Rattle.cnb_world.specs.Tree.{Tree, appended, can_read, is_file, is_root, is_within, item_at, without}
use Rattle.cnb_world.specs.declared.world.FileFault.{FileFault}
use Rattle.cnb_world.specs.declared.world.Item.TheVariants as item
use Rattle.cnb_world.proofs.Trees.{get-insert_same}
use Rattle.steps.specs.Outside.{Seen}
use Rattle.tree_canon.specs.declared.node.Node.TheVariants.{File}
use Rattle.tree_store.specs.Ahead.{Did, Lays, Reading}
use Rattle.tree_store.specs.Answers.{is_free}
use Rattle.tree_store.specs.Around.{LeavesAround}
use Rattle.tree_store.specs.Laying.{file_laid, node_laid}
use Rattle.tree_store.specs.Right.{way_to}
use Rattle.tree_store.specs.declared.fault.StoreFault.{StoreFault}
use Rattle.tree_store.specs.Source.{Source}
use Rattle.tree_store.proofs.Ahead.{ahead_kept, lays_as, none_are}
use Rattle.tree_store.proofs.Laid.{laid_file}
use Rattle.tree_store.proofs.Pieces.{appended-set}
use Rattle.tree_store.proofs.Right.{right}
use Rattle.tree_store.proofs.Ways.{when_ok}

-- so many bytes of a file are left, and the others were laid
pub record ContentsLeft (exec : Bool) (path bytes rest : List ℕ) (left : ℕ) (s0 : Source) (a : Seen)
    (s1 : Source) (b : Seen) : Type 0 where
  pub written : List ℕ
  pub more : List ℕ
  pub is : bytes ≡ written ++ more
  pub count : length more ≡ left
  pub lays : Lays (bytes ++ rest) (more ++ rest) (file_laid exec written path) (way_to path) [] s0 a (Ok tt) s1 b

pub contents_begun : (exec : Bool) (path bytes rest : List ℕ) (s0 s1 : Source) (a b : Seen)
    → Lays (bytes ++ rest) (bytes ++ rest) (node_laid (File exec []) path) (way_to path) [] s0 a (Ok tt) s1 b
    → ContentsLeft exec path bytes rest (length bytes) s0 a s1 b
contents_begun exec path bytes rest s0 s1 a b h = record {
  written = [];
  more = bytes;
  is = refl;
  count = refl;
  lays = lays_as
      (λ files. laid_file exec [] path files) h;
}

stands : (exec : Bool) (bytes path : List ℕ) (files : Tree) → is_root path ≡ false
    → is_file (item_at (file_laid exec bytes path files) path) ≡ true
stands exec bytes path files plain =
    ap (λ v. is_file (cond v (Some item.Folder) (get (file_laid exec bytes path files) path))) plain
    ∙ ap is_file (get-insert_same (without path files) path (item.File exec bytes))

one_right : (exec : Bool) (written path : List ℕ) (o o1 : Option Tree) (result : Result (Unit {0}) FileFault)
    (a b : ℕ) → is_root path ≡ false → o1 ≡ option_map (file_laid exec written path) o
    → CountsMisuse (option_map (λ t. can_read t path) o1) result a b → b ≡ a
one_right exec written path o o1 result a b plain is counts = right (λ t. can_read t path) o1 result a b
    (by o is) counts
  where
    by : (o : Option Tree) → o1 ≡ option_map (file_laid exec written path) o
        → IfSome o1 (λ files. IsTrue (can_read files path))
    by None e = subst (λ x. IfSome x (λ files. IsTrue (can_read files path))) (sym e) tt
    by (Some files) e = subst (λ x. IfSome x (λ files. IsTrue (can_read files path))) (sym e)
        (stands exec written path files plain)

pub one_more : (exec : Bool) (written piece path : List ℕ) (o a b c : Option Tree)
    → a ≡ option_map (file_laid exec written path) o → b ≡ option_map (λ files. files) a
    → c ≡ option_map (appended path piece) b → c ≡ option_map (file_laid exec (written ++ piece) path) o
one_more exec written piece path None a b c e f g = g ∙ ap (option_map (appended path piece))
    (f ∙ ap (option_map (λ files. files)) e)
one_more exec written piece path (Some files) a b c e f g = g
    ∙ ap (option_map (appended path piece)) (f ∙ ap (option_map (λ files. files)) e)
    ∙ ap Some (appended-set path written piece exec (without path files))

-- one more piece is read and added to the file
pub piece_laid : (exec : Bool) (path whole written field more rest : List ℕ) (ways : List (List ℕ))
    (s0 s1 s2 : Source) (a b c d : Seen) (piece value : List ℕ) (answer : Result (Unit {0}) FileFault)
    (result : Result (Unit {0}) StoreFault)
    → is_root path ≡ false → is_within path s2.origin.path ≡ false
    → Lays whole (field ++ (more ++ rest)) (file_laid exec written path) ways [] s0 a (Ok tt) s1 b
    → Reading (λ read. read ≡ field) (field ++ (more ++ rest)) (more ++ rest) [] s1 b (Ok value) s2 c
    → piece ≡ value → OnOk answer (d.files ≡ option_map (appended path piece) c.files)
    → OnOk result (IsTrue (is_ok answer)) → IfErr result (λ fault. IsTrue (is_free fault))
    → LeavesAround path c d → CountsMisuse (option_map (λ t. can_read t path) c.files) answer c.misused
    d.misused
    → Lays whole (more ++ rest) (file_laid exec (written ++ field) path) ways [] s0 a result s2 d
piece_laid exec path whole written field more rest ways s0 s1 s2 a b c d piece value answer result plain apart
    first read is added ok free kept counts = record { so = λ ahead are. by (first.so ahead are) }
  where
    same : (o o1 : Option Tree) → o1 ≡ option_map (λ files. files) o → o1 ≡ o
    same None o1 e = e
    same (Some files) o1 e = e

    calm : Did (λ done. Unit {0}) (field ++ (more ++ rest)) (file_laid exec written path) [] a (Ok (tt {0})) s1 b
        → Did (λ read. read ≡ field) (more ++ rest) (λ files. files) [] b (Ok value) s2 c → d.misused ≡ a.misused
    calm one two = one_right exec written path a.files c.files answer c.misused d.misused plain
        (same b.files c.files two.files ∙ one.files) counts ∙ two.right ∙ one.right

    both : (r : Result (Unit {0}) StoreFault) → OnOk r (IsTrue (is_ok answer))
        → IfErr r (λ fault. IsTrue (is_free fault)) → Did (λ done. Unit {0}) (field ++ (more ++ rest))
        (file_laid exec written path) [] a (Ok (tt {0})) s1 b → Did (λ read. read ≡ field) (more ++ rest)
        (λ files. files) [] b (Ok value) s2 c
        → Did (λ done. Unit {0}) (more ++ rest) (file_laid exec (written ++ field) path) [] a r s2 d
    both (Ok done) ok free one two = record {
      value = tt;
      files = one_more exec written field path a.files b.files c.files d.files one.files two.files
          (when_ok answer ok added ∙ ap (λ p. option_map (appended path p) c.files) (is ∙ two.value));
      ahead = ahead_kept s2 path (more ++ rest) c.files d.files apart kept.files two.ahead;
      folders = none_are d.files;
      free = tt;
      right = calm one two;
    }
    both (Err fault) ok free one two = record {
      value = tt;
      files = tt;
      ahead = tt;
      folders = tt;
      free = free;
      right = calm one two;
    }

    by : Did (λ done. Unit {0}) (field ++ (more ++ rest)) (file_laid exec written path) [] a (Ok (tt {0})) s1 b
        → Did (λ done. Unit {0}) (more ++ rest) (file_laid exec (written ++ field) path) [] a result s2 d
    by one = both result ok free one (read.so one.ahead one.folders)

split : (bytes rest : List ℕ) (size : ℕ) → bytes ++ rest ≡ take size bytes ++ (drop size bytes ++ rest)
split bytes rest size = ap (λ b. b ++ rest) (sym (take-append-drop size bytes))
    ∙ append_assoc (take size bytes) (drop size bytes) rest

-- what the next piece is read from
pub piece_ahead : (exec : Bool) (path bytes rest : List ℕ) (left size : ℕ) (s0 s1 : Source) (a b : Seen)
    → (h : ContentsLeft exec path bytes rest left s0 a s1 b)
    → Lays (bytes ++ rest) (take size h.more ++ (drop size h.more ++ rest)) (file_laid exec h.written path)
    (way_to path) [] s0 a (Ok tt) s1 b
piece_ahead exec path bytes rest left size s0 s1 a b h = subst
    (λ mid. Lays (bytes ++ rest) mid (file_laid exec h.written path) (way_to path) [] s0 a (Ok tt) s1 b)
    (split h.more rest size) h.lays

pub piece_size : (more : List ℕ) (left size : ℕ) → length more ≡ left → size ≤ left → length (take size more) ≡ size
piece_size more left size is le = omega (arith, length-take size more)

pub contents_more : (exec : Bool) (path bytes rest : List ℕ) (left size : ℕ) (s0 s1 s2 : Source) (a b d : Seen)
    → (h : ContentsLeft exec path bytes rest left s0 a s1 b) → size ≤ left
    → Lays (bytes ++ rest) (drop size h.more ++ rest) (file_laid exec (h.written ++ take size h.more) path)
    (way_to path) [] s0 a (Ok tt) s2 d → ContentsLeft exec path bytes rest (left - size) s0 a s2 d
contents_more exec path bytes rest left size s0 s1 s2 a b d h le laid = record {
  written = h.written ++ take size h.more;
  more = drop size h.more;
  is = h.is ∙ ap (λ m. h.written ++ m) (sym (take-append-drop size h.more))
      ∙ sym (append_assoc h.written (take size h.more) (drop size h.more));
  count = let count : length h.more ≡ left = h.count in omega (arith, count, length-drop size h.more);
  lays = laid;
}

-- all were laid
pub contents_done : (exec : Bool) (path bytes rest : List ℕ) (left : ℕ) (s0 s1 : Source) (a b : Seen)
    → left ≡ 0 → ContentsLeft exec path bytes rest left s0 a s1 b
    → Lays (bytes ++ rest) rest (node_laid (File exec bytes) path) (way_to path) [] s0 a (Ok tt) s1 b
contents_done exec path bytes rest left s0 s1 a b none h = lays_as
    (λ files. ap (λ w. file_laid exec w path files) whole ∙ sym (laid_file exec bytes path files))
    (subst (λ m. Lays (bytes ++ rest) (m ++ rest) (file_laid exec h.written path) (way_to path) [] s0 a
    (Ok tt) s1 b) (nothing h.more (h.count ∙ none)) h.lays)
  where
    nothing : (more : List ℕ) → length more ≡ 0 → more ≡ []
    nothing [] e = refl
    nothing (x ∷ xs) e = absurd (omega arith)

    whole : h.written ≡ bytes
    whole = sym (append-nil h.written) ∙ ap (λ m. h.written ++ m) (sym (nothing h.more (h.count ∙ none))) ∙ sym h.is
