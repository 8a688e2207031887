-- The bytes of a tree's file, piece by piece.
use Rattle.std.proofs.Common.{◌≡◌, ℕ, ◌+◌, ◌*◌, ◌<◌, ◌≤◌, ◌∙◌, Bool, true, false, List, [], ◌++◌, length, take, drop}
use Rattle.std.proofs.Common.{refl, sym, ap, subst, arith, Option, Some, None}
use Rattle.std.specs.Prelude.{IfSome, IsTrue}
use Rattle.std.specs.Option.{option_map}
use Rattle.std.proofs.Math.Seq.{take-add}
use Rattle.std.proofs.lemmas.List.{take_all, length-drop, length-take}
use Rattle.cnb_world.specs.Calls.{MayMisuse}
use Rattle.cnb_world.specs.Tree.{Tree, item_at, is_file, bytes_of}

-- ---- lists read in pieces

-- one piece more
pub piece_more : (xs ys : List ℕ) (at size : ℕ) → take at xs ≡ take at ys
    → take size (drop at xs) ≡ take size (drop at ys) → take (at + size) xs ≡ take (at + size) ys
piece_more xs ys at size before here = take-add at size xs ∙ ap (λ l. l ++ take size (drop at xs)) before
    ∙ ap (λ l. take at ys ++ l) here ∙ sym (take-add at size ys)

-- lists that are alike to behind the end of one are the same
pub same_to_end : (xs ys : List ℕ) (n : ℕ) → length ys < n → take n xs ≡ take n ys → xs ≡ ys
same_to_end xs ys n long same = sym (take_all n xs
    (omega (arith, length-take n xs, length-take n ys, ap length same))) ∙ same ∙ take_all n ys (omega arith)

pub next_number : (number : ℕ) → number * 65536 + 65536 ≡ (number + 1) * 65536
next_number number = omega arith

-- ---- what is told of a file

abbrev pub contents : Tree → List ℕ → List ℕ
contents files path = bytes_of (item_at files path)

-- so many pieces are all of a file
pub within_pieces : (o : Option Tree) (path : List ℕ) (len number : ℕ) → len < number * 65536
    → IfSome o (λ files. length (contents files path) ≤ len)
    → IfSome o (λ files. length (contents files path) ≤ number * 65536)
within_pieces None path len number less few = tt
within_pieces (Some files) path len number less few = omega (arith, less, few)

-- the last of them is a short one
pub last_piece : (o o1 : Option Tree) (path piece : List ℕ) (number : ℕ) → o1 ≡ o → length piece < 65536
    → IfSome o1 (λ files. piece ≡ take 65536 (drop (number * 65536) (contents files path)))
    → IfSome o (λ files. length (contents files path) ≤ (number + 1) * 65536)
last_piece None o1 path piece number same short read = tt
last_piece (Some files) o1 path piece number same short read =
    ends (contents files path) (subst (λ x. IfSome x
    (λ files. piece ≡ take 65536 (drop (number * 65536) (contents files path)))) same read)
  where
    ends : (bytes : List ℕ) → piece ≡ take 65536 (drop (number * 65536) bytes) → length bytes ≤ (number + 1) * 65536
    ends bytes is = omega (
      arith,
      short,
      ap length is,
      length-take 65536
          (drop (number * 65536) bytes),
      length-drop (number * 65536) bytes,
    )

-- ---- misuse

pub may_begin : (o : Option Bool) (a : ℕ) → MayMisuse o a a
may_begin None a = refl
may_begin (Some true) a = refl
may_begin (Some false) a = omega arith

pub may_more : (o : Option Bool) (a b c : ℕ) → MayMisuse o a b → MayMisuse o b c → MayMisuse o a c
may_more None a b c x y = y ∙ x
may_more (Some true) a b c x y = y ∙ x
may_more (Some false) a b c x y = omega (arith, x, y)

-- what is told of a piece is told of its slice
pub told_slice : (o : Option Tree) (path slice piece : List ℕ) (number : ℕ) → slice ≡ piece
    → IfSome o (λ files. piece ≡ take 65536 (drop (number * 65536) (contents files path)))
    → IfSome o (λ files. slice ≡ take 65536 (drop (number * 65536) (contents files path)))
told_slice o path slice piece number e h = subst
    (λ p. IfSome o (λ files. p ≡ take 65536 (drop (number * 65536) (contents files path)))) (sym e) h

-- some bytes were taken; where the file is told they are so many pieces of it
pub record Taken (o : Option Tree) (path : List ℕ) (number : ℕ) (Takes : List ℕ → Type 0) : Type 0 where
  pub bytes : List ℕ
  pub taken : Takes bytes
  pub told : IfSome o (λ files. bytes ≡ take (number * 65536) (contents files path))

pub none_taken : (o : Option Tree) (path : List ℕ) (Takes : List ℕ → Type 0) → Takes [] → Taken o path 0 Takes
none_taken o path Takes h = record { bytes = []; taken = h; told = by o }
  where
    by : (o : Option Tree) → IfSome o (λ files. [] ≡ take (0 * 65536) (contents files path))
    by None = tt
    by (Some files) = refl

-- more of a file's bytes were taken
pub taken_on : (o o1 : Option Tree) (path piece : List ℕ) (number : ℕ) (Before After : List ℕ → Type 0) → o1 ≡ o
    → Taken o path number Before → IfSome o1 (λ files. piece
    ≡ take 65536 (drop (number * 65536) (contents files path)))
    → ((bytes : List ℕ) → Before bytes → After (bytes ++ piece)) → Taken o path (number + 1) After
taken_on o o1 path piece number Before After same t read more = record
    { bytes = t.bytes ++ piece; taken = more t.bytes t.taken; told = by o same t.told }
  where
    by : (o : Option Tree) → o1 ≡ o → IfSome o (λ files. t.bytes ≡ take (number * 65536) (contents files path))
        → IfSome o (λ files. t.bytes ++ piece ≡ take ((number + 1) * 65536) (contents files path))
    by None same told = tt
    by (Some files) same told =
        ap (λ b. b ++ piece) told
        ∙ ap (λ p. take (number * 65536) (contents files path) ++ p)
        (subst (λ x. IfSome x (λ files. piece ≡ take 65536 (drop (number * 65536) (contents files path))))
        same read)
        ∙ sym (take-add (number * 65536) 65536 (contents files path))
        ∙ ap (λ n. take n (contents files path)) (next_number number)

-- a file stands at a path from which a piece was read
abbrev pub IsFileAfter : Option Tree → List ℕ → ℕ → Type 0
IsFileAfter o path number = IfSome o (λ files. 0 < number → IsTrue (is_file (item_at files path)))

pub no_file_yet : (o : Option Tree) (path : List ℕ) → IsFileAfter o path 0
no_file_yet None path = tt
no_file_yet (Some files) path = λ h. absurd (omega (arith, h))

pub file_read : (o o1 : Option Tree) (path : List ℕ) (number : ℕ) → o1 ≡ o
    → IfSome o1 (λ files. IsTrue (is_file (item_at files path))) → IsFileAfter o path number
file_read None o1 path number same h = tt
file_read (Some files) o1 path number same h = λ _. subst
    (λ x. IfSome x (λ files. IsTrue (is_file (item_at files path)))) same h

pub is_file_after : (o : Option Tree) (path : List ℕ) (number : ℕ) → 0 < number → IsFileAfter o path number
    → IfSome o (λ files. IsTrue (is_file (item_at files path)))
is_file_after None path number more h = tt
is_file_after (Some files) path number more h = h more

-- all bytes of a file were taken, where it is told
pub record TookAll (o : Option Tree) (path : List ℕ) (Takes : List ℕ → Type 0) : Type 0 where
  pub number : ℕ
  pub taken : Taken o path number Takes
  pub few : IfSome o (λ files. length (contents files path) ≤ number * 65536)
  pub file : IfSome o (λ files. IsTrue (is_file (item_at files path)))

-- the same, asked of files that are as before
pub may_go_on : (o o1 : Option Tree) (path : List ℕ) (a b c : ℕ) → o1 ≡ o
    → MayMisuse (option_map (λ t. is_file (item_at t path)) o) a b
    → MayMisuse (option_map (λ t. is_file (item_at t path)) o1) b c
    → MayMisuse (option_map (λ t. is_file (item_at t path)) o) a c
may_go_on o o1 path a b c same before m = may_more (option_map (λ t. is_file (item_at t path)) o) a b c before
    (subst (λ x. MayMisuse (option_map (λ t. is_file (item_at t path)) x) b c) same m)
