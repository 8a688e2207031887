-- Reading the bytes of a tree's file one field after another.
use Rattle.std.proofs.Common.{◌≡◌, ◌≤◌, ◌+◌, ◌-◌, ◌∙◌, ◌==◌, refl, sym, ap, subst, arith, ℕ, zero, suc, Bool, true}
use Rattle.std.proofs.Common.{false, not, ◌&&◌, List, [], ◌∷◌, ◌++◌, append_assoc, length, take, drop, length-append}
use Rattle.std.proofs.Common.{Option, Some, None}
use Rattle.std.specs.Prelude.{IfSome, IsTrue, is_some, nat_le, nat_lt}
use Rattle.std.specs.List.{list_all}
use Rattle.std.specs.Option.{option_map}
use Rattle.std.specs.Str.{bytes_eq, is_utf8}
use Rattle.std.proofs.Math.Seq.{drop-append_seam, drop-nil}
use Rattle.std.proofs.lemmas.Bool.{and_parts, and_from}
use Rattle.std.proofs.lemmas.List.{drop-take, length-take}
use Rattle.sha2.specs.Hashers.{Holds256}
use Rattle.sha2.specs.Sha256.{sha256}
use Rattle.sha2.specs.declared.Sha256.{Sha256}
use Rattle.cnb_world.specs.Calls.{MayMisuse}
use Rattle.cnb_world.specs.Path.{is_part, is_part_byte}
use Rattle.cnb_world.specs.Tree.{Tree, bytes_of, is_file}
use Rattle.cnb_world.specs.declared.world.Item.{Item}
use Rattle.tree_canon.specs.Names.{is_name, is_text, is_plain, is_dots}
use Rattle.tree_canon.specs.Spelling.{limit}
use Rattle.tree_store.specs.Ahead.{Ahead, IsAhead}
use Rattle.tree_store.specs.Origin.{OriginState, found_by, found_in, held_of}
use Rattle.tree_store.specs.Source.{Source}

-- ---- lists

drop_more : (n m : ℕ) (xs : List ℕ) → drop (n + m) xs ≡ drop m (drop n xs)
drop_more zero m xs = ap (λ n. drop n xs) (let e : 0 + m ≡ m = omega arith in e)
drop_more (suc n) m [] = ap (λ n. drop n []) (let e : suc n + m ≡ suc (n + m) = omega arith in e) ∙ sym (drop-nil m)
drop_more (suc n) m (x ∷ xs) = ap (λ n. drop n (x ∷ xs)) (let e : suc n + m ≡ suc (n + m) = omega arith in e)
    ∙ drop_more n m xs

take_own : (n : ℕ) (xs : List ℕ) → take (length (take n xs)) xs ≡ take n xs
take_own zero xs = refl
take_own (suc n) [] = refl
take_own (suc n) (x ∷ xs) = ap (λ l. x ∷ l) (take_own n xs)

take_first : (xs ys : List ℕ) → take (length xs) (xs ++ ys) ≡ xs
take_first [] ys = refl
take_first (x ∷ xs) ys = ap (λ l. x ∷ l) (take_first xs ys)

take_within : (n m : ℕ) (xs : List ℕ) → n ≤ m → take n (take m xs) ≡ take n xs
take_within zero m xs le = refl
take_within (suc n) zero xs le = absurd (omega arith)
take_within (suc n) (suc m) [] le = refl
take_within (suc n) (suc m) (x ∷ xs) le = ap (λ l. x ∷ l) (take_within n m xs (omega arith))

-- ---- a piece that is read

filled : (source after : Source) (found : Option Item) (bytes : List ℕ) → IsAhead source found bytes
    → after.digest ≡ source.digest → after.hasher ≡ source.hasher → after.at ≡ source.at → after.used ≡ 0
    → after.piece ≡ take 65536 (drop source.at (bytes_of found)) → IsAhead after found bytes
filled source after found bytes h digest hasher at used piece = record {
  file = h.file;
  few = subst (λ n. n + length bytes ≤ limit) (sym at) h.few;
  is = h.is ∙ ap (λ n. drop n (bytes_of found)) (sym at);
  held = ap (λ n. drop n after.piece) used ∙ whole ∙ ap (λ n. take (length after.piece - n) bytes) (sym used);
  taken = h.taken;
  hashed = subst (λ (s : Sha256). Holds256 s h.taken) (sym hasher) h.hashed;
  whole = h.whole ∙ sym digest;
}
  where
    first : after.piece ≡ take 65536 bytes
    first = piece ∙ ap (take 65536) (sym h.is)

    whole : after.piece ≡ take (length after.piece - 0) bytes
    whole = first ∙ sym (take_own 65536 bytes) ∙ ap (λ l. take (length l) bytes) (sym first)
        ∙ ap (λ n. take n bytes) (let e : length after.piece ≡ length after.piece - 0 = omega arith in e)

-- what is read is the same
pub found_same : (s s1 : OriginState) (digest : List ℕ) (files : Tree) → s1.path ≡ s.path
    → is_some s1.shelf ≡ is_some s.shelf → held_of s1.shelf ≡ held_of s.shelf
    → found_in s1 digest files ≡ found_in s digest files
found_same s s1 digest files path stands held =
    ap (λ v. found_by v s1.path (held_of s1.shelf) digest files) stands
    ∙ ap (λ p. found_by (is_some s.shelf) p (held_of s1.shelf) digest files) path
    ∙ ap (λ h. found_by (is_some s.shelf) s.path h digest files) held

pub ahead_filled : (source after : Source) (o o1 : Option Tree) (bytes piece : List ℕ) → o1 ≡ o
    → IfSome o (λ files. IsTrue (is_file (found_in source.origin source.digest files))
    → piece ≡ take 65536 (drop source.at (bytes_of (found_in source.origin source.digest files)))) → after.piece ≡ piece
    → after.origin.path ≡ source.origin.path → is_some after.origin.shelf ≡ is_some source.origin.shelf
    → held_of after.origin.shelf ≡ held_of source.origin.shelf → after.digest ≡ source.digest
    → after.hasher ≡ source.hasher
    → after.at ≡ source.at → after.used ≡ 0 → Ahead source o bytes → Ahead after o1 bytes
unfolding Ahead
ahead_filled source after None o1 bytes piece same read is path stands held digest hasher at used h = absurd h
ahead_filled source after (Some files) o1 bytes piece same read is path stands held digest hasher at used h = subst
    (λ x. Ahead after x bytes) (sym same)
    (subst (λ found. IsAhead after found bytes) (sym (ap (λ d. found_in after.origin d files) digest
    ∙ found_same source.origin after.origin source.digest files path stands held))
    (filled source after (found_in source.origin source.digest files) bytes h digest hasher at used (is ∙ read h.file)))

-- a piece has all the bytes that are wanted, where so many lie ahead
pub piece_long : (source : Source) (o : Option Tree) (piece bytes : List ℕ) (len : ℕ) → len ≤ 65536
    → len ≤ length bytes → IfSome o (λ files. IsTrue (is_file (found_in source.origin source.digest files))
    → piece ≡ take 65536
    (drop source.at (bytes_of (found_in source.origin source.digest files)))) → Ahead source o bytes
    → len ≤ length piece
unfolding Ahead
piece_long source None piece bytes len few long read h = absurd h
piece_long source (Some files) piece bytes len few long read h =
    let is : piece ≡ take 65536 bytes = read h.file ∙ ap (take 65536) (sym h.is) in
    omega (arith, ap length is, length-take 65536 bytes)

-- ---- a field that is cut off

taken : (source : Source) (found : Option Item) (field rest : List ℕ)
    → source.used + length field ≤ length source.piece → IsAhead source found (field ++ rest)
    → take (length field) (drop source.used source.piece) ≡ field
taken source found field rest held h =
    ap (take (length field)) h.held
    ∙ take_within (length field) (length source.piece - source.used) (field ++ rest) (omega arith)
    ∙ take_first field rest

pub ahead_taken : (source : Source) (o : Option Tree) (field rest : List ℕ) (len : ℕ) → length field ≡ len
    → source.used + len ≤ length source.piece → Ahead source o (field ++ rest)
    → take len (drop source.used source.piece) ≡ field
unfolding Ahead
ahead_taken source None field rest len is held h = absurd h
ahead_taken source (Some files) field rest len is held h = ap (λ n. take n (drop source.used source.piece))
    (sym is) ∙ taken source (found_in source.origin source.digest files) field rest (omega arith) h

moved : (source after : Source) (found : Option Item) (field rest : List ℕ)
    → source.used + length field ≤ length source.piece → IsAhead source found (field ++ rest)
    → after.digest ≡ source.digest → ((bytes : List ℕ) → Holds256 source.hasher bytes
    → Holds256 after.hasher (bytes ++ field)) → after.piece ≡ source.piece → after.at ≡ source.at + length field
    → after.used ≡ source.used + length field → IsAhead after found rest
moved source after found field rest held h digest hashes piece at used = record {
  file = h.file;
  few = omega (arith, h.few, at, length-append field rest);
  is = sym (drop-append_seam field rest) ∙ ap (drop (length field)) h.is
      ∙ sym (drop_more source.at (length field) (bytes_of found)) ∙ ap (λ n. drop n (bytes_of found)) (sym at);
  held = ap (λ p. drop after.used p) piece ∙ ap (λ n. drop n source.piece) used
      ∙ drop_more source.used (length field) source.piece ∙ ap (drop (length field)) h.held
      ∙ ap (λ n. drop (length field) (take n (field ++ rest)))
      (let e : length source.piece - source.used ≡ length field +
      (length source.piece - (source.used + length field)) = omega arith in e)
      ∙ drop-take (length field) (length source.piece - (source.used + length field)) (field ++ rest)
      ∙ ap (take (length source.piece - (source.used + length field))) (drop-append_seam field rest)
      ∙ ap (λ p. take (length p - (source.used + length field)) rest) (sym piece)
      ∙ ap (λ n. take (length after.piece - n) rest) (sym used);
  taken = h.taken ++ field;
  hashed = hashes h.taken h.hashed;
  whole = ap sha256 (append_assoc h.taken field rest) ∙ h.whole ∙ sym digest;
}

pub ahead_moved : (source after : Source) (o : Option Tree) (field rest : List ℕ) (len : ℕ)
    → length field ≡ len → source.used + len ≤ length source.piece → after.origin ≡ source.origin
    → after.digest ≡ source.digest → ((bytes : List ℕ) → Holds256 source.hasher bytes
    → Holds256 after.hasher (bytes ++ field)) → after.piece ≡ source.piece → after.at ≡ source.at + len
    → after.used ≡ source.used + len → Ahead source o (field ++ rest) → Ahead after o rest
unfolding Ahead
ahead_moved source after None field rest len is held same digest hashes piece at used h = absurd h
ahead_moved source after (Some files) field rest len is held same digest hashes piece at used h =
    subst (λ found. IsAhead after found rest)
    (sym (ap (λ d. found_in after.origin d files) digest ∙ ap (λ s. found_in s source.digest files) same))
    (moved source after (found_in source.origin source.digest files) field rest (omega arith) h digest hashes piece
    (at ∙ ap (λ n. source.at + n) (sym is)) (used ∙ ap (λ n. source.used + n) (sym is)))

-- no file is longer than the most that a spelling has
pub ahead_few : (source : Source) (o : Option Tree) (bytes : List ℕ) → Ahead source o bytes
    → source.at + length bytes ≤ limit
unfolding Ahead
ahead_few source None bytes h = absurd h
ahead_few source (Some files) bytes h = h.few

-- a call on the file is right, if one is made
pub read_right : (source : Source) (o : Option Tree) (bytes : List ℕ) (a b : ℕ) → Ahead source o bytes
    → MayMisuse (option_map (λ t. is_file (found_in source.origin source.digest t)) o) a b → b ≡ a
unfolding Ahead
read_right source None bytes a b h m = absurd h
read_right source (Some files) bytes a b h m = subst (λ v. MayMisuse (Some v) a b) h.file m

-- ---- names

pub name_part : (name : List ℕ) → is_name name ≡ true → is_part name ≡ true
name_part name h =
    and_from _ _ (and_from _ _ (and_from _ _ sizes
    (one name (and_parts (is_plain name) (not (is_dots name)) p.1).1))
    (two name (and_parts (is_plain name) (not (is_dots name)) p.1).1))
    (plain name (and_parts (is_plain name) (not (is_dots name)) p.1).0)
  where
    p : (is_text 255 name ≡ true) × ((is_plain name && not (is_dots name)) ≡ true)
    p = and_parts (is_text 255 name) (is_plain name && not (is_dots name)) h

    sizes : (nat_lt 0 (length name) && nat_le (length name) 255) ≡ true
    sizes = (and_parts (nat_lt 0 (length name) && nat_le (length name) 255) (is_utf8 name) p.0).0

    plain : (bytes : List ℕ) → is_plain bytes ≡ true → list_all is_part_byte bytes ≡ true
    plain [] h = refl
    plain (c ∷ cs) h = by (c == 0) (c == 47) (is_plain cs) (plain cs) h
      where
        by : (zero slash rest : Bool) → (rest ≡ true → list_all is_part_byte cs ≡ true)
            → ((not zero && not slash) && rest) ≡ true → ((not slash && not zero) && list_all is_part_byte cs)
            ≡ true
        by true slash rest later e = absurd (cc)
        by false true rest later e = absurd (cc)
        by false false rest later e = later e

    one : (bytes : List ℕ) → not (is_dots bytes) ≡ true → not (bytes_eq bytes (46 ∷ [])) ≡ true
    one [] h = refl
    one (a ∷ []) h = by (a == 46) h
      where
        by : (v : Bool) → not v ≡ true → not (v && true) ≡ true
        by true e = e
        by false e = refl
    one (a ∷ b ∷ rest) h = by (a == 46)
      where
        by : (v : Bool) → not (v && false) ≡ true
        by true = refl
        by false = refl

    two : (bytes : List ℕ) → not (is_dots bytes) ≡ true → not (bytes_eq bytes (46 ∷ 46 ∷ [])) ≡ true
    two [] h = refl
    two (a ∷ []) h = by (a == 46)
      where
        by : (v : Bool) → not (v && false) ≡ true
        by true = refl
        by false = refl
    two (a ∷ b ∷ []) h = by (a == 46) (b == 46) h
      where
        by : (v w : Bool) → not (v && w) ≡ true → not (v && (w && true)) ≡ true
        by true true e = e
        by true false e = refl
        by false w e = refl
    two (a ∷ b ∷ c ∷ rest) h = by (a == 46) (b == 46)
      where
        by : (v w : Bool) → not (v && (w && false)) ≡ true
        by true true = refl
        by true false = refl
        by false w = refl
