-- Digests, their digits, and the files of their trees.
use Rattle.std.proofs.Common.{◌≡◌, ◌∙◌, refl, sym, ap, arith, ℕ, zero, suc, ◌+◌, ◌<◌, ◌==◌, Bool, true, false, List, []}
use Rattle.std.proofs.Common.{◌∷◌, length, length-append, drop, slice_index, codes, Result, Ok}
use Rattle.std.specs.Prelude.{IsTrue, nat_lt}
use Rattle.std.specs.Int.{bytes_high_first, byte_at, to_be_bytes, w32}
use Rattle.std.specs.List.{list_all}
use Rattle.std.specs.Str.{IsAscii, IsUtf8, bytes_eq}
use Rattle.std.proofs.Math.Seq.{drop-append_seam}
use Rattle.std.proofs.lemmas.Bool.{and_from, and_parts, eq-eqb, eqb-true, lt-ltb, ltb-true}
use Rattle.std.proofs.lemmas.List.Folds.{list_all-append}
use Rattle.std.proofs.lemmas.Str.{IsUtf8-from_ascii}
use Rattle.std.proofs.lemmas.Str.Ascii.{IsAscii-cons, IsAscii-nil}
use Rattle.cnb_toml.specs.declared.fault.DocFault.{DocFault}
use Rattle.cnb_world.specs.Path.{beside, is_part, joined, parent_of}
use Rattle.cnb_world.specs.Tree.{is_root, is_within}
use Rattle.cnb_world.proofs.Folders.{not_longer, parent_shorter}
use Rattle.cnb_world.proofs.Trees.{bytes_eq-other}
use Rattle.hex.specs.Hex.{encode_lower}
use Rattle.image_docs.specs.DigestText.{digest_of, is_digest}
use Rattle.image_docs.specs.DigestTextLaws.{digest_read}
use Rattle.sha2.specs.Sha256.{digest_bytes, sha256}
use Rattle.sha2.proofs.Facts256.{length-sha256}
use Rattle.toml.specs.Data.{string}
use Rattle.tree_canon.specs.Digest.{is_digest_text, is_lower_digit}
use Rattle.tree_canon.proofs.DigestTexts.{lower_text}
use Rattle.tree_store.specs.Store.{tree_path}
use Rattle.tree_store.specs.Writing.{new_path, trees_of}
use Rattle.tree_store.proofs.Apart.{siblings_apart}
use Rattle.tree_store.proofs.Places.{child_not_root, joined_front, longer_child}
use Rattle.tree_store.proofs.StorePaths.{digest_part, digits}
use Rattle.store_laws.proofs.Texts.{path_text}

-- ---- the digest of any bytes

abbrev is_byte : ℕ → Bool
is_byte b = nat_lt b 256

high_first : (k n : ℕ) → list_all is_byte (bytes_high_first k n) ≡ true
high_first zero n = refl
high_first (suc k) n = and_from _ _ (lt-ltb (byte_at k n) 256 (one k)) (high_first k n)
  where
    one : (k : ℕ) → byte_at k n < 256
    one zero = omega arith
    one (suc k) = omega arith

bytes_fit : (h : List ℕ) (n : ℕ) → list_all is_byte (digest_bytes h n) ≡ true
unfolding digest_bytes
bytes_fit h zero = refl
bytes_fit h (suc n) = list_all-append is_byte (digest_bytes h n) (to_be_bytes w32 (slice_index h n))
    ∙ and_from _ _ (bytes_fit h n) (high_first 4 (slice_index h n))

hash_fits : (bytes : List ℕ) → list_all is_byte (sha256 bytes) ≡ true
unfolding sha256
hash_fits bytes = bytes_fit _ 8

pub hash_is : (bytes : List ℕ) → is_digest (sha256 bytes) ≡ true
hash_is bytes = and_from (length (sha256 bytes) == 32) (list_all is_byte (sha256 bytes))
    (eq-eqb (length (sha256 bytes)) 32 (length-sha256 bytes)) (hash_fits bytes)

-- ---- digits

each_fits : (xs : List ℕ) → list_all is_byte xs ≡ true → (i : ℕ) → slice_index xs i < 256
each_fits [] h i = omega arith
each_fits (x ∷ xs) h zero = ltb-true x 256 (and_parts (is_byte x) (list_all is_byte xs) h).0
each_fits (x ∷ xs) h (suc i) = each_fits xs (and_parts (is_byte x) (list_all is_byte xs) h).1 i

pub digits_text : (digest : List ℕ) → is_digest digest ≡ true → is_digest_text (encode_lower digest) ≡ true
digits_text digest h =
    let parts = and_parts (length digest == 32) (list_all is_byte digest) h in
    lower_text digest (eqb-true (length digest) 32 parts.0) (each_fits digest parts.1)

pub digits_long : (digest : List ℕ) → is_digest digest ≡ true → length (encode_lower digest) ≡ 64
digits_long digest h = (digits (encode_lower digest) (digits_text digest h)).0

pub digits_part : (digest : List ℕ) → is_digest digest ≡ true → IsTrue (is_part (encode_lower digest))
digits_part digest h = digest_part (encode_lower digest) (encode_lower digest) refl (digits_text digest h)

small : (c : ℕ) → is_lower_digit c ≡ true → c < 128
small c h = grind (arith)

all_ascii : (text : List ℕ) → list_all is_lower_digit text ≡ true → IsAscii text
all_ascii [] h = IsAscii-nil
all_ascii (c ∷ cs) h =
    let parts = and_parts (is_lower_digit c) (list_all is_lower_digit cs) h in
    IsAscii-cons c cs (small c parts.0) (all_ascii cs parts.1)

digits_utf8 : (digest : List ℕ) → is_digest digest ≡ true → IsUtf8 (encode_lower digest)
digits_utf8 digest h = IsUtf8-from_ascii (encode_lower digest) (all_ascii (encode_lower digest)
    (and_parts (length (encode_lower digest) == 64) (list_all is_lower_digit (encode_lower digest))
    (digits_text digest h)).1)

-- a digest has its digits alone
pub same_digits : (one other : List ℕ) → is_digest one ≡ true → is_digest other ≡ true
    → encode_lower one ≡ encode_lower other → one ≡ other
same_digits one other a b same =
    let both : ◌≡◌ {A = Result (List ℕ) DocFault} (Ok one) (Ok other) = sym (digest_read one a)
    ∙ ap (λ text. digest_of (string text)) same ∙ digest_read other b in
    by one other both
  where
    by : (one other : List ℕ) → ◌≡◌ {A = Result (List ℕ) DocFault} (Ok one) (Ok other) → one ≡ other
    by one other e = cc

-- ---- the file of a digest's tree

pub trees_utf8 : (store : List ℕ) → IsUtf8 store → IsUtf8 (trees_of store)
trees_utf8 store text = path_text store (codes "trees") text (IsUtf8-from_ascii (codes "trees") name_small)
  where
    all_small : (xs : List ℕ) → list_all (λ b. nat_lt b 128) xs ≡ true → IsAscii xs
    all_small [] h = IsAscii-nil
    all_small (x ∷ xs) h =
        let parts = and_parts (nat_lt x 128) (list_all (λ b. nat_lt b 128) xs) h in
        IsAscii-cons x xs (ltb-true x 128 parts.0) (all_small xs parts.1)

    name_small : IsAscii (codes "trees")
    name_small = all_small (codes "trees") refl

pub path_utf8 : (store digest : List ℕ) → IsUtf8 store → is_digest digest ≡ true → IsUtf8 (tree_path store digest)
path_utf8 store digest text h = path_text (trees_of store) (encode_lower digest) (trees_utf8 store text)
    (digits_utf8 digest h)

module _ (store : List ℕ) where
  -- all such paths are of one length
  path_long : (digest : List ℕ) → is_digest digest ≡ true
      → length (tree_path store digest) ≡ length (joined (trees_of store) []) + 64
  path_long digest h = ap length (joined_front (trees_of store) (encode_lower digest))
      ∙ length-append (joined (trees_of store) []) (encode_lower digest)
      ∙ ap (λ n. length (joined (trees_of store) []) + n) (digits_long digest h)

  pub trees_shorter : (digest : List ℕ) → is_digest digest ≡ true
      → length (trees_of store) < length (tree_path store digest)
  trees_shorter digest h = longer_child (trees_of store) (encode_lower digest)
      (let long : length (encode_lower digest) ≡ 64 = digits_long digest h in omega arith)

  -- so a path is no shorter one, and no longer one
  pub not_shorter : (digest other : List ℕ) → is_digest digest ≡ true → is_digest other ≡ true
      → length (parent_of (tree_path store other)) < length (tree_path store digest)
  not_shorter digest other h k =
      let one = path_long digest h in
      let two = path_long other k in
      let less = parent_shorter (tree_path store other) (omega (arith, two)) in
      omega (arith, one, two, less)

  pub not_beside : (digest other : List ℕ) → is_digest digest ≡ true → is_digest other ≡ true
      → bytes_eq (tree_path store digest) (beside (tree_path store other)) ≡ false
  not_beside digest other h k = bytes_eq-other (tree_path store digest) (beside (tree_path store other))
      (λ same. let e : length (tree_path store digest) ≡ length (beside (tree_path store other)) = ap length same in
      let one = path_long digest h in
      let two = path_long other k in
      let more : length (beside (tree_path store other)) ≡ length (tree_path store other) + 4
      = length-append (tree_path store other) (46 ∷ 110 ∷ 101 ∷ 119 ∷ []) in
      omega (arith, e, one, two, more))

  pub not_new : (digest : List ℕ) → is_digest digest ≡ true
      → bytes_eq (tree_path store digest) (new_path store) ≡ false
  not_new digest h = not_longer (tree_path store digest) (new_path store)
      (let one = path_long digest h in
      let two : length (new_path store) ≡ length (joined (trees_of store) []) + 3
      = ap length (joined_front (trees_of store) (codes "new"))
      ∙ length-append (joined (trees_of store) []) (codes "new") in
      omega (arith, one, two))

  pub not_in_new : (digest : List ℕ) → is_digest digest ≡ true
      → is_within (new_path store) (tree_path store digest) ≡ false
  not_in_new digest h = (siblings_apart (trees_of store) (encode_lower digest) (codes "new") (digits_part digest h) refl
      (λ same. let e : length (encode_lower digest) ≡ 3 = ap length same in
      let long = digits_long digest h in omega (arith, e, long))).outside

  pub not_root : (digest : List ℕ) → is_digest digest ≡ true → is_root (tree_path store digest) ≡ false
  not_root digest h = child_not_root (trees_of store) (encode_lower digest)
      (let long : length (encode_lower digest) ≡ 64 = digits_long digest h in omega arith)

  -- a path is that of one digest
  pub same_digest_path : (one other : List ℕ) → is_digest one ≡ true → is_digest other ≡ true
      → tree_path store one ≡ tree_path store other → one ≡ other
  same_digest_path one other a b same = same_digits one other a b
      (sym (drop-append_seam (joined (trees_of store) []) (encode_lower one))
      ∙ ap (drop (length (joined (trees_of store) [])))
      (sym (joined_front (trees_of store) (encode_lower one)) ∙ same
      ∙ joined_front (trees_of store) (encode_lower other))
      ∙ drop-append_seam (joined (trees_of store) []) (encode_lower other))
