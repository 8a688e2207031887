-- The name of a plan's file is fit to be a part of a path.
use Rattle.std.proofs.Common.{◌≡◌, ◌∙◌, sym, ap, refl, ℕ, ◌+◌, ◌<◌, ◌≤◌, ◌==◌, nat_lt, nat_le, true, false, not, IsTrue}
use Rattle.std.proofs.Common.{List, [], ◌∷◌, ◌++◌, length, codes, arith, Result, Ok, Err, length-append, append-nil}
use Rattle.std.specs.Prelude.{◌&&◌}
use Rattle.std.specs.Fmt.{decimal}
use Rattle.std.specs.List.{list_all}
use Rattle.std.specs.Str.{bytes_eq}
use Rattle.std.proofs.lemmas.Bool.{and_parts}
use Rattle.std.proofs.lemmas.Bool.Decides.{nat_tests}
use Rattle.std.proofs.lemmas.Fmt.{length-decimal-le}
use Rattle.std.proofs.lemmas.List.{length-map}
use Rattle.std.proofs.lemmas.List.Folds.{list_all-append}
use Rattle.semver.specs.Parse.{Parts, version_parts}
use Rattle.semver.specs.Grammar.{IsValid}
use Rattle.semver.specs.Identifiers.{parts_text}
use Rattle.semver.specs.declared.error.Error.{Error}
use Rattle.semver.proofs.Grammar.{version_parts-sound}
use Rattle.cnb_world.specs.Path.{beside, is_part, is_part_byte}
use Rattle.cnb_toml.specs.declared.names.Key.{Key}
use Rattle.cnb_toml.specs.Names.{is_bp_id, is_id_byte, is_reserved, is_release, is_bp_version, folder_of, folder_byte}
use Rattle.cnb_env.specs.Buildpack.{plan_name_of}

abbrev numbers : ℕ → ℕ → ℕ → List ℕ
numbers a b c = decimal a ++ (46 ∷ (decimal b ++ (46 ∷ decimal c)))

none_left : (text : List ℕ) → (length text == 0) ≡ true → text ≡ []
none_left [] none = refl
none_left (b ∷ text) none = absurd (grind (arith, nat_tests))

release_short : (text : List ℕ) (parts : Parts) → (parts_text parts ≡ text) × IsValid parts
    → IsTrue (is_release (Ok parts)) → length text ≤ 62
release_short text parts (same, valid) is =
    let (pre, build) = and_parts (length parts.3 == 0) (length parts.4 == 0) is in
    let read : numbers parts.0 parts.1 parts.2 ≡ parts_text parts = rw
    (none_left parts.3 pre, none_left parts.4 build, append-nil) refl in
    let a = length-decimal-le 20 parts.0 (omega arith) (omega arith) valid.0 in
    let b = length-decimal-le 20 parts.1 (omega arith) (omega arith) valid.1 in
    let c = length-decimal-le 20 parts.2 (omega arith) (omega arith) valid.2 in
    let whole : length text ≡ length (numbers parts.0 parts.1 parts.2) = ap length (sym (read ∙ same)) in
    omega (
      arith,
      length-append (decimal parts.0) (46 ∷ (decimal parts.1 ++ (46 ∷ decimal parts.2))),
      length-append (decimal parts.1) (46 ∷ decimal parts.2),
    )

read_short : (text : List ℕ) (read : Result Parts Error) → version_parts text ≡ read → IsTrue (is_release read)
    → length text ≤ 62
read_short text (Ok parts) same is = release_short text parts (version_parts-sound text parts same) is
read_short text (Err error) same is = absurd (cc is)

version_short : (text : List ℕ) → IsTrue (is_bp_version text) → length text ≤ 62
version_short text is = read_short text (version_parts text) refl is

folder_short : (id : List ℕ) → IsTrue (is_bp_id id) → length (folder_of id) ≤ 128
folder_short id is =
    let (most, named) = and_parts (nat_lt 0 (length id) && nat_le (length id) 128 && list_all is_id_byte id)
    (not (is_reserved id)) is in
    let (sized, bytes) = and_parts (nat_lt 0 (length id) && nat_le (length id) 128) (list_all is_id_byte id) most in
    let (some, few) = and_parts (nat_lt 0 (length id)) (nat_le (length id) 128) sized in
    let same : length (folder_of id) ≡ length id = length-map id folder_byte in
    let short : length id ≤ 128 = grind (arith, nat_tests) in
    omega arith

pub part_bytes : (name : List ℕ) → IsTrue (is_part name) → list_all is_part_byte name ≡ true
part_bytes name h =
    (and_parts (nat_lt 0 (length name) && nat_le (length name) 255 && not (bytes_eq name (46 ∷ []))
    && not (bytes_eq name (46 ∷ 46 ∷ []))) (list_all is_part_byte name) h).1

not_dot : (text : List ℕ) → 2 < length text → bytes_eq text (46 ∷ []) ≡ false
not_dot [] long = absurd (omega arith)
not_dot (a ∷ []) long = absurd (omega arith)
not_dot (a ∷ b ∷ []) long = absurd (omega arith)
not_dot (a ∷ b ∷ c ∷ text) long = grind (arith, nat_tests)

not_dots : (text : List ℕ) → 2 < length text → bytes_eq text (46 ∷ 46 ∷ []) ≡ false
not_dots [] long = absurd (omega arith)
not_dots (a ∷ []) long = absurd (omega arith)
not_dots (a ∷ b ∷ []) long = absurd (omega arith)
not_dots (a ∷ b ∷ c ∷ text) long = grind (arith, nat_tests)

pub long_part : (text : List ℕ) → 2 < length text → length text ≤ 255 → list_all is_part_byte text ≡ true
    → IsTrue (is_part text)
long_part text long short bytes =
    let some : nat_lt 0 (length text) ≡ true = grind (arith, nat_tests) in
    let few : nat_le (length text) 255 ≡ true = grind (arith, nat_tests) in
    rw (some, few, not_dot text long, not_dots text long, bytes) refl

named_length : (folder version : List ℕ) → length (folder ++ codes "@" ++ version ++ codes ".toml")
    ≡ length folder + length version + 6
named_length folder version =
    omega (
      arith,
      length-append (folder ++ codes "@" ++ version) (codes ".toml"),
      length-append
          (folder ++ codes "@") version,
      length-append folder (codes "@"),
    )

named_bytes : (folder version : List ℕ) → list_all is_part_byte folder ≡ true
    → list_all is_part_byte version ≡ true → list_all is_part_byte
    (folder ++ codes "@" ++ version ++ codes ".toml") ≡ true
named_bytes folder version a b =
    rw (
      list_all-append is_part_byte (folder ++ codes "@" ++ version)
          (codes ".toml"),
      list_all-append is_part_byte (folder ++ codes "@") version,
      list_all-append is_part_byte
          folder (codes "@"),
      a,
      b,
    ) refl

pub plan_name_is_part : (key : Key) → IsTrue (is_bp_id key.id) → IsTrue (is_bp_version key.version)
    → IsTrue (is_part (folder_of key.id)) → IsTrue (is_part key.version) → IsTrue (is_part (plan_name_of key))
plan_name_is_part key id version folder_part version_part =
    let folder = folder_of key.id in
    let whole = named_length folder key.version in
    let a : length folder ≤ 128 = folder_short key.id id in
    let b : length key.version ≤ 62 = version_short key.version version in
    long_part (plan_name_of key) (omega arith) (omega arith)
    (named_bytes folder key.version (part_bytes folder folder_part) (part_bytes key.version version_part))

-- and so is the name beside it
pub plan_beside_is_part : (key : Key) → IsTrue (is_bp_id key.id) → IsTrue (is_bp_version key.version)
    → IsTrue (is_part (folder_of key.id)) → IsTrue (is_part key.version)
    → IsTrue (is_part (beside (plan_name_of key)))
plan_beside_is_part key id version folder_part version_part =
    let folder = folder_of key.id in
    let whole = named_length folder key.version in
    let a : length folder ≤ 128 = folder_short key.id id in
    let b : length key.version ≤ 62 = version_short key.version version in
    let longer : length (beside (plan_name_of key)) ≡ length (plan_name_of key) + 4 = length-append
    (plan_name_of key) (46 ∷ 110 ∷ 101 ∷ 119 ∷ []) in
    let named = named_bytes folder key.version (part_bytes folder folder_part) (part_bytes key.version version_part) in
    let bytes : list_all is_part_byte (beside (plan_name_of key))
    ≡ true = list_all-append is_part_byte (plan_name_of key) (46 ∷ 110 ∷ 101 ∷ 119 ∷ [])
    ∙ ap (λ b. b && true) named in
    long_part (beside (plan_name_of key)) (omega arith) (omega arith) bytes

pub plan_name_long : (key : Key) → 1 < length (plan_name_of key)
plan_name_long key = omega (arith, named_length (folder_of key.id) key.version)
