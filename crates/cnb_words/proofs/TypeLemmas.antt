-- Process types are ASCII.
use Rattle.std.proofs.Common.{◌≡◌, ◌∙◌, Bor, ◌<◌, ap, arith, cond, lit<, sym, ℕ, true, Some, None, subst, Result, Ok}
use Rattle.std.proofs.Common.{Err, List, [], ◌∷◌, zero, suc}
use Rattle.std.proofs.lemmas.Bool.Decides.{nat_tests}
use Rattle.std.proofs.lemmas.Str.{IsUtf8-from_ascii}
use Rattle.std.specs.List.{list_all}
use Rattle.std.specs.Option.{option_copied}
use Rattle.std.specs.Prelude.{MatchResult}
use Rattle.std.specs.Result.{result_ok}
use Rattle.std.specs.Str.{IsAscii, IsUtf8}
use Rattle.cnb_toml.specs.Names.{is_process_type, is_type_byte}
use Rattle.cnb_words.specs.Program.{is_process_path, last_part, process_type}

type_byte : (byte : ℕ) → is_type_byte byte ≡ true → byte < 128
type_byte byte h = grind (arith, nat_tests)

ascii_bytes : (name : List ℕ) → list_all is_type_byte name ≡ true → IsAscii name
ascii_bytes [] h i = lit< tt
ascii_bytes (byte ∷ name) h zero = type_byte byte (grind (arith, nat_tests))
ascii_bytes (byte ∷ name) h (suc i) = ascii_bytes name (grind (arith, nat_tests)) i

type_is_text : (name : List ℕ) → is_process_type name ≡ true → IsUtf8 name
type_is_text name h = let all : list_all is_type_byte name ≡ true = grind (arith, nat_tests)
    in IsUtf8-from_ascii name (ascii_bytes name all)

-- the last part of a process's path is a text
pub type_in : {E : Type 0} (Q : E → Type 0) (path bytes : List ℕ) (read : Result (Bor (List ℕ)) E)
    → is_process_path path ≡ true → bytes ≡ last_part path
    → MatchResult read (λ text. (text.now ≡ bytes) × IsUtf8 bytes) (λ fault. (¬ IsUtf8 bytes) × Q fault)
    → option_copied (result_ok read) ≡ process_type path
type_in Q path bytes (Ok text) is part h = ap Some (h.0 ∙ part) ∙ ap (λ b. cond b (Some (last_part path)) None) (sym is)
type_in Q path bytes (Err fault) is part h =
    let kind : is_process_type (last_part path) ≡ true = grind (arith, nat_tests) in
    absurd (h.0 (subst IsUtf8 (sym part) (type_is_text (last_part path) kind)))
