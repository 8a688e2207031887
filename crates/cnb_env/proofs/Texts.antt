-- What is UTF-8, as a test.
use Rattle.std.proofs.Common.{◌≡◌, ℕ, true, false, List, length, arith}
use Rattle.std.proofs.lemmas.Bool.Decides.{nat_tests}
use Rattle.std.proofs.lemmas.Str.{utf8_valid_len-IsUtf8, utf8_valid_len-IsValidUpTo}
use Rattle.std.specs.Str.{IsUtf8, IsValidUpTo}
use Rattle.std.specs.Str.Lossy.{utf8_valid_len}
use Rattle.cnb_env.specs.Contents.{is_utf8}

pub is_text : (bytes : List ℕ) → IsUtf8 bytes → is_utf8 bytes ≡ true
is_text bytes is = let e : utf8_valid_len bytes ≡ length bytes = utf8_valid_len-IsUtf8 bytes is
    in grind (arith, nat_tests)

pub is_no_text : (bytes : List ℕ) (n : ℕ) → IsValidUpTo bytes n → is_utf8 bytes ≡ false
is_no_text bytes n front = let e : utf8_valid_len bytes ≡ n = utf8_valid_len-IsValidUpTo bytes n front
    in let short = front.short in grind (arith, nat_tests)
