-- Digests in documents, as 64 digits.
use Rattle.std.specs.Prelude.{ℕ, Bool, ◌&&◌, ◌==◌, nat_lt, List, [], length, Result, Ok, Err, if◌then◌else◌}
use Rattle.std.specs.List.{list_all}
use Rattle.hex.specs.Hex.{decode_of, encode_lower}
use Rattle.hex.specs.declared.error.FromHexError.{FromHexError}
use Rattle.toml.specs.Data.{Data, string}
use Rattle.cnb_toml.specs.declared.fault.DocFault.{DocFault}
use Rattle.cnb_toml.specs.declared.fault.DocFault.TheVariants.{Wrong}
use Rattle.cnb_toml.specs.Form.{Form, text_of}
use Rattle.cnb_toml.specs.Reading.{◌>>=◌}
use Rattle.tree_canon.specs.Digest.{is_digest_text}

abbrev pub decoded : Result (List ℕ) FromHexError → Result (List ℕ) DocFault
decoded (Ok bytes) = Ok bytes
decoded (Err error) = Err (Wrong [])

-- the bytes of a digest that a text writes
abbrev pub digest_in : List ℕ → Result (List ℕ) DocFault
digest_in text = if is_digest_text text then decoded (decode_of text) else Err (Wrong [])

abbrev pub digest_of : Form (List ℕ)
digest_of value = text_of value >>= digest_in

-- the bytes of a digest
abbrev pub is_digest : List ℕ → Bool
is_digest bytes = length bytes == 32 && list_all (λ byte. nat_lt byte 256) bytes

-- what is written of them
abbrev pub digest_data : List ℕ → Data
digest_data bytes = string (encode_lower bytes)
