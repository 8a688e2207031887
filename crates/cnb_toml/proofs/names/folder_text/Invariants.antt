use Rattle.std.proofs.Common.{◌≡◌, take, string_bytes}
use Rattle.cnb_toml.specs.Names.{folder_of}
use Rattle.cnb_toml.proofs.names.folder_text.Given as goal

abbrev pub invariant-loop-byte : goal.invariant-loop-byte
invariant-loop-byte l = string_bytes l.folder ≡ folder_of (take l.byte-index l.byte-items)
