-- What the system says of a file.
use Rattle.std.specs.Prelude.{◌==◌, Bool, not, bit_and}
use Rattle.std.specs.Fs.{metadata_mode}
use Rattle.std.specs.declared.fs.Metadata.{Metadata}

-- someone may run it
abbrev pub may_run : Metadata → Bool
may_run found = not (bit_and (metadata_mode found) 0o111 == 0)
