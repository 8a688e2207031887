-- What an error of the system comes to.
use Rattle.std.specs.Prelude.{Bool, true, false}
use Rattle.std.specs.declared.io.ErrorKind.{ErrorKind}
use Rattle.std.specs.declared.io.ErrorKind.TheVariants.{NotADirectory, NotFound}

-- nothing stands at the path
abbrev pub is_absence : ErrorKind → Bool
is_absence NotFound = true
is_absence NotADirectory = true
is_absence _ = false
