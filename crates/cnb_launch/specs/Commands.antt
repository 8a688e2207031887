-- What the commands `unpack` and `launch` do.
use Rattle.std.specs.Prelude.{ℕ, ℤ, ◌++◌, List, codes, Option, Result, Ok}
use Rattle.cnb_world.specs.declared.env.Variable.{Variable}
use Rattle.cnb_words.specs.declared.launch.LaunchWords.{LaunchWords}
use Rattle.cnb_words.specs.declared.unpack.UnpackWords.{UnpackWords}
use Rattle.steps.specs.Outside.{Seen}
use Rattle.steps.specs.Steps.{◌>>=◌, gives, yields}
use Rattle.cnb_launch.specs.Faults.{cause_of}
use Rattle.cnb_launch.specs.Planning.{launches}
use Rattle.cnb_launch.specs.Unpacking.{unpacks}
use Rattle.cnb_launch.specs.declared.fault.LaunchFault.{LaunchFault}

-- what is printed of an image that was laid out
abbrev pub unpacked_text : List ℕ → List ℕ
unpacked_text image = codes "unpacked " ++ image ++ codes "\n"

-- the text is made before anything is laid
unfoldable pub unpacks_command : UnpackWords → Seen → Result (List ℕ) LaunchFault → Seen → Type 0
unpacks_command options = do
  text ← gives cause_of (Ok (unpacked_text options.image))
  done ← unpacks options.store options.image options.root
  yields text

-- how the child of the launch ended
unfoldable pub launches_command : LaunchWords → List Variable → Seen → Result (Option ℤ) LaunchFault → Seen → Type 0
launches_command options env = do
  end ← launches options.root options.call env
  yields end.code
