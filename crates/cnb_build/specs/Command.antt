-- What the command `build` does, in the order of its work (platform.md, "builder").
use Rattle.std.specs.Prelude.{ℕ, List, Result, Ok}
use Rattle.cnb_world.specs.declared.env.Variable.{Variable}
use Rattle.cnb_words.specs.declared.build.BuildWords.{BuildWords}
use Rattle.steps.specs.Outside.{Seen}
use Rattle.steps.specs.Steps.{◌>>=◌, gives, yields}
use Rattle.cnb_build.specs.declared.fault.BuildFault.{BuildFault}
use Rattle.cnb_build.specs.Builds.{builds}
use Rattle.cnb_build.specs.Given.{reads_given}
use Rattle.cnb_build.specs.Refusals.{cause_of}
use Rattle.cnb_build.specs.Report.{built_text}

-- The documents and files are read, the text is made, and the buildpacks are built.
unfoldable pub commands_build : BuildWords → List Variable → Seen → Result (List ℕ) BuildFault → Seen → Type 0
commands_build options env = do
  given ← reads_given options env
  text ← gives cause_of (Ok (built_text given.group))
  built ← builds given.frame given.plan given.group
  yields text
