-- The programs in `exec.d`, one after another (buildpack.md, "exec.d").
use Rattle.std.specs.Prelude.{ℕ, true, List, [], if◌then◌else◌, Option, Some, None, Result, Ok, Err}
use Rattle.cnb_world.specs.Runs.{is_code}
use Rattle.cnb_world.specs.declared.child.ChildJob.{ChildJob}
use Rattle.cnb_world.specs.declared.child.End.{End}
use Rattle.cnb_world.specs.declared.env.Variable.{Variable}
use Rattle.steps.specs.Each.{for_each}
use Rattle.steps.specs.Outside.{Seen}
use Rattle.steps.specs.Steps.{◌>>=◌, gives, runs_child}
use Rattle.cnb_launch.specs.Faults.{cause_of}
use Rattle.cnb_launch.specs.Output.{with_output}
use Rattle.cnb_launch.specs.declared.fault.LaunchFault.{LaunchFault}
use Rattle.cnb_launch.specs.declared.fault.LaunchFault.TheVariants.{BadExecOutput, ExecFailed}

-- a program runs without arguments in the application's folder
abbrev pub exec_job : List ℕ → List ℕ → List Variable → ChildJob
exec_job dir path env = record { program = path; args = []; env = env; dir = dir; side = true }

abbrev pub or_bad : List ℕ → Option (List Variable) → Result (List Variable) LaunchFault
or_bad path (Some env) = Ok env
or_bad path None = Err (BadExecOutput path)

-- the environment behind a program that ended so
abbrev pub after_exec : List ℕ → List Variable → End → Result (List Variable) LaunchFault
after_exec path env end = if is_code 0 end.code then or_bad path (with_output end.side env) else Err
    (ExecFailed path end.code)

unfoldable pub runs_exec : List ℕ → List ℕ → List Variable → Seen → Result (List Variable) LaunchFault → Seen → Type 0
runs_exec dir path env = do
  end ← runs_child cause_of (exec_job dir path env)
  gives cause_of (after_exec path env end)

-- those of one folder, each with what those before it put out
abbrev pub runs_execs : List ℕ → List (List ℕ) → List Variable → Seen → Result (List Variable) LaunchFault → Seen
    → Type 0
runs_execs dir = for_each (runs_exec dir)

-- those of one folder after another
abbrev pub runs_all : List ℕ → List (List (List ℕ)) → List Variable → Seen → Result (List Variable) LaunchFault
    → Seen → Type 0
runs_all dir = for_each (runs_execs dir)
