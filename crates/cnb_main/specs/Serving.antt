-- The exit status of the program is that of the command.
use Rattle.std.specs.Prelude.{ℕ, ◌≡◌, List, Option, Err, length}
use Rattle.std.specs.List.{range_with_len}
use Rattle.cnb_lifecycle.specs.Commands.{On, after_words, asked_of, command_in, does, refusal_of}
use Rattle.cnb_lifecycle.specs.Ends.{Ends, status_code}
use Rattle.cnb_lifecycle.specs.Faults.{cause_of}
use Rattle.cnb_lifecycle.specs.declared.status.Status.{Status}
use Rattle.cnb_create.specs.Surroundings.{surroundings}
use Rattle.cnb_world.specs.declared.env.Variable.{Variable}
use Rattle.shelf_set.specs.Caches.{caches_of}
use Rattle.shelf_set.specs.ShelfState.{ShelfState}
use Rattle.steps.specs.Outside.{Outside}
use Rattle.steps.specs.Steps.{gives}

-- The command that these words ask for did its steps over the outside and over so many caches, or the words were
-- refused; what the sink took and the exit status are those of its end.
pub record Serves (words : List (List ℕ)) (env : List Variable) (count : ℕ) (old new : Outside)
    (taken_old taken_new : Option (List ℕ)) (code : ℕ) : Type 0 where
  pub caches_old : List ShelfState
  pub caches_new : List ShelfState
  pub many : length caches_old ≡ count
  pub standing : List ℕ
  pub all : standing ≡ range_with_len 0 count
  pub status : Status
  pub coded : code ≡ status_code status
  pub does : On (asked_of (command_in words env))
      (λ asked. Ends (after_words (does asked env)) (surroundings old (caches_of caches_old standing)) new
      caches_new status taken_old taken_new)
  pub refused : On (refusal_of (command_in words env))
      (λ refusal. Ends (gives cause_of (Err refusal)) (surroundings old (caches_of caches_old standing)) new
      caches_new status taken_old taken_new)
