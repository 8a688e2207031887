-- Folders of a store that may be absent, as steps that read them.
use Rattle.std.specs.Prelude.{ℕ, Bool, true, false, List, [], Result, Ok, is_some}
use Rattle.cnb_world.specs.Tree.{can_list, is_file, item_at}
use Rattle.doc_files.specs.Reading.{names_at}
use Rattle.steps.specs.Causes.{Only}
use Rattle.steps.specs.Outside.{Seen}
use Rattle.steps.specs.Results.{with_fault}
use Rattle.steps.specs.Steps.{◌>>=◌, reads, yields}
use Rattle.store_prune.specs.Faults.{cause_of, of_read_fault}
use Rattle.store_prune.specs.declared.fault.PruneFault.{PruneFault}

-- whether a regular file stands at a path
unfoldable pub looks_for_file : List ℕ → Seen → Result Bool PruneFault → Seen → Type 0
looks_for_file path = reads cause_of (Only path) (λ files. true) (λ files. Ok (is_file (item_at files path)))

-- whether anything stands there
unfoldable pub looks_for : List ℕ → Seen → Result Bool PruneFault → Seen → Type 0
looks_for path = reads cause_of (Only path) (λ files. true) (λ files. Ok (is_some (item_at files path)))

-- the names in what stands there; what is no folder can't be listed
unfoldable pub lists_where : List ℕ → Bool → Seen → Result (List (List ℕ)) PruneFault → Seen → Type 0
lists_where folder true = reads cause_of (Only folder) (λ files. can_list files folder)
    (λ files. with_fault of_read_fault (names_at files folder))
lists_where folder false = yields []

-- the names in a folder, ascending; none where nothing stands there
unfoldable pub lists : List ℕ → Seen → Result (List (List ℕ)) PruneFault → Seen → Type 0
lists folder = do
  there ← looks_for folder
  lists_where folder there
