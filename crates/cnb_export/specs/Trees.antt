-- The trees above the layers: those of the application, the launcher's, and the links of the process types.
use Rattle.std.specs.Prelude.{ℕ, ◌++◌, List, [], ◌∷◌, Option, Some, None, Result, Ok, Err, if◌then◌else◌}
use Rattle.app_slices.specs.Slices.{slices_of}
use Rattle.app_slices.specs.Slots.{Slices}
use Rattle.cnb_toml.specs.declared.process.Process.{Process}
use Rattle.cnb_world.specs.declared.limits.LimitKind.TheVariants.{Tree as TreeLimit}
use Rattle.steps.specs.Each.{for_each}
use Rattle.steps.specs.Outside.{Seen}
use Rattle.steps.specs.Steps.{◌>>=◌, gives, map_err, yields}
use Rattle.tree_canon.specs.Fits.{is_tree}
use Rattle.tree_canon.specs.declared.node.Node.{Node}
use Rattle.tree_store.specs.Steps.{puts_folder, puts_tree, reads_tree}
use Rattle.tree_store.specs.declared.fault.StoreFault.TheVariants.{Limit}
use Rattle.cnb_export.specs.declared.exported.Digests.{Digests}
use Rattle.cnb_layers.specs.declared.frame.ExportFrame.{ExportFrame}
use Rattle.cnb_layers.specs.declared.fault.ExportFault.{ExportFault}
use Rattle.cnb_layers.specs.declared.fault.ExportFault.TheVariants.{Store}
use Rattle.cnb_export.specs.Ascending.{last_of_each, process_key}
use Rattle.cnb_export.specs.Processes.{links_of}
use Rattle.cnb_layers.specs.Refusals.{cause_of}

-- the application's folder, as one tree
unfoldable pub puts_whole : List ℕ → List ℕ → Seen → Result (List (List ℕ)) ExportFault → Seen → Type 0
puts_whole store app = do
  digest ← map_err Store (puts_folder store app)
  gives cause_of (Ok (digest ∷ []))

-- the trees that slices cut it into
unfoldable pub cuts_app : List ℕ → Slices → Seen → Result (List Node) ExportFault → Seen → Type 0
cuts_app app slices = do
  tree ← map_err Store (reads_tree app)
  gives cause_of (Ok (slices_of slices tree))

unfoldable pub puts_part : List ℕ → Node → List (List ℕ) → Seen → Result (List (List ℕ)) ExportFault → Seen → Type 0
puts_part store tree digests = do
  digest ← map_err Store (puts_tree store tree)
  gives cause_of (Ok (digests ++ digest ∷ []))

-- it is read and cut, and each of its trees is put, in order
unfoldable pub puts_parts : List ℕ → List ℕ → Slices → Seen → Result (List (List ℕ)) ExportFault → Seen → Type 0
puts_parts store app slices = do
  parts ← cuts_app app slices
  for_each (puts_part store) parts []

-- the application: without slices one tree, and else those that the slices cut it into
abbrev pub puts_app : List ℕ → List ℕ → Slices → Seen → Result (List (List ℕ)) ExportFault → Seen → Type 0
puts_app store app [] = puts_whole store app
puts_app store app (slice ∷ slices) = puts_parts store app (slice ∷ slices)

-- the folder of links, where its spelling isn't too long
abbrev pub links_tree : List Process → Result Node ExportFault
links_tree processes = if is_tree (links_of processes) then Ok (links_of processes) else Err (Store (Limit TreeLimit))

unfoldable pub puts_links : List ℕ → List Process → Seen → Result (Option (List ℕ)) ExportFault → Seen → Type 0
puts_links store processes = do
  tree ← gives cause_of (links_tree processes)
  digest ← map_err Store (puts_tree store tree)
  yields (Some digest)

-- the links of the process types, where there are any
abbrev pub puts_process : List ℕ → List Process → Seen → Result (Option (List ℕ)) ExportFault → Seen → Type 0
puts_process store [] = yields None
puts_process store (process ∷ processes) = puts_links store (process ∷ processes)

-- the application, the launcher, and the links of the last process of each type
unfoldable pub puts_trees : ExportFrame → Slices → List Process → Seen → Result Digests ExportFault → Seen → Type 0
puts_trees frame slices processes = do
  app ← puts_app frame.store frame.app slices
  launcher ← map_err Store (puts_folder frame.store frame.launcher)
  last ← gives cause_of (Ok (last_of_each process_key processes))
  process ← puts_process frame.store last
  yields (record { app = app; launcher = launcher; process = process })
