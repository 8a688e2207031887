-- Documents that are valid are read, and so are files of the environment.
use Rattle.std.proofs.Common.{◌≡◌, ◌∙◌, ap, ℕ, true, cond, List, length}
use Rattle.std.proofs.Common.{Option, Some, None, Result, Ok, Err, inl, inr}
use Rattle.std.proofs.lemmas.Bool.{le-ltb}
use Rattle.std.specs.Prelude.{if◌then◌else◌}
use Rattle.cnb_toml.specs.declared.fault.DocFault.{DocFault}
use Rattle.cnb_world.specs.Tree.{Tree, is_file_or_absent, item_at}
use Rattle.cnb_world.specs.Whole.{whole_of}
use Rattle.cnb_world.specs.declared.limits.LimitKind.TheVariants.{Document as DocumentLimit}
use Rattle.cnb_world.specs.declared.whole.Whole.TheVariants.{Large, Bytes}
use Rattle.cnb_world.specs.declared.world.Item.{Item}
use Rattle.doc_files.specs.Reading.{document_at, limited_by}
use Rattle.doc_files.specs.declared.fault.ReadFault.{ReadFault}
use Rattle.doc_files.specs.declared.fault.ReadFault.TheVariants.{File}
use Rattle.steps.specs.Results.{and_then}
use Rattle.detect_laws.specs.Documents.{IsAbsentOr, IsDocument}

-- what is read of what stands at a path
abbrev read_of : List ℕ → Option Item → Result (Option (List ℕ)) ReadFault
read_of path found = if is_file_or_absent found then limited_by DocumentLimit (whole_of 1048576 found) else Err
    (File path)

module _ (files : Tree) (path : List ℕ) where
  pub nothing_read : item_at files path ≡ None → document_at files path ≡ Ok None
  nothing_read h = ap (read_of path) h

  pub bytes_read : {T : Type 0} (reads : List ℕ → Result T DocFault) (value : T)
      (h : IsDocument reads files path value) → document_at files path ≡ Ok (Some h.bytes)
  bytes_read reads value h = ap (read_of path) h.stands
      ∙ ap (λ b. limited_by DocumentLimit (cond b (Large (length h.bytes)) (Bytes h.bytes)))
      (le-ltb 1048576 (length h.bytes) h.small)

  -- what follows the reading of a document
  pub then_nothing : {A : Type 0} (next : Option (List ℕ) → Result A ReadFault) → item_at files path ≡ None
      → and_then (document_at files path) next ≡ next None
  then_nothing next h = ap (λ r. and_then r next) (nothing_read h)

  pub then_bytes : {A T : Type 0} (next : Option (List ℕ) → Result A ReadFault) (reads : List ℕ → Result T DocFault)
      (value : T) (h : IsDocument reads files path value)
      → and_then (document_at files path) next ≡ next (Some h.bytes)
  then_bytes next reads value h = ap (λ r. and_then r next) (bytes_read reads value h)

  -- it is a file, or isn't there
  pub document_fits : {T : Type 0} (reads : List ℕ → Result T DocFault) (value : T)
      → IsDocument reads files path value → is_file_or_absent (item_at files path) ≡ true
  document_fits reads value h = ap is_file_or_absent h.stands

  pub optional_fits : {T : Type 0} (reads : List ℕ → Result T DocFault) (Says : T → Type 0)
      → IsAbsentOr reads files path Says → is_file_or_absent (item_at files path) ≡ true
  optional_fits reads Says (inl absent) = ap is_file_or_absent absent
  optional_fits reads Says (inr (value, h, says)) = document_fits reads value h
