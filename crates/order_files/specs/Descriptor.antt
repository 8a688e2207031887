-- The descriptor in the folder of a version of a buildpack (platform.md, "Buildpacks Directory Layout").
use Rattle.std.specs.Prelude.{ℕ, Bool, not, List, codes, if◌then◌else◌, Option, Some, None, Result, Ok, Err}
use Rattle.std.specs.Str.{bytes_eq}
use Rattle.cnb_world.specs.Path.{joined}
use Rattle.cnb_world.specs.Steps.{◌>>=◌}
use Rattle.cnb_world.specs.Tree.{Tree, is_file_or_absent, item_at}
use Rattle.cnb_toml.specs.Names.{folder_of}
use Rattle.cnb_toml.specs.declared.fault.DocFault.TheVariants.{Wrong}
use Rattle.bp_docs.specs.Descriptor.{descriptor_in}
use Rattle.bp_docs.specs.declared.descriptor.Descriptor.{Descriptor}
use Rattle.doc_files.specs.Reading.{document_at, read_at}
use Rattle.doc_files.specs.declared.fault.ReadFault.{ReadFault}
use Rattle.doc_files.specs.declared.fault.ReadFault.TheVariants.{Document}

-- the document of a descriptor in its folder
abbrev pub descriptor_path : List ℕ → List ℕ
descriptor_path folder = joined folder (codes "buildpack.toml")

-- the folders that a descriptor stands in have its names: first that of its id, in there that of its version
abbrev pub with_folder_names : List ℕ → List ℕ → List ℕ → Descriptor → Result Descriptor ReadFault
with_folder_names path id_folder version descriptor =
    if not (bytes_eq (folder_of descriptor.key.id) id_folder) then Err (Document path (Wrong (codes "buildpack.id")))
    else if not (bytes_eq descriptor.key.version version) then Err (Document path (Wrong (codes "buildpack.version")))
    else Ok descriptor

-- a check that passed gives this descriptor
abbrev pub giving : Descriptor → Result (Unit {0}) ReadFault → Result Descriptor ReadFault
giving descriptor (Ok done) = Ok descriptor
giving descriptor (Err fault) = Err fault

-- the descriptor that a document is, where it is there
abbrev pub described : List ℕ → List ℕ → List ℕ → Option (List ℕ) → Result (Option Descriptor) ReadFault
described path id_folder version None = Ok None
described path id_folder version (Some bytes) = do
  read ← read_at path (descriptor_in bytes)
  descriptor ← with_folder_names path id_folder version read
  Ok (Some descriptor)

-- the descriptor in the folder of a version
unfoldable pub descriptor_at : Tree → List ℕ → List ℕ → List ℕ → Result (Option Descriptor) ReadFault
descriptor_at files folder id_folder version = document_at files (descriptor_path folder)
    >>= described (descriptor_path folder) id_folder version

-- a descriptor's document is a file, or isn't there
abbrev pub is_fit_descriptor : Tree → List ℕ → Bool
is_fit_descriptor files folder = is_file_or_absent (item_at files (descriptor_path folder))
