-- Sound files of the environment are read.
use Rattle.std.proofs.Common.{◌≡◌, ◌∙◌, refl, ap, ℕ, Bool, true, false, cond, List, [], ◌∷◌, length}
use Rattle.std.proofs.Common.{Option, Some, None, Result, Ok, Err, inl, inr}
use Rattle.std.proofs.lemmas.Bool.{le-ltb}
use Rattle.std.specs.Prelude.{◌==◌, IsTrue}
use Rattle.std.specs.List.{AllByRecursion, list_any}
use Rattle.cnb_env.specs.Contents.{contents_of, file_at, file_of, file_of_value, is_utf8, value_in}
use Rattle.cnb_env.specs.Files.{file_before, files_in_folder, files_of, is_fit_platform, is_folder_or_absent}
use Rattle.cnb_env.specs.Files.{listed_files, platform_env, platform_files_in}
use Rattle.cnb_env.specs.Names.{is_ignored}
use Rattle.cnb_env.specs.declared.files.EnvFile.{EnvFile}
use Rattle.cnb_world.specs.Listing.{names_in}
use Rattle.cnb_world.specs.Path.{joined}
use Rattle.cnb_world.specs.Tree.{Tree, is_folder, item_at}
use Rattle.cnb_world.specs.declared.limits.LimitKind.TheVariants.{Document as DocumentLimit}
use Rattle.cnb_world.specs.declared.world.Item.{Item}
use Rattle.cnb_world.specs.declared.world.Item.TheVariants.{Folder, File, Link, Odd}
use Rattle.doc_files.specs.declared.fault.ReadFault.{ReadFault}
use Rattle.doc_files.specs.declared.fault.ReadFault.TheVariants.{Limit}
use Rattle.steps.specs.Results.{and_then}
use Rattle.detect_laws.specs.Variables.{AreSoundVariables, IsSoundValue}
use Rattle.detect_laws.proofs.BuildpackLemmas.{Reads, names_there}

valid_value : (path bytes : List ℕ) → is_utf8 bytes ≡ true → list_any (λ byte. byte == 0) bytes ≡ false
    → value_in path bytes ≡ Ok bytes
valid_value path bytes text whole = rw (text, whole)

of_item : (name path : List ℕ) (found : Option Item) → IsSoundValue found
    → Reads (file_of name path (contents_of found))
of_item name path (Some (File exec bytes)) (small, text, whole) = (
  Some (record { name = name; value = bytes }),
  ap (λ b. file_of name path (cond b (Err (Limit DocumentLimit)) (Ok (Some bytes))))
      (le-ltb 1048576 (length bytes) small) ∙ ap (file_of_value name) (valid_value path bytes text whole),
)
of_item name path (Some Folder) h = (None, refl)
of_item name path (Some (Link target)) h = (None, refl)
of_item name path (Some Odd) h = (None, refl)
of_item name path None h = (None, refl)

passed_over : (ignored : Bool) (found : Result (Option EnvFile) ReadFault) → (ignored ≡ false → Reads found)
    → Reads (cond ignored (Ok None) found)
passed_over true found h = (None, refl)
passed_over false found h = h refl

before : (one : Result (Option EnvFile) ReadFault) (behind : Result (List EnvFile) ReadFault) → Reads one
    → Reads behind → Reads (file_before one behind)
before one behind (None, e) (more, k) = (more, ap (λ r. file_before r behind) e ∙ k)
before one behind (Some file, e) (more, k) = (
  file ∷ more,
  ap (λ r. file_before r behind) e
      ∙ ap (file_before (Ok (Some file))) k,
)

module _ (files : Tree) (folder : List ℕ) where
  one_read : (naming : _) (name : List ℕ)
      → (is_ignored naming name ≡ false → IsSoundValue (item_at files (joined folder name)))
      → Reads (file_at naming files folder name)
  unfolding file_at
  one_read naming name h = passed_over (is_ignored naming name) _
      (λ is. of_item name (joined folder name) (item_at files (joined folder name)) (h is))

  all_read : (naming : _) (names : List (List ℕ))
      → AllByRecursion (λ name. is_ignored naming name ≡ false
      → IsSoundValue (item_at files (joined folder name))) names
      → Reads (files_of naming files folder names)
  all_read naming [] h = ([], refl)
  all_read naming (name ∷ names) (first, rest) = before _ _ (one_read naming name first) (all_read naming names rest)

  folder_read : (naming : _) → IsTrue (is_folder (item_at files folder))
      → AllByRecursion (λ name. is_ignored naming name ≡ false → IsSoundValue (item_at files (joined folder name)))
      (names_in files folder) → Reads (listed_files naming files folder)
  folder_read naming is h =
      let rest = all_read naming (names_in files folder) h in
      (rest.0, ap (λ r. and_then r (files_of naming files folder)) (names_there files folder is) ∙ rest.1)

  nothing_there : (naming : _) → item_at files folder ≡ None
      → Reads (files_in_folder naming files folder (item_at files folder))
  nothing_there naming h = ([], ap (files_in_folder naming files folder) h)

  something_there : (naming : _) (found : Option Item) → is_folder found ≡ true
      → Reads (listed_files naming files folder) → Reads (files_in_folder naming files folder found)
  something_there naming (Some item) is h = h
  something_there naming None is h = ([], refl)

pub no_variables : (files : Tree) (platform : List ℕ) → item_at files (platform_env platform) ≡ None
    → platform_files_in platform files ≡ Ok []
unfolding platform_files_in
no_variables files platform absent = ap (files_in_folder _ files (platform_env platform)) absent

pub variables_read : (files : Tree) (platform : List ℕ) → AreSoundVariables files (platform_env platform)
    → Reads (platform_files_in platform files)
unfolding platform_files_in
variables_read files platform (inl absent) = nothing_there files (platform_env platform) _ absent
variables_read files platform (inr (is, h)) = something_there files (platform_env platform) _
    (item_at files (platform_env platform)) is (folder_read files (platform_env platform) _ is h)

folder_fits : (found : Option Item) → is_folder found ≡ true → is_folder_or_absent found ≡ true
folder_fits (Some item) is = is
folder_fits None is = refl

pub variables_fit : (files : Tree) (platform : List ℕ) → AreSoundVariables files (platform_env platform)
    → is_fit_platform platform files ≡ true
variables_fit files platform (inl absent) = ap is_folder_or_absent absent
variables_fit files platform (inr (is, h)) = folder_fits (item_at files (platform_env platform)) is
