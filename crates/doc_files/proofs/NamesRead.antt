-- The names in a folder: what a call that lists says of them, and those from a place on.
use Rattle.std.proofs.Common.{◌≡◌, ◌∙◌, sym, ap, subst, ℕ, ◌+◌, ◌<◌, Bool, true, false, cond, List, ◌∷◌, length, drop}
use Rattle.std.proofs.Common.{get_or, Option, Some, None, Result, Ok, Err}
use Rattle.std.specs.Prelude.{IfSome}
use Rattle.std.specs.Option.{option_map}
use Rattle.std.proofs.lemmas.List.{drop_more}
use Rattle.cnb_world.specs.Calls.{AreNames, CountsMisuse}
use Rattle.cnb_world.specs.Listing.{names_in}
use Rattle.cnb_world.specs.Tree.{Lists, Tree, can_list}
use Rattle.doc_files.specs.Reading.{names_at}
use Rattle.doc_files.specs.declared.fault.ReadFault.{ReadFault}
use Rattle.doc_files.specs.declared.fault.ReadFault.TheVariants.{File}
use Rattle.cnb_world.proofs.Listing.{names_listed}

-- a value that was told
abbrev pub told : {A : Type 0} → A → Result A ReadFault
told value = Ok value

module _ (folder : List ℕ) (names : List (List ℕ)) where
  listed_at : (can : Bool) (found : List (List ℕ)) (before now : ℕ) → found ≡ names
      → CountsMisuse {T = List (List ℕ)} (Some can) (Ok names) before now
      → cond can (Ok found) (Err (File folder)) ≡ told names
  listed_at true found before now e h = ap Ok e
  listed_at false found before now e h = absurd h

  -- names that were listed are those of the folder, and it is one
  pub names_read : (o : Option Tree) (before now : ℕ) → AreNames names → IfSome o (λ files. Lists files folder names)
      → CountsMisuse {T = List (List ℕ)} (option_map (λ files. can_list files folder) o) (Ok names) before now
      → IfSome o (λ files. names_at files folder ≡ told names)
  names_read None before now are lists h = tt
  names_read (Some files) before now are lists h = listed_at (can_list files folder)
      (names_in files folder) before now (sym (names_listed files folder names lists are)) h

  told_at : (can : Bool) (found : List (List ℕ)) → cond can (Ok found) (Err (File folder)) ≡ told names
      → told found ≡ told names
  told_at true found e = e
  told_at false found e = absurd (cc)

  pub names_told : (o : Option Tree) → IfSome o (λ files. names_at files folder ≡ told names)
      → IfSome o (λ files. told (names_in files folder) ≡ told names)
  names_told None h = tt
  names_told (Some files) h = told_at (can_list files folder) (names_in files folder) h

-- the names from a place on
pub next_name : (names : List (List ℕ)) (i : ℕ) (name : List ℕ) → i < length names → name ≡ get_or names i name
    → drop i names ≡ name ∷ drop (i + 1) names
next_name names i name h e = drop_more names i name h ∙ ap (λ n. n ∷ drop (i + 1) names) (sym e)

pub later_names : (whole names : List (List ℕ)) (name : List ℕ) → whole ≡ name ∷ names → AreNames whole → AreNames names
later_names whole names name e h = let all : AreNames (name ∷ names) = subst AreNames e h in all.2
