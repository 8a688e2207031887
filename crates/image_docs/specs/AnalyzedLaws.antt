-- `analyzed.toml` reads back.
use Rattle.std.specs.Prelude.{◌≡◌, ◌≤◌, ℕ, true, List, Option, Some, None, Ok}
use Rattle.std.proofs.Common.{refl}
use Rattle.std.proofs.lemmas.Bool.{and_parts}
use Rattle.std.proofs.Math.Nat.{le_refl}
use Rattle.toml.specs.Data.{members_depth, members_have_valid_dates}
use Rattle.cnb_toml.specs.Names.{is_image_name, is_target_name}
use Rattle.cnb_toml.specs.WrittenLaws.{name_read}
use Rattle.image_docs.specs.declared.analyzed.Analyzed.{Analyzed}
use Rattle.image_docs.specs.Analyzed.{table_in, is_optional_name, has_names, is_analyzed, analyzed_members}

read_as : (run os arch : List ℕ) (previous : Option (List ℕ)) → is_image_name run ≡ true
    → is_optional_name previous ≡ true → is_target_name os ≡ true → is_target_name arch ≡ true
    → table_in (analyzed_members (record { run = run; os = os; arch = arch; previous = previous }))
    ≡ Ok (record { run = run; os = os; arch = arch; previous = previous })
read_as run os arch None is-run is-previous is-os is-arch = rw
    (name_read is_image_name run is-run, name_read is_target_name os is-os, name_read is_target_name arch is-arch)
read_as run os arch (Some name) is-run is-previous is-os is-arch =
    rw (
      name_read is_image_name run is-run,
      name_read is_target_name os is-os,
      name_read is_target_name arch
          is-arch,
      name_read is_image_name name is-previous,
    )

pub analyzed_read : (analyzed : Analyzed) → has_names analyzed ≡ true → is_analyzed analyzed ≡ true
    → table_in (analyzed_members analyzed) ≡ Ok analyzed
analyzed_read analyzed typed sound =
    let names = and_parts (is_image_name analyzed.run) (is_optional_name analyzed.previous) typed in
    let target = and_parts (is_target_name analyzed.os) (is_target_name analyzed.arch) sound in
    read_as analyzed.run analyzed.os analyzed.arch analyzed.previous names.0 names.1 target.0 target.1

dates_as : (run os arch : List ℕ) (previous : Option (List ℕ))
    → members_have_valid_dates (analyzed_members (record
    { run = run; os = os; arch = arch; previous = previous })) ≡ true
dates_as run os arch None = refl
dates_as run os arch (Some name) = refl

pub analyzed_dates : (analyzed : Analyzed) → members_have_valid_dates (analyzed_members analyzed) ≡ true
analyzed_dates analyzed = dates_as analyzed.run analyzed.os analyzed.arch analyzed.previous

within_as : (run os arch : List ℕ) (previous : Option (List ℕ))
    → members_depth (analyzed_members (record { run = run; os = os; arch = arch; previous = previous })) ≤ 0
within_as run os arch None = le_refl 0
within_as run os arch (Some name) = le_refl 0

pub analyzed_within : (analyzed : Analyzed) → is_analyzed analyzed ≡ true
    → members_depth (analyzed_members analyzed) ≤ 0
analyzed_within analyzed sound = within_as analyzed.run analyzed.os analyzed.arch analyzed.previous
