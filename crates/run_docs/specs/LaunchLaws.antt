-- `launch.toml` reads back.
use Rattle.std.specs.Prelude.{◌≡◌, ◌≤◌, ℕ, true, List, Ok}
use Rattle.std.specs.List.{list_all}
use Rattle.std.proofs.Common.{refl}
use Rattle.std.proofs.Math.Nat.{le_refl, le_trans, max-le}
use Rattle.std.proofs.lemmas.Bool.{and_parts, and_from, leb-true}
use Rattle.toml.specs.Data.{string, members_depth, members_have_valid_dates}
use Rattle.cnb_toml.specs.Form.{table_of}
use Rattle.cnb_toml.specs.Label.{label_in, is_label, label_members}
use Rattle.cnb_toml.specs.LabelLaws.{label_read}
use Rattle.cnb_toml.specs.Process.{process_in, has_type, is_process, process_members}
use Rattle.cnb_toml.specs.ProcessLaws.{texts_read, texts_within, process_read, process_dates, process_within}
use Rattle.cnb_toml.specs.Written.{table_data}
use Rattle.cnb_toml.specs.WrittenLaws.{all_true, zero_within, suc_within, list_read, list_dates, list_within}
use Rattle.run_docs.specs.declared.launch.LaunchToml.{LaunchToml}
use Rattle.run_docs.specs.Launch.{slice_in, table_in, has_types, is_launch_toml, slice_members, launch_members}

pub slice_read : (paths : List (List ℕ)) → true ≡ true → true ≡ true → slice_in (slice_members paths) ≡ Ok paths
slice_read paths typed sound = rw (texts_read paths)

pub slice_dates : (paths : List (List ℕ)) → members_have_valid_dates (slice_members paths) ≡ true
slice_dates paths = and_from _ _ (list_dates string (λ path. refl) paths) refl

pub slice_within : (paths : List (List ℕ)) → true ≡ true → members_depth (slice_members paths) ≤ 1
slice_within paths sound = max-le (texts_within paths) (zero_within 1)

pub launch_read : (launch : LaunchToml) → has_types launch ≡ true → is_launch_toml launch ≡ true
    → table_in (launch_members launch) ≡ Ok launch
launch_read launch typed sound =
    let parts = and_parts (list_all is_label launch.labels) (list_all is_process launch.processes) sound in
    rw (
      list_read (table_data label_members) (table_of label_in) (λ label. true) is_label label_read launch.labels
          (all_true launch.labels) parts.0,
      list_read (table_data process_members) (table_of process_in) has_type is_process process_read
          launch.processes typed parts.1,
      list_read (table_data slice_members) (table_of slice_in) (λ paths. true)
          (λ paths. true) slice_read launch.slices (all_true launch.slices) (all_true launch.slices),
    )

pub launch_dates : (launch : LaunchToml) → members_have_valid_dates (launch_members launch) ≡ true
launch_dates launch =
    and_from _ _ (list_dates (table_data label_members) (λ label. refl) launch.labels)
    (and_from _ _ (list_dates (table_data process_members) process_dates launch.processes)
    (and_from _ _ (list_dates (table_data slice_members) slice_dates launch.slices) refl))

pub launch_within : (launch : LaunchToml) → is_launch_toml launch ≡ true → members_depth (launch_members launch) ≤ 3
launch_within launch sound =
    let parts = and_parts (list_all is_label launch.labels) (list_all is_process launch.processes) sound in
    max-le (le_trans (list_within (table_data label_members) is_label 1
    (λ label sound. le_refl 1) launch.labels parts.0) (leb-true 2 3 refl))
    (max-le (list_within (table_data process_members) is_process 2
    (λ process sound. suc_within _ 1 (process_within process sound)) launch.processes parts.1)
    (max-le (list_within (table_data slice_members) (λ paths. true) 2
    (λ paths sound. suc_within _ 1 (slice_within paths sound)) launch.slices (all_true launch.slices))
    (zero_within 3)))
