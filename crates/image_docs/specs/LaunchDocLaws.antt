-- A launch document reads back.
use Rattle.std.specs.Prelude.{◌≡◌, ◌≤◌, ◌&&◌, ℕ, true, List, Option, Some, None, Ok}
use Rattle.std.specs.List.{list_all}
use Rattle.std.specs.Str.{bytes_eq}
use Rattle.std.proofs.Common.{refl}
use Rattle.std.proofs.Math.Nat.{le_refl, le_trans, max-le}
use Rattle.std.proofs.lemmas.Bool.{and_parts, and_from, leb-true}
use Rattle.toml.specs.Data.{members_depth, members_have_valid_dates}
use Rattle.cnb_toml.specs.declared.names.Key.{Key}
use Rattle.cnb_toml.specs.declared.process.Process.{Process}
use Rattle.cnb_toml.specs.Distinct.{are_distinct}
use Rattle.cnb_toml.specs.DistinctLaws.{bytes_eq-symmetric}
use Rattle.cnb_toml.specs.Form.{table_of}
use Rattle.cnb_toml.specs.Keys.{key_in, is_key, key_members}
use Rattle.cnb_toml.specs.Names.{is_process_type}
use Rattle.cnb_toml.specs.Process.{process_in, has_type, is_process, process_members}
use Rattle.cnb_toml.specs.ProcessLaws.{process_read, process_dates, process_within}
use Rattle.cnb_toml.specs.Written.{table_data}
use Rattle.cnb_toml.specs.WrittenLaws.{all_true, zero_within, name_read, key_read, list_read, list_dates, list_within}
use Rattle.cnb_toml.specs.WrittenLaws.{rows_read, rows_within}
use Rattle.image_docs.specs.declared.launch_doc.LaunchDoc.{LaunchDoc}
use Rattle.image_docs.specs.DistinctRows.{may_follow}
use Rattle.image_docs.specs.DistinctRowsLaws.{distinct_row_read, distinct_row_within, distinct_rows_follow}
use Rattle.image_docs.specs.LaunchDoc.{process_kind, process_row_in, launch_doc_table_in, is_optional_type}
use Rattle.image_docs.specs.LaunchDoc.{has_launch_names, is_launch_doc, launch_doc_members}

pub process_row_read : (before : List Process) (process : Process) → has_type process ≡ true
    → may_follow bytes_eq process_kind is_process before process ≡ true
    → process_row_in before (process_members process) ≡ Ok process
process_row_read = distinct_row_read bytes_eq process_kind is_process process_members process_in has_type process_read

pub process_row_within : (before : List Process) (process : Process)
    → may_follow bytes_eq process_kind is_process before process ≡ true
    → members_depth (process_members process) ≤ 1
process_row_within = distinct_row_within bytes_eq process_kind is_process process_members 1 process_within

read_as : (buildpacks : List Key) (processes : List Process) (default : Option (List ℕ))
    → list_all is_key buildpacks ≡ true → list_all has_type processes ≡ true → is_optional_type default ≡ true
    → list_all is_process processes ≡ true → are_distinct bytes_eq process_kind processes ≡ true
    → launch_doc_table_in (launch_doc_members (record
    { buildpacks = buildpacks; processes = processes; default = default }))
    ≡ Ok (record { buildpacks = buildpacks; processes = processes; default = default })
read_as buildpacks processes None are-keys typed is-default sound distinct =
    rw (
      list_read (table_data key_members) (table_of key_in) is_key (λ key. true) key_read buildpacks are-keys
          (all_true buildpacks),
      rows_read process_members process_row_in has_type (may_follow bytes_eq process_kind is_process)
          process_row_read processes typed (distinct_rows_follow bytes_eq process_kind is_process
          bytes_eq-symmetric processes sound distinct),
    )
read_as buildpacks processes (Some kind) are-keys typed is-default sound distinct =
    rw (
      list_read (table_data key_members) (table_of key_in) is_key (λ key. true) key_read buildpacks are-keys
          (all_true buildpacks),
      rows_read process_members process_row_in has_type (may_follow bytes_eq process_kind is_process)
          process_row_read processes typed (distinct_rows_follow bytes_eq process_kind is_process
          bytes_eq-symmetric processes sound distinct),
      name_read is_process_type kind is-default,
    )

pub launch_doc_read : (launch : LaunchDoc) → has_launch_names launch ≡ true → is_launch_doc launch ≡ true
    → launch_doc_table_in (launch_doc_members launch) ≡ Ok launch
launch_doc_read launch typed sound =
    let names = and_parts (list_all is_key launch.buildpacks)
    (list_all has_type launch.processes && is_optional_type launch.default) typed in
    let types = and_parts (list_all has_type launch.processes) (is_optional_type launch.default) names.1 in
    let parts = and_parts (list_all is_process launch.processes)
    (are_distinct bytes_eq process_kind launch.processes) sound in
    read_as launch.buildpacks launch.processes launch.default names.0 types.0 types.1 parts.0 parts.1

dates_as : (buildpacks : List Key) (processes : List Process) (default : Option (List ℕ))
    → members_have_valid_dates (launch_doc_members
    (record { buildpacks = buildpacks; processes = processes; default = default })) ≡ true
dates_as buildpacks processes None =
    and_from _ _ (list_dates (table_data key_members) (λ key. refl) buildpacks)
    (and_from _ _ (list_dates (table_data process_members) process_dates processes) refl)
dates_as buildpacks processes (Some kind) =
    and_from _ _ (list_dates (table_data key_members) (λ key. refl) buildpacks)
    (and_from _ _ (list_dates (table_data process_members) process_dates processes) refl)

pub launch_doc_dates : (launch : LaunchDoc) → members_have_valid_dates (launch_doc_members launch) ≡ true
launch_doc_dates launch = dates_as launch.buildpacks launch.processes launch.default

within_as : (buildpacks : List Key) (processes : List Process) (default : Option (List ℕ))
    → list_all is_process processes ≡ true → are_distinct bytes_eq process_kind processes ≡ true
    → members_depth (launch_doc_members (record {
      buildpacks = buildpacks;
      processes = processes;
      default =
          default;
    })) ≤ 3
within_as buildpacks processes None sound distinct =
    max-le (le_trans (list_within (table_data key_members) (λ key. true) 1 (λ key sound. le_refl 1) buildpacks
    (all_true buildpacks)) (leb-true 2 3 refl))
    (max-le (rows_within process_members process_row_in has_type
    (may_follow bytes_eq process_kind is_process) 1 process_row_within processes
    (distinct_rows_follow bytes_eq process_kind is_process bytes_eq-symmetric processes sound distinct))
    (zero_within 3))
within_as buildpacks processes (Some kind) sound distinct =
    max-le (le_trans (list_within (table_data key_members) (λ key. true) 1 (λ key sound. le_refl 1) buildpacks
    (all_true buildpacks)) (leb-true 2 3 refl))
    (max-le (zero_within 3)
    (max-le (rows_within process_members process_row_in has_type
    (may_follow bytes_eq process_kind is_process) 1 process_row_within processes
    (distinct_rows_follow bytes_eq process_kind is_process bytes_eq-symmetric processes sound distinct))
    (zero_within 3)))

pub launch_doc_within : (launch : LaunchDoc) → is_launch_doc launch ≡ true
    → members_depth (launch_doc_members launch) ≤ 3
launch_doc_within launch sound =
    let parts = and_parts (list_all is_process launch.processes)
    (are_distinct bytes_eq process_kind launch.processes) sound in
    within_as launch.buildpacks launch.processes launch.default parts.0 parts.1
