-- A run image reads back.
use Rattle.std.specs.Prelude.{◌≡◌, ◌≤◌, ◌&&◌, ℕ, true, List, [], ◌∷◌, Ok}
use Rattle.std.specs.List.{list_all}
use Rattle.std.proofs.Common.{refl}
use Rattle.std.proofs.Math.Nat.{le_trans, max-le}
use Rattle.std.proofs.lemmas.Bool.{and_parts, and_from, leb-true, false≢true}
use Rattle.toml.specs.Data.{members_depth, members_have_valid_dates}
use Rattle.cnb_world.specs.declared.env.Variable.{Variable}
use Rattle.cnb_toml.specs.Names.{is_target_name}
use Rattle.cnb_toml.specs.Written.{is_filled}
use Rattle.cnb_toml.specs.WrittenLaws.{all_true, zero_within, name_read, list_read, list_dates, list_within}
use Rattle.image_docs.specs.declared.run_image.RunDoc.{RunDoc}
use Rattle.image_docs.specs.DigestText.{digest_of, is_digest, digest_data}
use Rattle.image_docs.specs.DigestTextLaws.{digest_read}
use Rattle.image_docs.specs.EnvRows.{is_env}
use Rattle.image_docs.specs.EnvRowsLaws.{env_read, env_dates, env_within}
use Rattle.image_docs.specs.RunImage.{table_in, has_digests, is_run_doc, run_members}

read_as : (os arch : List ℕ) (rows : List (List ℕ)) (env : List Variable) → list_all is_digest rows ≡ true
    → is_target_name os ≡ true → is_target_name arch ≡ true
    → is_filled rows ≡ true → is_env env ≡ true → table_in (run_members
    (record { os = os; arch = arch; rows = rows; env = env }))
    ≡ Ok (record { os = os; arch = arch; rows = rows; env = env })
read_as os arch [] env typed is-os is-arch filled sound = absurd (false≢true filled)
read_as os arch (row ∷ rows) env typed is-os is-arch filled sound =
    rw (
      name_read is_target_name os is-os,
      name_read is_target_name arch is-arch,
      list_read digest_data digest_of is_digest (λ row. true) (λ row typed sound. digest_read row typed)
          (row ∷ rows) typed (all_true (row ∷ rows)),
      env_read env sound,
    )

pub run_read : (run : RunDoc) → has_digests run ≡ true → is_run_doc run ≡ true → table_in (run_members run) ≡ Ok run
run_read run typed sound =
    let parts = and_parts (is_target_name run.os && is_target_name run.arch)
    (is_filled run.rows && is_env run.env) sound in
    let target = and_parts (is_target_name run.os) (is_target_name run.arch) parts.0 in
    let lists = and_parts (is_filled run.rows) (is_env run.env) parts.1 in
    read_as run.os run.arch run.rows run.env typed target.0 target.1 lists.0 lists.1

pub run_dates : (run : RunDoc) → members_have_valid_dates (run_members run) ≡ true
run_dates run = and_from _ _ (env_dates run.env) (and_from _ _ (list_dates digest_data (λ row. refl) run.rows) refl)

pub run_within : (run : RunDoc) → is_run_doc run ≡ true → members_depth (run_members run) ≤ 2
run_within run sound =
    max-le (zero_within 2) (max-le (env_within run.env) (max-le (zero_within 2)
    (max-le (le_trans (list_within digest_data (λ row. true) 0 (λ row sound. zero_within 0) run.rows
    (all_true run.rows)) (leb-true 1 2 refl)) (zero_within 2))))
