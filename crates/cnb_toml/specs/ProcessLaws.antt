-- A process reads back.
use Rattle.std.specs.Prelude.{◌≡◌, ◌≤◌, ℕ, Bool, true, List, [], ◌∷◌, Option, Some, None, Ok}
use Rattle.std.proofs.Common.{refl}
use Rattle.std.proofs.lemmas.Bool.{and_parts, and_from, false≢true}
use Rattle.std.proofs.Math.Nat.{max-le}
use Rattle.toml.specs.Data.{string, depth, members_depth, members_have_valid_dates}
use Rattle.cnb_world.specs.Path.{is_short_path}
use Rattle.cnb_toml.specs.declared.process.Process.{Process}
use Rattle.cnb_toml.specs.Form.{text_of, list_of}
use Rattle.cnb_toml.specs.Names.{is_process_type}
use Rattle.cnb_toml.specs.Process.{process_in, has_type, is_working_dir, is_process, dir_members, process_members}
use Rattle.cnb_toml.specs.Written.{list_data, is_filled}
use Rattle.cnb_toml.specs.WrittenLaws.{all_true, zero_within, name_read, list_read, list_dates, list_within}

pub texts_read : (texts : List (List ℕ)) → list_of text_of (list_data string texts) ≡ Ok texts
texts_read texts = list_read string text_of (λ _. true) (λ _. true) (λ _ _ _. refl) texts (all_true texts)
    (all_true texts)

pub texts_within : (texts : List (List ℕ)) → depth (list_data string texts) ≤ 1
texts_within texts = list_within string (λ _. true) 0 (λ _ _. zero_within 0) texts (all_true texts)

read_as : (kind : List ℕ) (command args : List (List ℕ)) (default : Bool) (dir : Option (List ℕ))
    → is_process_type kind ≡ true → is_filled command ≡ true → is_working_dir dir ≡ true
    → process_in (process_members (record {
      kind = kind;
      command = command;
      args = args;
      default = default;
      dir =
          dir;
    })) ≡ Ok (record { kind = kind; command = command; args = args; default = default; dir = dir })
read_as kind [] args default dir typed filled short = absurd (false≢true filled)
read_as kind (word ∷ words) args default None typed filled short = rw
    (name_read is_process_type kind typed, texts_read (word ∷ words), texts_read args)
read_as kind (word ∷ words) args default (Some dir) typed filled short =
    rw (
      name_read is_process_type kind typed,
      texts_read (word ∷ words),
      texts_read args,
      name_read is_short_path
          dir short,
    )

pub process_read : (process : Process) → has_type process ≡ true → is_process process ≡ true
    → process_in (process_members process) ≡ Ok process
process_read process typed sound =
    let parts = and_parts (is_filled process.command) (is_working_dir process.dir) sound in
    read_as process.kind process.command process.args process.default process.dir typed parts.0 parts.1

dir_dates : (dir : Option (List ℕ)) → members_have_valid_dates (dir_members dir) ≡ true
dir_dates None = refl
dir_dates (Some dir) = refl

pub process_dates : (process : Process) → members_have_valid_dates (process_members process) ≡ true
process_dates process =
    and_from _ _ (list_dates string (λ _. refl) process.args)
    (and_from _ _ (list_dates string (λ _. refl) process.command) (dir_dates process.dir))

dir_within : (dir : Option (List ℕ)) → members_depth (dir_members dir) ≤ 1
dir_within None = zero_within 1
dir_within (Some dir) = max-le (zero_within 1) (zero_within 1)

pub process_within : (process : Process) → is_process process ≡ true → members_depth (process_members process) ≤ 1
process_within process sound =
    max-le (texts_within process.args) (max-le (texts_within process.command)
    (max-le (zero_within 1) (max-le (zero_within 1) (dir_within process.dir))))
