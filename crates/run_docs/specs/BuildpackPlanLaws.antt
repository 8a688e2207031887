-- A Buildpack Plan reads back.
use Rattle.std.specs.Prelude.{◌≡◌, ◌≤◌, true, List, Ok}
use Rattle.std.proofs.Common.{refl}
use Rattle.std.proofs.Math.Nat.{max-le}
use Rattle.std.proofs.lemmas.Bool.{and_from}
use Rattle.toml.specs.Data.{members_depth, members_have_valid_dates}
use Rattle.cnb_toml.specs.declared.meta.Need.{Need}
use Rattle.cnb_toml.specs.Form.{table_of}
use Rattle.cnb_toml.specs.Need.{need_in, is_kept_need, need_members}
use Rattle.cnb_toml.proofs.NeedLaws.{need_read, need_dates, need_within}
use Rattle.cnb_toml.specs.Written.{table_data}
use Rattle.cnb_toml.specs.WrittenLaws.{all_true, zero_within, suc_within, list_read, list_dates, list_within}
use Rattle.run_docs.specs.BuildpackPlan.{needs_in, is_bp_plan, bp_plan_members}

pub bp_plan_read : (needs : List Need) → true ≡ true → is_bp_plan needs ≡ true
    → needs_in (bp_plan_members needs) ≡ Ok needs
bp_plan_read needs typed sound = rw (list_read (table_data need_members) (table_of need_in)
    (λ need. true) is_kept_need need_read needs (all_true needs) sound)

pub bp_plan_dates : (needs : List Need) → members_have_valid_dates (bp_plan_members needs) ≡ true
bp_plan_dates needs = and_from _ _ (list_dates (table_data need_members) need_dates needs) refl

pub bp_plan_within : (needs : List Need) → is_bp_plan needs ≡ true → members_depth (bp_plan_members needs) ≤ 35
bp_plan_within needs sound =
    max-le (list_within (table_data need_members) is_kept_need 34
    (λ need kept. suc_within _ 33 (need_within need kept)) needs sound) (zero_within 35)
