-- What an image takes from a run image that can be read can be read too.
use Rattle.std.proofs.Common.{◌≡◌, ◌∙◌, refl, ℕ, Bool, true, false, not, cond, ◌&&◌, ◌==◌, List, [], ◌∷◌, ◌++◌, codes}
use Rattle.std.proofs.Common.{map, Option, Some, None}
use Rattle.std.specs.Cmp.Lexicographic.{slice_cmp}
use Rattle.std.specs.List.{list_all}
use Rattle.std.specs.Ordering.{nat_cmp}
use Rattle.std.specs.Str.{bytes_eq}
use Rattle.std.specs.declared.cmp.Ordering.{Ordering}
use Rattle.std.specs.declared.cmp.Ordering.TheVariants.{Less, Equal, Greater}
use Rattle.std.proofs.lemmas.Bool.{and_from, and_parts, cond-false, not-true}
use Rattle.cnb_world.specs.Env.{is_ascending, set_before, value_of, with_value}
use Rattle.cnb_world.specs.declared.env.Variable.{Variable}
use Rattle.cnb_world.proofs.EnvLemmas.{with_value-ascends}
use Rattle.cnb_toml.specs.Names.{is_image_name, is_target_name}
use Rattle.cnb_toml.specs.Written.{is_filled}
use Rattle.image_docs.specs.Base.{is_base}
use Rattle.image_docs.specs.ByLaws.{run_by_read}
use Rattle.image_docs.specs.EnvRows.{is_env, is_name_byte, is_variable}
use Rattle.image_docs.specs.Row.{are_ordered, is_row, is_run, run_rows_first}
use Rattle.image_docs.specs.RunImage.{is_run_doc}
use Rattle.image_docs.specs.declared.row.Row.{Row}
use Rattle.image_docs.specs.declared.run_image.RunDoc.{RunDoc}
use Rattle.image_files.specs.RunPart.{base_of, image_env, path_value, run_row}

-- ---- the environment

-- no zero byte, as a value of a variable has none
abbrev is_clean : List ℕ → Bool
is_clean value = list_all (λ byte. not (byte == 0)) value

variables_with : (name value : List ℕ) (vs : List Variable)
    → is_variable (record { name = name; value = value }) ≡ true → list_all is_variable vs ≡ true
    → list_all is_variable (with_value name value vs) ≡ true
variables_with name value [] one all = and_from _ _ one refl
variables_with name value (v ∷ vs) one all =
    let parts = and_parts (is_variable v) (list_all is_variable vs) all
    in by (slice_cmp nat_cmp name v.name) parts.0 parts.1 (variables_with name value vs one parts.1)
  where
    by : (o : Ordering) → is_variable v ≡ true → list_all is_variable vs ≡ true
        → list_all is_variable (with_value name value vs) ≡ true
        → list_all is_variable (set_before o name value v vs (with_value name value vs)) ≡ true
    by Less first rest later = and_from _ _ one all
    by Equal first rest later = and_from _ _ one rest
    by Greater first rest later = and_from _ _ first later

env_with : (name value : List ℕ) (vs : List Variable) → is_variable (record { name = name; value = value }) ≡ true
    → is_env vs ≡ true → is_env (with_value name value vs) ≡ true
env_with name value vs one h =
    let parts = and_parts (list_all is_variable vs) (is_ascending vs) h in
    and_from _ _ (variables_with name value vs one parts.0) (with_value-ascends name value vs parts.1)

abbrev is_clean_value : Option (List ℕ) → Bool
is_clean_value None = true
is_clean_value (Some value) = is_clean value

value_clean : (vs : List Variable) (name : List ℕ) → list_all is_variable vs ≡ true
    → is_clean_value (value_of vs name) ≡ true
value_clean [] name all = refl
value_clean (v ∷ vs) name all = let parts = and_parts (is_variable v) (list_all is_variable vs) all
    in by (bytes_eq v.name name) parts.0 (value_clean vs name parts.1)
  where
    by : (same : Bool) → is_variable v ≡ true → is_clean_value (value_of vs name) ≡ true
        → is_clean_value (cond same (Some v.value) (value_of vs name)) ≡ true
    by true first later = (and_parts (is_filled v.name && list_all is_name_byte v.name) (is_clean v.value) first).1
    by false first later = later

path_clean : (old : Option (List ℕ)) → is_clean_value old ≡ true → is_clean (path_value old) ≡ true
path_clean None h = refl
path_clean (Some []) h = refl
path_clean (Some (byte ∷ bytes)) h = h

pub env_readable : (run : List Variable) → is_env run ≡ true → is_env (image_env run) ≡ true
env_readable run h =
    let variables = (and_parts (list_all is_variable run) (is_ascending run) h).0 in
    let app = env_with (codes "CNB_APP_DIR") (codes "/workspace") run refl h in
    let layers = env_with (codes "CNB_LAYERS_DIR") (codes "/layers")
    (with_value (codes "CNB_APP_DIR") (codes "/workspace") run) refl app in
    env_with (codes "PATH") (path_value (value_of run (codes "PATH")))
    (with_value (codes "CNB_LAYERS_DIR") (codes "/layers")
    (with_value (codes "CNB_APP_DIR") (codes "/workspace") run))
    (path_clean (value_of run (codes "PATH")) (value_clean run (codes "PATH") variables)) layers

-- ---- the note of the run image, and its rows

pub base_readable : (name other : List ℕ) (run : RunDoc) → is_run_doc run ≡ true
    → is_base (base_of name run other) ≡ true
base_readable name other run h = (and_parts (is_target_name run.os && is_target_name run.arch)
    (is_filled run.rows && is_env run.env) h).0

pub run_env : (run : RunDoc) → is_run_doc run ≡ true → is_env run.env ≡ true
run_env run h = (and_parts (is_filled run.rows) (is_env run.env)
    (and_parts (is_target_name run.os && is_target_name run.arch) (is_filled run.rows && is_env run.env) h).1).1

pub run_filled : (run : RunDoc) → is_run_doc run ≡ true → is_filled run.rows ≡ true
run_filled run h = (and_parts (is_filled run.rows) (is_env run.env)
    (and_parts (is_target_name run.os && is_target_name run.arch) (is_filled run.rows && is_env run.env) h).1).0

-- no row of these is of a run image
abbrev pub has_no_run_row : List Row → Bool
has_no_run_row rows = list_all (λ row. not (is_run row)) rows

pub run_rows_sound : (name : List ℕ) (digests : List (List ℕ)) (above : List Row) → is_image_name name ≡ true
    → list_all is_row above ≡ true → list_all is_row (map (run_row name) digests ++ above) ≡ true
run_rows_sound name [] above named h = h
run_rows_sound name (digest ∷ digests) above named h =
    and_from (is_row (run_row name digest)) (list_all is_row (map (run_row name) digests ++ above))
    (run_by_read name named) (run_rows_sound name digests above named h)

none_first : (rows : List Row) → has_no_run_row rows ≡ true → run_rows_first rows ≡ true
none_first [] h = refl
none_first (row ∷ rows) h = let parts = and_parts (not (is_run row)) (has_no_run_row rows) h
    in cond-false (is_run row) (run_rows_first rows) (has_no_run_row rows) (not-true (is_run row) parts.0)
    ∙ parts.1

run_first : (name : List ℕ) (digests : List (List ℕ)) (above : List Row) → has_no_run_row above ≡ true
    → run_rows_first (map (run_row name) digests ++ above) ≡ true
run_first name [] above h = none_first above h
run_first name (digest ∷ digests) above h = run_first name digests above h

-- the rows of a run image, and above them others
pub run_rows_ordered : (name : List ℕ) (digests : List (List ℕ)) (above : List Row) → is_filled digests ≡ true
    → has_no_run_row above ≡ true → are_ordered (map (run_row name) digests ++ above) ≡ true
run_rows_ordered name [] above filled h = absurd (cc)
run_rows_ordered name (digest ∷ digests) above filled h = run_first name digests above h
