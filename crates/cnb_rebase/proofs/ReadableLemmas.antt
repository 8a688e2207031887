-- An image that can be read can also be read on another run image, and so can a run image of some folders.
use Rattle.std.proofs.Common.{◌≡◌, ◌∙◌, refl, ap, sym, ℕ, ◌+◌, ◌≤◌, zero, suc, Bool, true, false, not, cond, ◌&&◌, List}
use Rattle.std.proofs.Common.{[], ◌∷◌, ◌++◌, codes, drop, length, Result, Ok, Err, arith}
use Rattle.std.specs.Prelude.{IfErr, IsTrue, OnOk}
use Rattle.std.specs.List.{list_all, prefix_len}
use Rattle.std.specs.Str.{bytes_eq}
use Rattle.std.proofs.lemmas.Bool.{and_from, and_parts, cond-true}
use Rattle.cnb_world.specs.Path.{is_short_path}
use Rattle.cnb_world.specs.declared.env.Variable.{Variable}
use Rattle.cnb_toml.specs.Label.{is_label}
use Rattle.cnb_toml.specs.Names.{is_image_name, is_target_name}
use Rattle.cnb_toml.specs.Written.{is_filled}
use Rattle.image_docs.specs.Base.{is_base}
use Rattle.image_docs.specs.EnvRows.{is_env}
use Rattle.image_docs.specs.Image.{is_image_doc}
use Rattle.image_docs.specs.LaunchDoc.{is_launch_doc}
use Rattle.image_docs.specs.LayerRow.{are_layers}
use Rattle.image_docs.specs.Row.{are_ordered, are_rows, is_row, is_run, run_rows_first}
use Rattle.image_docs.specs.RunImage.{is_run_doc}
use Rattle.image_docs.specs.StoreRow.{is_store}
use Rattle.image_docs.specs.declared.image.ImageDoc.{ImageDoc}
use Rattle.image_docs.specs.declared.row.Row.{Row}
use Rattle.image_docs.specs.declared.run_image.RunDoc.{RunDoc}
use Rattle.image_files.proofs.RunPartLaws.{base_readable, env_readable, has_no_run_row, run_env, run_filled}
use Rattle.image_files.proofs.RunPartLaws.{run_rows_ordered, run_rows_sound}
use Rattle.steps.specs.Causes.{IsAnswer, IsGivenCause}
use Rattle.steps.specs.Each.{for_each}
use Rattle.steps.specs.Outside.{Seen}
use Rattle.steps.specs.Results.{and_then}
use Rattle.steps.specs.Steps.{◌>>=◌, gives, yields}
use Rattle.cnb_rebase.specs.Bases.{puts_folders, puts_next}
use Rattle.cnb_rebase.specs.Refusals.{cause_of}
use Rattle.cnb_rebase.specs.Rebased.{on_run, rebased, rows_above, same_target, same_top}
use Rattle.cnb_rebase.specs.declared.refusal.RebaseFault.{RebaseFault}

-- ---- the rows above those of the run image

one_more : (k : ℕ) → 1 + k ≡ suc k
one_more k = omega arith

drop_sound : (n : ℕ) (rows : List Row) → list_all is_row rows ≡ true → list_all is_row (drop n rows) ≡ true
drop_sound zero rows h = h
drop_sound (suc n) [] h = refl
drop_sound (suc n) (row ∷ rows) h = drop_sound n rows (and_parts (is_row row) (list_all is_row rows) h).1

ordered_first : (rows : List Row) → are_ordered rows ≡ true → run_rows_first rows ≡ true
ordered_first [] h = refl
ordered_first (row ∷ rows) h =
    let parts = and_parts (is_run row && bytes_eq row.place (codes "/")) (run_rows_first rows) h in
    cond-true (is_run row) _ _ (and_parts (is_run row) (bytes_eq row.place (codes "/")) parts.0).0 ∙ parts.1

above_first : (rows : List Row) → run_rows_first rows ≡ true → has_no_run_row (rows_above rows) ≡ true
above_first [] h = refl
above_first (row ∷ rows) h = by (is_run row) refl h (above_first rows)
  where
    by : (run : Bool) → is_run row ≡ run → cond run (run_rows_first rows) (has_no_run_row rows) ≡ true
        → (run_rows_first rows ≡ true → has_no_run_row (rows_above rows) ≡ true)
        → has_no_run_row (drop (cond run (1 + prefix_len is_run rows) 0) (row ∷ rows)) ≡ true
    by true e k later = ap (λ n. has_no_run_row (drop n (row ∷ rows))) (one_more (prefix_len is_run rows)) ∙ later k
    by false e k later = and_from (not (is_run row)) (has_no_run_row rows) (ap not e) k

-- ---- the image on another run image

-- what stays of an image
abbrev keeps : ImageDoc → Bool
keeps image = is_short_path image.entrypoint && (list_all is_label image.labels
    && (is_launch_doc image.launch && (are_layers false image.layers && is_store image.store)))

on_run_readable : (image : ImageDoc) (name : List ℕ) (run : RunDoc) → is_image_name name ≡ true
    → is_image_doc image ≡ true → is_run_doc run ≡ true → is_image_doc (on_run image name run) ≡ true
on_run_readable image name run named h k =
    let behind_base = (and_parts (is_base image.base) (are_rows image.rows && (is_env image.env && keeps image)) h).1 in
    let at_rows = and_parts (are_rows image.rows) (is_env image.env && keeps image) behind_base in
    let rows = and_parts (list_all is_row image.rows) (are_ordered image.rows) at_rows.0 in
    let kept = (and_parts (is_env image.env) (keeps image) at_rows.1).1 in
    and_from _ _ (base_readable name image.base.top run k)
    (and_from _ _ (and_from _ _ (run_rows_sound name run.rows (rows_above image.rows) named
    (drop_sound (prefix_len is_run image.rows) image.rows rows.0))
    (run_rows_ordered name run.rows (rows_above image.rows) (run_filled run k)
    (above_first image.rows (ordered_first image.rows rows.1))))
    (and_from _ _ (env_readable run.env (run_env run k)) kept))

pub rebased_readable : (image new : ImageDoc) (name : List ℕ) (run : RunDoc) → is_image_name name ≡ true
    → is_image_doc image ≡ true → is_run_doc run ≡ true → rebased image name run ≡ Ok new
    → is_image_doc new ≡ true
rebased_readable image new name run named h k is = ap is_image_doc
    (sym (by (same_top image) (same_target image.base run) is)) ∙ on_run_readable image name run named h k
  where
    by : (top target : Result (Unit {0}) RebaseFault) → and_then top
        (λ one. and_then target (λ other. Ok (on_run image name run))) ≡ Ok new → on_run image name run ≡ new
    by (Ok one) (Ok other) e = cc
    by (Ok one) (Err fault) e = absurd (cc)
    by (Err fault) target e = absurd (cc)

-- ---- an image that was changed where it stands

pub put_readable : (image new : ImageDoc) (name : List ℕ) (run : RunDoc) (result : Result (Unit {0}) RebaseFault)
    → is_image_name name ≡ true → is_run_doc run ≡ true → IsAnswer cause_of (and_then result (λ done. Ok new))
    (rebased image name run)
    → is_image_doc image ≡ true → OnOk result (IsTrue (is_image_doc new))
put_readable image new name run (Ok done) named k h readable = rebased_readable image new name run named readable k h
put_readable image new name run (Err fault) named k h readable = tt

pub put_so : (image new : ImageDoc) (name : List ℕ) (run : RunDoc) (result : Result (Unit {0}) RebaseFault)
    (old : Seen) → IsAnswer cause_of (and_then result (λ done. Ok new)) (rebased image name run)
    → IfErr result (λ fault. IsGivenCause (cause_of fault))
    → gives cause_of (rebased image name run) old (and_then result (λ done. Ok new)) old
unfolding gives
put_so image new name run (Ok done) old h cause = (refl, h, tt)
put_so image new name run (Err fault) old h cause = (refl, h, cause)

-- ---- a run image of some folders

more_filled : (digests : List (List ℕ)) (digest : List ℕ) → is_filled (digests ++ digest ∷ []) ≡ true
more_filled [] digest = refl
more_filled (first ∷ rest) digest = refl

next_filled : (store folder : List ℕ) (digests all : List (List ℕ)) (old new : Seen)
    → puts_next store folder digests old (Ok all) new → is_filled all ≡ true
unfolding puts_next ◌>>=◌ gives
next_filled store folder digests all old new (digest, mid, put, (same, is, cause)) =
    let now : digests ++ digest ∷ [] ≡ all = cc in
    ap is_filled (sym now) ∙ more_filled digests digest

stay_filled : (store : List ℕ) (folders digests all : List (List ℕ)) (old new : Seen) → is_filled digests ≡ true
    → for_each (puts_next store) folders digests old (Ok all) new → is_filled all ≡ true
unfolding for_each ◌>>=◌ yields
stay_filled store [] digests all old new h (is, same) = ap is_filled is ∙ h
stay_filled store (folder ∷ folders) digests all old new h
    (more, mid, put, rest) = stay_filled store folders more all mid new
    (next_filled store folder digests more old mid put) rest

pub folders_filled : (store : List ℕ) (folders all : List (List ℕ)) (old new : Seen) → 1 ≤ length folders
    → puts_folders store folders old (Ok all) new → is_filled all ≡ true
unfolding puts_folders for_each ◌>>=◌
folders_filled store [] all old new some h = absurd (omega arith)
folders_filled store (folder ∷ folders) all old new some
    (more, mid, put, rest) = stay_filled store folders more all mid new
    (next_filled store folder [] more old mid put) rest

pub made_readable : (os os' arch arch' : List ℕ) (rows : List (List ℕ)) (env : List Variable) → os ≡ os'
    → arch ≡ arch' → env ≡ [] → is_target_name os' ≡ true → is_target_name arch' ≡ true → is_filled rows ≡ true
    → is_run_doc (record { os = os; arch = arch; rows = rows; env = env }) ≡ true
made_readable os os' arch arch' rows env e f g is-os is-arch filled =
    and_from _ _ (and_from _ _ (ap is_target_name e ∙ is-os) (ap is_target_name f ∙ is-arch))
    (and_from _ _ filled (ap is_env g))
