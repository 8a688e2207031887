-- An image on another run image (platform.md, "rebaser").
use Rattle.std.specs.Prelude.{ℕ, ◌&&◌, ◌++◌, List, [], ◌∷◌, codes, drop, map, if◌then◌else◌, Result, Ok, Err}
use Rattle.std.specs.List.{prefix_len}
use Rattle.std.specs.Str.{bytes_eq}
use Rattle.image_docs.specs.Row.{is_run}
use Rattle.image_docs.specs.declared.base.Base.{Base}
use Rattle.image_docs.specs.declared.image.ImageDoc.{ImageDoc}
use Rattle.image_docs.specs.declared.row.Row.{Row}
use Rattle.image_docs.specs.declared.run_image.RunDoc.{RunDoc}
use Rattle.image_files.specs.RunPart.{base_of, image_env, run_row}
use Rattle.steps.specs.Results.{◌>>=◌}
use Rattle.cnb_rebase.specs.declared.refusal.RebaseFault.{RebaseFault}
use Rattle.cnb_rebase.specs.declared.refusal.RebaseFault.TheVariants.{TopDiffers, TargetDiffers}

-- how many rows of its run image an image begins with
abbrev pub run_count : List Row → ℕ
run_count rows = prefix_len is_run rows

-- the rows above those
abbrev pub rows_above : List Row → List Row
rows_above rows = drop (run_count rows) rows

-- the tree of the last row of the run image; this one where there is none
abbrev pub last_run : List ℕ → List Row → List ℕ
last_run other [] = other
last_run other (row ∷ rows) = if is_run row then last_run row.digest rows else other

-- the image notes the topmost run row that it has
abbrev pub same_top : ImageDoc → Result (Unit {0}) RebaseFault
same_top image =
    if bytes_eq image.base.top (last_run image.base.top image.rows) then Ok tt else Err
    (TopDiffers image.base.top (last_run image.base.top image.rows))

abbrev pub target_text : List ℕ → List ℕ → List ℕ
target_text os arch = os ++ codes "/" ++ arch

-- the run image is for the same operating system and architecture
abbrev pub same_target : Base → RunDoc → Result (Unit {0}) RebaseFault
same_target base run =
    if bytes_eq base.os run.os && bytes_eq base.arch run.arch then Ok tt
    else Err (TargetDiffers (target_text base.os base.arch) (target_text run.os run.arch))

-- the image with the rows, the environment and the note of another run image; all else stays
abbrev pub on_run : ImageDoc → List ℕ → RunDoc → ImageDoc
on_run image name run = record image {
  base = base_of name run image.base.top;
  rows = map (run_row name) run.rows ++ rows_above image.rows;
  env = image_env run.env;
}

-- the image on another run image; the first refusal decides
abbrev pub rebased : ImageDoc → List ℕ → RunDoc → Result ImageDoc RebaseFault
rebased image name run = do
  top ← same_top image
  target ← same_target image.base run
  Ok (on_run image name run)
