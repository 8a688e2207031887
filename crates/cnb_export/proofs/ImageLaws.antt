-- The image that is made can be read again.
use Rattle.std.proofs.Common.{◌≡◌, ◌∙◌, ap, append_assoc, refl, ℕ, Bool, true, not, List, [], ◌∷◌, ◌++◌, map, Option}
use Rattle.std.proofs.Common.{Some, None}
use Rattle.std.specs.List.{list_all}
use Rattle.std.proofs.lemmas.Bool.{and_from}
use Rattle.std.proofs.lemmas.List.Folds.{list_all-append}
use Rattle.cnb_world.specs.Path.{is_short_path}
use Rattle.cnb_toml.specs.Label.{is_label}
use Rattle.cnb_toml.specs.Names.{is_image_name}
use Rattle.cnb_toml.specs.Process.{is_process}
use Rattle.image_docs.specs.Image.{is_image_doc}
use Rattle.image_docs.specs.Row.{are_rows, is_row, is_run}
use Rattle.image_docs.specs.RunImage.{is_run_doc}
use Rattle.image_docs.specs.declared.row.Row.{Row}
use Rattle.image_docs.specs.declared.run_image.RunDoc.{RunDoc}
use Rattle.image_files.specs.RunPart.{run_row}
use Rattle.image_files.proofs.RunPartLaws.{base_readable, env_readable, has_no_run_row, run_env, run_filled}
use Rattle.image_files.proofs.RunPartLaws.{run_rows_ordered, run_rows_sound}
use Rattle.run_docs.specs.declared.group.GroupRow.{GroupRow}
use Rattle.cnb_export.specs.Ascending.{label_key, process_key}
use Rattle.cnb_export.specs.Image.{image_of}
use Rattle.cnb_export.specs.Processes.{default_of, entrypoint_of}
use Rattle.cnb_export.specs.Rows.{app_row, launcher_row, layer_row, process_rows, rows_of}
use Rattle.cnb_export.specs.declared.exported.Digests.{Digests}
use Rattle.cnb_layers.specs.declared.gathered.Gathered.{Gathered}
use Rattle.cnb_layers.specs.declared.gathered.ImageLayer.{ImageLayer}
use Rattle.cnb_export.proofs.DistinctLaws.{last_distinct, last_hold}
use Rattle.cnb_layers.proofs.GatherLaws.{Gathers}
use Rattle.cnb_export.proofs.PlaceLaws.{are_placed}

-- ---- the rows above those of the run image

abbrev above_rows : List GroupRow → List ImageLayer → Digests → List Row
above_rows group layers digests = map (layer_row group) layers
    ++ (map app_row digests.app ++ (launcher_row digests.launcher ∷ process_rows digests.process))

rows_are : (name : List ℕ) (run : RunDoc) (group : List GroupRow) (layers : List ImageLayer) (digests : Digests)
    → rows_of name run group layers digests ≡ map (run_row name) run.rows ++ above_rows group layers digests
rows_are name run group layers digests = simp append_assoc

-- a test that all rows above the layers pass
module _ (test : Row → Bool) (app : (digest : List ℕ) → test (app_row digest) ≡ true)
    (launcher : (digest : List ℕ) → test (launcher_row digest) ≡ true)
    (process : (digest : Option (List ℕ)) → list_all test (process_rows digest) ≡ true) where
  top_pass : (digests : List (List ℕ)) (last : List ℕ) (links : Option (List ℕ))
      → list_all test (map app_row digests ++ (launcher_row last ∷ process_rows links)) ≡ true
  top_pass [] last links = and_from (test (launcher_row last)) (list_all test (process_rows links))
      (launcher last) (process links)
  top_pass (digest ∷ digests) last links =
      and_from (test (app_row digest)) (list_all test
      (map app_row digests ++ (launcher_row last ∷ process_rows links))) (app digest)
      (top_pass digests last links)

  above_pass : (group : List GroupRow) (layers : List ImageLayer) (digests : Digests)
      → list_all test (map (layer_row group) layers) ≡ true
      → list_all test (above_rows group layers digests) ≡ true
  above_pass group layers digests h =
      list_all-append test (map (layer_row group) layers)
      (map app_row digests.app ++ (launcher_row digests.launcher ∷ process_rows digests.process))
      ∙ and_from (list_all test (map (layer_row group) layers))
      (list_all test (map app_row digests.app ++ (launcher_row digests.launcher
      ∷ process_rows digests.process))) h
      (top_pass digests.app digests.launcher digests.process)

links_placed : (digest : Option (List ℕ)) → list_all is_row (process_rows digest) ≡ true
links_placed None = refl
links_placed (Some digest) = refl

links_other : (digest : Option (List ℕ)) → has_no_run_row (process_rows digest) ≡ true
links_other None = refl
links_other (Some digest) = refl

layers_other : (group : List GroupRow) (layers : List ImageLayer) → has_no_run_row (map (layer_row group) layers) ≡ true
layers_other group [] = refl
layers_other group (layer ∷ layers) = layers_other group layers

-- ---- the image

pub image_readable : (name : List ℕ) (run : RunDoc) (group : List GroupRow) (gathered : Gathered)
    (digests : Digests) → is_image_name name ≡ true → is_run_doc run ≡ true → Gathers [] gathered
    → are_placed group gathered.layers ≡ true
    → is_short_path (entrypoint_of (default_of gathered.processes)) ≡ true
    → is_image_doc (image_of name run group gathered digests) ≡ true
image_readable name run group gathered digests named is-run h placed started =
    let above = above_rows group gathered.layers digests in
    and_from _ _ (base_readable name digests.launcher run is-run)
    (and_from _ _ (ap are_rows (rows_are name run group gathered.layers digests)
    ∙ and_from _ _ (run_rows_sound name run.rows above named
    (above_pass is_row (λ digest. refl) (λ digest. refl) links_placed group gathered.layers digests placed))
    (run_rows_ordered name run.rows above (run_filled run is-run)
    (above_pass (λ row. not (is_run row)) (λ digest. refl) (λ digest. refl) links_other group gathered.layers
    digests (layers_other group gathered.layers))))
    (and_from _ _ (env_readable run.env (run_env run is-run))
    (and_from _ _ started
    (and_from _ _ (last_hold label_key is_label gathered.labels h.labels)
    (and_from _ _ (and_from _ _ (last_hold process_key is_process gathered.processes h.processes)
    (last_distinct process_key is_process gathered.processes h.processes))
    (and_from _ _ h.layers h.store))))))
