-- The image that a run image, what buildpacks left and the trees above the layers make (platform.md, "exporter").
use Rattle.std.specs.Prelude.{ℕ, List, map, Option}
use Rattle.cnb_toml.specs.declared.names.Key.{Key}
use Rattle.cnb_toml.specs.declared.process.Process.{Process}
use Rattle.run_docs.specs.declared.group.GroupRow.{GroupRow}
use Rattle.image_docs.specs.declared.image.ImageDoc.{ImageDoc}
use Rattle.image_docs.specs.declared.launch_doc.LaunchDoc.{LaunchDoc}
use Rattle.image_docs.specs.declared.run_image.RunDoc.{RunDoc}
use Rattle.image_files.specs.RunPart.{base_of, image_env}
use Rattle.cnb_export.specs.Ascending.{label_key, last_of_each, process_key}
use Rattle.cnb_export.specs.Processes.{default_of, entrypoint_of}
use Rattle.cnb_export.specs.Rows.{rows_of}
use Rattle.cnb_export.specs.declared.exported.Digests.{Digests}
use Rattle.cnb_layers.specs.Gathering.{layer_of}
use Rattle.cnb_layers.specs.declared.gathered.Gathered.{Gathered}

abbrev pub key_of : GroupRow → Key
key_of row = row.key

-- how the image is launched: the last process of each type, and the default type
abbrev pub launch_of : List GroupRow → List Process → Option (List ℕ) → LaunchDoc
launch_of group processes default = record {
  buildpacks = map key_of group;
  processes = last_of_each process_key
      processes;
  default = default;
}

-- the image; a run image that was read has a row, whose digest is noted as its top
abbrev pub image_of : List ℕ → RunDoc → List GroupRow → Gathered → Digests → ImageDoc
image_of name run group gathered digests = record {
  base = base_of name run digests.launcher;
  rows = rows_of name run group gathered.layers digests;
  env = image_env run.env;
  entrypoint = entrypoint_of (default_of gathered.processes);
  labels = last_of_each label_key gathered.labels;
  launch = launch_of group gathered.processes (default_of gathered.processes);
  layers = map layer_of gathered.layers;
  store = gathered.store_rows;
}
