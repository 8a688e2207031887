-- The folders of an export.
use Rattle.std.specs.Prelude.{◌≤◌, length}
use Rattle.cnb_layers.specs.declared.frame.ExportFrame.{ExportFrame}

-- they have at most 4,096 bytes
pub record KeepsLimits (frame : ExportFrame) : Type 0 where
  pub store : length frame.store ≤ 4096
  pub layers : length frame.layers ≤ 4096
  pub app : length frame.app ≤ 4096
  pub launcher : length frame.launcher ≤ 4096
