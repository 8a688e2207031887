-- The event that a whole field brings, which private calls alone speak of.
use Rattle.std.specs.Prelude.{ℕ, List, length}
use Rattle.std.specs.Int.{from_be_bytes, w32, w64}
use Rattle.tree_canon.specs.declared.event.Event.{Event}
use Rattle.tree_canon.specs.declared.event.Event.TheVariants as event
use Rattle.tree_canon.specs.declared.next_field.NextField.{NextField}
use Rattle.tree_canon.specs.declared.next_field.NextField.TheVariants as field

-- by its bytes, or by the last bytes of a file's contents
abbrev pub event_by : NextField → List ℕ → Event
event_by field.Count bytes = event.Open (from_be_bytes w32 bytes)
event_by (field.Name left last size) bytes = event.Name bytes
event_by (field.FileLength exec) bytes = event.File exec (from_be_bytes w64 bytes)
event_by (field.Contents size taken) bytes = event.Part (length bytes)
event_by (field.Target size) bytes = event.Link bytes
event_by f bytes = event.More
