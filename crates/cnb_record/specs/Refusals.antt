-- Why the steps of `check` are refused.
use Rattle.std.specs.Prelude.{true, false}
use Rattle.cnb_world.specs.declared.limits.LimitKind.TheVariants as limit
use Rattle.doc_files.specs.declared.fault.ReadFault.{ReadFault}
use Rattle.doc_files.specs.declared.fault.ReadFault.TheVariants as read
use Rattle.order_expand.specs.declared.order.OrderFault.{OrderFault}
use Rattle.order_expand.specs.declared.order.OrderFault.TheVariants as order
use Rattle.detect_record.specs.declared.outcome.CheckFault.{CheckFault}
use Rattle.detect_record.specs.declared.outcome.CheckFault.TheVariants as check
use Rattle.steps.specs.Causes.{Cause, FileFailed, OutOfMemory, Decided}
use Rattle.cnb_record.specs.declared.refusal.CheckRefusal.{CheckRefusal}
use Rattle.cnb_record.specs.declared.refusal.CheckRefusal.TheVariants.{File, Memory, Document, Limit, BuildpackApi}
use Rattle.cnb_record.specs.declared.refusal.CheckRefusal.TheVariants.{Order, BadRecord, RecordDiffers}

abbrev pub cause_of : CheckRefusal → Cause
cause_of (File path) = FileFailed path
cause_of Memory = OutOfMemory
cause_of (Document path fault) = Decided
cause_of (Limit kind) = Decided
cause_of (BuildpackApi text) = Decided
cause_of (Order id ambiguous) = Decided
cause_of (BadRecord line) = Decided
cause_of (RecordDiffers path) = Decided

abbrev pub of_read_fault : ReadFault → CheckRefusal
of_read_fault (read.File path) = File path
of_read_fault (read.Document path fault) = Document path fault
of_read_fault (read.Limit kind) = Limit kind
of_read_fault read.Memory = Memory

abbrev pub of_order_fault : OrderFault → CheckRefusal
of_order_fault (order.Absent id) = Order id false
of_order_fault (order.Ambiguous id) = Order id true
of_order_fault (order.Api id api) = BuildpackApi api
of_order_fault (order.Deep id) = Limit limit.Nesting
of_order_fault order.ManyGroups = Limit limit.Groups
of_order_fault order.LongGroup = Limit limit.Entries
of_order_fault order.Memory = Memory

abbrev pub of_check_fault : CheckFault → CheckRefusal
of_check_fault (check.Bad line) = BadRecord line
of_check_fault check.Memory = Memory
