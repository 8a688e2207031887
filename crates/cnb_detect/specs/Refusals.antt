-- Why the steps of `detect` are refused.
use Rattle.std.specs.Prelude.{true, false}
use Rattle.cnb_world.specs.declared.limits.LimitKind.TheVariants as limit
use Rattle.doc_files.specs.declared.fault.ReadFault.{ReadFault}
use Rattle.doc_files.specs.declared.fault.ReadFault.TheVariants as read
use Rattle.order_expand.specs.declared.order.OrderFault.{OrderFault}
use Rattle.order_expand.specs.declared.order.OrderFault.TheVariants as order
use Rattle.detect_core.specs.declared.chosen.DetectEnd.{DetectEnd}
use Rattle.detect_core.specs.declared.chosen.DetectEnd.TheVariants as end
use Rattle.steps.specs.Causes.{Cause, FileFailed, ChildFailed, OutOfMemory, Decided}
use Rattle.cnb_detect.specs.declared.refusal.DetectRefusal.{DetectRefusal}
use Rattle.cnb_detect.specs.declared.refusal.DetectRefusal.TheVariants.{File, Memory, Document, Child, Limit}
use Rattle.cnb_detect.specs.declared.refusal.DetectRefusal.TheVariants.{BuildpackApi, Order, NoGroup}

abbrev pub cause_of : DetectRefusal → Cause
cause_of (File path) = FileFailed path
cause_of Memory = OutOfMemory
cause_of Child = ChildFailed
cause_of (Document path fault) = Decided
cause_of (Limit kind) = Decided
cause_of (BuildpackApi text) = Decided
cause_of (Order id ambiguous) = Decided
cause_of (NoGroup erred) = Decided

abbrev pub of_read_fault : ReadFault → DetectRefusal
of_read_fault (read.File path) = File path
of_read_fault (read.Document path fault) = Document path fault
of_read_fault (read.Limit kind) = Limit kind
of_read_fault read.Memory = Memory

abbrev pub of_order_fault : OrderFault → DetectRefusal
of_order_fault (order.Absent id) = Order id false
of_order_fault (order.Ambiguous id) = Order id true
of_order_fault (order.Api id api) = BuildpackApi api
of_order_fault (order.Deep id) = Limit limit.Nesting
of_order_fault order.ManyGroups = Limit limit.Groups
of_order_fault order.LongGroup = Limit limit.Entries
of_order_fault order.Memory = Memory

abbrev pub of_detect_end : DetectEnd → DetectRefusal
of_detect_end (end.NoGroup erred) = NoGroup erred
of_detect_end end.ManyTrials = Limit limit.Trials
of_detect_end end.Child = Child
of_detect_end end.Memory = Memory
