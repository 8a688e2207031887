use Rattle.std.proofs.Common.{◌≡◌, take}
use Rattle.cnb_record.proofs.metadata.+same.Given as goal

abbrev pub invariant-same_list-loop-place : goal.invariant-same_list-loop-place
invariant-same_list-loop-place l = take l.place l.one ≡ take l.place l.other

abbrev pub invariant-same_table-loop-place : goal.invariant-same_table-loop-place
invariant-same_table-loop-place l = take l.place l.one ≡ take l.place l.other
