use Rattle.std.proofs.Common.{rules, arith}
use Rattle.tree_canon.proofs.PartLemmas.{entries_bytes_are, writes_two}
use Rattle.tree_canon.proofs.parts.write_entries.Goals as goal

pub returns-in_ok-push-in-len1-up-2 : goal.returns-in_ok-push-in-len1-up-2
returns-in_ok-push-in-len1-up-2 c = writes_two _ _ _ _ _ _ _ _ _ c.in_ok-push-in-len1-up.ensures.items
    c.in_ok-push-in-len1-up-2.ensures.items c.in_ok-put_name-in-len1-up.ensures
    (entries_bytes_are c.args.entries.now c.first-item.result c.as_str.result.now c.in-len1-up.len_at_least
    c.first-item.is (search rules)) (omega arith)
