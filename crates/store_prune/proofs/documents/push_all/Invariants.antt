use Rattle.std.proofs.Common.{◌≡◌, ◌++◌, take}
use Rattle.store_prune.proofs.documents.push_all.Given as goal

abbrev pub invariant-loop-digest : goal.invariant-loop-digest
invariant-loop-digest l = l.named ≡ l.initial.named ++ take l.digest-index l.digests
