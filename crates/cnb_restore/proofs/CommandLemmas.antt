-- Groups that are served.
use Rattle.std.proofs.Common.{◌≡◌, subst, List, Result}
use Rattle.run_docs.specs.declared.group.GroupRow.{GroupRow}
use Rattle.steps.specs.Steps.{gives}
use Rattle.cnb_restore.specs.declared.refusal.RestoreRefusal.{RestoreRefusal}
use Rattle.cnb_restore.specs.Commands.{refusal_cause, served}

pub served_as : {S : Type 0} (group rows : List GroupRow) (old : S) (result : Result (Unit {0}) RestoreRefusal)
    (new : S) → group ≡ rows → gives refusal_cause (served group) old result new
    → gives refusal_cause (served rows) old result new
served_as group rows old result new same h = subst (λ g. gives refusal_cause (served g) old result new) same h
