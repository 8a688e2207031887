use Rattle.std.proofs.Common.{take}
use Rattle.std.specs.List.{All}
use Rattle.detect_record.specs.LineLaws.{IsSoundAnswer}
use Rattle.detect_record.proofs.sizes.see_answers.Given as goal

abbrev pub invariant-loop-row : goal.invariant-loop-row
invariant-loop-row l = All (λ row. IsSoundAnswer row.key row.probed) (take l.row-index l.rows)
