-- What the lines of a record prove.
use Rattle.std.specs.Prelude.{ℕ, ◌≡◌, ◌+◌, true, List, take, map, Some}
use Rattle.std.specs.List.{list_all}
use Rattle.cnb_toml.specs.declared.names.Key.{Key}
use Rattle.order_expand.specs.declared.member.Member.{Member}
use Rattle.plan_resolve.specs.declared.rows.AliveRow.{AliveRow}
use Rattle.plan_resolve.specs.declared.rows.TrialRow.{TrialRow}
use Rattle.plan_resolve.specs.declared.rows.Resolved.{Resolved}
use Rattle.plan_resolve.specs.Resolution.{resolved_at}
use Rattle.plan_resolve.specs.Plan.{at_places}
use Rattle.detect_core.specs.Detection.{FirstTrial, first_ending, reached}
use Rattle.detect_record.specs.declared.parts.GroupLine.{GroupLine}
use Rattle.detect_record.specs.Canonical.{lines_of}
use Rattle.detect_record.specs.Record.{Answered, AtGroup, AtEnd, after_all}

-- Where each line meets its rule and the last one is the kept trial's, the first trial that passes is that trial, what
-- it keeps are the places left, and the groups reached are those up to its place, by whose keys the answers are judged.
abbrev pub RecordsFirstTrial : Type 0
RecordsFirstTrial = (answered : Answered) (groups : List (List Member)) (lines : List GroupLine)
    (place : ℕ) (rows : List AliveRow) (number : ℕ) (trial : List TrialRow) (set : List ℕ) →
    after_all answered (Some (AtGroup 0 groups)) lines ≡ Some (AtEnd place rows number trial set) →
    (first_ending answered.says 0 groups ≡ Some (FirstTrial place (resolved_at rows number trial set)
    (map (λ row. row.key) (at_places rows set))))
    × (reached answered.says 0 groups ≡ take (place + 1) groups)
    × (answered.keys_right place ≡ true)

-- Where a trial passes first, and each member that was met is answered, the canonical lines meet their rules.
abbrev pub CanonicalProves : Type 0
CanonicalProves = (answered : Answered) (groups : List (List Member)) (place : ℕ) (resolved : Resolved)
    (keys : List Key) →
    first_ending answered.says 0 groups ≡ Some (FirstTrial place resolved keys) →
    list_all (list_all answered.has_answer) (reached answered.says 0 groups) ≡ true → answered.keys_right place ≡ true →
    (rows : List AliveRow) × (number : ℕ) × (trial : List TrialRow) × (set : List ℕ)
    × (after_all answered (Some (AtGroup 0 groups)) (lines_of answered.says groups)
    ≡ Some (AtEnd place rows number trial set))
