use Rattle.std.proofs.Common.{◌+◌, ◌*◌}
use Rattle.scenarios.proofs.spelling.+spell.Given as goal

abbrev pub decreases-spell : goal.decreases-spell
decreases-spell l = 2 * l.levels

abbrev pub decreases-spell_names : goal.decreases-spell_names
decreases-spell_names l = 2 * l.levels + 1
