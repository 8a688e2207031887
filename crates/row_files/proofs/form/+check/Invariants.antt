use Rattle.std.proofs.Common.{◌+◌, ◌*◌}
use Rattle.row_files.proofs.form.+check.Given as goal

abbrev pub decreases-check_value : goal.decreases-check_value
decreases-check_value l = 2 * l.levels

abbrev pub decreases-check_table : goal.decreases-check_table
decreases-check_table l = 2 * l.levels + 1

abbrev pub decreases-check_list : goal.decreases-check_list
decreases-check_list l = 2 * l.levels + 1

abbrev pub decreases-check_names : goal.decreases-check_names
decreases-check_names l = 2 * l.levels + 1
