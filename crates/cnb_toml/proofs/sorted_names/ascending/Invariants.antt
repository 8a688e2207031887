use Rattle.std.proofs.Common.{◌≡◌, vec_len, map}
use Rattle.cnb_toml.specs.Ascending.{ascending}
use Rattle.cnb_toml.proofs.AscendingLemmas.{put_all}
use Rattle.cnb_toml.proofs.sorted_names.ascending.Given as goal

abbrev pub invariant-loop-name : goal.invariant-loop-name
invariant-loop-name l = put_all (map (λ name. name.now) l.names.items) (map (λ name. name.now) l.set.keys)
    ≡ ascending (map (λ name. name.now) l.initial.names.items)

abbrev pub decreases-loop-name : goal.decreases-loop-name
decreases-loop-name l = vec_len l.names
