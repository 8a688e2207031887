use Rattle.std.proofs.Common.{◌≡◌, take, codes, string_bytes}
use Rattle.std.specs.List.{join_by}
use Rattle.cnb_env.proofs.paths.joined_paths.Given as goal

abbrev pub invariant-loop-place : goal.invariant-loop-place
invariant-loop-place l = string_bytes l.text ≡ join_by (λ path. path) (codes ":") (take l.place l.paths)
