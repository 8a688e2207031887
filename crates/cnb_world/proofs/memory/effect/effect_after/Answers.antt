use Rattle.std.proofs.Common.{◌≡◌, [], ◌∷◌, true, false}
use Rattle.std.specs.Str.{bytes_eq}
use Rattle.cnb_world.specs.Effects.{covers, is_made_above}
use Rattle.cnb_world.proofs.PlayLemmas.{put_below, put_here, put_over}
use Rattle.cnb_world.proofs.memory.effect.effect_after.Goals as goal

pub returns-then-eq-2-clause-effect : goal.returns-then-eq-2-clause-effect
returns-then-eq-2-clause-effect c =
    let other : bytes_eq c.args.next.now.path (47 ∷ []) ≡ false = cc in
    let same : bytes_eq c.args.next.now.path c.args.path.now ≡ true = cc in
    put_here c.args.next.now c.args.path.now c.args.before other same

pub returns-then-covers-clause-effect : goal.returns-then-covers-clause-effect
returns-then-covers-clause-effect c =
    let other : bytes_eq c.args.next.now.path (47 ∷ []) ≡ false = cc in
    let apart : bytes_eq c.args.next.now.path c.args.path.now ≡ false = cc in
    let covered : covers c.args.next.now c.args.path.now ≡ true = cc in
    put_over c.args.next.now c.args.path.now other apart c.args.before covered

pub returns-then-is_made_above-clause-effect : goal.returns-then-is_made_above-clause-effect
returns-then-is_made_above-clause-effect c =
    let other : bytes_eq c.args.next.now.path (47 ∷ []) ≡ false = cc in
    let apart : bytes_eq c.args.next.now.path c.args.path.now ≡ false = cc in
    let free : covers c.args.next.now c.args.path.now ≡ false = cc in
    let above : is_made_above c.args.path.now c.args.next.now.path ≡ true = cc in
    put_below c.args.next.now c.args.path.now other apart c.args.before free above
