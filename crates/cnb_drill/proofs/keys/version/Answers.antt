use Rattle.std.proofs.Common.{◌<◌, ◌∷◌, ◌++◌, sym, ap, Err, arith}
use Rattle.std.specs.Prelude.{codes}
use Rattle.std.proofs.lemmas.Fmt.{decimal_digit}
use Rattle.cnb_toml.specs.Names.{IsJoinedNumbers}
use Rattle.cnb_drill.proofs.keys.version.Goals as goal

one_joined : IsJoinedNumbers (codes "1.0.0")
one_joined =
    let one : 1 < 10 = omega arith in
    let none : 0 < 10 = omega arith in (
      1,
      0,
      0,
      omega arith,
      omega arith,
      omega arith,
      λ i. sym (decimal_digit 1 one) i ++ 46
          ∷ (sym (decimal_digit 0 none) i ++ 46 ∷ sym (decimal_digit 0 none) i),
    )

pub unreachable-requires : goal.unreachable-requires
unreachable-requires c =
    let is_version = c.in-Err-Bad.ensures.numbers.1 one_joined in
    let refused = c.in-Err-Bad.ensures.bad.0 (ap Err c.in-Err-Bad.field-0-is) in
    cc
