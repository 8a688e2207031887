-- What is written behind other lines.
use Rattle.std.proofs.Common.{◌≡◌, ◌∙◌, ℕ, ◌+◌, ◌<◌, List, ◌++◌, length, get_or, take, Ok, Err, Result, ap, sym, arith}
use Rattle.std.proofs.Common.{append_assoc}
use Rattle.std.specs.Prelude.{flat_map}
use Rattle.std.proofs.lemmas.List.{length-append}
use Rattle.std.proofs.lemmas.List.Folds.{length-flat_map-take}
use Rattle.detect_record.specs.declared.outcome.RecordFault.{RecordFault}
use Rattle.detect_record.specs.declared.outcome.RecordFault.TheVariants.{Large, Memory}
use Rattle.detect_record.specs.RecordText.{IsPutBehind}

-- what is refused behind the first items is refused with all of them
pub items_refused : {X : Type 0} (f : X → List ℕ) (xs : List X) (at : ℕ) (x : X) (old now after end : List ℕ)
    (fault : RecordFault) → at < length xs → x ≡ get_or xs at x
    → now ≡ old ++ flat_map f (take at xs) → IsPutBehind now (f x) after (Err fault)
    → IsPutBehind old (flat_map f xs) end (Err fault)
items_refused f xs at x old now after end Large within is so_far refused =
    let most = length-flat_map-take f xs at x within in
    let here : length (f (get_or xs at x)) ≡ length (f x) = ap (λ item. length (f item)) (sym is) in
    let before : length now ≡ length old + length (flat_map f (take at xs)) = ap length so_far
    ∙ length-append old (flat_map f (take at xs)) in
    omega (arith, refused, most, here, before, length-append now (f x), length-append old (flat_map f xs))
items_refused f xs at x old now after end Memory within is so_far refused = tt

-- texts one behind another
pub put_both : (old first middle second new : List ℕ) (result : Result (Unit {0}) RecordFault)
    → middle ≡ old ++ first → IsPutBehind middle second new result → IsPutBehind old (first ++ second) new result
put_both old first middle second new (Ok done) put behind = behind ∙ ap (λ text. text ++ second) put
    ∙ append_assoc old first second
put_both old first middle second new (Err Large) put behind =
    let same : length middle ≡ length old + length first = ap length put ∙ length-append old first in
    omega (
      arith,
      behind,
      same,
      length-append middle second,
      length-append old
          (first ++ second),
      length-append first second,
    )
put_both old first middle second new (Err Memory) put behind = tt

-- what is refused is refused with what follows
pub put_refused : (old first second middle new : List ℕ) (fault : RecordFault)
    → IsPutBehind old first middle (Err fault) → IsPutBehind old (first ++ second) new (Err fault)
put_refused old first second middle new Large refused = omega
    (arith, refused, length-append old first, length-append old (first ++ second), length-append first second)
put_refused old first second middle new Memory refused = tt
