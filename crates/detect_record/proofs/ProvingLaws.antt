-- What a record proves of the answers that it has.
use Rattle.std.proofs.Common.{◌≡◌, ◌+◌, true, List, [], ◌∷◌, take, refl, sym, ◌∙◌, ap}
use Rattle.std.proofs.lemmas.Bool.{false≢true, and_parts}
use Rattle.cnb_toml.specs.declared.names.Key.{Key}
use Rattle.cnb_toml.specs.Keys.{same_key}
use Rattle.detect_core.specs.Kept.{keys_of}
use Rattle.detect_core.proofs.MemberLemmas.{same_key-true}
use Rattle.detect_record.specs.Proving.{RecordProves, same_keys, asked_in, answered_by}
use Rattle.detect_record.proofs.RecordLemmas.{record_proves}

pub same_keys-true : (xs ys : List Key) → same_keys xs ys ≡ true → xs ≡ ys
same_keys-true [] [] e = refl
same_keys-true [] (y ∷ ys) e = absurd (false≢true e)
same_keys-true (x ∷ xs) [] e = absurd (false≢true e)
same_keys-true (x ∷ xs) (y ∷ ys) e =
    let parts = and_parts (same_key x y) (same_keys xs ys) e in
    let here = same_key-true x y parts.0 in
    let more = same_keys-true xs ys parts.1 in
    λ i. here i ∷ more i

pub proves_choice : RecordProves
proves_choice target answers groups lines place rows number trial set e =
    let found = record_proves (answered_by target answers groups) groups lines place rows number trial set e in (
      found.0,
      same_keys-true (keys_of answers) (asked_in target (take (place + 1) groups)) found.2
          ∙ ap (asked_in target) (sym found.1),
    )
