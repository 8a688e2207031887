-- A list of values, read from a place on after those read before.
use Rattle.std.proofs.Common.{◌≡◌, ℕ, ◌+◌, ◌<◌, List, [], ◌∷◌, ◌++◌, length, drop, get_or, Result, Ok, Err, refl, ap}
use Rattle.std.proofs.Common.{append_assoc}
use Rattle.std.specs.Fmt.{decimal}
use Rattle.toml.specs.View.{view, items_view}
use Rattle.toml.specs.declared.value.Value.{Value}
use Rattle.toml.proofs.Views.{items_view-drop}
use Rattle.cnb_toml.specs.declared.fault.DocFault.{DocFault}
use Rattle.cnb_toml.specs.Reading.{Answers, ◌>>=◌, under}
use Rattle.cnb_toml.specs.Form.{Form, items_in}

module _ {A : Type 0} where
  -- the items read before, and those of the values from a place on
  abbrev pub read_on : Form A → List A → ℕ → List Value → Result (List A) DocFault
  read_on form before place values = items_in form place (items_view (drop place values))
      >>= (λ rest. Ok (before ++ rest))

  one_more : (more : Result (List A) DocFault) (before : List A) (first : A)
      → (more >>= (λ rest. Ok ((before ++ first ∷ []) ++ rest)))
      ≡ ((more >>= (λ rest. Ok (first ∷ rest))) >>= (λ rest. Ok (before ++ rest)))
  one_more (Ok rest) before first = ap Ok (append_assoc before (first ∷ []) rest)
  one_more (Err fault) before first = refl

  pub read_on-ok : (form : Form A) (before : List A) (place : ℕ) (values : List Value) (value : Value) (first : A)
      → place < length values → value ≡ get_or values place value
      → Answers (Ok first) (under (decimal place) (form (view value)))
      → read_on form (before ++ first ∷ []) (place + 1) values ≡ read_on form before place values
  read_on-ok form before place values value first inside is read =
      rw (items_view-drop values place value inside, ← is, ← read)
      (one_more (items_in form (place + 1) (items_view (drop (place + 1) values))) before first)
