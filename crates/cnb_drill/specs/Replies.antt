-- What the children of the drill's buildpacks answer, by the digits of a number.
use Rattle.std.specs.Prelude.{ℕ, ℤ, pos, Option, Some, ◌+◌, ◌==◌, nat_lt, List, [], ◌∷◌, ◌++◌, codes, map}
use Rattle.std.specs.Prelude.{if◌then◌else◌}
use Rattle.cnb_world.specs.declared.child.Reply.{Reply}
use Rattle.cnb_toml.specs.declared.names.Key.{Key}
use Rattle.cnb_drill.specs.Buildpacks.{component_key, eight, tail_key}
use Rattle.cnb_drill.specs.Digits.{digits_of}

-- a component provides `x` and its column, or `y` and its column
abbrev pub digit_plan : ℕ → List ℕ
digit_plan column =
    codes "[[provides]]\nname = \"x" ++ (48 + column) ∷ codes "\"\n[[or]]\n[[or.provides]]\nname = \"y"
    ++ (48 + column) ∷ codes "\"\n"

-- the last component requires the second of each column
abbrev pub tail_plan : List ℕ
tail_plan = codes "[[requires]]\nname = \"y0\"\n[[requires]]\nname = \"y1\"\n[[requires]]\nname = \"y2\"\n[[requires]]\nname = \"y3\"\n"

-- the number's own digit passes, smaller ones fail, larger ones end with an error
abbrev pub digit_code : ℕ → ℕ → ℤ
digit_code wanted digit = if digit == wanted then pos 0 else if nat_lt digit wanted then pos 100 else pos 1

abbrev pub reply_by : Key → Option ℤ → List ℕ → Reply
reply_by key code plan = record { id = key.id; version = key.version; probed = record { code = code; plan = plan } }

abbrev pub column_replies : ℕ → ℕ → List Reply
column_replies column wanted = map (λ digit. reply_by (component_key column digit)
    (Some (digit_code wanted digit)) (digit_plan column)) eight

-- the replies for these digits, from a column on
abbrev pub replies_from : ℕ → List ℕ → List Reply
replies_from column [] = reply_by tail_key (Some (pos 0)) tail_plan ∷ []
replies_from column (wanted ∷ digits) = column_replies column wanted ++ replies_from (column + 1) digits

unfoldable pub drill_replies : ℕ → List Reply
drill_replies number = replies_from 0 (digits_of number)
