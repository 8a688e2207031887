-- How many children are asked for some numbers.
use Rattle.std.specs.Prelude.{◌≡◌, refl, [], ◌∷◌}
use Rattle.cnb_drill.specs.Digits.{asked_count, digits_of}

pub nine_is_0011 : digits_of 9 ≡ 0 ∷ 0 ∷ 1 ∷ 1 ∷ []
nine_is_0011 = refl

-- one of each column, and the last component
pub five_for_0 : asked_count 0 ≡ 5
five_for_0 = refl

-- two of the third column, and all of the fourth
pub thirteen_for_9 : asked_count 9 ≡ 13
thirteen_for_9 = refl

pub all_for_4095 : asked_count 4095 ≡ 33
all_for_4095 = refl
