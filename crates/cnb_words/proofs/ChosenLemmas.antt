-- Commands, and options that words may not give.
use Rattle.std.proofs.Common.{◌≡◌, Bool, cond, true, false, codes, refl, ℕ, List, Option, Some, None, Err}
use Rattle.std.proofs.Common.{option_and_then}
use Rattle.std.specs.Str.{bytes_eq}
use Rattle.cnb_words.specs.Chosen.{phase_chosen}
use Rattle.cnb_words.specs.Faults.{AreReadAs}
use Rattle.cnb_words.specs.Options.{options_in}
use Rattle.cnb_words.specs.Reading.{checked_for}
use Rattle.cnb_words.specs.Words.{phase_asked, with_options}
use Rattle.cnb_words.specs.declared.fault.WordsFault.{WordsFault}
use Rattle.cnb_words.specs.declared.fault.WordsFault.TheVariants.{Usage, Memory}
use Rattle.cnb_words.specs.declared.options.Given.{Given}

-- what is asked for where the options pass a check is refused where they don't
pub refused_words : {T : Type 0} (once often words : List (List ℕ)) (asked : List Given → Option T) (fault : WordsFault)
    → ((options : List Given) → checked_for once often options ≡ None → asked options ≡ None)
    → AreReadAs (Err fault) (option_and_then (checked_for once often) (options_in words))
    → AreReadAs (Err fault) (option_and_then asked (options_in words))
refused_words once often words asked Memory fails h = tt
refused_words once often words asked Usage fails h = go (options_in words) h
  where
    go : (o : Option (List Given)) → option_and_then (checked_for once often) o ≡ None → option_and_then asked o ≡ None
    go None e = refl
    go (Some options) e = fails options e

same_both : {A : Type 0} (b : Bool) (x y : A) → y ≡ x → cond b x y ≡ x
same_both true x y e = refl
same_both false x y e = e

-- the command with its options is the command with those that words give
pub phase_law : (command : List ℕ) (options : Option (List Given))
    → phase_chosen command options ≡ with_options options (phase_asked command)
phase_law command (Some options) = refl
phase_law command None =
    let is = λ (name : List ℕ). bytes_eq command name in
    same_both (is (codes "detect")) (Err Usage) _
    (same_both (is (codes "analyze")) (Err Usage) _ (same_both (is (codes "restore")) (Err Usage) _
    (same_both (is (codes "build")) (Err Usage) _
    (same_both (is (codes "export")) (Err Usage) _ (same_both (is (codes "create")) (Err Usage) _
    (same_both (is (codes "rebase")) (Err Usage) _
    (same_both (is (codes "base")) (Err Usage) _ (same_both (is (codes "unpack")) (Err Usage) _
    (same_both (is (codes "show")) (Err Usage) _ (same_both (is (codes "prune")) (Err Usage) _
    (same_both (is (codes "verify")) (Err Usage) _
    (same_both (is (codes "check")) (Err Usage) _ refl))))))))))))
