-- What the definitions say of some words.
use Rattle.std.specs.Prelude.{◌≡◌, refl, ℕ, List, [], ◌∷◌, codes, None, Option, Some, Ok, Err}
use Rattle.cnb_words.specs.Words.{asked_by}
use Rattle.cnb_words.specs.declared.detect.DetectWords.{DetectWords}
use Rattle.cnb_words.specs.declared.fault.WordsFault.TheVariants.{Usage}
use Rattle.cnb_words.specs.declared.launch.Call.TheVariants.{Entry}
use Rattle.cnb_words.specs.declared.words.Asked.TheVariants.{Detect, Drill, Launch}

abbrev detect_into : ℕ → Option (List ℕ) → DetectWords
detect_into workers proof_path = record {
  choice = record {
    order = codes "/o";
    buildpacks = codes "/b";
    app = codes "/a";
    platform = codes "/p";
    work =
        codes "/w";
    workers = workers;
  };
  proof_path = proof_path;
}

abbrev detect_with : ℕ → DetectWords
detect_with workers = detect_into workers None

-- the words `detect` with all its options but `--workers`, in front of others
abbrev detect_before : List (List ℕ) → List (List ℕ)
detect_before words =
    codes "lifecycle" ∷ codes "detect" ∷ codes "--order" ∷ codes "/o" ∷ codes "--buildpacks=/b" ∷ codes "--app"
    ∷ codes "/a"
    ∷ codes "--platform=/p" ∷ codes "--work" ∷ codes "/w" ∷ words

pub eight_workers_where_none_is_given : asked_by (detect_before []) ≡ Ok (Detect (detect_with 8))
eight_workers_where_none_is_given = refl

pub a_number_of_workers : asked_by (detect_before (codes "--workers=64" ∷ [])) ≡ Ok (Detect (detect_with 64))
a_number_of_workers = refl

pub no_65_workers : asked_by (detect_before (codes "--workers" ∷ codes "65" ∷ [])) ≡ Err Usage
no_65_workers = refl

pub a_record_may_be_beside_the_documents : asked_by (detect_before (codes "--record=/w/record" ∷ []))
    ≡ Ok (Detect (detect_into 8 (Some (codes "/w/record"))))
a_record_may_be_beside_the_documents = refl

pub no_record_is_a_document : asked_by (detect_before (codes "--record" ∷ codes "/w/plan.toml" ∷ [])) ≡ Err Usage
no_record_is_a_document = refl

pub no_record_is_the_root : asked_by (detect_before (codes "--record" ∷ codes "/" ∷ [])) ≡ Err Usage
no_record_is_the_root = refl

pub no_option_stands_twice : asked_by (detect_before (codes "--work=/w" ∷ [])) ≡ Err Usage
no_option_stands_twice = refl

pub no_value_in_a_word_of_its_own_begins_with_a_dash : asked_by
    (detect_before (codes "--workers" ∷ codes "-8" ∷ [])) ≡ Err Usage
no_value_in_a_word_of_its_own_begins_with_a_dash = refl

pub a_drill_has_a_number : asked_by (codes "lifecycle" ∷ codes "drill" ∷ codes "4095" ∷ [])
    ≡ Ok (Drill (record { number = 4095 }))
a_drill_has_a_number = refl

pub no_drill_is_4096 : asked_by (codes "lifecycle" ∷ codes "drill" ∷ codes "4096" ∷ []) ≡ Err Usage
no_drill_is_4096 = refl

pub no_number_has_a_leading_zero : asked_by (codes "lifecycle" ∷ codes "drill" ∷ codes "07" ∷ []) ≡ Err Usage
no_number_has_a_leading_zero = refl

pub a_process_is_launched : asked_by (codes "/r/cnb/process/web" ∷ codes "detect" ∷ [])
    ≡ Ok (Launch (record { root = codes "/r"; call = Entry (codes "web") (codes "detect" ∷ []) }))
a_process_is_launched = refl

pub no_process_is_two_dots : asked_by (codes "/cnb/process/.." ∷ []) ≡ Err Usage
no_process_is_two_dots = refl
