-- A small detection with sound documents ends since no group passes.
use Rattle.std.proofs.Common.{◌≡◌, refl, subst, arith, ℕ, false, List, [], ◌∷◌, ◌++◌, length, map}
use Rattle.std.proofs.Common.{Some, None, Result, Ok, Err}
use Rattle.std.specs.Prelude.{Bool, codes}
use Rattle.std.specs.List.{AllByRecursion}
use Rattle.std.specs.Str.{chars, is_utf8}
use Rattle.toml.proofs.OnLiterals.{toml_on_literals}
use Rattle.bp_docs.specs.BuildPlan.{build_plan_in}
use Rattle.cnb_detect.specs.Choice.{choice_of, jobs_of, listed_jobs}
use Rattle.cnb_detect.specs.Detects.{chooses, detects}
use Rattle.cnb_detect.specs.Preparation.{prepares}
use Rattle.cnb_detect.specs.Refusals.{cause_of, of_order_fault, of_read_fault}
use Rattle.cnb_detect.specs.declared.refusal.DetectRefusal.TheVariants.{NoGroup}
use Rattle.cnb_detect.specs.declared.target.TargetSource.TheVariants.{Document}
use Rattle.cnb_world.specs.Runs.{Ran}
use Rattle.cnb_world.specs.Tree.{Tree}
use Rattle.detect_core.specs.Detection.{asked_members, first_trial}
use Rattle.doc_files.specs.Faults.{read_cause}
use Rattle.doc_files.specs.declared.fault.ReadFault.{ReadFault}
use Rattle.order_expand.specs.Check.{cause_of as order_cause, checked}
use Rattle.order_expand.specs.Groups.{listed_groups, raw_groups}
use Rattle.steps.proofs.StepLemmas.{allowed_by, ended, given, mapped, went, within, within_spawners}
use Rattle.steps.specs.Asking.{IsMadeOf, RunShares, asks}
use Rattle.steps.specs.Steps.{reads}
use Rattle.detect_laws.specs.Alternatives.{HasOneAlternative}
use Rattle.detect_laws.specs.Small.{small_buildpack, small_files, small_order}
use Rattle.detect_laws.specs.SmallRun.{small_options, small_outside, small_prepared, small_ran, small_world}
use Rattle.detect_laws.specs.Sound.{DetectsSoundly}
use Rattle.detect_laws.proofs.AlternativeLaws.{one_alternative_is_few}
use Rattle.detect_laws.proofs.OrderLemmas.{order_checked, order_read}
use Rattle.detect_laws.proofs.SmallLaws.{small_detection_is_sound}
use Rattle.detect_laws.proofs.SmallLemmas.{catalog_reads, order_there, platform_absent, small_is_sound, target_absent}
use Rattle.detect_laws.proofs.TargetLemmas.{target_unknown}
use Rattle.detect_laws.proofs.VariableLemmas.{no_variables}

-- ---- what holds of each spawner's children holds of all answers

abbrev AtPlace : {X : Type 0} → (X → Type 0) → List X → X → List X → Type 0
AtPlace {X} P front x back = P x × ((y : X) → P y → AllByRecursion P (front ++ y ∷ back))

at_place : {X : Type 0} (P : X → Type 0) (front : List X) (x : X) (back : List X)
    → AllByRecursion P (front ++ x ∷ back) → AtPlace P front x back
at_place P [] x back h = (h.0, λ y p. (p, h.1))
at_place P (first ∷ front) x back h =
    let later = at_place P front x back h.1 in (later.0, λ y p. (h.0, later.1 y p))

made_all : (P : Ran → Type 0) (answers : List Ran) (shares : List (List Ran)) → IsMadeOf answers shares
    → AllByRecursion (AllByRecursion P) shares → AllByRecursion P answers
made_all P [] shares made h = tt
made_all P (ran ∷ rans) shares (front, rest, back, is, made) h =
    let here = at_place (AllByRecursion P) front (ran ∷ rest) back
    (subst (AllByRecursion (AllByRecursion P)) is h) in
    (here.0.0, made_all P rans (front ++ rest ∷ back) made (here.1 rest here.0.1))

-- the one spawner ran its one child
one_share : (P : Ran → Type 0) (shares : List (List Ran)) → P small_ran
    → RunShares shares (small_outside []).spawners (small_outside (small_ran ∷ [])).spawners
    → AllByRecursion (AllByRecursion P) shares
one_share P [] p h = tt
one_share P (share ∷ []) p (more, u) = (subst (AllByRecursion P) more.runs (p, tt), tt)
one_share P (share ∷ other ∷ shares) p (more, h) = absurd h

no_alternative : HasOneAlternative small_ran
unfolding build_plan_in is_utf8 chars toml_on_literals
no_alternative = omega arith

-- ---- its steps

reads_there : {A : Type 0} (Among : List ℕ → Type 0) (fits : Tree → Bool) (want : Tree → Result A ReadFault) (value : A)
    → want small_files ≡ Ok value → reads read_cause Among fits want small_world (Ok value) small_world
unfolding reads
reads_there Among fits want value is = record {
  same = record { files = refl; runs = refl };
  answer = is;
  cause = tt;
  named = tt;
  allows = allowed_by fits (Some small_files) 0 0 refl;
  counts = record { ends = tt; files = refl; children = refl };
}

prepares_small : prepares Document small_options [] small_world (Ok small_prepared) small_world
unfolding prepares
prepares_small =
    let w = small_world in
    let groups = length (listed_groups (small_buildpack ∷ []) small_order) in
    went _ _ w w w small_order (Ok small_prepared) (mapped of_read_fault _ w w small_order
    (reads_there _ _ _ small_order (order_read small_files (codes "/o") small_order order_there)))
    (went _ _ w w w (small_buildpack ∷ []) (Ok small_prepared) (mapped of_read_fault _ w w (small_buildpack ∷ [])
    (reads_there _ _ _ (small_buildpack ∷ []) catalog_reads))
    (went _ _ w w w groups (Ok small_prepared) (mapped of_order_fault _ w w groups
    (given order_cause (checked (small_buildpack ∷ []) small_order) w groups
    (order_checked (small_buildpack ∷ []) small_order small_is_sound)))
    (went _ _ w w w None (Ok small_prepared) (mapped of_read_fault _ w w None
    (reads_there _ _ _ None (target_unknown small_files (codes "/w") target_absent)))
    (went _ _ w w w [] (Ok small_prepared) (mapped of_read_fault _ w w []
    (reads_there _ _ _ [] (no_variables small_files (codes "/p") platform_absent)))
    (given cause_of (Ok small_prepared) w small_prepared refl)))))

jobs_asked : map (λ (ran : Ran). ran.job) (small_ran ∷ []) ≡ jobs_of small_prepared (small_ran ∷ [])
unfolding asked_members listed_groups raw_groups
jobs_asked = refl

none_passes : choice_of small_prepared (small_ran ∷ []) ≡ Err (NoGroup false)
unfolding choice_of first_trial asked_members listed_groups raw_groups
none_passes = refl

asks_small : asks cause_of (listed_jobs small_prepared) (jobs_of small_prepared) (choice_of small_prepared)
    (small_outside []).spawners (Err (NoGroup false)) (small_outside (small_ran ∷ [])).spawners
unfolding asks
asks_small = record {
  answers = small_ran ∷ [];
  asked = record {
    shares = (small_ran ∷ []) ∷ [];
    made = ([], [], [], refl, (refl, tt));
    ran = (record { runs = refl; says = refl; said = (tt, tt) }, tt);
  };
  meets = (jobs_asked, none_passes);
  counts = refl;
}

chooses_small : chooses Document small_options [] (small_outside []) (Err (NoGroup false))
    (small_outside (small_ran ∷ []))
unfolding chooses
chooses_small = went _ _ (small_outside []) (small_outside []) (small_outside (small_ran ∷ [])) small_prepared
    (Err (NoGroup false))
    (within _ small_world small_world (small_outside []).spawners (Ok small_prepared) prepares_small)
    (within_spawners _ small_world (small_outside []).spawners (small_outside (small_ran ∷ [])).spawners
    (Err (NoGroup false)) asks_small)

detects_small : detects Document small_options [] (small_outside []) (Err (NoGroup false))
    (small_outside (small_ran ∷ []))
unfolding detects
detects_small = ended _ _ (small_outside []) (small_outside (small_ran ∷ [])) (NoGroup false) chooses_small

pub small_detection_ends : DetectsSoundly Document small_options [] small_files (small_outside [])
    (Err (NoGroup false)) (small_outside (small_ran ∷ []))
small_detection_ends = record {
  sound = small_detection_is_sound;
  told = refl;
  trials = λ prepared answers read asked. one_alternative_is_few prepared answers (made_all HasOneAlternative answers
      asked.shares asked.made (one_share HasOneAlternative asked.shares no_alternative asked.ran));
  steps = detects_small;
}
