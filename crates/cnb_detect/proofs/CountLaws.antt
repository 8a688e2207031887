-- What the steps of `detect` do to the counts, by what ended them.
use Rattle.std.proofs.Common.{◌≡◌, refl, ℕ, List}
use Rattle.cnb_words.specs.declared.choice.ChoiceWords.{ChoiceWords}
use Rattle.cnb_world.specs.declared.env.Variable.{Variable}
use Rattle.doc_files.specs.Faults.{read_cause}
use Rattle.doc_files.specs.declared.fault.ReadFault.{ReadFault}
use Rattle.doc_files.specs.declared.fault.ReadFault.TheVariants as read
use Rattle.order_expand.specs.Check.{cause_of as order_cause}
use Rattle.order_expand.specs.declared.order.OrderFault.{OrderFault}
use Rattle.order_expand.specs.declared.order.OrderFault.TheVariants as order
use Rattle.steps.specs.Counts.{FileCounts}
use Rattle.steps.specs.EitherCounts.{OutsideCounts}
use Rattle.steps.proofs.EndLaws.{Obeys, files_among, files_link, files_rest, obeys_bind, obeys_gives, obeys_told}
use Rattle.steps.proofs.EndLaws.{obeys_yields, reads_counts, writes_counts}
use Rattle.steps.proofs.OutsideLaws.{obeys_asks, obeys_over_world, outside_link, outside_rest}
use Rattle.cnb_detect.specs.Choice.{Choice}
use Rattle.cnb_detect.specs.declared.target.TargetSource.{TargetSource}
use Rattle.cnb_detect.specs.declared.target.TargetSource.TheVariants.{Document, Given}
use Rattle.cnb_detect.specs.Detects.{chooses, detects}
use Rattle.cnb_detect.specs.Documents.{writes_choice}
use Rattle.cnb_detect.specs.Preparation.{prepares}
use Rattle.cnb_detect.specs.Refusals.{cause_of, of_order_fault, of_read_fault}
use Rattle.cnb_detect.specs.Target.{takes_target}

pub read_causes : (fault : ReadFault) → cause_of (of_read_fault fault) ≡ read_cause fault
read_causes (read.File path) = refl
read_causes (read.Document path fault) = refl
read_causes (read.Limit kind) = refl
read_causes read.Memory = refl

pub order_causes : (fault : OrderFault) → cause_of (of_order_fault fault) ≡ order_cause fault
order_causes (order.Absent id) = refl
order_causes (order.Ambiguous id) = refl
order_causes (order.Api id api) = refl
order_causes (order.Deep id) = refl
order_causes order.ManyGroups = refl
order_causes order.LongGroup = refl
order_causes order.Memory = refl

target_counts : (source : TargetSource) (work : List ℕ) → Obeys FileCounts cause_of (takes_target source work)
target_counts Document work = obeys_told FileCounts read_cause cause_of of_read_fault _ read_causes
    (reads_counts read_cause _ _ _)
target_counts (Given target) work = obeys_gives _ _ _ files_rest

pub prepares_counts : (source : TargetSource) (options : ChoiceWords) (env : List Variable)
    → Obeys FileCounts cause_of (prepares source options env)
unfolding prepares
prepares_counts source options env =
    obeys_bind _ _ _ _ files_link (obeys_told FileCounts read_cause cause_of of_read_fault _ read_causes
    (reads_counts read_cause _ _ _))
    (λ order. obeys_bind _ _ _ _ files_link (obeys_told FileCounts read_cause cause_of of_read_fault _ read_causes
    (reads_counts read_cause _ _ _))
    (λ catalog. obeys_bind _ _ _ _ files_link (obeys_told FileCounts order_cause cause_of of_order_fault _
    order_causes (obeys_gives _ _ _ files_rest))
    (λ groups. obeys_bind _ _ _ _ files_link (target_counts source options.work)
    (λ target. obeys_bind _ _ _ _ files_link (obeys_told FileCounts read_cause cause_of of_read_fault _
    read_causes (reads_counts read_cause _ _ _))
    (λ files. obeys_gives _ _ _ files_rest)))))

pub written_choice_counts : (work : List ℕ) (choice : Choice) → Obeys FileCounts cause_of (writes_choice work choice)
unfolding writes_choice
written_choice_counts work choice =
    obeys_bind _ _ _ _ files_link (writes_counts cause_of _ _)
    (λ group. obeys_bind _ _ _ _ files_link (writes_counts cause_of _ _) (λ plan. obeys_yields _ _ _ files_rest))

pub choice_counts : (source : TargetSource) (options : ChoiceWords) (env : List Variable)
    → Obeys OutsideCounts cause_of (chooses source options env)
unfolding chooses
choice_counts source options env =
    obeys_bind _ _ _ _ outside_link (obeys_over_world cause_of _
    (files_among cause_of _ (prepares_counts source options env))) (λ prepared. obeys_asks cause_of _ _ _)

pub detect_counts : (source : TargetSource) (options : ChoiceWords) (env : List Variable)
    → Obeys OutsideCounts cause_of (detects source options env)
unfolding detects
detect_counts source options env =
    obeys_bind _ _ _ _ outside_link (choice_counts source options env)
    (λ choice. obeys_bind _ _ _ _ outside_link (obeys_gives _ _ _ outside_rest)
    (λ text. obeys_bind _ _ _ _ outside_link (obeys_over_world cause_of _
    (files_among cause_of _ (written_choice_counts options.work choice)))
    (λ written. obeys_yields _ _ _ outside_rest)))
