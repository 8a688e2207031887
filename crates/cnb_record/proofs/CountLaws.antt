-- What the steps of `check` do to the counts, by what ended them.
use Rattle.std.proofs.Common.{◌≡◌, refl, subst, sym, ℕ, List, Result, Ok, Err}
use Rattle.cnb_words.specs.declared.check.CheckWords.{CheckWords}
use Rattle.detect_record.specs.Checking.{cause_of as check_cause}
use Rattle.detect_record.specs.declared.outcome.CheckFault.{CheckFault}
use Rattle.detect_record.specs.declared.outcome.CheckFault.TheVariants as check
use Rattle.detect_record.specs.declared.outcome.Checked.{Checked}
use Rattle.doc_files.specs.Faults.{read_cause}
use Rattle.doc_files.specs.declared.fault.ReadFault.{ReadFault}
use Rattle.doc_files.specs.declared.fault.ReadFault.TheVariants as read
use Rattle.order_expand.specs.Check.{cause_of as order_cause}
use Rattle.order_expand.specs.declared.order.OrderFault.{OrderFault}
use Rattle.order_expand.specs.declared.order.OrderFault.TheVariants as order
use Rattle.run_docs.specs.declared.group.GroupRow.{GroupRow}
use Rattle.run_docs.specs.declared.plan.PlanEntry.{PlanEntry}
use Rattle.steps.specs.Causes.{ended_by}
use Rattle.steps.specs.Counts.{FileCounts}
use Rattle.steps.specs.Outside.{Seen}
use Rattle.steps.proofs.EndLaws.{Obeys, files_link, files_rest, obeys_bind, obeys_gives, obeys_told, obeys_yields}
use Rattle.steps.proofs.EndLaws.{reads_counts}
use Rattle.cnb_record.specs.declared.ordering.Ordered.{Ordered}
use Rattle.cnb_record.specs.declared.refusal.CheckRefusal.{CheckRefusal}
use Rattle.cnb_record.specs.declared.refusal.CheckRefusal.TheVariants.{File, Memory, Document, Limit, BuildpackApi}
use Rattle.cnb_record.specs.declared.refusal.CheckRefusal.TheVariants.{Order, BadRecord, RecordDiffers}
use Rattle.cnb_record.specs.Checks.{IsMatched, checks, compares, compares_group, compares_plan, follows, matches}
use Rattle.cnb_record.specs.Checks.{proves, reads_group, reads_ordered}
use Rattle.cnb_record.specs.Refusals.{cause_of, of_check_fault, of_order_fault, of_read_fault}

pub read_causes : (fault : ReadFault) → cause_of (of_read_fault fault) ≡ read_cause fault
read_causes (read.File path) = refl
read_causes (read.Document path fault) = refl
read_causes (read.Limit kind) = refl
read_causes read.Memory = refl

pub order_causes : (fault : OrderFault) → cause_of (of_order_fault fault) ≡ order_cause fault
order_causes (order.Absent id) = refl
order_causes (order.Ambiguous id) = refl
order_causes (order.Api id api) = refl
order_causes (order.Deep id) = refl
order_causes order.ManyGroups = refl
order_causes order.LongGroup = refl
order_causes order.Memory = refl

pub check_causes : (fault : CheckFault) → cause_of (of_check_fault fault) ≡ check_cause fault
check_causes (check.Bad line) = refl
check_causes check.Memory = refl

ordered_counts : (order_file buildpacks : List ℕ) → Obeys FileCounts cause_of (reads_ordered order_file buildpacks)
unfolding reads_ordered
ordered_counts order_file buildpacks =
    obeys_bind _ _ _ _ files_link (obeys_told FileCounts read_cause cause_of of_read_fault _ read_causes
    (reads_counts read_cause _ _ _))
    (λ order. obeys_bind _ _ _ _ files_link (obeys_told FileCounts read_cause cause_of of_read_fault _ read_causes
    (reads_counts read_cause _ _ _))
    (λ catalog. obeys_bind _ _ _ _ files_link (obeys_told FileCounts order_cause cause_of of_order_fault _
    order_causes (obeys_gives _ _ _ files_rest))
    (λ groups. obeys_yields _ _ _ files_rest)))

follow_counts : (path : List ℕ) (ordered : Ordered) → Obeys FileCounts cause_of (follows path ordered)
unfolding follows
follow_counts path ordered =
    obeys_bind _ _ _ _ files_link (obeys_told FileCounts read_cause cause_of of_read_fault _ read_causes
    (reads_counts read_cause _ _ _))
    (λ bytes. obeys_told FileCounts check_cause cause_of of_check_fault _ check_causes (obeys_gives _ _ _ files_rest))

prove_counts : (words : CheckWords) → Obeys FileCounts cause_of (proves words)
unfolding proves
prove_counts words = obeys_bind _ _ _ _ files_link (ordered_counts words.order words.buildpacks)
    (λ ordered. follow_counts words.proof_path ordered)

matched_rests : {A : Type 0} (path : List ℕ) (proved found : A) (s : Seen)
    (result : Result (Unit {0}) CheckRefusal) → IsMatched path proved found result
    → FileCounts (ended_by cause_of result) s s
matched_rests path proved found s (Ok done) h = files_rest.none s
matched_rests path proved found s (Err (RecordDiffers at)) h = files_rest.decided s
matched_rests path proved found s (Err (File at)) h = absurd h
matched_rests path proved found s (Err Memory) h = absurd h
matched_rests path proved found s (Err (Document at fault)) h = absurd h
matched_rests path proved found s (Err (Limit kind)) h = absurd h
matched_rests path proved found s (Err (BuildpackApi text)) h = absurd h
matched_rests path proved found s (Err (Order id ambiguous)) h = absurd h
matched_rests path proved found s (Err (BadRecord line)) h = absurd h

match_counts : {A : Type 0} (path : List ℕ) (proved found : A) → Obeys FileCounts cause_of (matches path proved found)
unfolding matches
match_counts path proved found old new result h = subst (FileCounts (ended_by cause_of result) old) (sym h.0)
    (matched_rests path proved found old result h.1)

group_counts : (path : List ℕ) (proved : List GroupRow) → Obeys FileCounts cause_of (compares_group path proved)
unfolding compares_group reads_group
group_counts path proved =
    obeys_bind _ _ _ _ files_link
    (obeys_bind _ _ _ _ files_link (obeys_told FileCounts read_cause cause_of of_read_fault _ read_causes
    (reads_counts read_cause _ _ _))
    (λ group. obeys_bind _ _ _ _ files_link (obeys_gives _ _ _ files_rest) (λ known. obeys_yields _ _ _ files_rest)))
    (λ group. match_counts path proved group)

plan_counts : (path : List ℕ) (proved : List PlanEntry) → Obeys FileCounts cause_of (compares_plan path proved)
unfolding compares_plan
plan_counts path proved =
    obeys_bind _ _ _ _ files_link (obeys_told FileCounts read_cause cause_of of_read_fault _ read_causes
    (reads_counts read_cause _ _ _)) (λ plan. match_counts path proved plan)

compare_counts : (work : List ℕ) (proved : Checked) → Obeys FileCounts cause_of (compares work proved)
unfolding compares
compare_counts work proved =
    obeys_bind _ _ _ _ files_link (group_counts _ proved.group)
    (λ group. obeys_bind _ _ _ _ files_link (plan_counts _ proved.plan) (λ plan. obeys_gives _ _ _ files_rest))

pub check_counts : (words : CheckWords) → Obeys FileCounts cause_of (checks words)
unfolding checks
check_counts words = obeys_bind _ _ _ _ files_link (prove_counts words) (λ proved. compare_counts words.work proved)
