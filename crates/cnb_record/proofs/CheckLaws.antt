-- What `check` comes to, by what it does.
use Rattle.std.proofs.Common.{◌≡◌, ◌∙◌, refl, sym, ap, subst, ℕ, Bool, true, false, ◌&&◌, List, Option, Some, None}
use Rattle.std.proofs.Common.{Result, Ok, Err, inl, inr}
use Rattle.std.specs.Prelude.{IfSome}
use Rattle.std.specs.Option.{option_map}
use Rattle.cnb_detect.specs.Documents.{group_document, plan_document}
use Rattle.cnb_words.specs.declared.check.CheckWords.{CheckWords}
use Rattle.cnb_world.specs.Calls.{MayMisuse}
use Rattle.cnb_world.specs.Tree.{Tree}
use Rattle.detect_record.specs.Checking.{check_of, cause_of as check_cause}
use Rattle.detect_record.specs.declared.outcome.CheckFault.{CheckFault}
use Rattle.detect_record.specs.declared.outcome.Checked.{Checked}
use Rattle.doc_files.specs.Faults.{read_cause}
use Rattle.doc_files.specs.declared.fault.ReadFault.{ReadFault}
use Rattle.order_expand.specs.Check.{checked, cause_of as order_cause}
use Rattle.order_expand.specs.declared.order.OrderFault.{OrderFault}
use Rattle.order_files.specs.Catalog.{IsOfCatalog, catalog_in, is_fit_catalog}
use Rattle.order_files.specs.OrderFile.{order_file_in, is_fit_order_file}
use Rattle.run_docs.specs.Group.{group_in}
use Rattle.run_docs.specs.Plan.{plan_in}
use Rattle.run_docs.specs.declared.group.GroupRow.{GroupRow}
use Rattle.run_docs.specs.declared.plan.PlanEntry.{PlanEntry}
use Rattle.steps.specs.Causes.{Only, WhereDecided}
use Rattle.steps.specs.Outside.{Seen}
use Rattle.steps.specs.Results.{with_fault}
use Rattle.steps.specs.Steps.{◌>>=◌, Same, gives, map_err, reads, yields}
use Rattle.steps.proofs.ReadingLaws.{OnlyReads, gives_known, may_as, may_first, may_same, reads_files, reads_then}
use Rattle.steps.proofs.ReadingLaws.{reads_told, where_map}
use Rattle.cnb_record.specs.declared.ordering.Ordered.{Ordered}
use Rattle.cnb_record.specs.declared.refusal.CheckRefusal.{CheckRefusal}
use Rattle.cnb_record.specs.declared.refusal.CheckRefusal.TheVariants.{File, Memory, Document, Limit, BuildpackApi}
use Rattle.cnb_record.specs.declared.refusal.CheckRefusal.TheVariants.{Order, BadRecord, RecordDiffers}
use Rattle.cnb_record.specs.CheckOutcome.{AreRefused, ComesToCheck, IsCheckRefused, IsChecked, IsRefused, followed_in}
use Rattle.cnb_record.specs.CheckOutcome.{group_there, is_fit_check, ordered_in, plan_there, proved_in}
use Rattle.cnb_record.specs.Checks.{IsMatched, checks, compares, compares_group, compares_plan, follows, known_apis}
use Rattle.cnb_record.specs.Checks.{matches, proves, reads_group, reads_ordered, reads_plan}
use Rattle.cnb_record.specs.Reading.{is_fit_file, needed_at, record_at}
use Rattle.cnb_record.specs.Refusals.{cause_of, of_check_fault, of_order_fault, of_read_fault}
use Rattle.cnb_record.specs.Report.{checked_text}
use Rattle.cnb_record.proofs.CountLaws.{check_causes, order_causes, read_causes}

-- ---- what is read

-- a file that is read, in the refusals of `check`
reads_one : {T : Type 0} (Among : List ℕ → Type 0) (fits : Tree → Bool) (want : Tree → Result T ReadFault)
    → OnlyReads cause_of fits (λ files. with_fault of_read_fault (want files))
    (map_err of_read_fault (reads read_cause Among fits want))
reads_one Among fits want = reads_told read_cause cause_of of_read_fault fits want
    (reads read_cause Among fits want) read_causes (reads_files read_cause Among fits want)

checks_one : (want : Result ℕ OrderFault) → OnlyReads cause_of (λ files. true)
    (λ files. with_fault of_order_fault want) (map_err of_order_fault (gives order_cause want))
checks_one want = reads_told order_cause cause_of of_order_fault (λ files. true) (λ files. want)
    (gives order_cause want) order_causes (gives_known order_cause want)

follows_one : (want : Result Checked CheckFault) → OnlyReads cause_of (λ files. true)
    (λ files. with_fault of_check_fault want) (map_err of_check_fault (gives check_cause want))
follows_one want = reads_told check_cause cause_of of_check_fault (λ files. true) (λ files. want)
    (gives check_cause want) check_causes (gives_known check_cause want)

given_value : {A : Type 0} (value : A) (old new : Seen) (result : Result A CheckRefusal)
    → yields value old result new → gives cause_of (Ok value) old result new
unfolding yields gives
given_value value old new (Ok other) h = (h.1, ap Ok (sym h.0), tt)
given_value value old new (Err refusal) h = absurd h

yields_one : {A : Type 0} (value : A) → OnlyReads cause_of (λ files. true) (λ files. Ok value) (yields value)
yields_one value old new result h = gives_known cause_of (Ok value) old new result (given_value value old new result h)

abbrev fits_order : CheckWords → Tree → Bool
fits_order words files = is_fit_order_file words.order files && (is_fit_catalog words.buildpacks files && true)

ordered_reads : (words : CheckWords) → OnlyReads cause_of (fits_order words)
    (ordered_in words.order words.buildpacks) (reads_ordered words.order words.buildpacks)
unfolding reads_ordered
ordered_reads words =
    reads_then cause_of (is_fit_order_file words.order) _
    (λ files. with_fault of_read_fault (order_file_in words.order files)) _ _ _
    (reads_one (Only words.order) (is_fit_order_file words.order) (order_file_in words.order))
    (λ order. reads_then cause_of (is_fit_catalog words.buildpacks) _
    (λ files. with_fault of_read_fault (catalog_in words.buildpacks files)) _ _ _
    (reads_one (IsOfCatalog words.buildpacks) (is_fit_catalog words.buildpacks) (catalog_in words.buildpacks))
    (λ catalog. reads_then cause_of (λ files. true) (λ files. true)
    (λ files. with_fault of_order_fault (checked catalog order)) _ _ _ (checks_one (checked catalog order))
    (λ groups. yields_one (let ordered : Ordered = record { order = order; catalog = catalog } in ordered))))

follow_reads : (path : List ℕ) (ordered : Ordered) → OnlyReads cause_of (λ files. is_fit_file path files && true)
    (followed_in path ordered) (follows path ordered)
unfolding follows
follow_reads path ordered =
    reads_then cause_of (is_fit_file path) (λ files. true)
    (λ files. with_fault of_read_fault (record_at path files)) _ _ _
    (reads_one (Only path) (is_fit_file path) (record_at path))
    (λ bytes. follows_one (check_of ordered.catalog ordered.order bytes))

abbrev fits_proof : CheckWords → Tree → Bool
fits_proof words files = fits_order words files && (is_fit_file words.proof_path files && true)

proof_reads : (words : CheckWords) → OnlyReads cause_of (fits_proof words) (proved_in words) (proves words)
unfolding proves
proof_reads words =
    reads_then cause_of (fits_order words) (λ files. is_fit_file words.proof_path files && true)
    (ordered_in words.order words.buildpacks) _ _ _ (ordered_reads words)
    (λ ordered. follow_reads words.proof_path ordered)

group_reads : (path : List ℕ) → OnlyReads cause_of (λ files. is_fit_file path files && true) (group_there path)
    (reads_group path)
unfolding reads_group
group_reads path =
    reads_then cause_of (is_fit_file path) (λ files. true)
    (λ files. with_fault of_read_fault (needed_at group_in path files)) _ _ _
    (reads_one (Only path) (is_fit_file path) (needed_at group_in path))
    (λ group. reads_then cause_of (λ files. true) (λ files. true) (λ files. known_apis group) _ _ _
    (gives_known cause_of (known_apis group)) (λ known. yields_one group))

plan_reads : (path : List ℕ) → OnlyReads cause_of (is_fit_file path) (plan_there path) (reads_plan path)
plan_reads path = reads_one (Only path) (is_fit_file path) (needed_at plan_in path)

-- ---- what is compared

both_where : (o : Option Tree) (P Q R : Tree → Type 0) → ((files : Tree) → P files → Q files → R files)
    → IfSome o P → IfSome o Q → IfSome o R
both_where None P Q R f p q = tt
both_where (Some files) P Q R f p q = f files p q

as_where : (o : Option Tree) (P R : Tree → Type 0) → ((files : Tree) → P files → R files) → IfSome o P → IfSome o R
as_where None P R f p = tt
as_where (Some files) P R f p = f files p

then_same : (old mid new : Seen) → Same old mid → Same mid new → Same old new
then_same old mid new first second = record { files = second.files ∙ first.files; runs = second.runs ∙ first.runs }

as_before : (old mid : Seen) (P : Tree → Type 0) → Same old mid → IfSome mid.files P → IfSome old.files P
as_before old mid P same h = subst (λ o. IfSome o P) same.files h

-- a document that was compared
abbrev IsComparison : {A : Type 0} → List ℕ → A → Result A CheckRefusal → Result (Unit {0}) CheckRefusal → Type 0
IsComparison path proved there (Ok done) = there ≡ Ok proved
IsComparison path proved there (Err refusal) = WhereDecided (cause_of refusal) (IsRefused path there proved refusal)

record Compared {A : Type 0} (fits : Tree → Bool) (there : Tree → Result A CheckRefusal) (path : List ℕ)
    (proved : A) (old : Seen) (result : Result (Unit {0}) CheckRefusal) (new : Seen) : Type 0 where
  same : Same old new
  answer : IfSome old.files (λ files. IsComparison path proved (there files) result)
  allows : MayMisuse (option_map fits old.files) old.misused new.misused

differing : {A : Type 0} (path : List ℕ) (proved found : A) (refusal : CheckRefusal)
    (there : Result A CheckRefusal) → there ≡ Ok found → IsMatched path proved found (Err refusal)
    → WhereDecided (cause_of refusal) (IsRefused path there proved refusal)
differing path proved found (RecordDiffers at) there is h = inr (found, is, h.1, ap RecordDiffers h.0)
differing path proved found (File at) there is h = absurd h
differing path proved found Memory there is h = absurd h
differing path proved found (Document at fault) there is h = absurd h
differing path proved found (Limit kind) there is h = absurd h
differing path proved found (BuildpackApi text) there is h = absurd h
differing path proved found (Order id ambiguous) there is h = absurd h
differing path proved found (BadRecord line) there is h = absurd h

compared : {A : Type 0} (fits : Tree → Bool) (there : Tree → Result A CheckRefusal)
    (step : Seen → Result A CheckRefusal → Seen → Type 0) (path : List ℕ) (proved : A)
    → OnlyReads cause_of fits there step
    → (old new : Seen) (result : Result (Unit {0}) CheckRefusal) → (step >>= matches path proved) old result new
    → Compared fits there path proved old result new
unfolding ◌>>=◌ matches
compared {A} fits there step path proved p old new (Ok done) (found, mid, h, m) =
    let one = p old mid (Ok found) h in
    subst (λ s. Compared fits there path proved old (Ok done) s) (sym m.0)
    (record {
      same = one.same;
      answer = as_where old.files (λ files. there files ≡ Ok found)
          (λ files. there files ≡ Ok proved) (λ files is. is ∙ ap Ok m.1) one.answer;
      allows = one.allows;
    })
compared {A} fits there step path proved p old new (Err refusal) (inl h) =
    let one = p old new (Err refusal) h in
    record {
      same = one.same;
      answer = as_where old.files (λ files. WhereDecided (cause_of refusal) (there files ≡ Err refusal))
          (λ files. WhereDecided (cause_of refusal) (IsRefused path (there files) proved refusal))
          (λ files w. where_map (cause_of refusal) (there files ≡ Err refusal)
          (IsRefused path (there files) proved refusal) inl w) one.answer;
      allows = one.allows;
    }
compared {A} fits there step path proved p old new (Err refusal) (inr (found, mid, h, m)) =
    let one = p old mid (Ok found) h in
    subst (λ s. Compared fits there path proved old (Err refusal) s) (sym m.0)
    (record {
      same = one.same;
      answer = as_where old.files (λ files. there files ≡ Ok found)
          (λ files. WhereDecided (cause_of refusal) (IsRefused path (there files) proved refusal))
          (λ files is. differing path proved found refusal (there files) is m.1) one.answer;
      allows = one.allows;
    })

group_compared : (path : List ℕ) (proved : List GroupRow) (old new : Seen)
    (result : Result (Unit {0}) CheckRefusal) → compares_group path proved old result new
    → Compared (λ files. is_fit_file path files && true) (group_there path) path proved old result new
unfolding compares_group
group_compared path proved old new result h = compared (λ files. is_fit_file path files && true)
    (group_there path) (reads_group path) path proved (group_reads path) old new result h

plan_compared : (path : List ℕ) (proved : List PlanEntry) (old new : Seen)
    (result : Result (Unit {0}) CheckRefusal) → compares_plan path proved old result new
    → Compared (is_fit_file path) (plan_there path) path proved old result new
unfolding compares_plan
plan_compared path proved old new result h = compared (is_fit_file path) (plan_there path)
    (reads_plan path) path proved (plan_reads path) old new result h

-- ---- both documents

abbrev AreCompared : List ℕ → Checked → Tree → Result (List ℕ) CheckRefusal → Type 0
AreCompared work proved files (Ok text) =
    (group_there (group_document work) files ≡ Ok proved.group)
    × (plan_there (plan_document work) files ≡ Ok proved.plan)
    × (text ≡ checked_text proved.place proved.trial)
AreCompared work proved files (Err refusal) = WhereDecided (cause_of refusal) (AreRefused work files proved refusal)

abbrev fits_documents : List ℕ → Tree → Bool
fits_documents work files = (is_fit_file (group_document work) files && true) && is_fit_file (plan_document work) files

record BothCompared (work : List ℕ) (proved : Checked) (old : Seen) (end : Result (List ℕ) CheckRefusal)
    (new : Seen) : Type 0 where
  same : Same old new
  answer : IfSome old.files (λ files. AreCompared work proved files end)
  allows : MayMisuse (option_map (fits_documents work) old.files) old.misused new.misused

module _ (work : List ℕ) (proved : Checked) where
  abbrev group_fits : Tree → Bool
  group_fits files = is_fit_file (group_document work) files && true

  abbrev plan_fits : Tree → Bool
  plan_fits files = is_fit_file (plan_document work) files

  abbrev IsGroup : Tree → Type 0
  IsGroup files = group_there (group_document work) files ≡ Ok proved.group

  abbrev IsPlan : Tree → Type 0
  IsPlan files = plan_there (plan_document work) files ≡ Ok proved.plan

  abbrev PlanRefused : CheckRefusal → Tree → Type 0
  PlanRefused refusal files = IsRefused (plan_document work) (plan_there (plan_document work) files) proved.plan refusal

  then_allowed : (old mid new : Seen) (one : Same old mid)
      → MayMisuse (option_map group_fits old.files) old.misused mid.misused
      → MayMisuse (option_map plan_fits mid.files) mid.misused new.misused
      → MayMisuse (option_map (fits_documents work) old.files) old.misused new.misused
  then_allowed old mid new one first second = may_same group_fits plan_fits old.files mid.files old.misused
      mid.misused new.misused one.files first second

  plan_after : (refusal : CheckRefusal) (files : Tree) → IsGroup files
      → WhereDecided (cause_of refusal) (PlanRefused refusal files)
      → WhereDecided (cause_of refusal) (AreRefused work files proved refusal)
  plan_after refusal files is w = where_map (cause_of refusal) (PlanRefused refusal files)
      (AreRefused work files proved refusal) (λ refused. inr (is, refused)) w

  never : (refusal : CheckRefusal) (text : List ℕ) (P : Type 0)
      → WhereDecided (cause_of refusal) (Ok text ≡ Err refusal) → WhereDecided (cause_of refusal) P
  never refusal text P w = where_map (cause_of refusal) (Ok text ≡ Err refusal) P (λ e. absurd (cc)) w

  both_compared : (old new : Seen) (end : Result (List ℕ) CheckRefusal) → compares work proved old end new
      → BothCompared work proved old end new
  unfolding compares ◌>>=◌ gives
  both_compared old new (Ok text) (u, m, hg, (v, n, hp, t)) =
      let one = group_compared (group_document work) proved.group old m (Ok u) hg in
      let two = plan_compared (plan_document work) proved.plan m n (Ok v) hp in
      subst (λ s. BothCompared work proved old (Ok text) s) (sym t.0)
      (record {
        same = then_same old m n one.same two.same;
        answer = both_where old.files IsGroup IsPlan (λ files. AreCompared work proved files (Ok text))
            (λ files g p. (g, p, text_is text t.1)) one.answer (as_before old m IsPlan one.same two.answer);
        allows = then_allowed old m n one.same one.allows two.allows;
      })
    where
      text_is : (given : List ℕ) → (let want : Result (List ℕ) CheckRefusal = Ok
          (checked_text proved.place proved.trial) in want) ≡ Ok given
          → given ≡ checked_text proved.place proved.trial
      text_is given e = cc
  both_compared old new (Err refusal) (inl hg) =
      let one = group_compared (group_document work) proved.group old new (Err refusal) hg in
      record {
        same = one.same;
        answer = as_where old.files (λ files. IsComparison (group_document work) proved.group
            (group_there (group_document work) files) (Err refusal))
            (λ files. AreCompared work proved files (Err refusal))
            (λ files w. where_map (cause_of refusal) (IsRefused (group_document work)
            (group_there (group_document work) files) proved.group refusal)
            (AreRefused work files proved refusal) inl w) one.answer;
        allows = may_first group_fits plan_fits old.files old.misused new.misused one.allows;
      }
  both_compared old new (Err refusal) (inr (u, m, hg, inl hp)) =
      let one = group_compared (group_document work) proved.group old m (Ok u) hg in
      let two = plan_compared (plan_document work) proved.plan m new (Err refusal) hp in
      record {
        same = then_same old m new one.same two.same;
        answer = both_where old.files IsGroup (λ files. WhereDecided (cause_of refusal)
            (PlanRefused refusal files)) (λ files. AreCompared work proved files (Err refusal))
            (plan_after refusal) one.answer
            (as_before old m (λ files. WhereDecided (cause_of refusal) (PlanRefused refusal files)) one.same
            two.answer);
        allows = then_allowed old m new one.same one.allows two.allows;
      }
  both_compared old new (Err refusal) (inr (u, m, hg, inr (v, n, hp, t))) =
      let one = group_compared (group_document work) proved.group old m (Ok u) hg in
      let two = plan_compared (plan_document work) proved.plan m n (Ok v) hp in
      subst (λ s. BothCompared work proved old (Err refusal) s) (sym t.0)
      (record {
        same = then_same old m n one.same two.same;
        answer = as_where old.files IsGroup (λ files. AreCompared work proved files (Err refusal))
            (λ files g. never refusal (checked_text proved.place proved.trial)
            (AreRefused work files proved refusal) t.1) one.answer;
        allows = then_allowed old m n one.same one.allows two.allows;
      })

-- ---- the command

five : (order catalog proof group plan : Bool)
    → (((order && (catalog && true)) && (proof && true)) && ((group && true) && plan))
    ≡ (order && catalog && proof && group && plan)
five true true true true plan = refl
five true true true false plan = refl
five true true false group plan = refl
five true false proof group plan = refl
five false catalog proof group plan = refl

module _ (words : CheckWords) where
  fits_all : (o : Option Tree) (before now : ℕ) → MayMisuse
      (option_map (λ files. fits_proof words files && fits_documents words.work files) o) before now
      → MayMisuse (option_map (is_fit_check words) o) before now
  fits_all o before now h =
      may_as (λ files. fits_proof words files && fits_documents words.work files) (is_fit_check words)
      (λ files. five (is_fit_order_file words.order files) (is_fit_catalog words.buildpacks files)
      (is_fit_file words.proof_path files) (is_fit_file (group_document words.work) files)
      (is_fit_file (plan_document words.work) files))
      o before now h

  checked_so : (proved : Checked) (end : Result (List ℕ) CheckRefusal) (files : Tree)
      → proved_in words files ≡ Ok proved → AreCompared words.work proved files end → IsChecked words files end
  checked_so proved (Ok text) files is h = (proved, is, h.0, h.1, h.2)
  checked_so proved (Err refusal) files is h = where_map (cause_of refusal)
      (AreRefused words.work files proved refusal) (IsCheckRefused words files refusal)
      (λ refused. inr (proved, is, refused)) h

  compared_so : (old mid new : Seen) (proved : Checked) (end : Result (List ℕ) CheckRefusal)
      → proves words old (Ok proved) mid → compares words.work proved mid end new → ComesToCheck words old end new
  compared_so old mid new proved end h k =
      let one = proof_reads words old mid (Ok proved) h in
      let two = both_compared words.work proved mid new end k in
      record {
        same = then_same old mid new one.same two.same;
        comes = both_where old.files (λ files. proved_in words files ≡ Ok proved)
            (λ files. AreCompared words.work proved files end) (λ files. IsChecked words files end)
            (checked_so proved end)
            one.answer (as_before old mid (λ files. AreCompared words.work proved files end) one.same two.answer);
        misused = fits_all old.files old.misused new.misused
            (may_same (fits_proof words) (fits_documents words.work) old.files mid.files old.misused mid.misused
            new.misused one.same.files one.allows two.allows);
      }

  -- by the files the command comes to its line, or to the first refusal
  pub comes_to_check : (old new : Seen) (end : Result (List ℕ) CheckRefusal) → checks words old end new
      → ComesToCheck words old end new
  unfolding checks ◌>>=◌
  comes_to_check old new (Ok text) (proved, mid, h, k) = compared_so old mid new proved (Ok text) h k
  comes_to_check old new (Err refusal) (inr (proved, mid, h, k)) = compared_so old mid new proved (Err refusal) h k
  comes_to_check old new (Err refusal) (inl h) =
      let one = proof_reads words old new (Err refusal) h in
      record {
        same = one.same;
        comes = as_where old.files (λ files. WhereDecided (cause_of refusal)
            (proved_in words files ≡ Err refusal)) (λ files. IsChecked words files (Err refusal))
            (λ files w. where_map (cause_of refusal) (proved_in words files ≡ Err refusal)
            (IsCheckRefused words files refusal) inl w) one.answer;
        misused = fits_all old.files old.misused new.misused
            (may_first (fits_proof words) (fits_documents words.work) old.files old.misused new.misused
            one.allows);
      }
