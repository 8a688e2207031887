-- What follows from the definition of `detect`.
use Rattle.std.proofs.Common.{◌≡◌, refl, ℕ, Bool, true, false, ◌&&◌, List, Option, Some, None, Result, Ok, Err}
use Rattle.std.specs.Prelude.{IfSome}
use Rattle.cnb_world.specs.Tree.{Tree}
use Rattle.cnb_world.specs.declared.env.Variable.{Variable}
use Rattle.cnb_words.specs.declared.choice.ChoiceWords.{ChoiceWords}
use Rattle.cnb_toml.specs.declared.target.Target.{Target}
use Rattle.doc_files.specs.Faults.{read_cause}
use Rattle.doc_files.specs.declared.fault.ReadFault.{ReadFault}
use Rattle.doc_files.specs.declared.fault.ReadFault.TheVariants as read
use Rattle.order_files.specs.Catalog.{IsOfCatalog, catalog_in, is_fit_catalog}
use Rattle.order_files.specs.OrderFile.{order_file_in, is_fit_order_file}
use Rattle.cnb_env.specs.declared.files.EnvFile.{EnvFile}
use Rattle.cnb_env.specs.Files.{IsOfFolder, platform_env, platform_files_in, is_fit_platform}
use Rattle.image_files.specs.Target.{analyzed_document, is_fit_target, target_at}
use Rattle.bp_docs.specs.declared.descriptor.Descriptor.{Descriptor}
use Rattle.bp_docs.specs.declared.descriptor.Entry.{Entry}
use Rattle.order_expand.specs.Check.{checked, cause_of as order_cause}
use Rattle.order_expand.specs.declared.order.OrderFault.{OrderFault}
use Rattle.steps.specs.Causes.{Only}
use Rattle.steps.specs.Outside.{Outside}
use Rattle.steps.specs.Results.{with_fault}
use Rattle.steps.specs.Steps.{gives, map_err, reads}
use Rattle.steps.proofs.EndLaws.{files_rest}
use Rattle.steps.proofs.ReadingLaws.{OnlyReads, gives_known, may_as, reads_files, reads_then, reads_told}
use Rattle.steps.proofs.StepLemmas.{allowed_by, ended, mapped_fault, within}
use Rattle.cnb_detect.proofs.CountLaws.{order_causes, read_causes}
use Rattle.cnb_detect.specs.declared.refusal.DetectRefusal.{DetectRefusal}
use Rattle.cnb_detect.specs.declared.refusal.DetectRefusal.TheVariants.{Memory}
use Rattle.cnb_detect.specs.declared.target.TargetSource.{TargetSource}
use Rattle.cnb_detect.specs.declared.target.TargetSource.TheVariants.{Document, Given}
use Rattle.cnb_detect.specs.Detects.{chooses, detects}
use Rattle.cnb_detect.specs.declared.preparation.Prepared.{Prepared}
use Rattle.cnb_detect.specs.Outcome.{prepared_in}
use Rattle.cnb_detect.specs.Preparation.{frame_of, is_fit_preparation, prepares}
use Rattle.cnb_detect.specs.Refusals.{cause_of, of_order_fault, of_read_fault}
use Rattle.cnb_detect.specs.Target.{is_fit_source, takes_target, target_in}

any_files : (o : Option Tree) → IfSome o (λ files. Unit {0})
any_files None = tt
any_files (Some files) = tt

-- memory may run out before anything is done
pub no_memory_to_choose : (source : TargetSource) (options : ChoiceWords) (env : List Variable) (old : Outside)
    → chooses source options env old (Err Memory) old
unfolding chooses prepares reads
no_memory_to_choose source options env old =
    ended _ _ old old Memory (within _ old.world old.world old.spawners (Err Memory)
    (ended _ _ old.world old.world Memory (mapped_fault of_read_fault _ old.world old.world read.Memory
    (record {
      same = record { files = refl; runs = refl };
      answer = any_files old.world.files;
      cause = tt;
      named = tt;
      allows = allowed_by (is_fit_order_file options.order) old.world.files old.world.misused old.world.misused refl;
      counts = files_rest.memory old.world;
    }))))

pub no_memory_at_once : (source : TargetSource) (options : ChoiceWords) (env : List Variable) (old : Outside)
    → detects source options env old (Err Memory) old
unfolding detects
no_memory_at_once source options env old = ended _ _ old old Memory (no_memory_to_choose source options env old)

-- ---- what is read

four : (a b c d : Bool) → (a && (b && (true && (c && (d && true))))) ≡ (a && b && c && d)
four true true true true = refl
four true true true false = refl
four true true false d = refl
four true false c d = refl
four false b c d = refl

-- a file that is read, in the refusals of `detect`
reads_one : {T : Type 0} (Among : List ℕ → Type 0) (fits : Tree → Bool) (want : Tree → Result T ReadFault)
    → OnlyReads cause_of fits (λ files. with_fault of_read_fault (want files))
    (map_err of_read_fault (reads read_cause Among fits want))
reads_one Among fits want = reads_told read_cause cause_of of_read_fault fits want
    (reads read_cause Among fits want) read_causes (reads_files read_cause Among fits want)

checks_one : (want : Result ℕ OrderFault) → OnlyReads cause_of (λ files. true)
    (λ files. with_fault of_order_fault want) (map_err of_order_fault (gives order_cause want))
checks_one want = reads_told order_cause cause_of of_order_fault (λ files. true) (λ files. want)
    (gives order_cause want) order_causes (gives_known order_cause want)

takes_one : (source : TargetSource) (work : List ℕ) → OnlyReads cause_of (is_fit_source source work)
    (target_in source work) (takes_target source work)
takes_one Document work = reads_one (Only (analyzed_document work)) (is_fit_target work) (target_at work)
takes_one (Given target) work = gives_known cause_of (Ok (Some target))

-- the preparation comes to what the files say, and where they fit, it makes no call on a path of the wrong kind
pub prepares_reads : (source : TargetSource) (options : ChoiceWords) (env : List Variable)
    → OnlyReads cause_of (is_fit_preparation source options) (prepared_in source options env)
    (prepares source options env)
unfolding prepares
prepares_reads source options env old new result h =
    let made : List (List Entry) → List Descriptor → Option Target → List EnvFile
    → Result Prepared DetectRefusal = λ order catalog target files. Ok
    (record { order = order; catalog = catalog; frame = frame_of options env target files }) in
    let all = reads_then cause_of (is_fit_order_file options.order) _
    (λ files. with_fault of_read_fault (order_file_in options.order files)) _ _ _
    (reads_one (Only options.order) (is_fit_order_file options.order) (order_file_in options.order))
    (λ order. reads_then cause_of (is_fit_catalog options.buildpacks) _
    (λ files. with_fault of_read_fault (catalog_in options.buildpacks files)) _ _ _
    (reads_one (IsOfCatalog options.buildpacks) (is_fit_catalog options.buildpacks) (catalog_in options.buildpacks))
    (λ catalog. reads_then cause_of (λ files. true) _ (λ files. with_fault of_order_fault (checked catalog order))
    _ _ _ (checks_one (checked catalog order))
    (λ groups. reads_then cause_of (is_fit_source source options.work) _ (target_in source options.work) _ _ _
    (takes_one source options.work)
    (λ target. reads_then cause_of (is_fit_platform options.platform) (λ files. true)
    (λ files. with_fault of_read_fault (platform_files_in options.platform files)) _ _ _
    (reads_one (IsOfFolder (platform_env options.platform)) (is_fit_platform options.platform)
    (platform_files_in options.platform))
    (λ files. gives_known cause_of (made order catalog target files)))))) old new result h in
    record {
      same = all.same;
      answer = all.answer;
      allows = may_as _ (is_fit_preparation source options)
          (λ files. four (is_fit_order_file options.order files) (is_fit_catalog options.buildpacks files)
          (is_fit_source source options.work files) (is_fit_platform options.platform files))
          old.files old.misused new.misused all.allows;
    }
