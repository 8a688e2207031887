-- What follows from the writing of a choice.
use Rattle.std.proofs.Common.{◌≡◌, ◌∙◌, refl, sym, ap, subst, ℕ, true, List, Option, Some, None, Result, Ok, Err, inl}
use Rattle.std.proofs.Common.{inr}
use Rattle.std.specs.Option.{option_map}
use Rattle.cnb_world.specs.Calls.{MayMisuse}
use Rattle.cnb_world.specs.Path.{is_path}
use Rattle.cnb_world.specs.Tree.{Tree}
use Rattle.cnb_world.specs.Whole.{can_write, written}
use Rattle.run_docs.specs.Group.{group_in}
use Rattle.run_docs.specs.Plan.{plan_in}
use Rattle.steps.specs.Causes.{IsWriteCause}
use Rattle.steps.specs.Keeping.{IsOldOrNew, is_free, standing, touched}
use Rattle.steps.specs.Outside.{Seen}
use Rattle.steps.specs.Steps.{◌>>=◌, LeavesUnwritten, Writes, writes, yields}
use Rattle.steps.proofs.KeepingLaws.{some_left, step_at, written_free}
use Rattle.steps.proofs.ReadingLaws.{may_first}
use Rattle.cnb_detect.specs.declared.refusal.DetectRefusal.{DetectRefusal}
use Rattle.cnb_detect.specs.declared.refusal.DetectRefusal.TheVariants.{File, Memory}
use Rattle.cnb_detect.specs.Choice.{Choice}
use Rattle.cnb_detect.specs.Documents.{WritesChoice, can_write_choice, group_document, plan_document, writes_choice}
use Rattle.cnb_detect.specs.Refusals.{cause_of}
use Rattle.cnb_detect.proofs.DocumentLemmas.{first_refused_group, first_refused_plan, second_refused_group}
use Rattle.cnb_detect.proofs.DocumentLemmas.{second_refused_plan, both_group, both_plan}
use Rattle.cnb_detect.proofs.FitLemmas.{may_write}

abbrev pub WroteBoth : Result (Unit {0}) DetectRefusal → List ℕ → Choice → Option Tree → Option Tree → Type 0
WroteBoth (Ok done) work choice old new = WritesChoice work choice old new
WroteBoth (Err refusal) work choice old new = Unit {0}

-- it was refused for a call that failed, or want of memory
abbrev pub IsWriteRefusal : DetectRefusal → Type 0
IsWriteRefusal (File path) = Unit {0}
IsWriteRefusal Memory = Unit {0}
IsWriteRefusal refusal = ⊥

abbrev pub IsWritten : Result (Unit {0}) DetectRefusal → Type 0
IsWritten (Ok done) = Unit {0}
IsWritten (Err refusal) = IsWriteRefusal refusal

pub record ChoiceWritten (work : List ℕ) (choice : Choice) (old : Seen) (result : Result (Unit {0}) DetectRefusal)
    (new : Seen) : Type 0 where
  pub both : WroteBoth result work choice old.files new.files
  pub cause : IsWritten result
  pub group : IsOldOrNew old.files new.files (group_document work) (λ bytes. group_in bytes ≡ Ok choice.group)
  pub plan : IsOldOrNew old.files new.files (plan_document work) (λ bytes. plan_in bytes ≡ Ok choice.plan)
  pub others : (path : List ℕ) → is_free (touched (group_document work)) path ≡ true
      → is_free (touched (plan_document work)) path ≡ true → standing new.files path ≡ standing old.files path
  pub runs : new.runs ≡ old.runs
  pub misused : MayMisuse (option_map (can_write_choice work) old.files) old.misused new.misused

refusal_of_write : (path : List ℕ) (refusal : DetectRefusal) → IsWriteCause path (cause_of refusal)
    → IsWriteRefusal refusal
refusal_of_write path (File failed) h = tt
refusal_of_write path Memory h = tt
refusal_of_write path refusal h = absurd h

composed : (o : Option Tree) (f g : Tree → Tree) → option_map g (option_map f o) ≡ option_map (λ t. g (f t)) o
composed None f g = refl
composed (Some t) f g = refl

module _ (work : List ℕ) (choice : Choice) (path : is_path work ≡ true) where
  abbrev IsGroup : List ℕ → Type 0
  IsGroup bytes = group_in bytes ≡ Ok choice.group

  abbrev IsPlan : List ℕ → Type 0
  IsPlan bytes = plan_in bytes ≡ Ok choice.plan

  both_written : (old mid new : Seen) (done : Unit {0}) → Writes (group_document work) IsGroup old mid
      → Writes (plan_document work) IsPlan mid new → ChoiceWritten work choice old (Ok done) new
  both_written old mid new done h k = record {
    both = record {
      group = h.bytes;
      plan = k.bytes;
      group_reads = h.says;
      plan_reads = k.says;
      files = k.files ∙ ap (option_map (written (plan_document work) k.bytes)) h.files
          ∙ composed old.files (written (group_document work) h.bytes) (written (plan_document work) k.bytes);
    };
    cause = tt;
    group = both_group work path old.files mid.files new.files h.bytes k.bytes IsGroup h.says h.files k.files;
    plan = both_plan work path old.files mid.files new.files h.bytes k.bytes IsPlan k.says h.files k.files;
    others = λ q g p. step_at mid.files new.files (written (plan_document work) k.bytes) q
        (λ t. written_free t (plan_document work) q k.bytes p) k.files
        ∙ step_at old.files mid.files (written (group_document work) h.bytes) q
        (λ t. written_free t (group_document work) q h.bytes g) h.files;
    runs = k.runs ∙ h.runs;
    misused = may_write work h.bytes old.files mid.files old.misused mid.misused new.misused path h.files h.allows
        k.allows;
  }

  group_refused : (old new : Seen) (refusal : DetectRefusal)
      → IsWriteCause (group_document work) (cause_of refusal)
      → LeavesUnwritten (group_document work) IsGroup old new → ChoiceWritten work choice old (Err refusal) new
  group_refused old new refusal cause h = record {
    both = tt;
    cause = refusal_of_write (group_document work) refusal cause;
    group = first_refused_group work path old.files new.files IsGroup IsGroup h.files;
    plan = first_refused_plan work path old.files new.files IsPlan IsGroup h.files;
    others = λ q g p. some_left old.files new.files (group_document work) q IsGroup g h.files;
    runs = h.runs;
    misused = may_first (can_write (group_document work)) (can_write (plan_document work)) old.files old.misused
        new.misused h.allows;
  }

  plan_refused : (old mid new : Seen) (refusal : DetectRefusal) → Writes (group_document work) IsGroup old mid
      → IsWriteCause (plan_document work) (cause_of refusal) → LeavesUnwritten (plan_document work) IsPlan mid new
      → ChoiceWritten work choice old (Err refusal) new
  plan_refused old mid new refusal h cause k = record {
    both = tt;
    cause = refusal_of_write (plan_document work) refusal cause;
    group = second_refused_group work path old.files mid.files new.files h.bytes IsGroup IsPlan h.says h.files k.files;
    plan = second_refused_plan work path old.files mid.files new.files h.bytes IsPlan IsPlan h.files k.files;
    others = λ q g p. some_left mid.files new.files (plan_document work) q IsPlan p k.files
        ∙ step_at old.files mid.files (written (group_document work) h.bytes) q
        (λ t. written_free t (group_document work) q h.bytes g) h.files;
    runs = k.runs ∙ h.runs;
    misused = may_write work h.bytes old.files mid.files old.misused mid.misused new.misused path h.files h.allows
        k.allows;
  }

  pub choice_written : (old new : Seen) (result : Result (Unit {0}) DetectRefusal)
      → writes_choice work choice old result new → ChoiceWritten work choice old result new
  unfolding writes_choice writes yields ◌>>=◌
  choice_written old new (Ok done) (u, mid, h, (v, last, k, y)) = subst
      (λ s. ChoiceWritten work choice old (Ok done) s) (sym y.1) (both_written old mid last done h k)
  choice_written old new (Err refusal) (inl h) = group_refused old new refusal h.0 h.1
  choice_written old new (Err refusal) (inr (u, mid, h, inl k)) = plan_refused old mid new refusal h k.0 k.1
  choice_written old new (Err refusal) (inr (u, mid, h, inr (v, last, k, y))) = absurd y
