-- The counts of failures, as the status tells them.
use Rattle.std.proofs.Common.{◌≡◌, refl, sym, subst, ℕ, ◌≤◌, List, [], ◌∷◌, Option, Result, Ok, Err, inl, inr, arith}
use Rattle.steps.specs.Asking.{NoneFell, OneRose}
use Rattle.steps.specs.Causes.{Cause, FileFailed, ChildFailed, OutOfMemory, Decided, CountsFiles, FilesBy}
use Rattle.steps.proofs.AskingLemmas.{none_fell}
use Rattle.cnb_detect.specs.declared.refusal.DetectRefusal.{DetectRefusal}
use Rattle.cnb_detect.specs.declared.refusal.DetectRefusal.TheVariants as detect
use Rattle.cnb_detect.specs.Refusals as detect_refusal
use Rattle.cnb_lifecycle.specs.declared.answer.Answer.{Answer}
use Rattle.cnb_lifecycle.specs.declared.answer.Answer.TheVariants as answer
use Rattle.cnb_lifecycle.specs.declared.refusal.Refusal.{Refusal}
use Rattle.cnb_lifecycle.specs.declared.refusal.Refusal.TheVariants.{Memory}
use Rattle.cnb_lifecycle.specs.declared.status.Status.{Status}
use Rattle.cnb_lifecycle.specs.declared.status.Status.TheVariants.{Done, Output, Refused, Launched}
use Rattle.steps.specs.EitherCounts.{EitherBy}
use Rattle.cnb_lifecycle.specs.Ends.{CauseOfChild, CauseOfFile, CountsChild}
use Rattle.cnb_lifecycle.specs.Faults.{cause_of, of_detect}
use Rattle.cnb_lifecycle.specs.Printing.{Finishes}

-- a refusal of `detect` has the same cause as what it is told as
pub same_cause : (refusal : DetectRefusal) → cause_of (of_detect refusal) ≡ detect_refusal.cause_of refusal
same_cause (detect.File path) = refl
same_cause detect.Memory = refl
same_cause (detect.Document path fault) = refl
same_cause detect.Child = refl
same_cause (detect.Limit kind) = refl
same_cause (detect.BuildpackApi text) = refl
same_cause (detect.Order id ambiguous) = refl
same_cause (detect.NoGroup erred) = refl

-- a count of files
files_later : (cause : Cause) (before now : ℕ) → FilesBy cause before now → before ≤ now
files_later (FileFailed path) before now h = h.later
files_later ChildFailed before now h = omega (arith, h)
files_later OutOfMemory before now h = h
files_later Decided before now h = omega (arith, h)

pub cause_of_file : (end : Result Answer Refusal) (status : Status) (taken_old taken_new : Option (List ℕ))
    (before now : ℕ) → Finishes end status taken_old taken_new → CountsFiles cause_of end before now
    → CauseOfFile status before now
cause_of_file (Ok (answer.Printed text)) Done t0 t1 before now f h = h
cause_of_file (Ok (answer.Printed text)) Output t0 t1 before now f h = omega (arith, h)
cause_of_file (Ok (answer.Printed text)) (Refused told) t0 t1 before now f h = absurd f
cause_of_file (Ok (answer.Printed text)) (Launched code) t0 t1 before now f h = absurd f
cause_of_file (Ok (answer.Launched code)) Done t0 t1 before now f h = absurd f
cause_of_file (Ok (answer.Launched code)) Output t0 t1 before now f h = absurd f
cause_of_file (Ok (answer.Launched code)) (Refused told) t0 t1 before now f h = absurd f
cause_of_file (Ok (answer.Launched code)) (Launched told) t0 t1 before now f h = h
cause_of_file (Err refusal) Done t0 t1 before now f h = absurd f
cause_of_file (Err refusal) Output t0 t1 before now f h = files_later (cause_of refusal) before now h
cause_of_file (Err refusal) (Launched code) t0 t1 before now f h = absurd f
cause_of_file (Err refusal) (Refused Memory) t0 t1 before now f h = files_later (cause_of refusal) before now h
cause_of_file (Err refusal) (Refused told) t0 t1 before now f h = subst (λ r. FilesBy (cause_of r) before now)
    (sym f.0) h

-- counts of spawners
same_fell : (before now : List ℕ) → now ≡ before → NoneFell before now
same_fell before now same = subst (λ v. NoneFell before v) (sym same) (none_fell before)

rose_fell : (before now : List ℕ) → OneRose before now → NoneFell before now
rose_fell [] now h = absurd h
rose_fell (b ∷ before) [] h = absurd h
rose_fell (b ∷ before) (n ∷ now) (inl (rose, rest)) = (rose.later, rest)
rose_fell (b ∷ before) (n ∷ now) (inr (later, rest)) = (later, rose_fell before now rest)

-- the counts of children
child_later : (cause : Cause) (before now : ℕ) (befores nows : List ℕ) → EitherBy cause before now befores nows
    → (before ≤ now) × NoneFell befores nows
child_later (FileFailed path) before now befores nows h = (omega (arith, h.0), same_fell befores nows h.1)
child_later ChildFailed before now befores nows (inl (rose, fell)) = (rose.later, fell)
child_later ChildFailed before now befores nows (inr (later, rose)) = (later, rose_fell befores nows rose)
child_later OutOfMemory before now befores nows h = h
child_later Decided before now befores nows h = (omega (arith, h.0), same_fell befores nows h.1)

pub cause_of_child : (end : Result Answer Refusal) (status : Status) (taken_old taken_new : Option (List ℕ))
    (before now : ℕ) (befores nows : List ℕ) → Finishes end status taken_old taken_new
    → CountsChild end before now befores nows → CauseOfChild status before now befores nows
cause_of_child (Ok (answer.Printed text)) Done t0 t1 before now befores nows f h = h
cause_of_child (Ok (answer.Printed text)) Output t0 t1 before now befores nows f h =
    (omega (arith, h.0), same_fell befores nows h.1)
cause_of_child (Ok (answer.Printed text)) (Refused told) t0 t1 before now befores nows f h = absurd f
cause_of_child (Ok (answer.Printed text)) (Launched code) t0 t1 before now befores nows f h = absurd f
cause_of_child (Ok (answer.Launched code)) Done t0 t1 before now befores nows f h = absurd f
cause_of_child (Ok (answer.Launched code)) Output t0 t1 before now befores nows f h = absurd f
cause_of_child (Ok (answer.Launched code)) (Refused told) t0 t1 before now befores nows f h = absurd f
cause_of_child (Ok (answer.Launched code)) (Launched told) t0 t1 before now befores nows f h = h
cause_of_child (Err refusal) Done t0 t1 before now befores nows f h = absurd f
cause_of_child (Err refusal) Output t0 t1 before now befores nows f h = child_later
    (cause_of refusal) before now befores nows h
cause_of_child (Err refusal) (Launched code) t0 t1 before now befores nows f h = absurd f
cause_of_child (Err refusal) (Refused Memory) t0 t1 before now befores nows f h = child_later
    (cause_of refusal) before now befores nows h
cause_of_child (Err refusal) (Refused told) t0 t1 before now befores nows f h = subst
    (λ r. EitherBy (cause_of r) before now befores nows) (sym f.0) h
