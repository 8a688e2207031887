-- Lines that are written are read back.
use Rattle.std.proofs.Common.{◌≡◌, ◌∙◌, ℕ, ◌<◌, ◌^◌, ◌==◌, Bool, true, not, List, [], ◌∷◌, ◌++◌, Option, Some, None}
use Rattle.std.proofs.Common.{codes, ap, refl, arith, append_assoc, append-nil}
use Rattle.std.specs.Prelude.{flat_map}
use Rattle.std.proofs.lemmas.List.Elements.{All-head, All-tail}
use Rattle.std.proofs.lemmas.List.Folds.{list_all-append}
use Rattle.std.specs.Fmt.{decimal}
use Rattle.std.specs.List.{All}
use Rattle.cnb_toml.specs.Names.{is_bp_id, is_bp_version, is_target_name}
use Rattle.cnb_toml.specs.declared.names.Key.{Key}
use Rattle.cnb_toml.specs.declared.target.Target.{Target}
use Rattle.cnb_world.specs.declared.child.Probed.{Probed}
use Rattle.detect_record.specs.declared.parts.GroupLine.{GroupLine}
use Rattle.detect_record.specs.declared.parts.GroupLine.TheVariants.{Fails, Idle, Trials, Chosen, Drop, Keep}
use Rattle.detect_record.specs.declared.parts.Line.{Line}
use Rattle.detect_record.specs.declared.parts.Line.TheVariants.{Head, Target as TargetLine, Answer, Group}
use Rattle.detect_record.specs.declared.parts.Step.{Step}
use Rattle.detect_record.specs.Forms.{code_in, code_text, cut, plan_in, plan_text, spaced, step_in, step_text, steps_in}
use Rattle.detect_record.specs.Lines.{answer_from, answer_text, bare_line, group_line, group_text, key_from, line_in}
use Rattle.detect_record.specs.Lines.{line_text, lines_in, lines_text, named, named_line, probed_from, target_from}
use Rattle.detect_record.specs.Lines.{target_of_names, target_text}
use Rattle.detect_record.specs.LineLaws.{IsSound, IsSoundAnswer, IsSoundGroup, IsSoundStep, IsSoundTarget}
use Rattle.detect_record.specs.LineLaws.{LineReadsBack, LinesReadBack}
use Rattle.detect_record.proofs.CutLemmas.{cut_at, cut_lacking, lacks}
use Rattle.detect_record.proofs.LinesLemmas.{lines_read}
use Rattle.detect_record.proofs.PartLaws.{code_back, number_back, plain_code, plain_plan, plain_step, plan_back}
use Rattle.detect_record.proofs.PartLaws.{step_back}
use Rattle.detect_record.proofs.PlainLemmas.{are_plain, plain_decimal, plain_id, plain_lacks, plain_target}
use Rattle.detect_record.proofs.PlainLemmas.{plain_version}
use Rattle.detect_record.proofs.StepLemmas.{steps_cut, steps_whole, with_step}

lacks_space : (bytes : List ℕ) → are_plain bytes ≡ true → lacks 32 bytes ≡ true
lacks_space bytes plain = plain_lacks 32 (omega arith) bytes plain

cut_space : (front rest : List ℕ) → are_plain front ≡ true → cut 32 (front ++ (32 ∷ rest)) ≡ Some (front, rest)
cut_space front rest plain = cut_at 32 front rest (lacks_space front plain)

-- ---- lines of groups

steps_more : (text : List ℕ) (first : Step) (rest : List ℕ) (more : Option (List Step))
    → cut 32 text ≡ Some (step_text first, rest) → step_in (step_text first) ≡ Some first → steps_in rest ≡ more
    → steps_in text ≡ with_step (Some first) more
steps_more text first rest more halves read others = steps_cut text (step_text first) rest halves
    ∙ ap (λ x. with_step x (steps_in rest)) read ∙ ap (with_step (Some first)) others

steps_back : (step : Step) (steps : List Step) → All IsSoundStep (step ∷ steps)
    → steps_in (step_text step ++ flat_map spaced steps) ≡ Some (step ∷ steps)
steps_back step [] sound =
    let first = All-head IsSoundStep step [] sound in
    rw append-nil (steps_whole (step_text step) (cut_lacking 32 (step_text step)
    (lacks_space (step_text step) (plain_step step first)))
    ∙ ap (λ x. with_step x (Some [])) (step_back step first))
steps_back step (next ∷ steps) sound =
    let first = All-head IsSoundStep step (next ∷ steps) sound in
    let others = steps_back next steps (All-tail IsSoundStep step (next ∷ steps) sound) in
    steps_more (step_text step ++ (32 ∷ (step_text next ++ flat_map spaced steps))) step
    (step_text next ++ flat_map spaced steps) (Some (next ∷ steps))
    (cut_space (step_text step) (step_text next ++ flat_map spaced steps) (plain_step step first))
    (step_back step first) others

named_in : (text name parts : List ℕ) → cut 32 text ≡ Some (name, parts) → line_in text ≡ named_line name parts
unfolding line_in
named_in text name parts halves = rw (halves, line_in) refl

group_back : (line : GroupLine) → IsSoundGroup line → line_in (group_text line) ≡ Some (Group line)
unfolding group_text named_line group_line line_in bare_line
group_back (Fails member) sound =
    let read = number_back member sound in
    named_in (codes "fails " ++ decimal member) (codes "fails") (decimal member)
    (cut_at 32 (codes "fails") (decimal member) refl) ∙ rw read refl
group_back Idle sound = refl
group_back (Trials count) sound =
    let read = number_back count sound in
    named_in (codes "trials " ++ decimal count) (codes "trials") (decimal count)
    (cut_at 32 (codes "trials") (decimal count) refl) ∙ rw read refl
group_back (Chosen count) sound =
    let read = number_back count sound in
    named_in (codes "chosen " ++ decimal count) (codes "chosen") (decimal count)
    (cut_at 32 (codes "chosen") (decimal count) refl) ∙ rw read refl
group_back (Drop []) sound = absurd (omega (arith, sound.0))
group_back (Drop (step ∷ steps)) sound =
    let read = steps_back step steps sound.1 in
    let parts = step_text step ++ flat_map spaced steps in
    named_in (codes "drop" ++ (32 ∷ parts)) (codes "drop") parts (cut_at 32 (codes "drop") parts refl) ∙ rw read refl
group_back (Keep []) sound = refl
group_back (Keep (step ∷ steps)) sound =
    let read = steps_back step steps sound in
    let parts = step_text step ++ flat_map spaced steps in
    named_in (codes "keep" ++ (32 ∷ parts)) (codes "keep") parts (cut_at 32 (codes "keep") parts refl) ∙ rw read refl

-- ---- the target

name_back : (is_name : List ℕ → Bool) (text : List ℕ) → is_name text ≡ true → named is_name text ≡ Some text
name_back is_name text is = rw is refl

names_back : (os arch : List ℕ) → is_target_name os ≡ true → is_target_name arch ≡ true
    → target_of_names os arch ≡ Some (Some (record { os = os; arch = arch }))
unfolding target_of_names
names_back os arch is_os is_arch = rw (is_os, is_arch) refl

target_cut : (text os arch : List ℕ) → cut 32 text ≡ Some (os, arch) → target_from text ≡ target_of_names os arch
unfolding target_from
target_cut text os arch halves = rw (halves, target_from) refl

target_back : (target : Option Target) → IsSoundTarget target → target_from (target_text target) ≡ Some target
unfolding target_from
target_back None sound = refl
target_back (Some target) sound =
    let between : target_text (Some target) ≡ target.os ++ (32 ∷ target.arch) = append_assoc target.os
    (codes " ") target.arch in
    target_cut (target_text (Some target)) target.os target.arch
    (rw between (cut_space target.os target.arch (plain_target target.os sound.0)))
    ∙ names_back target.os target.arch sound.0 sound.1

-- ---- answers

key_back : (key : Key) → is_bp_id key.id ≡ true → is_bp_version key.version ≡ true
    → key_from key.id key.version ≡ Some key
unfolding key_from
key_back key is_id is_version = rw (is_id, is_version) refl

probed_parts : (text code plan : List ℕ) (probed : Probed) → cut 32 text ≡ Some (code, plan)
    → code_in code ≡ Some probed.code → plan_in plan ≡ Some probed.plan → probed_from text ≡ Some probed
unfolding probed_from
probed_parts text code plan probed halves is_code is_plan = rw (halves, is_code, is_plan) refl

answer_parts : (text id behind version last : List ℕ) (key : Key) (probed : Probed)
    → cut 32 text ≡ Some (id, behind) → cut 32 behind ≡ Some (version, last)
    → key_from id version ≡ Some key → probed_from last ≡ Some probed → answer_from text ≡ Some (Answer key probed)
unfolding answer_from
answer_parts text id behind version last key probed first second is_key is_probed = rw
    (first, second, is_key, is_probed) refl

answer_between : (id version code plan : List ℕ) → id ++ codes " " ++ version ++ codes " " ++ code ++ codes " "
    ++ plan ≡ id ++ (32 ∷ (version ++ (32 ∷ (code ++ (32 ∷ plan)))))
answer_between id version code plan = simp append_assoc

answer_back : (key : Key) (probed : Probed) → IsSoundAnswer key probed
    → answer_from (answer_text key probed) ≡ Some (Answer key probed)
answer_back key probed sound =
    let code = code_text probed.code in
    let plan = plan_text probed.plan in
    let last = code ++ (32 ∷ plan) in
    let behind = key.version ++ (32 ∷ last) in
    let between = answer_between key.id key.version code plan in
    rw between (answer_parts (key.id ++ (32 ∷ behind)) key.id behind key.version last key probed
    (cut_space key.id behind (plain_id key.id sound.0)) (cut_space key.version last (plain_version key.version sound.1))
    (key_back key sound.0 sound.1)
    (probed_parts last code plan probed (cut_space code plan (plain_code probed.code sound.2))
    (code_back probed.code sound.2) (plan_back probed.plan sound.3)))

pub line_back : LineReadsBack
unfolding line_text named_line line_in
line_back Head sound = refl
line_back (TargetLine target) sound =
    let read = target_back target sound in
    named_in (codes "target " ++ target_text target) (codes "target") (target_text target)
    (cut_at 32 (codes "target") (target_text target) refl) ∙ rw read refl
line_back (Answer key probed) sound =
    let read = answer_back key probed sound in
    named_in (codes "answer " ++ answer_text key probed) (codes "answer") (answer_text key probed)
    (cut_at 32 (codes "answer") (answer_text key probed) refl) ∙ rw read refl
line_back (Group line) sound = group_back line sound

-- ---- lines one after another

lacks_feed : (bytes : List ℕ) → are_plain bytes ≡ true → lacks 10 bytes ≡ true
lacks_feed bytes plain = plain_lacks 10 (omega arith) bytes plain

feed_append : (front back : List ℕ) → lacks 10 front ≡ true → lacks 10 back ≡ true → lacks 10 (front ++ back) ≡ true
feed_append front back first second = rw (list_all-append (λ byte. not (byte == 10)) front back, first, second) refl

steps_feed : (steps : List Step) → All IsSoundStep steps → lacks 10 (flat_map spaced steps) ≡ true
steps_feed [] sound = refl
steps_feed (step ∷ steps) sound =
    feed_append (spaced step) (flat_map spaced steps)
    (feed_append (codes " ") (step_text step) refl
    (lacks_feed (step_text step) (plain_step step (All-head IsSoundStep step steps sound))))
    (steps_feed steps (All-tail IsSoundStep step steps sound))

decimal_feed : (n : ℕ) → n < 2 ^ 32 → lacks 10 (decimal n) ≡ true
decimal_feed n fits = lacks_feed (decimal n) (plain_decimal n (omega arith))

group_feed : (line : GroupLine) → IsSoundGroup line → lacks 10 (group_text line) ≡ true
unfolding group_text
group_feed (Fails member) sound = feed_append (codes "fails ") (decimal member) refl (decimal_feed member sound)
group_feed Idle sound = refl
group_feed (Trials count) sound = feed_append (codes "trials ") (decimal count) refl (decimal_feed count sound)
group_feed (Chosen count) sound = feed_append (codes "chosen ") (decimal count) refl (decimal_feed count sound)
group_feed (Drop steps) sound = feed_append (codes "drop") (flat_map spaced steps) refl (steps_feed steps sound.1)
group_feed (Keep steps) sound = feed_append (codes "keep") (flat_map spaced steps) refl (steps_feed steps sound)

target_feed : (target : Option Target) → IsSoundTarget target → lacks 10 (target_text target) ≡ true
target_feed None sound = refl
target_feed (Some target) sound =
    feed_append (target.os ++ codes " ") target.arch
    (feed_append target.os (codes " ") (lacks_feed target.os (plain_target target.os sound.0)) refl)
    (lacks_feed target.arch (plain_target target.arch sound.1))

behind_space : (front back : List ℕ) → lacks 10 front ≡ true → are_plain back ≡ true
    → lacks 10 (front ++ codes " " ++ back) ≡ true
behind_space front back first plain = feed_append (front ++ codes " ") back
    (feed_append front (codes " ") first refl) (lacks_feed back plain)

answer_feed : (key : Key) (probed : Probed) → IsSoundAnswer key probed → lacks 10 (answer_text key probed) ≡ true
answer_feed key probed sound =
    let code = code_text probed.code in
    let id = lacks_feed key.id (plain_id key.id sound.0) in
    let version = behind_space key.id key.version id (plain_version key.version sound.1) in
    let coded = behind_space (key.id ++ codes " " ++ key.version) code version (plain_code probed.code sound.2) in
    behind_space (key.id ++ codes " " ++ key.version ++ codes " " ++ code) (plan_text probed.plan) coded
    (plain_plan probed.plan sound.3)

line_feed : (line : Line) → IsSound line → lacks 10 (line_text line) ≡ true
unfolding line_text
line_feed Head sound = refl
line_feed (TargetLine target) sound = feed_append (codes "target ") (target_text target) refl (target_feed target sound)
line_feed (Answer key probed) sound = feed_append (codes "answer ") (answer_text key probed) refl
    (answer_feed key probed sound)
line_feed (Group line) sound = group_feed line sound

pub lines_back : LinesReadBack
unfolding lines_in
lines_back [] sound = refl
lines_back (line ∷ lines) sound =
    let first = All-head IsSound line lines sound in
    let others = lines_back lines (All-tail IsSound line lines sound) in
    let between : lines_text (line ∷ lines) ≡ line_text line
    ++ (10 ∷ lines_text lines) = append_assoc (line_text line) (10 ∷ []) (lines_text lines) in
    rw between (lines_read (line_text line ++ (10 ∷ lines_text lines)) (line_text line) (lines_text lines) line
    (cut_at 10 (line_text line) (lines_text lines) (line_feed line first)) (line_back line first)
    ∙ ap (λ x. Some line ∷ x) others)
