-- What asking the members of a group comes to.
use Rattle.std.proofs.Common.{◌≡◌, ◌∙◌, refl, sym, ap, subst, arith, ℕ, ◌+◌, ◌<◌, ◌≤◌, suc, Bool, true, false, cond}
use Rattle.std.proofs.Common.{List, [], ◌∷◌, ◌++◌, map, take, drop, get_or, length, append_assoc, append-nil}
use Rattle.std.specs.Prelude.{◌||◌, if◌then◌else◌, Some, Result, Ok, Err, OnErr}
use Rattle.std.specs.List.{filter, list_any}
use Rattle.std.specs.Option.{is_some}
use Rattle.std.proofs.lemmas.List.{length-map, map-append, take_more}
use Rattle.std.proofs.lemmas.List.Elements.{filter-append}
use Rattle.std.proofs.Math.Seq.{drop-cons}
use Rattle.std.proofs.lemmas.List.Folds.{list_any-append}
use Rattle.std.proofs.lemmas.Bool.{cases_Bool}
use Rattle.std.proofs.Common.{inl, inr}
use Rattle.cnb_world.specs.declared.child.DetectJob.{DetectJob}
use Rattle.cnb_world.specs.declared.child.Probed.{Probed}
use Rattle.cnb_world.specs.Runs.{Ran}
use Rattle.cnb_toml.specs.declared.names.Key.{Key}
use Rattle.cnb_toml.specs.Keys.{same_key}
use Rattle.order_expand.specs.declared.member.Member.{Member}
use Rattle.steps.specs.Asking.{AskedBy, AreSome}
use Rattle.steps.specs.Outside.{SpawnerSeen}
use Rattle.ticket_pool.specs.Deal.{recorded}
use Rattle.detect_core.specs.declared.chosen.AnswerRow.{AnswerRow}
use Rattle.detect_core.specs.declared.chosen.DetectFrame.{DetectFrame}
use Rattle.detect_core.specs.declared.chosen.Verdict.{Verdict}
use Rattle.detect_core.specs.Answer.{answer_of, answer_row, build_plan}
use Rattle.detect_core.specs.Job.{detect_job}
use Rattle.detect_core.specs.Kept.{KeptRow, row_of, keys_of, kept_for, has_key}
use Rattle.detect_core.specs.Asking.{unmet, rows_of, AreNew, RunsAll, RunsSome}
use Rattle.detect_core.specs.Recorded.{answer_rows}
use Rattle.detect_core.proofs.LimitLemmas.{filter-le}
use Rattle.detect_core.proofs.MemberLemmas.{keys_of_members}
use Rattle.detect_core.proofs.OrderLemmas.{all_some}

pub map-map : {X Y Z : Type 0} (g : Y → Z) (f : X → Y) (xs : List X) → map g (map f xs) ≡ map (λ x. g (f x)) xs
map-map g f [] = refl
map-map g f (x ∷ xs) = ap (λ zs. g (f x) ∷ zs) (map-map g f xs)

pub any-keys : (rows : List KeptRow) (key : Key) → list_any (same_key key) (keys_of rows) ≡ has_key rows key
any-keys [] key = refl
any-keys (row ∷ rows) key = elim (same_key key row.0) as (λ b. (b || list_any (same_key key) (keys_of rows))
    ≡ is_some (cond b (Some row.1) (kept_for rows key))) [
      | true ↦ refl
      | false ↦ any-keys rows key
    ]

pub on_err : {A E : Type 0} {P : Type 0} (r : Result A E) → P → OnErr r P
on_err (Ok value) p = tt
on_err (Err fault) p = p

-- the keys of the rows that running some members adds are those of the members
pub ran_keys : (frame : DetectFrame) (members : List Member) (ran : List Ran) →
    map (λ r. r.job) ran ≡ map (detect_job frame) members → keys_of (map row_of ran) ≡ map (λ m. m.key) members
ran_keys frame members ran jobs =
    let key = λ (j : DetectJob). let k : Key = record { id = j.id; version = j.version } in k in
    map-map (λ (row : KeptRow). row.0) row_of ran ∙ (sym (map-map key (λ (r : Ran). r.job) ran)
    ∙ (ap (map key) jobs ∙ map-map key (detect_job frame) members))

-- the members that are met in two lists, one behind the other
pub unmet-append : (keys : List Key) (xs ys : List Member)
    → unmet keys (xs ++ ys) ≡ unmet keys xs ++ unmet (keys ++ map (λ m. m.key) (unmet keys xs)) ys
unmet-append keys [] ys = ap (λ ks. unmet ks ys) (sym (append-nil keys))
unmet-append keys (x ∷ xs) ys =
    let more = keys ++ x.key ∷ [] in
    let keys_of_members = λ (ms : List Member). map (λ (m : Member). m.key) ms in
    elim (list_any (same_key x.key) keys)
    as (λ b. (if b then unmet keys (xs ++ ys) else x ∷ unmet more (xs ++ ys))
    ≡ (if b then unmet keys xs else x ∷ unmet more xs) ++ unmet
    (keys ++ keys_of_members (if b then unmet keys xs else x ∷ unmet more xs)) ys) [
      | true ↦ unmet-append keys xs ys
      | false ↦ ap (λ ms. x ∷ ms) (unmet-append more xs ys
          ∙ ap (λ ks. unmet more xs ++ unmet ks ys) (append_assoc keys (x.key ∷ []) (keys_of_members (unmet more xs))))
    ]

-- one more member of a group: what it adds
pub more_unmet : {X : Type 0} (f : Member → X) (fit : Member → Bool) (known : List Key) (group : List Member)
    (at : ℕ) (member : Member) (met : List Key) (xs more : List X)
    → at < length group → member ≡ get_or group at member → met
    ≡ keys_of_members (unmet known (filter fit (take at group)))
    → xs ≡ map f (unmet known (filter fit (take at group)))
    → more ≡ xs ++ map f (unmet (known ++ met) (filter fit (member ∷ [])))
    → more ≡ map f (unmet known (filter fit (take (at + 1) group)))
more_unmet f fit known group at member met xs more lt is keys so_far added =
    let front = filter fit (take at group) in
    let own = filter fit (member ∷ []) in
    let one_more : filter fit (take (at + 1) group) ≡ front ++ own =
    ap (filter fit) (take_more group at member lt ∙ ap (λ m. take at group ++ m ∷ []) (sym is))
    ∙ filter-append fit (take at group) (member ∷ []) in
    let parts : unmet known (filter fit (take (at + 1) group)) ≡ unmet known front ++ unmet (known ++ met) own =
    ap (unmet known) one_more ∙ (unmet-append known front own
    ∙ ap (λ ks. unmet known front ++ unmet (known ++ ks) own) (sym keys)) in
    added ∙ (ap (λ ys. ys ++ map f (unmet (known ++ met) own)) so_far
    ∙ sym (ap (map f) parts ∙ map-append f (unmet known front) (unmet (known ++ met) own)))

-- a member that is not for the target adds nothing, and another what it adds
pub adds_no_fit : {X : Type 0} (f : Member → X) (fit : Member → Bool) (known : List Key) (member : Member)
    (xs : List X) → fit member ≡ false → xs ≡ xs ++ map f (unmet known (filter fit (member ∷ [])))
adds_no_fit f fit known member xs h = sym (ap (λ (b : Bool). xs ++ map f (unmet known (cond b (member ∷ []) [])))
    h ∙ append-nil xs)

pub one_fit : (fit : Member → Bool) (member : Member) → fit member ≡ true → member ∷ [] ≡ filter fit (member ∷ [])
one_fit fit member h = sym (ap (λ (b : Bool). cond b (member ∷ []) []) h)

-- a member that was met adds nothing, and another itself
pub adds_none : {X : Type 0} (f : Member → X) (known : List Key) (member : Member) (xs : List X)
    → list_any (same_key member.key) known ≡ true → xs ≡ xs ++ map f (unmet known (member ∷ []))
adds_none f known member xs met = sym (ap (λ (b : Bool). xs ++ map f (if b then [] else member ∷ [])) met
    ∙ append-nil xs)

pub adds_one : {X : Type 0} (f : Member → X) (known : List Key) (member : Member) (xs more : List X) (x : X)
    → list_any (same_key member.key) known ≡ false → x ≡ f member → more ≡ xs ++ x ∷ []
    → more ≡ xs ++ map f (unmet known (member ∷ []))
adds_one f known member xs more x new is added = added ∙
    (ap (λ y. xs ++ y ∷ []) is ∙ sym (ap (λ (b : Bool). xs ++ map f (if b then [] else member ∷ [])) new))

-- whether a buildpack has an answer or is among some
pub met_by : (kept : List KeptRow) (keys : List Key) (key : Key)
    → list_any (same_key key) (keys_of kept ++ keys) ≡ (has_key kept key || list_any (same_key key) keys)
met_by kept keys key = list_any-append (same_key key) (keys_of kept) keys
    ∙ ap (λ b. b || list_any (same_key key) keys) (any-keys kept key)

-- the members that are met first are new
pub unmet_new : (known : List Key) (members : List Member) → AreNew known (keys_of_members (unmet known members))
unmet_new known [] = tt
unmet_new known (m ∷ members) = elim (cases_Bool (list_any (same_key m.key) known)) [
  | inl e ↦ subst (λ (b : Bool). AreNew known (keys_of_members
      (if b then unmet known members else m ∷ unmet (known ++ m.key ∷ []) members))) (sym e)
      (unmet_new known members)
  | inr e ↦ subst (λ (b : Bool). AreNew known (keys_of_members
      (if b then unmet known members else m ∷ unmet (known ++ m.key ∷ []) members))) (sym e)
      (e, unmet_new (known ++ m.key ∷ []) members)
]

-- what is kept of the members' children
rows-recorded : (frame : DetectFrame) (members : List Member) (answers : List Probed)
    → rows_of (keys_of_members members) answers ≡ map row_of (recorded (map (detect_job frame) members) answers)
rows-recorded frame [] answers = refl
rows-recorded frame (m ∷ members) [] = refl
rows-recorded frame (m ∷ members) (probed ∷ answers) = ap (λ rows. (m.key, answer_of build_plan probed) ∷ rows)
    (rows-recorded frame members answers)

answers-recorded : (frame : DetectFrame) (members : List Member) (answers : List Probed)
    → answer_rows (keys_of_members members) answers ≡ map answer_row
    (recorded (map (detect_job frame) members) answers)
answers-recorded frame [] answers = refl
answers-recorded frame (m ∷ members) [] = refl
answers-recorded frame (m ∷ members) (probed ∷ answers) = ap
    (λ rows. record { key = m.key; probed = probed } ∷ rows) (answers-recorded frame members answers)

jobs-recorded : (jobs : List DetectJob) (answers : List Probed) → length answers ≡ length jobs
    → map (λ ran. ran.job) (recorded jobs answers) ≡ jobs
jobs-recorded [] answers long = refl
jobs-recorded (job ∷ jobs) [] long = absurd (omega arith)
jobs-recorded (job ∷ jobs) (probed ∷ answers) long = ap (λ l. job ∷ l) (jobs-recorded jobs answers (omega arith))

-- the group's children ran, and their answers are kept
pub ran_all : (frame : DetectFrame) (members : List Member) (jobs : List DetectJob) (keys : List Key)
    (answers : List Probed) (old new : List SpawnerSeen) (k0 k1 : List KeptRow) (a0 a1 : List AnswerRow)
    → jobs ≡ map (detect_job frame) members → keys ≡ keys_of_members members → length answers ≡ length jobs
    → AskedBy (recorded jobs answers) old new → k1 ≡ k0 ++ rows_of keys answers
    → a1 ≡ a0 ++ answer_rows keys answers
    → RunsAll frame members old new k0 k1 a0 a1
ran_all frame members jobs keys answers old new k0 k1 a0 a1 are_jobs are_keys long asked kept said = record {
  answers = recorded jobs answers;
  asked = asked;
  jobs = jobs-recorded jobs answers long ∙ are_jobs;
  kept = kept ∙ ap (λ rows. k0 ++ rows) (ap (λ ks. rows_of ks answers) are_keys
      ∙ (rows-recorded frame members answers ∙ ap (λ js. map row_of (recorded js answers)) (sym are_jobs)));
  rows = said ∙ ap (λ rows. a0 ++ rows) (ap (λ ks. answer_rows ks answers) are_keys
      ∙ (answers-recorded frame members answers ∙ ap (λ js. map answer_row (recorded js answers))
      (sym are_jobs)));
}

-- they ran, but memory for keeping them ran out
pub ran_unkept : (jobs : List DetectJob) (answers : List Probed) (old new : List SpawnerSeen)
    → length answers ≡ length jobs → AskedBy (recorded jobs answers) old new → RunsSome jobs old new
ran_unkept jobs answers old new long asked = record {
  answers = recorded jobs answers;
  asked = asked;
  some = subst (λ js. AreSome js jobs) (sym (jobs-recorded jobs answers long)) (all_some jobs);
}

rest_is : {X : Type 0} (xs : List X) (i : ℕ) (x : X) → i < length xs → x ≡ get_or xs i x
    → drop i xs ≡ x ∷ drop (i + 1) xs
rest_is xs i x lt is =
    let next : suc i ≡ i + 1 = omega arith in
    drop-cons xs i x lt ∙ ap (λ y. y ∷ drop (suc i) xs) (sym is) ∙ ap (λ n. x ∷ drop n xs) next

-- one more answer is kept
pub kept_more : (keys : List Key) (answers : List Probed) (at : ℕ) (k0 kept more : List KeptRow) (key own : Key)
    (probed : Probed) (verdict : Verdict)
    → at < length keys → at < length answers → key ≡ get_or keys at key → probed ≡ get_or answers at probed
    → own ≡ key → verdict ≡ answer_of build_plan probed
    → kept ++ rows_of (drop at keys) (drop at answers) ≡ k0 ++ rows_of keys answers → more ≡ kept ++ (own, verdict) ∷ []
    → more ++ rows_of (drop (at + 1) keys) (drop (at + 1) answers) ≡ k0 ++ rows_of keys answers
kept_more keys answers at k0 kept more key own probed verdict lt lt' is is' copied said so_far added =
    let row : KeptRow = (key, answer_of build_plan probed) in
    let rest = rows_of (drop (at + 1) keys) (drop (at + 1) answers) in
    let here : rows_of (drop at keys) (drop at answers) ≡ row
    ∷ rest = λ i. rows_of (rest_is keys at key lt is i) (rest_is answers at probed lt' is' i) in
    ap (λ l. l ++ rest) (added ∙ (λ i. kept ++ (copied i, said i) ∷ []))
    ∙ (append_assoc kept (row ∷ []) rest ∙ (ap (λ l. kept ++ l) (sym here) ∙ so_far))

-- the next buildpack is new, and those behind it stay so
pub next_new : (keys : List Key) (at : ℕ) (kept : List KeptRow) (key own : Key) → at < length keys
    → key ≡ get_or keys at key → own ≡ key → AreNew (keys_of kept) (drop at keys)
    → (has_key kept own ≡ false) × ((verdict : Verdict) (more : List KeptRow) → more ≡ kept ++ (own, verdict) ∷ []
    → AreNew (keys_of more) (drop (at + 1) keys))
next_new keys at kept key own lt is copied new =
    let all : AreNew (keys_of kept) (key ∷ drop (at + 1) keys) = subst (AreNew (keys_of kept))
    (rest_is keys at key lt is) new in (
      ap (has_key kept) copied ∙ (sym (any-keys kept key) ∙ all.0),
      λ verdict more added.
          subst (λ ks. AreNew ks (drop (at + 1) keys))
          (sym (ap keys_of added ∙ (map-append (λ (row : KeptRow). row.0) kept ((own, verdict) ∷ [])
          ∙ ap (λ k. keys_of kept ++ k ∷ []) copied))) all.1,
    )

-- no more are met than there are members
unmet-long : (known : List Key) (members : List Member) → length (unmet known members) ≤ length members
unmet-long known [] = omega arith
unmet-long known (m ∷ members) = elim (list_any (same_key m.key) known)
    as (λ b. length (if b then unmet known members else m ∷ unmet (known ++ m.key ∷ []) members)
    ≤ length (m ∷ members)) [
      | true ↦ let r = unmet-long known members in omega arith
      | false ↦ let r = unmet-long (known ++ m.key ∷ []) members in omega arith
    ]

pub few_jobs : (frame : DetectFrame) (fit : Member → Bool) (known : List Key) (members : List Member)
    (jobs : List DetectJob) → jobs ≡ map (detect_job frame) (unmet known (filter fit members))
    → length members ≤ 256 → length jobs ≤ 256
few_jobs frame fit known members jobs are few =
    let long : length jobs ≡ length (unmet known (filter fit members)) = ap length are
    ∙ length-map (unmet known (filter fit members)) (detect_job frame) in
    let le = unmet-long known (filter fit members) in
    let less : length (filter fit members) ≤ length members = filter-le fit members in
    omega arith
