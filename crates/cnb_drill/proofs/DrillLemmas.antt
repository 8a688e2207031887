-- A detection over spawners that answer by the drill's replies.
use Rattle.std.proofs.Common.{◌≡◌, ◌∙◌, refl, sym, ap, subst, ℕ, ◌+◌, ◌/◌, ◌%◌, ◌<◌, Bool, true, false, List, [], ◌∷◌}
use Rattle.std.proofs.Common.{◌++◌, map, length, append_assoc}
use Rattle.std.specs.Prelude.{◌||◌, Option, Some, None}
use Rattle.std.specs.List.{list_any, AllByRecursion}
use Rattle.std.proofs.lemmas.Bool.{or_left, or_right}
use Rattle.std.proofs.lemmas.List.{length-map, map-append}
use Rattle.cnb_world.specs.declared.child.Reply.{Reply}
use Rattle.cnb_world.specs.declared.child.DetectJob.{DetectJob}
use Rattle.cnb_world.specs.Runs.{Ran}
use Rattle.cnb_toml.specs.declared.names.Key.{Key}
use Rattle.cnb_toml.specs.Keys.{same_key}
use Rattle.order_expand.specs.declared.member.Member.{Member}
use Rattle.order_expand.specs.Groups.{listed_groups}
use Rattle.detect_core.specs.declared.chosen.DetectFrame.{DetectFrame}
use Rattle.detect_core.specs.declared.chosen.Verdict.{Verdict}
use Rattle.detect_core.specs.Answer.{key_of, answer_or_error, build_plan, says}
use Rattle.detect_core.specs.Detection.{Ending, FirstTrial, ending_at, reached, members_of, first_trial, asked_members}
use Rattle.detect_core.specs.Job.{detect_job}
use Rattle.detect_core.proofs.AnswerLemmas.{AgreeOn, or_reached}
use Rattle.detect_core.proofs.FittingLemmas.{fitting-none}
use Rattle.detect_core.proofs.MemberLemmas.{flat, any-met, same_key-same}
use Rattle.cnb_drill.proofs.Members.{digit_member, members, AnswersBy}
use Rattle.cnb_drill.specs.Digits.{digits_of, asked_from}
use Rattle.cnb_drill.specs.Order.{drill_catalog, drill_order}
use Rattle.cnb_drill.specs.Replies.{replies_from, drill_replies}
use Rattle.cnb_drill.specs.Runs.{said_by}
use Rattle.cnb_drill.proofs.Digits.{by_eight}
use Rattle.cnb_drill.proofs.WordLemmas.{before, behind, words, words_at}
use Rattle.cnb_drill.proofs.GroupLemmas.{listed_drill}
use Rattle.cnb_drill.proofs.SearchLemmas.{first_drill, reached_drill}
use Rattle.cnb_drill.proofs.Members.{IsDrilled, drill_resolved, group_keys}
use Rattle.cnb_drill.proofs.CountLemmas.{each_weaker, each_append, each_first, each_second, each_flat, each_map}
use Rattle.cnb_drill.proofs.AskedLemmas.{IsWord, are_words, length-asked}
use Rattle.cnb_drill.proofs.NumberLemmas.{digits-below, value-digits}
use Rattle.cnb_drill.proofs.ReplyLemmas.{answers_by}
use Rattle.steps.specs.Asking.{AreSaid}
use Rattle.cnb_drill.proofs.RanLemmas.{HasReply, recorded_reply, same_search, SameSearch}

-- ---- general: for detect_core

-- what is reached stands among the groups
each_reached : (P : Member → Type 0) (s : Member → Verdict) (place : ℕ) (groups : List (List Member))
    → AllByRecursion P (flat groups) → AllByRecursion P (flat (reached s place groups))
each_reached P s place [] h = h
each_reached P s place (group ∷ groups) h =
    each_append P group (flat (or_reached (ending_at s place group) (reached s (place + 1) groups)))
    (each_first P group (flat groups) h)
    (by_ending P (ending_at s place group) (reached s (place + 1) groups)
    (each_reached P s (place + 1) groups (each_second P group (flat groups) h)))
  where
    by_ending : (Q : Member → Type 0) (o : Option Ending) (later : List (List Member))
        → AllByRecursion Q (flat later) → AllByRecursion Q (flat (or_reached o later))
    by_ending Q (Some e) later q = tt
    by_ending Q None later q = q

any-map : {X Y : Type 0} (p : Y → Bool) (f : X → Y) (xs : List X) → list_any p (map f xs) ≡ list_any (λ x. p (f x)) xs
any-map p f [] = refl
any-map p f (x ∷ xs) = ap (λ b. p (f x) || b) (any-map p f xs)

abbrev job_key : DetectJob → Key
job_key job = record { id = job.id; version = job.version }

-- who was reached ran, where the children that ran are those of the members reached, in order
ran_any : (frame : DetectFrame) (rans : List Ran) (reached_groups : List (List Member))
    → map (λ r. r.job) rans ≡ map (detect_job frame) (members_of reached_groups) → (key : Key) →
    list_any (λ ran. same_key key (key_of ran)) rans ≡ list_any (λ m. same_key key m.key) (flat reached_groups)
ran_any frame rans reached_groups jobs key =
    sym (any-map (λ job. same_key key (job_key job)) (λ (r : Ran). r.job) rans)
    ∙ (ap (list_any (λ job. same_key key (job_key job))) jobs
    ∙ (any-map (λ job. same_key key (job_key job)) (detect_job frame) (members_of reached_groups)
    ∙ (sym (any-map (same_key key) (λ (m : Member). m.key) (members_of reached_groups))
    ∙ any-met key (flat reached_groups))))

agree_said : (replies : List Reply) (rans : List Ran) (met ms : List Member)
    → ((key : Key) → list_any (λ ran. same_key key (key_of ran)) rans ≡ list_any (λ m. same_key key m.key) met) →
    AreSaid (Some replies) rans → AllByRecursion (λ m. HasReply replies m.key) ms
    → AllByRecursion (λ m. list_any (λ (n : Member). same_key m.key n.key) met ≡ true) ms
    → AgreeOn (says None build_plan rans) (said_by replies) ms
agree_said replies rans met [] ran said has here = tt
agree_said replies rans met (m ∷ ms) ran said has here = (
  ap (answer_or_error build_plan) (recorded_reply replies rans m.key said has.0 (ran m.key ∙ here.0)),
  agree_said replies rans met ms ran said has.1 here.1,
)

each_meets : (front ms : List Member) → AllByRecursion (λ m. list_any (λ (n : Member). same_key m.key n.key)
    (front ++ ms) ≡ true) ms
each_meets front [] = tt
each_meets front (m ∷ ms) = (
  any_at front m ms,
  subst (λ (all : List Member). AllByRecursion (λ k. list_any (λ (n : Member). same_key k.key n.key) all ≡ true)
      ms) (front_push front m ms) (each_meets (front ++ m ∷ []) ms),
)
  where
    any_at : (xs : List Member) (x : Member) (ys : List Member)
        → list_any (λ (n : Member). same_key x.key n.key) (xs ++ x ∷ ys) ≡ true
    any_at [] x ys = or_left (same_key x.key x.key) (list_any (λ (n : Member). same_key x.key n.key) ys)
        (same_key-same x.key x.key refl)
    any_at (y ∷ xs) x ys = or_right (same_key x.key y.key)
        (list_any (λ (n : Member). same_key x.key n.key) (xs ++ x ∷ ys)) (any_at xs x ys)

    front_push : (xs : List Member) (x : Member) (ys : List Member) → (xs ++ x ∷ []) ++ ys ≡ xs ++ x ∷ ys
    front_push [] x ys = refl
    front_push (y ∷ xs) x ys = ap (λ zs. y ∷ zs) (front_push xs x ys)

-- Children whose answers are fixed by replies, of which those that were reached ran, in whatever order: the search is
-- that by the replies.
pub said_search_by : (replies : List Reply) (groups : List (List Member)) (rans : List Ran)
    → AllByRecursion (λ m. HasReply replies m.key) (flat groups) → AreSaid (Some replies) rans →
    ((key : Key) → list_any (λ ran. same_key key (key_of ran)) rans
    ≡ list_any (λ m. same_key key m.key) (flat (reached (says None build_plan rans) 0 groups))) →
    SameSearch (says None build_plan rans) (said_by replies) 0 groups
said_search_by replies groups rans has said ran =
    let met = flat (reached (says None build_plan rans) 0 groups) in
    same_search (says None build_plan rans) (said_by replies) 0 groups
    (agree_said replies rans met met ran said (each_reached (λ m. HasReply replies m.key)
    (says None build_plan rans) 0 groups has) (each_meets [] met))

pub said_search : (frame : DetectFrame) (replies : List Reply) (groups : List (List Member)) (rans : List Ran)
    → AllByRecursion (λ m. HasReply replies m.key) (flat groups) → AreSaid (Some replies) rans →
    map (λ r. r.job) rans ≡ map (detect_job frame) (members_of (reached (says None build_plan rans) 0 groups))
    → SameSearch (says None build_plan rans) (said_by replies) 0 groups
said_search frame replies groups rans has said jobs =
    said_search_by replies groups rans has said (ran_any frame rans (reached (says None build_plan rans) 0 groups) jobs)

-- ---- the drill

-- every member is for the drill's image, which is not known
pub asked_reached : (say : Member → Verdict) → asked_members None say drill_catalog drill_order
    ≡ members_of (reached say 0 (listed_groups drill_catalog drill_order))
unfolding asked_members
asked_reached say = ap members_of (fitting-none (reached say 0 (listed_groups drill_catalog drill_order)))

module _ (a b c d : ℕ) where
  abbrev all_replies : List Reply
  all_replies = replies_from 0 (a ∷ b ∷ c ∷ d ∷ [])

  abbrev Has : Member → Type 0
  Has m = HasReply all_replies m.key

  has_0 : (digit : ℕ) → digit < 8 → Has (digit_member 0 digit)
  has_0 = by_eight (λ digit. Has (digit_member 0 digit)) (_, refl) (_, refl) (_, refl) (_, refl) (_, refl)
      (_, refl) (_, refl) (_, refl)

  has_1 : (digit : ℕ) → digit < 8 → Has (digit_member 1 digit)
  has_1 = by_eight (λ digit. Has (digit_member 1 digit)) (_, refl) (_, refl) (_, refl) (_, refl) (_, refl)
      (_, refl) (_, refl) (_, refl)

  has_2 : (digit : ℕ) → digit < 8 → Has (digit_member 2 digit)
  has_2 = by_eight (λ digit. Has (digit_member 2 digit)) (_, refl) (_, refl) (_, refl) (_, refl) (_, refl)
      (_, refl) (_, refl) (_, refl)

  has_3 : (digit : ℕ) → digit < 8 → Has (digit_member 3 digit)
  has_3 = by_eight (λ digit. Has (digit_member 3 digit)) (_, refl) (_, refl) (_, refl) (_, refl) (_, refl)
      (_, refl) (_, refl) (_, refl)

  has_word : (word : List ℕ) → IsWord 4 word → AllByRecursion Has (members 0 word)
  has_word [] h = absurd h
  has_word (p ∷ []) h = absurd h.1
  has_word (p ∷ q ∷ []) h = absurd h.1.1
  has_word (p ∷ q ∷ r ∷ []) h = absurd h.1.1.1
  has_word (p ∷ q ∷ r ∷ s ∷ []) h = (
    has_0 p h.0,
    (has_1 q h.1.0, (has_2 r h.1.1.0, (has_3 s h.1.1.1.0, ((_, refl), tt)))),
  )
  has_word (p ∷ q ∷ r ∷ s ∷ t ∷ rest) h = absurd h.1.1.1.1

  have_replies : AllByRecursion Has (flat (listed_groups drill_catalog drill_order))
  have_replies =
      subst (λ (groups : List (List Member)). AllByRecursion Has (flat groups)) (sym listed_drill)
      (each_flat Has (λ g. g) (map (members 0) (words 4))
      (each_map (AllByRecursion Has) (members 0) (words 4)
      (each_weaker (IsWord 4) (λ w. AllByRecursion Has (members 0 w)) has_word (words 4) (are_words 4))))

module _ (number : ℕ) (h : number < 4096) where
  abbrev law : Member → Verdict
  law = said_by (drill_replies number)

  answers : AnswersBy law 0 (digits_of number)
  unfolding drill_replies
  answers = answers_by (number / 512 % 8) (number / 64 % 8) (number / 8 % 8) (number % 8) (digits-below number)

  by_law : first_trial law drill_catalog drill_order
      ≡ Some (FirstTrial number (drill_resolved (number / 512 % 8) (number / 64 % 8) (number / 8 % 8)
      (number % 8)) (group_keys (number / 512 % 8) (number / 64 % 8) (number / 8 % 8) (number % 8)))
  by_law =
      first_drill law (number / 512 % 8) (number / 64 % 8) (number / 8 % 8) (number % 8) answers
      ∙ ap (λ place. Some (FirstTrial place (drill_resolved (number / 512 % 8) (number / 64 % 8) (number / 8 % 8)
      (number % 8)) (group_keys (number / 512 % 8) (number / 64 % 8) (number / 8 % 8) (number % 8))))
      (value-digits number h)

  asked_by_law : length (members_of (reached law 0 (listed_groups drill_catalog drill_order)))
      ≡ asked_from false (digits_of number)
  asked_by_law =
      ap (λ groups. length (members_of groups)) (reached_drill law (number / 512 % 8) (number / 64 % 8)
      (number / 8 % 8) (number % 8) answers)
      ∙ length-asked 0 (digits_of number) (digits-below number)

  -- the groups that are reached by the replies are the first of all
  pub reached_by_replies : (later : List (List Member)) ×
      (listed_groups drill_catalog drill_order ≡ reached law 0 (listed_groups drill_catalog drill_order) ++ later)
  reached_by_replies =
      let digits = digits_of number in (
        map (members 0) (behind digits),
        listed_drill
            ∙ (ap (map (members 0)) (words_at digits (digits-below number)
            ∙ sym (append_assoc (before digits) (digits ∷ []) (behind digits)))
            ∙ (map-append (members 0) (before digits ++ digits ∷ []) (behind digits)
            ∙ ap (λ groups. groups ++ map (members 0) (behind digits))
            (sym (reached_drill law (number / 512 % 8) (number / 64 % 8) (number / 8 % 8) (number % 8) answers)))),
      )

  -- by the replies themselves
  pub drilled_by_replies : IsDrilled number law
  drilled_by_replies = record {
    first = (number / 512 % 8, number / 64 % 8, number / 8 % 8, number % 8, refl, by_law);
    asked = length-map (asked_members None law drill_catalog drill_order) (λ m. m.key)
        ∙ (ap length (asked_reached law) ∙ asked_by_law);
  }

  module _ (frame : DetectFrame) (rans : List Ran) (said : AreSaid (Some (drill_replies number)) rans)
      (jobs : map (λ r. r.job) rans ≡ map (detect_job frame)
      (asked_members None (says None build_plan rans) drill_catalog drill_order)) where
    same_drill : SameSearch (says None build_plan rans) law 0 (listed_groups drill_catalog drill_order)
    unfolding drill_replies
    same_drill =
        said_search frame (drill_replies number) (listed_groups drill_catalog drill_order) rans
        (have_replies (number / 512 % 8) (number / 64 % 8) (number / 8 % 8) (number % 8)) said
        (jobs ∙ ap (map (detect_job frame)) (asked_reached (says None build_plan rans)))

    -- these are the same members
    pub asked_by_runs : asked_members None (says None build_plan rans) drill_catalog drill_order
        ≡ asked_members None law drill_catalog drill_order
    asked_by_runs = asked_reached (says None build_plan rans)
        ∙ (ap members_of same_drill.reached_same ∙ sym (asked_reached law))

    -- by the children that ran in a call, each of which answered by the replies
    pub drilled_by_runs : IsDrilled number (says None build_plan rans)
    unfolding first_trial
    drilled_by_runs = record {
      first = (number / 512 % 8, number / 64 % 8, number / 8 % 8, number % 8, refl, same_drill.ending ∙ by_law);
      asked = length-map (asked_members None (says None build_plan rans) drill_catalog drill_order) (λ m. m.key)
          ∙ (ap length (asked_reached (says None build_plan rans))
          ∙ (ap (λ groups. length (members_of groups)) same_drill.reached_same ∙ asked_by_law));
    }
