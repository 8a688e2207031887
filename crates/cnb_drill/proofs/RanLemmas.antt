-- A search reads no more than the answers of the members that it reached: where two ways of answering agree on these,
-- they end alike.
use Rattle.std.proofs.Common.{◌≡◌, ◌∙◌, refl, sym, ap, subst, inl, inr, ℕ, ◌+◌, Bool, true, false, List, [], ◌∷◌, ◌++◌}
use Rattle.std.specs.Prelude.{◌||◌, Option, Some, None}
use Rattle.std.specs.List.{list_any}
use Rattle.std.proofs.lemmas.Bool.{cases_Bool, false≢true}
use Rattle.cnb_world.specs.declared.child.Probed.{Probed}
use Rattle.cnb_world.specs.declared.child.Reply.{Reply}
use Rattle.cnb_world.specs.Runs.{Ran, reply_of, IsReply}
use Rattle.cnb_toml.specs.declared.names.Key.{Key}
use Rattle.cnb_toml.specs.Keys.{same_key}
use Rattle.order_expand.specs.declared.member.Member.{Member}
use Rattle.detect_core.specs.declared.chosen.Verdict.{Verdict}
use Rattle.detect_core.specs.Answer.{key_of, recorded}
use Rattle.detect_core.specs.Detection.{Ending, ending_at, first_ending, reached}
use Rattle.detect_core.proofs.AnswerLemmas.{AgreeOn, first_ending_same, or_later, or_reached}
use Rattle.detect_core.proofs.MemberLemmas.{flat, same_key-true}
use Rattle.steps.specs.Asking.{AreSaid}

-- ---- general: for detect_core

agree_first : (s t : Member → Verdict) (group more : List Member) → AgreeOn s t (group ++ more) → AgreeOn s t group
agree_first s t [] more a = tt
agree_first s t (m ∷ ms) more a = (a.0, agree_first s t ms more a.1)

agree_second : (s t : Member → Verdict) (group more : List Member) → AgreeOn s t (group ++ more) → AgreeOn s t more
agree_second s t [] more a = a
agree_second s t (m ∷ ms) more a = agree_second s t ms more a.1

or_none : (o : Option Ending) → or_later o None ≡ o
or_none (Some e) = refl
or_none None = refl

append-none : (xs : List Member) → xs ++ [] ≡ xs
append-none [] = refl
append-none (x ∷ xs) = ap (λ ys. x ∷ ys) (append-none xs)

ending_same : (s t : Member → Verdict) (place : ℕ) (group : List Member) → AgreeOn s t group
    → ending_at s place group ≡ ending_at t place group
ending_same s t place group a =
    sym (or_none (ending_at s place group))
    ∙ (first_ending_same s t place (group ∷ []) (subst (AgreeOn s t) (sym (append-none group)) a)
    ∙ or_none (ending_at t place group))

-- two searches that agree on what one of them reached
pub record SameSearch (s t : Member → Verdict) (place : ℕ) (groups : List (List Member)) : Type 0 where
  pub ending : first_ending s place groups ≡ first_ending t place groups
  pub reached_same : reached s place groups ≡ reached t place groups

search_on : (s t : Member → Verdict) (place : ℕ) (group : List Member) (groups : List (List Member))
    (o : Option Ending) →
    ending_at s place group ≡ o → ending_at t place group ≡ o → (o ≡ None → SameSearch s t (place + 1) groups)
    → SameSearch s t place (group ∷ groups)
search_on s t place group groups (Some e) es et later = record {
  ending = ap (λ x. or_later x (first_ending s (place + 1) groups)) es
      ∙ sym (ap (λ x. or_later x (first_ending t (place + 1) groups)) et);
  reached_same = ap (λ x. group ∷ or_reached x (reached s (place + 1) groups)) es
      ∙ sym (ap (λ x. group ∷ or_reached x (reached t (place + 1) groups)) et);
}
search_on s t place group groups None es et later =
    let rest = later refl in
    record {
      ending = ap (λ x. or_later x (first_ending s (place + 1) groups)) es
          ∙ (rest.ending ∙ sym (ap (λ x. or_later x (first_ending t (place + 1) groups)) et));
      reached_same = ap (λ x. group ∷ or_reached x (reached s (place + 1) groups)) es
          ∙ (ap (λ gs. group ∷ gs) rest.reached_same ∙ sym (ap
          (λ x. group ∷ or_reached x (reached t (place + 1) groups)) et));
    }

pub same_search : (s t : Member → Verdict) (place : ℕ) (groups : List (List Member))
    → AgreeOn s t (flat (reached s place groups)) → SameSearch s t place groups
same_search s t place [] a = record { ending = refl; reached_same = refl }
same_search s t place (group ∷ groups) a =
    let more = flat (or_reached (ending_at s place group) (reached s (place + 1) groups)) in
    let here : ending_at t place group ≡ ending_at s place group = sym
    (ending_same s t place group (agree_first s t group more a)) in
    search_on s t place group groups (ending_at s place group) refl here
    (λ none. same_search s t (place + 1) groups
    (subst (λ (o : Option Ending). AgreeOn s t (flat (or_reached o (reached s (place + 1) groups)))) none
    (agree_second s t group more a)))

-- ---- children that answer by fixed replies

-- a buildpack has a reply
abbrev pub HasReply : List Reply → Key → Type 0
HasReply replies key = (probed : Probed) × (reply_of replies key.id key.version ≡ Some probed)

reply_is : (o : Option Probed) (want probed : Probed) → o ≡ Some want → IsReply o probed → Some probed ≡ o
reply_is None want probed e h = absurd cc
reply_is (Some reply) want probed e h = ap Some h

-- what is recorded of a buildpack that ran and has a reply is that reply
pub recorded_reply : (replies : List Reply) (rans : List Ran) (key : Key) → AreSaid (Some replies) rans
    → HasReply replies key →
    list_any (λ ran. same_key key (key_of ran)) rans ≡ true → recorded rans key ≡ reply_of replies key.id key.version
recorded_reply replies [] key h r e = absurd (false≢true e)
recorded_reply replies (ran ∷ rans) key h r e = elim (cases_Bool (same_key key (key_of ran))) [
  | inl t ↦
      let same : key ≡ key_of ran = same_key-true key (key_of ran) t in
      let here : reply_of replies key.id key.version ≡ reply_of replies ran.job.id ran.job.version = λ i. reply_of
      replies (same i).id (same i).version in
      (λ i. if_same (t i) (Some ran.probed) (recorded rans key))
      ∙ (reply_is (reply_of replies ran.job.id ran.job.version) r.0 ran.probed (sym here ∙ r.1) h.0 ∙ sym here)
  | inr t ↦ (λ i. if_same (t i) (Some ran.probed) (recorded rans key))
      ∙ recorded_reply replies rans key h.1 r (sym (λ i. t i || list_any (λ r. same_key key (key_of r)) rans) ∙ e)
]
  where
    if_same : Bool → Option Probed → Option Probed → Option Probed
    if_same true a b = a
    if_same false a b = b
