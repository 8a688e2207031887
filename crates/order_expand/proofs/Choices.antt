-- The groups of one that is begun, as it goes on.
use Rattle.std.proofs.Common.{◌≡◌, ℕ, ◌+◌, Bool, true, false, cond, List, [], ◌∷◌, ◌++◌, map, refl, sym, ◌∙◌, ap, subst}
use Rattle.std.proofs.Common.{append-nil, append_assoc}
use Rattle.std.specs.Prelude.{Option, Some}
use Rattle.std.specs.Borrow.{Bor}
use Rattle.std.specs.List.{flat_map}
use Rattle.std.proofs.lemmas.List.{map-append}
use Rattle.bp_docs.specs.declared.descriptor.Entry.{Entry}
use Rattle.bp_docs.specs.declared.descriptor.Body.{Body}
use Rattle.bp_docs.specs.declared.descriptor.Body.TheVariants.{Component, Composite, Foreign}
use Rattle.bp_docs.specs.declared.descriptor.Descriptor.{Descriptor}
use Rattle.bp_docs.specs.declared.descriptor.TargetRule.{TargetRule}
use Rattle.order_expand.specs.declared.member.Member.{Member}
use Rattle.order_expand.specs.declared.begun.MemberComponent.{MemberComponent}
use Rattle.order_expand.specs.declared.begun.Place.{Place}
use Rattle.order_expand.specs.declared.begun.Place.TheVariants.{Entries, Groups, Nowhere}
use Rattle.order_expand.specs.declared.begun.Begun.{Begun}
use Rattle.order_expand.specs.Begun.{joined, IsEnd, groups_in, groups_later, groups_with, groups_of, groups_of_waiting}
use Rattle.order_expand.specs.MemberComponent.{member_of, clears_env, targets_of}
use Rattle.order_expand.specs.Groups.{in_front, in_front_of, raw_groups, expanded}
use Rattle.order_expand.specs.Steps.{body_steps, named_steps, entries_steps, order_steps, place_steps, later_steps}
use Rattle.order_expand.specs.Steps.{steps_of, steps_of_waiting}
use Rattle.order_expand.proofs.Joined.{map_same, fold-snoc, joined-append, joined-one, joined-last, joined-assoc}
use Rattle.order_expand.proofs.Joined.{one_member_more}
use Rattle.order_expand.proofs.Levels.{raw_groups_suc}

-- ---- places that come later

pub groups_later-snoc : (catalog : List Descriptor) (later : List Place) (place : Place) →
    groups_later catalog (later ++ place ∷ []) ≡ joined (groups_in catalog place) (groups_later catalog later)
groups_later-snoc catalog later place = fold-snoc (λ behind place. joined (groups_in catalog place) behind)
    ([] ∷ []) later place

pub later_steps-snoc : (catalog : List Descriptor) (later : List Place) (place : Place) →
    later_steps catalog (later ++ place ∷ []) ≡ place_steps catalog place (later_steps catalog later)
later_steps-snoc catalog later place = fold-snoc (λ behind place. place_steps catalog place behind) 0 later place

-- behind the last entry of a place comes the next place
pub back_to_later : (catalog : List Descriptor) (members : List MemberComponent) (later : List Place) (place : Place) →
    groups_with catalog members (groups_in catalog place) later
    ≡ groups_with catalog members ([] ∷ []) (later ++ place ∷ [])
back_to_later catalog members later place =
    ap (map (λ group. map member_of members ++ group))
    (sym (joined-one (groups_later catalog (later ++ place ∷ [])) ∙ groups_later-snoc catalog later place))

pub nothing_later : (catalog : List Descriptor) (members : List MemberComponent)
    → groups_with catalog members ([] ∷ []) [] ≡ map member_of members ∷ []
nothing_later catalog members = ap (λ group. group ∷ []) (append-nil (map member_of members))

pub at_end : (place : Place) (levels : ℕ) (entries : Bor (List Entry)) → place ≡ Entries levels entries
    → entries.now ≡ [] → IsEnd place
at_end place levels entries e none = subst IsEnd (sym e) none

pub groups_at_end : (catalog : List Descriptor) (place : Place) → IsEnd place → groups_in catalog place ≡ [] ∷ []
groups_at_end catalog (Entries levels entries) e = ap (expanded (raw_groups levels catalog) catalog) e
groups_at_end catalog (Groups levels groups optional) e = absurd e
groups_at_end catalog Nowhere e = absurd e

pub steps_at_end : (catalog : List Descriptor) (place : Place) (behind : ℕ) → IsEnd place
    → place_steps catalog place behind ≡ behind + 1
steps_at_end catalog (Entries levels entries) behind e = ap
    (λ (es : List Entry). entries_steps (order_steps levels catalog) catalog es behind) e
steps_at_end catalog (Groups levels groups optional) behind e = absurd e
steps_at_end catalog Nowhere behind e = absurd e

-- ---- one entry

pub component_chosen : (catalog : List Descriptor) (members : List MemberComponent) (chosen : MemberComponent)
    (groups : List (List Member)) (later : List Place) →
    groups_with catalog (members ++ chosen ∷ []) groups later
    ≡ groups_with catalog members (map (λ group. member_of chosen ∷ group) groups) later
component_chosen catalog members chosen groups later =
    ap (λ (front : List Member). map (λ group. front ++ group) (joined groups (groups_later catalog later)))
    (map-append member_of members (chosen ∷ []))
    ∙ one_member_more (map member_of members) (member_of chosen) groups (groups_later catalog later)

one_or_none : (optional : Bool) (groups : List (List Member))
    → joined (cond optional ([] ∷ []) []) groups ≡ cond optional groups []
one_or_none true groups = joined-one groups
one_or_none false groups = refl

pub composite_opened : (catalog : List Descriptor) (members : List MemberComponent) (own : List (List Member))
    (optional : Bool) (later : List Place) (place : Place) →
    groups_with catalog members (own ++ cond optional ([] ∷ []) []) (later ++ place ∷ [])
    ≡ groups_with catalog members (joined own (groups_in catalog place)
    ++ cond optional (groups_in catalog place) []) later
composite_opened catalog members own optional later place =
    let behind = groups_in catalog place in
    let all = own ++ cond optional ([] ∷ []) [] in
    ap (map (λ group. map member_of members ++ group))
    (ap (joined all) (groups_later-snoc catalog later place)
    ∙ (sym (joined-assoc all behind (groups_later catalog later))
    ∙ ap (λ groups. joined groups (groups_later catalog later))
    (joined-append own (cond optional ([] ∷ []) []) behind ∙ ap (λ groups. joined own behind ++ groups)
    (one_or_none optional behind))))

-- ---- one group of several

pub groups_with-append : (catalog : List Descriptor) (members : List MemberComponent)
    (some others : List (List Member)) (later : List Place) →
    groups_with catalog members (some ++ others) later ≡ groups_with catalog members some later
    ++ groups_with catalog members others later
groups_with-append catalog members some others later =
    ap (map (λ group. map member_of members ++ group)) (joined-append some others (groups_later catalog later))
    ∙ map-append (λ group. map member_of members ++ group) (joined some (groups_later catalog later))
    (joined others (groups_later catalog later))

pub group_chosen : (catalog : List Descriptor) (members : List MemberComponent)
    (first others none : List (List Member)) (later : List Place) (waiting : List (List Member)) →
    groups_with catalog members first later ++ (groups_with catalog members (others ++ none) later ++ waiting)
    ≡ groups_with catalog members ((first ++ others) ++ none) later ++ waiting
group_chosen catalog members first others none later waiting =
    sym (append_assoc (groups_with catalog members first later)
    (groups_with catalog members (others ++ none) later) waiting)
    ∙ ap (λ groups. groups ++ waiting) (sym (groups_with-append catalog members first (others ++ none) later)
    ∙ ap (λ groups. groups_with catalog members groups later) (sym (append_assoc first others none)))

-- ---- groups that wait

pub groups_of_waiting-snoc : (catalog : List Descriptor) (waiting : List Begun) (begun : Begun) →
    groups_of_waiting catalog (waiting ++ begun ∷ []) ≡ groups_of catalog begun ++ groups_of_waiting catalog waiting
groups_of_waiting-snoc catalog waiting begun = fold-snoc
    (λ others begun. groups_of catalog begun ++ others) [] waiting begun

pub steps_of_waiting-snoc : (catalog : List Descriptor) (waiting : List Begun) (begun : Begun) →
    steps_of_waiting catalog (waiting ++ begun ∷ []) ≡ steps_of_waiting catalog waiting + (steps_of catalog begun + 1)
steps_of_waiting-snoc catalog waiting begun = fold-snoc
    (λ others begun. others + (steps_of catalog begun + 1)) 0 waiting begun

-- ---- what an entry names

pub component_met : (groups_of : List (List Entry) → List (List Member)) (entry : Entry)
    (found : Option Descriptor) (chosen : MemberComponent) (clear_env : Bool) (targets : List TargetRule)
    (behind : List (List Member)) →
    Some chosen.descriptor.now ≡ found → chosen.descriptor.now.body ≡ Component clear_env targets
    → chosen.optional ≡ entry.optional →
    map (λ group. member_of chosen ∷ group) behind ≡ in_front_of groups_of entry found behind
component_met groups_of entry found chosen clear_env targets behind n b o =
    (λ i. map (λ group. record {
      key = chosen.descriptor.now.key;
      optional = o i;
      clear_env = clears_env
          (b i);
      targets = targets_of (b i);
    } ∷ group) behind)
    ∙ (sym (ap (λ (body : Body). in_front groups_of entry chosen.descriptor.now.key body behind) b)
    ∙ ap (λ (d : Option Descriptor). in_front_of groups_of entry d behind) n)

pub composite_met : (groups_of : List (List Entry) → List (List Member)) (entry : Entry)
    (found : Option Descriptor) (descriptor : Descriptor) (order : List (List Entry))
    (behind : List (List Member)) →
    Some descriptor ≡ found → descriptor.body ≡ Composite order →
    joined (groups_of order) behind ++ cond entry.optional behind [] ≡ in_front_of groups_of entry found behind
composite_met groups_of entry found descriptor order behind n b =
    sym (ap (λ (body : Body). in_front groups_of entry descriptor.key body behind) b)
    ∙ ap (λ (d : Option Descriptor). in_front_of groups_of entry d behind) n

pub foreign_met : (groups_of : List (List Entry) → List (List Member)) (entry : Entry) (found : Option Descriptor)
    (descriptor : Descriptor) (api : List ℕ) (behind : List (List Member)) →
    Some descriptor ≡ found → descriptor.body ≡ Foreign api → [] ≡ in_front_of groups_of entry found behind
foreign_met groups_of entry found descriptor api behind n b =
    sym (ap (λ (body : Body). in_front groups_of entry descriptor.key body behind) b)
    ∙ ap (λ (d : Option Descriptor). in_front_of groups_of entry d behind) n

pub steps_met : (order_steps : List (List Entry) → ℕ → ℕ) (found : Option Descriptor) (descriptor : Descriptor)
    (body : Body) (behind : ℕ) →
    Some descriptor ≡ found → descriptor.body ≡ body → named_steps order_steps found behind
    ≡ body_steps order_steps body behind
steps_met order_steps found descriptor body behind n b =
    sym (ap (λ (d : Option Descriptor). named_steps order_steps d behind) n)
    ∙ ap (λ (b : Body). body_steps order_steps b behind) b

-- ---- the beginning

pub first_groups : (catalog : List Descriptor) (order : List (List Entry)) (members : List MemberComponent)
    (later : List Place) (waiting : List Begun) →
    members ≡ [] → later ≡ [] → waiting ≡ [] →
    groups_with catalog members (flat_map (expanded (raw_groups 16 catalog) catalog) order ++ []) later
    ++ groups_of_waiting catalog waiting ≡ raw_groups 17 catalog order
first_groups catalog order members later waiting a b w =
    let groups = flat_map (expanded (raw_groups 16 catalog) catalog) order in
    (λ i. groups_with catalog (a i) (groups ++ []) (b i) ++ groups_of_waiting catalog (w i))
    ∙ (append-nil (map (λ (group : List Member). group) (joined (groups ++ []) ([] ∷ [])))
    ∙ (map_same (joined (groups ++ []) ([] ∷ []))
    ∙ (joined-last (groups ++ []) ∙ (append-nil groups ∙ sym (raw_groups_suc 16 catalog order)))))
