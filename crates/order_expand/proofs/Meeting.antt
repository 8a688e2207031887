-- The first fault of the entries that are met, one entry after another.
use Rattle.std.proofs.Common.{◌≡◌, ℕ, zero, suc, ◌+◌, ◌≤◌, Bor, Bool, true, false, List, [], ◌∷◌, ◌++◌, map, refl, sym}
use Rattle.std.proofs.Common.{◌∙◌, ap, length, arith}
use Rattle.std.specs.Prelude.{Option, Some, None, is_some, reverse, sum}
use Rattle.std.proofs.lemmas.List.{map-append, reverse-append}
use Rattle.std.proofs.lemmas.List.Sums.{sum_by-cons}
use Rattle.cnb_toml.specs.declared.names.Key.{Key}
use Rattle.bp_docs.specs.declared.descriptor.Entry.{Entry}
use Rattle.bp_docs.specs.declared.descriptor.Descriptor.{Descriptor}
use Rattle.order_expand.specs.declared.order.OrderFault.{OrderFault}
use Rattle.order_expand.specs.Check.{order_of_body, entry_count, entries_of, entries_behind, with_met, met_from}
use Rattle.order_expand.specs.Check.{met_entries, entry_fault, first_fault}
use Rattle.order_expand.specs.Groups.{named}
use Rattle.order_expand.specs.Met.{waiting_in, marks_of, unmet_count}

abbrev pub or_else : Option OrderFault → Option OrderFault → Option OrderFault
or_else (Some fault) other = Some fault
or_else None other = other

fault_first : (o other : Option OrderFault) → elim o [ Some fault ↦ Some fault | None ↦ other ] ≡ or_else o other
fault_first (Some fault) other = refl
fault_first None other = refl

pub first_fault-cons : (catalog : List Descriptor) (entry : Entry) (entries : List Entry)
    → first_fault catalog (entry ∷ entries) ≡ or_else (entry_fault catalog entry) (first_fault catalog entries)
first_fault-cons catalog entry entries = fault_first (entry_fault catalog entry) (first_fault catalog entries)

-- where nothing waits any more, there is no fault
pub no_fault : (catalog : List Descriptor) (steps : ℕ) (met : List Key)
    → first_fault catalog (met_from steps catalog met []) ≡ None
no_fault catalog zero met = refl
no_fault catalog (suc steps) met = refl

-- an entry with a fault
pub fault_here : (catalog : List Descriptor) (entry : Entry) (waiting : List Entry) (met : List Key) (steps : ℕ)
    (fault : OrderFault) → 1 ≤ steps → entry_fault catalog entry ≡ Some fault →
    first_fault catalog (met_from steps catalog met (entry ∷ waiting)) ≡ Some fault
fault_here catalog entry waiting met zero fault h e = absurd (omega arith)
fault_here catalog entry waiting met (suc steps) fault h e =
    let behind = met_from steps catalog (with_met met (named catalog entry))
    (entries_behind met (named catalog entry) ++ waiting) in
    first_fault-cons catalog entry behind ∙ ap (λ o. or_else o (first_fault catalog behind)) e

-- an entry without one
pub fault_behind : (catalog : List Descriptor) (entry : Entry) (waiting : List Entry) (met : List Key) (steps : ℕ)
    → entry_fault catalog entry ≡ None →
    first_fault catalog (met_from (suc steps) catalog met (entry ∷ waiting))
    ≡ first_fault catalog (met_from steps catalog (with_met met (named catalog entry))
    (entries_behind met (named catalog entry) ++ waiting))
fault_behind catalog entry waiting met steps e =
    let behind = met_from steps catalog (with_met met (named catalog entry))
    (entries_behind met (named catalog entry) ++ waiting) in
    first_fault-cons catalog entry behind ∙ ap (λ o. or_else o (first_fault catalog behind)) e

-- at first all that the descriptors have is left
pub unmet_count-none : (catalog : List Descriptor) → unmet_count (marks_of [] catalog) catalog
    ≡ sum (map (λ descriptor. entry_count (order_of_body descriptor.body)) catalog)
unmet_count-none [] = refl
unmet_count-none (d ∷ ds) =
    ap (λ n. entry_count (order_of_body d.body) + n) (unmet_count-none ds)
    ∙ sym (sum_by-cons (λ (n : ℕ). n) (entry_count (order_of_body d.body))
    (map (λ (descriptor : Descriptor). entry_count (order_of_body descriptor.body)) ds))

-- the state between two entries: the keys that were met, and enough steps for what is left
pub record Meets (catalog : List Descriptor) (order : List (List Entry)) (marks : List Bool)
    (waiting : List Entry) : Type 0 where
  pub met : List Key
  pub steps : ℕ
  pub marked : marks ≡ marks_of met catalog
  pub enough : length waiting + unmet_count marks catalog ≤ steps
  pub same : first_fault catalog (met_from steps catalog met waiting) ≡ first_fault catalog (met_entries catalog order)

pub meets_start : (catalog : List Descriptor) (order : List (List Entry)) (marks : List Bool)
    (waiting : List Entry) → marks ≡ marks_of [] catalog → waiting ≡ entries_of order
    → Meets catalog order marks waiting
meets_start catalog order marks waiting m w =
    let left : unmet_count marks catalog ≡ sum (map (λ descriptor. entry_count (order_of_body descriptor.body))
    catalog) = ap (λ ms. unmet_count ms catalog) m ∙ unmet_count-none catalog in
    let front : length waiting ≡ entry_count order = ap length w in
    record {
      met = [];
      steps = entry_count order + sum (map (λ (descriptor : Descriptor). entry_count
          (order_of_body descriptor.body)) catalog);
      marked = m;
      enough = omega (arith, left, front);
      same = ap (λ (entries : List Entry). first_fault catalog
          (met_from (entry_count order + sum (map (λ (descriptor : Descriptor). entry_count
          (order_of_body descriptor.body)) catalog)) catalog [] entries)) w;
    }

pub meets_end : (catalog : List Descriptor) (order : List (List Entry)) (marks : List Bool) (waiting : List Entry)
    → Meets catalog order marks waiting → waiting ≡ [] → None ≡ first_fault catalog (met_entries catalog order)
meets_end catalog order marks waiting m e =
    sym (no_fault catalog m.steps m.met) ∙ (ap (λ (entries : List Entry). first_fault catalog
    (met_from m.steps catalog m.met entries)) (sym e) ∙ m.same)

pub meets_fault : (catalog : List Descriptor) (order : List (List Entry)) (marks : List Bool)
    (waiting rest : List Entry) (entry : Entry) (fault : OrderFault) → Meets catalog order marks waiting
    → waiting ≡ entry ∷ rest →
    entry_fault catalog entry ≡ Some fault → Some fault ≡ first_fault catalog (met_entries catalog order)
meets_fault catalog order marks waiting rest entry fault m e f =
    let there : length waiting ≡ suc (length rest) = ap length e in
    let more : 1 ≤ m.steps = omega (arith, m.enough, there) in
    sym (fault_here catalog entry rest m.met m.steps fault more f)
    ∙ (ap (λ (entries : List Entry). first_fault catalog (met_from m.steps catalog m.met entries)) (sym e)
    ∙ m.same)

meets_less : (catalog : List Descriptor) (order : List (List Entry)) (rest : List Entry) (entry : Entry)
    (met : List Key) (steps : ℕ) (left : ℕ) → left + 1 ≤ steps → entry_fault catalog entry ≡ None →
    first_fault catalog (met_from steps catalog met (entry ∷ rest)) ≡ first_fault catalog (met_entries catalog order) →
    (fewer : ℕ) × (left ≤ fewer) × (first_fault catalog
    (met_from fewer catalog (with_met met (named catalog entry))
    (entries_behind met (named catalog entry) ++ rest)) ≡ first_fault catalog (met_entries catalog order))
meets_less catalog order rest entry met zero left h n e = absurd (omega arith)
meets_less catalog order rest entry met (suc steps) left h n e =
    (steps, omega arith, sym (fault_behind catalog entry rest met steps n) ∙ e)

pub meets_next : (catalog : List Descriptor) (order : List (List Entry)) (marks next_marks : List Bool)
    (waiting rest next : List Entry) (entry : Entry) → (m : Meets catalog order marks waiting)
    → waiting ≡ entry ∷ rest →
    entry_fault catalog entry ≡ None → next_marks ≡ marks_of (with_met m.met (named catalog entry)) catalog
    → next ≡ entries_behind m.met (named catalog entry) ++ rest →
    length next + unmet_count next_marks catalog ≡ length rest + unmet_count marks catalog
    → Meets catalog order next_marks next
meets_next catalog order marks next_marks waiting rest next entry m e n k w l =
    let there : length waiting ≡ suc (length rest) = ap length e in
    let left : length next + unmet_count next_marks catalog + 1 ≤ m.steps = omega (arith, m.enough, there, l) in
    let less = meets_less catalog order rest entry m.met m.steps (length next + unmet_count next_marks catalog) left n
    (ap (λ (entries : List Entry). first_fault catalog (met_from m.steps catalog m.met entries)) (sym e) ∙ m.same) in
    record {
      met = with_met m.met (named catalog entry);
      steps = less.0;
      marked = k;
      enough = less.1;
      same = ap (λ (entries : List Entry). first_fault catalog
          (met_from less.0 catalog (with_met m.met (named catalog entry)) entries)) w ∙ less.2;
    }

pub meets_faulty : (catalog : List Descriptor) (order : List (List Entry)) (marks : List Bool)
    (waiting rest : List Entry) (entry : Entry) (found : Option OrderFault) → Meets catalog order marks waiting
    → waiting ≡ entry ∷ rest →
    found ≡ entry_fault catalog entry → is_some found ≡ true → found ≡ first_fault catalog (met_entries catalog order)
meets_faulty catalog order marks waiting rest entry None m e f s = cc
meets_faulty catalog order marks waiting rest entry (Some fault) m e f s = meets_fault catalog order marks waiting
    rest entry fault m e (sym f)

pub none_found : (found want : Option OrderFault) → found ≡ want → is_some found ≡ false → want ≡ None
none_found None want e s = sym e
none_found (Some fault) want e s = cc

-- the next entry to be met
pub next_waiting : (all rest : List (Bor Entry)) (entry : Bor Entry) → all ≡ rest ++ entry ∷ []
    → waiting_in all ≡ entry.now ∷ waiting_in rest
next_waiting all rest entry e =
    ap waiting_in e
    ∙ (ap reverse (map-append (λ (e : Bor Entry). e.now) rest (entry ∷ []))
    ∙ reverse-append (map (λ (e : Bor Entry). e.now) rest) (entry.now ∷ []))
