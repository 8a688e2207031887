-- Why an entry is refused, by what it may mean.
use Rattle.std.proofs.Common.{◌≡◌, Bool, true, false, cond, ◌||◌, List, [], ◌∷◌, refl, sym, ◌∙◌, ap}
use Rattle.std.specs.Prelude.{Some, None}
use Rattle.std.specs.List.{filter, list_any}
use Rattle.bp_docs.specs.declared.descriptor.Entry.{Entry}
use Rattle.bp_docs.specs.declared.descriptor.Descriptor.{Descriptor}
use Rattle.order_expand.specs.declared.order.OrderFault.TheVariants.{Absent, Ambiguous}
use Rattle.order_expand.specs.Groups.{may_mean, named, the_only}
use Rattle.order_expand.specs.Check.{meaning_fault, body_fault, entry_fault}

abbrev has_some : {X : Type 0} → List X → Bool
has_some [] = false
has_some (x ∷ xs) = true

some_or : {X : Type 0} (b : Bool) (x : X) (xs : List X) (c : Bool) → c ≡ has_some xs
    → (b || c) ≡ has_some (cond b (x ∷ xs) xs)
some_or true x xs c e = refl
some_or false x xs c e = e

any_filtered : {X : Type 0} (p : X → Bool) (xs : List X) → list_any p xs ≡ has_some (filter p xs)
any_filtered p [] = refl
any_filtered p (x ∷ xs) = some_or (p x) x (filter p xs) (list_any p xs) (any_filtered p xs)

fault_of_one : (entry : Entry) (meant : List Descriptor) (d : Descriptor) → Some d ≡ the_only meant
    → body_fault entry d.body ≡ meaning_fault entry meant
fault_of_one entry [] d e = cc
fault_of_one entry (x ∷ []) d e = let same : d ≡ x = cc in ap (λ (y : Descriptor). body_fault entry y.body) same
fault_of_one entry (x ∷ y ∷ more) d e = cc

pub fault_of_named : (catalog : List Descriptor) (entry : Entry) (d : Descriptor) → Some d ≡ named catalog entry
    → body_fault entry d.body ≡ entry_fault catalog entry
fault_of_named catalog entry d e = fault_of_one entry (filter (may_mean entry) catalog) d e

fault_of_several : (entry : Entry) (meant : List Descriptor) → None ≡ the_only meant → has_some meant ≡ true
    → Some (Ambiguous entry.id) ≡ meaning_fault entry meant
fault_of_several entry [] e s = cc
fault_of_several entry (x ∷ []) e s = cc
fault_of_several entry (x ∷ y ∷ more) e s = refl

fault_of_none : (entry : Entry) (meant : List Descriptor) → has_some meant ≡ false
    → Some (Absent entry.id) ≡ meaning_fault entry meant
fault_of_none entry [] s = refl
fault_of_none entry (x ∷ more) s = cc

pub fault_of_ambiguous : (catalog : List Descriptor) (entry : Entry) → None ≡ named catalog entry
    → list_any (may_mean entry) catalog ≡ true → Some (Ambiguous entry.id) ≡ entry_fault catalog entry
fault_of_ambiguous catalog entry e s = fault_of_several entry (filter (may_mean entry) catalog) e
    (sym (any_filtered (may_mean entry) catalog) ∙ s)

pub fault_of_absent : (catalog : List Descriptor) (entry : Entry) → list_any (may_mean entry) catalog ≡ false
    → Some (Absent entry.id) ≡ entry_fault catalog entry
fault_of_absent catalog entry s = fault_of_none entry (filter (may_mean entry) catalog)
    (sym (any_filtered (may_mean entry) catalog) ∙ s)
