-- Sound orders are read, and none is refused.
use Rattle.std.proofs.Common.{◌≡◌, ◌∙◌, refl, sym, ap, ℕ, ◌≤◌, Bool, false, cond, ◌||◌, List, [], ◌∷◌, length}
use Rattle.std.proofs.Common.{Some, None, Result, Ok, Err}
use Rattle.std.proofs.lemmas.Bool.{le-ltb}
use Rattle.std.specs.Prelude.{nat_lt, if◌then◌else◌}
use Rattle.std.specs.List.{AllByRecursion, find, list_any}
use Rattle.bp_docs.specs.Order.{order_in}
use Rattle.bp_docs.specs.declared.descriptor.Body.{Body}
use Rattle.bp_docs.specs.declared.descriptor.Body.TheVariants.{Component, Composite, Foreign}
use Rattle.bp_docs.specs.declared.descriptor.Descriptor.{Descriptor}
use Rattle.bp_docs.specs.declared.descriptor.Entry.{Entry}
use Rattle.cnb_world.specs.Tree.{Tree}
use Rattle.doc_files.specs.Reading.{read_at}
use Rattle.order_expand.proofs.Faults.{fault_of_named}
use Rattle.order_expand.specs.Check.{body_fault, checked, deep_or_count, entries_of, entry_fault}
use Rattle.order_expand.specs.Check.{fault_or_deep, first_fault, met_entries, nests_deeper}
use Rattle.order_expand.specs.Groups.{listed_groups, raw_groups}
use Rattle.order_expand.specs.declared.member.Member.{Member}
use Rattle.order_expand.specs.declared.order.OrderFault.{OrderFault}
use Rattle.order_expand.specs.declared.order.OrderFault.TheVariants.{LongGroup, ManyGroups}
use Rattle.order_files.specs.OrderFile.{order_file_in, order_of}
use Rattle.detect_laws.specs.Documents.{IsDocument}
use Rattle.detect_laws.specs.Orders.{IsServed, IsSoundOrder, NamesOne}
use Rattle.detect_laws.proofs.DocumentLemmas.{then_bytes}

pub order_read : (files : Tree) (path : List ℕ) (order : List (List Entry)) → IsDocument order_in files path order
    → order_file_in path files ≡ Ok order
unfolding order_file_in
order_read files path order h = then_bytes files path (order_of path) order_in order h ∙ ap (read_at path) h.valid

served : (entry : Entry) (body : Body) → IsServed body → body_fault entry body ≡ None
served entry (Component clear_env targets) h = refl
served entry (Composite order) h = refl
served entry (Foreign api) h = absurd h

module _ (catalog : List Descriptor) where
  one_named : (entry : Entry) → NamesOne catalog entry → entry_fault catalog entry ≡ None
  one_named entry (descriptor, names, is) = sym (fault_of_named catalog entry descriptor (sym names))
      ∙ served entry descriptor.body is

  all_named : (entries : List Entry) → AllByRecursion (NamesOne catalog) entries → first_fault catalog entries ≡ None
  all_named [] h = refl
  all_named (entry ∷ entries) (first, rest) = rw (one_named entry first, first_fault) (all_named entries rest)

none_found : {X : Type 0} (test : X → Bool) (xs : List X) → AllByRecursion (λ x. test x ≡ false) xs
    → find test xs ≡ None
none_found test [] h = refl
none_found test (x ∷ xs) (first, rest) = ap (λ b. cond b (Some x) (find test xs)) first ∙ none_found test xs rest

none_long : (groups : List (List Member)) → AllByRecursion (λ group. length group ≤ 256) groups
    → list_any (λ group. nat_lt 256 (length group)) groups ≡ false
none_long [] h = refl
none_long (group ∷ groups) (first, rest) =
    ap (λ b. b || list_any (λ group. nat_lt 256 (length group)) groups) (le-ltb 256 (length group) first)
    ∙ none_long groups rest

-- no entry is at fault, no composite too deep, and no limit is passed
pub order_checked : (catalog : List Descriptor) (order : List (List Entry)) → IsSoundOrder catalog order
    → checked catalog order ≡ Ok (length (listed_groups catalog order))
unfolding checked
order_checked catalog order h =
    let count = length (listed_groups catalog order) in
    let long = list_any (λ group. nat_lt 256 (length group)) (raw_groups 17 catalog order) in
    let counted : Bool → Bool → Result ℕ OrderFault = λ many some. if many then Err ManyGroups
    else if some then Err LongGroup else Ok count in
    ap (fault_or_deep catalog order) (all_named catalog (met_entries catalog order) h.entries)
    ∙ ap (deep_or_count catalog order) (none_found (nests_deeper 16 catalog) (entries_of order) h.nesting)
    ∙ ap (λ b. counted b long) (le-ltb 4096 count h.groups)
    ∙ ap (counted false) (none_long (raw_groups 17 catalog order) h.short)
