-- Tables with a value for each descriptor of a catalog.
use Rattle.std.proofs.Common.{◌≡◌, ℕ, ◌<◌, List, [], ◌∷◌, ◌++◌, map, sym, ◌∙◌, ap, subst, length, get_or, arith}
use Rattle.std.specs.Prelude.{Option, Some}
use Rattle.std.specs.List.{slice_get}
use Rattle.std.specs.Option.{option_map}
use Rattle.std.proofs.lemmas.List.{length-map, map-append}
use Rattle.std.proofs.lemmas.Option.{slice_get-map, slice_get-get_or, slice_get_within}
use Rattle.bp_docs.specs.declared.descriptor.Entry.{Entry}
use Rattle.bp_docs.specs.declared.descriptor.Body.{Body}
use Rattle.bp_docs.specs.declared.descriptor.Body.TheVariants.{Component, Composite}
use Rattle.bp_docs.specs.declared.descriptor.Descriptor.{Descriptor}
use Rattle.order_expand.specs.declared.member.Member.{Member}
use Rattle.order_expand.specs.declared.size.Size.{Size}
use Rattle.order_expand.specs.Groups.{in_front, in_front_of}
use Rattle.order_expand.specs.Sizes.{size_of}

some_injective : {X : Type 0} (x y : X) → Some x ≡ Some y → x ≡ y
some_injective x y e = cc

-- what stands in a table at the place of what it stands for
pub in_table : {X Y : Type 0} (f : Y → X) (table : List X) (rows : List Y) (place : ℕ) (row : Y) (x : X) →
    table ≡ map f rows → slice_get rows place ≡ Some row → slice_get table place ≡ Some x → x ≡ f row
in_table f table rows place row x t d e =
    some_injective x (f row) (sym e ∙ (ap (λ ys. slice_get ys place) t
    ∙ (slice_get-map f rows place ∙ ap (option_map f) d)))

-- a descriptor's place is in each table
pub place_in_table : {X : Type 0} (table : List X) (catalog : List Descriptor) (place : ℕ) (descriptor : Descriptor) →
    length table ≡ length catalog → slice_get catalog place ≡ Some descriptor → place < length table
place_in_table table catalog place descriptor e d = let h = slice_get_within catalog place descriptor d in omega arith

-- what stands in a table beside an element
pub beside : {X Y : Type 0} (f : Y → X) (table : List X) (rows : List Y) (place : ℕ) (row : Y) (x : X) →
    table ≡ map f rows → place < length rows → row ≡ get_or rows place row → slice_get table place ≡ Some x → x ≡ f row
beside f table rows place row x t h e s = in_table f table rows place row x t
    (slice_get-get_or rows place row h ∙ ap Some (sym e)) s

pub place_beside : {X Y : Type 0} (f : Y → X) (table : List X) (rows : List Y) (place : ℕ) → table ≡ map f rows
    → place < length rows → place < length table
place_beside f table rows place t h = let e = ap length t ∙ length-map rows f in omega arith

-- one more of both
pub table_push : {X Y : Type 0} (f : Y → X) (table : List X) (rows : List Y) (row : Y) → table ≡ map f rows
    → table ++ f row ∷ [] ≡ map f (rows ++ row ∷ [])
table_push f table rows row t = ap (λ xs. xs ++ f row ∷ []) t ∙ sym (map-append f rows (row ∷ []))

-- ---- an entry's groups by what it names

pub component_in_front : (groups_of : List (List Entry) → List (List Member)) (entry : Entry)
    (o : Option Descriptor) (d : Descriptor) (clear_env : _) (targets : _) (groups : List (List Member))
    (size : Size) →
    Some d ≡ o → d.body ≡ Component clear_env targets
    → ((member : Member) → size ≡ size_of (map (λ group. member ∷ group) groups))
    → size ≡ size_of (in_front_of groups_of entry o groups)
component_in_front groups_of entry o d clear_env targets groups size n b each =
    let member : Member = record { key = d.key; optional = entry.optional; clear_env = clear_env; targets = targets } in
    subst (λ (o : Option Descriptor). size ≡ size_of (in_front_of groups_of entry o groups)) n
    (subst (λ (body : Body). size ≡ size_of (in_front groups_of entry d.key body groups)) (sym b) (each member))

pub composite_in_front : (groups_of : List (List Entry) → List (List Member)) (entry : Entry)
    (o : Option Descriptor) (d : Descriptor) (order : List (List Entry)) (groups : List (List Member))
    (size : Size) →
    Some d ≡ o → d.body ≡ Composite order → size ≡ size_of (in_front groups_of entry d.key
    (Composite order) groups) → size ≡ size_of (in_front_of groups_of entry o groups)
composite_in_front groups_of entry o d order groups size n b e =
    subst (λ (o : Option Descriptor). size ≡ size_of (in_front_of groups_of entry o groups)) n
    (subst (λ (body : Body). size ≡ size_of (in_front groups_of entry d.key body groups)) (sym b) e)
