-- Layers and buildpacks, one after another.
use Rattle.std.proofs.Common.{◌≡◌, ◌∙◌, sym, ap, subst, arith, ℕ, ◌<◌, ◌≤◌, Bor, List, get_or, length, map, Option}
use Rattle.std.proofs.Common.{Some, Result}
use Rattle.std.proofs.Common.{false, true, ◌++◌, ◌+◌, ◌∷◌, [], take}
use Rattle.std.proofs.lemmas.List.{get_or-map, length-map, take_all, take_more}
use Rattle.std.specs.List.{AllByRecursion}
use Rattle.std.specs.Prelude.{IsTrue}
use Rattle.image_docs.specs.declared.image.ImageDoc.{ImageDoc}
use Rattle.image_docs.specs.declared.layer_row.LayerRow.{LayerRow}
use Rattle.image_docs.specs.declared.store_row.StoreRow.{StoreRow}
use Rattle.layer_flags.specs.declared.restore.RestoreRow.{RestoreRow}
use Rattle.layer_flags.specs.declared.restore.RestoreRow.TheVariants as parts
use Rattle.shelf_set.specs.declared.restoring.Found.{Found}
use Rattle.shelf_set.specs.declared.restoring.Found.TheVariants as kinds
use Rattle.run_docs.specs.declared.group.GroupRow.{GroupRow}
use Rattle.shelf_set.specs.Caches.{WorldAndCaches}
use Rattle.cnb_world.specs.Path.{is_part, joined}
use Rattle.steps.specs.Outside.{Seen}
use Rattle.steps.specs.Steps.{writes}
use Rattle.cnb_restore.specs.declared.fault.RestoreFault.{RestoreFault}
use Rattle.cnb_restore.specs.declared.restored.Restored.{Restored}
use Rattle.cnb_restore.specs.declared.sources.Sources.{Sources}
use Rattle.cnb_restore.specs.Faults.{cause_of}
use Rattle.cnb_restore.specs.Layers.{writes_store}
use Rattle.cnb_restore.specs.Restores.{prepares_folder, restores_document, restores_each, restores_found}
use Rattle.cnb_restore.specs.Restores.{restores_layer, restores_layers, restores_part, restores_rows}
use Rattle.cnb_restore.specs.RestoresFrom.{HavePartNames, restores_named}
use Rattle.cnb_restore.specs.Rows.{restored_part, row_of, source_of}

-- a layer by its rows
pub layer_from : (folder : List ℕ) (app cache : List LayerRow) (name : List ℕ) (a b source : Option LayerRow)
    (part : RestoreRow) (restored : Restored) (old : WorldAndCaches) (result : Result Restored RestoreFault)
    (new : WorldAndCaches)
    → a ≡ row_of name app → b ≡ row_of name cache → source ≡ source_of a b → part ≡ restored_part a b
    → restores_part folder source part restored old result new
    → restores_layer folder app cache name restored old result new
unfolding restores_layer
layer_from folder app cache name a b source part restored old result new is-a is-b is-source is-part h =
    subst (λ x. restores_part folder (source_of x (row_of name cache))
    (restored_part x (row_of name cache)) restored old result new) is-a
    (subst (λ y. restores_part folder (source_of a y) (restored_part a y) restored old result new) is-b
    (subst (λ s. restores_part folder s (restored_part a b) restored old result new) is-source
    (subst (λ p. restores_part folder source p restored old result new) is-part h)))

-- the same of other lists that are equal
pub each_as : (folder : List ℕ) (app cache : List LayerRow) (names want : List (List ℕ)) (restored : Restored)
    (old : WorldAndCaches) (result : Result Restored RestoreFault) (new : WorldAndCaches)
    → names ≡ want → restores_each folder app cache names restored old result new
    → restores_each folder app cache want restored old result new
each_as folder app cache names want restored old result new same h = subst
    (λ ns. restores_each folder app cache ns restored old result new) same h

pub layers_as : (folder : List ℕ) (app cache app_rows cache_rows : List LayerRow) (restored : Restored)
    (old : WorldAndCaches) (result : Result Restored RestoreFault) (new : WorldAndCaches)
    → app ≡ app_rows → cache ≡ cache_rows → restores_layers folder app cache restored old result new
    → restores_layers folder app_rows cache_rows restored old result new
layers_as folder app cache app_rows cache_rows restored old result new a b h =
    subst (λ x. restores_layers folder x cache_rows restored old result new) a
    (subst (λ y. restores_layers folder app y restored old result new) b h)

pub rows_as : (folder place : List ℕ) (sources : Sources) (id : List ℕ) (restored : Restored)
    (old : WorldAndCaches) (result : Result Restored RestoreFault) (new : WorldAndCaches)
    → place ≡ folder → restores_rows place sources id restored old result new
    → restores_rows folder sources id restored old result new
rows_as folder place sources id restored old result new same h = subst
    (λ p. restores_rows p sources id restored old result new) same h

pub prepared_as : (folder place id : List ℕ) (kept rows : List StoreRow) (old : Seen)
    (result : Result (Unit {0}) RestoreFault) (new : Seen)
    → place ≡ folder → kept ≡ rows → prepares_folder place id kept old result new
    → prepares_folder folder id rows old result new
prepared_as folder place id kept rows old result new same all h = subst
    (λ p. prepares_folder p id rows old result new) same
    (subst (λ k. prepares_folder place id k old result new) all h)

pub stored_as : (folder : List ℕ) (kept row : Option StoreRow) (old : Seen)
    (result : Result (Unit {0}) RestoreFault) (new : Seen) → kept ≡ row → writes_store folder kept old result new
    → writes_store folder row old result new
stored_as folder kept row old result new same h = subst (λ k. writes_store folder k old result new) same h

pub group_from : (layers : List ℕ) (group rows : List GroupRow) (previous : Option ImageDoc)
    (old : WorldAndCaches) (result : Result Restored RestoreFault) (new : WorldAndCaches)
    → group ≡ rows → restores_named layers group previous old result new
    → restores_named layers rows previous old result new
group_from layers group rows previous old result new same h = subst
    (λ g. restores_named layers g previous old result new) same h

-- a name in a list of borrowed names
abbrev pub texts_of : List (Bor (List ℕ)) → List (List ℕ)
texts_of names = map (λ name. name.now) names

pub text_at : (names : List (Bor (List ℕ))) (i : ℕ) (other : Bor (List ℕ)) → i < length names
    → (get_or names i other).now ≡ get_or (texts_of names) i (get_or names i other).now
text_at names i other lt = sym (get_or-map (λ (n : Bor (List ℕ)). n.now) names i other (get_or names i other).now lt)

pub text_below : (names : List (Bor (List ℕ))) (i : ℕ) → i < length names → i < length (texts_of names)
text_below names i lt = let same : length (texts_of names)
    ≡ length names = length-map names (λ (n : Bor (List ℕ)). n.now) in omega (arith, same, lt)

pub texts_over : (names : List (Bor (List ℕ))) (i : ℕ) → length names ≤ i → length (texts_of names) ≤ i
texts_over names i le = let same : length (texts_of names)
    ≡ length names = length-map names (λ (n : Bor (List ℕ)). n.now) in omega (arith, same, le)

-- a document of another name that is equal
pub document_as : (folder name want : List ℕ) (Says : List ℕ → Type 0) (old : Seen)
    (result : Result (Unit {0}) RestoreFault) (new : Seen) → name ≡ want
    → writes cause_of (joined folder name) Says old result new
    → writes cause_of (joined folder want) Says old result new
document_as folder name want Says old result new same h = subst
    (λ n. writes cause_of (joined folder n) Says old result new) same h

pub found_so : (folder : List ℕ) (row : LayerRow) (restored : Restored) (answer : Found) (old : WorldAndCaches)
    (result : Result Restored RestoreFault) (new : WorldAndCaches)
    → answer ≡ kinds.Laid → restores_document folder row true restored old result new
    → restores_found folder row restored answer old result new
unfolding restores_found
found_so folder row restored answer old result new is h = subst
    (λ f. restores_found folder row restored f old result new) (sym is) h

pub meta_so : (folder : List ℕ) (row : LayerRow) (line : RestoreRow) (restored : Restored) (old : WorldAndCaches)
    (result : Result Restored RestoreFault) (new : WorldAndCaches)
    → line ≡ parts.Meta → restores_document folder row false restored old result new
    → restores_part folder (Some row) line restored old result new
unfolding restores_part
meta_so folder row line restored old result new is h = subst
    (λ p. restores_part folder (Some row) p restored old result new) (sym is) h

-- names seen row by row
all_append : {X : Type 0} (P : X → Type 0) (xs ys : List X) → AllByRecursion P xs → AllByRecursion P ys
    → AllByRecursion P (xs ++ ys)
all_append P [] ys p q = q
all_append P (x ∷ xs) ys p q = (p.0, all_append P xs ys p.1 q)

pub one_more_named : (rows : List LayerRow) (i : ℕ) (row : LayerRow) → i < length rows → row ≡ get_or rows i row
    → HavePartNames (take i rows) → IsTrue (is_part row.layer) → HavePartNames (take (i + 1) rows)
one_more_named rows i row lt is named one = subst HavePartNames
    (sym (take_more rows i row lt ∙ ap (λ r. take i rows ++ r ∷ []) (sym is)))
    (all_append (λ (row : LayerRow). IsTrue (is_part row.layer)) (take i rows) (row ∷ []) named (one, tt))

pub all_named : (rows : List LayerRow) (i : ℕ) → length rows ≤ i → HavePartNames (take i rows) → HavePartNames rows
all_named rows i le named = subst HavePartNames (take_all i rows le) named
