-- What was read of what a buildpack left can be written into an image.
use Rattle.std.proofs.Common.{◌≡◌, refl, sym, subst, ℕ, Bool, true, false, cond, List, [], length, Option, Some}
use Rattle.std.proofs.Common.{None, Ok, Err}
use Rattle.std.specs.Prelude.{IfSome, nat_lt, unwrap_or}
use Rattle.std.specs.List.{filter_map}
use Rattle.std.specs.Str.{bytes_eq}
use Rattle.std.proofs.lemmas.Bool.{and_parts}
use Rattle.cnb_toml.specs.Distinct.{are_distinct}
use Rattle.cnb_toml.specs.Meta.{is_kept}
use Rattle.cnb_toml.specs.Names.{is_layer_name}
use Rattle.cnb_toml.specs.declared.meta.Meta.{Meta}
use Rattle.image_docs.specs.declared.layer_row.LayerRow.{LayerRow}
use Rattle.layer_flags.specs.declared.flags.Flags.{Flags}
use Rattle.layer_paths.specs.Names.{layers_among, stem_of}
use Rattle.run_docs.specs.Launch.{is_launch_toml, launch_in}
use Rattle.run_docs.specs.Layer.{is_layer_doc, layer_in}
use Rattle.run_docs.specs.Store.{is_store_toml, store_in}
use Rattle.run_docs.specs.declared.launch.LaunchToml.{LaunchToml}
use Rattle.run_docs.specs.declared.layer.LayerDoc.{LayerDoc}
use Rattle.run_docs.specs.declared.store.StoreToml.{StoreToml}
use Rattle.steps.specs.Outside.{Seen}
use Rattle.steps.specs.Steps.{◌>>=◌, gives, yields}
use Rattle.cnb_layers.specs.Buildpack.{defaults_of, one_default, reads_launch, reads_store_document}
use Rattle.cnb_layers.specs.Gathering.{exports_layer, is_cached, keeps_found, keeps_layer, keeps_documented, kept_of}
use Rattle.cnb_layers.specs.Gathering.{with_kept}
use Rattle.cnb_layers.specs.Layer.{flags_of, reads_layer}
use Rattle.cnb_layers.specs.Names.{reads_layer_names}
use Rattle.cnb_layers.specs.Reading.{reads_as, reads_some}
use Rattle.cnb_layers.specs.declared.gathered.Gathered.{Gathered}
use Rattle.cnb_layers.specs.declared.fault.ExportFault.TheVariants.{TwoDefaults}
use Rattle.cnb_layers.specs.declared.gathering.Kept.{Kept}
use Rattle.cnb_layers.specs.declared.layer.Contents.{Contents}
use Rattle.cnb_layers.specs.declared.settling.Settled.{Settled}
use Rattle.cnb_layers.proofs.DistinctLaws.{ascending_distinct, same_name}
use Rattle.cnb_layers.proofs.FormLaws.{launch_readable, layer_readable, some_value_read, store_readable, value_read}

-- ---- the documents of a buildpack

one_is : (id : List ℕ) (read launch : LaunchToml) → one_default id read ≡ Ok launch → read ≡ launch
one_is id read launch h = by (nat_lt 1 (length (defaults_of read.processes))) h
  where
    by : (two : Bool) → cond two (Err (TwoDefaults id)) (Ok read) ≡ Ok launch → read ≡ launch
    by true e = absurd (cc)
    by false e = cc

pub launch_left : (folder id : List ℕ) (old new : Seen) (launch : LaunchToml)
    → reads_launch folder id old (Ok launch) new → is_launch_toml launch ≡ true
unfolding reads_launch reads_as ◌>>=◌ gives
launch_left folder id old new launch (path, m1, at, (read, m2, (found, m3, reading, (s1, is, c1)), (s2, one, c2))) =
    subst (λ l. is_launch_toml l ≡ true) (one_is id read launch one)
    (launch_readable (unwrap_or found []) read (value_read path (launch_in (unwrap_or found [])) read is))

abbrev pub is_store_left : Option StoreToml → Bool
is_store_left None = true
is_store_left (Some store) = is_store_toml store

pub store_left : (folder : List ℕ) (old new : Seen) (store : Option StoreToml)
    → reads_store_document folder old (Ok store) new → is_store_left store ≡ true
unfolding reads_store_document reads_some ◌>>=◌ gives
store_left folder old new None h = refl
store_left folder old new (Some store) (path, m1, at, (found, m2, reading, (same, is, cause))) =
    let (bytes, e) = some_value_read store_in path found store is in store_readable bytes store e

-- no name of a layer stands twice
pub names_left : (folder : List ℕ) (old new : Seen) (names : List (List ℕ))
    → reads_layer_names folder old (Ok names) new → are_distinct bytes_eq same_name names ≡ true
unfolding reads_layer_names ◌>>=◌ gives
names_left folder old new names (listed, mid, reading, (same, is, cause)) =
    let e : layers_among listed ≡ names = cc in
    subst (λ all. are_distinct bytes_eq same_name all ≡ true) e
    (ascending_distinct is_layer_name (filter_map stem_of listed))

-- ---- a layer

abbrev is_doc_left : Option LayerDoc → Bool
is_doc_left None = true
is_doc_left (Some doc) = is_layer_doc doc

doc_left : (path : List ℕ) (old new : Seen) (doc : Option LayerDoc) → reads_layer path old (Ok doc) new
    → is_doc_left doc ≡ true
unfolding reads_layer ◌>>=◌ gives
doc_left path old new None h = refl
doc_left path old new (Some doc) (found, mid, reading, (same, is, cause)) =
    let (bytes, e) = some_value_read layer_in path found doc is in layer_readable bytes doc e

-- a layer that goes into caches is one that is to be cached
abbrev pub IsCached : LayerRow → Bool → Type 0
IsCached row cached = cached ≡ true → row.flags.cache ≡ true

-- a row of this layer, with metadata that can be read
pub record IsKeptLayer (id layer : List ℕ) (kept : Kept) : Type 0 where
  pub of_buildpack : kept.row.id ≡ id
  pub of_layer : kept.row.layer ≡ layer
  pub meta : is_kept kept.row.meta ≡ true
  pub cached : IsCached kept.row kept.cached

abbrev pub Keeps : List ℕ → List ℕ → Option Kept → Type 0
Keeps id layer kept = IfSome kept (IsKeptLayer id layer)

kept_is : (id layer : List ℕ) (flags : Flags) (meta : Meta) (contents : Contents) (settled : Option Settled)
    → is_kept meta ≡ true → Keeps id layer (kept_of id layer flags meta (is_cached flags contents) settled)
kept_is id layer flags meta contents None kept = tt
kept_is id layer flags meta contents (Some settled) kept = record {
  of_buildpack = refl;
  of_layer = refl;
  meta = kept;
  cached = λ is. (and_parts contents.there flags.cache is).1;
}

doc_kept : (store : List ℕ) (previous : List LayerRow) (id folder layer : List ℕ) (doc : Option LayerDoc)
    (old new : Seen) (kept : Option Kept) → is_doc_left doc ≡ true
    → keeps_found store previous id folder layer doc old (Ok kept) new → Keeps id layer kept
unfolding keeps_documented ◌>>=◌ gives yields
doc_kept store previous id folder layer None old new kept left (is, same) = subst (Keeps id layer) (sym is) tt
doc_kept store previous id folder layer (Some doc) old new kept left
    (contents, m1, find, (settled, m2, settle, (same, is, cause))) =
    let e : kept_of id layer (flags_of doc) doc.meta (is_cached (flags_of doc) contents) settled ≡ kept = cc in
    subst (Keeps id layer) e (kept_is id layer (flags_of doc) doc.meta contents settled left)

layer_kept : (store : List ℕ) (previous : List LayerRow) (id folder layer : List ℕ) (old new : Seen)
    (kept : Option Kept) → keeps_layer store previous id folder layer old (Ok kept) new → Keeps id layer kept
unfolding keeps_layer ◌>>=◌
layer_kept store previous id folder layer old new kept (document, m1, at, (doc, m2, read, found)) =
    doc_kept store previous id folder layer doc m2 new kept (doc_left document m1 m2 doc read) found

-- what comes of one layer
pub layer_exported : (store : List ℕ) (previous : List LayerRow) (id folder layer : List ℕ)
    (gathered all : Gathered) (old new : Seen) → exports_layer store previous id folder layer gathered old
    (Ok all) new
    → (kept : Option Kept) × Keeps id layer kept × (all ≡ with_kept gathered kept)
unfolding exports_layer ◌>>=◌ gives
layer_exported store previous id folder layer gathered all old new (kept, mid, keep, (same, is, cause)) =
    let e : with_kept gathered kept ≡ all = cc in
    (kept, layer_kept store previous id folder layer old mid kept keep, sym e)
