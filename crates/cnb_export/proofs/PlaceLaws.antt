-- Where the rows of an image stand are paths that a document may hold.
use Rattle.std.proofs.Common.{◌≡◌, ◌∙◌, refl, sym, ap, ap₂, ℕ, ◌+◌, ◌<◌, ◌≤◌, nat_le, Bool, true, ◌&&◌, IsTrue, List}
use Rattle.std.proofs.Common.{[], ◌∷◌, ◌++◌, codes, get_or, length, map, take, arith, append_assoc}
use Rattle.std.specs.List.{list_all}
use Rattle.std.proofs.lemmas.Bool.{and_from, le-leb}
use Rattle.std.proofs.lemmas.List.{map-append, take_more}
use Rattle.std.proofs.lemmas.List.Folds.{list_all-append}
use Rattle.cnb_world.specs.Path.{is_part, is_path, is_short_path, joined}
use Rattle.cnb_world.proofs.Joins.{file_is_path}
use Rattle.cnb_world.proofs.Lengths.{length_joined, part_within}
use Rattle.cnb_env.proofs.TypeLemmas.{type_is_part}
use Rattle.cnb_toml.specs.Names.{folder_of, is_process_type}
use Rattle.cnb_toml.specs.Written.{is_filled}
use Rattle.image_docs.specs.By.{is_by, is_plain, plain}
use Rattle.image_docs.specs.ByLaws.{plain_is_plain}
use Rattle.image_docs.specs.Row.{is_row}
use Rattle.run_docs.specs.declared.group.GroupRow.{GroupRow}
use Rattle.cnb_export.specs.Rows.{layer_by, layer_place, layer_row, version_of}
use Rattle.cnb_layers.specs.declared.gathered.ImageLayer.{ImageLayer}
use Rattle.image_docs.specs.declared.layer_row.LayerRow.{LayerRow}
use Rattle.image_docs.specs.declared.row.Role.TheVariants.{Layer}
use Rattle.image_docs.specs.declared.row.Row.{Row}

short_path : (path : List ℕ) → length path ≤ 4096 → is_path path ≡ true → is_short_path path ≡ true
short_path path short is = and_from (nat_le (length path) 4096) (is_path path) (le-leb (length path) 4096 short) is

-- a layer's place
pub place_short : (row : LayerRow) → IsTrue (is_part (folder_of row.id)) → IsTrue (is_part row.layer)
    → is_short_path (layer_place row) ≡ true
place_short row folder layer =
    let root : length (codes "/layers") ≡ 7 = refl in
    let wide = part_within (folder_of row.id) folder in
    let wider = part_within row.layer layer in
    let one = length_joined (codes "/layers") (folder_of row.id) in
    let two = length_joined (joined (codes "/layers") (folder_of row.id)) row.layer in
    let above : is_path (joined (codes "/layers") (folder_of row.id))
    ≡ true = file_is_path (codes "/layers") (folder_of row.id) refl folder (omega (arith, root, wide, one)) in
    short_path (layer_place row) (omega (arith, root, wide, wider, one, two))
    (file_is_path (joined (codes "/layers") (folder_of row.id)) row.layer above layer
    (omega (arith, root, wide, wider, one, two)))

-- the program of a process type
pub program_short : (kind : List ℕ) → IsTrue (is_process_type kind)
    → is_short_path (joined (codes "/cnb/process") kind) ≡ true
program_short kind is =
    let part = type_is_part kind is in
    let root : length (codes "/cnb/process") ≡ 12 = refl in
    let wide = part_within kind part in
    let one = length_joined (codes "/cnb/process") kind in
    short_path (joined (codes "/cnb/process") kind) (omega (arith, root, wide, one))
    (file_is_path (codes "/cnb/process") kind refl part (omega (arith, root, wide, one)))

-- what is said of a layer is a text of one line, and has a `@`
by_filled : (id rest : List ℕ) → is_filled (plain (id ++ (64 ∷ rest))) ≡ true
by_filled [] rest = refl
by_filled (byte ∷ id) rest = refl

layer_by_read : (group : List GroupRow) (row : LayerRow) → is_by (layer_by group row) ≡ true
layer_by_read group row =
    let rest = version_of group row.id ++ (58 ∷ row.layer) in
    let same : row.id ++ codes "@" ++ version_of group row.id ++ codes ":" ++ row.layer ≡ row.id
    ++ (64 ∷ rest) = simp append_assoc in
    ap (λ text. is_by (plain text)) same ∙ and_from (is_filled (plain (row.id ++ (64 ∷ rest))))
    (is_plain (plain (row.id ++ (64 ∷ rest)))) (by_filled row.id rest)
    (plain_is_plain (row.id ++ (64 ∷ rest)))

-- the rows of some layers
abbrev pub are_placed : List GroupRow → List ImageLayer → Bool
are_placed group layers = list_all is_row (map (layer_row group) layers)

-- one more layer
pub placed_more : (group : List GroupRow) (layers : List ImageLayer) (i : ℕ) (layer : ImageLayer)
    → i < length layers → layer ≡ get_or layers i layer → is_short_path (layer_place layer.row) ≡ true
    → are_placed group (take i layers) ≡ true
    → are_placed group (take (i + 1) layers) ≡ true
placed_more group layers i layer within is short before =
    ap (are_placed group) (take_more layers i layer within ∙ ap (λ l. take i layers ++ l ∷ []) (sym is))
    ∙ ap (list_all is_row) (map-append (layer_row group) (take i layers) (layer ∷ []))
    ∙ list_all-append is_row (map (layer_row group) (take i layers)) (layer_row group layer ∷ [])
    ∙ and_from (are_placed group (take i layers)) (is_row (layer_row group layer) && true) before
    (and_from (is_row (layer_row group layer)) true
    (and_from (is_short_path (layer_place layer.row)) (is_by (layer_by group layer.row)) short
    (layer_by_read group layer.row)) refl)

-- one more layer's row behind others
pub pushed_more : (group : List GroupRow) (layers : List ImageLayer) (i : ℕ) (layer : ImageLayer)
    (old before after : List Row) (place by : List ℕ) → i < length layers → layer ≡ get_or layers i layer
    → place ≡ layer_place layer.row → by ≡ layer_by group layer.row
    → before ≡ old ++ map (layer_row group) (take i layers)
    → after ≡ before ++ record { role = Layer; place = place; digest = layer.row.digest; by = by } ∷ []
    → after ≡ old ++ map (layer_row group) (take (i + 1) layers)
pushed_more group layers i layer old before after place by within is at said pushed now =
    let longer : take (i + 1) layers ≡ take i layers ++ layer ∷ [] = take_more layers i layer within
    ∙ ap (λ l. take i layers ++ l ∷ []) (sym is) in
    let row : record { role = Layer; place = place; digest = layer.row.digest; by = by }
    ≡ layer_row group layer = ap₂ (λ p b. record {
      role = Layer;
      place = p;
      digest = layer.row.digest;
      by =
          b;
    }) at said in
    now ∙ ap₂ (λ rows r. rows ++ r ∷ []) pushed row ∙ append_assoc old (map (layer_row group) (take i layers))
    (layer_row group layer ∷ [])
    ∙ ap (λ rows. old ++ rows) (sym (map-append (layer_row group) (take i layers) (layer ∷ []))
    ∙ ap (map (layer_row group)) (sym longer))
