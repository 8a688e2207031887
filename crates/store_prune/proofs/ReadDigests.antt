-- A digest in a document that was read is 64 digits, which can be the name of a file.
use Rattle.std.proofs.Common.{◌≡◌, ◌∙◌, refl, sym, ap, arith, ℕ, ℤ, ◌==◌, ◌&&◌, Bool, true, false, cond, List, [], ◌∷◌}
use Rattle.std.proofs.Common.{codes, length, map, Option, Some, None, Result, Ok, Err}
use Rattle.std.specs.Prelude.{if◌then◌else◌}
use Rattle.std.specs.List.{list_all}
use Rattle.std.specs.Result.{result_ok}
use Rattle.std.specs.Str.{bytes_eq}
use Rattle.std.proofs.lemmas.Bool.{and_from, and_parts, eqb-true}
use Rattle.std.proofs.lemmas.List.Folds.{list_all-append}
use Rattle.std.proofs.lemmas.Slice.Eq.{bytes_eq-Decides}
use Rattle.toml.specs.Data.{Data, Members, as_str}
use Rattle.cnb_world.proofs.Trees.{bytes_eq-same}
use Rattle.cnb_world.specs.Path.{is_part, is_short_path}
use Rattle.cnb_world.specs.declared.env.Variable.{Variable}
use Rattle.cnb_toml.specs.declared.fault.DocFault.{DocFault}
use Rattle.cnb_toml.specs.declared.fault.DocFault.TheVariants.{Wrong}
use Rattle.cnb_toml.specs.declared.label.Label.{Label}
use Rattle.cnb_toml.specs.declared.meta.Meta.{Meta}
use Rattle.cnb_toml.specs.Document.{document_of}
use Rattle.cnb_toml.specs.Fields.{filled, filled_list_at, list_at, required_at, truth_at, value_or}
use Rattle.cnb_toml.specs.Form.{TableForm, name_of, or_wrong, table_of}
use Rattle.cnb_toml.specs.Label.{label_in}
use Rattle.cnb_toml.specs.Meta.{metadata_in}
use Rattle.cnb_toml.specs.Names.{is_bp_id, is_layer_name, is_target_name}
use Rattle.cnb_toml.specs.Reading.{◌>>=◌}
use Rattle.cnb_toml.specs.Rows.{rows_of}
use Rattle.hex.specs.Hex.{decode_of, encode_lower}
use Rattle.hex.specs.declared.error.FromHexError.{FromHexError}
use Rattle.hex.proofs.HexLemmas.{decode_of-even}
use Rattle.image_docs.specs.declared.base.Base.{Base}
use Rattle.image_docs.specs.declared.image.ImageDoc.{ImageDoc}
use Rattle.image_docs.specs.declared.launch_doc.LaunchDoc.{LaunchDoc}
use Rattle.image_docs.specs.declared.layer_row.LayerRow.{LayerRow}
use Rattle.image_docs.specs.declared.row.Role.{Role}
use Rattle.image_docs.specs.declared.row.Row.{Row}
use Rattle.image_docs.specs.declared.store_row.StoreRow.{StoreRow}
use Rattle.image_docs.specs.Base.{base_in}
use Rattle.image_docs.specs.By.{by_of}
use Rattle.image_docs.specs.DigestText.{decoded, digest_in, digest_of}
use Rattle.image_docs.specs.EnvRows.{env_at}
use Rattle.image_docs.specs.Image.{image_table_in, is_one, provided_in, rows_of_version, version_of}
use Rattle.image_docs.specs.LaunchDoc.{launch_doc_table_in}
use Rattle.image_docs.specs.LayerRow.{cache_flag, layer_in, layer_key, layer_row_in, layers_at, same_layer}
use Rattle.image_docs.specs.LayerRowLaws.{same_layer-symmetric}
use Rattle.image_docs.specs.OldRow.{migrated, old_row_in, old_rows_at}
use Rattle.image_docs.specs.Row.{are_ordered, ordered_rows, role_of, row_in, rows_at}
use Rattle.image_docs.specs.RunImage.{table_in}
use Rattle.image_docs.specs.StoreRow.{store_row_in}
use Rattle.image_docs.proofs.Answered.{Holds, all_distinct, and_then, at_list, at_or, at_required, holds_by}
use Rattle.image_docs.proofs.Answered.{in_distinct_row, in_document, in_rows, in_table}
use Rattle.tree_canon.specs.Digest.{is_digest_text, is_lower_digit}
use Rattle.tree_canon.proofs.DigestTexts.{lower_read}
use Rattle.tree_store.proofs.StorePaths.{digest_part}
use Rattle.store_prune.specs.Digests.{tree_digest}
use Rattle.store_prune.specs.Named.{digests_of_image, digests_of_run}

-- the digits of a digest can be the name of a file
abbrev pub names_file : List ℕ → Bool
names_file digest = is_part (encode_lower digest)

-- ---- the digest that a name writes

some_digest : (name digest bytes : List ℕ) → is_digest_text name ≡ true → decode_of name ≡ Ok bytes
    → tree_digest name ≡ Some digest → digest ≡ bytes
some_digest name digest bytes is read h =
    let all : tree_digest name ≡ Some bytes = ap (λ b. result_ok
    (cond b (decoded (decode_of name)) (Err (Wrong [])))) is ∙ ap (λ r. result_ok (decoded r)) read in
    let same : Some digest ≡ Some bytes = sym h ∙ all in
    cc

pub named_so : (name digest : List ℕ) (is : Bool) → is_digest_text name ≡ is → tree_digest name ≡ Some digest
    → names_file digest ≡ true
named_so name digest true is h =
    let parts = and_parts (length name == 64) (list_all is_lower_digit name) is in
    let size : length name ≡ 64 = eqb-true (length name) 64 parts.0 in
    let read = lower_read 0 name (omega arith) parts.1 in
    let same : digest ≡ read.0 = some_digest name digest read.0 is (decode_of-even name (omega arith) ∙ read.1) h in
    digest_part name (encode_lower digest) (ap encode_lower same ∙ read.2) is
named_so name digest false is h =
    absurd (let none : tree_digest name ≡ None = ap (λ b. result_ok
    (cond b (decoded (decode_of name)) (Err (Wrong [])))) is in let no : Some digest ≡ None = sym h ∙ none
    in cc)

pub text_names : (name digest : List ℕ) → is_digest_text name ≡ true → tree_digest name ≡ Some digest
    → names_file digest ≡ true
text_names name digest is h = named_so name digest true is h

-- the digits of a digest read back as it
abbrev pub is_back : List ℕ → Result (List ℕ) FromHexError → Bool
is_back digest (Ok bytes) = bytes_eq bytes digest
is_back digest (Err fault) = false

abbrev pub reads_back : List ℕ → Bool
reads_back digest = is_back digest (decode_of (encode_lower digest))

pub text_back : (name digest : List ℕ) → is_digest_text name ≡ true → tree_digest name ≡ Some digest
    → reads_back digest ≡ true
text_back name digest is h =
    let parts = and_parts (length name == 64) (list_all is_lower_digit name) is in
    let size : length name ≡ 64 = eqb-true (length name) 64 parts.0 in
    let read = lower_read 0 name (omega arith) parts.1 in
    let decodes : decode_of name ≡ Ok read.0 = decode_of-even name (omega arith) ∙ read.1 in
    let same : digest ≡ read.0 = some_digest name digest read.0 is decodes h in
    ap (is_back digest) (ap decode_of (ap encode_lower same ∙ read.2) ∙ decodes)
    ∙ ap (λ bytes. bytes_eq bytes digest) (sym same) ∙ bytes_eq-same digest

back_is : (digest : List ℕ) (found : Result (List ℕ) FromHexError) → is_back digest found ≡ true → found ≡ Ok digest
back_is digest (Ok bytes) h = ap (λ b. Ok b) ((bytes_eq-Decides bytes digest).0 h)
back_is digest (Err fault) h = absurd (cc)

one_digest : (one other : List ℕ) → ◌≡◌ {A = Result (List ℕ) FromHexError} (Ok one) (Ok other) → one ≡ other
one_digest one other e = cc

-- digests of the same digits that read back are one
pub same_digest : (one other : List ℕ) → reads_back one ≡ true → reads_back other ≡ true
    → encode_lower one ≡ encode_lower other → one ≡ other
same_digest one other a b same =
    one_digest one other (sym (back_is one (decode_of (encode_lower one)) a) ∙ ap decode_of same
    ∙ back_is other (decode_of (encode_lower other)) b)

-- what a table is read as
abbrev ValueOf : {A : Type 0} → TableForm A → Type 0
ValueOf {A} form = A

abbrev OldRow : Type 0
OldRow = ValueOf old_row_in

-- what buildpacks gave to an image
abbrev Provided : Type 0
Provided = ValueOf provided_in

anything : {A : Type 0} (r : Result A DocFault) → Holds (λ (a : A). true) r
anything r = holds_by (λ a. true) r (λ a is. refl)

-- what holds of a value of an answer, of another test that follows from it
weaker : {A : Type 0} (p q : A → Bool) (r : Result A DocFault) → ((a : A) → p a ≡ true → q a ≡ true) → Holds p r
    → Holds q r
weaker p q (Ok a) f h = f a h
weaker p q (Err fault) f h = tt

-- a test of each digest that a document names
abbrev pub AllOf : {A : Type 0} → (List ℕ → Bool) → (A → List (List ℕ)) → Result A DocFault → Type 0
AllOf sound digests read = Holds (λ value. list_all sound (digests value)) read

-- ---- what holds of each digest that a text writes holds of each that a document names

module _ (sound : List ℕ → Bool) (each : (name digest : List ℕ) → is_digest_text name ≡ true
    → tree_digest name ≡ Some digest → sound digest ≡ true) where
  written_sound : (name digest : List ℕ) (is : Bool) → is_digest_text name ≡ is → tree_digest name ≡ Some digest
      → sound digest ≡ true
  written_sound name digest true is h = each name digest is h
  written_sound name digest false is h =
      absurd (let none : tree_digest name ≡ None = ap (λ b. result_ok
      (cond b (decoded (decode_of name)) (Err (Wrong [])))) is in let no : Some digest ≡ None = sym h ∙ none
      in cc)

  digest_holds : (value : Data) → Holds sound (digest_of value)
  digest_holds value = by (as_str value)
    where
      by : (o : Option (List ℕ)) → Holds sound (or_wrong o >>= digest_in)
      by (Some text) = holds_by sound (digest_in text)
          (λ digest is. written_sound text digest (is_digest_text text) refl (ap result_ok is))
      by None = tt

  -- ---- the rows of an image

  abbrev row_names : Row → Bool
  row_names row = sound row.digest

  row_made : (role : Result Role DocFault) (place digest by : Result (List ℕ) DocFault) → Holds sound digest
      → Holds row_names (role >>= (λ r. place >>= (λ p. digest
      >>= (λ d. by >>= (λ b. Ok (record { role = r; place = p; digest = d; by = b }))))))
  row_made (Err fault) place digest by h = tt
  row_made (Ok r) (Err fault) digest by h = tt
  row_made (Ok r) (Ok p) (Err fault) by h = tt
  row_made (Ok r) (Ok p) (Ok d) (Err fault) h = tt
  row_made (Ok r) (Ok p) (Ok d) (Ok b) h = h

  row_holds : (table : Members) → Holds row_names (row_in table)
  row_holds table =
      row_made (required_at role_of (codes "role") table)
      (required_at (name_of is_short_path) (codes "place") table)
      (required_at digest_of (codes "digest") table) (required_at by_of (codes "by") table)
      (at_required digest_of sound digest_holds (codes "digest") table)

  ordered_hold : (rows : List Row) (ordered : Bool) → list_all row_names rows ≡ true
      → Holds (list_all row_names) (if ordered then Ok rows else Err (Wrong (codes "rows")))
  ordered_hold rows true each = each
  ordered_hold rows false each = tt

  rows_hold : (table : Members) → Holds (list_all row_names) (rows_at table)
  rows_hold table =
      and_then (list_all row_names) (list_all row_names) (list_at (table_of row_in) (codes "rows") table) ordered_rows
      (at_list (table_of row_in) row_names (codes "rows") table (in_table row_in row_names row_holds))
      (λ rows each. ordered_hold rows (are_ordered rows) each)

  abbrev old_row_names : OldRow → Bool
  old_row_names old = sound old.digest

  old_row_made : (role : Result Role DocFault) (place digest : Result (List ℕ) DocFault) → Holds sound digest
      → Holds old_row_names (role >>= (λ r. place >>= (λ p. digest
      >>= (λ d. Ok (record { role = r; place = p; digest = d })))))
  old_row_made (Err fault) place digest h = tt
  old_row_made (Ok r) (Err fault) digest h = tt
  old_row_made (Ok r) (Ok p) (Err fault) h = tt
  old_row_made (Ok r) (Ok p) (Ok d) h = h

  old_row_holds : (table : Members) → Holds old_row_names (old_row_in table)
  old_row_holds table =
      old_row_made (required_at role_of (codes "role") table)
      (required_at (name_of is_short_path) (codes "place") table)
      (required_at digest_of (codes "digest") table)
      (at_required digest_of sound digest_holds (codes "digest") table)

  migrated_hold : (base : List ℕ) (rows : List OldRow) → list_all old_row_names rows ≡ true
      → list_all row_names (map (migrated base) rows) ≡ true
  migrated_hold base [] each = refl
  migrated_hold base (old ∷ rows) each =
      let parts = and_parts (old_row_names old) (list_all old_row_names rows) each in
      and_from (old_row_names old) (list_all row_names (map (migrated base) rows)) parts.0
      (migrated_hold base rows parts.1)

  old_rows_hold : (base : List ℕ) (table : Members) → Holds (list_all row_names) (old_rows_at base table)
  old_rows_hold base table =
      and_then (list_all old_row_names) (list_all row_names) (list_at (table_of old_row_in) (codes "rows") table)
      (λ rows. ordered_rows (map (migrated base) rows))
      (at_list (table_of old_row_in) old_row_names (codes "rows") table
      (in_table old_row_in old_row_names old_row_holds))
      (λ rows each. ordered_hold (map (migrated base) rows) (are_ordered (map (migrated base) rows))
      (migrated_hold base rows each))

  version_rows_hold : (version : ℤ) (base : List ℕ) (table : Members)
      → Holds (list_all row_names) (rows_of_version version base table)
  version_rows_hold version base table = by (is_one version)
    where
      by : (old : Bool) → Holds (list_all row_names) (if old then old_rows_at base table else rows_at table)
      by true = old_rows_hold base table
      by false = rows_hold table

  -- ---- its layers

  abbrev layer_names : LayerRow → Bool
  layer_names row = sound row.digest

  layer_made : (id layer : Result (List ℕ) DocFault) (launch build cache : Result Bool DocFault)
      (digest : Result (List ℕ) DocFault) (meta : Result Meta DocFault) → Holds sound digest
      → Holds layer_names (id >>= (λ i. layer >>= (λ l. launch
      >>= (λ la. build >>= (λ b. cache >>= (λ c. cache_flag false c
      >>= (λ kept. digest >>= (λ d. meta >>= (λ m.
      Ok (record {
        id = i;
        layer = l;
        flags = record { launch = la; build = b; cache = c };
        meta = m;
        digest =
            d;
      }))))))))))
  layer_made (Err fault) layer launch build cache digest meta h = tt
  layer_made (Ok i) (Err fault) launch build cache digest meta h = tt
  layer_made (Ok i) (Ok l) (Err fault) build cache digest meta h = tt
  layer_made (Ok i) (Ok l) (Ok la) (Err fault) cache digest meta h = tt
  layer_made (Ok i) (Ok l) (Ok la) (Ok b) (Err fault) digest meta h = tt
  layer_made (Ok i) (Ok l) (Ok la) (Ok b) (Ok c) (Err fault) meta h = tt
  layer_made (Ok i) (Ok l) (Ok la) (Ok b) (Ok c) (Ok d) (Err fault) h = tt
  layer_made (Ok i) (Ok l) (Ok la) (Ok b) (Ok c) (Ok d) (Ok m) h = h

  layer_holds : (table : Members) → Holds layer_names (layer_in false table)
  layer_holds table =
      layer_made (required_at (name_of is_bp_id) (codes "id") table)
      (required_at (name_of is_layer_name) (codes "layer") table) (truth_at (codes "launch") table)
      (truth_at (codes "build") table) (truth_at (codes "cache") table)
      (required_at digest_of (codes "digest") table) (metadata_in table)
      (at_required digest_of sound digest_holds (codes "digest") table)

  -- layers that are told apart besides
  abbrev layers_name : List LayerRow → Bool
  layers_name rows = all_distinct same_layer layer_key layer_names rows

  layers_hold : (table : Members) → Holds layers_name (layers_at false table)
  layers_hold table =
      at_or (rows_of (layer_row_in false)) layers_name
      (in_rows same_layer layer_key same_layer-symmetric (layer_row_in false) layer_names
      (in_distinct_row same_layer layer_key (layer_in false) layer_names layer_holds)) []
      (codes "layers") table refl

  -- ---- an image

  abbrev provided_names : Provided → Bool
  provided_names provided = list_all layer_names provided.layers

  provided_made : (labels : Result (List Label) DocFault) (launch : Result LaunchDoc DocFault)
      (layers : Result (List LayerRow) DocFault) (store : Result (List StoreRow) DocFault)
      → Holds layers_name layers
      → Holds provided_names (labels >>= (λ a. launch
      >>= (λ b. layers >>= (λ c. store >>= (λ d. Ok
      (record { labels = a; launch = b; layers = c; store = d }))))))
  provided_made (Err fault) launch layers store h = tt
  provided_made (Ok a) (Err fault) layers store h = tt
  provided_made (Ok a) (Ok b) (Err fault) store h = tt
  provided_made (Ok a) (Ok b) (Ok c) (Err fault) h = tt
  provided_made (Ok a) (Ok b) (Ok c) (Ok d) h = (and_parts (list_all layer_names c) _ h).0

  provided_holds : (table : Members) → Holds provided_names (provided_in table)
  provided_holds table =
      provided_made (list_at (table_of label_in) (codes "labels") table)
      (required_at (table_of launch_doc_table_in) (codes "launch") table) (layers_at false table)
      (value_or [] (rows_of store_row_in) (codes "store") table)
      (layers_hold table)

  -- an image each of whose digests can be the name of a file
  abbrev image_names : ImageDoc → Bool
  image_names image = list_all row_names image.rows && list_all layer_names image.layers

  image_made : (base : Base) (rows : Result (List Row) DocFault) (env : Result (List Variable) DocFault)
      (entrypoint : Result (List ℕ) DocFault) (provided : Result Provided DocFault)
      → Holds (list_all row_names) rows → Holds provided_names provided
      → Holds image_names (rows >>= (λ r. env >>= (λ e. entrypoint >>= (λ n. provided >>= (λ p.
      Ok (record {
        base = base;
        rows = r;
        env = e;
        entrypoint = n;
        labels = p.labels;
        launch = p.launch;
        layers =
            p.layers;
        store = p.store;
      }))))))
  image_made b (Err fault) env entrypoint provided hr hp = tt
  image_made b (Ok r) (Err fault) entrypoint provided hr hp = tt
  image_made b (Ok r) (Ok e) (Err fault) provided hr hp = tt
  image_made b (Ok r) (Ok e) (Ok n) (Err fault) hr hp = tt
  image_made b (Ok r) (Ok e) (Ok n) (Ok p) hr hp = and_from (list_all row_names r) (provided_names p) hr hp

  image_holds : (table : Members) → Holds image_names (image_table_in table)
  image_holds table =
      and_then (λ (v : ℤ). true) image_names (required_at version_of (codes "version") table) _
      (anything (required_at version_of (codes "version") table))
      (λ version any. and_then (λ (b : Base). true) image_names
      (required_at (table_of base_in) (codes "base") table) _
      (anything (required_at (table_of base_in) (codes "base") table))
      (λ base any. image_made base (rows_of_version version base.name table) (env_at table)
      (required_at (name_of is_short_path) (codes "entrypoint") table) (provided_in table)
      (version_rows_hold version base.name table) (provided_holds table)))

  rows_digests : (rows : List Row) → list_all row_names rows ≡ true
      → list_all sound (map (λ row. row.digest) rows) ≡ true
  rows_digests [] h = refl
  rows_digests (row ∷ rows) h =
      let parts = and_parts (row_names row) (list_all row_names rows) h in
      and_from (row_names row) (list_all sound (map (λ row. row.digest) rows)) parts.0 (rows_digests rows parts.1)

  layers_digests : (rows : List LayerRow) → list_all layer_names rows ≡ true
      → list_all sound (map (λ row. row.digest) rows) ≡ true
  layers_digests [] h = refl
  layers_digests (row ∷ rows) h =
      let parts = and_parts (layer_names row) (list_all layer_names rows) h in
      and_from (layer_names row) (list_all sound (map (λ row. row.digest) rows)) parts.0 (layers_digests rows parts.1)

  pub image_digests : (bytes : List ℕ) → AllOf sound digests_of_image (document_of image_table_in bytes)
  image_digests bytes =
      weaker image_names (λ image. list_all sound (digests_of_image image)) (document_of image_table_in bytes)
      (λ image h. let parts = and_parts (list_all row_names image.rows) (list_all layer_names image.layers) h
      in list_all-append sound (map (λ row. row.digest) image.rows) (map (λ row. row.digest) image.layers)
      ∙ and_from (list_all sound (map (λ row. row.digest) image.rows))
      (list_all sound (map (λ row. row.digest) image.layers)) (rows_digests image.rows parts.0)
      (layers_digests image.layers parts.1))
      (in_document image_table_in image_names image_holds bytes)

  -- ---- a run image

  run_made : (os arch : Result (List ℕ) DocFault) (rows : Result (List (List ℕ)) DocFault)
      (env : Result (List Variable) DocFault) → Holds (list_all sound) rows
      → AllOf sound digests_of_run (os >>= (λ o. arch
      >>= (λ a. rows >>= (λ r. env >>= (λ e. Ok (record { os = o; arch = a; rows = r; env = e }))))))
  run_made (Err fault) arch rows env h = tt
  run_made (Ok o) (Err fault) rows env h = tt
  run_made (Ok o) (Ok a) (Err fault) env h = tt
  run_made (Ok o) (Ok a) (Ok r) (Err fault) h = tt
  run_made (Ok o) (Ok a) (Ok r) (Ok e) h = h

  filled_hold : (rows : List (List ℕ)) → list_all sound rows ≡ true
      → Holds (list_all sound) (filled (codes "rows") rows)
  filled_hold [] h = tt
  filled_hold (first ∷ rest) h = h

  run_rows_hold : (table : Members) → Holds (list_all sound) (filled_list_at digest_of (codes "rows") table)
  run_rows_hold table =
      and_then (list_all sound) (list_all sound) (list_at digest_of (codes "rows") table) (filled (codes "rows"))
      (at_list digest_of sound (codes "rows") table digest_holds) filled_hold

  run_holds : (table : Members) → AllOf sound digests_of_run (table_in table)
  run_holds table =
      run_made (required_at (name_of is_target_name) (codes "os") table)
      (required_at (name_of is_target_name) (codes "arch") table)
      (filled_list_at digest_of (codes "rows") table) (env_at table)
      (run_rows_hold table)

  pub run_digests : (bytes : List ℕ) → AllOf sound digests_of_run (document_of table_in bytes)
  run_digests bytes = in_document table_in (λ run. list_all sound (digests_of_run run)) run_holds bytes
