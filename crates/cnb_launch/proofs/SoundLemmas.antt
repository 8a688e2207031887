-- A launch document that was read has processes that can be read.
use Rattle.std.proofs.Common.{◌≡◌, ◌∙◌, refl, sym, ap, ℕ, ◌+◌, Bool, true, false, cond, IsTrue, List, [], ◌∷◌, ◌++◌}
use Rattle.std.proofs.Common.{codes, Option, Some, None, Result, Ok, Err}
use Rattle.std.specs.Fmt.{decimal}
use Rattle.std.specs.List.{list_all}
use Rattle.std.specs.Str.{bytes_eq}
use Rattle.std.proofs.lemmas.Bool.{and_from}
use Rattle.std.proofs.lemmas.List.Folds.{list_all-append}
use Rattle.toml.specs.Data.{Data, Items, no_items, item, Members, as_array, as_table, get_member}
use Rattle.cnb_world.specs.Path.{is_short_path}
use Rattle.cnb_toml.specs.declared.fault.DocFault.{DocFault}
use Rattle.cnb_toml.specs.declared.fault.DocFault.TheVariants as fault
use Rattle.cnb_toml.specs.declared.process.Process.{Process}
use Rattle.cnb_toml.specs.Distinct.{has_key}
use Rattle.cnb_toml.specs.Document.{document_in}
use Rattle.cnb_toml.specs.Fields.{filled, filled_list_at, list_at, optional_at, read_or, required_at, some_of, truth_at}
use Rattle.cnb_toml.specs.Fields.{value_or}
use Rattle.cnb_toml.specs.Form.{name_of, or_wrong, table_of, text_of}
use Rattle.cnb_toml.specs.Keys.{key_in}
use Rattle.cnb_toml.specs.Names.{is_process_type}
use Rattle.cnb_toml.specs.Process.{is_process, is_working_dir, process_in}
use Rattle.cnb_toml.specs.Reading.{◌>>=◌, under}
use Rattle.cnb_toml.specs.Rows.{rows_in, rows_of}
use Rattle.cnb_toml.specs.Written.{is_filled}
use Rattle.doc_files.specs.Reading.{read_at}
use Rattle.image_docs.specs.DistinctRows.{unless_listed}
use Rattle.image_docs.specs.LaunchDoc.{launch_doc_in, launch_doc_table_in, process_kind, process_row_in}
use Rattle.image_docs.specs.declared.launch_doc.LaunchDoc.{LaunchDoc}

-- what came of two steps came of both
pub bound : {A B : Type 0} (r : Result A DocFault) (f : A → Result B DocFault) (b : B) → (r >>= f) ≡ Ok b
    → (a : A) × (r ≡ Ok a) × (f a ≡ Ok b)
bound (Ok a) f b h = (a, refl, h)
bound (Err fault) f b h = absurd (cc)

pub under_ok : {A : Type 0} (key : List ℕ) (r : Result A DocFault) (a : A) → under key r ≡ Ok a → r ≡ Ok a
under_ok key (Ok value) a h = h
under_ok key (Err fault) a h = absurd (cc)

filled_is : (key : List ℕ) (words line : List (List ℕ)) → filled key words ≡ Ok line → is_filled line ≡ true
filled_is key [] line h = absurd (cc)
filled_is key (word ∷ words) line h = let same : word ∷ words ≡ line = cc in ap is_filled (sym same)

-- one answer or the other
abbrev pub picked : {A : Type 0} → Bool → Result A DocFault → Result A DocFault → Result A DocFault
picked v one other = cond v one other

pub named_is : (text dir : List ℕ) (fault : DocFault) (v : Bool) → is_short_path text ≡ v
    → picked {A = List ℕ} v (Ok text) (Err fault) ≡ Ok dir → is_short_path dir ≡ true
named_is text dir fault true is h = let same : text ≡ dir = cc in ap is_short_path (sym same) ∙ is
named_is text dir fault false is h = absurd (cc)

dir_of : (key : List ℕ) (found : Option Data) (dir : Option (List ℕ))
    → read_or None (some_of (name_of is_short_path)) key found ≡ Ok dir → is_working_dir dir ≡ true
dir_of key None dir h = let same : None ≡ dir = cc in ap is_working_dir (sym same)
dir_of key (Some value) dir h =
    let (place, read, some) = bound (name_of is_short_path value) (λ place. Ok (Some place)) dir
    (under_ok key _ dir h) in
    let (text, told, named) = bound (text_of value) _ place read in
    let same : Some place ≡ dir = cc in
    ap is_working_dir (sym same) ∙ named_is text place _ (is_short_path text) refl named

process_is : (table : Members) (process : Process) → process_in table ≡ Ok process → is_process process ≡ true
process_is table process h =
    let (kind, a, h1) = bound (required_at (name_of is_process_type) (codes "type") table) _ process h in
    let (command, b, h2) = bound (filled_list_at text_of (codes "command") table) _ process h1 in
    let (args, d, h3) = bound (list_at text_of (codes "args") table) _ process h2 in
    let (default, e, h4) = bound (truth_at (codes "default") table) _ process h3 in
    let (dir, f, h5) = bound (optional_at (name_of is_short_path) (codes "working-dir") table) _ process h4 in
    let (words, g, fill) = bound (list_at text_of (codes "command") table) (filled (codes "command")) command b in
    let made : Process = record { kind = kind; command = command; args = args; default = default; dir = dir } in
    let same : made ≡ process = cc in
    ap is_process (sym same) ∙ and_from (is_filled command) (is_working_dir dir)
    (filled_is (codes "command") words command fill)
    (dir_of (codes "working-dir") (get_member (codes "working-dir") table) dir f)

listed_is : (row made : Process) (fault : DocFault) (v : Bool)
    → picked {A = Process} v (Err fault) (Ok row) ≡ Ok made → row ≡ made
listed_is row made fault true h = absurd (cc)
listed_is row made fault false h = cc

row_is : (before : List Process) (table : Members) (row : Process) → process_row_in before table ≡ Ok row
    → is_process row ≡ true
row_is before table row h =
    let (process, read, new) = bound (process_in table) (unless_listed bytes_eq process_kind before) row h in
    ap is_process (sym (listed_is process row _ (has_key bytes_eq process_kind before (process_kind process))
    new)) ∙ process_is table process read

rows_are : (items : Items) (before : List Process) (place : ℕ) (all : List Process)
    → rows_in process_row_in before place items ≡ Ok all → list_all is_process before ≡ true
    → list_all is_process all ≡ true
rows_are no_items before place all h done = let same : before ≡ all = cc in ap (list_all is_process) (sym same) ∙ done
rows_are (item value values) before place all h done =
    let (row, read, rest) = bound (under (decimal place) (table_of (process_row_in before) value))
    (λ row. rows_in process_row_in (before ++ row ∷ []) (place + 1) values) all h in
    let (table, told, made) = bound (or_wrong (as_table value)) (process_row_in before) row
    (under_ok (decimal place) _ row read) in
    let sound = row_is before table row made in
    rows_are values (before ++ row ∷ []) (place + 1) all rest
    (list_all-append is_process before (row ∷ []) ∙ and_from (list_all is_process before)
    (list_all is_process (row ∷ [])) done (and_from (is_process row) true sound refl))

processes_are : (key : List ℕ) (found : Option Data) (all : List Process)
    → read_or [] (rows_of process_row_in) key found ≡ Ok all → list_all is_process all ≡ true
processes_are key None all h = let same : [] ≡ all = cc in ap (list_all is_process) (sym same)
processes_are key (Some value) all h =
    let (items, told, rows) = bound (or_wrong (as_array value)) (rows_in process_row_in [] 0) all
    (under_ok key _ all h) in
    rows_are items [] 0 all rows refl

table_is : (table : Members) (doc : LaunchDoc) → launch_doc_table_in table ≡ Ok doc
    → list_all is_process doc.processes ≡ true
table_is table doc h =
    let (buildpacks, a, h1) = bound (list_at (table_of key_in) (codes "buildpacks") table) _ doc h in
    let (processes, b, h2) = bound (value_or [] (rows_of process_row_in) (codes "processes") table) _ doc h1 in
    let (default, d, h3) = bound (optional_at (name_of is_process_type) (codes "default") table) _ doc h2 in
    let made : LaunchDoc = record { buildpacks = buildpacks; processes = processes; default = default } in
    let same : made ≡ doc = cc in
    ap (λ (x : LaunchDoc). list_all is_process x.processes) (sym same)
    ∙ processes_are (codes "processes") (get_member (codes "processes") table) processes b

pub read_is_sound : (bytes : List ℕ) (doc : LaunchDoc) → launch_doc_in bytes ≡ Ok doc
    → list_all is_process doc.processes ≡ true
read_is_sound bytes doc h = let (table, read, made) = bound (document_in bytes) launch_doc_table_in doc h
    in table_is table doc made

-- and what a reader answers of it
pub answer_is_sound : (path bytes : List ℕ) (doc : LaunchDoc) → read_at path (launch_doc_in bytes) ≡ Ok doc
    → IsTrue (list_all is_process doc.processes)
answer_is_sound path bytes doc h = by (launch_doc_in bytes) refl h
  where
    by : (r : Result LaunchDoc DocFault) → launch_doc_in bytes ≡ r → read_at path r ≡ Ok doc
        → list_all is_process doc.processes ≡ true
    by (Ok value) e k = let same : value ≡ doc = cc in read_is_sound bytes doc (e ∙ ap Ok same)
    by (Err fault.Absent) e k = absurd (cc)
    by (Err fault.NotUtf8) e k = absurd (cc)
    by (Err fault.NotToml) e k = absurd (cc)
    by (Err (fault.MetaKind at)) e k = absurd (cc)
    by (Err (fault.Missing at)) e k = absurd (cc)
    by (Err (fault.Wrong at)) e k = absurd (cc)
    by (Err (fault.Name at)) e k = absurd (cc)
    by (Err fault.Memory) e k = absurd (cc)
