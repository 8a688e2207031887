-- The keys of a group that was chosen and written are of their form.
use Rattle.std.proofs.Common.{◌≡◌, refl, sym, ap, subst, ℕ, Bool, true, false, not, ◌&&◌, List, [], codes, Result, Ok}
use Rattle.std.proofs.Common.{Err}
use Rattle.std.specs.Prelude.{if◌then◌else◌}
use Rattle.std.specs.List.{list_all}
use Rattle.std.specs.Str.{bytes_eq}
use Rattle.std.proofs.lemmas.Bool.{and_from, and_parts}
use Rattle.cnb_detect.specs.Choice.{Choice}
use Rattle.cnb_detect.specs.Documents.{writes_choice}
use Rattle.cnb_toml.specs.declared.fault.DocFault.{DocFault}
use Rattle.cnb_toml.specs.declared.fault.DocFault.TheVariants.{Wrong}
use Rattle.cnb_toml.specs.declared.target.Target.{Target}
use Rattle.cnb_toml.specs.DistinctLaws.{bytes_eq-symmetric}
use Rattle.cnb_toml.specs.Fields.{required_at}
use Rattle.cnb_toml.specs.Form.{name_of, text_of}
use Rattle.cnb_toml.specs.Names.{is_bp_id, is_bp_version}
use Rattle.cnb_toml.specs.Reading.{◌>>=◌}
use Rattle.cnb_toml.specs.Rows.{rows_of}
use Rattle.cnb_words.specs.declared.choice.ChoiceWords.{ChoiceWords}
use Rattle.cnb_world.specs.declared.env.Variable.{Variable}
use Rattle.image_docs.proofs.Answered.{Holds, all_distinct, at_or, at_required, follows, holds_of, in_document, in_name}
use Rattle.image_docs.proofs.Answered.{in_rows}
use Rattle.run_docs.specs.Group as group_doc
use Rattle.run_docs.specs.Group.{group_in, is_group_doc, is_listed, is_row, row_id}
use Rattle.run_docs.specs.declared.group.GroupRow.{GroupRow}
use Rattle.steps.specs.Outside.{Outside}
use Rattle.steps.specs.Steps as steps
use Rattle.steps.specs.Steps.{writes, yields}
use Rattle.cnb_create.specs.Creates.{chooses_group}

row_new : (before : List GroupRow) (id : List ℕ) (listed : Bool) (version api : Result (List ℕ) DocFault)
    → is_bp_id id ≡ true → Holds is_bp_version version → is_listed before id ≡ listed
    → Holds (follows bytes_eq row_id is_row before)
    ((if listed then Err (Wrong (codes "id")) else Ok id) >>=
    (λ new. version >>= (λ v. api >>= (λ a. Ok (record { key = record { id = id; version = v }; api = a })))))
row_new before id true version api named h e = tt
row_new before id false (Err fault) api named h e = tt
row_new before id false (Ok v) (Err fault) named h e = tt
row_new before id false (Ok v) (Ok a) named h e =
    and_from (is_bp_id id && is_bp_version v) (not (is_listed before id))
    (and_from (is_bp_id id) (is_bp_version v) named h) (ap not e)

row_made : (before : List GroupRow) (id version api : Result (List ℕ) DocFault) → Holds is_bp_id id
    → Holds is_bp_version version
    → Holds (follows bytes_eq row_id is_row before)
    (id >>= (λ i. (if is_listed before i then Err (Wrong (codes "id")) else Ok i)
    >>= (λ new. version >>= (λ v. api >>= (λ a. Ok
    (record { key = record { id = i; version = v }; api = a }))))))
row_made before (Err fault) version api named h = tt
row_made before (Ok i) version api named h = row_new before i (is_listed before i) version api named h refl

-- so each row of a group that bytes read as has an id and a version of their form
group_keyed : (bytes : List ℕ) (rows : List GroupRow) → group_in bytes ≡ Ok rows → list_all is_row rows ≡ true
group_keyed bytes rows h =
    (and_parts (list_all is_row rows) (is_group_doc rows)
    (holds_of (all_distinct bytes_eq row_id is_row) (group_in bytes) rows
    (in_document group_doc.rows_in (all_distinct bytes_eq row_id is_row)
    (λ table. at_or (rows_of group_doc.row_in) (all_distinct bytes_eq row_id is_row)
    (in_rows bytes_eq row_id bytes_eq-symmetric group_doc.row_in is_row
    (λ before row. row_made before (required_at (name_of is_bp_id) (codes "id") row)
    (required_at (name_of is_bp_version) (codes "version") row) (required_at text_of (codes "api") row)
    (at_required (name_of is_bp_id) is_bp_id (in_name is_bp_id) (codes "id") row)
    (at_required (name_of is_bp_version) is_bp_version (in_name is_bp_version) (codes "version") row)))
    [] (codes "group") table refl)
    bytes)
    h)).0

pub chosen_keyed : (target : Target) (words : ChoiceWords) (env : List Variable) (old new : Outside)
    (choice : Choice) → chooses_group target words env old (Ok choice) new → list_all is_row choice.group ≡ true
unfolding chooses_group writes_choice writes yields steps.◌>>=◌ steps.in_world
chosen_keyed target words env old new choice (
  made,
  m1,
  chosen,
  (written, m2, ((group, m3, first, later), spawners), (is, same)),
) =
    subst (λ (c : Choice). list_all is_row c.group ≡ true) (sym is) (group_keyed first.bytes made.group first.says)
