-- A plan that was read can be written, and so can what is taken from it.
use Rattle.std.proofs.Common.{◌≡◌, ◌∙◌, refl, sym, ap, subst, ℕ, ◌+◌, Bool, true, false, cond, ◌&&◌, List, [], ◌∷◌}
use Rattle.std.proofs.Common.{◌++◌, codes, Option, Some, None, Result, Ok, Err}
use Rattle.std.specs.Prelude.{IfOk}
use Rattle.std.specs.Fmt.{decimal}
use Rattle.std.specs.List.{list_all}
use Rattle.std.specs.Str.{bytes_eq}
use Rattle.std.proofs.lemmas.Bool.{and_from}
use Rattle.std.proofs.lemmas.List.Folds.{list_all-append}
use Rattle.std.proofs.lemmas.Slice.Eq.{bytes_eq-Decides}
use Rattle.toml.specs.Data.{Data, Items, no_items, item, Members, as_array, as_table, get_member}
use Rattle.cnb_toml.specs.declared.fault.DocFault.{DocFault}
use Rattle.cnb_toml.specs.declared.fault.DocFault.TheVariants.{Wrong}
use Rattle.cnb_toml.specs.declared.fault.DocFault.TheVariants as doc_fault
use Rattle.cnb_toml.specs.declared.meta.Need.{Need}
use Rattle.cnb_toml.specs.declared.names.Key.{Key}
use Rattle.cnb_toml.specs.Document.{document_in}
use Rattle.cnb_toml.specs.Fields.{list_at, read_or, required_at, value_or}
use Rattle.cnb_toml.specs.Form.{or_wrong, table_of, text_of}
use Rattle.cnb_toml.specs.Keys.{key_in}
use Rattle.cnb_toml.specs.Meta.{is_kept, metadata_in}
use Rattle.cnb_toml.specs.Reading.{◌>>=◌, Answers, under}
use Rattle.cnb_toml.specs.Rows.{rows_in, rows_of}
use Rattle.cnb_toml.proofs.Kept.{metadata_kept}
use Rattle.bp_docs.proofs.BuildPlans.{and_then_ok, ok_is, tables_all, under_was}
use Rattle.run_docs.specs.Plan.{entries_in, entry_in, entry_of, first_name, is_entry, is_need_of, is_plan_doc, need_in}
use Rattle.run_docs.specs.Plan.{plan_in, same_name}
use Rattle.run_docs.specs.declared.plan.PlanEntry.{PlanEntry}
use Rattle.steps.specs.Causes.{IsAnswer}
use Rattle.cnb_build.specs.declared.fault.BuildFault.{BuildFault}
use Rattle.cnb_build.specs.Reading.{value_at}
use Rattle.cnb_build.specs.Refusals.{cause_of}
use Rattle.cnb_build.proofs.BuildSteps.{answered_at}

-- all requirements have the first one's name, and kept metadata
abbrev are_named : List Need → Bool
are_named [] = true
are_named (first ∷ needs) = list_all (is_need_of first.name) (first ∷ needs)

is_named : (name : List ℕ) (need : Need) → need.name ≡ name → is_kept need.meta ≡ true → is_need_of name need ≡ true
is_named name need same kept = and_from (bytes_eq need.name name) (is_kept need.meta)
    ((bytes_eq-Decides need.name name).1 same) kept

with_name : (first name : List ℕ) (given : List ℕ) → cond (bytes_eq first name)
    (let r : Result (List ℕ) DocFault = Ok name in r) (Err (Wrong (codes "name"))) ≡ Ok given → first ≡ name
with_name first name given h = by (bytes_eq first name) refl h
  where
    by : (same : Bool) → bytes_eq first name ≡ same → cond same (let r : Result (List ℕ) DocFault = Ok name in r)
        (Err (Wrong (codes "name"))) ≡ Ok given → first ≡ name
    by true e h = (bytes_eq-Decides first name).0 e
    by false e h = absurd (cc)

one_more : (before : List Need) (name given : List ℕ) (need : Need)
    → same_name (first_name before) name ≡ Ok given → need.name ≡ name → is_kept need.meta ≡ true
    → are_named before ≡ true → are_named (before ++ need ∷ []) ≡ true
one_more [] name given need same is kept so_far = and_from (is_need_of need.name need) true
    (is_named need.name need refl kept) refl
one_more (first ∷ needs) name given need same is kept so_far =
    list_all-append (is_need_of first.name) (first ∷ needs) (need ∷ [])
    ∙ and_from (list_all (is_need_of first.name) (first ∷ needs)) (is_need_of first.name need && true) so_far
    (and_from (is_need_of first.name need) true (is_named first.name need
    (is ∙ sym (with_name first.name name given same)) kept) refl)

need_read : (before : List Need) (table : Members) (need : Need) → need_in before table ≡ Ok need
    → are_named before ≡ true → are_named (before ++ need ∷ []) ≡ true
need_read before table need h so_far =
    let named = and_then_ok {B = Need} (required_at text_of (codes "name") table)
    (λ name. same_name (first_name before) name >>= (λ same. metadata_in table
    >>= (λ meta. Ok (record { name = name; meta = meta })))) need h in
    let alike = and_then_ok {B = Need} (same_name (first_name before) named.0)
    (λ same. metadata_in table >>= (λ meta. Ok (record { name = named.0; meta = meta }))) need named.2 in
    let noted = and_then_ok {B = Need} (metadata_in table) (λ meta. Ok (record { name = named.0; meta = meta }))
    need alike.2 in
    let is = ok_is (record { name = named.0; meta = noted.0 }) need noted.2 in
    one_more before named.0 alike.0 need alike.1 (ap (λ (n : Need). n.name) (sym is))
    (subst (λ (n : Need). is_kept n.meta ≡ true) is (metadata_kept table noted.0 noted.1)) so_far

needs_read : (values : Items) (before : List Need) (place : ℕ) (needs : List Need)
    → rows_in need_in before place values ≡ Ok needs → are_named before ≡ true → are_named needs ≡ true
needs_read no_items before place needs h so_far = subst (λ (all : List Need). are_named all ≡ true)
    (ok_is before needs h) so_far
needs_read (item value values) before place needs h so_far =
    let one = and_then_ok {B = List Need} (under (decimal place) (table_of (need_in before) value))
    (λ row. rows_in need_in (before ++ row ∷ []) (place + 1) values) needs h in
    let inside = and_then_ok {B = Need} (or_wrong (as_table value)) (need_in before) one.0
    (under_was (decimal place) (table_of (need_in before) value) one.0 one.1) in
    needs_read values (before ++ one.0 ∷ []) (place + 1) needs one.2 (need_read before inside.0 one.0 inside.2 so_far)

needs_at : (value : Option Data) (needs : List Need) → read_or [] (rows_of need_in) (codes "requires") value
    ≡ Ok needs → are_named needs ≡ true
needs_at (Some value) needs h =
    let step = and_then_ok {B = List Need} (or_wrong (as_array value)) (rows_in need_in [] 0) needs
    (under_was (codes "requires") (rows_of need_in value) needs h) in
    needs_read step.0 [] 0 needs step.2 refl
needs_at None needs h = subst (λ (all : List Need). are_named all ≡ true) (ok_is [] needs h) refl

entry_made : (providers : List Key) (needs : List Need) (entry : PlanEntry) → are_named needs ≡ true
    → entry_of providers needs ≡ Ok entry → is_entry entry ≡ true
entry_made providers [] entry named h = absurd (cc)
entry_made providers (first ∷ needs) entry named h = subst (λ (e : PlanEntry). is_entry e ≡ true)
    (ok_is (record { name = first.name; providers = providers; needs = first ∷ needs }) entry h) named

entry_read : (table : Members) (entry : PlanEntry) → entry_in table ≡ Ok entry → is_entry entry ≡ true
entry_read table entry h =
    let provided = and_then_ok {B = PlanEntry} (list_at (table_of key_in) (codes "providers") table)
    (λ providers. value_or [] (rows_of need_in) (codes "requires") table >>= (λ needs. entry_of providers needs))
    entry h in
    let required = and_then_ok {B = PlanEntry} (value_or [] (rows_of need_in) (codes "requires") table)
    (λ needs. entry_of provided.0 needs) entry provided.2 in
    entry_made provided.0 required.0 entry (needs_at (get_member (codes "requires") table) required.0 required.1)
    required.2

-- a plan that was read can be written
pub plan_read : (bytes : List ℕ) (plan : List PlanEntry) → plan_in bytes ≡ Ok plan → is_plan_doc plan ≡ true
plan_read bytes plan h =
    let step = and_then_ok {B = List PlanEntry} (document_in bytes) entries_in plan h in
    tables_all entry_in is_entry entry_read (codes "entries") step.0 plan step.2

ok_is_built : (a b : List PlanEntry) → (let r : Result (List PlanEntry) BuildFault = Ok a in r) ≡ Ok b → a ≡ b
ok_is_built a b h = cc

value_was : (path : List ℕ) (read : Result (List PlanEntry) DocFault) (plan : List PlanEntry)
    → value_at path read ≡ Ok plan → read ≡ Ok plan
value_was path (Ok other) plan h = ap Ok (ok_is_built other plan h)
value_was path (Err doc_fault.Memory) plan h = absurd (cc)
value_was path (Err doc_fault.Absent) plan h = absurd (cc)
value_was path (Err doc_fault.NotUtf8) plan h = absurd (cc)
value_was path (Err doc_fault.NotToml) plan h = absurd (cc)
value_was path (Err (doc_fault.MetaKind text)) plan h = absurd (cc)
value_was path (Err (doc_fault.Missing text)) plan h = absurd (cc)
value_was path (Err (doc_fault.Wrong text)) plan h = absurd (cc)
value_was path (Err (doc_fault.Name text)) plan h = absurd (cc)

-- so a plan of a document can be written
pub kept_plan : (path bytes : List ℕ) (answer : Result (List PlanEntry) DocFault)
    (result : Result (List PlanEntry) BuildFault) → Answers answer (plan_in bytes)
    → IsAnswer cause_of result (value_at path answer)
    → IfOk result (λ plan. is_plan_doc plan ≡ true)
kept_plan path bytes answer (Ok plan) is h = plan_read bytes plan
    (value_was path (plan_in bytes) plan (answered_at path answer (plan_in bytes) (Ok plan) is h))
kept_plan path bytes answer (Err fault) is h = tt
