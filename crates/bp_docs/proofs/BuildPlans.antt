-- What a Build Plan is read as: at least one alternative, and kept metadata.
use Rattle.std.proofs.Common.{◌≡◌, ℕ, ◌+◌, ◌<◌, Bool, true, false, cond, List, [], ◌∷◌, length, Option, Some, None}
use Rattle.std.proofs.Common.{Result, Ok, Err, refl, sym, subst, arith}
use Rattle.std.specs.Prelude.{codes, nat_lt, IfOk}
use Rattle.std.specs.Fmt.{decimal}
use Rattle.std.specs.List.{list_all}
use Rattle.std.proofs.lemmas.Bool.{and_from}
use Rattle.toml.specs.Data.{Data, Items, no_items, item, Members, as_table, as_array, get_member}
use Rattle.cnb_toml.specs.declared.fault.DocFault.{DocFault}
use Rattle.cnb_toml.specs.declared.fault.DocFault.TheVariants.{Wrong}
use Rattle.cnb_toml.specs.declared.meta.Need.{Need}
use Rattle.cnb_toml.specs.Document.{document_in}
use Rattle.cnb_toml.specs.Fields.{required_at, read_or, list_at}
use Rattle.cnb_toml.specs.Form.{Form, TableForm, or_wrong, text_of, table_of, items_in, list_of}
use Rattle.cnb_toml.specs.Meta.{metadata_in, is_kept}
use Rattle.cnb_toml.specs.Reading.{◌>>=◌, Answers, under}
use Rattle.cnb_toml.proofs.Kept.{metadata_kept}
use Rattle.bp_docs.specs.declared.build_plan.PlanOption.{PlanOption}
use Rattle.bp_docs.specs.BuildPlan.{most_bytes, provided_in, required_in, option_in, options_in, plan_within_limit}
use Rattle.bp_docs.specs.BuildPlan.{build_plan_in}

-- ---- what a step that answered came from

pub and_then_ok : {A B : Type 0} (r : Result A DocFault) (next : A → Result B DocFault) (b : B)
    → (r >>= next) ≡ Ok b → (a : A) × (r ≡ Ok a) × (next a ≡ Ok b)
and_then_ok (Ok a) next b h = (a, refl, h)
and_then_ok (Err fault) next b h = absurd (cc)

pub under_was : {A : Type 0} (key : List ℕ) (r : Result A DocFault) (a : A) → under key r ≡ Ok a → r ≡ Ok a
under_was key (Ok b) a h = h
under_was key (Err fault) a h = absurd (cc)

pub ok_is : {A : Type 0} (a b : A) → (let r : Result A DocFault = Ok a in r) ≡ Ok b → a ≡ b
ok_is a b h = cc

allowed : {A : Type 0} (many : Bool) (fault : DocFault) (r : Result A DocFault) (a : A)
    → cond many (Err fault) r ≡ Ok a → r ≡ Ok a
allowed true fault r a h = absurd (cc)
allowed false fault r a h = h

-- what holds of each value that is wanted holds of the value that is answered
pub answered : {A : Type 0} (result want : Result A DocFault) (p : A → Type 0) → Answers result want
    → ((a : A) → want ≡ Ok a → p a) → IfOk result p
answered (Ok a) want p h each = each a (sym h)
answered (Err fault) want p h each = tt

-- ---- lists, each value of which is as it is read

items_all : {A : Type 0} (form : Form A) (p : A → Bool)
    → ((value : Data) (a : A) → form value ≡ Ok a → p a ≡ true) → (items : Items) (place : ℕ) (list : List A)
    → items_in form place items ≡ Ok list → list_all p list ≡ true
items_all form p each no_items place list h = subst (λ all. list_all p all ≡ true) (ok_is [] list h) refl
items_all form p each (item value values) place list h =
    let one = and_then_ok (under (decimal place) (form value))
    (λ first. items_in form (place + 1) values >>= (λ rest. Ok (first ∷ rest))) list h in
    let more = and_then_ok (items_in form (place + 1) values) (λ rest. Ok (one.0 ∷ rest)) list one.2 in
    subst (λ all. list_all p all ≡ true) (ok_is (one.0 ∷ more.0) list more.2)
    (and_from _ _ (each value one.0 (under_was (decimal place) (form value) one.0 one.1))
    (items_all form p each values (place + 1) more.0 more.1))

member_all : {A : Type 0} (form : Form A) (p : A → Bool)
    → ((value : Data) (a : A) → form value ≡ Ok a → p a ≡ true)
    → (key : List ℕ) (value : Option Data) (list : List A) → read_or [] (list_of form) key value ≡ Ok list
    → list_all p list ≡ true
member_all form p each key (Some value) list h =
    let step = and_then_ok (or_wrong (as_array value)) (items_in form 0) list
    (under_was key (list_of form value) list h) in
    items_all form p each step.0 0 list step.2
member_all form p each key None list h = subst (λ all. list_all p all ≡ true) (ok_is [] list h) refl

pub tables_all : {A : Type 0} (form : TableForm A) (p : A → Bool)
    → ((table : Members) (a : A) → form table ≡ Ok a → p a ≡ true)
    → (key : List ℕ) (table : Members) (list : List A) → list_at (table_of form) key table ≡ Ok list
    → list_all p list ≡ true
tables_all form p each key table list h =
    member_all (table_of form) p (λ value a was. let step = and_then_ok (or_wrong (as_table value)) form a was
    in each step.0 a step.2) key (get_member key table) list h

-- ---- metadata

need_kept : (table : Members) (need : Need) → required_in table ≡ Ok need → is_kept need.meta ≡ true
need_kept table need h =
    let named = and_then_ok {B = Need} (required_at text_of (codes "name") table)
    (λ name. metadata_in table >>= (λ meta. Ok (record { name = name; meta = meta }))) need h in
    let noted = and_then_ok {B = Need} (metadata_in table) (λ meta. Ok (record { name = named.0; meta = meta }))
    need named.2 in
    subst (λ (n : Need). is_kept n.meta ≡ true) (ok_is (record { name = named.0; meta = noted.0 }) need noted.2)
    (metadata_kept table noted.0 noted.1)

abbrev has_kept_needs : PlanOption → Bool
has_kept_needs option = list_all (λ (need : Need). is_kept need.meta) option.needs

option_kept : (table : Members) (option : PlanOption) → option_in table ≡ Ok option → has_kept_needs option ≡ true
option_kept table option h =
    let provided = and_then_ok {B = PlanOption} (list_at (table_of provided_in) (codes "provides") table)
    (λ provides. list_at (table_of required_in) (codes "requires") table
    >>= (λ needs. Ok (record { provides = provides; needs = needs }))) option h in
    let required = and_then_ok {B = PlanOption} (list_at (table_of required_in) (codes "requires") table)
    (λ needs. Ok (record { provides = provided.0; needs = needs })) option provided.2 in
    subst (λ (o : PlanOption). has_kept_needs o ≡ true)
    (ok_is (record { provides = provided.0; needs = required.0 }) option required.2)
    (tables_all required_in (λ (need : Need). is_kept need.meta) need_kept
    (codes "requires") table required.0 required.1)

-- the first alternative and the others, as a table is read
first_and_others : (table : Members) (options : List PlanOption) → options_in table ≡ Ok options
    → (first : PlanOption) × (others : List PlanOption) × (first ∷ others ≡ options)
    × (option_in table ≡ Ok first) × (list_at (table_of option_in) (codes "or") table ≡ Ok others)
first_and_others table options h =
    let one = and_then_ok (option_in table) (λ first. list_at (table_of option_in) (codes "or") table
    >>= (λ others. Ok (first ∷ others))) options h in
    let more = and_then_ok (list_at (table_of option_in) (codes "or") table)
    (λ others. Ok (one.0 ∷ others)) options one.2 in
    (one.0, more.0, ok_is (one.0 ∷ more.0) options more.2, one.1, more.1)

options_kept : (table : Members) (options : List PlanOption) → options_in table ≡ Ok options
    → list_all has_kept_needs options ≡ true
options_kept table options h =
    let parts = first_and_others table options h in
    subst (λ all. list_all has_kept_needs all ≡ true) parts.2
    (and_from _ _ (option_kept table parts.0 parts.3)
    (tables_all option_in has_kept_needs option_kept (codes "or") table parts.1 parts.4))

-- ---- Build Plans

pub within_limit_kept : (bytes : List ℕ) (options : List PlanOption) → plan_within_limit bytes ≡ Ok options
    → list_all has_kept_needs options ≡ true
within_limit_kept bytes options h =
    let step = and_then_ok (document_in bytes) options_in options h in
    options_kept step.0 options step.2

was_within_limit : (bytes : List ℕ) (options : List PlanOption) → build_plan_in bytes ≡ Ok options
    → plan_within_limit bytes ≡ Ok options
unfolding build_plan_in
was_within_limit bytes options h = allowed (nat_lt most_bytes (length bytes)) (Wrong [])
    (plan_within_limit bytes) options h

-- a Build Plan has an alternative
pub build_plan_filled : (bytes : List ℕ) (options : List PlanOption) → build_plan_in bytes ≡ Ok options
    → 0 < length options
build_plan_filled bytes options h =
    let step = and_then_ok (document_in bytes) options_in options (was_within_limit bytes options h) in
    let parts = first_and_others step.0 options step.2 in
    subst (λ (all : List PlanOption). 0 < length all) parts.2 (grind arith)

-- the metadata of each requirement of a Build Plan is kept metadata
pub build_plan_kept : (bytes : List ℕ) (options : List PlanOption) → build_plan_in bytes ≡ Ok options
    → list_all (λ (option : PlanOption). list_all (λ (need : Need). is_kept need.meta) option.needs) options ≡ true
build_plan_kept bytes options h = within_limit_kept bytes options (was_within_limit bytes options h)
