-- What `clap` found, by name, and the commands that find it.
use Rattle.std.proofs.Common.{◌≡◌, ◌∙◌, ℕ, ◌+◌, ◌<◌, Bool, cond, true, false, ap, refl, sym, find, get_or, length, map}
use Rattle.std.proofs.Common.{take, List, [], ◌∷◌, ◌++◌, append-nil, append_assoc, Option, Some, None, option_map}
use Rattle.std.proofs.Common.{option_and_then, slice_get, unwrap_or}
use Rattle.std.specs.Borrow.{Bor}
use Rattle.std.specs.Option.{option_copied, option_map_or}
use Rattle.std.proofs.lemmas.List.{map-append, take_more}
use Rattle.clap.specs.Matches.{first_value, found_of, matched_of, raw_values}
use Rattle.clap.specs.Simple.{App, with_rule}
use Rattle.clap.specs.Walk.{Row, Text, all_of, first_of, rows_of}
use Rattle.clap.specs.declared.builder.action.ArgAction.TheVariants.{Set, Append}
use Rattle.clap.specs.declared.parser.matches.ArgMatches.{ArgMatches}
use Rattle.clap.proofs.WalkLemmas.{first_value-rows, raw_values-rows}
use Rattle.std.specs.Str.{bytes_eq}
use Rattle.cnb_words.specs.Options.{has_name, value_of}
use Rattle.cnb_words.specs.Reading.{dashed, option_rule, reader, reader_of, texts_of, values_at, Finds}
use Rattle.cnb_words.specs.declared.options.Given.{Given}

-- ---- the command of options that were added one by one

taken_more : (names : List (Bor Text)) (i : ℕ) (text : Text) (d : Bor Text) → i < length names
    → text ≡ (get_or names i d).now
    → map (λ name. name.now) (take (i + 1) names) ≡ map (λ name. name.now) (take i names) ++ text ∷ []
taken_more names i text d h e =
    ap (map (λ name. name.now)) (take_more names i d h) ∙ map-append (λ name. name.now) (take i names)
    (get_or names i d ∷ [])
    ∙ ap (λ t. map (λ name. name.now) (take i names) ++ t ∷ []) (sym e)

pub once_more : (app next : App) (names : List (Bor Text)) (i : ℕ) (text : Text) (d : Bor Text) → i < length names
    → text ≡ (get_or names i d).now
    → next ≡ with_rule app (option_rule Set text) → app ≡ reader (map (λ name. name.now) (take i names)) []
    → next ≡ reader (map (λ name. name.now) (take (i + 1) names)) []
once_more app next names i text d h e added before =
    let done = map (λ (name : Bor Text). name.now) (take i names) in
    added ∙ ap (λ a. with_rule a (option_rule Set text)) before
    ∙ ap reader_of (ap (λ rules. rules ++ option_rule Set text ∷ []) (append-nil (map (option_rule Set) done))
    ∙ sym (map-append (option_rule Set) done (text ∷ []))
    ∙ ap (map (option_rule Set)) (sym (taken_more names i text d h e))
    ∙ sym (append-nil (map (option_rule Set) (map (λ name. name.now) (take (i + 1) names)))))

pub often_more : (app next : App) (once : List Text) (names : List (Bor Text)) (i : ℕ) (text : Text)
    (d : Bor Text) → i < length names → text ≡ (get_or names i d).now
    → next ≡ with_rule app (option_rule Append text) → app ≡ reader once (map (λ name. name.now) (take i names))
    → next ≡ reader once (map (λ name. name.now) (take (i + 1) names))
often_more app next once names i text d h e added before =
    let done = map (λ (name : Bor Text). name.now) (take i names) in
    added ∙ ap (λ a. with_rule a (option_rule Append text)) before
    ∙ ap reader_of (append_assoc (map (option_rule Set) once) (map (option_rule Append) done)
    (option_rule Append text ∷ [])
    ∙ ap (λ rules. map (option_rule Set) once ++ rules)
    (sym (map-append (option_rule Append) done (text ∷ []))
    ∙ ap (map (option_rule Append)) (sym (taken_more names i text d h e))))

-- ---- the values of an option

first_at : (name : Text) (rows : List Row) → first_of name rows ≡ slice_get (values_at name rows) 0
first_at name rows = go (find (λ r. bytes_eq r.id name) rows)
  where
    go : (o : Option Row) → option_and_then (λ (r : Row). slice_get r.values 0) o
        ≡ slice_get (option_map_or (λ (r : Row). r.values) o []) 0
    go None = refl
    go (Some r) = refl

first_text : (name : List ℕ) (options : List Given) → slice_get (texts_of name options) 0 ≡ value_of name options
first_text name [] = refl
first_text name (option ∷ options) = go (has_name name option) (first_text name options)
  where
    go : (b : Bool) → slice_get (texts_of name options) 0 ≡ value_of name options
        → slice_get (cond b (option.value ∷ texts_of name options) (texts_of name options)) 0
        ≡ option_map (λ (o : Given). o.value) (cond b (Some option) (find (has_name name) options))
    go true e = refl
    go false e = e

copied : (result : Option (Bor Text)) → option_copied result ≡ option_map (λ s. s.now) result
copied None = refl
copied (Some text) = refl

pub value_found : (matches : ArgMatches) (options : List Given) (name : Text) (result : Option (Bor Text))
    → Finds matches options
    → option_map (λ s. s.now) result ≡ first_value (found_of matches) name
    → option_copied result ≡ value_of (dashed name) options
value_found matches options name result finds e =
    copied result ∙ e ∙ first_value-rows (found_of matches) name ∙ first_at name (rows_of (found_of matches))
    ∙ ap (λ xs. slice_get xs 0) (finds name) ∙ first_text (dashed name) options

values_all : (name : Text) (rows : List Row) (values : Option (List Text)) → values ≡ all_of name rows
    → unwrap_or values [] ≡ values_at name rows
values_all name rows values e = ap (λ o. unwrap_or o []) e ∙ go (find (λ r. bytes_eq r.id name) rows)
  where
    go : (o : Option Row) → unwrap_or (option_map (λ (r : Row). r.values) o) []
        ≡ option_map_or (λ (r : Row). r.values) o []
    go None = refl
    go (Some r) = refl

pub values_found : (matches : ArgMatches) (options : List Given) (name : Text) (values : Option (List Text))
    → Finds matches options
    → values ≡ option_map raw_values (matched_of (found_of matches) name)
    → unwrap_or values [] ≡ texts_of (dashed name) options
values_found matches options name values finds e =
    values_all name (rows_of (found_of matches)) values (e ∙ raw_values-rows (found_of matches) name) ∙ finds name
