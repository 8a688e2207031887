-- The command that reads options, once it is built.
use Rattle.std.proofs.Common.{◌≡◌, ◌∙◌, ◌&&◌, ◌||◌, Bool, cond, true, false, not, refl, ap, ap₂, List, [], ◌∷◌, ◌++◌}
use Rattle.std.proofs.Common.{map, fold, Option, Some, None, is_some, count_by}
use Rattle.std.specs.List.{list_all, list_any}
use Rattle.clap.specs.Kinds.{Kinds, or_else}
use Rattle.clap.specs.Faults.{built_fault, check_fault, defaults_fault, entered_fault, fault_of, has_free_rules}
use Rattle.clap.specs.Faults.{is_free_app, is_simple_and_free, level_fault, settle_fault, walk_fault}
use Rattle.clap.specs.Simple.{App, built, entered, filled_from, has_simple_rules, is_buildable, is_in_order, is_ready}
use Rattle.clap.specs.Simple.{is_ready_leaf, matches_of, names_of}
use Rattle.clap.specs.Takes.{is_given}
use Rattle.clap.specs.Walk.{Held, Row, Rule, Text, finished, has_row, is_early_multiple, nothing_held, rows_after}
use Rattle.clap.specs.Walk.{settled, walk, walk_from, with_default}
use Rattle.clap.specs.declared.builder.action.ArgAction.TheVariants.{Set, Append}
use Rattle.cnb_words.specs.Reading.{is_plain, kinds_of, option_rule, reader}
use Rattle.cnb_words.proofs.WalkLemmas.{Kind, built_rule, guard, guard-or, shape, taken, walk_law}

-- ---- what building makes of the command

filled_often : (often : List Text) → filled_from 1 (map (option_rule Append) often)
    ≡ map built_rule (map (λ name. (true, name)) often)
filled_often [] = refl
filled_often (name ∷ often) = ap (λ rest. built_rule (true, name) ∷ rest) (filled_often often)

filled_all : (once often : List Text) → filled_from 1 (map (option_rule Set) once
    ++ map (option_rule Append) often) ≡ map built_rule (kinds_of once often)
filled_all [] often = filled_often often
filled_all (name ∷ once) often = ap (λ rest. built_rule (false, name) ∷ rest) (filled_all once often)

-- the command, built
abbrev built_reader : List Kind → App
built_reader kinds = record { top = shape kinds; subs = [] }

built_is : (once often : List Text) → built (reader once often) ≡ built_reader (kinds_of once often)
built_is once often = ap (λ rules. record { top = record (shape []) { rules = rules }; subs = [] })
    (filled_all once often)

-- ---- it is simple

module _ (p : Rule → Bool) (each : (k : Kind) → p (built_rule k) ≡ true) where
  each_built : (kinds : List Kind) → list_all p (map built_rule kinds) ≡ true
  each_built [] = refl
  each_built (k ∷ ks) = rw (each k) (each_built ks)

module _ (p : Rule → Bool) (none : (k : Kind) → p (built_rule k) ≡ false) where
  none_built : (kinds : List Kind) → list_any p (map built_rule kinds) ≡ false
  none_built [] = refl
  none_built (k ∷ ks) = rw (none k) (none_built ks)

plain_often : (often : List Text) → list_all (λ a. a.is_simple) (map (option_rule Append) often) ≡ true
plain_often [] = refl
plain_often (name ∷ often) = plain_often often

plain_all : (once often : List Text) → list_all (λ a. a.is_simple)
    (map (option_rule Set) once ++ map (option_rule Append) often) ≡ true
plain_all [] often = plain_often often
plain_all (name ∷ once) often = plain_all once often

pub simple_reader : (once often : List Text) → is_simple_and_free (reader once often) ≡ true
simple_reader once often =
    let kinds = kinds_of once often in
    let of_built = λ (a : App). (is_buildable (reader once often)
    && (is_ready a.top && list_all is_ready_leaf a.subs)) && is_free_app a in
    let buildable : is_buildable (reader once often) ≡ true = rw (plain_all once often) refl in
    let simple : has_simple_rules (shape kinds) ≡ true = each_built (λ a. a.is_simple) (λ k. refl) kinds in
    let ordered : is_in_order (map built_rule kinds) ≡ true = ap not
    (none_built (is_early_multiple (count_by (λ a. is_some a.index) (map built_rule kinds)))
    (λ k. refl) kinds) in
    let free : has_free_rules (shape kinds) ≡ true = each_built (λ a. a.is_free) (λ k. refl) kinds in
    ap of_built (built_is once often) ∙ rw (buildable, simple, ordered, free) refl

-- ---- what it makes of words

no_entry : (kinds : List Kind) (stop : Option (Text × List Text)) → entered (built_reader kinds) stop ≡ None
no_entry kinds None = refl
no_entry kinds (Some p) = refl

no_entry_fault : (kinds : List Kind) (stop : Option (Text × List Text)) → entered_fault (built_reader kinds) stop ≡ []
no_entry_fault kinds None = refl
no_entry_fault kinds (Some p) = refl

or-true : (b : Bool) → (b || true) ≡ true
or-true true = refl
or-true false = refl

cond-same : {A : Type 0} (b : Bool) (x : A) → cond b x x ≡ x
cond-same true x = refl
cond-same false x = refl

no_default_fault : (kinds : List Kind) (rows : List Row) → defaults_fault rows (map built_rule kinds) ≡ []
unfolding defaults_fault
no_default_fault [] rows = refl
no_default_fault (k ∷ ks) rows = rw (or-true (has_row k.1 rows), cond-same (has_row k.1 rows) rows)
    (no_default_fault ks rows)

no_defaults : (kinds : List Kind) (rows : List Row) → fold with_default rows (map built_rule kinds) ≡ rows
no_defaults [] rows = refl
no_defaults (k ∷ ks) rows = go (has_row k.1 rows) (no_defaults ks rows)
  where
    go : (b : Bool) → fold with_default rows (map built_rule ks) ≡ rows
        → fold with_default (cond b rows rows) (map built_rule ks) ≡ rows
    go true e = e
    go false e = e

no_check_fault : (kinds : List Kind) (rows : List Row) → check_fault (shape kinds) rows false ≡ []
no_check_fault kinds rows = rw (none_built (λ a. a.required && not (is_given a.id rows)) (λ k. refl) kinds) refl

or_else_none : (a : Kinds) → or_else a [] ≡ a
or_else_none [] = refl
or_else_none (k ∷ ks) = refl

module _ (once often words : List Text) where
  abbrev kinds : List Kind
  kinds = kinds_of once often

  abbrev end : Held
  end = (walk (map built_rule kinds) [] nothing_held words).held

  faults : fault_of (reader once often) words ≡ or_else (walk_fault (shape kinds) []
      (walk_from nothing_held) words) (settle_fault (map built_rule kinds) false end)
  faults =
      let stop = (walk (map built_rule kinds) [] nothing_held words).stopped in
      let walks = walk_fault (shape kinds) [] (walk_from nothing_held) words in
      let settles = settle_fault (map built_rule kinds) false end in
      ap (λ a. built_fault a nothing_held words) (built_is once often)
      ∙ ap₂ (λ o below. level_fault (shape kinds) [] nothing_held words (is_some o) below) (no_entry kinds stop)
      (no_entry_fault kinds stop)
      ∙ ap₂ (λ a b. or_else walks (or_else settles (or_else a b)))
      (no_default_fault kinds (settled (map built_rule kinds) end).rows)
      (no_check_fault kinds (finished (map built_rule kinds) end))
      ∙ ap (or_else walks) (or_else_none settles)

  rows : matches_of (reader once often) words ≡ (settled (map built_rule kinds) end).rows
  rows =
      ap (λ (a : App). rows_after a.top.rules (names_of a) words) (built_is once often)
      ∙ no_defaults kinds (settled (map built_rule kinds) end).rows

  -- `clap` fails, or finds the rows of the options
  pub reads : list_all is_plain words ≡ true → guard (fault_of (reader once often) words)
      (Some (matches_of (reader once often) words)) ≡ taken kinds [] None words
  reads plain =
      ap₂ (λ (a : Kinds) (b : List Row). guard a (Some b)) faults rows
      ∙ guard-or (walk_fault (shape kinds) [] (walk_from nothing_held) words)
      (settle_fault (map built_rule kinds) false end) (Some (settled (map built_rule kinds) end).rows)
      ∙ (walk_law kinds words plain).0 nothing_held
