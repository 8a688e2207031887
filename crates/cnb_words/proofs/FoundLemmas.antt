-- What is known of options where `clap` answers.
use Rattle.std.proofs.Common.{◌≡◌, ◌∙◌, ◌⊎◌, inl, inr, true, ap, sym, subst, List, [], Option, Some, None, Err}
use Rattle.std.proofs.Common.{option_and_then, unwrap_or}
use Rattle.std.specs.List.{list_all}
use Rattle.clap.specs.Faults.{fault_of, is_free_app, is_simple_and_free}
use Rattle.clap.specs.Kinds.{HasKind, IsAmong, Kinds}
use Rattle.clap.specs.Matches.{found_of}
use Rattle.clap.specs.Simple.{App, HasMatchesOf, built, is_simple, matches_of}
use Rattle.clap.specs.Values.{kind_of}
use Rattle.clap.specs.Walk.{Text, rows_of}
use Rattle.clap.specs.declared.error.Error.{Error}
use Rattle.clap.specs.declared.error.kind.ErrorKind.{ErrorKind}
use Rattle.clap.specs.declared.error.kind.ErrorKind.TheVariants as kind
use Rattle.clap.specs.declared.parser.matches.ArgMatches.{ArgMatches}
use Rattle.clap.proofs.WalkLemmas.{both}
use Rattle.cnb_words.specs.Faults.{AreReadAs}
use Rattle.cnb_words.specs.Options.{options_in}
use Rattle.cnb_words.specs.Reading.{Finds, checked_for, dashed, fault_of_reading, given_by, is_plain, reader, texts_of}
use Rattle.cnb_words.specs.Reading.{values_at}
use Rattle.cnb_words.specs.declared.fault.WordsFault.{WordsFault}
use Rattle.cnb_words.proofs.ReaderLemmas.{simple_reader}
use Rattle.cnb_words.proofs.ReadingLaw.{read_where_no_fault, unread_where_fault}

by_kind : (k : ErrorKind) (kinds : Kinds) (want : Option (Unit {0})) → (k ≡ kind.OutOfMemory) ⊎ IsAmong k kinds
    → ((kinds ≡ [] → ⊥) → want ≡ None)
    → AreReadAs (Err (fault_of_reading k)) want
by_kind kind.OutOfMemory kinds want h none = tt
by_kind k kinds want (inl e) none = cc
by_kind k kinds want (inr among) none = none (λ e. subst (IsAmong k) e among)

module _ (once often words : List Text) (plain : list_all is_plain words ≡ true) (app : App)
    (is : app ≡ reader once often) where
  simple_app : is_simple_and_free app ≡ true
  simple_app = ap is_simple_and_free is ∙ simple_reader once often

  -- where `clap` fails, words are refused, unless memory ran out
  pub refused_by : (e : Error) (fault : WordsFault) → fault ≡ fault_of_reading (kind_of e)
      → (is_simple_and_free app ≡ true → HasKind (fault_of app words) e)
      → AreReadAs (Err fault) (option_and_then (checked_for once often) (options_in words))
  refused_by e fault says fails =
      let kinds : HasKind (fault_of (reader once often) words) e = subst (λ a. HasKind (fault_of a words) e) is
      (fails simple_app) in
      subst (λ f. AreReadAs (Err f) (option_and_then (checked_for once often) (options_in words))) (sym says)
      (by_kind (kind_of e) (fault_of (reader once often) words) _ kinds (unread_where_fault once often words plain))

  pub record Found (matches : ArgMatches) : Type 0 where
    pub options : options_in words ≡ Some (given_by words)
    pub checks : checked_for once often (given_by words) ≡ Some tt
    pub finds : Finds matches (given_by words)

  -- where it answers, it found the options
  pub found_by : (matches : ArgMatches) → (is_simple_and_free app ≡ true → fault_of app words ≡ [])
      → HasMatchesOf app words matches → Found matches
  found_by matches fails has =
      let none : fault_of (reader once often) words ≡ [] = ap (λ a. fault_of a words) (sym is) ∙ fails simple_app in
      let read = read_where_no_fault once often words plain none in
      let given_is : read.0 ≡ given_by words = sym (ap (λ o. unwrap_or o []) read.1.read) in
      let rows : rows_of (found_of matches) ≡ matches_of (reader once often) words =
      (has (both (is_simple app) (is_free_app (built app)) simple_app).0).0 ∙ ap (λ a. matches_of a words) is
      in
      record {
        options = read.1.read ∙ ap Some given_is;
        checks = ap (checked_for once often) (sym given_is) ∙ read.1.checks;
        finds = λ name. ap (values_at name) rows ∙ read.1.values name ∙ ap (texts_of (dashed name)) given_is;
      }
