use Rattle.std.proofs.Common.{◌≡◌, ◌∙◌, true, false, arith, map, string_bytes, sym}
use Rattle.std.proofs.lemmas.List.Folds.{list_all-map}
use Rattle.std.proofs.lemmas.Result.{err_from_is_err_and}
use Rattle.clap.specs.Words.{app_of}
use Rattle.cnb_words.specs.Reading.{is_plain}
use Rattle.cnb_words.proofs.FoundLemmas.{found_by, refused_by}
use Rattle.cnb_words.proofs.ReadingLaw.{unread_where_odd}
use Rattle.cnb_words.proofs.reading.read_options.Goals as goal

pub returns-then-not-are_plain-clause-refused : goal.returns-then-not-are_plain-clause-refused
returns-then-not-are_plain-clause-refused c =
    let odd : c.are_plain.result ≡ false = grind arith in
    unread_where_odd (map (λ name. name.now) c.args.once.now) (map (λ name. name.now) c.args.often.now)
    (map string_bytes c.args.words.now) c.requires.once c.requires.often
    (list_all-map is_plain string_bytes c.args.words.now ∙ sym c.are_plain.ensures ∙ odd)

pub returns-in_err-matches-clause-refused : goal.returns-in_err-matches-clause-refused
returns-in_err-matches-clause-refused c =
    let plain : c.are_plain.result ≡ true = grind arith in
    let exit = err_from_is_err_and c.from_residual-in_err-matches.result c.from_residual-in_err-matches.ensures.1 in
    rw exit.1 (refused_by (map (λ name. name.now) c.args.once.now) (map (λ name. name.now) c.args.often.now)
    (map string_bytes c.args.words.now)
    (list_all-map is_plain string_bytes c.args.words.now ∙ sym c.are_plain.ensures ∙ plain)
    (app_of c.in_ok-reader.field-0) c.in_ok-reader.ensures c.in_err-matches.field-0.0 exit.0 exit.2
    c.in_err-matches.ensures.kinds)

pub invariant_of-result : goal.invariant_of-result
invariant_of-result c =
    let plain : c.are_plain.result ≡ true = grind arith in
    (found_by (map (λ name. name.now) c.args.once.now) (map (λ name. name.now) c.args.often.now)
    (map string_bytes c.args.words.now)
    (list_all-map is_plain string_bytes c.args.words.now ∙ sym c.are_plain.ensures ∙ plain)
    (app_of c.in_ok-reader.field-0) c.in_ok-reader.ensures c.in_ok-matches.matches c.in_ok-matches.ensures.kinds
    c.in_ok-matches.ensures.matches).finds

pub returns-clause-options : goal.returns-clause-options
returns-clause-options c =
    let plain : c.are_plain.result ≡ true = grind arith in
    (found_by (map (λ name. name.now) c.args.once.now) (map (λ name. name.now) c.args.often.now)
    (map string_bytes c.args.words.now)
    (list_all-map is_plain string_bytes c.args.words.now ∙ sym c.are_plain.ensures ∙ plain)
    (app_of c.in_ok-reader.field-0) c.in_ok-reader.ensures c.in_ok-matches.matches c.in_ok-matches.ensures.kinds
    c.in_ok-matches.ensures.matches).options

pub returns-clause-checked : goal.returns-clause-checked
returns-clause-checked c =
    let plain : c.are_plain.result ≡ true = grind arith in
    (found_by (map (λ name. name.now) c.args.once.now) (map (λ name. name.now) c.args.often.now)
    (map string_bytes c.args.words.now)
    (list_all-map is_plain string_bytes c.args.words.now ∙ sym c.are_plain.ensures ∙ plain)
    (app_of c.in_ok-reader.field-0) c.in_ok-reader.ensures c.in_ok-matches.matches c.in_ok-matches.ensures.kinds
    c.in_ok-matches.ensures.matches).checks
