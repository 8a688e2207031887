-- What `clap` reads, and what is to be read.
use Rattle.std.proofs.Common.{◌≡◌, ◌∙◌, ℕ, ◌==◌, ◌&&◌, Bool, cond, true, false, refl, sym, ap, List, [], ◌∷◌, Option}
use Rattle.std.proofs.Common.{Some, None, option_and_then, true≢false, eqb-true, subst}
use Rattle.std.specs.List.{after_first, before_first, list_all}
use Rattle.std.proofs.lemmas.Option.{option_and_then_some}
use Rattle.clap.specs.Faults.{fault_of}
use Rattle.clap.specs.Kinds.{Kinds}
use Rattle.clap.specs.Simple.{matches_of}
use Rattle.clap.specs.Walk.{Row, Text}
use Rattle.cnb_words.specs.declared.options.Given.{Given}
use Rattle.cnb_words.specs.Options.{begins_with_dash, has_equals, in_one_word, in_two_words, options_in}
use Rattle.cnb_words.specs.Reading.{dashed, is_in, is_plain, kinds_of, reader, texts_of, values_at}
use Rattle.cnb_words.proofs.WalkLemmas.{Kind, added, added_all, before-dash, bind-none, guard, no-dash-first, no_option}
use Rattle.cnb_words.proofs.WalkLemmas.{no_waiting, seek, taken, taken_name, taken_value, taken_whole, undashed}
use Rattle.cnb_words.proofs.WalkLemmas.{with_next}
use Rattle.cnb_words.proofs.NameLemmas.{checked, fits, fits_checked, no_empty_name, unfit_checked}
use Rattle.cnb_words.proofs.ReaderLemmas.{reads}

module _ (once often words : List Text) where
  abbrev kinds : List Kind
  kinds = kinds_of once often

  abbrev faults : Kinds
  faults = fault_of (reader once often) words

  abbrev found : List Row
  found = matches_of (reader once often) words

  -- the options that words give, where no other stands and none twice that mustn't
  pub record Given_by (given : List Given) : Type 0 where
    pub read : options_in words ≡ Some given
    pub checks : checked once often given ≡ Some tt
    pub values : (i : Text) → values_at i found ≡ texts_of (dashed i) given

  pub read_where_no_fault : list_all is_plain words ≡ true → faults ≡ [] → (given : List Given) × Given_by given
  read_where_no_fault plain none =
      let e : Some found ≡ taken kinds [] None words = ap (λ a. guard a (Some found)) (sym none)
      ∙ reads once often words plain in
      option_and_then_some (added_all kinds []) (options_in words) found (sym e) (λ given read added.
      let fit = fits once often given [] found added in
      (given, record { read = read; checks = fits_checked once often given found fit; values = fit.values }))

  unread : taken kinds [] None words ≡ None → option_and_then (checked once often) (options_in words) ≡ None
  unread none = go (options_in words) none
    where
      go : (o : Option (List Given)) → option_and_then (added_all kinds []) o ≡ None
          → option_and_then (checked once often) o ≡ None
      go None e = refl
      go (Some given) e = unfit_checked once often given e

  pub unread_where_fault : list_all is_plain words ≡ true → (faults ≡ [] → ⊥)
      → option_and_then (checked once often) (options_in words) ≡ None
  unread_where_fault plain some = unread (sym (reads once often words plain) ∙ go faults refl)
    where
      go : (a : Kinds) → faults ≡ a → guard a (Some found) ≡ None
      go [] e = absurd (some e)
      go (k ∷ ks) e = refl

-- ---- words that `clap` isn't given

module _ (kinds : List Kind) (named : seek kinds [] ≡ None) where
  abbrev Unknown : Text → Type 0
  Unknown word = option_and_then (seek kinds) (undashed word) ≡ None

  record Odd (word : Text) : Type 0 where
    dash : begins_with_dash word ≡ true
    whole : has_equals word ≡ true → Unknown (before_first (λ b. b == 61) word)
    name : Unknown word

  one_dash : (b : ℕ) (bs : List ℕ) → (b == 45) ≡ false → Odd (45 ∷ b ∷ bs)
  one_dash b bs h = record {
    dash = refl;
    whole = λ _. ap (λ t. option_and_then (seek kinds) (undashed t)) (before-dash (b ∷ bs))
        ∙ ap (option_and_then (seek kinds)) (no-dash-first b bs h);
    name = rw h refl;
  }

  dash_only : Odd (45 ∷ [])
  dash_only = record { dash = refl; whole = λ e. absurd (true≢false (sym e)); name = refl }

  dashes_only : Odd (45 ∷ 45 ∷ [])
  dashes_only = record { dash = refl; whole = λ e. absurd (true≢false (sym e)); name = named }

  odd : (word : Text) → is_plain word ≡ false → Odd word
  odd [] h = absurd (true≢false h)
  odd (b ∷ []) h = go (b == 45) refl h
    where
      go : (t : Bool) → (b == 45) ≡ t → cond t false true ≡ false → Odd (b ∷ [])
      go true e f = subst (λ x. Odd (x ∷ [])) (sym (eqb-true b 45 e)) dash_only
      go false e f = absurd (true≢false f)
  odd (b ∷ c ∷ []) h = go (b == 45) refl (c == 45) refl h
    where
      go : (t : Bool) → (b == 45) ≡ t → (u : Bool) → (c == 45) ≡ u → cond t false true ≡ false → Odd (b ∷ c ∷ [])
      go false e u f g = absurd (true≢false g)
      go true e false f g = subst (λ x. Odd (x ∷ c ∷ [])) (sym (eqb-true b 45 e)) (one_dash c [] f)
      go true e true f g = subst (λ x. Odd (x ∷ c ∷ [])) (sym (eqb-true b 45 e))
          (subst (λ x. Odd (45 ∷ x ∷ [])) (sym (eqb-true c 45 f)) dashes_only)
  odd (b ∷ c ∷ d ∷ ds) h = go (b == 45) refl (c == 45) refl h
    where
      go : (t : Bool) → (b == 45) ≡ t → (u : Bool) → (c == 45) ≡ u → cond t u true ≡ false → Odd (b ∷ c ∷ d ∷ ds)
      go false e u f g = absurd (true≢false g)
      go true e true f g = absurd (true≢false g)
      go true e false f g = subst (λ x. Odd (x ∷ c ∷ d ∷ ds)) (sym (eqb-true b 45 e)) (one_dash c (d ∷ ds) f)

  odd_word : (rows : List Row) (word : Text) (words : List Text) → Odd word
      → taken kinds rows None (word ∷ words) ≡ None
  odd_word rows word words o = go (has_equals word) refl
    where
      go : (b : Bool) → has_equals word ≡ b → taken kinds rows None (word ∷ words) ≡ None
      go true e = taken_whole kinds rows word words e ∙ no_option kinds rows words
          (before_first (λ b. b == 61) word) (after_first (λ b. b == 61) word) (o.whole e)
      go false e = taken_name kinds rows word words e ∙ no_waiting kinds rows words word o.name

  odd_value : (rows : List Row) (name word : Text) (words : List Text) → Odd word
      → taken kinds rows (Some name) (word ∷ words) ≡ None
  odd_value rows name word words o =
      let dash = o.dash in
      let two : in_two_words name word ≡ None = rw dash refl in
      taken_value kinds rows name word words ∙ ap (option_and_then (with_next kinds rows words)) two

  -- with an odd word among them, words are refused
  abbrev Refused : List Text → Type 0
  Refused words = ((rows : List Row) → taken kinds rows None words ≡ None)
      × ((rows : List Row) (name : Text) → taken kinds rows (Some name) words ≡ None)

  after_odd : (word : Text) (words : List Text) → Refused words → Refused (word ∷ words)
  after_odd word words rest = (
    λ rows. go rows (has_equals word) refl,
    λ rows name. taken_value kinds rows name
        word words ∙ bind-none (with_next kinds rows words) (in_two_words name word) (next rows),
  )
    where
      next : (rows : List Row) (given : Given) → with_next kinds rows words given ≡ None
      next rows given = bind-none (λ more. taken kinds more None words) (added kinds rows given) rest.0

      go : (rows : List Row) (b : Bool) → has_equals word ≡ b → taken kinds rows None (word ∷ words) ≡ None
      go rows true e = taken_whole kinds rows word words e ∙ bind-none (with_next kinds rows words)
          (in_one_word word) (next rows)
      go rows false e = taken_name kinds rows word words e ∙ rest.1 rows word

  refused_words : (words : List Text) → list_all is_plain words ≡ false → Refused words
  refused_words [] e = absurd (true≢false e)
  refused_words (word ∷ words) e = go (is_plain word) refl e (refused_words words)
    where
      go : (b : Bool) → is_plain word ≡ b → (b && list_all is_plain words) ≡ false
          → (list_all is_plain words ≡ false → Refused words) → Refused (word ∷ words)
      go false f g rest = (
        λ rows. odd_word rows word words (odd word f),
        λ rows name. odd_value rows name word
            words (odd word f),
      )
      go true f g rest = after_odd word words (rest g)

pub unread_where_odd : (once often words : List Text) → is_in [] once ≡ false → is_in [] often ≡ false
    → list_all is_plain words ≡ false
    → option_and_then (checked once often) (options_in words) ≡ None
unread_where_odd once often words a b odd =
    unread once often words ((refused_words (kinds_of once often) (no_empty_name once often a b) words odd).0 [])
