-- Options by name, and the rows that they leave.
use Rattle.std.proofs.Common.{◌≡◌, ◌∙◌, ℕ, ◌+◌, ◌≤◌, ◌&&◌, ◌||◌, Bool, cond, true, false, refl, sym, ap, ap₂, arith}
use Rattle.std.proofs.Common.{subst, List, [], ◌∷◌, ◌++◌, map, find, Option, Some, None, option_and_then, count_by}
use Rattle.std.proofs.Common.{true≢false, append-nil, append_assoc, nat_le, eqb-true, leb-true, ◌==◌}
use Rattle.std.specs.List.{list_all, list_any}
use Rattle.std.specs.Option.{option_map_or}
use Rattle.std.specs.Str.{bytes_eq}
use Rattle.std.proofs.lemmas.Bool.Decides.{nat_tests}
use Rattle.std.proofs.lemmas.List.Sums.{sum_by-cons}
use Rattle.std.proofs.lemmas.Option.{option_and_then_some}
use Rattle.std.proofs.lemmas.Slice.Eq.{bytes_eq-Decides}
use Rattle.clap.specs.Lexer.{strip_byte}
use Rattle.clap.specs.Walk.{Row, Text, has_row, stronger, with_values, without}
use Rattle.clap.specs.declared.builder.value_parser.Reading.{Reading}
use Rattle.clap.specs.declared.builder.value_parser.Reading.TheVariants.{AsWritten}
use Rattle.clap.specs.declared.parser.matches.ValueSource.{ValueSource}
use Rattle.clap.specs.declared.parser.matches.ValueSource.TheVariants.{CommandLine}
use Rattle.clap.proofs.WalkLemmas.{both}
use Rattle.cnb_words.specs.declared.options.Given.{Given}
use Rattle.cnb_words.specs.Options.{has_name, have_names, stand_once}
use Rattle.cnb_words.specs.Reading.{checked_for, dashed, is_in, kinds_of, texts_of, values_at}
use Rattle.cnb_words.proofs.WalkLemmas.{Kind, added, added_all, added_known, put, seek, seek_named, undashed}

-- ---- texts that are alike

same_both : (a b : Text) → bytes_eq a b ≡ bytes_eq b a
same_both a b = go (bytes_eq a b) refl (bytes_eq b a) refl
  where
    go : (s : Bool) → bytes_eq a b ≡ s → (t : Bool) → bytes_eq b a ≡ t → s ≡ t
    go true e true f = refl
    go false e false f = refl
    go true e false f = absurd (true≢false (sym ((bytes_eq-Decides b a).1 (sym ((bytes_eq-Decides a b).0 e))) ∙ f))
    go false e true f = absurd (true≢false (sym ((bytes_eq-Decides a b).1 (sym ((bytes_eq-Decides b a).0 f))) ∙ e))

alike : (a b : Text) → bytes_eq a b ≡ true → a ≡ b
alike a b = (bytes_eq-Decides a b).0

-- ---- the rows

abbrev if_same : Text → Text → List Text → List Text
if_same a b values = cond (bytes_eq a b) values []

or-idem : (a b : Bool) → (a || b) ≡ (a || (a || b))
or-idem true b = refl
or-idem false b = refl

or-swap : (a b c : Bool) → (a || (b || c)) ≡ (b || (a || c))
or-swap true true c = refl
or-swap true false c = refl
or-swap false b c = refl

or-false : (b : Bool) → (b || false) ≡ b
or-false true = refl
or-false false = refl

module _ (id : Text) (how : Reading) (source : ValueSource) (values : List Text) where
  has_row_with : (i : Text) (rows : List Row) → has_row i (with_values id how source values rows)
      ≡ (bytes_eq id i || has_row i rows)
  has_row_with i [] = refl
  has_row_with i (r ∷ rs) = go (bytes_eq r.id id) refl (has_row_with i rs)
    where
      go : (b : Bool) → bytes_eq r.id id ≡ b → has_row i (with_values id how source values rs)
          ≡ (bytes_eq id i || has_row i rs)
          → has_row i (cond b (record r { values = r.values ++ values; source = Some (stronger r.source source) }
          ∷ rs) (r ∷ with_values id how source values rs))
          ≡ (bytes_eq id i || (bytes_eq r.id i || has_row i rs))
      go true e rest = ap (λ x. bytes_eq x i || has_row i rs) (alike r.id id e)
          ∙ or-idem (bytes_eq id i) (has_row i rs) ∙ ap (λ x. bytes_eq id i || (bytes_eq x i || has_row i rs))
          (sym (alike r.id id e))
      go false e rest = ap (λ x. bytes_eq r.id i || x) rest ∙ or-swap (bytes_eq r.id i) (bytes_eq id i) (has_row i rs)

  values_at_with : (i : Text) (rows : List Row) → values_at i (with_values id how source values rows)
      ≡ values_at i rows ++ if_same id i values
  values_at_with i [] = go (bytes_eq id i)
    where
      go : (b : Bool) → option_map_or (λ (r : Row). r.values)
          (cond b (Some (record { id = id; values = values; count = None; source = Some source; reading = how }))
          None) [] ≡ [] ++ cond b values []
      go true = refl
      go false = refl
  values_at_with i (r ∷ rs) = go (bytes_eq r.id id) refl (values_at_with i rs)
    where
      same : (b : Bool) → option_map_or (λ (r : Row). r.values)
          (cond b (Some (record r { values = r.values ++ values; source = Some (stronger r.source source) }))
          (find (λ r. bytes_eq r.id i) rs)) []
          ≡ option_map_or (λ (r : Row). r.values) (cond b (Some r) (find (λ r. bytes_eq r.id i) rs)) []
          ++ cond b values []
      same true = refl
      same false = sym (append-nil (values_at i rs))

      other : (b : Bool) → bytes_eq r.id i ≡ b → bytes_eq r.id id ≡ false
          → values_at i (with_values id how source values rs) ≡ values_at i rs ++ if_same id i values
          → option_map_or (λ (r : Row). r.values) (cond b (Some r)
          (find (λ r. bytes_eq r.id i) (with_values id how source values rs))) []
          ≡ option_map_or (λ (r : Row). r.values) (cond b (Some r) (find (λ r. bytes_eq r.id i) rs)) []
          ++ if_same id i values
      other false e ne rest = rest
      other true e ne rest =
          let apart : bytes_eq id i ≡ false = ap (bytes_eq id) (sym (alike r.id i e)) ∙ same_both id r.id ∙ ne in
          rw apart (sym (append-nil r.values))

      go : (b : Bool) → bytes_eq r.id id ≡ b → values_at i (with_values id how source values rs) ≡ values_at i rs
          ++ if_same id i values
          → values_at i (cond b (record r {
            values = r.values ++ values;
            source = Some
                (stronger r.source source);
          } ∷ rs) (r ∷ with_values id how source values rs)) ≡ values_at i (r ∷ rs)
          ++ if_same id i values
      go true e rest = same (bytes_eq r.id i) ∙ ap (λ x. values_at i (r ∷ rs) ++ if_same x i values) (alike r.id id e)
      go false e rest = other (bytes_eq r.id i) refl e rest

without_none : (id : Text) (rows : List Row) → has_row id rows ≡ false → without id rows ≡ rows
without_none id [] none = refl
without_none id (r ∷ rs) none = go (bytes_eq r.id id) none (without_none id rs)
  where
    go : (b : Bool) → (b || has_row id rs) ≡ false → (has_row id rs ≡ false → without id rs ≡ rs)
        → cond b ([] ++ rs) (r ∷ without id rs) ≡ r ∷ rs
    go true e rest = absurd (true≢false e)
    go false e rest = ap (λ xs. r ∷ xs) (rest e)

-- the rows with an option more
record Adds (k : Kind) (value : Text) (rows more : List Row) : Type 0 where
  has : (i : Text) → has_row i more ≡ (bytes_eq k.1 i || has_row i rows)
  values : (i : Text) → values_at i more ≡ values_at i rows ++ if_same k.1 i (value ∷ [])
  new : k.0 ≡ false → has_row k.1 rows ≡ false

puts : (k : Kind) (value : Text) (rows more : List Row) → put k value rows ≡ Some more → Adds k value rows more
puts (true, name) value rows more e =
    let same : with_values name AsWritten CommandLine (value ∷ []) rows ≡ more = cc in
    subst (Adds (true, name) value rows) same (record {
      has = λ i. has_row_with name AsWritten CommandLine (value ∷ []) i rows;
      values = λ i. values_at_with name AsWritten CommandLine (value ∷ []) i rows;
      new = λ f. absurd (true≢false f);
    })
puts (false, name) value rows more e = go (has_row name rows) refl e
  where
    go : (b : Bool) → has_row name rows ≡ b → cond b None (Some
        (with_values name AsWritten CommandLine (value ∷ []) (without name rows))) ≡ Some more
        → Adds (false, name) value rows more
    go true t f = cc
    go false t f =
        let same : with_values name AsWritten CommandLine (value ∷ []) (without name rows) ≡ more = cc in
        let is : with_values name AsWritten CommandLine (value ∷ []) rows
        ≡ more = ap (with_values name AsWritten CommandLine (value ∷ [])) (sym (without_none name rows t))
        ∙ same in
        subst (Adds (false, name) value rows) is (record {
          has = λ i. has_row_with name AsWritten CommandLine (value ∷ []) i rows;
          values = λ i. values_at_with name AsWritten CommandLine (value ∷ []) i rows;
          new = λ _. t;
        })

puts_none : (k : Kind) (value : Text) (rows : List Row) → put k value rows ≡ None → (k.0 ≡ false)
    × (has_row k.1 rows ≡ true)
puts_none (true, name) value rows e = cc
puts_none (false, name) value rows e = go (has_row name rows) refl e
  where
    go : (b : Bool) → has_row name rows ≡ b → cond b None (Some
        (with_values name AsWritten CommandLine (value ∷ []) (without name rows))) ≡ None → (false ≡ false)
        × (has_row name rows ≡ true)
    go true t f = (refl, t)
    go false t f = cc

-- ---- names

undashed_is : (name n : Text) → undashed name ≡ Some n → name ≡ dashed n
undashed_is [] n e = cc
undashed_is (b ∷ []) n e = go (b == 45) e
  where
    go : (t : Bool) → option_and_then (strip_byte 45) (cond t (Some []) None) ≡ Some n → b ∷ [] ≡ dashed n
    go true f = cc
    go false f = cc
undashed_is (b ∷ c ∷ bs) n e = go (b == 45) refl (c == 45) refl e
  where
    go : (t : Bool) → (b == 45) ≡ t → (u : Bool) → (c == 45) ≡ u
        → option_and_then (strip_byte 45) (cond t (Some (c ∷ bs)) None) ≡ Some n → b ∷ c ∷ bs ≡ dashed n
    go false r u t f = cc
    go true r false t f = let g : None ≡ Some n = sym (rw t refl) ∙ f in cc
    go true r true t f =
        let g : Some bs ≡ Some n = sym (rw t refl) ∙ f in
        let h : bs ≡ n = cc in
        ap₂ (λ x y. x ∷ y ∷ bs) (eqb-true b 45 r) (eqb-true c 45 t) ∙ ap dashed h

dashed_in : (n : Text) (names : List Text) → list_any (bytes_eq (dashed n)) (map dashed names) ≡ is_in n names
dashed_in n [] = refl
dashed_in n (m ∷ names) = ap (λ b. bytes_eq n m || b) (dashed_in n names)

other_in : (name : Text) (names : List Text) → undashed name ≡ None
    → list_any (bytes_eq name) (map dashed names) ≡ false
other_in name [] none = refl
other_in name (m ∷ names) none = go (bytes_eq name (dashed m)) refl (other_in name names none)
  where
    go : (b : Bool) → bytes_eq name (dashed m) ≡ b → list_any (bytes_eq name) (map dashed names) ≡ false
        → (b || list_any (bytes_eq name) (map dashed names)) ≡ false
    go false e rest = rest
    go true e rest = let g : None ≡ Some m = sym none ∙ ap undashed (alike name (dashed m) e) in cc

seek_often : (often : List Text) (n : Text) → seek (map (λ name. (true, name)) often) n
    ≡ cond (is_in n often) (Some (true, n)) None
seek_often [] n = refl
seek_often (m ∷ often) n = go (bytes_eq m n) refl (same_both n m) (seek_often often n)
  where
    go : (b : Bool) → bytes_eq m n ≡ b → bytes_eq n m ≡ bytes_eq m n
        → seek (map (λ name. (true, name)) often) n ≡ cond (is_in n often) (Some (true, n)) None
        → cond b (Some (true, m)) (seek (map (λ name. (true, name)) often) n)
        ≡ cond (bytes_eq n m || is_in n often) (Some (true, n)) None
    go true e s rest = let t : bytes_eq n m ≡ true = s ∙ e in ap (λ x. Some (true, x)) (alike m n e) ∙ rw t refl
    go false e s rest = let t : bytes_eq n m ≡ false = s ∙ e in rest ∙ rw t refl

seek_is : (once often : List Text) (n : Text) → seek (kinds_of once often) n
    ≡ cond (is_in n once) (Some (false, n)) (cond (is_in n often) (Some (true, n)) None)
seek_is [] often n = seek_often often n
seek_is (m ∷ once) often n = go (bytes_eq m n) refl (same_both n m) (seek_is once often n)
  where
    go : (b : Bool) → bytes_eq m n ≡ b → bytes_eq n m ≡ bytes_eq m n
        → seek (kinds_of once often) n ≡ cond (is_in n once) (Some (false, n))
        (cond (is_in n often) (Some (true, n)) None)
        → cond b (Some (false, m)) (seek (kinds_of once often) n)
        ≡ cond (bytes_eq n m || is_in n once) (Some (false, n)) (cond (is_in n often) (Some (true, n)) None)
    go true e s rest = let t : bytes_eq n m ≡ true = s ∙ e in ap (λ x. Some (false, x)) (alike m n e) ∙ rw t refl
    go false e s rest = let t : bytes_eq n m ≡ false = s ∙ e in rest ∙ rw t refl

all_once : (p : Text → Bool) (names : List Text) → ((n : Text) → is_in n names ≡ true → p (dashed n) ≡ true)
    → list_all p (map dashed names) ≡ true
all_once p [] each = refl
all_once p (m ∷ names) each =
    let here : p (dashed m) ≡ true = each m (ap (λ b. b || is_in m names) ((bytes_eq-Decides m m).1 refl)) in
    let rest = all_once p names (λ n e. each n (or_right (bytes_eq n m) (is_in n names) e)) in
    rw here rest
  where
    or_right : (a b : Bool) → b ≡ true → (a || b) ≡ true
    or_right true b e = refl
    or_right false b e = e

each_once : (p : Text → Bool) (names : List Text) (n : Text) → list_all p (map dashed names) ≡ true
    → is_in n names ≡ true → p (dashed n) ≡ true
each_once p [] n all one = absurd (true≢false (sym one))
each_once p (m ∷ names) n all one =
    let parts = both (p (dashed m)) (list_all p (map dashed names)) all in
    go (bytes_eq n m) refl one parts.0 (each_once p names n parts.1)
  where
    go : (b : Bool) → bytes_eq n m ≡ b → (b || is_in n names) ≡ true → p (dashed m) ≡ true
        → (is_in n names ≡ true → p (dashed n) ≡ true) → p (dashed n) ≡ true
    go true e f here rest = ap (λ x. p (dashed x)) (alike n m e) ∙ here
    go false e f here rest = rest f

-- ---- options against rows

abbrev pub one_if : Bool → ℕ
one_if b = cond b 1 0

module _ (once often : List Text) where
  abbrev pub kinds : List Kind
  kinds = kinds_of once often

  abbrev pub known_names : List Given → Bool
  known_names = have_names (map dashed once) (map dashed often)

  -- how often an option stands among the rows and behind them
  abbrev pub standing : Text → List Given → List Row → ℕ
  standing n gs rows = count_by (has_name (dashed n)) gs + one_if (has_row n rows)

  named : (n : Text) (k : Kind) → seek kinds n ≡ Some k →
      (list_any (bytes_eq (dashed n)) (map dashed once) || list_any (bytes_eq (dashed n)) (map dashed often))
      ≡ true
  named n k e = rw (dashed_in n once, dashed_in n often)
      (go (is_in n once) (is_in n often) (sym (seek_is once often n) ∙ e))
    where
      go : (a b : Bool) → cond a (Some (false, n)) (cond b (Some (true, n)) None) ≡ Some k → (a || b) ≡ true
      go true b f = refl
      go false true f = refl
      go false false f = cc

  unnamed : (n : Text) → seek kinds n ≡ None → (list_any (bytes_eq (dashed n)) (map dashed once)
      || list_any (bytes_eq (dashed n)) (map dashed often)) ≡ false
  unnamed n e = rw (dashed_in n once, dashed_in n often)
      (go (is_in n once) (is_in n often) (sym (seek_is once often n) ∙ e))
    where
      go : (a b : Bool) → cond {A = Option Kind} a (Some (false, n)) (cond b (Some (true, n)) None) ≡ None
          → (a || b) ≡ false
      go true b f = cc
      go false true f = cc
      go false false f = refl

  -- an option of the first names is one of those that stand once
  once_kind : (n : Text) (k : Kind) → seek kinds n ≡ Some k → is_in n once ≡ true → k.0 ≡ false
  once_kind n k e one =
      let f : Some (false, n) ≡ Some k = sym (rw one refl) ∙ sym (seek_is once often n) ∙ e in
      let g : (false, n) ≡ k = cc in
      ap (λ (x : Kind). x.0) (sym g)

  kind_once : (n : Text) (k : Kind) → seek kinds n ≡ Some k → k.0 ≡ false → is_in n once ≡ true
  kind_once n k e single = go (is_in n once) (is_in n often) (sym (seek_is once often n) ∙ e)
    where
      go : (a b : Bool) → cond a (Some (false, n)) (cond b (Some (true, n)) None) ≡ Some k → a ≡ true
      go true b f = refl
      go false true f =
          let g : (true, n) ≡ k = cc in
          absurd (true≢false (ap (λ (x : Kind). x.0) g ∙ single))
      go false false f = cc

  -- the options fit behind the rows, and leave these ends
  pub record Fits (gs : List Given) (rows end : List Row) : Type 0 where
    pub known : known_names gs ≡ true
    pub single : (n : Text) → is_in n once ≡ true → standing n gs rows ≤ 1
    pub values : (i : Text) → values_at i end ≡ values_at i rows ++ texts_of (dashed i) gs

  one-le : (b : Bool) → 0 + one_if b ≤ 1
  one-le true = omega arith
  one-le false = omega arith

  fits_none : (rows : List Row) → Fits [] rows rows
  fits_none rows = record {
    known = refl;
    single = λ n one. one-le (has_row n rows);
    values = λ i. sym (append-nil (values_at i rows));
  }

  count_more : (name : Text) (g : Given) (gs : List Given)
      → count_by (has_name name) (g ∷ gs) ≡ one_if (bytes_eq g.name name) + count_by (has_name name) gs
  count_more name g gs = sum_by-cons (λ x. cond (has_name name x) 1 0) g gs

  module _ (g : Given) (gs : List Given) (rows more : List Row) (n : Text) (k : Kind) (is : g.name ≡ dashed n)
      (known : seek kinds n ≡ Some k) where
    same_test : (i : Text) → bytes_eq g.name (dashed i) ≡ bytes_eq n i
    same_test i = ap (λ x. bytes_eq x (dashed i)) is

    known_more : known_names gs ≡ true → known_names (g ∷ gs) ≡ true
    known_more rest =
        let here : (list_any (bytes_eq g.name) (map dashed once) || list_any (bytes_eq g.name) (map dashed often))
        ≡ true =
        ap (λ x. list_any (bytes_eq x) (map dashed once) || list_any (bytes_eq x) (map dashed often)) is
        ∙ named n k known in
        rw here rest

    -- an option more counts once, among the rows or behind them
    standing_same : (i : Text) → is_in i once ≡ true → Adds k g.value rows more
        → standing i (g ∷ gs) rows ≡ standing i gs more
    standing_same i one adds =
        let counts : standing i (g ∷ gs) rows ≡ (one_if (bytes_eq n i) + count_by (has_name (dashed i)) gs) +
        one_if (has_row i rows) =
        ap (λ c. c + one_if (has_row i rows)) (count_more (dashed i) g gs
        ∙ ap (λ b. one_if b + count_by (has_name (dashed i)) gs) (same_test i)) in
        let here : has_row i more ≡ (bytes_eq n i || has_row i rows) = adds.has i
        ∙ ap (λ x. bytes_eq x i || has_row i rows) (seek_named kinds n k known) in
        counts ∙ go (bytes_eq n i) refl ∙ ap (λ b. count_by (has_name (dashed i)) gs + one_if b) (sym here)
      where
        go : (b : Bool) → bytes_eq n i ≡ b → (one_if b + count_by (has_name (dashed i)) gs) + one_if
            (has_row i rows) ≡ count_by (has_name (dashed i)) gs + one_if (b || has_row i rows)
        go false e = omega arith
        go true e =
            let is_i : n ≡ i = alike n i e in
            let once_n : is_in n once ≡ true = ap (λ x. is_in x once) is_i ∙ one in
            let none : has_row i rows ≡ false = ap (λ x. has_row x rows) (sym (seek_named kinds n k known ∙ is_i))
            ∙ adds.new (once_kind n k known once_n) in
            rw none (omega arith)

    values_more : (i : Text) → Adds k g.value rows more → values_at i more ++ texts_of (dashed i) gs
        ≡ values_at i rows ++ texts_of (dashed i) (g ∷ gs)
    values_more i adds =
        ap (λ xs. xs ++ texts_of (dashed i) gs) (adds.values i ∙ ap
        (λ x. values_at i rows ++ if_same x i (g.value ∷ [])) (seek_named kinds n k known))
        ∙ append_assoc (values_at i rows) (if_same n i (g.value ∷ [])) (texts_of (dashed i) gs)
        ∙ ap (λ xs. values_at i rows ++ xs) (go (bytes_eq n i) ∙ ap
        (λ b. cond b (g.value ∷ texts_of (dashed i) gs) (texts_of (dashed i) gs)) (sym (same_test i)))
      where
        go : (b : Bool) → cond b (g.value ∷ []) [] ++ texts_of (dashed i) gs
            ≡ cond b (g.value ∷ texts_of (dashed i) gs) (texts_of (dashed i) gs)
        go true = refl
        go false = refl

    fits_more : (end : List Row) → put k g.value rows ≡ Some more → Fits gs more end → Fits (g ∷ gs) rows end
    fits_more end putting rest =
        let adds = puts k g.value rows more putting in
        record {
          known = known_more rest.known;
          single = λ i one. subst (λ x. x ≤ 1) (sym (standing_same i one adds)) (rest.single i one);
          values = λ i. rest.values i ∙ values_more i adds;
        }

  known_some : (o : Option Kind) (value : Text) (rows more : List Row) → added_known o value rows ≡ Some more
      → (k : Kind) × (o ≡ Some k) × (put k value rows ≡ Some more)
  known_some None value rows more e = cc
  known_some (Some k) value rows more e = (k, refl, e)

  pub fits : (gs : List Given) (rows end : List Row) → added_all kinds rows gs ≡ Some end → Fits gs rows end
  fits [] rows end e = let same : rows ≡ end = cc in subst (Fits [] rows) same (fits_none rows)
  fits (g ∷ gs) rows end e =
      option_and_then_some (λ more. added_all kinds more gs) (added kinds rows g) end e (λ more here rest.
      option_and_then_some (λ name. added_known (seek kinds name) g.value rows) (undashed g.name) more here
      (λ n dash known.
      let k = known_some (seek kinds n) g.value rows more known in
      fits_more g gs rows more n k.0 (undashed_is g.name n dash) k.1 end k.2 (fits gs more end rest)))

  -- options that are added nowhere don't fit
  pub refused : (gs : List Given) (rows : List Row) → added_all kinds rows gs ≡ None → known_names gs ≡ true
      → ((n : Text) → is_in n once ≡ true → standing n gs rows ≤ 1) → ⊥
  refused [] rows e known single = cc
  refused (g ∷ gs) rows e known single =
      let parts = both (list_any (bytes_eq g.name) (map dashed once)
      || list_any (bytes_eq g.name) (map dashed often)) (known_names gs) known in
      at_name (undashed g.name) refl parts.0 (λ more f s. refused gs more f parts.1 s)
    where
      at_put : (n : Text) → undashed g.name ≡ Some n → (k : Kind) → seek kinds n ≡ Some k
          → (o : Option (List Row)) → put k g.value rows ≡ o
          → ((more : List Row) → added_all kinds more gs ≡ None →
          ((i : Text) → is_in i once ≡ true → standing i gs more ≤ 1) → ⊥) → ⊥
      at_put n u k s None p rest =
          let why = puts_none k g.value rows p in
          let here : is_in n once ≡ true = kind_once n k s why.0 in
          let has : has_row n rows ≡ true = ap (λ x. has_row x rows) (sym (seek_named kinds n k s)) ∙ why.1 in
          let same : bytes_eq g.name (dashed n) ≡ true = ap (λ x. bytes_eq x (dashed n)) (undashed_is g.name n u)
          ∙ (bytes_eq-Decides n n).1 refl in
          let counts : standing n (g ∷ gs) rows ≡ (1 + count_by (has_name (dashed n)) gs) + 1 =
          ap₂ (λ c b. c + one_if b) (count_more (dashed n) g gs ∙ ap
          (λ b. one_if b + count_by (has_name (dashed n)) gs) same) has in
          let most : standing n (g ∷ gs) rows ≤ 1 = single n here in
          absurd (omega arith)
      at_put n u k s (Some more) p rest =
          let step : added_all kinds rows (g ∷ gs) ≡ added_all kinds more gs = rw (u, s, p) refl in
          rest more (sym step ∙ e) (λ i one. subst (λ x. x ≤ 1)
          (standing_same g gs rows more n k (undashed_is g.name n u) s i one (puts k g.value rows more p))
          (single i one))

      at_kind : (n : Text) → undashed g.name ≡ Some n → (o : Option Kind) → seek kinds n ≡ o
          → (list_any (bytes_eq g.name) (map dashed once) || list_any (bytes_eq g.name) (map dashed often)) ≡ true
          → ((more : List Row) → added_all kinds more gs ≡ None →
          ((i : Text) → is_in i once ≡ true → standing i gs more ≤ 1) → ⊥) → ⊥
      at_kind n u None s here rest =
          true≢false (sym here ∙ ap (λ x. list_any (bytes_eq x) (map dashed once)
          || list_any (bytes_eq x) (map dashed often)) (undashed_is g.name n u) ∙ unnamed n s)
      at_kind n u (Some k) s here rest = at_put n u k s (put k g.value rows) refl rest

      at_name : (o : Option Text) → undashed g.name ≡ o
          → (list_any (bytes_eq g.name) (map dashed once) || list_any (bytes_eq g.name) (map dashed often)) ≡ true
          → ((more : List Row) → added_all kinds more gs ≡ None →
          ((i : Text) → is_in i once ≡ true → standing i gs more ≤ 1) → ⊥) → ⊥
      at_name None u here rest = true≢false (sym here ∙ ap₂ (λ a b. a || b) (other_in g.name once u)
          (other_in g.name often u))
      at_name (Some n) u here rest = at_kind n u (seek kinds n) refl here rest

  -- no name is empty
  pub no_empty_name : is_in [] once ≡ false → is_in [] often ≡ false → seek kinds [] ≡ None
  no_empty_name a b = seek_is once often [] ∙ rw (a, b) refl

  -- ---- what options are checked for

  abbrev pub checked : List Given → Option (Unit {0})
  checked = checked_for once often

  stands_once : List Given → Bool
  stands_once = stand_once (map dashed once)

  pub fits_checked : (gs : List Given) (end : List Row) → Fits gs [] end → checked gs ≡ Some tt
  fits_checked gs end fit =
      let known = fit.known in
      let single : stand_once (map dashed once) gs ≡ true = all_once
      (λ name. nat_le (count_by (has_name name) gs) 1) once (λ n one.
      let most : standing n gs [] ≤ 1 = fit.single n one in
      let few : count_by (has_name (dashed n)) gs ≤ 1 = omega arith in
      grind (arith, nat_tests)) in
      rw (known, single) refl

  pub unfit_checked : (gs : List Given) → added_all kinds [] gs ≡ None → checked gs ≡ None
  unfit_checked gs none = go (known_names gs) refl (stand_once (map dashed once) gs) refl
    where
      go : (a : Bool) → known_names gs ≡ a → (b : Bool) → stand_once (map dashed once) gs ≡ b
          → cond {A = Option (Unit {0})} (a && b) (Some tt) None ≡ None
      go false e b f = refl
      go true e false f = refl
      go true e true f = absurd (refused gs [] none e (λ n one.
          let test : nat_le (count_by (has_name (dashed n)) gs) 1
          ≡ true = each_once (λ name. nat_le (count_by (has_name name) gs) 1) once n f one in
          let few : count_by (has_name (dashed n)) gs ≤ 1 = leb-true _ _ test in
          omega arith))
