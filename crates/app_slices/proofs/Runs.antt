-- Matching run by run is matching.
use Rattle.std.proofs.Common.{◌≡◌, ◌<◌, ◌+◌, ◌⊎◌, ℕ, zero, suc, Bool, true, false, not, ◌&&◌, ◌==◌, ◌++◌, List, [], ◌∷◌}
use Rattle.std.proofs.Common.{Option, None, Some, refl, sym, ap, ◌∙◌, inl, inr, arith, append_assoc, take, drop, length}
use Rattle.std.proofs.Common.{slice_get, length-append}
use Rattle.std.specs.Prelude.{◌||◌, if◌then◌else◌}
use Rattle.std.specs.List.{list_all}
use Rattle.std.proofs.lemmas.Bool.{false≢true, and_parts, and_from, eqb-true, eq-eqb, ne_eqb}
use Rattle.std.proofs.lemmas.List.Folds.{list_all-append}
use Rattle.app_slices.specs.declared.item.Item.{Item}
use Rattle.app_slices.specs.declared.item.Item.TheVariants.{Star, One, Class, Just}
use Rattle.app_slices.specs.Items.{takes, IsOne, Matches}
use Rattle.app_slices.specs.Matching.{is_star, is_run, behind_run, or_later, behind_first, is_end, ends_with, somewhere}
use Rattle.app_slices.specs.Matching.{next, matched}

-- ---- small facts

some_same : {A : Type 0} (x y : A) → Some x ≡ Some y → x ≡ y
some_same x y e = cc

no_some : {A : Type 0} {P : Type 0} (x : A) → None ≡ Some x → P
no_some x e = absurd (cc)

if_some : {A : Type 0} (b : Bool) (o : Option A) (x : A) → (if b then o else None) ≡ Some x → (b ≡ true) × (o ≡ Some x)
if_some true o x e = (refl, e)
if_some false o x e = no_some x e

or_absorbs : (a b : Bool) → (b ≡ true → a ≡ true) → (a || b) ≡ a
or_absorbs true b h = refl
or_absorbs false true h = absurd (false≢true (h refl))
or_absorbs false false h = refl

or_true : (a b : Bool) → (a || b) ≡ true → (a ≡ true) ⊎ (b ≡ true)
or_true true b h = inl refl
or_true false b h = inr h

or_right : (a b : Bool) → b ≡ true → (a || b) ≡ true
or_right true b h = refl
or_right false b h = h

-- ---- parts without a slash

abbrev plain : List ℕ → Bool
plain part = list_all (takes Star) part

-- an item that takes one character other than a slash takes no slash
one_kind : (item : Item) (a b : ℕ) → takes item a ≡ true → takes item b ≡ true → takes Star a ≡ true
    → takes Star b ≡ true
one_kind Star a b ta tb pa = tb
one_kind One a b ta tb pa = tb
one_kind (Class negated ranges) a b ta tb pa = (and_parts _ _ tb).0
one_kind (Just only) a b ta tb pa = ap (λ c. not (c == 47)) (eqb-true b only tb ∙ sym (eqb-true a only ta)) ∙ pa

-- Where a run stands at the beginning and again behind a part without a slash, what it leaves is a part without a slash
-- and what it leaves behind that.
shift : (run : List Item) (part rest ys zs : List ℕ) → plain part ≡ true → behind_run run (part ++ rest) ≡ Some ys
    → behind_run run rest ≡ Some zs
    → (mid : List ℕ) × (ys ≡ mid ++ zs) × (plain mid ≡ true)
shift [] part rest ys zs p a b = (part, sym (some_same _ _ a) ∙ ap (λ r. part ++ r) (some_same _ _ b), p)
shift (item ∷ run) [] rest ys zs p a b = ([], some_same _ _ (sym a ∙ b), refl)
shift (item ∷ run) (c ∷ part) [] ys zs p a b = no_some zs b
shift (item ∷ run) (c ∷ part) (r ∷ rest) ys zs p a b =
    let at = if_some (takes item c) (behind_run run (part ++ r ∷ rest)) ys a in
    let bt = if_some (takes item r) (behind_run run rest) zs b in
    let parts = and_parts (takes Star c) (plain part) p in
    let more : plain (part ++ r ∷ []) ≡ true =
    list_all-append (takes Star) part (r ∷ []) ∙ and_from (plain part) (plain (r ∷ [])) parts.1
    (and_from (takes Star r) true (one_kind item c r at.0 bt.0 parts.0) refl) in
    shift run (part ++ r ∷ []) rest ys zs more (ap (behind_run run) (append_assoc part (r ∷ []) rest) ∙ at.1) bt.1

-- ---- some place before the next slash

found : (test : List ℕ → Bool) (text : List ℕ) → somewhere test text ≡ true → (part : List ℕ) × (rest : List ℕ)
    × (text ≡ part ++ rest) × (plain part ≡ true) × (test rest ≡ true)
found test [] h = ([], [], refl, refl, h)
found test (c ∷ cs) h = elim (or_true (test (c ∷ cs)) (not (c == 47) && somewhere test cs) h) [
  | inl t ↦ ([], c ∷ cs, refl, refl, t)
  | inr t ↦
      let parts = and_parts (not (c == 47)) (somewhere test cs) t in
      let more = found test cs parts.1 in
      (c ∷ more.0, more.1, ap (λ r. c ∷ r) more.2, and_from (takes Star c) (plain more.0) parts.0 more.3, more.4)
]

here : (test : List ℕ → Bool) (text : List ℕ) → test text ≡ true → somewhere test text ≡ true
here test [] h = h
here test (c ∷ cs) h = ap (λ b. b || (not (c == 47) && somewhere test cs)) h

later : (test : List ℕ → Bool) (part rest : List ℕ) → plain part ≡ true → somewhere test rest ≡ true
    → somewhere test (part ++ rest) ≡ true
later test [] rest p h = h
later test (c ∷ part) rest p h =
    let parts = and_parts (takes Star c) (plain part) p in
    or_right (test (c ∷ (part ++ rest))) (not (c == 47) && somewhere test (part ++ rest))
    (and_from (not (c == 47)) (somewhere test (part ++ rest)) parts.0 (later test part rest parts.1 h))

-- ---- a run and what is behind it

abbrev pub after : (List ℕ → Bool) → Option (List ℕ) → Bool
after test None = false
after test (Some rest) = test rest

after_true : (test : List ℕ → Bool) (o : Option (List ℕ)) → after test o ≡ true → (rest : List ℕ)
    × (o ≡ Some rest) × (test rest ≡ true)
after_true test None h = absurd (false≢true h)
after_true test (Some rest) h = (rest, refl, h)

and_after : (test : List ℕ → Bool) (b x : Bool) (o : Option (List ℕ)) → x ≡ after test o
    → (b && x) ≡ after test (if b then o else None)
and_after test true x o e = e
and_after test false x o e = refl

and_end : (b x : Bool) (o : Option (List ℕ)) → x ≡ is_end o → (b && x) ≡ is_end (if b then o else None)
and_end true x o e = e
and_end false x o e = refl

run_then : (run more : List Item) (text : List ℕ) → is_run run ≡ true
    → matched (run ++ Star ∷ more) text ≡ after (somewhere (matched more)) (behind_run run text)
run_then [] more text h = refl
run_then (Star ∷ run) more text h = absurd (false≢true h)
run_then (One ∷ run) more [] h = refl
run_then (One ∷ run) more (c ∷ cs) h = and_after (somewhere (matched more)) (takes One c)
    (matched (run ++ Star ∷ more) cs) (behind_run run cs) (run_then run more cs h)
run_then (Class negated ranges ∷ run) more [] h = refl
run_then (Class negated ranges ∷ run) more (c ∷ cs) h = and_after (somewhere (matched more))
    (takes (Class negated ranges) c) (matched (run ++ Star ∷ more) cs) (behind_run run cs)
    (run_then run more cs h)
run_then (Just only ∷ run) more [] h = refl
run_then (Just only ∷ run) more (c ∷ cs) h = and_after (somewhere (matched more)) (takes (Just only) c)
    (matched (run ++ Star ∷ more) cs) (behind_run run cs) (run_then run more cs h)

run_whole : (run : List Item) (text : List ℕ) → is_run run ≡ true → matched run text ≡ is_end (behind_run run text)
run_whole [] [] h = refl
run_whole [] (c ∷ cs) h = refl
run_whole (Star ∷ run) text h = absurd (false≢true h)
run_whole (One ∷ run) [] h = refl
run_whole (One ∷ run) (c ∷ cs) h = and_end (takes One c) (matched run cs) (behind_run run cs) (run_whole run cs h)
run_whole (Class negated ranges ∷ run) [] h = refl
run_whole (Class negated ranges ∷ run) (c ∷ cs) h = and_end (takes (Class negated ranges) c) (matched run cs)
    (behind_run run cs) (run_whole run cs h)
run_whole (Just only ∷ run) [] h = refl
run_whole (Just only ∷ run) (c ∷ cs) h = and_end (takes (Just only) c) (matched run cs) (behind_run run cs)
    (run_whole run cs h)

-- The first place serves: where the run stands there and again later, and what is behind the later place matches, then
-- it does behind the first one, since the star takes what is between.
first_serves : (run more : List Item) (c : ℕ) (cs ys : List ℕ) → is_run run ≡ true → behind_run run (c ∷ cs) ≡ Some ys
    → (not (c == 47) && somewhere (matched (run ++ Star ∷ more)) cs) ≡ true → somewhere (matched more) ys ≡ true
first_serves run more c cs ys h at t =
    let test = matched more in
    let parts = and_parts (not (c == 47)) (somewhere (matched (run ++ Star ∷ more)) cs) t in
    let again = found (matched (run ++ Star ∷ more)) cs parts.1 in
    let behind = after_true (somewhere test) (behind_run run again.1) (sym (run_then run more again.1 h) ∙ again.4) in
    let moved = shift run (c ∷ again.0) again.1 ys behind.0 (and_from (takes Star c) (plain again.0) parts.0 again.3)
    (ap (λ r. behind_run run (c ∷ r)) (sym again.2) ∙ at) behind.1 in
    ap (somewhere test) moved.1 ∙ later test moved.0 behind.0 moved.2 behind.2

first_by : (run more : List Item) (c : ℕ) (cs : List ℕ) (o : Option (List ℕ)) → is_run run ≡ true
    → behind_run run (c ∷ cs) ≡ o
    → somewhere (matched (run ++ Star ∷ more)) cs ≡ after (somewhere (matched more)) (behind_first run cs)
    → somewhere (matched (run ++ Star ∷ more)) (c ∷ cs) ≡ after (somewhere (matched more))
    (or_later o (if c == 47 then None else behind_first run cs))
first_by run more c cs None h at ih =
    ap (λ b. b || (not (c == 47) && somewhere (matched (run ++ Star ∷ more)) cs))
    (run_then run more (c ∷ cs) h ∙ ap (after (somewhere (matched more))) at)
    ∙ past (c == 47) ih
  where
    past : (b : Bool) → somewhere (matched (run ++ Star ∷ more)) cs
        ≡ after (somewhere (matched more)) (behind_first run cs)
        → (not b && somewhere (matched (run ++ Star ∷ more)) cs)
        ≡ after (somewhere (matched more)) (if b then None else behind_first run cs)
    past true e = refl
    past false e = e
first_by run more c cs (Some ys) h at ih =
    let test = somewhere (matched more) in
    let first : matched (run ++ Star ∷ more) (c ∷ cs) ≡ test ys = run_then run more (c ∷ cs) h ∙ ap (after test) at in
    ap (λ b. b || (not (c == 47) && somewhere (matched (run ++ Star ∷ more)) cs)) first
    ∙ or_absorbs (test ys) (not (c == 47) && somewhere (matched (run ++ Star ∷ more)) cs)
    (first_serves run more c cs ys h at)

first_then : (run more : List Item) (text : List ℕ) → is_run run ≡ true
    → somewhere (matched (run ++ Star ∷ more)) text ≡ after (somewhere (matched more)) (behind_first run text)
first_then run more [] h = run_then run more [] h
first_then run more (c ∷ cs) h = first_by run more c cs (behind_run run (c ∷ cs)) h refl (first_then run more cs h)

whole_then : (run : List Item) (text : List ℕ) → is_run run ≡ true → somewhere (matched run) text ≡ ends_with run text
whole_then run [] h = run_whole run [] h
whole_then run (c ∷ cs) h = λ i. run_whole run (c ∷ cs) h i || (not (c == 47) && whole_then run cs h i)

-- ---- cut at the first star

-- the place of a star, and what is behind it
pub cut_at_star : (items : List Item) (star : ℕ) (item : Item) (more : List Item) → drop star items ≡ item ∷ more
    → (star < length items → slice_get items star ≡ Some Star)
    → items ≡ take star items ++ Star ∷ more
cut_at_star [] zero item more e h = absurd (cc)
cut_at_star [] (suc star) item more e h = absurd (cc)
cut_at_star (first ∷ items) zero item more e h =
    let lt : zero < length (first ∷ items) = omega arith in
    let star : first ≡ Star = some_same first Star (h lt) in
    let rest : items ≡ more = cc in
    λ i. star i ∷ rest i
cut_at_star (first ∷ items) (suc star) item more e h =
    ap (λ xs. first ∷ xs) (cut_at_star items star item more e
    (λ lt. let more : suc star < length (first ∷ items) = omega arith in h more))

-- the same where the items were cut in two there
pub cut_in_two : (items front back more : List Item) (star : ℕ) → front ≡ take star items → back ≡ drop star items
    → 0 < length back → more ≡ drop 1 back → (star < length items → slice_get items star ≡ Some Star)
    → items ≡ front ++ Star ∷ more
cut_in_two items front [] more star f b some m h = absurd
    (let none : length {A = Item} [] ≡ 0 = refl in omega (arith, some, none))
cut_in_two items front (item ∷ back) more star f b some m h =
    cut_at_star items star item back (sym b) h ∙ (λ i. sym f i ++ Star ∷ sym m i)

pub behind_shorter : (items front more : List Item) → items ≡ front ++ Star ∷ more → length more < length items
behind_shorter items front more e =
    let n : length items ≡ length front + length (Star ∷ more) = ap length e ∙ length-append front (Star ∷ more) in
    let m : length (Star ∷ more) ≡ suc (length more) = refl in
    omega (arith, n, m)

pub no_star_left : (items : List Item) (star : ℕ) → drop star items ≡ [] → is_run (take star items) ≡ true
    → is_run items ≡ true
no_star_left [] star e h = refl
no_star_left (item ∷ items) zero e h = absurd (cc)
no_star_left (item ∷ items) (suc star) e h =
    let parts = and_parts (not (is_star item)) (is_run (take star items)) h in
    and_from (not (is_star item)) (is_run items) parts.0 (no_star_left items star e parts.1)

pub ruleset next_star = (cut_in_two, behind_shorter, no_star_left)

pub run_went : (items run more : List Item) (text rest : List ℕ) → items ≡ run ++ Star ∷ more → is_run run ≡ true
    → behind_run run text ≡ Some rest → matched items text ≡ somewhere (matched more) rest
run_went items run more text rest e h at = ap (λ xs. matched xs text) e ∙ run_then run more text h
    ∙ ap (after (somewhere (matched more))) at

pub run_lost : (items run more : List Item) (text : List ℕ) → items ≡ run ++ Star ∷ more → is_run run ≡ true
    → behind_run run text ≡ None → matched items text ≡ false
run_lost items run more text e h at = ap (λ xs. matched xs text) e ∙ run_then run more text h
    ∙ ap (after (somewhere (matched more))) at

pub run_only : (items : List Item) (text : List ℕ) → is_run items ≡ true
    → matched items text ≡ is_end (behind_run items text)
run_only items text h = run_whole items text h

pub ruleset at_the_beginning = (run_went, run_lost, run_only)

pub first_went : (items run more : List Item) (text rest : List ℕ) → items ≡ run ++ Star ∷ more
    → is_run run ≡ true → behind_first run text ≡ Some rest
    → somewhere (matched items) text ≡ somewhere (matched more) rest
first_went items run more text rest e h at = ap (λ xs. somewhere (matched xs) text) e ∙ first_then run more text h
    ∙ ap (after (somewhere (matched more))) at

pub first_lost : (items run more : List Item) (text : List ℕ) → items ≡ run ++ Star ∷ more → is_run run ≡ true
    → behind_first run text ≡ None → somewhere (matched items) text ≡ false
first_lost items run more text e h at = ap (λ xs. somewhere (matched xs) text) e ∙ first_then run more text h
    ∙ ap (after (somewhere (matched more))) at

pub first_only : (items : List Item) (text : List ℕ) → is_run items ≡ true
    → somewhere (matched items) text ≡ ends_with items text
first_only items text h = whole_then items text h

pub ruleset behind_a_star = (first_went, first_lost, first_only)

-- ---- the relation

one_part : (item : Item) (items : List Item) (c : ℕ) (cs : List ℕ) → takes item c ≡ true → Matches items cs
    → (part : List ℕ) × (rest : List ℕ) × (c ∷ cs ≡ part ++ rest) × IsOne item part × Matches items rest
one_part item items c cs t m = (c ∷ [], cs, refl, (c, refl, t), m)

pub matched_is : (items : List Item) (text : List ℕ) → matched items text ≡ true → Matches items text
matched_is [] [] h = refl
matched_is [] (c ∷ cs) h = absurd (false≢true h)
matched_is (Star ∷ items) text h = let f = found (matched items) text h
    in (f.0, f.1, f.2, f.3, matched_is items f.1 f.4)
matched_is (One ∷ items) [] h = absurd (false≢true h)
matched_is (One ∷ items) (c ∷ cs) h = let p = and_parts (takes One c) (matched items cs) h
    in one_part One items c cs p.0 (matched_is items cs p.1)
matched_is (Class negated ranges ∷ items) [] h = absurd (false≢true h)
matched_is (Class negated ranges ∷ items) (c ∷ cs) h = let p = and_parts (takes (Class negated ranges) c)
    (matched items cs) h in one_part (Class negated ranges) items c cs p.0 (matched_is items cs p.1)
matched_is (Just only ∷ items) [] h = absurd (false≢true h)
matched_is (Just only ∷ items) (c ∷ cs) h = let p = and_parts (takes (Just only) c) (matched items cs) h
    in one_part (Just only) items c cs p.0 (matched_is items cs p.1)

one_taken : (item : Item) (test : List ℕ → Bool) (text part rest : List ℕ) → text ≡ part ++ rest → IsOne item part
    → test rest ≡ true → next item test text ≡ true
one_taken item test text part rest e (c, is, t) h =
    ap (next item test) (e ∙ ap (λ p. p ++ rest) is) ∙ and_from (takes item c) (test rest) t h

pub is_matched : (items : List Item) (text : List ℕ) → Matches items text → matched items text ≡ true
is_matched [] text e = ap (matched []) e
is_matched (Star ∷ items) text (part, rest, e, p, m) = ap (somewhere (matched items)) e
    ∙ later (matched items) part rest p (here (matched items) rest (is_matched items rest m))
is_matched (One ∷ items) text (part, rest, e, o, m) = one_taken One (matched items) text part rest e o
    (is_matched items rest m)
is_matched (Class negated ranges ∷ items) text (part, rest, e, o, m) = one_taken (Class negated ranges)
    (matched items) text part rest e o (is_matched items rest m)
is_matched (Just only ∷ items) text (part, rest, e, o, m) = one_taken (Just only)
    (matched items) text part rest e o (is_matched items rest m)

-- ---- one place after another

pub ends_here : (run : List Item) (text : List ℕ) → is_end (behind_run run text) ≡ true → ends_with run text ≡ true
ends_here run [] h = h
ends_here run (c ∷ cs) h = ap (λ b. b || (not (c == 47) && ends_with run cs)) h

pub ends_past : (run : List Item) (text cs : List ℕ) (c : ℕ) → text ≡ c ∷ cs
    → is_end (behind_run run text) ≡ false → (c ≡ 47 → ⊥) → ends_with run text ≡ ends_with run cs
ends_past run text cs c e h other =
    ap (ends_with run) e
    ∙ (λ i. (sym (ap (λ t. is_end (behind_run run t)) e) ∙ h) i || (not (ne_eqb c 47 other i) && ends_with run cs))

pub ends_nowhere : (run : List Item) (text : List ℕ) → text ≡ [] → is_end (behind_run run text) ≡ false
    → ends_with run text ≡ false
ends_nowhere run text e h = ap (ends_with run) e ∙ sym (ap (λ t. is_end (behind_run run t)) e) ∙ h

pub ends_at_slash : (run : List Item) (text cs : List ℕ) (c : ℕ) → text ≡ c ∷ cs
    → is_end (behind_run run text) ≡ false → c ≡ 47 → ends_with run text ≡ false
ends_at_slash run text cs c e h slash =
    ap (ends_with run) e
    ∙ (λ i. (sym (ap (λ t. is_end (behind_run run t)) e) ∙ h) i || (not (eq-eqb c 47 slash i) && ends_with run cs))

pub ruleset at_the_end = (ends_here, ends_past, ends_nowhere, ends_at_slash)

pub first_here : (run : List Item) (text rest : List ℕ) → behind_run run text ≡ Some rest
    → behind_first run text ≡ Some rest
first_here run [] rest h = h
first_here run (c ∷ cs) rest h = ap (λ o. or_later o (if c == 47 then None else behind_first run cs)) h

pub first_past : (run : List Item) (text cs : List ℕ) (c : ℕ) → text ≡ c ∷ cs → behind_run run text ≡ None
    → (c ≡ 47 → ⊥) → behind_first run text ≡ behind_first run cs
first_past run text cs c e h other =
    ap (behind_first run) e
    ∙ (λ i. or_later ((sym (ap (behind_run run) e) ∙ h) i) (if ne_eqb c 47 other i then None else behind_first run cs))

pub first_nowhere : (run : List Item) (text : List ℕ) → text ≡ [] → behind_run run text ≡ None
    → behind_first run text ≡ None
first_nowhere run text e h = ap (behind_first run) e ∙ sym (ap (behind_run run) e) ∙ h

pub first_at_slash : (run : List Item) (text cs : List ℕ) (c : ℕ) → text ≡ c ∷ cs → behind_run run text ≡ None
    → c ≡ 47 → behind_first run text ≡ None
first_at_slash run text cs c e h slash =
    ap (behind_first run) e
    ∙ (λ i. or_later ((sym (ap (behind_run run) e) ∙ h) i) (if eq-eqb c 47 slash i then None else behind_first run cs))

pub ruleset first_place = (first_here, first_past, first_nowhere, first_at_slash)
