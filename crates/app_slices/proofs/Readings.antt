-- Reading a pattern: what is had so far, and what is left.
use Rattle.std.proofs.Common.{◌≡◌, ◌≢◌, ℕ, suc, arith, Bool, true, false, ◌++◌, List, [], ◌∷◌, None, Some, refl, sym}
use Rattle.std.proofs.Common.{ap, ◌∙◌, subst, append_assoc, append-nil, length, ◌==◌}
use Rattle.std.specs.Prelude.{if◌then◌else◌}
use Rattle.std.proofs.lemmas.Bool.{both_ways, eqb-true, ne_eqb}
use Rattle.app_slices.specs.declared.item.Range.{Range}
use Rattle.app_slices.specs.declared.item.Item.{Item}
use Rattle.app_slices.specs.declared.item.Item.TheVariants.{Star, One, Class, Just}
use Rattle.app_slices.specs.Spelling.{range_in, AreRanges, IsClass, IsNoClass, is_negated, body_of, Lead, AStar, AOne}
use Rattle.app_slices.specs.Spelling.{AnEscape, AClass, ItSelf, lead_of, IsLed, IsItem, IsNoItem, Spells, IsNoPattern}
use Rattle.app_slices.specs.Spelling.{HasRead, HasRanges}

some_same : {A : Type 0} (x y : A) → Some x ≡ Some y → x ≡ y
some_same x y e = cc

some_pair : (p q : Range × List ℕ) → Some p ≡ Some q → (p.0 ≡ q.0) × (p.1 ≡ q.1)
some_pair p q e = let h : p ≡ q = some_same p q e
    in (ap (λ (t : Range × List ℕ). t.0) h, ap (λ (t : Range × List ℕ). t.1) h)

no_some : {A : Type 0} {P : Type 0} (x : A) → None ≡ Some x → P
no_some x e = absurd (cc)

none_here : (p : Range × List ℕ) → None ≡ Some p → ⊥
none_here p e = cc

-- no range begins with `]`
no_range : (rest : List ℕ) (r : Range) (between : List ℕ) → range_in (93 ∷ rest) ≡ Some (r, between) → ⊥
no_range rest r between e = let p : Range × List ℕ = (r, between) in none_here p e

same_heads : (a b : ℕ) (r s : List ℕ) → a ∷ r ≡ b ∷ s → (a ≡ b) × (r ≡ s)
same_heads a b r s e = (cc, cc)

-- ---- ranges

same_ranges : (rs ss : List Range) (text r s : List ℕ) → AreRanges rs text r → AreRanges ss text s → (rs ≡ ss) × (r ≡ s)
same_ranges [] [] text r s a b = (refl, (same_heads 93 93 r s (sym a ∙ b)).1)
same_ranges [] (x ∷ ss) text r s a (between, e, b) = absurd (no_range r x between (ap range_in (sym a) ∙ e))
same_ranges (x ∷ rs) [] text r s (between, e, a) b = absurd (no_range s x between (ap range_in (sym b) ∙ e))
same_ranges (x ∷ rs) (y ∷ ss) text r s (b1, e, a) (b2, f, b) =
    let p = some_pair (x, b1) (y, b2) (sym e ∙ f) in
    let more = same_ranges rs ss b2 r s (subst (λ t. AreRanges rs t r) p.1 a) b in
    ((λ i. p.0 i ∷ more.0 i), more.1)

pub ranges_start : (text : List ℕ) → HasRanges text [] text
ranges_start text = record { is = λ more end h. h; only = λ all end h. (all, refl, h) }

pub ranges_more : (text : List ℕ) (all : List Range) (rest : List ℕ) (r : Range) (between : List ℕ)
    → HasRanges text all rest → range_in rest ≡ Some (r, between) → HasRanges text (all ++ r ∷ []) between
ranges_more text all rest r between had e = record {
  is = λ more end h. subst (λ xs. AreRanges xs text end) (sym (append_assoc all (r ∷ []) more))
      (had.is (r ∷ more) end (between, e, h));
  only = λ xs end h. by xs end (had.only xs end h);
}
  where
    by : (xs : List Range) (end : List ℕ) → (more : List Range) × (xs ≡ all ++ more) × AreRanges more rest end
        → (more : List Range) × (xs ≡ (all ++ r ∷ []) ++ more) × AreRanges more between end
    by xs end ([], is, a) = absurd (no_range end r between (ap range_in (sym a) ∙ e))
    by xs end (s ∷ more, is, (b, f, a)) =
        let p = some_pair (s, b) (r, between) (sym f ∙ e) in (
          more,
          is ∙ (ap (λ x. all ++ x ∷ more) p.0 ∙ sym (append_assoc all (r ∷ []) more)),
          subst
              (λ t. AreRanges more t end) p.1 a,
        )

pub ranges_end : (text : List ℕ) (all : List Range) (rest end : List ℕ) → HasRanges text all rest
    → rest ≡ 93 ∷ end → AreRanges all text end
ranges_end text all rest end had e = subst (λ xs. AreRanges xs text end) (append-nil all) (had.is [] end e)

-- what begins with neither `]` nor a range is no more of a class
pub ranges_bad : (text : List ℕ) (all : List Range) (rest : List ℕ) → HasRanges text all rest
    → ((end : List ℕ) → rest ≡ 93 ∷ end → ⊥) → range_in rest ≡ None → IsNoClass text
ranges_bad text all rest had other none = λ xs end h. by end (had.only xs end h)
  where
    by : {xs : List Range} (end : List ℕ) → (more : List Range) × (xs ≡ all ++ more) × AreRanges more rest end → ⊥
    by end ([], is, a) = other end a
    by end (s ∷ more, is, (b, f, a)) = (let p : Range × List ℕ = (s, b) in none_here p (sym none ∙ f))

pub ruleset reading_ranges = (ranges_start, ranges_more, ranges_end, ranges_bad)

-- ---- classes

pub class_had : (negated : Bool) (ranges : List Range) (text body rest : List ℕ) → negated ≡ is_negated text
    → body ≡ body_of text → (length ranges == 0) ≡ false → AreRanges ranges body rest
    → IsClass (Class negated ranges) text rest
class_had negated ranges text body rest n b some a = (
  ranges,
  ap (λ t. Class t ranges) n,
  (λ e. both_ways (length ranges == 0) some (ap (λ rs. length rs == 0) e)),
  subst (λ t. AreRanges ranges t rest) b a,
)

pub class_bad : (text body : List ℕ) → body ≡ body_of text → IsNoClass body → (item : Item) (rest : List ℕ)
    → IsClass item text rest → ⊥
class_bad text body b none = λ item rest (ranges, is, some, a). none ranges rest
    (subst (λ t. AreRanges ranges t rest) (sym b) a)

pub class_empty : (none : List Range) (text body end : List ℕ) → body ≡ body_of text → (length none == 0) ≡ true
    → AreRanges none body end → (item : Item) (rest : List ℕ) → IsClass item text rest → ⊥
class_empty [] text body end b n e = λ item rest (ranges, is, some, a). some
    (sym (same_ranges [] ranges body end rest e (subst (λ t. AreRanges ranges t rest) (sym b) a)).0)
class_empty (x ∷ xs) text body end b n e =
    let none : length (x ∷ xs) ≡ 0 = eqb-true (length (x ∷ xs)) 0 n in
    let more : length (x ∷ xs) ≡ suc (length xs) = refl in
    absurd (omega (arith, none, more))

pub ruleset reading_a_class = (class_had, class_bad, class_empty)

-- ---- items

led_same : (lead : Lead) (c : ℕ) (i j : Item) (text r s : List ℕ) → IsLed lead c i text r → IsLed lead c j text s
    → (i ≡ j) × (r ≡ s)
led_same AStar c i j text r s a b = (a.0 ∙ sym b.0, a.1 ∙ sym b.1)
led_same AOne c i j text r s a b = (a.0 ∙ sym b.0, a.1 ∙ sym b.1)
led_same AnEscape c i j text r s (x, p, e) (y, q, f) =
    let h = same_heads x y r s (sym p ∙ q) in
    (e ∙ (ap Just h.0 ∙ sym f), h.1)
led_same AClass c i j text r s (rs, e, n, a) (ss, f, m, b) =
    let h = same_ranges rs ss (body_of text) r s a b in
    (e ∙ (ap (Class (is_negated text)) h.0 ∙ sym f), h.1)
led_same ItSelf c i j text r s a b = (a.0 ∙ sym b.0, a.1 ∙ sym b.1)

one_item : (i j : Item) (text r s : List ℕ) → IsItem i text r → IsItem j text s → (i ≡ j) × (r ≡ s)
one_item i j [] r s a b = absurd a
one_item i j (c ∷ cs) r s a b = led_same (lead_of c) c i j cs r s a b

-- each kind by its first character
pub star_item : (text rest : List ℕ) → text ≡ 42 ∷ rest → IsItem Star text rest
star_item text rest e = subst (λ t. IsItem Star t rest) (sym e) (refl, refl)

pub one_item_at : (text rest : List ℕ) → text ≡ 63 ∷ rest → IsItem One text rest
one_item_at text rest e = subst (λ t. IsItem One t rest) (sym e) (refl, refl)

pub escaped_item : (text behind rest : List ℕ) (only : ℕ) → text ≡ 92 ∷ behind → behind ≡ only ∷ rest
    → IsItem (Just only) text rest
escaped_item text behind rest only e f = subst (λ t. IsItem (Just only) t rest) (sym e) (only, f, refl)

pub class_item : (item : Item) (text behind rest : List ℕ) → text ≡ 91 ∷ behind → IsClass item behind rest
    → IsItem item text rest
class_item item text behind rest e c = subst (λ t. IsItem item t rest) (sym e) c

its_own : (c : ℕ) → (c ≡ 42 → ⊥) → (c ≡ 63 → ⊥) → (c ≡ 91 → ⊥) → (c ≡ 92 → ⊥) → lead_of c ≡ ItSelf
its_own c star one class escape = λ i.
    if ne_eqb c 42 star i then AStar else (if ne_eqb c 63 one i then AOne else
    (if ne_eqb c 92 escape i then AnEscape else (if ne_eqb c 91 class i then AClass else ItSelf)))

pub plain_item : (text rest : List ℕ) (c : ℕ) → text ≡ c ∷ rest → (c ≡ 42 → ⊥) → (c ≡ 63 → ⊥) → (c ≡ 91 → ⊥)
    → (c ≡ 92 → ⊥) → IsItem (Just c) text rest
plain_item text rest c e star one class escape =
    subst (λ t. IsItem (Just c) t rest) (sym e) (subst (λ lead. IsLed lead c (Just c) rest rest)
    (sym (its_own c star one class escape)) (refl, refl))

pub no_escaped : (text behind : List ℕ) → text ≡ 92 ∷ behind → behind ≡ [] → IsNoItem text
no_escaped text behind e f = λ item rest h. by item rest (subst (λ t. IsItem item t rest) (e ∙ ap (λ t. 92 ∷ t) f) h)
  where
    by : (item : Item) (rest : List ℕ) → IsLed AnEscape 92 item [] rest → ⊥
    by item rest (only, is, j) = cc

pub no_class_item : (text behind : List ℕ) → text ≡ 91 ∷ behind
    → ((item : Item) (rest : List ℕ) → IsClass item behind rest → ⊥) → IsNoItem text
no_class_item text behind e none = λ item rest h. none item rest (subst (λ t. IsItem item t rest) e h)

pub ruleset reading_an_item = (star_item, one_item_at, escaped_item, class_item, plain_item, no_escaped, no_class_item)

pub not_nil : (text rest : List ℕ) (c : ℕ) → text ≡ c ∷ rest → text ≡ [] → ⊥
not_nil text rest c e n = cc

-- ---- patterns

pub read_start : (text : List ℕ) → HasRead text [] text
read_start text = record { is = λ more h. h; only = λ all h. (all, refl, h) }

pub read_more : (text : List ℕ) (items : List Item) (rest : List ℕ) (item : Item) (between : List ℕ)
    → HasRead text items rest → IsItem item rest between → HasRead text (items ++ item ∷ []) between
read_more text items rest item between had e = record {
  is = λ more h. subst (λ xs. Spells xs text) (sym (append_assoc items (item ∷ []) more))
      (had.is (item ∷ more) (between, e, h));
  only = λ all h. by all (had.only all h);
}
  where
    by : (all : List Item) → (more : List Item) × (all ≡ items ++ more) × Spells more rest → (more : List Item)
        × (all ≡ (items ++ item ∷ []) ++ more) × Spells more between
    by all ([], is, a) = absurd (subst (λ t. IsItem item t between) a e)
    by all (s ∷ more, is, (b, f, a)) =
        let p = one_item s item rest b between f e in (
          more,
          is ∙ (ap (λ x. items ++ x ∷ more) p.0 ∙ sym (append_assoc items (item ∷ []) more)),
          subst
              (Spells more) p.1 a,
        )

pub read_end : (text : List ℕ) (items : List Item) (rest : List ℕ) → HasRead text items rest → rest ≡ []
    → Spells items text
read_end text items rest had e = subst (λ xs. Spells xs text) (append-nil items) (had.is [] e)

pub read_bad : (text : List ℕ) (items : List Item) (rest : List ℕ) → HasRead text items rest → (rest ≢ [])
    → IsNoItem rest → IsNoPattern text
read_bad text items rest had some none = λ all h. by (had.only all h)
  where
    by : {all : List Item} → (more : List Item) × (all ≡ items ++ more) × Spells more rest → ⊥
    by ([], is, a) = some a
    by (s ∷ more, is, (b, f, a)) = none s b f

-- nothing else reads so
pub read_once : (text : List ℕ) (items all : List Item) (rest : List ℕ) → HasRead text items rest → rest ≡ []
    → Spells all text → all ≡ items
read_once text items all rest had e h = by (had.only all h)
  where
    by : (more : List Item) × (all ≡ items ++ more) × Spells more rest → all ≡ items
    by ([], is, a) = is ∙ append-nil items
    by (s ∷ more, is, (b, f, a)) = absurd (subst (λ t. IsItem s t b) e f)

pub ruleset reading_a_pattern = (read_start, read_more, read_end, read_bad, read_once)
