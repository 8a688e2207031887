-- Where paths lie: at a path, below it, above it.
use Rattle.std.proofs.Common.{◌≡◌, ℕ, ◌+◌, ◌≤◌, ◌<◌, Bool, true, false, cond, not, List, [], ◌∷◌, ◌++◌, ◌&&◌, ◌||◌}
use Rattle.std.proofs.Common.{◌==◌, refl, sym, ap, ◌∙◌, arith, length, drop, nat_eq, append-nil, append_assoc}
use Rattle.std.proofs.Common.{length-append}
use Rattle.std.specs.Prelude.{IsTrue, nat_le, nat_lt}
use Rattle.std.specs.List.{list_all, list_any, starts_with}
use Rattle.std.specs.Str.{bytes_eq}
use Rattle.std.proofs.lemmas.Slice.Eq.{bytes_eq-Decides}
use Rattle.std.proofs.lemmas.Bool.{and_parts, false_from_ne_true, eqb-true, ltb-true}
use Rattle.std.proofs.Math.Seq.{take-append_seam, drop-append_seam}
use Rattle.cnb_world.specs.Path.{is_part, is_part_byte, joined}
use Rattle.cnb_world.specs.Tree.{folders_from, folders_above}
use Rattle.cnb_world.proofs.Trees.{bytes_eq-same}
use Rattle.cnb_world.proofs.Folders.{not_longer}
use Rattle.std.proofs.lemmas.List.Folds.{list_any-append}
use Rattle.cnb_world.proofs.Parents.{has_slash}
use Rattle.tree_canon.specs.Names.{is_dots, is_name, is_plain, is_text}

pub joined_front : (folder name : List ℕ) → joined folder name ≡ joined folder [] ++ name
joined_front folder name = ap (λ f. f ++ name)
    (sym (append-nil (cond (bytes_eq folder (47 ∷ [])) folder (folder ++ 47 ∷ []))))

-- at a path or below it
abbrev pub is_at_or_below : List ℕ → List ℕ → Bool
is_at_or_below path q = bytes_eq q path || starts_with nat_eq q (joined path [])

pub or_parts : (a b : Bool) → (a || b) ≡ false → (a ≡ false) × (b ≡ false)
or_parts true b h = absurd (cc)
or_parts false b h = (refl, h)

pub or_from : (a b : Bool) → a ≡ false → b ≡ false → (a || b) ≡ false
or_from a b x y = ap (λ v. v || b) x ∙ y

pub or_right : (a b : Bool) → b ≡ true → (a || b) ≡ true
or_right true b h = refl
or_right false b h = h

-- ---- the folders above a name in a folder

none_above : (front n q : List ℕ) → has_slash n ≡ false → list_any (bytes_eq q) (folders_from front n) ≡ false
none_above front [] q h = refl
none_above front (c ∷ cs) q h =
    let p = or_parts (c == 47) (has_slash cs) h in
    ap (λ v. list_any (bytes_eq q) (cond (v && not (bytes_eq front []))
    (front ∷ folders_from (front ++ c ∷ []) cs) (folders_from (front ++ c ∷ []) cs))) p.0
    ∙ none_above (front ++ c ∷ []) cs q p.1

above_more : (front xs n q : List ℕ) → has_slash n ≡ false → bytes_eq q (front ++ xs) ≡ false
    → list_any (bytes_eq q) (folders_from front xs) ≡ false
    → list_any (bytes_eq q) (folders_from front (xs ++ 47 ∷ n)) ≡ false
above_more front [] n q h e f = by (not (bytes_eq front []))
  where
    at_front : bytes_eq q front ≡ false
    at_front = ap (bytes_eq q) (sym (append-nil front)) ∙ e

    by : (v : Bool) → list_any (bytes_eq q) (cond v (front ∷ folders_from (front ++ 47 ∷ []) n)
        (folders_from (front ++ 47 ∷ []) n)) ≡ false
    by true = or_from _ _ at_front (none_above (front ++ 47 ∷ []) n q h)
    by false = none_above (front ++ 47 ∷ []) n q h
above_more front (c ∷ cs) n q h e f = by (c == 47 && not (bytes_eq front [])) f
    (above_more (front ++ c ∷ []) cs n q h (ap (bytes_eq q) (append_assoc front (c ∷ []) cs) ∙ e))
  where
    by : (v : Bool) → list_any (bytes_eq q) (cond v (front ∷ folders_from (front ++ c ∷ []) cs)
        (folders_from (front ++ c ∷ []) cs)) ≡ false → (list_any (bytes_eq q) (folders_from (front ++ c ∷ []) cs)
        ≡ false → list_any (bytes_eq q) (folders_from (front ++ c ∷ []) (cs ++ 47 ∷ n)) ≡ false)
        → list_any (bytes_eq q) (cond v (front ∷ folders_from (front ++ c ∷ []) (cs ++ 47 ∷ n))
        (folders_from (front ++ c ∷ []) (cs ++ 47 ∷ n))) ≡ false
    by true f later = let p = or_parts (bytes_eq q front)
        (list_any (bytes_eq q) (folders_from (front ++ c ∷ []) cs)) f in or_from _ _ p.0 (later p.1)
    by false f later = later f

pub above_child : (path n q : List ℕ) → has_slash n ≡ false → bytes_eq q path ≡ false
    → list_any (bytes_eq q) (folders_above path) ≡ false → list_any (bytes_eq q) (folders_above (joined path n))
    ≡ false
above_child path n q h e f = by (bytes_eq path (47 ∷ [])) refl
  where
    by : (v : Bool) → bytes_eq path (47 ∷ []) ≡ v → list_any (bytes_eq q)
        (folders_above ((cond v path (path ++ 47 ∷ [])) ++ n)) ≡ false
    by true is = ap (λ p. list_any (bytes_eq q) (folders_above (p ++ n))) ((bytes_eq-Decides path (47 ∷ [])).0 is)
        ∙ none_above (47 ∷ []) n q h
    by false is = ap (λ p. list_any (bytes_eq q) (folders_above p)) (append_assoc path (47 ∷ []) n)
        ∙ above_more [] path n q h e f

-- ---- beginnings

pub longer_front : (q f n : List ℕ) → starts_with nat_eq q (f ++ n) ≡ true → starts_with nat_eq q f ≡ true
longer_front q [] n h = refl
longer_front [] (c ∷ f) n h = absurd (cc)
longer_front (d ∷ q) (c ∷ f) n h =
    let p = and_parts (nat_eq c d) (starts_with nat_eq q (f ++ n)) h in
    ap (λ v. v && starts_with nat_eq q f) p.0 ∙ longer_front q f n p.1

pub starts_itself : (f n : List ℕ) → starts_with nat_eq (f ++ n) f ≡ true
starts_itself f n = ap (bytes_eq f) (take-append_seam f n) ∙ bytes_eq-same f

starts_length : (q f : List ℕ) → starts_with nat_eq q f ≡ true → length f ≤ length q
starts_length q [] h = omega arith
starts_length [] (c ∷ f) h = absurd (cc)
starts_length (d ∷ q) (c ∷ f) h = let p = and_parts (nat_eq c d) (starts_with nat_eq q f) h
    in let rest : length f ≤ length q = starts_length q f p.1 in omega arith

pub starts_split : (q f : List ℕ) → starts_with nat_eq q f ≡ true → q ≡ f ++ drop (length f) q
starts_split q [] h = refl
starts_split [] (c ∷ f) h = absurd (cc)
starts_split (d ∷ q) (c ∷ f) h =
    let p = and_parts (nat_eq c d) (starts_with nat_eq q f) h in
    ap (λ x. d ∷ x) (starts_split q f p.1) ∙ ap (λ x. x ∷ (f ++ drop (length f) q)) (sym (eqb-true c d p.0))

starts_behind : (q f g : List ℕ) → starts_with nat_eq q (f ++ g) ≡ true
    → starts_with nat_eq (drop (length f) q) g ≡ true
starts_behind q [] g h = h
starts_behind [] (c ∷ f) g h = absurd (cc)
starts_behind (d ∷ q) (c ∷ f) g h = starts_behind q f g (and_parts (nat_eq c d) (starts_with nat_eq q (f ++ g)) h).1

-- ---- what is not below a folder is not below a name in it

-- what begins with more than a folder's front is below it
below_front : (path q more : List ℕ) → starts_with nat_eq q (joined path []) ≡ false
    → starts_with nat_eq q (joined path [] ++ more) ≡ false
below_front path q more h = false_from_ne_true _
    (λ e. let no : true ≡ false = sym (longer_front q (joined path []) more e) ∙ h in cc)

child_front : (path n : List ℕ) → (more : List ℕ) × (joined (joined path n) [] ≡ joined path [] ++ more)
child_front path n = by (bytes_eq (joined path n) (47 ∷ []))
  where
    by : (v : Bool) → (more : List ℕ) × ((cond v (joined path n) (joined path n ++ 47 ∷ [])) ++ []
        ≡ joined path [] ++ more)
    by true = (n, append-nil (joined path n) ∙ joined_front path n)
    by false = (
      n ++ 47 ∷ [],
      append-nil (joined path n ++ 47 ∷ []) ∙ ap (λ j. j ++ 47 ∷ []) (joined_front path n)
          ∙ append_assoc (joined path []) n (47 ∷ []),
    )

pub below_child : (path n q : List ℕ) → is_at_or_below path q ≡ false → is_at_or_below (joined path n) q ≡ false
below_child path n q h =
    let p = or_parts (bytes_eq q path) (starts_with nat_eq q (joined path [])) h in
    let more = child_front path n in
    or_from _ _
    (false_from_ne_true _ (λ e. let same : q ≡ joined path n = (bytes_eq-Decides q (joined path n)).0 e
    in let yes : starts_with nat_eq q (joined path []) ≡ true = ap
    (λ x. starts_with nat_eq x (joined path [])) (same ∙ joined_front path n)
    ∙ starts_itself (joined path []) n in let no : true ≡ false = sym yes ∙ p.1 in cc))
    (ap (starts_with nat_eq q) more.1 ∙ below_front path q more.0 p.1)

-- the front of a folder, whether it is `/` or not
pub slash_front : (path q : List ℕ) → starts_with nat_eq q (path ++ 47 ∷ []) ≡ true
    → starts_with nat_eq q (joined path []) ≡ true
slash_front path q h = by (bytes_eq path (47 ∷ []))
  where
    by : (v : Bool) → starts_with nat_eq q ((cond v path (path ++ 47 ∷ [])) ++ []) ≡ true
    by true = ap (starts_with nat_eq q) (append-nil path) ∙ longer_front q path (47 ∷ []) h
    by false = ap (starts_with nat_eq q) (append-nil (path ++ 47 ∷ [])) ∙ h

pub not_below : (path q : List ℕ) → is_at_or_below path q ≡ false → starts_with nat_eq q (path ++ 47 ∷ []) ≡ false
not_below path q h = false_from_ne_true _ (λ e. let no : true ≡ false = sym (slash_front path q e)
    ∙ (or_parts (bytes_eq q path) (starts_with nat_eq q (joined path [])) h).1 in cc)

-- what is below something at or below a path is below that path
pub below_below : (path r q : List ℕ) → is_at_or_below path r ≡ true → starts_with nat_eq q (r ++ 47 ∷ []) ≡ true
    → is_at_or_below path q ≡ true
below_below path r q h below = or_right (bytes_eq q path) _ (by (bytes_eq r path) refl h)
  where
    by : (v : Bool) → bytes_eq r path ≡ v → (v || starts_with nat_eq r (joined path [])) ≡ true
        → starts_with nat_eq q (joined path []) ≡ true
    by true e h = slash_front path q (ap (λ x. starts_with nat_eq q (x ++ 47 ∷ []))
        (sym ((bytes_eq-Decides r path).0 e)) ∙ below)
    by false e h = longer_front q (joined path []) (drop (length (joined path [])) r ++ 47 ∷ [])
        (ap (starts_with nat_eq q) (sym (append_assoc (joined path []) (drop (length (joined path [])) r)
        (47 ∷ [])) ∙ ap (λ x. x ++ 47 ∷ []) (sym (starts_split r (joined path []) h))) ∙ below)

-- ---- lengths

front_length : (path : List ℕ) → (length path ≤ length (joined path [])) × (1 ≤ length (joined path []))
front_length path = by (bytes_eq path (47 ∷ [])) refl
  where
    by : (v : Bool) → bytes_eq path (47 ∷ []) ≡ v → (length path ≤ length ((cond v path (path ++ 47 ∷ [])) ++ []))
        × (1 ≤ length ((cond v path (path ++ 47 ∷ [])) ++ []))
    by true e = let one : length path ≡ 1 = ap length ((bytes_eq-Decides path (47 ∷ [])).0 e)
        in let same : length (path ++ []) ≡ length path = ap length (append-nil path)
        in (omega arith, omega arith)
    by false e = let same : length ((path ++ 47 ∷ []) ++ [])
        ≡ length path + 1 = ap length (append-nil (path ++ 47 ∷ [])) ∙ length-append path (47 ∷ [])
        in (omega arith, omega arith)

pub below_length : (q r : List ℕ) → starts_with nat_eq q (r ++ 47 ∷ []) ≡ true → length r + 1 ≤ length q
below_length q r h = let le : length (r ++ 47 ∷ []) ≤ length q = starts_length q (r ++ 47 ∷ []) h
    in let one : length (r ++ 47 ∷ []) ≡ length r + 1 = length-append r (47 ∷ []) in omega arith

joined_length : (path n : List ℕ) → length (joined path n) ≡ length (joined path []) + length n
joined_length path n = ap length (joined_front path n) ∙ length-append (joined path []) n

pub longer_child : (path n : List ℕ) → 0 < length n → length path < length (joined path n)
longer_child path n h = let a : length path ≤ length (joined path []) = (front_length path).0
    in let b : length (joined path n) ≡ length (joined path []) + length n = joined_length path n in omega arith

pub child_not_root : (path n : List ℕ) → 0 < length n → bytes_eq (joined path n) (47 ∷ []) ≡ false
child_not_root path n h = let a : 1 ≤ length (joined path []) = (front_length path).1
    in let b : length (joined path n) ≡ length (joined path []) + length n = joined_length path n
    in not_longer (joined path n) (47 ∷ []) (omega arith)

-- what is shorter than a path is not at or below it
pub shorter_away : (path q : List ℕ) → length q < length path → is_at_or_below path q ≡ false
shorter_away path q h = or_from _ _
    (false_from_ne_true _ (λ e. let same : length q ≡ length path = ap length ((bytes_eq-Decides q path).0 e)
    in absurd (omega arith)))
    (false_from_ne_true _ (λ e. let le : length (joined path []) ≤ length q = starts_length q (joined path []) e
    in let a : length path ≤ length (joined path []) = (front_length path).0 in absurd (omega arith)))

above_length : (front rest f : List ℕ) → list_any (bytes_eq f) (folders_from front rest) ≡ true
    → length f ≤ length front + length rest
above_length front [] f h = absurd (cc)
above_length front (c ∷ cs) f h = by (c == 47 && not (bytes_eq front [])) h (above_length (front ++ c ∷ []) cs f)
  where
    one : length (front ++ c ∷ []) ≡ length front + 1
    one = length-append front (c ∷ [])

    here : (v : Bool) → bytes_eq f front ≡ v → (v || list_any (bytes_eq f) (folders_from (front ++ c ∷ []) cs))
        ≡ true → (list_any (bytes_eq f) (folders_from (front ++ c ∷ []) cs) ≡ true
        → length f ≤ length (front ++ c ∷ []) + length cs) → length f ≤ length front + length (c ∷ cs)
    here true e h later = let same : length f ≡ length front = ap length ((bytes_eq-Decides f front).0 e) in omega arith
    here false e h later = let le : length f ≤ length (front ++ c ∷ []) + length cs = later h
        in let one : length (front ++ c ∷ []) ≡ length front + 1 = one in omega arith

    by : (v : Bool) → list_any (bytes_eq f) (cond v (front ∷ folders_from (front ++ c ∷ []) cs)
        (folders_from (front ++ c ∷ []) cs)) ≡ true → (list_any (bytes_eq f) (folders_from (front ++ c ∷ []) cs)
        ≡ true → length f ≤ length (front ++ c ∷ []) + length cs) → length f ≤ length front + length (c ∷ cs)
    by true h later = here (bytes_eq f front) refl h later
    by false h later = let le : length f ≤ length (front ++ c ∷ []) + length cs = later h
        in let one : length (front ++ c ∷ []) ≡ length front + 1 = one in omega arith

-- a path and those above it are not longer
pub made_length : (path f : List ℕ) → list_any (bytes_eq f) (folders_above path ++ path ∷ []) ≡ true
    → length f ≤ length path
made_length path f h = by (list_any (bytes_eq f) (folders_above path)) refl (bytes_eq f path) refl
    (sym (list_any-append (bytes_eq f) (folders_above path) (path ∷ [])) ∙ h)
  where
    by : (a : Bool) → list_any (bytes_eq f) (folders_above path) ≡ a → (s : Bool) → bytes_eq f path ≡ s
        → (a || (s || false)) ≡ true → length f ≤ length path
    by true e s i h = let le : length f ≤ 0 + length path = above_length [] path f e in omega arith
    by false e true i h = let same : length f ≡ length path = ap length ((bytes_eq-Decides f path).0 i) in omega arith
    by false e false i h = absurd (cc)

-- ---- the name of what is below a folder

abbrev pub until_slash : List ℕ → List ℕ
until_slash [] = []
until_slash (c ∷ cs) = cond (c == 47) [] (c ∷ until_slash cs)

abbrev pub name_in : List ℕ → List ℕ → List ℕ
name_in path q = until_slash (drop (length (joined path [])) q)

until_itself : (n : List ℕ) → has_slash n ≡ false → until_slash n ≡ n
until_itself [] h = refl
until_itself (c ∷ cs) h = let p = or_parts (c == 47) (has_slash cs) h
    in ap (λ v. cond v [] (c ∷ until_slash cs)) p.0 ∙ ap (λ x. c ∷ x) (until_itself cs p.1)

until_name : (q n : List ℕ) → has_slash n ≡ false → starts_with nat_eq q (n ++ 47 ∷ []) ≡ true → until_slash q ≡ n
until_name [] [] h s = absurd (cc)
until_name (d ∷ q) [] h s = ap (λ v. cond (v == 47) [] (d ∷ until_slash q))
    (sym (eqb-true 47 d (and_parts (nat_eq 47 d) (starts_with nat_eq q []) s).0))
until_name [] (c ∷ n) h s = absurd (cc)
until_name (d ∷ q) (c ∷ n) h s =
    let p = or_parts (c == 47) (has_slash n) h in
    let t = and_parts (nat_eq c d) (starts_with nat_eq q (n ++ 47 ∷ [])) s in
    ap (λ x. cond (x == 47) [] (x ∷ until_slash q)) (sym (eqb-true c d t.0))
    ∙ ap (λ v. cond v [] (c ∷ until_slash q)) p.0 ∙ ap (λ x. c ∷ x) (until_name q n p.1 t.1)

pub named : (path n q : List ℕ) → 0 < length n → has_slash n ≡ false → is_at_or_below (joined path n) q ≡ true
    → name_in path q ≡ n
named path n q some plain h = by (bytes_eq q (joined path n)) refl
    (ap (λ v. bytes_eq q (joined path n) || starts_with nat_eq q
    ((cond v (joined path n) (joined path n ++ 47 ∷ [])) ++ [])) (sym (child_not_root path n some)) ∙ h)
  where
    is : (joined path n ++ 47 ∷ []) ++ [] ≡ joined path [] ++ (n ++ 47 ∷ [])
    is = append-nil (joined path n ++ 47 ∷ []) ∙ ap (λ j. j ++ 47 ∷ []) (joined_front path n)
        ∙ append_assoc (joined path []) n (47 ∷ [])

    by : (v : Bool) → bytes_eq q (joined path n) ≡ v
        → (v || starts_with nat_eq q ((joined path n ++ 47 ∷ []) ++ [])) ≡ true → name_in path q ≡ n
    by true e h = ap (λ x. name_in path x) ((bytes_eq-Decides q (joined path n)).0 e ∙ joined_front path n)
        ∙ ap until_slash (drop-append_seam (joined path []) n) ∙ until_itself n plain
    by false e h = until_name (drop (length (joined path [])) q) n plain
        (starts_behind q (joined path []) (n ++ 47 ∷ []) (ap (starts_with nat_eq q) (sym is) ∙ h))

-- ---- names of entries, and parts of paths

pub name_form : (name : List ℕ) → is_name name ≡ true → (0 < length name) × (has_slash name ≡ false)
name_form name h = (
  ltb-true 0 (length name) (and_parts (nat_lt 0 (length name)) (nat_le (length name) 255)
      (and_parts _ _ p.0).0).0,
  plain name (and_parts (is_plain name) (not (is_dots name)) p.1).0,
)
  where
    p : (is_text 255 name ≡ true) × ((is_plain name && not (is_dots name)) ≡ true)
    p = and_parts (is_text 255 name) (is_plain name && not (is_dots name)) h

    plain : (bytes : List ℕ) → is_plain bytes ≡ true → has_slash bytes ≡ false
    plain [] h = refl
    plain (c ∷ cs) h = by (c == 0) (c == 47) (is_plain cs) (plain cs) h
      where
        by : (zero slash rest : Bool) → (rest ≡ true → has_slash cs ≡ false)
            → ((not zero && not slash) && rest) ≡ true → (slash || has_slash cs) ≡ false
        by true slash rest later e = absurd (cc)
        by false true rest later e = absurd (cc)
        by false false rest later e = later e

pub part_form : (part : List ℕ) → IsTrue (is_part part) → (0 < length part) × (has_slash part ≡ false)
part_form part h = (ltb-true 0 (length part) p.0, plain part p.1)
  where
    first : (a b c d e : Bool) → IsTrue ((((a && b) && c) && d) && e) → (a ≡ true) × (e ≡ true)
    first true true true true true h = (refl, refl)
    first true true true true false h = absurd (cc)
    first true true true false e h = absurd (cc)
    first true true false d e h = absurd (cc)
    first true false c d e h = absurd (cc)
    first false b c d e h = absurd (cc)

    p : (nat_lt 0 (length part) ≡ true) × (list_all is_part_byte part ≡ true)
    p = first (nat_lt 0 (length part)) (nat_le (length part) 255) (not (bytes_eq part (46 ∷ [])))
        (not (bytes_eq part (46 ∷ 46 ∷ []))) (list_all is_part_byte part) h

    plain : (bytes : List ℕ) → list_all is_part_byte bytes ≡ true → has_slash bytes ≡ false
    plain [] h = refl
    plain (c ∷ cs) h = by (c == 47) (c == 0) (list_all is_part_byte cs) (plain cs) h
      where
        by : (slash zero rest : Bool) → (rest ≡ true → has_slash cs ≡ false)
            → ((not slash && not zero) && rest) ≡ true → (slash || has_slash cs) ≡ false
        by true zero rest later e = absurd (cc)
        by false true rest later e = absurd (cc)
        by false false rest later e = later e
