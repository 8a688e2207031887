-- The way to a place, part by part.
use Rattle.std.proofs.Common.{◌≡◌, ◌≢◌, ℕ, suc, ◌+◌, ◌<◌, ◌≤◌, ◌∙◌, ◌==◌, ◌&&◌, ◌||◌, Bool, true, false, cond, List, []}
use Rattle.std.proofs.Common.{◌∷◌, ◌++◌, length, drop, get_or, refl, sym, ap, arith, Option, Some, None, Result, Ok}
use Rattle.std.proofs.Common.{Err, length-append}
use Rattle.std.specs.Prelude.{IsTrue, IfSome, OnOk, is_ok, nat_le}
use Rattle.std.specs.Option.{MatchOption, option_map}
use Rattle.std.specs.List.{list_all, onto_first, after_first, AllByRecursion}
use Rattle.std.specs.Str.{bytes_eq, IsUtf8, IsCharBoundary}
use Rattle.std.proofs.lemmas.Str.{IsCharBoundary-after_ascii}
use Rattle.std.proofs.lemmas.Bool.{and_parts, ne_eqb, eqb-true}
use Rattle.std.proofs.lemmas.List.Splits.{slice_split_first}
use Rattle.std.proofs.lemmas.Str.Pattern.{IsSplitOnceResult, split_once_first, split_parts}
use Rattle.cnb_world.specs.Path.{is_part, is_path, joined}
use Rattle.cnb_world.specs.Tree.{Tree, folder_made}
use Rattle.tree_canon.specs.Fits.{fits, is_tree}
use Rattle.tree_canon.specs.declared.node.Node.{Node}
use Rattle.tree_store.specs.Laying.{laid_under, folder_laid, node_laid, tree_steps}
use Rattle.tree_store.specs.Overlay.{way_parts, parts_of}

plain_way : (way : List ℕ) → ((i : ℕ) → i < length way → get_or way i 0 ≢ 47) → way_parts way ≡ way ∷ []
plain_way [] h = refl
plain_way (c ∷ cs) h = ap (λ v. cond v ([] ∷ way_parts cs) (onto_first c (way_parts cs)))
    (ne_eqb c 47 (h 0 (omega arith))) ∙ ap (onto_first c) (plain_way cs (λ i lt. h (suc i) (omega arith)))

pub next_parts : (way : List ℕ) (r : Option _) → IsSplitOnceResult 47 way r
    → MatchOption r (way_parts way ≡ way ∷ []) (λ cut. way_parts way ≡ cut.0.now ∷ way_parts cut.1.now)
next_parts way None h = plain_way way (split_parts 47 way None h (omega arith))
next_parts way (Some cut) h =
    let first = split_once_first 47 way (Some cut) h (omega arith) in
    slice_split_first (λ b. b == 47) way 0 first.0
    ∙ ap (λ part. part ∷ way_parts (after_first (λ b. b == 47) way)) (sym first.1)
    ∙ ap (λ rest. cut.0.now ∷ way_parts rest) (sym first.2)

pub next_lengths : (way : List ℕ) (r : Option _) → IsSplitOnceResult 47 way r
    → IfSome r (λ cut. length cut.0.now + (1 + length cut.1.now) ≡ length way)
next_lengths way None h = tt
next_lengths way (Some cut) h = let e = (split_parts 47 way (Some cut) h (omega arith)).0
    in omega (arith, ap length e, length-append cut.0.now (47 ∷ cut.1.now))

-- ---- laying along a way

pub under_step : (o : Option Tree) (node : Node) (way part rest folder path : List ℕ)
    → way_parts way ≡ part ∷ way_parts rest → path ≡ joined folder part
    → option_map (laid_under node (way_parts rest) path) (option_map (folder_laid folder) o)
    ≡ option_map (laid_under node (way_parts way) folder) o
under_step None node way part rest folder path cut is = refl
under_step (Some files) node way part rest folder path cut is = ap Some
    (ap (λ p. laid_under node (way_parts rest) p (folder_laid folder files)) is
    ∙ sym (ap (λ parts. laid_under node parts folder files) cut))

pub under_last : (o : Option Tree) (node : Node) (way folder path : List ℕ) → way_parts way ≡ way ∷ []
    → path ≡ joined folder way → option_map (node_laid node path) (option_map (folder_laid folder) o)
    ≡ option_map (laid_under node (way_parts way) folder) o
under_last None node way folder path cut is = refl
under_last (Some files) node way folder path cut is = ap Some
    (ap (λ p. node_laid node p (folder_laid folder files)) is
    ∙ sym (ap (λ parts. laid_under node parts folder files) cut))

-- ---- the parts of a path

path_parts : (c d : ℕ) (rest : List ℕ) → is_path (c ∷ d ∷ rest) ≡ true → (c ≡ 47)
    × (list_all is_part (way_parts (d ∷ rest)) ≡ true)
path_parts c d rest h = by (nat_le (length (c ∷ d ∷ rest)) 32768) (c == 47) refl
    (list_all is_part (way_parts (d ∷ rest))) h
  where
    by : (n v : Bool) → (c == 47) ≡ v → (w : Bool) → (n && ((v && false) || (v && w))) ≡ true → (c ≡ 47) × (w ≡ true)
    by true true e true h = (eqb-true c 47 e, refl)
    by true true e false h = absurd (cc)
    by true false e w h = absurd (cc)
    by false v e w h = absurd (cc)

pub names_of_parts : (path : List ℕ) → IsTrue (is_path path) → IsTrue (list_all is_part (parts_of path))
names_of_parts [] h = refl
names_of_parts (c ∷ []) h = refl
names_of_parts (c ∷ d ∷ rest) h = (path_parts c d rest h).1

pub all_parts : (parts : List (List ℕ)) → list_all is_part parts ≡ true
    → AllByRecursion (λ part. IsTrue (is_part part)) parts
all_parts [] h = tt
all_parts (p ∷ ps) h = let both = and_parts (is_part p) (list_all is_part ps) h in (both.0, all_parts ps both.1)

-- a path begins with a slash
pub path_begins : (path : List ℕ) → IsTrue (is_path path) → (1 ≤ length path) × (get_or path 0 0 ≡ 47)
path_begins [] h = absurd (cc)
path_begins (c ∷ []) h = (omega arith, by (c == 47) refl h)
  where
    by : (v : Bool) → (c == 47) ≡ v → ((v && true) || (v && false)) ≡ true → c ≡ 47
    by true e h = eqb-true c 47 e
    by false e h = absurd (cc)
path_begins (c ∷ d ∷ rest) h = (omega arith, (path_parts c d rest h).0)

pub way_of : (path way : List ℕ) → way ≡ drop 1 path → (length way == 0) ≡ false → parts_of path ≡ way_parts way
way_of [] way is some = absurd (let no : true ≡ false = sym (ap (λ w. length w == 0) is) ∙ some in cc)
way_of (c ∷ []) way is some = absurd (let no : true ≡ false = sym (ap (λ w. length w == 0) is) ∙ some in cc)
way_of (c ∷ d ∷ rest) way is some = ap way_parts (sym is)

pub no_way : (path way : List ℕ) → way ≡ drop 1 path → (length way == 0) ≡ true → parts_of path ≡ []
no_way [] way is none = refl
no_way (c ∷ []) way is none = refl
no_way (c ∷ d ∷ rest) way is none = absurd (let zero : length way ≡ 0 = eqb-true (length way) 0 none
    in let one : length way ≡ length (d ∷ rest) = ap length is in omega arith)

pub part_ahead : (way part rest : List ℕ) → way_parts way ≡ part ∷ way_parts rest
    → IsTrue (list_all is_part (way_parts way)) → IsTrue (is_part part)
part_ahead way part rest cut h = (and_parts (is_part part) (list_all is_part (way_parts rest))
    (sym (ap (list_all is_part) cut) ∙ h)).0

pub parts_behind : (way part rest : List ℕ) → way_parts way ≡ part ∷ way_parts rest
    → IsTrue (list_all is_part (way_parts way)) → IsTrue (list_all is_part (way_parts rest))
parts_behind way part rest cut h = (and_parts (is_part part) (list_all is_part (way_parts rest))
    (sym (ap (list_all is_part) cut) ∙ h)).1

pub last_part : (way : List ℕ) → way_parts way ≡ way ∷ [] → IsTrue (list_all is_part (way_parts way))
    → IsTrue (is_part way)
last_part way cut h = (and_parts (is_part way) true (sym (ap (list_all is_part) cut) ∙ h)).0

pub joined_short : (folder name : List ℕ) → length (joined folder name) ≤ length folder + (1 + length name)
joined_short folder name = by (bytes_eq folder (47 ∷ []))
  where
    by : (v : Bool) → length ((cond v folder (folder ++ 47 ∷ [])) ++ name) ≤ length folder + (1 + length name)
    by true = omega (arith, length-append folder name)
    by false = omega (arith, length-append (folder ++ 47 ∷ []) name, length-append folder (47 ∷ []))

-- ---- a place under a folder

pub at_way : (o : Option Tree) (root place way : List ℕ) (node : Node) → parts_of place ≡ way_parts way
    → option_map (laid_under node (way_parts way) root) (option_map (folder_made root) o)
    ≡ option_map (tree_steps root place node) o
unfolding tree_steps
at_way None root place way node e = refl
at_way (Some files) root place way node e = ap Some
    (ap (λ parts. laid_under node parts root (folder_made root files)) (sym e))

pub at_root : (o : Option Tree) (root place : List ℕ) (node : Node) → parts_of place ≡ []
    → option_map (node_laid node root) (option_map (folder_made root) o)
    ≡ option_map (tree_steps root place node) o
unfolding tree_steps
at_root None root place node e = refl
at_root (Some files) root place node e = ap Some
    (ap (λ parts. laid_under node parts root (folder_made root files)) (sym e))

pub tree_fits : (root now : Node) → now ≡ root → is_tree root ≡ true → fits now 0 ≡ true
tree_fits root now e h = ap (λ n. fits n 0) e ∙ (and_parts (fits root 0) _ h).0

pub when_ok : {T E P : Type 0} (r : Result T E) → IsTrue (is_ok r) → OnOk r P → P
when_ok (Ok value) ok h = h
when_ok (Err fault) ok h = absurd (cc)

pub behind_slash : (place text : List ℕ) → text ≡ place → IsTrue (is_path place) → IsUtf8 text → IsCharBoundary text 1
behind_slash place text e path utf8 =
    let begins = path_begins place path in
    IsCharBoundary-after_ascii text 0 utf8 (let same : length text ≡ length place = ap length e
    in let some : 1 ≤ length place = begins.0 in omega arith)
    (let is : get_or text 0 0 ≡ 47 = ap (λ t. get_or t 0 0) e ∙ begins.1 in omega arith)
