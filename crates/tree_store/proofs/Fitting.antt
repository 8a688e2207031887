-- What is read fits.
use Rattle.std.proofs.Common.{◌≡◌, ℕ, suc, ◌+◌, ◌-◌, ◌^◌, ◌<◌, ◌≤◌, ◌∙◌, Bool, true, false, not, ◌&&◌, List, [], ◌∷◌}
use Rattle.std.proofs.Common.{◌++◌, length, drop, get_or, refl, sym, ap, subst, arith, Option, Some, None, Ok, Err}
use Rattle.std.proofs.Common.{cond, length-append, drop-cons, add-one, ◌==◌}
use Rattle.std.specs.Prelude.{nat_lt, nat_le, IsTrue}
use Rattle.std.specs.List.{AllByRecursion, list_all}
use Rattle.std.specs.Str.{bytes_eq, is_utf8, IsUtf8}
use Rattle.std.proofs.lemmas.Str.{is_utf8-from_IsUtf8}
use Rattle.cnb_world.specs.declared.limits.LimitKind.TheVariants.{Tree as TreeLimit}
use Rattle.tree_store.specs.declared.fault.StoreFault.TheVariants.{Limit}
use Rattle.tree_store.specs.Reading as reading
use Rattle.std.specs.Ordering.{nat_cmp, is_lt}
use Rattle.std.specs.Cmp.Lexicographic.{slice_cmp}
use Rattle.std.specs.declared.cmp.Ordering.TheVariants.{Less}
use Rattle.std.proofs.lemmas.Bool.{and_from, lt-ltb, le-leb}
use Rattle.cnb_world.specs.Path.{is_part, is_part_byte}
use Rattle.cnb_world.specs.Calls.{AreNames}
use Rattle.tree_canon.specs.CutTree.{last_name}
use Rattle.tree_canon.specs.declared.node.Node.{Node}
use Rattle.tree_canon.specs.declared.node.Named.{Named}
use Rattle.tree_canon.specs.declared.node.Node.TheVariants.{Folder, File, Link}
use Rattle.tree_canon.specs.Fits.{fits, entries_fit}
use Rattle.tree_canon.specs.Names.{is_name, is_plain, is_dots, is_target, follows}
use Rattle.tree_canon.specs.Spelling.{limit, magic, node_bytes, entry_bytes, entries_bytes}
use Rattle.tree_canon.specs.Writing.{IsMeasured}
use Rattle.tree_canon.proofs.Equations.{fits_folder, fits_file, fits_link}
use Rattle.tree_canon.proofs.Keeps.{entries_fit_push}
use Rattle.tree_canon.proofs.LastNames.{last_from-push}
use Rattle.tree_canon.proofs.Lengths.{folder_length, file_length, link_length, entry_length}
use Rattle.tree_store.specs.Reading.{FitsFrom}

-- these names may stand behind a last one
abbrev pub FollowAll : Option (List ℕ) → List (List ℕ) → Type 0
FollowAll last names = AllByRecursion (λ name. follows last name ≡ true) names

pub any_follows : (names : List (List ℕ)) → FollowAll None names
any_follows [] = tt
any_follows (n ∷ ns) = (refl, any_follows ns)

-- the names behind one that leads them
pub leads : (name : List ℕ) (ns : List (List ℕ)) → AllByRecursion (λ m. slice_cmp nat_cmp name m ≡ Less) ns
    → FollowAll (Some name) ns
leads name [] all = tt
leads name (n ∷ ns) all = (ap is_lt all.0, leads name ns all.1)

-- ---- a name

pub part_name : (name : List ℕ) → IsTrue (is_part name) → is_utf8 name ≡ true → is_name name ≡ true
part_name name part utf8 = and_from _ _ (and_from _ _ (and_from _ _ p.0 p.1) utf8)
    (and_from _ _ (plain name p.4) (dots name p.2 p.3))
  where
    split : (a b c d e : Bool) → IsTrue ((((a && b) && c) && d) && e) → (a ≡ true) × (b ≡ true) × (c ≡ true)
        × (d ≡ true) × (e ≡ true)
    split true true true true true h = (refl, refl, refl, refl, refl)
    split true true true true false h = absurd (cc)
    split true true true false e h = absurd (cc)
    split true true false d e h = absurd (cc)
    split true false c d e h = absurd (cc)
    split false b c d e h = absurd (cc)

    p : (nat_lt 0 (length name) ≡ true) × (nat_le (length name) 255 ≡ true)
        × (not (bytes_eq name (46 ∷ [])) ≡ true) × (not (bytes_eq name (46 ∷ 46 ∷ [])) ≡ true)
        × (list_all is_part_byte name ≡ true)
    p = split (nat_lt 0 (length name)) (nat_le (length name) 255) (not (bytes_eq name (46 ∷ [])))
        (not (bytes_eq name (46 ∷ 46 ∷ []))) (list_all is_part_byte name) part

    plain : (bytes : List ℕ) → list_all is_part_byte bytes ≡ true → is_plain bytes ≡ true
    plain [] h = refl
    plain (c ∷ cs) h = by (c == 47) (c == 0) (list_all is_part_byte cs) (plain cs) h
      where
        by : (slash zero rest : Bool) → (rest ≡ true → is_plain cs ≡ true)
            → ((not slash && not zero) && rest) ≡ true → ((not zero && not slash) && is_plain cs) ≡ true
        by true zero rest later e = absurd (cc)
        by false true rest later e = absurd (cc)
        by false false rest later e = later e

    dots : (bytes : List ℕ) → not (bytes_eq bytes (46 ∷ [])) ≡ true → not (bytes_eq bytes (46 ∷ 46 ∷ [])) ≡ true
        → not (is_dots bytes) ≡ true
    dots [] a b = refl
    dots (x ∷ []) a b = one (x == 46) a
      where
        one : (v : Bool) → not (v && true) ≡ true → not v ≡ true
        one true e = e
        one false e = refl
    dots (x ∷ y ∷ []) a b = two (x == 46) (y == 46) b
      where
        two : (v w : Bool) → not (v && (w && true)) ≡ true → not (v && w) ≡ true
        two true true e = e
        two true false e = refl
        two false w e = refl
    dots (x ∷ y ∷ z ∷ rest) a b = refl

-- ---- nodes

pub file_fits : (exec : Bool) (bytes : List ℕ) (size total len depth : ℕ) → len ≡ length bytes
    → total ≡ size + (10 + len) → depth ≤ 64 → FitsFrom depth size (File exec bytes, total)
file_fits exec bytes size total len depth l is deep = (
  fits_file exec bytes depth ∙ le-leb depth 64 deep,
  is ∙ ap (λ n. size + (10 + n)) l
      ∙ ap (λ n. size + n) (sym (file_length exec bytes)),
)

pub link_fits : (target : List ℕ) (size total depth : ℕ) → is_target target ≡ true
    → total ≡ size + (3 + length target) → depth ≤ 64 → FitsFrom depth size (Link target, total)
link_fits target size total depth form is deep = (
  fits_link target depth ∙ and_from _ _ (le-leb depth 64 deep) form,
  is
      ∙ ap (λ n. size + n) (sym (link_length target)),
)

pub few_entries : (es : List Named) → length es ≤ length (entries_bytes es)
few_entries [] = omega arith
few_entries (e ∷ es) = let rest : length es ≤ length (entries_bytes es) = few_entries es
    in omega (arith, length-append (entry_bytes e) (entries_bytes es), entry_length e)

pub folder_fits : (es : List Named) (size start total levels : ℕ) → levels ≤ 64
    → entries_fit None es (65 - levels) ≡ true → start ≡ size + 5 → total ≡ start + length (entries_bytes es)
    → total ≤ limit → FitsFrom (64 - levels) size (Folder es, total)
folder_fits es size start total levels deep fit begins is few = (
  fits_folder es (64 - levels) ∙ and_from _ _ (le-leb (64 - levels) 64 (omega arith))
      (and_from _ _ (lt-ltb (length es) (2 ^ 32) (let n : length es ≤ length (entries_bytes es) = few_entries es
      in omega arith)) (ap (entries_fit None es) (let e : suc (64 - levels) ≡ 65 - levels = omega arith in e)
      ∙ fit)),
  (let f : length (node_bytes (Folder es)) ≡ 5 + length (entries_bytes es) = folder_length es
      in omega arith),
)

-- one entry more
pub push_fits : (es : List Named) (name : List ℕ) (node : Node) (depth : ℕ) → entries_fit None es depth ≡ true
    → is_name name ≡ true → follows (last_name es) name ≡ true → fits node depth ≡ true
    → entries_fit None (es ++ record { name = name; node = node } ∷ []) depth ≡ true
push_fits es name node depth fit form behind one = entries_fit_push None es
    (record { name = name; node = node }) depth fit (and_from _ _ form behind) one

pub push_bytes : (es : List Named) (name : List ℕ) (node : Node) (size before now : ℕ)
    → before ≡ size + length (entries_bytes es) → now ≡ before + (2 + length name) + length (node_bytes node)
    → now ≡ size + length (entries_bytes (es ++ record { name = name; node = node } ∷ []))
push_bytes es name node size before now a b = omega (arith, a, b, more es, one)
  where
    e : Named
    e = record { name = name; node = node }

    one : length (entry_bytes e) ≡ 2 + length name + length (node_bytes node)
    one = entry_length e

    more : (es : List Named) → length (entries_bytes (es ++ e ∷ []))
        ≡ length (entries_bytes es) + length (entry_bytes e)
    more [] = omega (arith, length-append (entry_bytes e) [])
    more (x ∷ xs) = omega (
      arith,
      length-append (entry_bytes x) (entries_bytes (xs ++ e ∷ [])),
      length-append
          (entry_bytes x) (entries_bytes xs),
      more xs,
    )

-- a whole tree
pub root_measured : (root : Node) (size : ℕ) → FitsFrom 0 5 (root, size) → size ≤ limit → IsMeasured root size
root_measured root size fit few = record {
  fit = fit.0;
  few = few;
  is = omega
      (arith, fit.1, length-append magic (node_bytes root));
}

-- ---- one name more

-- the names at a place of a list
pub next_name : (names : List (List ℕ)) (i : ℕ) (name : List ℕ) → i < length names → name ≡ get_or names i name
    → drop i names ≡ name ∷ drop (i + 1) names
next_name names i name lt is = rw add-one (drop-cons names i name lt ∙ ap (λ y. y ∷ drop (suc i) names) (sym is))

pub pushed_names : (names : List (List ℕ)) (i : ℕ) (name : List ℕ) → i < length names → name ≡ get_or names i name
    → AreNames (drop i names) → AreNames (drop (i + 1) names)
pushed_names names i name lt is all = (subst AreNames (next_name names i name lt is) all).2

-- what `push` leaves of the entries
pub pushed_is : (es now : List Named) (name copied : List ℕ) (node : Node) → copied ≡ name
    → now ≡ es ++ record { name = copied; node = node } ∷ []
    → now ≡ es ++ record { name = name; node = node } ∷ []
pushed_is es now name copied node same is = is ∙ ap (λ n. es ++ record { name = n; node = node } ∷ []) same

pub pushed_behind : (es now : List Named) (names : List (List ℕ)) (i : ℕ) (name : List ℕ) (node : Node)
    → i < length names → name ≡ get_or names i name → AreNames (drop i names)
    → now ≡ es ++ record { name = name; node = node } ∷ [] → FollowAll (last_name now) (drop (i + 1) names)
pushed_behind es now names i name node lt is all e = subst (λ l. FollowAll l (drop (i + 1) names))
    (sym (ap last_name e ∙ last_from-push None es (record { name = name; node = node })))
    (leads name (drop (i + 1) names) (subst AreNames (next_name names i name lt is) all).1)

pub pushed_fits : (es now : List Named) (names : List (List ℕ)) (i : ℕ) (name : List ℕ) (node : Node) (depth : ℕ)
    → i < length names → name ≡ get_or names i name → entries_fit None es depth ≡ true → is_name name ≡ true
    → FollowAll (last_name es) (drop i names) → fits node depth ≡ true
    → now ≡ es ++ record { name = name; node = node } ∷ [] → entries_fit None now depth ≡ true
pushed_fits es now names i name node depth lt is fit form behind one e = ap (λ l. entries_fit None l depth) e
    ∙ push_fits es name node depth fit form (subst (FollowAll (last_name es))
    (next_name names i name lt is) behind).0 one

pub pushed_bytes : (es now : List Named) (name : List ℕ) (node : Node) (size before after : ℕ)
    → before ≡ size + length (entries_bytes es) → after ≡ before + (2 + length name) + length (node_bytes node)
    → now ≡ es ++ record { name = name; node = node } ∷ [] → after ≡ size + length (entries_bytes now)
pushed_bytes es now name node size before after a b e = push_bytes es name node size before after a b
    ∙ ap (λ l. size + length (entries_bytes l)) (sym e)

-- a folder, from what was read of it
pub read_folder_fits : (es : List Named) (size start total levels : ℕ) → levels ≤ 64
    → entries_fit None es (65 - levels) ≡ true → Ok start ≡ reading.room (size + 5)
    → total ≡ start + length (entries_bytes es) → total ≤ limit → FitsFrom (64 - levels) size (Folder es, total)
read_folder_fits es size start total levels deep fit begins is few = folder_fits es size start total levels deep
    fit (by (nat_le (size + 5) limit) begins) is few
  where
    by : (v : Bool) → Ok start ≡ cond v (Ok (size + 5)) (Err (Limit TreeLimit)) → start ≡ size + 5
    by true e = cc
    by false e = absurd (cc)

pub utf8_name : (name text bytes : List ℕ) → IsTrue (is_part name) → text ≡ name → bytes ≡ text → IsUtf8 bytes
    → is_name name ≡ true
utf8_name name text bytes part t b utf8 = part_name name part
    (ap is_utf8 (sym (b ∙ t)) ∙ is_utf8-from_IsUtf8 bytes utf8)
