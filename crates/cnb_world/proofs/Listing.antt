-- A list of names that holds each name in a folder, and no other, is the folder's list.
use Rattle.std.proofs.Common.{◌≡◌, ◌≢◌, ℕ, Bool, true, false, cond, T, List, [], ◌∷◌, ◌++◌, ◌&&◌, ◌||◌, refl, sym, ap}
use Rattle.std.proofs.Common.{subst, ◌∙◌, Option, Some, None, is_some, Result, Ok, Err, IsTrue, length, take, drop}
use Rattle.std.proofs.Common.{nat_eq, append-nil, length-append, arith}
use Rattle.std.proofs.lemmas.List.{take-append-drop}
use Rattle.std.specs.Str.{bytes_eq}
use Rattle.std.specs.declared.cmp.Ordering.{Ordering}
use Rattle.std.specs.declared.cmp.Ordering.TheVariants.{Less, Equal, Greater}
use Rattle.std.specs.Ordering.{nat_cmp, is_lt, is_eq, ordering_reverse, ordering_then}
use Rattle.std.specs.Option.{unwrap_or}
use Rattle.std.specs.Cmp.Lexicographic.{slice_cmp}
use Rattle.std.specs.List.{list_any, filter_map, cons_option, starts_with, AllByRecursion}
use Rattle.std.specs.FinMap.{get, entries, entries_sorted, get-entries, find, is_sorted, slice_cmp-IsAntisymmetric}
use Rattle.std.specs.FinMap.{nat_cmp-IsAntisymmetric}
use Rattle.std.specs.FinMap.Entries.{below_all}
use Rattle.std.proofs.lemmas.Cmp.{nat_cmp_total, nat_list_cmp_total, tied_itself}
use Rattle.std.proofs.lemmas.Map.Text.{is_eq-slice_cmp}
use Rattle.std.proofs.lemmas.Slice.Eq.{bytes_eq-Decides}
use Rattle.std.proofs.Math.Seq.{take-append_seam, drop-append_seam}
use Rattle.std.specs.Prelude.{IfOk, IfSome}
use Rattle.cnb_world.specs.declared.world.FileFault.{FileFault}
use Rattle.cnb_world.specs.declared.world.Item.{Item}
use Rattle.cnb_world.specs.declared.world.Item.TheVariants.{Folder}
use Rattle.cnb_world.specs.Path.{is_part, joined}
use Rattle.cnb_world.specs.Tree.{Tree, item_at, is_root, Lists}
use Rattle.cnb_world.specs.Calls.{AreNames}
use Rattle.cnb_world.specs.Listing.{names_in}
use Rattle.cnb_world.proofs.Trees.{bytes_eq-same, bytes_eq-other}
use Rattle.cnb_world.proofs.Folders.{not_longer}

abbrev order : List ℕ → List ℕ → Ordering
order a b = slice_cmp nat_cmp a b

-- a name before others
abbrev Leads : List ℕ → List (List ℕ) → Type 0
Leads n ns = AllByRecursion (λ m. order n m ≡ Less) ns

-- ---- lists of names with the same members

leads_further : (a b : List ℕ) (ns : List (List ℕ)) → order a b ≡ Less → Leads b ns → Leads a ns
leads_further a b [] h all = tt
leads_further a b (n ∷ ns) h all = (nat_list_cmp_total.trans a b n h all.0, leads_further a b ns h all.1)

less_apart : (a b : List ℕ) → order a b ≡ Less → bytes_eq a b ≡ false
less_apart a b h = sym (is_eq-slice_cmp a b) ∙ ap is_eq h

leads_absent : (n : List ℕ) (ns : List (List ℕ)) → Leads n ns → list_any (bytes_eq n) ns ≡ false
leads_absent n [] all = refl
leads_absent n (m ∷ ns) all = ap (λ v. v || list_any (bytes_eq n) ns) (less_apart n m all.0) ∙ leads_absent n ns all.1

first_there : (n : List ℕ) (ns : List (List ℕ)) → list_any (bytes_eq n) (n ∷ ns) ≡ true
first_there n ns = ap (λ v. v || list_any (bytes_eq n) ns) (bytes_eq-same n)

not_before : (n m : List ℕ) (ns : List (List ℕ)) → Leads m ns → list_any (bytes_eq n) (m ∷ ns) ≡ true → order n m ≢ Less
not_before n m ns all there h = let no : false ≡ true = sym
    (leads_absent n (m ∷ ns) (h, leads_further n m ns h all)) ∙ there in cc

abbrev SameMembers : List (List ℕ) → List (List ℕ) → Type 0
SameMembers ns ms = (name : List ℕ) → IsTrue (is_part name) → list_any (bytes_eq name) ns ≡ list_any (bytes_eq name) ms

same_first : (n m : List ℕ) → order n m ≢ Less → order m n ≢ Less → n ≡ m
same_first n m a b = by (order n m) refl
  where
    by : (o : Ordering) → order n m ≡ o → n ≡ m
    by Less e = absurd (a e)
    by Equal e = slice_cmp-IsAntisymmetric nat_cmp-IsAntisymmetric n m e
    by Greater e = absurd (b (nat_list_cmp_total.antisymm m n ∙ ap ordering_reverse e))

same_behind : (n : List ℕ) (ns ms : List (List ℕ)) → Leads n ns → Leads n ms → SameMembers (n ∷ ns) (n ∷ ms)
    → SameMembers ns ms
same_behind n ns ms before_ns before_ms same name part = by (bytes_eq name n) refl (same name part)
  where
    by : (v : Bool) → bytes_eq name n ≡ v → (v || list_any (bytes_eq name) ns)
        ≡ (v || list_any (bytes_eq name) ms) → list_any (bytes_eq name) ns ≡ list_any (bytes_eq name) ms
    by true e h = let is : name ≡ n = (bytes_eq-Decides name n).0 e in ap (λ q. list_any (bytes_eq q) ns) is
        ∙ leads_absent n ns before_ns ∙ sym (leads_absent n ms before_ms)
        ∙ sym (ap (λ q. list_any (bytes_eq q) ms) is)
    by false e h = h

pub same_names : (ns ms : List (List ℕ)) → AreNames ns → AreNames ms → SameMembers ns ms → ns ≡ ms
same_names [] [] a b same = refl
same_names [] (m ∷ ms) a b same = absurd (let no : false ≡ true = same m b.0 ∙ first_there m ms in cc)
same_names (n ∷ ns) [] a b same = absurd (let no : true ≡ false = sym (first_there n ns) ∙ same n a.0 in cc)
same_names (n ∷ ns) (m ∷ ms) a b same = ap (λ q. q ∷ ns) first
    ∙ ap (λ rest. m ∷ rest) (same_names ns ms a.2 b.2
    (same_behind m ns ms (subst (λ q. Leads q ns) first a.1) b.1
    (subst (λ q. SameMembers (q ∷ ns) (m ∷ ms)) first same)))
  where
    first : n ≡ m
    first = same_first n m (not_before n m ms b.1 (sym (same n a.0) ∙ first_there n ns))
        (not_before m n ns a.1 (same m b.0 ∙ first_there m ms))

-- ---- the names of a folder's paths

abbrev below : List ℕ → List ℕ → Option (List ℕ)
below front path = cond (starts_with nat_eq path front && is_part (drop (length front) path))
    (Some (drop (length front) path)) None

-- a path is a front and a name
record Below (front path name : List ℕ) : Type 0 where
  whole : path ≡ front ++ name
  part : IsTrue (is_part name)

same_Some : (x y : List ℕ) → Some x ≡ Some y → x ≡ y
same_Some x y e = ap (λ o. unwrap_or o x) e

below_is : (front path name : List ℕ) → below front path ≡ Some name → Below front path name
below_is front path name h = by (starts_with nat_eq path front) refl (is_part rest) refl h
  where
    rest : List ℕ
    rest = drop (length front) path

    by : (a : Bool) → starts_with nat_eq path front ≡ a → (b : Bool) → is_part rest ≡ b
        → cond (a && b) (Some rest) None ≡ Some name → Below front path name
    by true starts true part e = let is : rest ≡ name = same_Some rest name e in record {
      whole = sym (take-append-drop (length front) path) ∙ ap (λ f. f ++ rest)
          (sym ((bytes_eq-Decides front (take (length front) path)).0 starts)) ∙ ap (λ r. front ++ r) is;
      part = subst (λ r. IsTrue (is_part r)) is part;
    }
    by true starts false part e = absurd (cc)
    by false starts b part e = absurd (cc)

below_joined : (front name : List ℕ) → IsTrue (is_part name) → below front (front ++ name) ≡ Some name
below_joined front name part =
    ap (λ f. cond (bytes_eq front f && is_part (drop (length front) (front ++ name)))
    (Some (drop (length front) (front ++ name))) None) (take-append_seam front name)
    ∙ ap (λ r. cond (bytes_eq front front && is_part r) (Some r) None) (drop-append_seam front name)
    ∙ ap (λ v. cond (v && is_part name) (Some name) None) (bytes_eq-same front)
    ∙ ap (λ v. cond v (Some name) None) part

same_front : (front a b : List ℕ) → order (front ++ a) (front ++ b) ≡ order a b
same_front [] a b = refl
same_front (c ∷ cs) a b = ap (λ o. ordering_then o (order (cs ++ a) (cs ++ b))) (tied_itself nat_cmp_total c)
    ∙ same_front cs a b

same_front_test : (front a b : List ℕ) → bytes_eq (front ++ a) (front ++ b) ≡ bytes_eq a b
same_front_test front a b = sym (is_eq-slice_cmp (front ++ a) (front ++ b)) ∙ ap is_eq (same_front front a b)
    ∙ is_eq-slice_cmp a b

abbrev Entries : Type 0
Entries = List (List ℕ × Item)

abbrev names_behind : List ℕ → Entries → List (List ℕ)
names_behind front es = filter_map (λ e. below front e.0) es

is_less : (o : Ordering) → T (is_lt o) → o ≡ Less
is_less Less h = refl
is_less Equal h = absurd h
is_less Greater h = absurd h

first_of_both : (a b : Bool) → T (a && b) → T a
first_of_both true b h = tt
first_of_both false b h = absurd h

second_of_both : (a b : Bool) → T (a && b) → T b
second_of_both true b h = h
second_of_both false b h = absurd h

leads_below : (front path name : List ℕ) (es : Entries) → path ≡ front ++ name
    → T (below_all (slice_cmp nat_cmp) path es) → Leads name (names_behind front es)
leads_below front path name [] is h = tt
leads_below front path name (e ∷ es) is h = by (below front e.0) refl
    (leads_below front path name es is (second_of_both _ _ h))
  where
    by : (o : Option (List ℕ)) → below front e.0 ≡ o → Leads name (names_behind front es)
        → Leads name (cons_option o (names_behind front es))
    by None found later = later
    by (Some other) found later = (
      sym (same_front front name other) ∙ ap (λ p. order p (front ++ other)) (sym is)
          ∙ ap (order path) (sym (below_is front e.0 other found).whole)
          ∙ is_less (order path e.0) (first_of_both _ _ h),
      later,
    )

are_names : (front : List ℕ) (es : Entries) → T (is_sorted (slice_cmp nat_cmp) es) → AreNames (names_behind front es)
are_names front [] h = tt
are_names front (e ∷ es) h = by (below front e.0) refl (are_names front es (second_of_both _ _ h))
  where
    by : (o : Option (List ℕ)) → below front e.0 ≡ o → AreNames (names_behind front es)
        → AreNames (cons_option o (names_behind front es))
    by None found later = later
    by (Some name) found later = let is : Below front e.0 name = below_is front e.0 name found
        in (is.part, leads_below front e.0 name es is.whole (first_of_both _ _ h), later)

not_Some : (x : List ℕ) → None ≢ Some x
not_Some x e = let no : false ≡ true = ap is_some e in cc

any-names : (front name : List ℕ) → IsTrue (is_part name) → (es : Entries)
    → list_any (bytes_eq name) (names_behind front es) ≡ is_some (find (slice_cmp nat_cmp) (front ++ name) es)
any-names front name part [] = refl
any-names front name part (e ∷ es) = by (below front e.0) refl
    ∙ ap (λ v. v || list_any (bytes_eq name) (names_behind front es)) (sym (is_eq-slice_cmp (front ++ name) e.0))
    ∙ at_first (is_eq (order (front ++ name) e.0)) (any-names front name part es)
  where
    at_first : (v : Bool) → list_any (bytes_eq name) (names_behind front es)
        ≡ is_some (find (slice_cmp nat_cmp) (front ++ name) es)
        → (v || list_any (bytes_eq name) (names_behind front es))
        ≡ is_some (cond v (Some e.1) (find (slice_cmp nat_cmp) (front ++ name) es))
    at_first true later = refl
    at_first false later = later

    by : (o : Option (List ℕ)) → below front e.0 ≡ o → list_any (bytes_eq name)
        (cons_option o (names_behind front es)) ≡ (bytes_eq (front ++ name) e.0
        || list_any (bytes_eq name) (names_behind front es))
    by None found = ap (λ v. v || list_any (bytes_eq name) (names_behind front es))
        (sym (bytes_eq-other (front ++ name) e.0 (λ same. not_Some name
        (sym found ∙ ap (below front) (sym same) ∙ below_joined front name part))))
    by (Some other) found = ap (λ v. v || list_any (bytes_eq name) (names_behind front es))
        (sym (same_front_test front name other) ∙ ap (bytes_eq (front ++ name))
        (sym (below_is front e.0 other found).whole))

-- ---- the folder's list

joined_front : (folder name : List ℕ) → joined folder name ≡ joined folder [] ++ name
joined_front folder name = ap (λ f. f ++ name)
    (sym (append-nil (cond (bytes_eq folder (47 ∷ [])) folder (folder ++ 47 ∷ []))))

-- a path of a name is longer than `/`
below_root : (folder name : List ℕ) → IsTrue (is_part name) → is_root (joined folder name) ≡ false
below_root folder [] part = absurd (cc)
below_root folder (c ∷ cs) part = by (bytes_eq folder (47 ∷ [])) refl
  where
    by : (v : Bool) → bytes_eq folder (47 ∷ []) ≡ v → is_root (cond v folder (folder ++ 47 ∷ []) ++ c ∷ cs) ≡ false
    by true e = ap (λ f. is_root (f ++ c ∷ cs)) ((bytes_eq-Decides folder (47 ∷ [])).0 e)
    by false e = not_longer ((folder ++ 47 ∷ []) ++ c ∷ cs) (47 ∷ [])
        (omega (arith, length-append (folder ++ 47 ∷ []) (c ∷ cs), length-append folder (47 ∷ [])))

at_key : (tree : Tree) (folder name : List ℕ) → IsTrue (is_part name)
    → item_at tree (joined folder name) ≡ get tree (joined folder name)
at_key tree folder name part = ap (λ v. cond v (Some Folder) (get tree (joined folder name)))
    (below_root folder name part)

pub names_listed : (tree : Tree) (folder : List ℕ) (names : List (List ℕ)) → Lists tree folder names
    → AreNames names → names ≡ names_in tree folder
names_listed tree folder listed lists are = same_names listed (names_in tree folder) are
    (are_names (joined folder []) (entries tree) (entries_sorted tree)) (λ name part.
    lists name part ∙ ap is_some (at_key tree folder name part ∙ ap (get tree) (joined_front folder name)
    ∙ get-entries tree (joined folder [] ++ name))
    ∙ sym (any-names (joined folder []) name part (entries tree)))

-- what a call that lists tells of its names
pub told_names : (told : Option Tree) (folder : List ℕ) (result : Result (List (List ℕ)) FileFault)
    → IfOk result AreNames
    → IfSome told (λ files. IfOk result (Lists files folder))
    → IfSome told (λ files. IfOk result (λ names. names ≡ names_in files folder))
told_names None folder result are lists = tt
told_names (Some files) folder (Err fault) are lists = tt
told_names (Some files) folder (Ok names) are lists = names_listed files folder names lists are
