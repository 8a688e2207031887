-- What is read of a folder is a tree, where the files stand at paths that are text.
use Rattle.std.proofs.Common.{◌≡◌, ◌∙◌, refl, sym, ap, subst, arith, ℕ, zero, suc, ◌+◌, ◌-◌, ◌≤◌, Bool, true, false}
use Rattle.std.proofs.Common.{cond, T, ◌&&◌, List, [], ◌∷◌, ◌++◌, length, length-append, drop, Option, Some, None}
use Rattle.std.proofs.Common.{is_some, Result, Ok, Err, take, nat_eq}
use Rattle.std.specs.Prelude.{IsTrue, nat_le}
use Rattle.std.specs.List.{cons_option, filter_map, starts_with}
use Rattle.std.specs.FinMap.{entries, entries_sorted, is_sorted}
use Rattle.std.specs.FinMap.Entries.{below_all}
use Rattle.std.specs.Option.{unwrap_or}
use Rattle.std.specs.Ordering.{is_lt, nat_cmp, ordering_then}
use Rattle.std.specs.Cmp.Lexicographic.{slice_cmp}
use Rattle.std.specs.declared.cmp.Ordering.{Ordering}
use Rattle.std.proofs.lemmas.Bool.{and_from, le-leb, leb-true}
use Rattle.std.proofs.lemmas.Cmp.{nat_cmp_total, tied_itself}
use Rattle.std.proofs.lemmas.List.{take-append-drop}
use Rattle.std.proofs.lemmas.Slice.Eq.{bytes_eq-Decides}
use Rattle.std.proofs.lemmas.Str.{is_utf8-from_IsUtf8}
use Rattle.cnb_world.specs.Listing.{names_in}
use Rattle.cnb_world.specs.Path.{is_part, joined}
use Rattle.cnb_world.specs.Tree.{Tree, is_within, item_at}
use Rattle.cnb_world.specs.declared.limits.LimitKind.TheVariants.{Tree as TreeLimit}
use Rattle.cnb_world.specs.declared.world.Item.{Item}
use Rattle.cnb_world.specs.declared.world.Item.TheVariants as item
use Rattle.tree_canon.specs.Fits.{entries_fit, fits, is_tree, name_fits, Fitting}
use Rattle.tree_canon.specs.Names.{follows, is_name, is_target}
use Rattle.tree_canon.specs.Spelling.{entries_bytes, entry_bytes, limit, node_bytes, spelling_of}
use Rattle.tree_canon.specs.declared.node.Named.{Named}
use Rattle.tree_canon.specs.declared.node.Node.{Node}
use Rattle.tree_canon.specs.declared.node.Node.TheVariants as node
use Rattle.tree_canon.proofs.Equations.{fits_named}
use Rattle.tree_canon.proofs.Lengths.{entry_length}
use Rattle.tree_store.specs.Reading.{◌>>=◌, FitsFrom, Sized, entry_in_front, folder_of, folder_root, in_order, node_at}
use Rattle.tree_store.specs.Reading.{node_of, room, sized, too_deep, tree_in}
use Rattle.tree_store.specs.declared.fault.StoreFault.{StoreFault}
use Rattle.tree_store.specs.declared.fault.StoreFault.TheVariants.{Limit}
use Rattle.tree_store.proofs.Fitting.{FollowAll, any_follows, file_fits, link_fits, part_name, read_folder_fits}
use Rattle.tree_store.proofs.Fitting.{root_measured}
use Rattle.store_laws.specs.Texts.{AreTexts}
use Rattle.store_laws.proofs.Texts.{name_text, stands_text, within_deeper}

-- ---- the names in a folder ascend

abbrev order : List ℕ → List ℕ → Ordering
order = slice_cmp nat_cmp

abbrev Entries : Type 0
Entries = List (List ℕ × Item)

-- names of which each may stand behind those before it
abbrev Ascend : List (List ℕ) → Type 0
Ascend [] = Unit {0}
Ascend (name ∷ names) = IsTrue (is_part name) × FollowAll (Some name) names × Ascend names

module _ (front : List ℕ) where
  abbrev below : List ℕ → Option (List ℕ)
  below path = cond (starts_with nat_eq path front && is_part (drop (length front) path))
      (Some (drop (length front) path)) None

  abbrev names_of : Entries → List (List ℕ)
  names_of es = filter_map (λ e. below e.0) es

  record IsBelow (path name : List ℕ) : Type 0 where
    whole : path ≡ front ++ name
    part : IsTrue (is_part name)

  below_is : (path name : List ℕ) → below path ≡ Some name → IsBelow path name
  below_is path name h = by (starts_with nat_eq path front) refl (is_part rest) refl h
    where
      rest : List ℕ
      rest = drop (length front) path

      by : (a : Bool) → starts_with nat_eq path front ≡ a → (b : Bool) → is_part rest ≡ b
          → cond (a && b) (Some rest) None ≡ Some name → IsBelow path name
      by true starts true part e = let is : rest ≡ name = ap (λ o. unwrap_or o name) e in record {
        whole = sym (take-append-drop (length front) path) ∙ ap (λ f. f ++ rest)
            (sym ((bytes_eq-Decides front (take (length front) path)).0 starts)) ∙ ap (λ r. front ++ r) is;
        part = subst (λ r. IsTrue (is_part r)) is part;
      }
      by true starts false part e = absurd (cc)
      by false starts b part e = absurd (cc)

  same_order : (front a b : List ℕ) → order (front ++ a) (front ++ b) ≡ order a b
  same_order [] a b = refl
  same_order (c ∷ cs) a b = ap (λ o. ordering_then o (order (cs ++ a) (cs ++ b))) (tied_itself nat_cmp_total c)
      ∙ same_order cs a b

  is_true : (b : Bool) → T b → b ≡ true
  is_true true h = refl
  is_true false h = absurd h

  first_of : (a b : Bool) → T (a && b) → T a
  first_of true b h = tt
  first_of false b h = absurd h

  second_of : (a b : Bool) → T (a && b) → T b
  second_of true b h = h
  second_of false b h = absurd h

  follow_below : (path name : List ℕ) (es : Entries) → path ≡ front ++ name → T (below_all order path es)
      → FollowAll (Some name) (names_of es)
  follow_below path name [] is h = tt
  follow_below path name (e ∷ es) is h = by (below e.0) refl
      (follow_below path name es is (second_of _ _ h))
    where
      by : (o : Option (List ℕ)) → below e.0 ≡ o → FollowAll (Some name) (names_of es)
          → FollowAll (Some name) (cons_option o (names_of es))
      by None found later = later
      by (Some other) found later = (
        ap is_lt (sym (same_order front name other) ∙ ap (λ p. order p (front ++ other)) (sym is)
            ∙ ap (order path) (sym (below_is e.0 other found).whole))
            ∙ is_true (is_lt (order path e.0)) (first_of _ _ h),
        later,
      )

  names_ascend : (es : Entries) → T (is_sorted order es) → Ascend (names_of es)
  names_ascend [] h = tt
  names_ascend (e ∷ es) h = by (below e.0) refl (names_ascend es (second_of _ _ h))
    where
      by : (o : Option (List ℕ)) → below e.0 ≡ o → Ascend (names_of es) → Ascend (cons_option o (names_of es))
      by None found later = later
      by (Some name) found later =
          let is : IsBelow e.0 name = below_is e.0 name found in
          (is.part, follow_below e.0 name es is.whole (first_of _ _ h), later)

folder_ascends : (files : Tree) (folder : List ℕ) → Ascend (names_in files folder)
folder_ascends files folder = names_ascend (joined folder []) (entries files) (entries_sorted files)

-- ---- what answers come to

-- the parts of a pair that is answered
abbrev first_or : {A B : Type 0} → A → Result (A × B) StoreFault → A
first_or other (Ok pair) = pair.0
first_or other (Err fault) = other

abbrev second_or : {A B : Type 0} → B → Result (A × B) StoreFault → B
second_or other (Ok pair) = pair.1
second_or other (Err fault) = other

same_first : {A B : Type 0} (a c : A) (b d : B) → ◌≡◌ {A = Result (A × B) StoreFault} (Ok (a, b)) (Ok (c, d)) → a ≡ c
same_first a c b d h = ap (first_or a) h

same_second : {A B : Type 0} (a c : A) (b d : B) → ◌≡◌ {A = Result (A × B) StoreFault} (Ok (a, b)) (Ok (c, d)) → b ≡ d
same_second a c b d h = ap (second_or b) h

sized_is : (r : Result ℕ StoreFault) (root tree : Node) (now : ℕ) → (r >>= sized root) ≡ Ok (tree, now)
    → (root ≡ tree) × (r ≡ Ok now)
sized_is (Ok size) root tree now h = (same_first root tree size now h, ap Ok (same_second root tree size now h))
sized_is (Err fault) root tree now h = absurd (cc)

room_is : (size start : ℕ) → room size ≡ Ok start → (start ≡ size) × (start ≤ limit)
room_is size start h = by (nat_le size limit) refl h
  where
    by : (v : Bool) → nat_le size limit ≡ v → cond v (Ok size) (Err (Limit TreeLimit)) ≡ Ok start
        → (start ≡ size) × (start ≤ limit)
    by true e h =
        let same : size ≡ start = cc in
        let few : size ≤ limit = leb-true size limit e in
        (sym same, subst (λ n. n ≤ limit) same few)
    by false e h = absurd (cc)

record IsOfEntries (r : Result ℕ StoreFault) (reading : ℕ → Result (List Named × ℕ) StoreFault) (tree : Node)
    (now : ℕ) : Type 0 where
  es : List Named
  start : ℕ
  begins : r ≡ Ok start
  read : reading start ≡ Ok (es, now)
  tree_is : node.Folder es ≡ tree

folder_read : (r : Result ℕ StoreFault) (reading : ℕ → Result (List Named × ℕ) StoreFault) (tree : Node) (now : ℕ)
    → (r >>= (λ s. reading s >>= folder_of)) ≡ Ok (tree, now) → IsOfEntries r reading tree now
folder_read (Err fault) reading tree now h = absurd (cc)
folder_read (Ok start) reading tree now h = by (reading start) refl h
  where
    by : (found : Result (List Named × ℕ) StoreFault) → reading start ≡ found
        → (found >>= folder_of) ≡ Ok (tree, now) → IsOfEntries (Ok start) reading tree now
    by (Err fault) e h = absurd (cc)
    by (Ok (es, last)) e h =
        let is : node.Folder es ≡ tree = same_first (node.Folder es) tree last now h in
        let end : last ≡ now = same_second (node.Folder es) tree last now h in
        record { es = es; start = start; begins = refl; read = e ∙ ap (λ n. Ok (es, n)) end; tree_is = is }

record IsFirstOf (below : List ℕ → ℕ → Result Sized StoreFault) (name : List ℕ) (names : List (List ℕ)) (at : ℕ)
    (es : List Named) (now : ℕ) : Type 0 where
  first : Node
  next : ℕ
  read : below name at ≡ Ok (first, next)
  rest : List Named
  others : in_order below names next ≡ Ok (rest, now)
  all : record { name = name; node = first } ∷ rest ≡ es

entry_read : (below : List ℕ → ℕ → Result Sized StoreFault) (name : List ℕ) (names : List (List ℕ)) (size now : ℕ)
    (es : List Named) → in_order below (name ∷ names) size ≡ Ok (es, now)
    → IsFirstOf below name names (size + (2 + length name)) es now
entry_read below name names size now es h = by (below name (size + (2 + length name))) refl h
  where
    by : (r : Result Sized StoreFault) → below name (size + (2 + length name)) ≡ r
        → (r >>= (λ one. in_order below names one.1 >>= entry_in_front name one.0)) ≡ Ok (es, now)
        → IsFirstOf below name names (size + (2 + length name)) es now
    by (Err fault) e h = absurd (cc)
    by (Ok (one, next)) e h = inner (in_order below names next) refl h
      where
        inner : (r : Result (List Named × ℕ) StoreFault) → in_order below names next ≡ r
            → (r >>= entry_in_front name one) ≡ Ok (es, now)
            → IsFirstOf below name names (size + (2 + length name)) es now
        inner (Err fault) f h = absurd (cc)
        inner (Ok (rest, last)) f h =
            let is : record { name = name; node = one } ∷ rest ≡ es
            = same_first (record { name = name; node = one } ∷ rest) es last now h in
            let end : last ≡ now = same_second (record { name = name; node = one } ∷ rest) es last now h in
            record {
              first = one;
              next = next;
              read = e;
              rest = rest;
              others = f ∙ ap (λ n. Ok (rest, n)) end;
              all = is;
            }

not_deep : (path : List ℕ) (o : Option Item) (read : Sized) → too_deep path o ≡ Ok read → ⊥
not_deep path None read h = cc
not_deep path (Some item.Odd) read h = cc
not_deep path (Some item.Folder) read h = cc
not_deep path (Some (item.File exec bytes)) read h = cc
not_deep path (Some (item.Link target)) read h = by (is_target target) h
  where
    by : (v : Bool) → cond v (too_deep path (Some item.Folder)) (too_deep path None) ≡ Ok read → ⊥
    by true h = cc
    by false h = cc

first_fits : (last : Option (List ℕ)) (e : Named) (es : List Named) (depth : ℕ) → name_fits last e.name ≡ true
    → fits e.node depth ≡ true → entries_fit (Some e.name) es depth ≡ true
    → entries_fit last (e ∷ es) depth ≡ true
first_fits last e es depth name one rest =
    ap (λ (f : Fitting). name_fits last f.0 && (f.1 depth && entries_fit (Some f.0) es depth)) (fits_named e)
    ∙ and_from (name_fits last e.name) (fits e.node depth && entries_fit (Some e.name) es depth) name
    (and_from (fits e.node depth) (entries_fit (Some e.name) es depth) one rest)

-- ---- nodes

module _ (top : List ℕ) (files : Tree) (texts : AreTexts top files) where
  -- what was read at a path fits, and has room
  record Fits (depth size : ℕ) (tree : Node) (now : ℕ) : Type 0 where
    fit : FitsFrom depth size (tree, now)
    few : now ≤ limit

  -- something stands where a node was read
  stands_at : (levels : ℕ) (path : List ℕ) (size : ℕ) (read : Sized) → node_at levels files path size ≡ Ok read
      → is_some (item_at files path) ≡ true
  stands_at zero path size read h = by (item_at files path) h
    where
      by : (o : Option Item) → too_deep path o ≡ Ok read → is_some o ≡ true
      by None h = absurd (cc)
      by (Some x) h = refl
  stands_at (suc levels) path size read h = by (item_at files path) h
    where
      by : (o : Option Item) → node_of files path (λ name. node_at levels files (joined path name)) size o ≡ Ok read
          → is_some o ≡ true
      by None h = absurd (cc)
      by (Some x) h = refl

  name_is : (levels : ℕ) (path name : List ℕ) (size : ℕ) (read : Sized) → is_within top path ≡ true
      → IsTrue (is_part name)
      → node_at levels files (joined path name) size ≡ Ok read → is_name name ≡ true
  name_is levels path name size read within part h = part_name name part (is_utf8-from_IsUtf8 name
      (name_text path name (stands_text top files (joined path name) texts
      (within_deeper top path name within)
      (stands_at levels (joined path name) size read h))))

  abbrev NodesFit : ℕ → Type 0
  NodesFit levels = (path : List ℕ) (size now : ℕ) (tree : Node) → is_within top path ≡ true → levels ≤ 65
      → node_at levels files path size ≡ Ok (tree, now) → Fits (65 - levels) size tree now

  record EntriesFit (last : Option (List ℕ)) (depth start : ℕ) (es : List Named) (now : ℕ) : Type 0 where
    fit : entries_fit last es depth ≡ true
    sum : now ≡ start + length (entries_bytes es)
    few : now ≤ limit

  entries_are : (levels : ℕ) → levels ≤ 65 → NodesFit levels → (path : List ℕ) → is_within top path ≡ true
      → (names : List (List ℕ)) (last : Option (List ℕ)) (start now : ℕ) (es : List Named) → FollowAll last names
      → Ascend names
      → start ≤ limit → in_order (λ name. node_at levels files (joined path name)) names start ≡ Ok (es, now)
      → EntriesFit last (65 - levels) start es now
  entries_are levels deep all path within [] last start now es follow ascend few h =
      let none : [] ≡ es = same_first [] es start now h in
      let same : start ≡ now = same_second [] es start now h in
      subst (λ l. EntriesFit last (65 - levels) start l now) none (record {
        fit = refl;
        sum = let e : now ≡ start + 0 = omega (arith, same) in e;
        few = let e : now ≤ limit = omega (arith, same, few) in e;
      })
  entries_are levels deep all path within (name ∷ names) last start now es follow ascend few h =
      let is = entry_read (λ name. node_at levels files (joined path name)) name names start now es h in
      let one = all (joined path name) (start + (2 + length name)) is.next is.first
      (within_deeper top path name within) deep is.read in
      let rest = entries_are levels deep all path within names (Some name) is.next now is.rest ascend.1 ascend.2 one.few
      is.others in
      let e : Named = record { name = name; node = is.first } in
      let named : is_name name ≡ true = name_is levels path name (start + (2 + length name)) (is.first, is.next)
      within ascend.0 is.read in
      let at : is.next ≡ start + (2 + length name) + length (node_bytes is.first) = one.fit.1 in
      let size : length (entry_bytes e) ≡ 2 + length name + length (node_bytes is.first) = entry_length e in
      let both : length (entries_bytes (e ∷ is.rest)) ≡ length (entry_bytes e) + length (entries_bytes is.rest)
      = length-append (entry_bytes e) (entries_bytes is.rest) in
      let more : now ≡ is.next + length (entries_bytes is.rest) = rest.sum in
      subst (λ l. EntriesFit last (65 - levels) start l now) is.all (record {
        fit = first_fits last e is.rest (65 - levels) (and_from (is_name name) (follows last name) named follow.0)
            one.fit.0 rest.fit;
        sum = omega arith;
        few = rest.few;
      })

  nodes_fit : (levels : ℕ) → NodesFit levels
  nodes_fit zero path size now tree within deep h = absurd (not_deep path (item_at files path) (tree, now) h)
  nodes_fit (suc levels) path size now tree within deep h = by (item_at files path) (nodes_fit levels) h
    where
      low : levels ≤ 64
      low = omega arith

      same : 64 - levels ≡ 65 - suc levels
      same = omega arith

      room_for : (tree : Node) → Fits (64 - levels) size tree now → Fits (65 - suc levels) size tree now
      room_for tree f = subst (λ d. Fits d size tree now) same f

      link : (target : List ℕ) (v : Bool) → is_target target ≡ v
          → cond v (room (size + (3 + length target)) >>= sized (node.Link target))
          (node_of files path (λ name. node_at levels files (joined path name)) size None) ≡ Ok (tree, now)
          → Fits (64 - levels) size tree now
      link target false e h = absurd (cc)
      link target true e h =
          let is = sized_is (room (size + (3 + length target))) (node.Link target) tree now h in
          let took = room_is (size + (3 + length target)) now is.1 in
          subst (λ t. Fits (64 - levels) size t now) is.0 (record {
            fit = link_fits target size now (64 - levels) e took.0 (omega arith);
            few = took.1;
          })

      by : (found : Option Item) → NodesFit levels
          → node_of files path (λ name. node_at levels files (joined path name)) size found ≡ Ok (tree, now)
          → Fits (65 - suc levels) size tree now
      by None all h = absurd (cc)
      by (Some item.Odd) all h = absurd (cc)
      by (Some (item.File exec bytes)) all h =
          let is = sized_is (room (size + (10 + length bytes))) (node.File exec bytes) tree now h in
          let took = room_is (size + (10 + length bytes)) now is.1 in
          room_for tree (subst (λ t. Fits (64 - levels) size t now) is.0 (record {
            fit = file_fits exec bytes size now (length bytes) (64 - levels) refl took.0 (omega arith);
            few = took.1;
          }))
      by (Some (item.Link target)) all h = room_for tree (link target (is_target target) refl h)
      by (Some item.Folder) all h =
          let is = folder_read (room (size + 5)) (λ s. in_order (λ name. node_at levels files (joined path name))
          (names_in files path) s) tree now h in
          let begun = room_is (size + 5) is.start is.begins in
          let entries = entries_are levels (omega arith) all path within (names_in files path) None is.start now is.es
          (any_follows (names_in files path)) (folder_ascends files path) begun.1 is.read in
          room_for tree (subst (λ t. Fits (64 - levels) size t now) is.tree_is (record {
            fit = read_folder_fits is.es size is.start now levels low entries.fit (sym is.begins) entries.sum
                entries.few;
            few = entries.few;
          }))

  -- ---- the tree of a folder

  abbrev node_or : Result Node StoreFault → Node → Node
  node_or (Ok root) other = root
  node_or (Err fault) other = other

  root_read : (o : Option Item) (root : List ℕ) (read : Result Sized StoreFault) (tree : Node)
      → folder_root root o read ≡ Ok tree → (now : ℕ) × (read ≡ Ok (tree, now))
  root_read None root read tree h = absurd (cc)
  root_read (Some item.Odd) root read tree h = absurd (cc)
  root_read (Some (item.File exec bytes)) root read tree h = absurd (cc)
  root_read (Some (item.Link target)) root read tree h = absurd (cc)
  root_read (Some item.Folder) root (Err fault) tree h = absurd (cc)
  root_read (Some item.Folder) root (Ok (found, now)) tree h =
      let is : found ≡ tree = ap (λ (r : Result Node StoreFault). node_or r found) h in
      (now, ap (λ t. Ok (t, now)) is)

  pub read_is_tree : (path : List ℕ) (tree : Node) → is_within top path ≡ true → tree_in path files ≡ Ok tree
      → is_tree tree ≡ true
  unfolding tree_in
  read_is_tree path tree within h =
      let (now, read) = root_read (item_at files path) path (node_at 65 files path 5) tree h in
      let all = nodes_fit 65 path 5 now tree within (omega arith) read in
      let measured = root_measured tree now all.fit all.few in
      and_from (fits tree 0) (nat_le (length (spelling_of tree)) limit) all.fit.0
      (le-leb (length (spelling_of tree)) limit (let is = measured.is in omega (arith, is, measured.few)))
