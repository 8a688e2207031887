-- The machine reads each node that fits.
use Rattle.std.proofs.Common.{Option, Some, ◌≡◌, ℕ, suc, ◌+◌, ◌^◌, ◌≤◌, ◌<◌, ◌∙◌, List, [], ◌∷◌, ◌++◌, map, length}
use Rattle.std.proofs.Common.{arith, refl, sym, ap, subst, append_assoc, false, Bool, if◌then◌else◌, true, ◌&&◌, w16}
use Rattle.std.proofs.Common.{w32, w64, length-append, None}
use Rattle.std.specs.Prelude.{nat_lt, nat_le, ◌==◌}
use Rattle.std.specs.Int.{to_be_bytes, from_be_bytes}
use Rattle.std.proofs.lemmas.Bool.{lt-ltb, le-ltb, le-leb, and_parts, and_from, ltb-true, ne_eqb}
use Rattle.std.proofs.lemmas.List.{append-nil}
use Rattle.std.proofs.lemmas.Nat.{from_be_bytes-to_be_bytes_2, from_be_bytes-to_be_bytes_8}
use Rattle.tree_canon.specs.Spelling.{limit, node_bytes, entry_bytes, entries_bytes, folder_head, name_bytes}
use Rattle.tree_canon.specs.Fits.{Fitting, fits, entries_fit, name_fits}
use Rattle.tree_canon.specs.CutTree.{OpenFolder, Tag, Count, NameLength, Executable, FileLength, Contents, TargetLength}
use Rattle.tree_canon.specs.CutTree.{Target, CutTree, last_name}
use Rattle.tree_canon.specs.Rules.{unless}
use Rattle.tree_canon.proofs.Texts.{target_sizes}
use Rattle.tree_canon.proofs.LastNames.{last_from-push}
use Rattle.tree_canon.specs.declared.fault.Reason.TheVariants as reasons
use Rattle.tree_canon.specs.Reading.{cut_at, filled, opened}
use Rattle.tree_canon.specs.declared.node.Node.{Node}
use Rattle.tree_canon.specs.declared.node.Named.{Named}
use Rattle.tree_canon.specs.declared.node.Node.TheVariants.{Folder, File, Link, rolls-Folder, rolls-File, rolls-Link}
use Rattle.tree_canon.specs.declared.node.Node.TheOpen as layer
use Rattle.tree_canon.specs.declared.node.Node.TheViews.{roll-Node, roll-Named}
use Rattle.tree_canon.specs.declared.node.Node.TheFolds.{map-Node, ind-Node}
use Rattle.tree_canon.proofs.Equations.{node_bytes_folder, node_bytes_file, node_bytes_link, entry_bytes_is}
use Rattle.tree_canon.proofs.Equations.{fits_folder, fits_file, fits_link, fits_named}
use Rattle.tree_canon.proofs.Reach.{Moves, moves_none, moves-then, one_field, within_ok, first_ok, ok_ok, tag_moves}
use Rattle.tree_canon.proofs.Reach.{count_moves, name_moves, level}

-- ---- files

pub exec_moves : (at : ℕ) (ls : List OpenFolder) (exec : Bool) → at + 1 ≤ limit
    → Moves at (cut_at ls Executable) ((if exec then 1 else 0) ∷ []) (cut_at ls (FileLength exec))
exec_moves at ls true fit = one_field at ls Executable (1 ∷ []) (omega arith) refl
    (first_ok _ _ (within_ok (at + 1) fit) refl)
exec_moves at ls false fit = one_field at ls Executable (0 ∷ []) (omega arith) refl
    (first_ok _ _ (within_ok (at + 1) fit) refl)

abbrev pub after_len : List OpenFolder → Bool → ℕ → CutTree
after_len ls exec n = if n == 0 then filled ls (File exec []) else cut_at ls (Contents exec n)

pub file_len_moves : (at : ℕ) (ls : List OpenFolder) (exec : Bool) (n : ℕ) → at + 8 + n ≤ limit
    → Moves at (cut_at ls (FileLength exec)) (to_be_bytes w64 n) (after_len ls exec n)
file_len_moves at ls exec n fit =
    let same = from_be_bytes-to_be_bytes_8 n (omega arith) in
    let room : at + 8 + from_be_bytes w64 (to_be_bytes w64 n)
    ≤ limit = subst (λ k. at + 8 + k ≤ limit) (sym same) fit in
    subst (λ k. Moves at (cut_at ls (FileLength exec)) (to_be_bytes w64 n) (after_len ls exec k)) same
    (one_field at ls (FileLength exec) (to_be_bytes w64 n) (omega arith) refl
    (first_ok _ _ (within_ok (at + 8) (omega arith)) (within_ok _ room)))

contents_move : (at : ℕ) (ls : List OpenFolder) (exec : Bool) (bytes : List ℕ) → at + length bytes ≤ limit
    → Moves at (after_len ls exec (length bytes)) bytes (filled ls (File exec bytes))
contents_move at ls exec [] fit = moves_none at (filled ls (File exec []))
contents_move at ls exec (b ∷ bs) fit = subst (λ c. Moves at c (b ∷ bs) (filled ls (File exec (b ∷ bs))))
    (sym (ap (λ (z : Bool). if z then filled ls (File exec []) else cut_at ls (Contents exec (length (b ∷ bs))))
    (ne_eqb (length (b ∷ bs)) 0 (λ e. absurd (omega arith)))))
    (one_field at ls (Contents exec (length (b ∷ bs))) (b ∷ bs) (omega arith) refl
    (first_ok _ _ (within_ok _ fit) refl))

pub file_moves : (at : ℕ) (ls : List OpenFolder) (exec : Bool) (bytes : List ℕ) → nat_le (length ls) 64 ≡ true
    → at + length ((70 ∷ (if exec then 1 else 0) ∷ to_be_bytes w64 (length bytes)) ++ bytes) ≤ limit
    → Moves at (cut_at ls Tag) ((70 ∷ (if exec then 1 else 0) ∷ to_be_bytes w64 (length bytes)) ++ bytes)
    (filled ls (File exec bytes))
file_moves at ls exec bytes deep fit =
    let x : List ℕ = (if exec then 1 else 0) ∷ [] in
    let len : List ℕ = to_be_bytes w64 (length bytes) in
    let room : at + 10 + length bytes ≤ limit = omega (
      arith,
      length-append
          (70 ∷ (if exec then 1 else 0) ∷ to_be_bytes w64 (length bytes)) bytes,
    ) in
    moves-then at (cut_at ls Tag) (70 ∷ []) (cut_at ls Executable) (x ++ (len ++ bytes))
    (filled ls (File exec bytes)) (tag_moves at ls 70 refl deep (omega arith))
    (moves-then (at + 1) (cut_at ls Executable) x (cut_at ls (FileLength exec)) (len ++ bytes)
    (filled ls (File exec bytes)) (exec_moves (at + 1) ls exec (omega arith))
    (moves-then (at + 1 + 1) (cut_at ls (FileLength exec)) len (after_len ls exec (length bytes)) bytes
    (filled ls (File exec bytes)) (file_len_moves (at + 1 + 1) ls exec (length bytes) (omega arith))
    (contents_move (at + 1 + 1 + 8) ls exec bytes (omega arith))))

-- ---- links

pub target_len_ok : (f : List ℕ) → 0 < from_be_bytes w16 f → from_be_bytes w16 f ≤ 4096
    → unless (nat_lt 0 (from_be_bytes w16 f) && nat_le (from_be_bytes w16 f) 4096) reasons.Name ≡ None
target_len_ok f some few = ok_ok _ _ (and_from _ _ (lt-ltb 0 (from_be_bytes w16 f) some)
    (le-leb (from_be_bytes w16 f) 4096 few))

pub target_len_moves : (at : ℕ) (ls : List OpenFolder) (n : ℕ) → 0 < n → n ≤ 4096 → at + 2 + n ≤ limit
    → Moves at (cut_at ls TargetLength) (to_be_bytes w16 n) (cut_at ls (Target n))
target_len_moves at ls n some few fit =
    let same = from_be_bytes-to_be_bytes_2 n (omega arith) in
    subst (λ k. Moves at (cut_at ls TargetLength) (to_be_bytes w16 n) (cut_at ls (Target k))) same
    (one_field at ls TargetLength (to_be_bytes w16 n) (omega arith) refl
    (first_ok _ _ (within_ok (at + 2) (omega arith))
    (first_ok _ _ (within_ok (at + 2 + from_be_bytes w16 (to_be_bytes w16 n)) (omega (arith, same)))
    (target_len_ok (to_be_bytes w16 n) (omega (arith, same)) (omega (arith, same))))))

pub link_moves : (at : ℕ) (ls : List OpenFolder) (target : List ℕ) → fits (Link target) (length ls) ≡ true
    → at + length ((76 ∷ to_be_bytes w16 (length target)) ++ target) ≤ limit
    → Moves at (cut_at ls Tag) ((76 ∷ to_be_bytes w16 (length target)) ++ target) (filled ls (Link target))
link_moves at ls target ok fit =
    let parts = and_parts (nat_le (length ls) 64) _ (sym (fits_link target (length ls)) ∙ ok) in
    let sizes = target_sizes target parts.1 in
    let some : 0 < length target = sizes.0 in
    let few : length target ≤ 4096 = sizes.1 in
    let room : at + 3 + length target ≤ limit = omega (
      arith,
      length-append
          (76 ∷ to_be_bytes w16 (length target)) target,
    ) in
    moves-then at (cut_at ls Tag) (76 ∷ []) (cut_at ls TargetLength) (to_be_bytes w16 (length target) ++ target)
    (filled ls (Link target)) (tag_moves at ls 76 refl parts.0 (omega arith))
    (moves-then (at + 1) (cut_at ls TargetLength) (to_be_bytes w16 (length target))
    (cut_at ls (Target (length target))) target (filled ls (Link target))
    (target_len_moves (at + 1) ls (length target) some few (omega arith))
    (one_field (at + 1 + 2) ls (Target (length target)) target some refl
    (first_ok _ _ (within_ok (at + 1 + 2 + length target) (omega arith)) (ok_ok _ _ parts.1))))

-- ---- folders

abbrev pub Reached : Node → Type 0
Reached x = (at : ℕ) (ls : List OpenFolder) → fits x (length ls) ≡ true → at + length (node_bytes x) ≤ limit
    → Moves at (cut_at ls Tag) (node_bytes x) (filled ls x)

abbrev pub Seen : Type 0
Seen = (e : Named) × Reached e.node

abbrev pub bare : List Seen → List Named
bare es = map (λ e. e.0) es

pub opened_more : (ls : List OpenFolder) (count : ℕ) (before : List Named) → length before < count
    → opened ls count before ≡ cut_at ls (NameLength count before)
opened_more ls count before lt = ap (λ b. if b then cut_at ls (NameLength count before) else filled ls
    (Folder before)) (lt-ltb _ _ lt)

pub opened_all : (ls : List OpenFolder) (all : List Named) → opened ls (length all) all ≡ filled ls (Folder all)
opened_all ls all = ap (λ b. if b then cut_at ls (NameLength (length all) all) else filled ls (Folder all))
    (le-ltb (length all) (length all) (omega arith))

pub fits_cons : (last : Option (List ℕ)) (e : Named) (es : List Named) (depth : ℕ)
    → entries_fit last (e ∷ es) depth ≡ true → (name_fits last e.name ≡ true) × (fits e.node depth ≡ true)
    × (entries_fit (Some e.name) es depth ≡ true)
fits_cons last e es depth h =
    let whole : (name_fits last e.name && (fits e.node depth && entries_fit (Some e.name) es depth)) ≡ true
    = ap (λ (f : Fitting). name_fits last f.0 && (f.1 depth && entries_fit (Some f.0) es depth))
    (sym (fits_named e)) ∙ h in
    let p = and_parts (name_fits last e.name) _ whole in
    let q = and_parts (fits e.node depth) _ p.1 in
    (p.0, q.0, q.1)

pub entries_move : (es : List Seen) (at count : ℕ) (ls : List OpenFolder) (before : List Named)
    → entries_fit (last_name before) (bare es) (suc (length ls)) ≡ true → length before + length (bare es) ≤ count
    → at + length (entries_bytes (bare es)) ≤ limit → Moves at (opened ls count before) (entries_bytes (bare es))
    (opened ls count (before ++ bare es))
entries_move [] at count ls before ok le fit = subst
    (λ b. Moves at (opened ls count before) [] (opened ls count b)) (sym (append-nil before))
    (moves_none at (opened ls count before))
entries_move (e ∷ es) at count ls before ok le fit =
    let parts = fits_cons (last_name before) e.0 (bare es) (suc (length ls)) ok in
    let head : entry_bytes e.0 ≡ name_bytes e.0.name ++ node_bytes e.0.node = entry_bytes_is e.0 in
    let size : length (entries_bytes (bare (e ∷ es))) ≡ length (name_bytes e.0.name) + length
    (node_bytes e.0.node) + length (entries_bytes (bare es))
    = omega (
      arith,
      length-append (entry_bytes e.0) (entries_bytes (bare es)),
      ap length head,
      length-append
          (name_bytes e.0.name) (node_bytes e.0.node),
    ) in
    let ls' : List OpenFolder = level count before e.0.name ∷ ls in
    let one = name_moves at count ls before e.0.name parts.0 (omega arith) in
    let two = e.1 (at + length (name_bytes e.0.name)) ls' parts.1 (omega arith) in
    let both = moves-then at (cut_at ls (NameLength count before)) (name_bytes e.0.name) (cut_at ls' Tag)
    (node_bytes e.0.node) (opened ls count (before ++ e.0 ∷ [])) one two in
    let here : Moves at (opened ls count before) (entry_bytes e.0) (opened ls count (before ++ e.0 ∷ []))
    = subst (λ c. Moves at c (entry_bytes e.0) (opened ls count (before ++ e.0 ∷ [])))
    (sym (opened_more ls count before (omega arith)))
    (subst (λ b. Moves at (cut_at ls (NameLength count before)) b (opened ls count (before ++ e.0 ∷ [])))
    (sym head) both) in
    let ok' : entries_fit (last_name (before ++ e.0 ∷ [])) (bare es) (suc (length ls))
    ≡ true = ap (λ n. entries_fit n (bare es) (suc (length ls))) (last_from-push None before e.0) ∙ parts.2 in
    let rest = entries_move es (at + length (entry_bytes e.0)) count ls (before ++ e.0 ∷ []) ok'
    (omega (arith, length-append before (e.0 ∷ [])))
    (omega (arith, ap length head, length-append (name_bytes e.0.name) (node_bytes e.0.node))) in
    subst (λ b. Moves at (opened ls count before) (entries_bytes (bare (e ∷ es))) (opened ls count b))
    (append_assoc before (e.0 ∷ []) (bare es))
    (moves-then at (opened ls count before) (entry_bytes e.0) (opened ls count (before ++ e.0 ∷ []))
    (entries_bytes (bare es)) (opened ls count ((before ++ e.0 ∷ []) ++ bare es)) here rest)

folder_moves : (es : List Seen) → Reached (Folder (bare es))
folder_moves es at ls ok fit =
    let all : List Named = bare es in
    let parts = and_parts (nat_le (length ls) 64) _ (sym (fits_folder (bare es) (length ls)) ∙ ok) in
    let more = and_parts (nat_lt (length (bare es)) (2 ^ 32)) _ parts.1 in
    let few : length (bare es) < 2 ^ 32 = ltb-true _ _ more.0 in
    let is : node_bytes (Folder (bare es)) ≡ folder_head (length (bare es))
    ++ entries_bytes (bare es) = node_bytes_folder (bare es) in
    let room : at + 5 + length (entries_bytes (bare es)) ≤ limit = omega
    (arith, ap length is, length-append (folder_head (length (bare es))) (entries_bytes (bare es))) in
    let read = moves-then at (cut_at ls Tag) (68 ∷ []) (cut_at ls Count)
    (to_be_bytes w32 (length (bare es)) ++ entries_bytes (bare es)) (opened ls (length (bare es)) (bare es))
    (tag_moves at ls 68 refl parts.0 (omega arith))
    (moves-then (at + 1) (cut_at ls Count) (to_be_bytes w32 (length (bare es))) (opened ls (length (bare es)) [])
    (entries_bytes (bare es)) (opened ls (length (bare es)) (bare es))
    (count_moves (at + 1) ls (length (bare es)) few (omega arith))
    (entries_move es (at + 1 + 4) (length (bare es)) ls [] more.1 (omega arith) (omega arith))) in
    subst (λ c. Moves at (cut_at ls Tag) (node_bytes (Folder (bare es))) c) (opened_all ls (bare es))
    (subst (λ b. Moves at (cut_at ls Tag) b (opened ls (length (bare es)) (bare es))) (sym is) read)

by_layer : (x : layer.Node-F Node Named) (y : layer.Node-F ((n : Node) × Reached n) Seen)
    → map-Node ((n : Node) × Reached n) Seen Node Named (λ e. e.0) (λ e. e.0) y ≡ x → Reached (roll-Node x)
by_layer x (layer.Folder es) is = subst (λ z. Reached (roll-Node z)) is
    (subst Reached (sym (rolls-Folder (bare es))) (folder_moves es))
by_layer x (layer.File exec bytes) is = subst (λ z. Reached (roll-Node z)) is
    (subst Reached (sym (rolls-File exec bytes)) (λ at ls ok fit.
    subst (λ b. Moves at (cut_at ls Tag) b (filled ls (File exec bytes))) (sym (node_bytes_file exec bytes))
    (file_moves at ls exec bytes (sym (fits_file exec bytes (length ls)) ∙ ok)
    (subst (λ b. at + length b ≤ limit) (node_bytes_file exec bytes) fit))))
by_layer x (layer.Link target) is = subst (λ z. Reached (roll-Node z)) is
    (subst Reached (sym (rolls-Link target)) (λ at ls ok fit.
    subst (λ b. Moves at (cut_at ls Tag) b (filled ls (Link target))) (sym (node_bytes_link target))
    (link_moves at ls target ok (subst (λ b. at + length b ≤ limit) (node_bytes_link target) fit))))

pub node_moves : (x : Node) → Reached x
node_moves = ind-Node Reached (λ e. Reached e.node) by_layer
    (λ x y is. subst (λ (z : layer.Named-F Node Named). Reached (roll-Named z).node) is y.node.1)
