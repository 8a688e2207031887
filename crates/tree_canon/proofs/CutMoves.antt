-- The machine reaches each sound cut tree.
use Rattle.std.proofs.Common.{◌≡◌, ℕ, zero, suc, ◌+◌, ◌≤◌, ◌<◌, ◌∙◌, List, [], ◌∷◌, ◌++◌, length, take, arith, refl}
use Rattle.std.proofs.Common.{sym, ap, subst, append_assoc, false, Bool, if◌then◌else◌, true, w16, w32, w64}
use Rattle.std.proofs.Common.{length-append}
use Rattle.std.specs.Prelude.{nat_le}
use Rattle.std.specs.Int.{to_be_bytes}
use Rattle.std.proofs.lemmas.Bool.{le-leb, ne_eqb}
use Rattle.std.proofs.lemmas.List.{append-nil}
use Rattle.tree_canon.specs.declared.fault.Reason.{Reason}
use Rattle.tree_canon.specs.Spelling.{limit, magic, node_bytes, entries_bytes, folder_head, name_bytes}
use Rattle.tree_canon.specs.Fits.{fits, entries_fit}
use Rattle.tree_canon.specs.CutTree.{OpenFolder, Hole, Magic, Tag, Count, NameLength, Name, Executable, FileLength}
use Rattle.tree_canon.specs.CutTree.{Contents, TargetLength, Target, End, CutTree, last_name, open_folders_bytes}
use Rattle.tree_canon.specs.CutTree.{open_folder_bytes, cut_bytes, bytes_before, width}
use Rattle.tree_canon.specs.Rules.{reason_of}
use Rattle.tree_canon.specs.Reading.{cut_at, filled, opened, State, Stuck, Going, moved, run, start}
use Rattle.tree_canon.specs.Division.{FolderFits, OpenFoldersFit, HoleFits, IsSound, announced, Spells, IsBroken}
use Rattle.tree_canon.specs.Division.{IsShort, has_ended}
use Rattle.tree_canon.specs.declared.node.Node.{Node}
use Rattle.tree_canon.specs.declared.node.Named.{Named}
use Rattle.tree_canon.specs.declared.node.Node.TheVariants.{File}
use Rattle.tree_canon.proofs.Reach.{Moves, moves-then, tag_moves, count_moves, name_moves, name_len_moves, run-append}
use Rattle.tree_canon.proofs.Reach.{whole_field, goes_on}
use Rattle.tree_canon.proofs.Nodes.{Seen, bare, entries_move, node_moves, opened_more, exec_moves, file_len_moves}
use Rattle.tree_canon.proofs.Nodes.{after_len, target_len_moves}

seen_of : List Named → List Seen
seen_of [] = []
seen_of (e ∷ es) = (e, node_moves e.node) ∷ seen_of es

bare_seen : (es : List Named) → bare (seen_of es) ≡ es
unfolding seen_of
bare_seen [] = refl
bare_seen (e ∷ es) = ap (λ (xs : List Named). e ∷ xs) (bare_seen es)

pub entries_all : (es : List Named) (at count : ℕ) (ls : List OpenFolder) (before : List Named)
    → entries_fit (last_name before) es (suc (length ls)) ≡ true → length before + length es ≤ count
    → at + length (entries_bytes es) ≤ limit → Moves at (opened ls count before) (entries_bytes es)
    (opened ls count (before ++ es))
entries_all es at count ls before =
    subst (λ (xs : List Named). entries_fit (last_name before) xs (suc (length ls)) ≡ true
    → length before + length xs ≤ count → at + length (entries_bytes xs) ≤ limit
    → Moves at (opened ls count before) (entries_bytes xs) (opened ls count (before ++ xs)))
    (bare_seen es) (entries_move (seen_of es) at count ls before)

pub folder_opens : (at : ℕ) (ls : List OpenFolder) (count : ℕ) (before : List Named)
    → FolderFits (length ls) count before → at + length (folder_head count ++ entries_bytes before) ≤ limit
    → Moves at (cut_at ls Tag) (folder_head count ++ entries_bytes before) (cut_at ls (NameLength count before))
folder_opens at ls count before ok fit =
    let room : at + 5 + length (entries_bytes before) ≤ limit = omega
    (arith, length-append (folder_head count) (entries_bytes before)) in
    let deep : nat_le (length ls) 64 ≡ true = le-leb _ _ ok.deep in
    let read = moves-then at (cut_at ls Tag) (68 ∷ []) (cut_at ls Count)
    (to_be_bytes w32 count ++ entries_bytes before) (opened ls count before)
    (tag_moves at ls 68 refl deep (omega arith))
    (moves-then (at + 1) (cut_at ls Count) (to_be_bytes w32 count) (opened ls count []) (entries_bytes before)
    (opened ls count before) (count_moves (at + 1) ls count ok.few (omega arith))
    (entries_all before (at + 1 + 4) count ls [] ok.entries (omega (arith, ok.more)) (omega arith))) in
    subst (λ c. Moves at (cut_at ls Tag) (folder_head count ++ entries_bytes before) c)
    (opened_more ls count before ok.more) read

abbrev start_cut : CutTree
start_cut = cut_at [] (Magic 0)

pub levels_move : (ls : List OpenFolder) → OpenFoldersFit ls → length (open_folders_bytes ls) ≤ limit
    → Moves 0 start_cut (open_folders_bytes ls) (cut_at ls Tag)
levels_move [] ok fit = record { is = refl }
levels_move (l ∷ ls) ok fit =
    let outer : List ℕ = open_folders_bytes ls in
    let size : length (open_folders_bytes ls) + length (folder_head l.count ++ entries_bytes l.before) + length
    (name_bytes l.name) ≤ limit
    = omega (
      arith,
      length-append (open_folders_bytes ls) (open_folder_bytes l),
      ap length
          (append_assoc (folder_head l.count) (entries_bytes l.before) (name_bytes l.name)),
      length-append
          (folder_head l.count ++ entries_bytes l.before) (name_bytes l.name),
    ) in
    let n : ℕ = length (open_folders_bytes ls) in
    let front = levels_move ls ok.1 (omega arith) in
    let opens = folder_opens (length (open_folders_bytes ls)) ls l.count l.before ok.0.folder (omega arith) in
    let named = name_moves (length (open_folders_bytes ls) + length
    (folder_head l.count ++ entries_bytes l.before)) l.count ls l.before l.name ok.0.name (omega arith) in
    let last = moves-then (length (open_folders_bytes ls)) (cut_at ls Tag)
    (folder_head l.count ++ entries_bytes l.before) (cut_at ls (NameLength l.count l.before))
    (name_bytes l.name) (cut_at (l ∷ ls) Tag) opens named in
    let last' : Moves (length (open_folders_bytes ls)) (cut_at ls Tag) (open_folder_bytes l) (cut_at (l ∷ ls) Tag)
    = subst (λ b. Moves (length (open_folders_bytes ls)) (cut_at ls Tag) b (cut_at (l ∷ ls) Tag))
    (append_assoc (folder_head l.count) (entries_bytes l.before) (name_bytes l.name)) last in
    moves-then 0 start_cut (open_folders_bytes ls) (cut_at ls Tag) (open_folder_bytes l) (cut_at (l ∷ ls) Tag) front
    (subst (λ m. Moves m (cut_at ls Tag) (open_folder_bytes l) (cut_at (l ∷ ls) Tag)) (omega arith) last')

magic_moves : (k : ℕ) → k < 5 → Moves 0 start_cut (take k magic) (cut_at [] (Magic k))
magic_moves zero lt = record { is = refl }
magic_moves (suc zero) lt = record { is = refl }
magic_moves (suc (suc zero)) lt = record { is = refl }
magic_moves (suc (suc (suc zero))) lt = record { is = refl }
magic_moves (suc (suc (suc (suc zero)))) lt = record { is = refl }
magic_moves (suc (suc (suc (suc (suc k))))) lt = absurd (omega arith)

-- what follows the folders
behind : (ls : List OpenFolder) (bytes : List ℕ) (c : CutTree) → OpenFoldersFit ls
    → length (open_folders_bytes ls ++ bytes) ≤ limit → Moves (length (open_folders_bytes ls))
    (cut_at ls Tag) bytes c → Moves 0 start_cut (open_folders_bytes ls ++ bytes) c
behind ls bytes c ok fit m =
    moves-then 0 start_cut (open_folders_bytes ls) (cut_at ls Tag) bytes c
    (levels_move ls ok (omega (arith, length-append (open_folders_bytes ls) bytes)))
    (subst (λ n. Moves n (cut_at ls Tag) bytes c) (omega arith) m)

at_is : (ls : List OpenFolder) (hole : Hole) → OpenFoldersFit ls → HoleFits ls hole
    → length (bytes_before ls hole) + announced hole ≤ limit
    → Moves 0 start_cut (bytes_before ls hole) (cut_at ls hole)
at_is ls (Magic k) ok fits size = subst (λ x. Moves 0 start_cut (take k magic) (cut_at x (Magic k))) (sym fits.1)
    (magic_moves k fits.0)
at_is ls Tag ok fits size = levels_move ls ok (omega arith)
at_is ls Count ok fits size = behind ls (68 ∷ []) (cut_at ls Count) ok (omega arith)
    (tag_moves (length (open_folders_bytes ls)) ls 68 refl (le-leb _ _ fits)
    (omega (arith, length-append (open_folders_bytes ls) (68 ∷ []))))
at_is ls (NameLength count before) ok fits size = behind ls (folder_head count ++ entries_bytes before)
    (cut_at ls (NameLength count before)) ok (omega arith)
    (folder_opens (length (open_folders_bytes ls)) ls count before fits
    (omega (arith, length-append (open_folders_bytes ls) (folder_head count ++ entries_bytes before))))
at_is ls (Name count before len) ok fits size =
    let head : List ℕ = folder_head count ++ entries_bytes before in
    let same : (folder_head count ++ entries_bytes before) ++ to_be_bytes w16 len ≡ folder_head count
    ++ (entries_bytes before ++ to_be_bytes w16 len) = append_assoc (folder_head count) (entries_bytes before)
    (to_be_bytes w16 len) in
    let sizes : length (open_folders_bytes ls) + length (folder_head count ++ entries_bytes before) + 2 + len ≤ limit
    = omega (
      arith,
      length-append (open_folders_bytes ls)
          (folder_head count ++ (entries_bytes before ++ to_be_bytes w16 len)),
      ap length same,
      length-append
          (folder_head count ++ entries_bytes before) (to_be_bytes w16 len),
    ) in
    behind ls (folder_head count ++ (entries_bytes before ++ to_be_bytes w16 len))
    (cut_at ls (Name count before len)) ok (omega arith)
    (subst (λ b. Moves (length (open_folders_bytes ls)) (cut_at ls Tag) b (cut_at ls (Name count before len))) same
    (moves-then (length (open_folders_bytes ls)) (cut_at ls Tag) (folder_head count ++ entries_bytes before)
    (cut_at ls (NameLength count before)) (to_be_bytes w16 len) (cut_at ls (Name count before len))
    (folder_opens (length (open_folders_bytes ls)) ls count before fits.0 (omega arith))
    (name_len_moves (length (open_folders_bytes ls) + length (folder_head count ++ entries_bytes before)) count ls
    before len fits.1 fits.2 sizes)))
at_is ls Executable ok fits size = behind ls (70 ∷ []) (cut_at ls Executable) ok (omega arith)
    (tag_moves (length (open_folders_bytes ls)) ls 70 refl (le-leb _ _ fits)
    (omega (arith, length-append (open_folders_bytes ls) (70 ∷ []))))
at_is ls (FileLength exec) ok fits size =
    let len = length-append (open_folders_bytes ls) (70 ∷ (if exec then 1 else 0) ∷ []) in
    behind ls (70 ∷ (if exec then 1 else 0) ∷ []) (cut_at ls (FileLength exec)) ok (omega arith)
    (moves-then (length (open_folders_bytes ls)) (cut_at ls Tag) (70 ∷ []) (cut_at ls Executable)
    ((if exec then 1 else 0) ∷ []) (cut_at ls (FileLength exec))
    (tag_moves (length (open_folders_bytes ls)) ls 70 refl (le-leb _ _ fits) (omega (arith, len)))
    (exec_moves (length (open_folders_bytes ls) + 1) ls exec (omega (arith, len))))
at_is ls (Contents exec len) ok fits size =
    let x : List ℕ = (if exec then 1 else 0) ∷ [] in
    let sizes : length (open_folders_bytes ls) + 10 + len ≤ limit = omega
    (arith, length-append (open_folders_bytes ls) (70 ∷ (if exec then 1 else 0) ∷ to_be_bytes w64 len)) in
    let n : ℕ = length (open_folders_bytes ls) in
    let here : after_len ls exec len ≡ cut_at ls (Contents exec len) = ap
    (λ (z : Bool). if z then filled ls (File exec []) else cut_at ls (Contents exec len))
    (ne_eqb len 0 (λ e. absurd (omega (arith, fits.1)))) in
    behind ls (70 ∷ (if exec then 1 else 0) ∷ to_be_bytes w64 len) (cut_at ls (Contents exec len)) ok (omega arith)
    (subst (λ c. Moves (length (open_folders_bytes ls)) (cut_at ls Tag)
    (70 ∷ (if exec then 1 else 0) ∷ to_be_bytes w64 len) c) here
    (moves-then (length (open_folders_bytes ls)) (cut_at ls Tag) (70 ∷ []) (cut_at ls Executable)
    (x ++ to_be_bytes w64 len) (after_len ls exec len)
    (tag_moves (length (open_folders_bytes ls)) ls 70 refl (le-leb _ _ fits.0) (omega arith))
    (moves-then (length (open_folders_bytes ls) + 1) (cut_at ls Executable) x (cut_at ls (FileLength exec))
    (to_be_bytes w64 len) (after_len ls exec len)
    (exec_moves (length (open_folders_bytes ls) + 1) ls exec (omega arith))
    (file_len_moves (length (open_folders_bytes ls) + 1 + 1) ls exec len (omega arith)))))
at_is ls TargetLength ok fits size = behind ls (76 ∷ []) (cut_at ls TargetLength) ok (omega arith)
    (tag_moves (length (open_folders_bytes ls)) ls 76 refl (le-leb _ _ fits)
    (omega (arith, length-append (open_folders_bytes ls) (76 ∷ []))))
at_is ls (Target len) ok fits size =
    let sizes : length (open_folders_bytes ls) + 3 + len ≤ limit = omega
    (arith, length-append (open_folders_bytes ls) (76 ∷ to_be_bytes w16 len)) in
    behind ls (76 ∷ to_be_bytes w16 len) (cut_at ls (Target len)) ok (omega arith)
    (moves-then (length (open_folders_bytes ls)) (cut_at ls Tag) (76 ∷ []) (cut_at ls TargetLength)
    (to_be_bytes w16 len) (cut_at ls (Target len))
    (tag_moves (length (open_folders_bytes ls)) ls 76 refl (le-leb _ _ fits.0) (omega arith))
    (target_len_moves (length (open_folders_bytes ls) + 1) ls len fits.1 fits.2 (omega arith)))
at_is ls (End node) ok fits size =
    subst (λ x. Moves 0 start_cut (open_folders_bytes x ++ node_bytes node) (cut_at x (End node))) (sym fits.1)
    (behind [] (node_bytes node) (cut_at [] (End node)) tt
    (subst (λ x. length (open_folders_bytes x ++ node_bytes node) ≤ limit) fits.1 (omega arith))
    (node_moves node 5 [] fits.0 (let all : length (open_folders_bytes [] ++ node_bytes node)
    ≤ limit = subst (λ x. length (open_folders_bytes x ++ node_bytes node) ≤ limit) fits.1 (omega arith)
    in omega (arith, length-append magic (node_bytes node)))))

pub cut_moves : (c : CutTree) → IsSound c → Moves 0 start_cut (cut_bytes c) c
cut_moves c ok = at_is c.folders c.hole ok.folders ok.hole ok.size

-- ---- the three answers

pub stuck_stays : (at : ℕ) (r : Reason) (bytes : List ℕ) → run (Stuck at r) bytes ≡ Stuck at r
stuck_stays at r [] = refl
stuck_stays at r (b ∷ bs) = stuck_stays at r bs

-- over a whole field, one byte at least
field_judged : (at : ℕ) (c : CutTree) (f : List ℕ) → 0 < length f → length f ≡ width c.hole
    → run (Going at c []) f ≡ moved at c f (reason_of (length c.folders) at c.hole f)
field_judged at c [] some is = absurd (omega arith)
field_judged at c (b ∷ bs) some is = whole_field at c [] b bs is

pub some_width : (ls : List OpenFolder) (hole : Hole) → HoleFits ls hole → 0 < width hole
some_width ls (Magic k) fits = omega arith
some_width ls Tag fits = omega arith
some_width ls Count fits = omega arith
some_width ls (NameLength count before) fits = omega arith
some_width ls (Name count before len) fits = fits.1
some_width ls Executable fits = omega arith
some_width ls (FileLength exec) fits = omega arith
some_width ls (Contents exec len) fits = fits.1
some_width ls TargetLength fits = omega arith
some_width ls (Target len) fits = fits.1
some_width ls (End node) fits = omega arith

pub broken_runs : (bytes : List ℕ) (at : ℕ) (r : Reason) → IsBroken bytes at r → run start bytes ≡ Stuck at r
broken_runs bytes at r h =
    let c : CutTree = h.cut in
    let n : ℕ = length (cut_bytes h.cut) in
    ap (run start) h.is ∙ run-append start (cut_bytes h.cut) (h.field ++ h.rest)
    ∙ ap (λ s. run s (h.field ++ h.rest)) ((cut_moves h.cut h.sound).is
    ∙ ap (λ m. Going m h.cut []) (let z : 0 + length (cut_bytes h.cut) ≡ at = omega (arith, h.place) in z))
    ∙ run-append (Going at h.cut []) h.field h.rest
    ∙ ap (λ s. run s h.rest) (field_judged at h.cut h.field
    (omega (arith, h.whole, some_width h.cut.folders h.cut.hole h.sound.hole)) h.whole
    ∙ ap (moved at h.cut h.field) h.breaks)
    ∙ stuck_stays at r h.rest

-- a part of a field is kept
pub part_kept : (at : ℕ) (c : CutTree) (part more : List ℕ) → length (part ++ more) < width c.hole
    → run (Going at c part) more ≡ Going at c (part ++ more)
part_kept at c part [] lt = ap (Going at c) (sym (append-nil part))
part_kept at c part (b ∷ bs) lt =
    let same : (part ++ b ∷ []) ++ bs ≡ part ++ b ∷ bs = append_assoc part (b ∷ []) bs in
    ap (λ s. run s bs) (goes_on at c (part ++ b ∷ [])
    (omega (arith, length-append part (b ∷ []), length-append part (b ∷ bs))))
    ∙ part_kept at c (part ++ b ∷ []) bs (subst (λ x. length x < width c.hole) (sym same) lt) ∙ ap (Going at c) same

pub short_runs : (bytes : List ℕ) → (h : IsShort bytes)
    → run start bytes ≡ Going (length (cut_bytes h.cut)) h.cut h.part
short_runs bytes h =
    ap (run start) h.is ∙ run-append start (cut_bytes h.cut) h.part
    ∙ ap (λ s. run s h.part) ((cut_moves h.cut h.sound).is ∙ ap (λ m. Going m h.cut [])
    (let z : 0 + length (cut_bytes h.cut) ≡ length (cut_bytes h.cut) = omega arith in z))
    ∙ part_kept (length (cut_bytes h.cut)) h.cut [] h.part h.partial

pub spelling_runs : (node : Node) (bytes : List ℕ) → Spells node bytes
    → run start bytes ≡ Going (length bytes) (cut_at [] (End node)) []
spelling_runs node bytes h =
    ap (run start) h.is ∙ (at_is [] (End node) tt (h.fit, refl) (omega (arith, h.size, ap length h.is))).is
    ∙ ap (λ m. Going m (cut_at [] (End node)) [])
    (let z : 0 + length (magic ++ node_bytes node) ≡ length bytes = omega (arith, ap length h.is) in z)

-- ---- so no list of bytes has two of them

pub one_break : (bytes : List ℕ) (at n : ℕ) (r q : Reason) → IsBroken bytes at r → IsBroken bytes n q → (at ≡ n)
    × (r ≡ q)
one_break bytes at n r q a b =
    let same : Stuck at r ≡ Stuck n q = sym (broken_runs bytes at r a) ∙ broken_runs bytes n q b in
    (cc, cc)

pub broken_not_short : (bytes : List ℕ) (at : ℕ) (r : Reason) → IsBroken bytes at r → IsShort bytes → ⊥
broken_not_short bytes at r a b =
    let same : Stuck at r ≡ Going (length (cut_bytes b.cut)) b.cut b.part = sym (broken_runs bytes at r a)
    ∙ short_runs bytes b in
    cc

pub broken_not_spelled : (bytes : List ℕ) (at : ℕ) (r : Reason) (node : Node) → IsBroken bytes at r
    → Spells node bytes → ⊥
broken_not_spelled bytes at r node a b =
    let same : Stuck at r ≡ Going (length bytes) (cut_at [] (End node)) [] = sym (broken_runs bytes at r a)
    ∙ spelling_runs node bytes b in
    cc

hole_of : State → Hole
hole_of (Stuck at r) = Tag
hole_of (Going at c part) = c.hole

-- a spelling determines its tree
pub one_tree : (bytes : List ℕ) (m n : Node) → Spells m bytes → Spells n bytes → m ≡ n
unfolding hole_of
one_tree bytes m n a b =
    let same : Going (length bytes) (cut_at [] (End m)) [] ≡ Going (length bytes) (cut_at [] (End n)) [] = sym
    (spelling_runs m bytes a) ∙ spelling_runs n bytes b in
    let ends : End m ≡ End n = ap hole_of same in
    cc

pub short_not_spelled : (bytes : List ℕ) (n : Node) → IsShort bytes → Spells n bytes → ⊥
short_not_spelled bytes n a b =
    let same : Going (length (cut_bytes a.cut)) a.cut a.part
    ≡ Going (length bytes) (cut_at [] (End n)) [] = sym (short_runs bytes a) ∙ spelling_runs n bytes b in
    let cut : a.cut ≡ cut_at [] (End n) = cc in
    let ended : has_ended a.cut.hole ≡ true = ap (λ (c : CutTree). has_ended c.hole) cut in
    let no : false ≡ true = sym a.goes_on ∙ ended in
    cc
