-- What the events of cut trees tell, field by field.
use Rattle.std.proofs.Common.{◌≡◌, ℕ, suc, ◌+◌, ◌-◌, ◌<◌, ◌∙◌, List, [], ◌∷◌, ◌++◌, length, map, drop, length-append}
use Rattle.std.proofs.Common.{append_assoc, arith, refl, sym, ap, subst, Bool, true, false, if◌then◌else◌}
use Rattle.std.specs.Prelude.{nat_lt, ◌==◌}
use Rattle.std.specs.Int.{from_be_bytes, w32, w64}
use Rattle.std.proofs.lemmas.Bool.{eqb-true, ltb-false}
use Rattle.std.proofs.lemmas.Bool.Decides.{nat_tests}
use Rattle.std.proofs.lemmas.List.{append-nil, length-map, map-append}
use Rattle.tree_canon.specs.declared.node.Node.{Node}
use Rattle.tree_canon.specs.declared.node.Named.{Named}
use Rattle.tree_canon.specs.declared.node.Node.TheVariants.{Folder, File, Link, rolls-Folder, rolls-File, rolls-Link}
use Rattle.tree_canon.specs.declared.node.Node.TheOpen as layer
use Rattle.tree_canon.specs.declared.node.Node.TheFolds.{fold-roll-Node, fold_out-Named}
use Rattle.tree_canon.specs.CutTree.{OpenFolder, Hole, Magic, Tag, Count, NameLength, Name, Executable, FileLength}
use Rattle.tree_canon.specs.CutTree.{Contents, TargetLength, Target, End, CutTree, width}
use Rattle.tree_canon.specs.Division.{OpenFoldersFit}
use Rattle.tree_canon.specs.Rules.{first_byte}
use Rattle.tree_canon.specs.Reading.{entry, cut_at, filled, opened, after}
use Rattle.tree_canon.specs.Scanning.{scanned_folder, next_field, closes, closes_behind, IsContents}
use Rattle.tree_canon.specs.Events.{Told, Opened, NamedAs, FileOf, Content, LinkTo, Closed, told, told_step}
use Rattle.tree_canon.specs.Events.{told_entry_step, events_of, entry_events, entries_events, open_folders_events}
use Rattle.tree_canon.specs.Events.{events_before, closed}
use Rattle.tree_canon.specs.Fields.{event_by}

-- ---- the equations of the folds

pub events_folder : (all : List Named) → events_of (Folder all) ≡ Opened (length all)
    ∷ (entries_events all ++ Closed ∷ [])
events_folder all = ap events_of (sym (rolls-Folder all))
    ∙ fold-roll-Node _ _ told_step told_entry_step (layer.Folder all)
    ∙ ap (λ n. Opened n ∷ (entries_events all ++ Closed ∷ [])) (length-map all entry_events)

pub events_file : (exec : Bool) (bytes : List ℕ) → events_of (File exec bytes) ≡ FileOf exec (length bytes)
    ∷ map Content bytes
events_file exec bytes = ap events_of (sym (rolls-File exec bytes))
    ∙ fold-roll-Node _ _ told_step told_entry_step (layer.File exec bytes)

pub events_link : (target : List ℕ) → events_of (Link target) ≡ LinkTo target ∷ []
events_link target = ap events_of (sym (rolls-Link target))
    ∙ fold-roll-Node _ _ told_step told_entry_step (layer.Link target)

pub entry_events_is : (e : Named) → entry_events e ≡ NamedAs e.name ∷ events_of e.node
entry_events_is e = fold_out-Named _ _ told_step told_entry_step e

entries_push : (es : List Named) (e : Named) → entries_events (es ++ e ∷ []) ≡ entries_events es ++ entry_events e
entries_push [] e = append-nil (entry_events e)
entries_push (x ∷ xs) e = ap (λ b. entry_events x ++ b) (entries_push xs e)
    ∙ sym (append_assoc (entry_events x) (entries_events xs) (entry_events e))

-- ---- a node is whole

choose_closed : (b c : Bool) (x y : CutTree) (z : List Told) (n : ℕ) → b ≡ c → (b ≡ true → events_before x [] ≡ z)
    → (b ≡ false → events_before y [] ≡ z ++ closed (suc n))
    → events_before (if b then x else y) [] ≡ z ++ closed (if c then 0 else suc n)
choose_closed true true x y z n e p q = p refl ∙ sym (append-nil z)
choose_closed false false x y z n e p q = q refl
choose_closed true false x y z n e p q = absurd cc
choose_closed false true x y z n e p q = absurd cc

more_left : (n count : ℕ) → nat_lt (n + 1) count ≡ nat_lt 0 (count - (n + 1))
more_left n count = grind (arith, nat_tests)

-- a folder's events and a node's are the folder's with one more entry
one_more : (fs : List OpenFolder) (f : OpenFolder) (node : Node)
    → open_folders_events fs ++ (Opened f.count ∷ entries_events (f.before ++ entry f.name node ∷ []))
    ≡ open_folders_events (f ∷ fs) ++ events_of node
one_more fs f node =
    ap (λ x. open_folders_events fs ++ (Opened f.count ∷ x))
    (entries_push f.before (entry f.name node) ∙ ap (λ x. entries_events f.before ++ x)
    (entry_events_is (entry f.name node)) ∙ sym (append_assoc (entries_events f.before) (NamedAs f.name ∷ [])
    (events_of node)))
    ∙ sym (append_assoc (open_folders_events fs) (Opened f.count
    ∷ (entries_events f.before ++ NamedAs f.name ∷ [])) (events_of node))

whole_folder : (before all rest : List Told) (count : ℕ)
    → (before ++ (Opened count ∷ (all ++ Closed ∷ []))) ++ rest ≡ (before ++ (Opened count ∷ all))
    ++ (Closed ∷ rest)
whole_folder before all rest count =
    ap (λ x. x ++ rest) (sym (append_assoc before (Opened count ∷ all) (Closed ∷ [])))
    ∙ append_assoc (before ++ (Opened count ∷ all)) (Closed ∷ []) rest

pub events_filled : (fs : List OpenFolder) (node : Node) → OpenFoldersFit fs
    → events_before (filled fs node) [] ≡ (open_folders_events fs ++ events_of node)
    ++ closed (closes (map scanned_folder fs))
events_filled [] node fit = sym (append-nil (events_of node))
events_filled (f ∷ fs) node fit =
    let all : List Named = f.before ++ entry f.name node ∷ [] in
    let len : length (f.before ++ entry f.name node ∷ []) ≡ length f.before + 1 = omega
    (arith, length-append f.before (entry f.name node ∷ [])) in
    let more : length f.before < f.count = fit.0.folder.more in
    let test : nat_lt (length (f.before ++ entry f.name node ∷ [])) f.count
    ≡ nat_lt 0 (f.count - (length f.before + 1)) = ap (λ n. nat_lt n f.count) len
    ∙ more_left (length f.before) f.count in
    let n : ℕ = closes (map scanned_folder fs) in
    choose_closed (nat_lt (length (f.before ++ entry f.name node ∷ [])) f.count)
    (nat_lt 0 (f.count - (length f.before + 1)))
    (cut_at fs (NameLength f.count (f.before ++ entry f.name node ∷ [])))
    (filled fs (Folder (f.before ++ entry f.name node ∷ [])))
    (open_folders_events (f ∷ fs) ++ events_of node) (closes (map scanned_folder fs)) test
    (λ e. one_more fs f node)
    (λ e.
    let count : length (f.before ++ entry f.name node ∷ []) ≡ f.count = omega (arith, ltb-false _ _ e) in
    events_filled fs (Folder (f.before ++ entry f.name node ∷ [])) fit.1
    ∙ ap (λ x. (open_folders_events fs ++ x) ++ closed (closes (map scanned_folder fs)))
    (events_folder (f.before ++ entry f.name node ∷ []) ∙ ap
    (λ k. Opened k ∷ (entries_events (f.before ++ entry f.name node ∷ []) ++ Closed ∷ [])) count)
    ∙ whole_folder (open_folders_events fs) (entries_events (f.before ++ entry f.name node ∷ []))
    (closed (closes (map scanned_folder fs))) f.count
    ∙ ap (λ x. x ++ (Closed ∷ closed (closes (map scanned_folder fs)))) (one_more fs f node))

-- ---- behind a whole field

-- the bytes by which a whole field is judged: of a file's contents the last ones
abbrev pub IsFieldOf : Hole → List ℕ → List ℕ → List ℕ → Type 0
IsFieldOf (Contents exec size) part bytes field = field ≡ bytes
IsFieldOf hole part bytes field = field ≡ part ++ bytes

either_cut : (b : Bool) (x y : CutTree) (z : List Told) → events_before x [] ≡ z → events_before y [] ≡ z
    → events_before (if b then x else y) [] ≡ z ++ []
either_cut true x y z p q = p ∙ sym (append-nil z)
either_cut false x y z p q = q ∙ sym (append-nil z)

either_end : (b : Bool) (x y : CutTree) (z : List Told) (m n : ℕ)
    → (b ≡ true → events_before x [] ≡ z ++ closed m) → (b ≡ false → events_before y [] ≡ z ++ closed n)
    → events_before (if b then x else y) [] ≡ z ++ closed (if b then m else n)
either_end true x y z m n p q = p refl
either_end false x y z m n p q = q refl

-- one fact more, and the ends of folders
add_one : (x : List Told) (e : Told) (rest : List Told) → (x ++ e ∷ []) ++ rest ≡ (x ++ []) ++ (e ∷ rest)
add_one x e rest = append_assoc x (e ∷ []) rest ∙ ap (λ y. y ++ (e ∷ rest)) (sym (append-nil x))

count_tells : (fs : List OpenFolder) (n : ℕ) → OpenFoldersFit fs
    → events_before (opened fs n []) [] ≡ (open_folders_events fs ++ [])
    ++ (Opened n ∷ closed (if nat_lt 0 n then 0 else suc (closes (map scanned_folder fs))))
count_tells fs n fit =
    either_end (nat_lt 0 n) (cut_at fs (NameLength n [])) (filled fs (Folder []))
    (open_folders_events fs ++ (Opened n ∷ [])) 0 (suc (closes (map scanned_folder fs)))
    (λ e. sym (append-nil (open_folders_events fs ++ (Opened n ∷ []))))
    (λ e.
    let none : 0 ≡ n = omega (arith, ltb-false _ _ e) in
    events_filled fs (Folder []) fit
    ∙ ap (λ x. (open_folders_events fs ++ x) ++ closed (closes (map scanned_folder fs)))
    (events_folder [] ∙ ap (λ k. Opened k ∷ Closed ∷ []) none)
    ∙ whole_folder (open_folders_events fs) [] (closed (closes (map scanned_folder fs))) n)
    ∙ add_one (open_folders_events fs) (Opened n)
    (closed (if nat_lt 0 n then 0 else suc (closes (map scanned_folder fs))))

length_tells : (fs : List OpenFolder) (exec : Bool) (n : ℕ) → OpenFoldersFit fs
    → events_before (if n == 0 then filled fs (File exec []) else cut_at fs (Contents exec n)) []
    ≡ (open_folders_events fs ++ []) ++ (FileOf exec n ∷ closed
    (if n == 0 then closes (map scanned_folder fs) else 0))
length_tells fs exec n fit =
    either_end (n == 0) (filled fs (File exec [])) (cut_at fs (Contents exec n))
    (open_folders_events fs ++ (FileOf exec n ∷ [])) (closes (map scanned_folder fs)) 0
    (λ e.
    let none : 0 ≡ n = sym (eqb-true n 0 e) in
    events_filled fs (File exec []) fit ∙ ap (λ x. (open_folders_events fs ++ x)
    ++ closed (closes (map scanned_folder fs))) (events_file exec [] ∙ ap (λ k. FileOf exec k ∷ []) none))
    (λ e. sym (append-nil (open_folders_events fs ++ (FileOf exec n ∷ []))))
    ∙ add_one (open_folders_events fs) (FileOf exec n) (closed (if n == 0 then closes (map scanned_folder fs) else 0))

contents_tell : (fs : List OpenFolder) (exec : Bool) (size : ℕ) (part bytes : List ℕ) → OpenFoldersFit fs
    → length (part ++ bytes) ≡ size
    → events_before (filled fs (File exec (part ++ bytes))) []
    ≡ (open_folders_events fs ++ (FileOf exec size ∷ map Content part))
    ++ (map Content bytes ++ closed (closes (map scanned_folder fs)))
contents_tell fs exec size part bytes fit len =
    let rest : List Told = closed (closes (map scanned_folder fs)) in
    let node : events_of (File exec (part ++ bytes)) ≡ (FileOf exec size ∷ map Content part) ++ map Content bytes
    = events_file exec (part ++ bytes) ∙ ap (λ n. FileOf exec n ∷ map Content (part ++ bytes)) len
    ∙ ap (λ x. FileOf exec size ∷ x) (map-append Content part bytes) in
    events_filled fs (File exec (part ++ bytes)) fit
    ∙ ap (λ x. (open_folders_events fs ++ x) ++ closed (closes (map scanned_folder fs))) node
    ∙ ap (λ x. x ++ closed (closes (map scanned_folder fs)))
    (sym (append_assoc (open_folders_events fs) (FileOf exec size ∷ map Content part) (map Content bytes)))
    ∙ append_assoc (open_folders_events fs ++ (FileOf exec size ∷ map Content part)) (map Content bytes)
    (closed (closes (map scanned_folder fs)))

target_tells : (fs : List OpenFolder) (target : List ℕ) → OpenFoldersFit fs
    → events_before (filled fs (Link target)) [] ≡ (open_folders_events fs ++ [])
    ++ (LinkTo target ∷ closed (closes (map scanned_folder fs)))
target_tells fs target fit =
    events_filled fs (Link target) fit ∙ ap (λ x. (open_folders_events fs ++ x)
    ++ closed (closes (map scanned_folder fs))) (events_link target)
    ∙ add_one (open_folders_events fs) (LinkTo target) (closed (closes (map scanned_folder fs)))

name_tells : (before : List Told) (all : List Told) (count : ℕ) (name : List ℕ)
    → (before ++ (Opened count ∷ (all ++ NamedAs name ∷ []))) ++ [] ≡ (before ++ (Opened count ∷ all))
    ++ (NamedAs name ∷ [])
name_tells before all count name = append-nil (before ++ (Opened count ∷ (all ++ NamedAs name ∷ [])))
    ∙ sym (append_assoc before (Opened count ∷ all) (NamedAs name ∷ []))

last_bytes : (bytes : List ℕ) → drop (length bytes - length bytes) bytes ≡ bytes
last_bytes bytes = ap (λ n. drop n bytes) (let z : length bytes - length bytes ≡ 0 = omega arith in z)

-- what the event of a whole field tells, and the ends of the folders that are whole with it
pub field_tells : (fs : List OpenFolder) (hole : Hole) (n : ℕ) (part bytes field : List ℕ) → OpenFoldersFit fs
    → IsFieldOf hole part bytes field → length (part ++ bytes) ≡ width hole
    → events_before (after fs hole (part ++ bytes)) [] ≡ events_before (cut_at fs hole) part
    ++ (told (event_by (next_field hole n) field) bytes ++ closed
    (closes_behind (map scanned_folder fs) (next_field hole n) field))
field_tells fs (Magic k) n part bytes field fit is len = either_cut (nat_lt k 4) (cut_at fs (Magic (k + 1)))
    (cut_at fs Tag) (open_folders_events fs ++ []) refl refl
field_tells fs Tag n part bytes field fit is len = tag_tells (first_byte (part ++ bytes) == 68)
    (first_byte (part ++ bytes) == 70)
  where
    tag_tells : (a b : Bool) → events_before (if a then cut_at fs Count else if b then cut_at fs Executable else
        cut_at fs TargetLength) [] ≡ (open_folders_events fs ++ []) ++ []
    tag_tells true b = sym (append-nil (open_folders_events fs ++ []))
    tag_tells false true = sym (append-nil (open_folders_events fs ++ []))
    tag_tells false false = sym (append-nil (open_folders_events fs ++ []))
field_tells fs Count n part bytes field fit is len =
    subst (λ (x : List ℕ). events_before (opened fs (from_be_bytes w32 (part ++ bytes)) []) []
    ≡ (open_folders_events fs ++ []) ++ (Opened (from_be_bytes w32 x)
    ∷ closed (if nat_lt 0 (from_be_bytes w32 x) then 0 else suc (closes (map scanned_folder fs)))))
    (sym is) (count_tells fs (from_be_bytes w32 (part ++ bytes)) fit)
field_tells fs (NameLength count before) n part bytes field fit is len = sym
    (append-nil (open_folders_events fs ++ (Opened count ∷ entries_events before)))
field_tells fs (Name count before size) n part bytes field fit is len =
    name_tells (open_folders_events fs) (entries_events before) count (part ++ bytes)
    ∙ ap (λ x. (open_folders_events fs ++ (Opened count ∷ entries_events before)) ++ (NamedAs x ∷ []))
    (sym is)
field_tells fs Executable n part bytes field fit is len = sym (append-nil (open_folders_events fs ++ []))
field_tells fs (FileLength exec) n part bytes field fit is len =
    subst (λ (x : List ℕ). events_before (after fs (FileLength exec) (part ++ bytes)) []
    ≡ (open_folders_events fs ++ []) ++ (FileOf exec (from_be_bytes w64 x)
    ∷ closed (if from_be_bytes w64 x == 0 then closes (map scanned_folder fs) else 0)))
    (sym is) (length_tells fs exec (from_be_bytes w64 (part ++ bytes)) fit)
field_tells fs (Contents exec size) n part bytes field fit is len =
    let same : map Content (drop (length bytes - length field) bytes)
    ≡ map Content bytes = ap (λ x. map Content (drop (length bytes - length x) bytes)) is
    ∙ ap (map Content) (last_bytes bytes) in
    contents_tell fs exec size part bytes fit len
    ∙ ap (λ x. (open_folders_events fs ++ (FileOf exec size ∷ map Content part))
    ++ (x ++ closed (closes (map scanned_folder fs)))) (sym same)
field_tells fs TargetLength n part bytes field fit is len = sym (append-nil (open_folders_events fs ++ []))
field_tells fs (Target size) n part bytes field fit is len =
    target_tells fs (part ++ bytes) fit ∙ ap (λ x. (open_folders_events fs ++ [])
    ++ (LinkTo x ∷ closed (closes (map scanned_folder fs)))) (sym is)
field_tells fs (End node) n part bytes field fit is len = sym (append-nil (open_folders_events fs ++ events_of node))

-- ---- a part of a field

contents_more : (before : List Told) (e : Told) (part bytes : List ℕ)
    → before ++ (e ∷ map Content (part ++ bytes)) ≡ (before ++ (e ∷ map Content part)) ++ map Content bytes
contents_more before e part bytes = ap (λ x. before ++ (e ∷ x)) (map-append Content part bytes)
    ∙ sym (append_assoc before (e ∷ map Content part) (map Content bytes))

-- of a file's contents each part is told
pub part_tells : (fs : List OpenFolder) (hole : Hole) (n : ℕ) (part bytes : List ℕ)
    → IsContents (next_field hole n) → events_before (cut_at fs hole) (part ++ bytes)
    ≡ events_before (cut_at fs hole) part ++ map Content bytes
part_tells fs (Contents exec size) n part bytes is = contents_more (open_folders_events fs)
    (FileOf exec size) part bytes
part_tells fs hole n part bytes is = absurd is

-- and of other fields none
pub part_silent : (fs : List OpenFolder) (hole : Hole) (n : ℕ) (part bytes : List ℕ)
    → (IsContents (next_field hole n) → ⊥) → events_before (cut_at fs hole) (part ++ bytes)
    ≡ events_before (cut_at fs hole) part ++ []
part_silent fs (Magic k) n part bytes other = sym (append-nil (open_folders_events fs ++ []))
part_silent fs Tag n part bytes other = sym (append-nil (open_folders_events fs ++ []))
part_silent fs Count n part bytes other = sym (append-nil (open_folders_events fs ++ []))
part_silent fs (NameLength count before) n part bytes other = sym
    (append-nil (open_folders_events fs ++ (Opened count ∷ entries_events before)))
part_silent fs (Name count before size) n part bytes other = sym
    (append-nil (open_folders_events fs ++ (Opened count ∷ entries_events before)))
part_silent fs Executable n part bytes other = sym (append-nil (open_folders_events fs ++ []))
part_silent fs (FileLength exec) n part bytes other = sym (append-nil (open_folders_events fs ++ []))
part_silent fs (Contents exec size) n part bytes other = absurd (other tt)
part_silent fs TargetLength n part bytes other = sym (append-nil (open_folders_events fs ++ []))
part_silent fs (Target size) n part bytes other = sym (append-nil (open_folders_events fs ++ []))
part_silent fs (End node) n part bytes other = sym (append-nil (open_folders_events fs ++ events_of node))
