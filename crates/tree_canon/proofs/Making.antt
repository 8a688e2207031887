-- What is made of the events of a cut tree: its open folders, and what there is of the node at its hole.
use Rattle.std.proofs.Common.{◌≡◌, ℕ, zero, suc, ◌+◌, ◌-◌, ◌<◌, ◌≤◌, ◌∙◌, List, [], ◌∷◌, ◌++◌, length, map, take}
use Rattle.std.proofs.Common.{length-append, append_assoc, arith, refl, sym, ap, subst, Bool, true, false}
use Rattle.std.proofs.Common.{if◌then◌else◌}
use Rattle.std.specs.Prelude.{nat_lt, min}
use Rattle.std.proofs.Math.Seq.{take-length}
use Rattle.std.proofs.lemmas.Bool.{lt-ltb, le-ltb, ltb-true, ltb-false}
use Rattle.std.proofs.lemmas.List.{append-nil, length-take, take_min}
use Rattle.tree_canon.specs.declared.node.Node.{Node}
use Rattle.tree_canon.specs.declared.node.Named.{Named}
use Rattle.tree_canon.specs.declared.node.Node.TheVariants as node
use Rattle.tree_canon.specs.declared.node.Node.TheVariants.{rolls-Folder, rolls-File, rolls-Link}
use Rattle.tree_canon.specs.declared.node.Node.TheOpen as layer
use Rattle.tree_canon.specs.declared.node.Node.TheViews.{roll-Node, roll-Named}
use Rattle.tree_canon.specs.declared.node.Node.TheFolds.{map-Node, ind-Node}
use Rattle.tree_canon.specs.declared.building.Current.{Current}
use Rattle.tree_canon.specs.declared.building.Current.TheVariants as current
use Rattle.tree_canon.specs.CutTree.{OpenFolder, Hole, Magic, Tag, Count, NameLength, Name, Executable, FileLength}
use Rattle.tree_canon.specs.CutTree.{Contents, TargetLength, Target, End, CutTree, width}
use Rattle.tree_canon.specs.Division.{HoleFits, IsSound}
use Rattle.tree_canon.specs.Reading.{entry}
use Rattle.tree_canon.specs.Events.{Told, Opened, NamedAs, FileOf, Content, Closed, events_of, entry_events}
use Rattle.tree_canon.specs.Events.{entries_events, open_folders_events, hole_events, events_before}
use Rattle.tree_canon.specs.Making.{Made, made_at, made_none, with_node, with_contents, with_told, made_from}
use Rattle.tree_canon.specs.Making.{current_of, made_of}
use Rattle.tree_canon.proofs.CutEvents.{events_folder, events_file, events_link, entry_events_is}

pub made_from-append : (m : Made) (xs ys : List Told) → made_from m (xs ++ ys) ≡ made_from (made_from m xs) ys
made_from-append m [] ys = refl
made_from-append m (x ∷ xs) ys = made_from-append (with_told m x) xs ys

-- ---- a file's contents

-- a byte is one of a file's contents alone
pub others_stay : (fs : List OpenFolder) (u : Current) (more : List ℕ)
    → ((exec : Bool) (size : ℕ) (bytes : List ℕ) → u ≡ current.File exec size bytes → ⊥)
    → made_from (made_at fs u) (map Content more) ≡ made_at fs u
others_stay fs u [] other = refl
others_stay fs (current.File exec size bytes) (b ∷ more) other = absurd (other exec size bytes refl)
others_stay fs current.Nothing (b ∷ more) other = others_stay fs current.Nothing more other
others_stay fs (current.Folder count before) (b ∷ more) other = others_stay fs (current.Folder count before) more other
others_stay fs (current.Whole x) (b ∷ more) other = others_stay fs (current.Whole x) more other

node_stays : (fs : List OpenFolder) (x : Node) (more : List ℕ)
    → made_from (with_node fs x) (map Content more) ≡ with_node fs x
node_stays [] x more = others_stay [] (current.Whole x) more (λ exec size bytes is. cc)
node_stays (f ∷ fs) x more = others_stay fs (current.Folder f.count (f.before ++ entry f.name x ∷ [])) more
    (λ exec size bytes is. cc)

pub file_part : (fs : List OpenFolder) (exec : Bool) (size : ℕ) (bytes : List ℕ) → length bytes < size
    → with_contents fs exec size bytes ≡ made_at fs (current.File exec size bytes)
file_part fs exec size bytes lt = ap (λ b. if b then made_at fs (current.File exec size bytes) else with_node fs
    (node.File exec bytes)) (lt-ltb (length bytes) size lt)

pub file_whole : (fs : List OpenFolder) (exec : Bool) (size : ℕ) (bytes : List ℕ) → size ≤ length bytes
    → with_contents fs exec size bytes ≡ with_node fs (node.File exec bytes)
file_whole fs exec size bytes le = ap (λ b. if b then made_at fs (current.File exec size bytes) else with_node fs
    (node.File exec bytes)) (le-ltb (length bytes) size le)

one_byte : (bytes : List ℕ) (b : ℕ) → length (bytes ++ b ∷ []) ≡ length bytes + 1
one_byte bytes b = length-append bytes (b ∷ [])

-- of bytes that come next a file takes those that it lacks
byte_made : (fs : List OpenFolder) (exec : Bool) (size : ℕ) (more bytes : List ℕ) (lacks : ℕ)
    → suc lacks ≡ size - length bytes → (b : ℕ) (test : Bool) → nat_lt (length (bytes ++ b ∷ [])) size ≡ test
    → (length (bytes ++ b ∷ []) < size → lacks ≡ size - length (bytes ++ b ∷ [])
    → made_from (made_at fs (current.File exec size (bytes ++ b ∷ []))) (map Content more)
    ≡ with_contents fs exec size ((bytes ++ b ∷ []) ++ take lacks more))
    → made_from (with_contents fs exec size (bytes ++ b ∷ [])) (map Content more)
    ≡ with_contents fs exec size (bytes ++ b ∷ take lacks more)
byte_made fs exec size more bytes lacks is b true e rest =
    let less : length (bytes ++ b ∷ []) < size = ltb-true _ _ e in
    ap (λ m. made_from m (map Content more)) (file_part fs exec size (bytes ++ b ∷ []) less)
    ∙ rest less (omega (arith, one_byte bytes b))
    ∙ ap (with_contents fs exec size) (append_assoc bytes (b ∷ []) (take lacks more))
byte_made fs exec size more bytes lacks is b false e rest =
    let whole : size ≤ length (bytes ++ b ∷ []) = ltb-false _ _ e in
    let none : lacks ≡ 0 = omega (arith, one_byte bytes b) in
    ap (λ m. made_from m (map Content more)) (file_whole fs exec size (bytes ++ b ∷ []) whole)
    ∙ node_stays fs (node.File exec (bytes ++ b ∷ [])) more
    ∙ sym (file_whole fs exec size (bytes ++ b ∷ []) whole)
    ∙ ap (λ k. with_contents fs exec size (bytes ++ b ∷ take k more)) (sym none)

contents_made : (fs : List OpenFolder) (exec : Bool) (size : ℕ) (more bytes : List ℕ) (lacks : ℕ)
    → length bytes < size → lacks ≡ size - length bytes
    → made_from (made_at fs (current.File exec size bytes)) (map Content more)
    ≡ with_contents fs exec size (bytes ++ take lacks more)
contents_made fs exec size more bytes zero lt is = absurd (omega arith)
contents_made fs exec size [] bytes (suc n) lt is = sym
    (ap (with_contents fs exec size) (append-nil bytes) ∙ file_part fs exec size bytes lt)
contents_made fs exec size (b ∷ more) bytes (suc n) lt is = byte_made fs exec size more bytes n is b
    (nat_lt (length (bytes ++ b ∷ [])) size) refl
    (λ less lacks. contents_made fs exec size more (bytes ++ b ∷ []) n less lacks)

-- the share of them that a file takes
module _ (fs : List OpenFolder) (u : Current) (exec : Bool) (size : ℕ) (bytes more : List ℕ) (share : ℕ)
    (is : u ≡ current.File exec size bytes) (lt : length bytes < size)
    (least : share ≡ min (size - length bytes) (length more)) where
  share_made : made_from (made_at fs u) (map Content more) ≡ with_contents fs exec size (bytes ++ take share more)
  share_made =
      ap (λ x. made_from (made_at fs x) (map Content more)) is
      ∙ contents_made fs exec size more bytes (size - length bytes) lt refl
      ∙ ap (λ x. with_contents fs exec size (bytes ++ x))
      (sym (take_min (size - length bytes) more) ∙ ap (λ n. take n more) (sym least))

  share_length : length (bytes ++ take share more) ≡ length bytes + share
  share_length = omega (arith, length-append bytes (take share more), length-take share more, least)

  pub part_made : (next : List ℕ) → next ≡ bytes ++ take share more → share < size - length bytes
      → made_at fs (current.File exec size next) ≡ made_from (made_at fs u) (map Content more)
  part_made next same less = ap (λ x. made_at fs (current.File exec size x)) same
      ∙ sym (share_made ∙ file_part fs exec size (bytes ++ take share more) (omega (arith, share_length)))

  pub whole_made : (next : List ℕ) → next ≡ bytes ++ take share more → size - length bytes ≤ share
      → with_node fs (node.File exec next) ≡ made_from (made_at fs u) (map Content more)
  whole_made next same all = ap (λ x. with_node fs (node.File exec x)) same
      ∙ sym (share_made ∙ file_whole fs exec size (bytes ++ take share more) (omega (arith, share_length)))

file_made : (m : Made) (exec : Bool) (bytes : List ℕ) → made_from m (events_of (node.File exec bytes))
    ≡ with_node m.folders (node.File exec bytes)
file_made m exec [] = ap (made_from m) (events_file exec [])
file_made m exec (b ∷ bs) =
    ap (made_from m) (events_file exec (b ∷ bs))
    ∙ ap (λ x. made_from x (map Content (b ∷ bs))) (file_part m.folders exec (length (b ∷ bs)) [] (omega arith))
    ∙ contents_made m.folders exec (length (b ∷ bs)) (b ∷ bs) [] (length (b ∷ bs)) (omega arith) (omega arith)
    ∙ ap (with_contents m.folders exec (length (b ∷ bs))) (take-length (b ∷ bs))
    ∙ file_whole m.folders exec (length (b ∷ bs)) (b ∷ bs) (omega arith)

-- ---- a node

-- all that is told of a node makes it whole
abbrev pub IsMade : Node → Type 0
IsMade x = (m : Made) → made_from m (events_of x) ≡ with_node m.folders x

abbrev pub Seen : Type 0
Seen = (e : Named) × IsMade e.node

abbrev pub bare : List Seen → List Named
bare es = map (λ e. e.0) es

entries_made : (es : List Seen) (fs : List OpenFolder) (count : ℕ) (before : List Named)
    → made_from (made_at fs (current.Folder count before)) (entries_events (bare es))
    ≡ made_at fs (current.Folder count (before ++ bare es))
entries_made [] fs count before = ap (λ x. made_at fs (current.Folder count x)) (sym (append-nil before))
entries_made (e ∷ es) fs count before =
    let m : Made = made_at fs (current.Folder count before) in
    let open' : Made = made_at (record { count = count; before = before; name = e.0.name } ∷ fs) current.Nothing in
    made_from-append m (entry_events e.0) (entries_events (bare es))
    ∙ ap (λ x. made_from (made_from m x) (entries_events (bare es))) (entry_events_is e.0)
    ∙ ap (λ x. made_from x (entries_events (bare es))) (e.1 open')
    ∙ entries_made es fs count (before ++ e.0 ∷ [])
    ∙ ap (λ x. made_at fs (current.Folder count x)) (append_assoc before (e.0 ∷ []) (bare es))

folder_made : (es : List Seen) → IsMade (node.Folder (bare es))
folder_made es m =
    ap (made_from m) (events_folder (bare es))
    ∙ made_from-append (made_at m.folders (current.Folder (length (bare es)) [])) (entries_events (bare es))
    (Closed ∷ [])
    ∙ ap (λ x. made_from x (Closed ∷ [])) (entries_made es m.folders (length (bare es)) [])

by_layer : (x : layer.Node-F Node Named) (y : layer.Node-F ((n : Node) × IsMade n) Seen)
    → map-Node ((n : Node) × IsMade n) Seen Node Named (λ e. e.0) (λ e. e.0) y ≡ x → IsMade (roll-Node x)
by_layer x (layer.Folder es) is = subst (λ z. IsMade (roll-Node z)) is
    (subst IsMade (sym (rolls-Folder (bare es))) (folder_made es))
by_layer x (layer.File exec bytes) is = subst (λ z. IsMade (roll-Node z)) is
    (subst IsMade (sym (rolls-File exec bytes)) (λ m. file_made m exec bytes))
by_layer x (layer.Link target) is = subst (λ z. IsMade (roll-Node z)) is
    (subst IsMade (sym (rolls-Link target)) (λ m. ap (made_from m) (events_link target)))

pub node_made : (x : Node) → IsMade x
node_made = ind-Node IsMade (λ e. IsMade e.node) by_layer
    (λ x y is. subst (λ (z : layer.Named-F Node Named). IsMade (roll-Named z).node) is y.node.1)

-- ---- a cut tree

abbrev seen : List Named → List Seen
seen es = map (λ e. (e, node_made e.node)) es

bare_seen : (es : List Named) → bare (seen es) ≡ es
bare_seen [] = refl
bare_seen (e ∷ es) = ap (λ xs. e ∷ xs) (bare_seen es)

-- a folder up to the entry under way
before_made : (fs : List OpenFolder) (count : ℕ) (es : List Named)
    → made_from (made_at fs current.Nothing) (Opened count ∷ entries_events es)
    ≡ made_at fs (current.Folder count es)
before_made fs count es =
    subst (λ xs. made_from (made_at fs (current.Folder count [])) (entries_events xs)
    ≡ made_at fs (current.Folder count xs)) (bare_seen es) (entries_made (seen es) fs count [])

folders_made : (fs : List OpenFolder) → made_from made_none (open_folders_events fs) ≡ made_at fs current.Nothing
folders_made [] = refl
folders_made (f ∷ fs) =
    made_from-append made_none (open_folders_events fs)
    (Opened f.count ∷ (entries_events f.before ++ NamedAs f.name ∷ []))
    ∙ ap (λ m. made_from m (Opened f.count ∷ (entries_events f.before ++ NamedAs f.name ∷ []))) (folders_made fs)
    ∙ made_from-append (made_at fs current.Nothing) (Opened f.count ∷ entries_events f.before) (NamedAs f.name ∷ [])
    ∙ ap (λ m. made_from m (NamedAs f.name ∷ [])) (before_made fs f.count f.before)

contents_begun : (fs : List OpenFolder) (exec : Bool) (size : ℕ) (part : List ℕ) → length part < size
    → made_from (made_at fs current.Nothing) (FileOf exec size ∷ map Content part)
    ≡ made_at fs (current.File exec size part)
contents_begun fs exec size part lt =
    ap (λ m. made_from m (map Content part)) (file_part fs exec size [] (omega arith))
    ∙ sym (part_made fs (current.File exec size []) exec size [] part (length part) refl (omega arith)
    (omega arith) part (sym (take-length part)) (omega arith))

hole_made : (fs : List OpenFolder) (hole : Hole) (part : List ℕ) → HoleFits fs hole → length part < width hole
    → made_from (made_at fs current.Nothing) (hole_events hole part) ≡ made_at fs (current_of hole part)
hole_made fs (NameLength count before) part fit lt = before_made fs count before
hole_made fs (Name count before size) part fit lt = before_made fs count before
hole_made fs (Contents exec size) part fit lt = contents_begun fs exec size part lt
hole_made fs (End root) part fit lt =
    node_made root (made_at fs current.Nothing) ∙ ap (λ ls. with_node ls root) fit.1
    ∙ ap (λ ls. made_at ls (current.Whole root)) (sym fit.1)
hole_made fs (Magic k) part fit lt = refl
hole_made fs Tag part fit lt = refl
hole_made fs Count part fit lt = refl
hole_made fs Executable part fit lt = refl
hole_made fs (FileLength exec) part fit lt = refl
hole_made fs TargetLength part fit lt = refl
hole_made fs (Target size) part fit lt = refl

-- what is told of a cut tree makes it
pub cut_made : (c : CutTree) (part : List ℕ) → IsSound c → length part < width c.hole
    → made_from made_none (events_before c part) ≡ made_of c part
cut_made c part sound lt =
    made_from-append made_none (open_folders_events c.folders) (hole_events c.hole part)
    ∙ ap (λ m. made_from m (hole_events c.hole part)) (folders_made c.folders)
    ∙ hole_made c.folders c.hole part sound.hole lt
