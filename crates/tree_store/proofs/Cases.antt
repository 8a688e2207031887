-- Laying a node by its first byte, and the entries of a folder one after another.
use Rattle.std.proofs.Common.{◌≡◌, ◌≤◌, ◌<◌, ◌+◌, ◌^◌, ◌∙◌, refl, sym, ap, subst, arith, ℕ, suc, Bool, true}
use Rattle.std.proofs.Common.{if◌then◌else◌, List, [], ◌∷◌, ◌++◌, append_assoc, map, length, length-append, Option}
use Rattle.std.proofs.Common.{Some, None, Result, Ok, Err}
use Rattle.std.specs.Prelude.{nat_le, nat_lt, IsTrue}
use Rattle.std.specs.Option.{option_map}
use Rattle.std.specs.Int.{from_be_bytes, to_be_bytes, w16, w32, w64}
use Rattle.std.proofs.lemmas.Bool.{and_parts, leb-true, ltb-true}
use Rattle.std.proofs.lemmas.Nat.{from_be_bytes-to_be_bytes_4, from_be_bytes-to_be_bytes_8}
use Rattle.cnb_world.specs.Path.{is_path, joined}
use Rattle.cnb_world.specs.Tree.{Tree}
use Rattle.steps.specs.Outside.{Seen}
use Rattle.tree_canon.specs.declared.node.Node.{Node}
use Rattle.tree_canon.specs.declared.node.Named.{Named}
use Rattle.tree_canon.specs.declared.node.Node.TheVariants.{Folder, File, Link, rolls-Folder, rolls-File, rolls-Link}
use Rattle.tree_canon.specs.declared.node.Node.TheOpen as layer
use Rattle.tree_canon.specs.declared.node.Node.TheViews.{roll-Node, roll-Named}
use Rattle.tree_canon.specs.declared.node.Node.TheFolds.{map-Node, ind-Node}
use Rattle.tree_canon.specs.Fits.{fits, entries_fit, name_fits}
use Rattle.tree_canon.specs.Names.{follows, is_name, is_target}
use Rattle.tree_canon.specs.Spelling.{entries_bytes, entry_bytes, limit, name_bytes, node_bytes}
use Rattle.tree_canon.proofs.Equations.{entry_bytes_is, fits_file, fits_folder, fits_link, node_bytes_file}
use Rattle.tree_canon.proofs.Equations.{node_bytes_folder, node_bytes_link}
use Rattle.tree_canon.proofs.Nodes.{fits_cons}
use Rattle.tree_store.specs.Ahead.{Ahead, Did, Lays, Reading}
use Rattle.tree_store.specs.Around.{KeptAround, LeavesAround}
use Rattle.tree_store.specs.Laying.{entry_laid, node_laid}
use Rattle.tree_store.specs.Right.{AreFolders, way_into, way_to}
use Rattle.tree_store.specs.declared.fault.StoreFault.{StoreFault}
use Rattle.tree_store.specs.Source.{Source}
use Rattle.tree_store.proofs.Ahead.{lays_behind, lays_bytes, none_are}
use Rattle.tree_store.proofs.Fields.{ahead_few}
use Rattle.tree_store.proofs.Fit.{FitsAt}
use Rattle.tree_store.proofs.Laid.{laid_entry}
use Rattle.tree_store.proofs.Places.{name_form}
use Rattle.tree_store.proofs.Right.{inside_kept, name_way}

-- ---- a folder, a file or a link

pub data Cased (node : Node) : Type 0 where
  AFolder : (all : List Named) → node ≡ Folder all → Cased node
  AFile : (exec : Bool) (bytes : List ℕ) → node ≡ File exec bytes → Cased node
  ALink : (target : List ℕ) → node ≡ Link target → Cased node

abbrev CasedEntry : Type 0
CasedEntry = (e : Named) × Cased e.node

abbrev bare : List CasedEntry → List Named
bare es = map (λ e. e.0) es

cased_layer : (x : layer.Node-F Node Named) (y : layer.Node-F ((n : Node) × Cased n) CasedEntry)
    → map-Node ((n : Node) × Cased n) CasedEntry Node Named (λ e. e.0) (λ e. e.0) y ≡ x → Cased (roll-Node x)
cased_layer x (layer.Folder es) is = subst (λ z. Cased (roll-Node z)) is
    (subst Cased (sym (rolls-Folder (bare es))) (AFolder (bare es) refl))
cased_layer x (layer.File exec bytes) is = subst (λ z. Cased (roll-Node z)) is
    (subst Cased (sym (rolls-File exec bytes)) (AFile exec bytes refl))
cased_layer x (layer.Link target) is = subst (λ z. Cased (roll-Node z)) is
    (subst Cased (sym (rolls-Link target)) (ALink target refl))

pub cased : (node : Node) → Cased node
cased = ind-Node Cased (λ e. Cased e.node) cased_layer
    (λ x y is. subst (λ (z : layer.Named-F Node Named). Cased (roll-Named z).node) is y.node.1)

pub fits_deep : (node : Node) (depth : ℕ) → fits node depth ≡ true → depth ≤ 64
fits_deep node depth fit = by (cased node)
  where
    by : Cased node → depth ≤ 64
    by (AFolder all is) = leb-true depth 64 (and_parts (nat_le depth 64) _
        (sym (ap (λ n. fits n depth) is ∙ fits_folder all depth) ∙ fit)).0
    by (AFile exec bytes is) = leb-true depth 64 (sym (ap (λ n. fits n depth) is ∙ fits_file exec bytes depth) ∙ fit)
    by (ALink target is) = leb-true depth 64 (and_parts (nat_le depth 64) (is_target target)
        (sym (ap (λ n. fits n depth) is ∙ fits_link target depth) ∙ fit)).0

pub target_of : (target : List ℕ) (depth : ℕ) → fits (Link target) depth ≡ true → is_target target ≡ true
target_of target depth fit = (and_parts (nat_le depth 64) (is_target target) (sym (fits_link target depth) ∙ fit)).1

pub folder_count : (all : List Named) (depth : ℕ) → fits (Folder all) depth ≡ true → length all < 2 ^ 32
folder_count all depth fit = ltb-true (length all) (2 ^ 32)
    (and_parts (nat_lt (length all) (2 ^ 32)) (entries_fit None all (suc depth))
    (and_parts (nat_le depth 64) _ (sym (fits_folder all depth) ∙ fit)).1).0

-- ---- a node by its first byte

pub node_lays : (node : Node) (rest path : List ℕ) (depth : ℕ) (ways : List (List ℕ)) (v : ℕ)
    (s0 s1 s2 : Source) (a b d : Seen) (r : Result (Unit {0}) StoreFault) → fits node depth ≡ true
    → ((byte : ℕ) (behind : List ℕ) → Reading (λ read. read ≡ byte) (byte ∷ behind) behind ways s0 a (Ok v) s1 b)
    → ((all : List Named) → v ≡ 68 → fits (Folder all) depth ≡ true
    → Lays (to_be_bytes w32 (length all) ++ (entries_bytes all ++ rest)) rest
    (node_laid (Folder all) path) ways [] s1 b r s2 d)
    → ((exec : Bool) (bytes : List ℕ) → v ≡ 70 → Lays ((if exec then 1 else 0)
    ∷ (to_be_bytes w64 (length bytes) ++ (bytes ++ rest))) rest
    (node_laid (File exec bytes) path) ways [] s1 b r s2 d)
    → ((target : List ℕ) → v ≡ 76 → is_target target ≡ true
    → Lays (to_be_bytes w16 (length target) ++ (target ++ rest)) rest
    (node_laid (Link target) path) ways [] s1 b r s2 d)
    → Lays (node_bytes node ++ rest) rest (node_laid node path) ways [] s0 a r s2 d
node_lays node rest path depth ways v s0 s1 s2 a b d r fit read folder file link = by (cased node)
  where
    by : Cased node → Lays (node_bytes node ++ rest) rest (node_laid node path) ways [] s0 a r s2 d
    by (AFolder all is) = subst (λ n. Lays (node_bytes n ++ rest) rest (node_laid n path) ways [] s0 a r s2 d) (sym is)
        (lays_bytes (sym (ap (λ l. l ++ rest) (node_bytes_folder all)
        ∙ append_assoc (68 ∷ to_be_bytes w32 (length all)) (entries_bytes all) rest))
        (lays_behind (λ read. read ≡ 68) (read 68 (to_be_bytes w32 (length all) ++ (entries_bytes all ++ rest)))
        (λ tag. folder all tag (ap (λ n. fits n depth) (sym is) ∙ fit))))
    by (AFile exec bytes is) = subst (λ n. Lays (node_bytes n ++ rest) rest
        (node_laid n path) ways [] s0 a r s2 d) (sym is)
        (lays_bytes (sym (ap (λ l. l ++ rest) (node_bytes_file exec bytes)
        ∙ append_assoc (70 ∷ (if exec then 1 else 0) ∷ to_be_bytes w64 (length bytes)) bytes rest))
        (lays_behind (λ read. read ≡ 70) (read 70 ((if exec then 1 else 0)
        ∷ (to_be_bytes w64 (length bytes) ++ (bytes ++ rest)))) (λ tag. file exec bytes tag)))
    by (ALink target is) = subst (λ n. Lays (node_bytes n ++ rest) rest (node_laid n path) ways [] s0 a r s2 d) (sym is)
        (lays_bytes (sym (ap (λ l. l ++ rest) (node_bytes_link target)
        ∙ append_assoc (76 ∷ to_be_bytes w16 (length target)) target rest))
        (lays_behind (λ read. read ≡ 76) (read 76 (to_be_bytes w16 (length target) ++ (target ++ rest)))
        (λ tag. link target tag (target_of target depth (ap (λ n. fits n depth) (sym is) ∙ fit)))))

-- the same where the first byte isn't read
pub node_stops : (node : Node) (rest path : List ℕ) (ways : List (List ℕ)) (s0 s1 : Source) (a b : Seen)
    (fault : StoreFault)
    → ((byte : ℕ) (behind : List ℕ) → Reading (λ read. read ≡ byte) (byte ∷ behind) behind ways s0 a (Err fault) s1 b)
    → Lays (node_bytes node ++ rest) rest (node_laid node path) ways [] s0 a (Err fault) s1 b
node_stops node rest path ways s0 s1 a b fault read = by (cased node)
  where
    none : (behind : List ℕ) (byte : ℕ) → Did {A = ℕ} (λ read. read ≡ byte) behind (λ files. files) ways a
        (Err fault) s1 b → Did {A = Unit {0}} (λ done. Unit {0}) rest (node_laid node path) [] a (Err fault) s1 b
    none behind byte h = record {
      value = tt {0};
      files = tt {0};
      ahead = tt {0};
      folders = tt {0};
      free = h.free;
      right = h.right;
    }

    whole : (byte : ℕ) (behind : List ℕ) → byte ∷ behind ≡ node_bytes node ++ rest
        → Lays (node_bytes node ++ rest) rest (node_laid node path) ways [] s0 a (Err fault) s1 b
    whole byte behind is = record {
      so = λ ahead are. none behind byte
          ((read byte behind).so (subst (Ahead s0 a.files) (sym is) ahead) are);
    }

    by : Cased node → Lays (node_bytes node ++ rest) rest (node_laid node path) ways [] s0 a (Err fault) s1 b
    by (AFolder all is) = whole 68 ((to_be_bytes w32 (length all) ++ entries_bytes all) ++ rest)
        (sym (ap (λ n. node_bytes n ++ rest) is ∙ ap (λ l. l ++ rest) (node_bytes_folder all)))
    by (AFile exec bytes is) = whole 70 (((if exec then 1 else 0) ∷ to_be_bytes w64 (length bytes) ++ bytes)
        ++ rest) (sym (ap (λ n. node_bytes n ++ rest) is ∙ ap (λ l. l ++ rest) (node_bytes_file exec bytes)))
    by (ALink target is) = whole 76 ((to_be_bytes w16 (length target) ++ target) ++ rest)
        (sym (ap (λ n. node_bytes n ++ rest) is ∙ ap (λ l. l ++ rest) (node_bytes_link target)))

-- ---- numbers that are read

pub lays_few : {whole rest : List ℕ} {c : Tree → Tree} {w0 w1 : List (List ℕ)} {s0 s1 : Source} {a b : Seen}
    {r : Result (Unit {0}) StoreFault}
    → (length whole ≤ limit → Lays whole rest c w0 w1 s0 a r s1 b) → Lays whole rest c w0 w1 s0 a r s1 b
lays_few {whole} {rest} {c} {w0} {w1} {s0} {s1} {a} {b} {r} h = record
    { so = λ ahead are. (h (few ahead)).so ahead are }
  where
    few : Ahead s0 a.files whole → length whole ≤ limit
    few ahead = let sum : s0.at + length whole ≤ limit = ahead_few s0 a.files whole ahead in omega (arith, sum)

pub file_size : (exec : Bool) (bytes rest head slice : List ℕ) (size : ℕ)
    → length ((if exec then 1 else 0) ∷ (to_be_bytes w64 (length bytes) ++ (bytes ++ rest))) ≤ limit
    → slice ≡ head → head ≡ to_be_bytes w64 (length bytes) → (length slice ≡ 8 → size ≡ from_be_bytes w64 slice)
    → length bytes ≡ size
file_size exec bytes rest head slice size few same value read =
    let short : length bytes < 2 ^ 64 = omega (
      arith,
      few,
      length-append (to_be_bytes w64 (length bytes))
          (bytes ++ rest),
      length-append bytes rest,
    ) in
    sym (read (ap length (same ∙ value)) ∙ ap (from_be_bytes w64) (same ∙ value)
    ∙ from_be_bytes-to_be_bytes_8 (length bytes) short)

pub count_is : (all : List Named) (depth : ℕ) (head slice : List ℕ) (count : ℕ) → fits (Folder all) depth ≡ true
    → slice ≡ head → head ≡ to_be_bytes w32 (length all) → (length slice ≡ 4 → count ≡ from_be_bytes w32 slice)
    → length all ≡ count
count_is all depth head slice count fit same value read = sym
    (read (ap length (same ∙ value)) ∙ ap (from_be_bytes w32) (same ∙ value)
    ∙ from_be_bytes-to_be_bytes_4 (length all) (folder_count all depth fit))

-- ---- folders that aren't asked for any more

pub lays_away : {whole rest : List ℕ} {c : Tree → Tree} {w0 w1 : List (List ℕ)} {s0 s1 : Source} {a b : Seen}
    {r : Result (Unit {0}) StoreFault}
    → Lays whole rest c w0 w1 s0 a r s1 b → Lays whole rest c w0 [] s0 a r s1 b
lays_away {whole} {rest} {c} {w0} {w1} {s0} {s1} {a} {b} {r} h = record { so = λ ahead are. by r (h.so ahead are) }
  where
    by : (r : Result (Unit {0}) StoreFault) → Did (λ done. Unit {0}) rest c w1 a r s1 b
        → Did (λ done. Unit {0}) rest c [] a r s1 b
    by (Ok done) one = record {
      value = tt {0};
      files = one.files;
      ahead = one.ahead;
      folders = none_are b.files;
      free = tt {0};
      right = one.right;
    }
    by (Err fault) one = record {
      value = tt {0};
      files = tt {0};
      ahead = tt {0};
      folders = tt {0};
      free =
          one.free;
      right = one.right;
    }

-- ---- entries, one after another

pub form_name : (last : Option (List ℕ)) (name : List ℕ) → name_fits last name ≡ true → is_name name ≡ true
form_name last name form = (and_parts (is_name name) (follows last name) form).0

pub form_behind : (last : Option (List ℕ)) (name : List ℕ) → name_fits last name ≡ true → follows last name ≡ true
form_behind last name form = (and_parts (is_name name) (follows last name) form).1

-- the next entry, behind a last name
pub record NextEntry (depth : ℕ) (last : Option (List ℕ)) (more : List Named) : Type 0 where
  pub entry : Named
  pub others : List Named
  pub is : more ≡ entry ∷ others
  pub form : name_fits last entry.name ≡ true
  pub node : fits entry.node depth ≡ true
  pub fit : FitsAt depth others
  pub named : Some entry.name ≡ fit.last

pub next_of : (depth : ℕ) (more : List Named) (left : ℕ) → length more ≡ left → 0 < left → (fit : FitsAt depth more)
    → NextEntry depth fit.last more
next_of depth [] left count some fit = absurd (omega arith)
next_of depth (e ∷ es) left count some fit =
    let p = fits_cons fit.last e es depth fit.fit in
    record {
      entry = e;
      others = es;
      is = refl;
      form = p.0;
      node = p.1;
      fit = record { last = Some e.name; fit = p.2 };
      named = refl;
    }

pub next_bytes : (more : List Named) (e : Named) (es : List Named) (rest : List ℕ) → more ≡ e ∷ es
    → entry_bytes e ++ (entries_bytes es ++ rest) ≡ entries_bytes more ++ rest
next_bytes more e es rest is = sym (ap (λ m. entries_bytes m ++ rest) is
    ∙ append_assoc (entry_bytes e) (entries_bytes es) rest)

-- ---- an entry

pub entry_ahead : (e : Named) (rest : List ℕ) → name_bytes e.name ++ (node_bytes e.node ++ rest) ≡ entry_bytes e ++ rest
entry_ahead e rest = sym (ap (λ l. l ++ rest) (entry_bytes_is e)
    ∙ append_assoc (name_bytes e.name) (node_bytes e.node) rest)

-- the node of an entry, laid at its path
pub entry_child : (folder path : List ℕ) (e : Named) (whole rest : List ℕ) (s1 s2 : Source) (b d : Seen)
    (r : Result (Unit {0}) StoreFault) → path ≡ joined folder e.name → IsTrue (is_path folder)
    → is_name e.name ≡ true → LeavesAround path b d
    → Lays whole rest (node_laid e.node path) (way_to path) [] s1 b r s2 d
    → Lays whole rest (entry_laid e folder) (way_into folder) (way_into folder) s1 b r s2 d
entry_child folder path e whole rest s1 s2 b d r is path_is name kept h = record
    { so = λ ahead are. by r are (h.so ahead (name_way folder e.name path b.files is path_is name are)) }
  where
    same : (o : Option Tree) → option_map (node_laid e.node path) o ≡ option_map (entry_laid e folder) o
    same None = refl
    same (Some files) = ap Some (ap (λ p. node_laid e.node p files) is ∙ sym (laid_entry e folder files))

    by : (r : Result (Unit {0}) StoreFault) → AreFolders (way_into folder) b.files
        → Did {A = Unit {0}} (λ done. Unit {0}) rest (node_laid e.node path) [] b r s2 d
        → Did {A = Unit {0}} (λ done. Unit {0}) rest (entry_laid e folder) (way_into folder) b r s2 d
    by (Ok done) are one = record {
      value = tt {0};
      files = one.files ∙ same b.files;
      ahead = one.ahead;
      folders = inside_kept folder e.name b.files d.files (name_form e.name name).0
          (subst (λ p. KeptAround p b.files d.files) is kept.files) are;
      free = tt {0};
      right = one.right;
    }
    by (Err fault) are one = record {
      value = tt {0};
      files = tt {0};
      ahead = tt {0};
      folders = tt {0};
      free =
          one.free;
      right = one.right;
    }
