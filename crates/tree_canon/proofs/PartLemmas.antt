-- Parts of a spelling that are written one after another.
use Rattle.std.proofs.Common.{Bool, ◌≡◌, ◌≤◌, ◌<◌, ◌+◌, ◌∙◌, ℕ, List, [], ◌∷◌, ◌++◌, length, arith, sym, ap}
use Rattle.std.proofs.Common.{append_assoc, append-nil, drop, drop-cons, get_or, length-append, take, ◌-◌}
use Rattle.std.proofs.lemmas.List.{take_rest}
use Rattle.tree_canon.specs.Parts.{Writes, bytes_of_parts, part_bytes}
use Rattle.tree_canon.specs.Spelling.{entries_bytes, file_head, folder_head, name_bytes, node_bytes}
use Rattle.tree_canon.specs.declared.parts.Part.{Part}
use Rattle.tree_canon.specs.declared.node.Named.{Named}
use Rattle.tree_canon.specs.declared.node.Node.{Node}
use Rattle.tree_canon.specs.declared.node.Node.TheVariants.{Folder, File}
use Rattle.tree_canon.proofs.Equations.{entry_bytes_is, node_bytes_file, node_bytes_folder}

bytes_append : (ps qs : List Part) → bytes_of_parts (ps ++ qs) ≡ bytes_of_parts qs ++ bytes_of_parts ps
bytes_append [] qs = sym (append-nil (bytes_of_parts qs))
bytes_append (p ∷ ps) qs = ap (λ bytes. bytes ++ part_bytes p) (bytes_append ps qs)
    ∙ append_assoc (bytes_of_parts qs) (bytes_of_parts ps) (part_bytes p)

-- a beginning is written, and what is left of it is left as parts
writes_by : (bytes head written after : List ℕ) (parts left more : List Part) → bytes ≡ head ++ bytes_of_parts more
    → after ≡ written ++ head → left ≡ parts ++ more → length more ≤ length head
    → Writes bytes written parts after left
writes_by bytes head written after parts left more is behind pushed few = record {
  all = ap (λ x. x ++ bytes_of_parts left) behind ∙ ap (λ x. (written ++ head) ++ x) (ap bytes_of_parts pushed
      ∙ bytes_append parts more) ∙ append_assoc written head (bytes_of_parts more ++ bytes_of_parts parts)
      ∙ ap (λ x. written ++ x) (sym (append_assoc head (bytes_of_parts more) (bytes_of_parts parts))
      ∙ ap (λ x. x ++ bytes_of_parts parts) (sym is));
  fewer = omega (
    arith,
    few,
    ap length is,
    length-append head (bytes_of_parts more),
    ap (λ x. length (bytes_of_parts x)) pushed,
    ap length (bytes_append parts more),
    length-append (bytes_of_parts more) (bytes_of_parts parts),
    ap length pushed,
    length-append parts more,
  );
}

-- ---- one part is pushed, or two

pub writes_one : (x : Part) (parts left : List Part) (bytes head written after : List ℕ)
    → left ≡ parts ++ x ∷ [] → after ≡ written ++ head → bytes ≡ head ++ part_bytes x
    → 1 ≤ length head → Writes bytes written parts after left
writes_one x parts left bytes head written after is wrote behind few =
    writes_by bytes head written after parts left (x ∷ []) behind wrote is few

pub writes_two : (x y : Part) (parts mid left : List Part) (bytes head written after : List ℕ)
    → mid ≡ parts ++ x ∷ [] → left ≡ mid ++ y ∷ [] → after ≡ written ++ head
    → bytes ≡ head ++ (part_bytes y ++ part_bytes x)
    → 2 ≤ length head → Writes bytes written parts after left
writes_two x y parts mid left bytes head written after is then wrote behind few =
    writes_by bytes head written after parts left (x ∷ y ∷ []) behind wrote
    (then ∙ ap (λ m. m ++ y ∷ []) is ∙ append_assoc parts (x ∷ []) (y ∷ [])) few

-- ---- what stands in front of the parts of a node

pub folder_is : (node : Node) (all a b : List Named) → node ≡ Folder all → a ≡ all → b ≡ all
    → node_bytes node ≡ folder_head (length a) ++ entries_bytes b
folder_is node all a b is one other = ap node_bytes is ∙ node_bytes_folder all
    ∙ ap (λ x. folder_head (length x) ++ entries_bytes all) (sym one)
    ∙ ap (λ x. folder_head (length a) ++ entries_bytes x) (sym other)

pub file_is : (node : Node) (exec : Bool) (bytes a b : List ℕ) → node ≡ File exec bytes → a ≡ bytes → b ≡ bytes
    → node_bytes node ≡ file_head exec (length a) ++ b
file_is node exec bytes a b is one other = ap node_bytes is ∙ node_bytes_file exec bytes
    ∙ ap (λ x. file_head exec (length x) ++ bytes) (sym one) ∙ ap (λ x. file_head exec (length a) ++ x) (sym other)

-- ---- the first of some entries

abbrev pub rest_of : List Named → List Named
rest_of es = take (length es - 1) (drop 1 es)

entries_are : (es : List Named) (e : Named) → 1 ≤ length es → e ≡ get_or es 0 e → es ≡ e ∷ rest_of es
entries_are es e some is = drop-cons es 0 e some ∙ ap (λ y. y ∷ drop 1 es) (sym is)
    ∙ ap (λ rest. e ∷ rest) (sym (take_rest es 1))

pub entries_bytes_are : (es : List Named) (e : Named) (name : List ℕ) → 1 ≤ length es → e ≡ get_or es 0 e
    → name ≡ e.name → entries_bytes es ≡ name_bytes name ++ (node_bytes e.node ++ entries_bytes (rest_of es))
entries_bytes_are es e name some is same = ap entries_bytes (entries_are es e some is)
    ∙ ap (λ x. x ++ entries_bytes (rest_of es)) (entry_bytes_is e)
    ∙ append_assoc (name_bytes e.name) (node_bytes e.node) (entries_bytes (rest_of es))
    ∙ ap (λ n. name_bytes n ++ (node_bytes e.node ++ entries_bytes (rest_of es))) (sym same)

-- ---- the last part is taken and written

popped : (parts mid : List Part) (part : Part) → parts ≡ mid ++ part ∷ []
    → bytes_of_parts parts ≡ part_bytes part ++ bytes_of_parts mid
popped parts mid part is = ap bytes_of_parts is ∙ bytes_append mid (part ∷ [])

pub next_written : (out after whole : List ℕ) (parts mid left : List Part) (part : Part) → parts ≡ mid ++ part ∷ []
    → Writes (part_bytes part) out mid after left → out ++ bytes_of_parts parts ≡ whole
    → after ++ bytes_of_parts left ≡ whole
next_written out after whole parts mid left part is h so_far =
    h.all ∙ ap (λ x. out ++ x) (sym (popped parts mid part is)) ∙ so_far

pub next_fewer : (out after : List ℕ) (parts mid left : List Part) (part : Part) → parts ≡ mid ++ part ∷ []
    → Writes (part_bytes part) out mid after left
    → length (bytes_of_parts left) + length left < length (bytes_of_parts parts) + length parts
next_fewer out after parts mid left part is h = omega (
  arith,
  h.fewer,
  ap length (popped parts mid part is),
  length-append (part_bytes part) (bytes_of_parts mid),
  ap length is,
  length-append mid (part ∷ []),
)

-- all is written where as many bytes are
pub all_written : (out left whole : List ℕ) → out ++ left ≡ whole → (length out < length whole → left ≡ [])
    → out ≡ whole
all_written out [] whole is end = sym (append-nil out) ∙ is
all_written out (b ∷ left) whole is end =
    absurd (let no : b ∷ left ≡ [] = end (omega (arith, ap length is, length-append out (b ∷ left))) in cc)
