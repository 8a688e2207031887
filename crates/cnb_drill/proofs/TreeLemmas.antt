-- The spelling of a tree of the drill.
use Rattle.std.proofs.Common.{◌≡◌, ◌∙◌, refl, sym, ap, ℕ, ◌+◌, ◌*◌, ◌≤◌, ◌<◌, true, false, List, [], ◌∷◌, map, length}
use Rattle.std.proofs.Common.{arith, length-append}
use Rattle.std.specs.Prelude.{◌&&◌, ◌^◌, nat_le, nat_lt, None}
use Rattle.std.specs.Str.{is_utf8, chars}
use Rattle.std.proofs.lemmas.Bool.{le-leb, and_from}
use Rattle.std.proofs.lemmas.List.{length-replicate}
use lib.Utf8.{encode}
use Rattle.plan_resolve.specs.Trials.{numbers_below}
use Rattle.tree_canon.specs.declared.node.Named.{Named}
use Rattle.tree_canon.specs.Fits.{fits, is_tree, entry_fits, all_fit, Fitting}
use Rattle.tree_canon.specs.Spelling.{limit, magic, node_bytes, entry_bytes, entries_bytes, spelling_of}
use Rattle.tree_canon.proofs.Equations.{fits_folder, fits_file, fits_named}
use Rattle.tree_canon.proofs.Lengths.{folder_length, file_length, entry_length}
use Rattle.cnb_drill.specs.Trees.{contents, drill_file, drill_tree, file_name}

entries_length : (bytes places : List ℕ) → length (entries_bytes
    (map (λ place. drill_file bytes (file_name place)) places)) ≡ length places * (15 + length bytes)
entries_length bytes [] = sym (omega arith)
entries_length bytes (place ∷ places) =
    let file = drill_file bytes (file_name place) in
    let here : length (entry_bytes file) ≡ 15 + length bytes =
    entry_length file ∙ ((λ i. 5 + file_length false bytes i) ∙ omega arith) in
    length-append (entry_bytes file) (entries_bytes (map (λ p. drill_file bytes (file_name p)) places))
    ∙ ((λ i. here i + entries_length bytes places i) ∙ grind arith)

abbrev files_of : List ℕ → List ℕ → List Named
files_of bytes places = map (λ place. drill_file bytes (file_name place)) places

pub spelling_length : (bytes : List ℕ) → length (spelling_of (drill_tree bytes)) ≡ 250 + 16 * length bytes
spelling_length bytes =
    length-append magic (node_bytes (drill_tree bytes))
    ∙ (ap (λ n. 5 + n) (folder_length (files_of bytes (numbers_below 16))
    ∙ ap (λ n. 5 + n) (entries_length bytes (numbers_below 16))) ∙ omega arith)

-- a file fits wherever it isn't too deep, whatever it holds
abbrev file_fitting : ℕ → Fitting
file_fitting place = (file_name place, λ depth. nat_le depth 64)

files_fit : (bytes places : List ℕ) → map entry_fits (files_of bytes places) ≡ map file_fitting places
files_fit bytes [] = refl
files_fit bytes (place ∷ places) =
    λ i. (fits_named (drill_file bytes (file_name place)) ∙
    (λ j. (file_name place, λ depth. fits_file false bytes depth j))) i ∷ files_fit bytes places i

names_fit : all_fit None (map file_fitting (numbers_below 16)) 1 ≡ true
unfolding is_utf8 chars encode
names_fit = refl

fits_whole : (bytes : List ℕ) → fits (drill_tree bytes) 0 ≡ true
fits_whole bytes =
    fits_folder (files_of bytes (numbers_below 16)) 0
    ∙ (ap (λ all. nat_le 0 64 && (nat_lt 16 (2 ^ 32) && all_fit None all 1)) (files_fit bytes (numbers_below 16))
    ∙ names_fit)

is_drill_tree : (bytes : List ℕ) → length bytes ≤ 262144 → is_tree (drill_tree bytes) ≡ true
is_drill_tree bytes h =
    let e : length (spelling_of (drill_tree bytes)) ≡ 250 + 16 * length bytes = spelling_length bytes in
    and_from (fits (drill_tree bytes) 0) (nat_le (length (spelling_of (drill_tree bytes))) limit) (fits_whole bytes)
    (le-leb (length (spelling_of (drill_tree bytes))) limit (omega arith))

contents_length : (tree : ℕ) → length (contents tree) ≡ 65536 * (tree + 1)
unfolding contents
contents_length tree = length-replicate (65536 * (tree + 1)) tree

pub is_tree_of : (tree : ℕ) → tree < 4 → is_tree (drill_tree (contents tree)) ≡ true
is_tree_of tree h = let e = contents_length tree in is_drill_tree (contents tree) (omega arith)

pub bytes_of : (tree : ℕ) → length (spelling_of (drill_tree (contents tree))) ≡ 250 + 1048576 * (tree + 1)
bytes_of tree = let e = contents_length tree in spelling_length (contents tree) ∙ omega arith
