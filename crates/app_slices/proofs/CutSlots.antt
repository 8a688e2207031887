-- What the slots have, entry by entry.
use Rattle.std.proofs.Common.{◌≡◌, ℕ, zero, suc, ◌+◌, ◌<◌, ◌≤◌, ◌==◌, Bool, true, false, cond, List, [], ◌∷◌, ◌++◌}
use Rattle.std.proofs.Common.{Option, Some, None, refl, sym, ap, ◌∙◌, subst, arith, length, append-nil, append_assoc}
use Rattle.std.proofs.Common.{map, nat_eq}
use Rattle.std.specs.Prelude.{nat_lt, IfSome}
use Rattle.std.specs.BTreeMap.{get, is_at}
use Rattle.std.specs.Map.{lookup}
use Rattle.std.specs.List.{filter_map, cons_option, range_with_len}
use Rattle.std.specs.Option.{option_map, option_to_list}
use Rattle.std.specs.Ordering.{nat_cmp, is_eq}
use Rattle.std.specs.declared.cmp.Ordering.TheVariants.{Less, Equal, Greater}
use Rattle.std.proofs.lemmas.Bool.{ltb-true, ltb-false, lt-ltb, le-ltb, both_ways, eqb-true, eq-eqb, ne_eqb}
use Rattle.tree_canon.specs.declared.node.Node.{Node}
use Rattle.tree_canon.specs.declared.node.Named.{Named}
use Rattle.tree_canon.specs.declared.node.Node.TheVariants.{Folder, File, Link}
use Rattle.tree_canon.specs.Fits.{is_tree}
use Rattle.app_slices.specs.Slots.{Slices, Slot, below, slot_in, same_slot}
use Rattle.app_slices.specs.Slices.{folder_part, named, part, tree_of, slices_of}
use Rattle.app_slices.specs.Cutting.{slot_at, Parts, entries_at, with_more, Adds, AddsSlots, HasSlots, one_at}
use Rattle.app_slices.specs.Cutting.{folders_at, node_at, entry_at, all_at, only_own, folders_of, AreTree}
use Rattle.app_slices.proofs.Parts.{entry_part_is, entries_part_is, part_folder, part_file, part_link, part_tree}

-- ---- entries behind others

with_none : (o : Option (List Named)) → with_more o [] ≡ o
with_none None = refl
with_none (Some es) = ap Some (append-nil es)

with_both : (o : Option (List Named)) (xs ys : List Named) → with_more (with_more o xs) ys ≡ with_more o (xs ++ ys)
with_both (Some es) xs ys = ap Some (append_assoc es xs ys)
with_both None [] ys = refl
with_both None (x ∷ xs) ys = refl

-- ---- the folders of each slot

not_at : (slot k : ℕ) → (k == slot) ≡ false → is_eq (nat_cmp slot k) ≡ false
not_at slot k e = by (nat_lt slot k) (slot == k)
    (ne_eqb slot k (λ is. both_ways (k == slot) e (eq-eqb k slot (sym is))))
  where
    by : (v w : Bool) → w ≡ false → is_eq (cond v Less (cond w Equal Greater)) ≡ false
    by true w h = refl
    by false w h = ap (λ x. is_eq (cond x Equal Greater)) h

abbrev folders : List ℕ → Option (List Named) → List Named
folders name o = option_to_list (option_map (λ es. named name (Folder es)) o)

pub folder_moved : (name : List ℕ) (left less old new : Parts) (slot : ℕ) (es : List Named)
    → Adds (one_at slot (named name (Folder es))) old new
    → get nat_cmp left slot ≡ Some es → get nat_cmp less slot ≡ None
    → ((q : ℕ) → is_at (nat_cmp slot) q ≡ false → get nat_cmp less q ≡ get nat_cmp left q)
    → (k : ℕ) → with_more (entries_at new k) (folders_at name less k)
    ≡ with_more (entries_at old k) (folders_at name left k)
folder_moved name left less old new slot es adds had gone others k = by (k == slot) refl
  where
    by : (v : Bool) → (k == slot) ≡ v → with_more (entries_at new k) (folders_at name less k)
        ≡ with_more (entries_at old k) (folders_at name left k)
    by true e =
        let is : k ≡ slot = eqb-true k slot e in
        let none : folders_at name less k ≡ [] = ap (folders name) (ap (entries_at less) is ∙ gone) in
        let one : folders_at name left k ≡ named name (Folder es)
        ∷ [] = ap (folders name) (ap (entries_at left) is ∙ had) in
        let more : one_at slot (named name (Folder es)) k ≡ named name (Folder es)
        ∷ [] = ap (λ v. cond v (named name (Folder es) ∷ []) []) e in
        ap (with_more (entries_at new k)) none ∙ with_none (entries_at new k) ∙ adds k
        ∙ ap (with_more (entries_at old k)) (more ∙ sym one)
    by false e =
        let same : folders_at name less k ≡ folders_at name left k = ap (folders name) (others k (not_at slot k e)) in
        let more : one_at slot (named name (Folder es)) k ≡ [] = ap (λ v. cond v (named name (Folder es) ∷ []) []) e in
        let stays : entries_at new k ≡ entries_at old k = adds k ∙ ap (with_more (entries_at old k)) more
        ∙ with_none (entries_at old k) in
        (λ i. with_more (stays i) (same i))

no_entries : (es : List (ℕ × List Named)) → (0 < length es → ⊥) → es ≡ []
no_entries [] h = refl
no_entries (e ∷ es) h = absurd (h (omega arith))

pub folders_moved : (name : List ℕ) (before after start left : Parts)
    → ((k : ℕ) → with_more (entries_at after k) (folders_at name left k)
    ≡ with_more (entries_at before k) (folders_at name start k))
    → (0 < length left.entries → ⊥) → Adds (folders_at name start) before after
folders_moved name before after start left moved none k =
    let gone : folders_at name left k ≡ [] = ap (λ es. folders name (lookup (is_at (nat_cmp k)) es))
    (no_entries left.entries none) in
    sym (with_none (entries_at after k)) ∙ ap (with_more (entries_at after k)) (sym gone) ∙ moved k

pub ruleset folders_added = (folder_moved, folders_moved)

-- ---- an entry after another

cons_is : {X : Type 0} (o : Option X) (xs : List X) → option_to_list o ++ xs ≡ cons_option o xs
cons_is None xs = refl
cons_is (Some x) xs = refl

pub entry_added : (slices : Slices) (own : ℕ) (path : List ℕ) (e : Named) (es : List Named) (old new : Parts)
    → AddsSlots slices (entry_at slices own path e) old new
    → (k : ℕ) → k ≤ length slices → with_more (entries_at new k) (all_at slices own path es k)
    ≡ with_more (entries_at old k) (all_at slices own path (e ∷ es) k)
entry_added slices own path e es old new adds k h =
    ap (λ o. with_more o (all_at slices own path es k)) (adds k h)
    ∙ with_both (entries_at old k) (entry_at slices own path e k) (all_at slices own path es k)
    ∙ ap (with_more (entries_at old k)) (cons_is _ (all_at slices own path es k))

pub entries_added : (slices : Slices) (own : ℕ) (path : List ℕ) (es : List Named) (before after : Parts)
    → ((k : ℕ) → k ≤ length slices → with_more (entries_at after k) (all_at slices own path [] k)
    ≡ with_more (entries_at before k) (all_at slices own path es k))
    → AddsSlots slices (all_at slices own path es) before after
entries_added slices own path es before after adds k h = sym (with_none (entries_at after k)) ∙ adds k h

pub own_with : (slices : Slices) (own : ℕ) (path : List ℕ) (es : List Named) (before after : Parts)
    → ((k : ℕ) → entries_at before k ≡ only_own own k)
    → AddsSlots slices (all_at slices own path es) before after → HasSlots slices own path es after
own_with slices own path es before after is adds k h = adds k h
    ∙ ap (λ o. with_more o (all_at slices own path es k)) (is k)

pub ruleset in_turn = (entry_added, entries_added)

-- ---- a node, by its slot and path

pub entry_is_node : (slices : Slices) (above own : ℕ) (folder path : List ℕ) (e : Named) (old new : Parts)
    → path ≡ below folder e.name
    → slot_at slices own ≡ slot_in slices (slot_at slices above) path
    → AddsSlots slices (node_at slices own path e.name e.node) old new
    → AddsSlots slices (entry_at slices above folder e) old new
entry_is_node slices above own folder path e old new at slot adds k h =
    adds k h ∙ ap (with_more (entries_at old k)) (same ∙ ap option_to_list
    (sym (entry_part_is slices (slot_at slices k) (slot_at slices above) folder e)))
  where
    same : node_at slices own path e.name e.node k
        ≡ option_to_list (option_map (named e.name) (part slices (slot_at slices k) e.node
        (slot_in slices (slot_at slices above) (below folder e.name)) (below folder e.name)))
    same = ap (λ s. option_to_list (option_map (named e.name) (part slices (slot_at slices k) e.node s path))) slot
        ∙ ap (λ p. option_to_list (option_map (named e.name)
        (part slices (slot_at slices k) e.node (slot_in slices (slot_at slices above) p) p))) at

same_number : (a b : ℕ) → nat_eq a b ≡ (b == a)
same_number a b = by (a == b) refl
  where
    by : (v : Bool) → (a == b) ≡ v → v ≡ (b == a)
    by true e = sym (eq-eqb b a (sym (eqb-true a b e)))
    by false e = sym (ne_eqb b a (λ is. both_ways (a == b) e (eq-eqb a b (sym is))))

same_at : (n a b : ℕ) → a ≤ n → b ≤ n → same_slot (cond (nat_lt a n) (Some a) None)
    (cond (nat_lt b n) (Some b) None) ≡ (b == a)
same_at n a b ha hb = by (nat_lt a n) (nat_lt b n) refl refl
  where
    by : (v w : Bool) → nat_lt a n ≡ v → nat_lt b n ≡ w → same_slot (cond v (Some a) None) (cond w (Some b) None)
        ≡ (b == a)
    by true true la lb = same_number a b
    by true false la lb = let x : a < n = ltb-true a n la in let y : n ≤ b = ltb-false b n lb
        in sym (ne_eqb b a (λ is. absurd (omega (arith, x, y, is))))
    by false true la lb = let x : n ≤ a = ltb-false a n la in let y : b < n = ltb-true b n lb
        in sym (ne_eqb b a (λ is. absurd (omega (arith, x, y, is))))
    by false false la lb = let x : n ≤ a = ltb-false a n la in let y : n ≤ b = ltb-false b n lb
        in sym (eq-eqb b a (omega arith))

folder_kept : (own : Bool) (es : List Named) → option_map Folder (with_more (cond own (Some []) None) es)
    ≡ folder_part own es
folder_kept true [] = refl
folder_kept true (e ∷ es) = refl
folder_kept false [] = refl
folder_kept false (e ∷ es) = refl

-- what the slots have of a folder is its part
pub folder_is_part : (slices : Slices) (own : ℕ) (path : List ℕ) (es : List Named) (parts : Parts)
    → own ≤ length slices → HasSlots slices own path es parts
    → (k : ℕ) → k ≤ length slices → option_map Folder (entries_at parts k)
    ≡ part slices (slot_at slices k) (Folder es) (slot_at slices own) path
folder_is_part slices own path es parts few has k h =
    ap (option_map Folder) (has k h)
    ∙ folder_kept (k == own) (all_at slices own path es k)
    ∙ (λ i. folder_part (sym (same_at (length slices) own k few h) i)
    (entries_part_is slices (slot_at slices k) (slot_at slices own) path es i))
    ∙ sym (part_folder slices (slot_at slices k) (slot_at slices own) path es)

map_twice : (name : List ℕ) (o : Option (List Named)) → option_map (λ es. named name (Folder es)) o
    ≡ option_map (named name) (option_map Folder o)
map_twice name None = refl
map_twice name (Some es) = refl

pub folder_added : (slices : Slices) (own : ℕ) (path name : List ℕ) (es : List Named) (parts old new : Parts)
    → own ≤ length slices → HasSlots slices own path es parts
    → Adds (folders_at name parts) old new → AddsSlots slices (node_at slices own path name (Folder es)) old new
folder_added slices own path name es parts old new few has adds k h =
    adds k ∙ ap (with_more (entries_at old k)) (ap option_to_list
    (map_twice name (entries_at parts k) ∙ ap (option_map (named name))
    (folder_is_part slices own path es parts few has k h)))

one_kept : (own : Bool) (name : List ℕ) (n : Node) → cond own (named name n ∷ []) []
    ≡ option_to_list (option_map (named name) (cond own (Some n) None))
one_kept true name n = refl
one_kept false name n = refl

one_added : (slices : Slices) (own : ℕ) (path name : List ℕ) (n : Node) (old new : Parts) → own ≤ length slices
    → ((wanted : Slot) → part slices wanted n (slot_at slices own) path
    ≡ cond (same_slot (slot_at slices own) wanted) (Some n) None)
    → Adds (one_at own (named name n)) old new → AddsSlots slices (node_at slices own path name n) old new
one_added slices own path name n old new few is adds k h =
    adds k
    ∙ ap (with_more (entries_at old k)) (one_kept (k == own) name n
    ∙ ap (λ o. option_to_list (option_map (named name) o))
    (ap (λ v. cond v (Some n) None) (sym (same_at (length slices) own k few h))
    ∙ sym (is (slot_at slices k))))

pub file_added : (slices : Slices) (own : ℕ) (path name : List ℕ) (exec : Bool) (bytes : List ℕ) (entry : Named)
    (old new : Parts) → own ≤ length slices → entry ≡ named name (File exec bytes)
    → Adds (one_at own entry) old new → AddsSlots slices (node_at slices own path name (File exec bytes)) old new
file_added slices own path name exec bytes entry old new few is adds =
    one_added slices own path name (File exec bytes) old new few
    (λ wanted. part_file slices wanted (slot_at slices own) path exec bytes)
    (subst (λ e. Adds (one_at own e) old new) is adds)

pub link_added : (slices : Slices) (own : ℕ) (path name target : List ℕ) (entry : Named) (old new : Parts)
    → own ≤ length slices → entry ≡ named name (Link target)
    → Adds (one_at own entry) old new → AddsSlots slices (node_at slices own path name (Link target)) old new
link_added slices own path name target entry old new few is adds =
    one_added slices own path name (Link target) old new few
    (λ wanted. part_link slices wanted (slot_at slices own) path target)
    (subst (λ e. Adds (one_at own e) old new) is adds)

pub ruleset nodes_added = (folder_added, file_added, link_added)

-- ---- the trees

rest_is : (slices : Slices) → slot_at slices (length slices) ≡ None
rest_is slices = ap (λ v. cond v (Some (length slices)) None) (le-ltb (length slices) (length slices) (omega arith))

slice_is : (slices : Slices) (k : ℕ) → k < length slices → slot_at slices k ≡ Some k
slice_is slices k h = ap (λ v. cond v (Some k) None) (lt-ltb k (length slices) h)

root_is : (slices : Slices) (es : List Named) (parts : Parts) → HasSlots slices (length slices) [] es parts
    → (k : ℕ) → k ≤ length slices → option_map Folder (entries_at parts k)
    ≡ tree_of slices (Folder es) (slot_at slices k)
root_is slices es parts has k h =
    folder_is_part slices (length slices) [] es parts (omega arith) has k h
    ∙ ap (λ s. part slices (slot_at slices k) (Folder es) s []) (rest_is slices)

pub are_trees : (slices : Slices) (es : List Named) (parts : Parts) → is_tree (Folder es) ≡ true
    → HasSlots slices (length slices) [] es parts
    → (k : ℕ) → k ≤ length slices → AreTree (entries_at parts k)
are_trees slices es parts tree has k h = by (entries_at parts k) (sym (root_is slices es parts has k h))
    (part_tree slices (slot_at slices k) (Folder es) tree)
  where
    by : (o : Option (List Named)) → tree_of slices (Folder es) (slot_at slices k) ≡ option_map Folder o
        → IfSome (tree_of slices (Folder es) (slot_at slices k)) (λ t. is_tree t ≡ true) → AreTree o
    by None e t = tt
    by (Some xs) e t = subst (λ o. IfSome o (λ t. is_tree t ≡ true)) e t

slots_in_turn : (slices : Slices) (es : List Named) (parts : Parts) → HasSlots slices (length slices) [] es parts
    → (m a : ℕ) → a + m ≡ length slices → filter_map (λ k. option_map Folder (entries_at parts k))
    (range_with_len a (suc m)) ≡ filter_map (tree_of slices (Folder es))
    (map Some (range_with_len a m) ++ None ∷ [])
slots_in_turn slices es parts has zero a is =
    let last : a ≡ length slices = omega arith in
    ap (λ o. cons_option o []) (root_is slices es parts has a (omega arith)
    ∙ ap (tree_of slices (Folder es)) (ap (slot_at slices) last ∙ rest_is slices))
slots_in_turn slices es parts has (suc m) a is =
    (λ i. cons_option ((root_is slices es parts has a (omega arith)
    ∙ ap (tree_of slices (Folder es)) (slice_is slices a (omega arith))) i)
    (slots_in_turn slices es parts has m (a + 1) (omega arith) i))

pub all_slots : (slices : Slices) (es : List Named) (parts : Parts) → HasSlots slices (length slices) [] es parts
    → folders_of (length slices) parts ≡ slices_of slices (Folder es)
unfolding slices_of
all_slots slices es parts has =
    let more : length slices + 1 ≡ suc (length slices) = omega arith in
    ap (λ n. filter_map (λ k. option_map Folder (entries_at parts k)) (range_with_len 0 n)) more
    ∙ slots_in_turn slices es parts has (length slices) 0 (omega arith)

-- ---- one slot after another

turn : {Y : Type 0} (f : ℕ → Option Y) (n a b : ℕ) → a + n ≡ b
    → filter_map f (range_with_len a (n + 1)) ≡ filter_map f (range_with_len a n) ++ option_to_list (f b)
turn f n a b is = ap (λ m. filter_map f (range_with_len a m)) more ∙ by n a is
  where
    more : n + 1 ≡ suc n
    more = omega arith

    last : {Y : Type 0} (o : Option Y) → cons_option o [] ≡ option_to_list o
    last None = refl
    last (Some y) = refl

    cons_append : {Y : Type 0} (o : Option Y) (xs ys : List Y) → cons_option o (xs ++ ys) ≡ cons_option o xs ++ ys
    cons_append None xs ys = refl
    cons_append (Some y) xs ys = refl

    by : (n a : ℕ) → a + n ≡ b → filter_map f (range_with_len a (suc n)) ≡ filter_map f (range_with_len a n)
        ++ option_to_list (f b)
    by zero a is = let same : a ≡ b = omega arith in last (f a) ∙ ap (λ k. option_to_list (f k)) same
    by (suc n) a is = ap (cons_option (f a)) (by n (a + 1) (omega arith))
        ∙ cons_append (f a) (filter_map f (range_with_len (a + 1) n)) (option_to_list (f b))

-- the trees of the slots before one, and of that one
pub slot_more : (parts now : Parts) (slot : ℕ) → entries_at now slot ≡ entries_at parts slot
    → filter_map (λ k. option_map Folder (entries_at parts k)) (range_with_len 0 slot)
    ++ option_to_list (option_map Folder (entries_at now slot))
    ≡ filter_map (λ k. option_map Folder (entries_at parts k)) (range_with_len 0 (slot + 1))
slot_more parts now slot same =
    ap (λ o. filter_map (λ k. option_map Folder (entries_at parts k)) (range_with_len 0 slot)
    ++ option_to_list (option_map Folder o)) same
    ∙ sym (turn (λ k. option_map Folder (entries_at parts k)) slot 0 slot (omega arith))

-- the last is that of the rest
pub last_slot : (parts now : Parts) (slot rest : ℕ) → slot ≡ rest → entries_at now rest ≡ entries_at parts rest
    → filter_map (λ k. option_map Folder (entries_at parts k)) (range_with_len 0 slot)
    ++ option_to_list (option_map Folder (entries_at now rest)) ≡ folders_of rest parts
last_slot parts now slot rest is same =
    ap (λ n. filter_map (λ k. option_map Folder (entries_at parts k)) (range_with_len 0 n)
    ++ option_to_list (option_map Folder (entries_at now rest))) is
    ∙ slot_more parts now rest same
