-- Where both documents can be written, the plan can be written after the group.
use Rattle.std.proofs.Common.{◌≡◌, ◌∙◌, refl, sym, ap, subst, ℕ, ◌+◌, ◌<◌, ◌≤◌, Bool, true, false, cond, not, ◌&&◌}
use Rattle.std.proofs.Common.{◌||◌, ◌==◌, List, [], ◌∷◌, ◌++◌, length, length-append, arith, is_some, Option, Some}
use Rattle.std.proofs.Common.{None}
use Rattle.std.specs.Option.{option_map}
use Rattle.std.specs.List.{list_all}
use Rattle.std.specs.Str.{bytes_eq}
use Rattle.std.specs.FinMap.{get}
use Rattle.std.proofs.lemmas.Bool.{and_parts, and_from}
use Rattle.std.proofs.lemmas.List.Folds.{list_all-append}
use Rattle.cnb_world.specs.declared.world.Item.{Item}
use Rattle.cnb_world.specs.declared.world.Item.TheVariants.{Folder}
use Rattle.cnb_world.specs.Calls.{MayMisuse}
use Rattle.cnb_world.specs.Path.{parent_of, beside, is_path}
use Rattle.cnb_world.specs.Tree.{Tree, item_at, is_root, is_folder, is_file_or_absent, folders_from, folders_above}
use Rattle.cnb_world.specs.Tree.{can_make_folder, folder_made}
use Rattle.cnb_world.specs.Whole.{written, can_write}
use Rattle.cnb_world.proofs.Trees.{get-insert_other, get-remove_bytes}
use Rattle.cnb_world.proofs.Folders.{get-with_folders}
use Rattle.cnb_detect.specs.Documents.{group_document, plan_document, can_write_choice}
use Rattle.doc_files.proofs.Written.{longer}
use Rattle.cnb_detect.proofs.DocumentLemmas.{AreApart, apart, unlike, written_other}

-- a folder or nothing
abbrev fits : Option Item → Bool
fits found = is_folder found || not (is_some found)

made_fits : (root made : Bool) (old : Option Item) → fits (cond root (Some Folder) old) ≡ true
    → fits (cond root (Some Folder) (cond (made && not root) (Some Folder) old)) ≡ true
made_fits true made old h = refl
made_fits false true old h = refl
made_fits false false old h = h

short_get : (t : Tree) (g bytes r : List ℕ) → length r < length g
    → get (written g bytes t) r ≡ get (folder_made (parent_of g) t) r
short_get t g bytes r h = get-insert_other _ g _ r
    (λ e. let same : length r ≡ length g = ap length e in omega arith) ∙ get-remove_bytes _ (beside g) r
    ∙ ap (λ b. cond b None (get (folder_made (parent_of g) t) r))
    (unlike r (beside g) (λ e. omega (arith, longer g)))

short_fits : (t : Tree) (g bytes r : List ℕ) → length r < length g → fits (item_at t r) ≡ true
    → fits (item_at (written g bytes t) r) ≡ true
short_fits t g bytes r h old = ap (λ v. fits (cond (is_root r) (Some Folder) v))
    (short_get t g bytes r h ∙ get-with_folders (folders_above (parent_of g) ++ parent_of g ∷ []) t r)
    ∙ made_fits (is_root r) _ (get t r) old

one_more : (F G : List ℕ → Bool) (b : Bool) (x : List ℕ) (xs : List (List ℕ)) → (F x ≡ true → G x ≡ true)
    → (list_all F xs ≡ true → list_all G xs ≡ true) → list_all F (cond b (x ∷ xs) xs) ≡ true
    → list_all G (cond b (x ∷ xs) xs) ≡ true
one_more F G true x xs f rest h = let parts = and_parts (F x) (list_all F xs) h
    in and_from (G x) (list_all G xs) (f parts.0) (rest parts.1)
one_more F G false x xs f rest h = rest h

all_short : (F G : List ℕ → Bool) (n : ℕ) → ((r : List ℕ) → length r ≤ n → F r ≡ true → G r ≡ true)
    → (front rest : List ℕ) → length front + length rest ≤ n → list_all F (folders_from front rest) ≡ true
    → list_all G (folders_from front rest) ≡ true
all_short F G n f front [] le h = refl
all_short F G n f front (c ∷ cs) le h = one_more F G (c == 47 && not (bytes_eq front [])) front
    (folders_from (front ++ c ∷ []) cs) (f front (omega arith))
    (all_short F G n f (front ++ c ∷ []) cs (omega (arith, length-append front (c ∷ [])))) h

make_folder_after : (t : Tree) (g bytes q : List ℕ) → length q < length g → can_make_folder t q ≡ true
    → can_make_folder (written g bytes t) q ≡ true
make_folder_after t g bytes q h ok =
    let F : List ℕ → Bool = λ r. fits (item_at t r) in
    let G : List ℕ → Bool = λ r. fits (item_at (written g bytes t) r) in
    let step : (r : List ℕ) → length r ≤ length q → F r ≡ true
    → G r ≡ true = λ r le x. short_fits t g bytes r (omega arith) x in
    let parts = and_parts (list_all F (folders_above q)) (list_all F (q ∷ []))
    (sym (list_all-append F (folders_above q) (q ∷ [])) ∙ ok) in
    list_all-append G (folders_above q) (q ∷ []) ∙ and_from _ _
    (all_short F G (length q) step [] q (omega arith) parts.0)
    (let last = and_parts (F q) true parts.1 in and_from (G q) true (step q (omega arith) last.0) refl)

allows_plan : (work bytes : List ℕ) (t : Tree) → is_path work ≡ true → can_write (plan_document work) t ≡ true
    → can_write (plan_document work) (written (group_document work) bytes t) ≡ true
allows_plan work bytes t path h =
    let a : AreApart work (group_document work) (plan_document work) = apart work path in
    let more : length (group_document work) ≡ length (plan_document work) + 1 = a.other in
    let folder : length (parent_of (group_document work)) ≡ length work = ap length a.folder in
    let plan_folder : length (parent_of (plan_document work)) ≡ length work = ap length a.plan_folder in
    let below : length work < length (plan_document work) = a.plan_below in
    let outer = and_parts (is_file_or_absent (item_at t (plan_document work))
    && is_file_or_absent (item_at t (beside (plan_document work))))
    (can_make_folder t (parent_of (plan_document work))) h in
    let docs = and_parts (is_file_or_absent (item_at t (plan_document work)))
    (is_file_or_absent (item_at t (beside (plan_document work)))) outer.0 in
    and_from _ _ (and_from _ _
    (ap is_file_or_absent (written_other t (group_document work) (plan_document work) bytes (λ e. omega arith)
    (λ e. omega arith) (omega arith)) ∙ docs.0)
    (ap is_file_or_absent (written_other t (group_document work) (beside (plan_document work)) bytes
    (λ e. omega (arith, longer (plan_document work))) (λ e. omega (arith, longer (plan_document work)))
    (omega (arith, longer (plan_document work)))) ∙ docs.1))
    (make_folder_after t (group_document work) bytes (parent_of (plan_document work)) (omega arith) outer.1)

may_by : (x y z : Bool) (a b c : ℕ) → (y ≡ true → z ≡ true) → MayMisuse (Some x) a b → MayMisuse (Some z) b c
    → MayMisuse (Some (x && y)) a c
may_by true true z a b c f first second = let P : Bool → Type 0 = λ v. MayMisuse (Some v) b c
    in let same : c ≡ b = subst P (f refl) second in same ∙ first
may_by true false true a b c f first second = omega (arith, first, second)
may_by true false false a b c f first second = omega (arith, first, second)
may_by false y true a b c f first second = omega (arith, first, second)
may_by false y false a b c f first second = omega (arith, first, second)

-- one call after another: what both allow counts no misuse
pub may_then : (F G : Tree → Bool) (step : Tree → Tree) → ((t : Tree) → G t ≡ true → G (step t) ≡ true)
    → (o o1 : Option Tree) (a b c : ℕ) → o1 ≡ option_map step o → MayMisuse (option_map F o) a b
    → MayMisuse (option_map G o1) b c → MayMisuse (option_map (λ t. F t && G t) o) a c
may_then F G step keeps None o1 a b c e first second = let same : c
    ≡ b = subst (λ v. MayMisuse (option_map G v) b c) e second in same ∙ first
may_then F G step keeps (Some t) o1 a b c e first second = may_by (F t) (G t) (G (step t)) a b c (keeps t) first
    (subst (λ v. MayMisuse (option_map G v) b c) e second)

pub may_write : (work bytes : List ℕ) (o o1 : Option Tree) (a b c : ℕ) → is_path work ≡ true
    → o1 ≡ option_map (written (group_document work) bytes) o
    → MayMisuse (option_map (can_write (group_document work)) o) a b
    → MayMisuse (option_map (can_write (plan_document work)) o1) b c
    → MayMisuse (option_map (can_write_choice work) o) a c
may_write work bytes o o1 a b c path e first second = may_then (can_write (group_document work))
    (can_write (plan_document work)) (written (group_document work) bytes)
    (λ t h. allows_plan work bytes t path h) o o1 a b c e first second
