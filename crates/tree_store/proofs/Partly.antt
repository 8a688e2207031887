-- What stands at a place where laying was cut off.
use Rattle.std.proofs.Common.{◌≡◌, ◌≤◌, ◌+◌, ◌∙◌, refl, sym, ap, subst, arith, ℕ, Bool, true, false, not, cond, ◌||◌}
use Rattle.std.proofs.Common.{◌&&◌, ◌⊎◌, inl, inr, ◌++◌, List, [], ◌∷◌, length, take, nat_eq, Option, Some, None}
use Rattle.std.proofs.Common.{Result, Ok, Err}
use Rattle.std.specs.Prelude.{Contains, IfSome, IsTrue, OnErr, OnOk}
use Rattle.std.specs.List.{list_any, starts_with}
use Rattle.std.specs.Option.{option_map}
use Rattle.std.specs.Str.{bytes_eq}
use Rattle.std.specs.FinMap.{get, insert, retain_keys, get-retain_keys, slice_cmp-IsAntisymmetric}
use Rattle.std.specs.FinMap.{nat_cmp-IsAntisymmetric}
use Rattle.std.proofs.lemmas.Bool.{false_from_ne_true}
use Rattle.std.proofs.lemmas.List.Folds.{list_any-append}
use Rattle.std.proofs.lemmas.Slice.Eq.{bytes_eq-Decides}
use Rattle.cnb_world.specs.Calls.{RemovesSome}
use Rattle.cnb_world.specs.Path.{joined}
use Rattle.cnb_world.specs.Tree.{IsTree, Tree, folder_made, folders_above, is_folder, is_root, is_under, is_within}
use Rattle.cnb_world.specs.Tree.{item_at, linked, without}
use Rattle.cnb_world.specs.declared.world.FileFault.{FileFault}
use Rattle.cnb_world.specs.declared.world.Item.{Item}
use Rattle.cnb_world.specs.declared.world.Item.TheVariants as item
use Rattle.cnb_world.proofs.Parents.{has_slash}
use Rattle.cnb_world.proofs.Trees.{get-insert_bytes}
use Rattle.cnb_world.proofs.Folders.{get-with_folders}
use Rattle.tree_store.specs.Around.{IsMadeAbove, KeepsAround, KeptAround}
use Rattle.tree_store.specs.Laying.{file_set}
use Rattle.tree_store.specs.Overlay.{Given, folder_at}
use Rattle.tree_store.specs.Partly.{IsBegun, IsOldOrPart, LaidPartly, StandsPartly, takes_place}
use Rattle.tree_store.proofs.Blames.{within_itself}
use Rattle.tree_store.proofs.Places.{above_child, below_length, made_length}
use Rattle.tree_store.proofs.Standing.{IsStanding, is_other, tree_stands}

-- ---- one change after another

own_place : (own path : List ℕ) → path ≡ own → is_within own path ≡ true
own_place own path at = ap (is_within own) at ∙ within_itself own

-- what takes the place of a folder takes any place
takes_any : (one : Given) (a b : Option Item) (path : List ℕ) → is_folder b ≡ true → takes_place one b path ≡ true
    → takes_place one a path ≡ true
takes_any one a b path folder = by (is_folder (Some one.1)) (bytes_eq path one.0)
  where
    by : (v same : Bool) → cond v (same && not (is_folder b)) (is_within one.0 path) ≡ true
        → cond v (same && not (is_folder a)) (is_within one.0 path) ≡ true
    by false same h = h
    by true false h = absurd (cc)
    by true true h = absurd (let no : not true ≡ true = sym (ap not folder) ∙ h in cc)

part_then : (given : List Given) (path : List ℕ) (a b c : Option Item) → IsOldOrPart given path a b
    → IsOldOrPart given path b c → IsOldOrPart given path a c
part_then given path a b c first (inl same) = subst (IsOldOrPart given path a) (sym same) first
part_then given path a b c first (inr (one, has, inl begun)) = inr (one, has, inl begun)
part_then given path a b c first (inr (one, has, inr (takes, none))) = by first
  where
    by : IsOldOrPart given path a b → IsOldOrPart given path a c
    by (inl same) = inr (one, has, inr (subst (λ o. IsTrue (takes_place one o path)) same takes, none))
    by (inr (other, had, inr (took, gone))) = inr (other, had, inr (took, none))
    by (inr ((own, item.Folder), had, inl (at, begun))) = inr
        (one, has, inr (takes_any one a b path (ap is_folder begun) takes, none))
    by (inr ((own, item.File exec bytes), had, inl (at, begun))) = inr
        ((own, item.File exec bytes), had, inr (own_place own path at, none))
    by (inr ((own, item.Link target), had, inl (at, begun))) = inr
        ((own, item.Link target), had, inr (own_place own path at, none))
    by (inr ((own, item.Odd), had, inl (at, begun))) = absurd begun

pub partly_itself : (folder : List ℕ) (given : List Given) (o o1 : Option Tree) → o1 ≡ o → LaidPartly folder given o o1
unfolding LaidPartly
partly_itself folder given None o1 e = subst (LaidPartly folder given None) (sym e) tt
partly_itself folder given (Some files) o1 e = subst (LaidPartly folder given (Some files)) (sym e)
    (λ path at. inl refl)

pub partly_so : (folder : List ℕ) (given : List Given) (o o1 : Option Tree) (change : Tree → Tree)
    → o1 ≡ option_map change o → IfSome o (λ files. StandsPartly folder given files (change files))
    → LaidPartly folder given o o1
unfolding LaidPartly
partly_so folder given None o1 change e h = subst (LaidPartly folder given None) (sym e) tt
partly_so folder given (Some files) o1 change e h = subst (LaidPartly folder given (Some files)) (sym e) h

pub partly_then : (folder : List ℕ) (given : List Given) (a b c : Option Tree) → LaidPartly folder given a b
    → LaidPartly folder given b c → LaidPartly folder given a c
unfolding LaidPartly
partly_then folder given None None None h k = tt
partly_then folder given None None (Some c) h k = k
partly_then folder given None (Some b) c h k = absurd h
partly_then folder given (Some a) None c h k = absurd h
partly_then folder given (Some a) (Some b) None h k = absurd k
partly_then folder given (Some a) (Some b) (Some c) h k = λ path at. part_then given path (item_at a path)
    (item_at b path) (item_at c path) (h path at) (k path at)

-- ---- more items, and a wider folder

abbrev pub AreAmong : List Given → List Given → Type 0
AreAmong few all = (one : Given) → Contains few one → Contains all one

part_more : (few all : List Given) (path : List ℕ) (a b : Option Item) → AreAmong few all
    → IsOldOrPart few path a b → IsOldOrPart all path a b
part_more few all path a b among (inl same) = inl same
part_more few all path a b among (inr (one, has, part)) = inr (one, among one has, part)

pub partly_more : (folder : List ℕ) (few all : List Given) (a b : Option Tree) → AreAmong few all
    → LaidPartly folder few a b → LaidPartly folder all a b
unfolding LaidPartly
partly_more folder few all None None among h = tt
partly_more folder few all None (Some b) among h = h
partly_more folder few all (Some a) None among h = h
partly_more folder few all (Some a) (Some b) among h = λ path at. part_more few all path (item_at a path)
    (item_at b path) among (h path at)

any_true : (a b : Bool) → a ≡ true → (a || b) ≡ true
any_true true b h = refl
any_true false b h = absurd (cc)

-- what is in a folder isn't above it
not_above : (folder q : List ℕ) → is_within folder q ≡ true → bytes_eq q folder ≡ false
    → list_any (bytes_eq q) (folders_above folder) ≡ false
not_above folder q at other = by (is_root folder) refl at
  where
    by : (v : Bool) → is_root folder ≡ v → (v || is_under folder q) ≡ true
        → list_any (bytes_eq q) (folders_above folder) ≡ false
    by true e h = ap (λ f. list_any (bytes_eq q) (folders_above f)) ((bytes_eq-Decides folder (47 ∷ [])).0 e)
    by false e h = false_from_ne_true _ (λ above.
        let under : starts_with nat_eq q (folder ++ 47 ∷ []) ≡ true = sym
        (ap (λ v. v || starts_with nat_eq q (folder ++ 47 ∷ [])) other) ∙ h in
        let long : length folder + 1 ≤ length q = below_length q folder under in
        let short : length q ≤ length folder = made_length folder q
        (list_any-append (bytes_eq q) (folders_above folder) (folder ∷ []) ∙ any_true _ _ above) in
        absurd (omega arith))

-- a folder that was made where nothing stood
made_there : (folder q : List ℕ) (all : List Given) (old new : Tree)
    → (is_root folder ≡ false → Contains all (folder, item.Folder)) → bytes_eq q folder ≡ true
    → item_at new q ≡ Some item.Folder → IsOldOrPart all q (item_at old q) (item_at new q)
made_there folder q all old new given same now = by (is_root folder) refl
  where
    is : q ≡ folder
    is = (bytes_eq-Decides q folder).0 same

    by : (v : Bool) → is_root folder ≡ v → IsOldOrPart all q (item_at old q) (item_at new q)
    by true e = inl (now ∙ sym (ap (λ v. cond v (Some item.Folder) (get old q)) (ap is_root is ∙ e)))
    by false e = inr ((folder, item.Folder), given e, inl (is, now))

stands_wider : (folder name : List ℕ) (few all : List Given) (a b : Tree) → has_slash name ≡ false
    → AreAmong few all → (is_root folder ≡ false → Contains all (folder, item.Folder))
    → KeepsAround (joined folder name) a b → StandsPartly (joined folder name) few a b
    → StandsPartly folder all a b
stands_wider folder name few all a b plain among given kept partly q at = by (is_within (joined folder name) q) refl
  where
    away : (item_at b q ≡ item_at a q) ⊎ IsMadeAbove (joined folder name) q a b
        → IsOldOrPart all q (item_at a q) (item_at b q)
    away (inl same) = inl same
    away (inr made) = made_there folder q all a b given (same (bytes_eq q folder) refl) made.after
      where
        same : (v : Bool) → bytes_eq q folder ≡ v → v ≡ true
        same true e = refl
        same false e = let no : true ≡ false = sym made.above ∙ above_child folder name q plain e
            (not_above folder q at e) in cc

    by : (v : Bool) → is_within (joined folder name) q ≡ v → IsOldOrPart all q (item_at a q) (item_at b q)
    by true e = part_more few all q (item_at a q) (item_at b q) among (partly q e)
    by false e = away (kept q e)

-- what was laid at a name of a folder
pub partly_wider : (folder name path : List ℕ) (few all : List Given) (a b : Option Tree)
    → path ≡ joined folder name → has_slash name ≡ false → AreAmong few all
    → (is_root folder ≡ false → Contains all (folder, item.Folder)) → KeptAround path a b
    → LaidPartly path few a b → LaidPartly folder all a b
unfolding KeptAround LaidPartly
partly_wider folder name path few all a b is plain among given kept partly = by a b
    (subst (λ p. KeptAround p a b) is kept) (subst (λ p. LaidPartly p few a b) is partly)
  where
    by : (a b : Option Tree) → KeptAround (joined folder name) a b → LaidPartly (joined folder name) few a b
        → LaidPartly folder all a b
    by None None kept partly = tt
    by None (Some b) kept partly = absurd partly
    by (Some a) None kept partly = absurd partly
    by (Some a) (Some b) kept partly = stands_wider folder name few all a b plain among given kept partly

-- ---- one call

item_with : (now files : Tree) (q : List ℕ) (found : Option Item) → get now q ≡ found
    → item_at now q ≡ cond (is_root q) (Some item.Folder) found
item_with now files q found e = ap (cond (is_root q) (Some item.Folder)) e

pub one_has : (one : Given) → Contains (one ∷ []) one
one_has one = (0, omega arith, refl)

pub folder_has : (path : List ℕ) → is_root path ≡ false → Contains (folder_at path) (path, item.Folder)
folder_has path plain = subst (λ v. Contains {X = Given} (cond v [] ((path, item.Folder) ∷ []))
    (path, item.Folder)) (sym plain) (one_has (path, item.Folder))

stands_made : (path : List ℕ) (all : List Given) (files : Tree)
    → (is_root path ≡ false → Contains all (path, item.Folder))
    → StandsPartly path all files (folder_made path files)
stands_made path all files given q at = by (bytes_eq q path) refl
  where
    made : item_at (folder_made path files) q ≡ cond (is_root q) (Some item.Folder)
        (cond (list_any (bytes_eq q) (folders_above path ++ path ∷ []) && not (is_root q)) (Some item.Folder)
        (get files q))
    made = ap (cond (is_root q) (Some item.Folder)) (get-with_folders (folders_above path ++ path ∷ []) files q)

    any : list_any (bytes_eq q) (folders_above path ++ path ∷ [])
        ≡ (list_any (bytes_eq q) (folders_above path) || (bytes_eq q path || false))
    any = list_any-append (bytes_eq q) (folders_above path) (path ∷ [])

    there : (above root : Bool) → cond root (Some item.Folder)
        (cond ((above || (true || false)) && not root) (Some item.Folder) (get files q)) ≡ Some item.Folder
    there above true = refl
    there true false = refl
    there false false = refl

    by : (v : Bool) → bytes_eq q path ≡ v → IsOldOrPart all q (item_at files q) (item_at (folder_made path files) q)
    by true e = made_there path q all files (folder_made path files) given e
        (made ∙ ap (λ v. cond (is_root q) (Some item.Folder)
        (cond (v && not (is_root q)) (Some item.Folder) (get files q)))
        (any ∙ ap (λ v. list_any (bytes_eq q) (folders_above path) || (v || false)) e)
        ∙ there (list_any (bytes_eq q) (folders_above path)) (is_root q))
    by false e = inl (made ∙ ap (λ v. cond (is_root q) (Some item.Folder)
        (cond (v && not (is_root q)) (Some item.Folder) (get files q)))
        (any ∙ ap (λ v. list_any (bytes_eq q) (folders_above path) || (v || false)) e
        ∙ ap (λ v. v || false) (not_above path q at e)))

told : (o : Option Tree) (P : Tree → Type 0) → ((files : Tree) → P files) → IfSome o P
told None P h = tt
told (Some files) P h = h files

pub made_partly : (path : List ℕ) (all : List Given) (result : Result (Unit {0}) FileFault) (o o1 : Option Tree)
    → (is_root path ≡ false → Contains all (path, item.Folder))
    → OnOk result (o1 ≡ option_map (folder_made path) o) → OnErr result (o1 ≡ o) → LaidPartly path all o o1
made_partly path all (Ok done) o o1 given ok err = partly_so path all o o1 (folder_made path) ok
    (told o _ (λ files. stands_made path all files given))
made_partly path all (Err fault) o o1 given ok err = partly_itself path all o o1 err

stands_inserted : (path : List ℕ) (x y : Item) (files : Tree) → IsBegun x (Some y)
    → StandsPartly path ((path, x) ∷ []) files (insert files path y)
stands_inserted path x y files begun q at = by (is_root q) refl (bytes_eq q path) refl
  where
    now : item_at (insert files path y) q ≡ cond (is_root q) (Some item.Folder)
        (cond (bytes_eq q path) (Some y) (get files q))
    now = ap (cond (is_root q) (Some item.Folder)) (get-insert_bytes files path y q)

    by : (r : Bool) → is_root q ≡ r → (v : Bool) → bytes_eq q path ≡ v
        → IsOldOrPart ((path, x) ∷ []) q (item_at files q) (item_at (insert files path y) q)
    by true e v f = inl (now ∙ ap (λ w. cond w (Some item.Folder) (cond (bytes_eq q path) (Some y) (get files q)))
        e ∙ sym (ap (λ w. cond w (Some item.Folder) (get files q)) e))
    by false e true f = inr (
      (path, x),
      one_has (path, x),
      inl (
        (bytes_eq-Decides q path).0 f,
        subst (IsBegun x)
            (sym (now ∙ ap (λ w. cond w (Some item.Folder) (cond (bytes_eq q path) (Some y) (get files q))) e
            ∙ ap (λ w. cond w (Some y) (get files q)) f)) begun,
      ),
    )
    by false e false f = inl (now ∙ ap (λ w. cond (is_root q) (Some item.Folder) (cond w (Some y) (get files q))) f)

pub linked_partly : (path target : List ℕ) (result : Result (Unit {0}) FileFault) (o o1 : Option Tree)
    → OnOk result (o1 ≡ option_map (linked path target) o) → OnErr result (o1 ≡ o)
    → LaidPartly path ((path, item.Link target) ∷ []) o o1
linked_partly path target (Ok done) o o1 ok err = partly_so path ((path, item.Link target) ∷ []) o o1
    (linked path target) ok (told o _ (λ files. stands_inserted path (item.Link target)
    (item.Link target) files refl))
linked_partly path target (Err fault) o o1 ok err = partly_itself path ((path, item.Link target) ∷ []) o o1 err

-- a file with the first bytes of its own
pub written_partly : (path : List ℕ) (exec : Bool) (bytes : List ℕ) (count : ℕ) (o o1 : Option Tree)
    → o1 ≡ option_map (file_set path exec (take count bytes)) o
    → LaidPartly path ((path, item.File exec bytes) ∷ []) o o1
written_partly path exec bytes count o o1 is = partly_so path ((path, item.File exec bytes) ∷ []) o o1
    (file_set path exec (take count bytes)) is (told o _
    (λ files. stands_inserted path (item.File exec bytes) (item.File exec (take count bytes)) files
    (count, refl)))

-- what stays of a path and all below it
item_retained : (files : Tree) (keep : List ℕ → Bool) (q : List ℕ)
    → item_at (retain_keys files keep) q ≡ cond (is_root q) (Some item.Folder) (cond (keep q) (get files q) None)
item_retained files keep q = ap (cond (is_root q) (Some item.Folder))
    (get-retain_keys files keep q (λ x tied. ap keep
    (sym (slice_cmp-IsAntisymmetric nat_cmp-IsAntisymmetric q x tied))))

pub kept_or_gone : (files : Tree) (keep : List ℕ → Bool) (q : List ℕ)
    → (item_at (retain_keys files keep) q ≡ item_at files q) ⊎ (item_at (retain_keys files keep) q ≡ None)
kept_or_gone files keep q = by (is_root q) (keep q) (item_retained files keep q)
  where
    by : (r k : Bool) → item_at (retain_keys files keep) q ≡ cond r (Some item.Folder) (cond k (get files q) None)
        → (item_at (retain_keys files keep) q ≡ cond r (Some item.Folder) (get files q))
        ⊎ (item_at (retain_keys files keep) q ≡ None)
    by true k e = inl e
    by false true e = inl e
    by false false e = inr e

stands_cleared : (path : List ℕ) (x : Item) (files : Tree) (keep : List ℕ → Bool) → is_folder (Some x) ≡ false
    → StandsPartly path ((path, x) ∷ []) files (retain_keys files keep)
stands_cleared path x files keep plain q at = by (kept_or_gone files keep q)
  where
    by : (item_at (retain_keys files keep) q ≡ item_at files q) ⊎ (item_at (retain_keys files keep) q ≡ None)
        → IsOldOrPart ((path, x) ∷ []) q (item_at files q) (item_at (retain_keys files keep) q)
    by (inl same) = inl same
    by (inr none) = inr (
      (path, x),
      one_has (path, x),
      inr (
        ap (λ v. cond v (bytes_eq q path && not (is_folder (item_at files q))) (is_within path q)) plain
            ∙ at,
        none,
      ),
    )

removes : (folder : List ℕ) (given : List Given) (path : List ℕ) (result : Result (Unit {0}) FileFault)
    (o o1 : Option Tree) → IfSome o (λ files. (keep : List ℕ → Bool)
    → StandsPartly folder given files (retain_keys files keep)) → OnOk result (o1 ≡ option_map (without path) o)
    → OnErr result (RemovesSome o o1 path) → LaidPartly folder given o o1
removes folder given path (Ok done) None o1 all ok err = partly_so folder given None o1 (without path) ok tt
removes folder given path (Ok done) (Some files) o1 all ok err = partly_so folder given (Some files) o1
    (without path) ok (all (λ q. not (is_within path q)))
removes folder given path (Err fault) o o1 all ok (inl same) = partly_itself folder given o o1 same
removes folder given path (Err fault) None o1 all ok (inr (stays, is)) = partly_so folder given None o1
    (λ files. retain_keys files (λ q. not (is_within path q) || stays q)) is tt
removes folder given path (Err fault) (Some files) o1 all ok (inr (stays, is)) = partly_so folder given
    (Some files) o1 (λ files. retain_keys files (λ q. not (is_within path q) || stays q)) is
    (all (λ q. not (is_within path q) || stays q))

-- what stood at a path is taken away for a file or a link
pub cleared_partly : (path : List ℕ) (x : Item) (result : Result (Unit {0}) FileFault) (o o1 : Option Tree)
    → is_folder (Some x) ≡ false → OnOk result (o1 ≡ option_map (without path) o)
    → OnErr result (RemovesSome o o1 path) → LaidPartly path ((path, x) ∷ []) o o1
cleared_partly path x result o o1 plain ok err = removes path ((path, x) ∷ []) path result o o1
    (told o _ (λ files keep. stands_cleared path x files keep plain)) ok err

other_not_root : (path : List ℕ) (files : Tree) → is_other (item_at files path) ≡ true → (is_root path ≡ false)
    × (is_other (get files path) ≡ true)
other_not_root path files h = by (is_root path) refl h
  where
    by : (v : Bool) → is_root path ≡ v → is_other (cond v (Some item.Folder) (get files path)) ≡ true
        → (v ≡ false) × (is_other (get files path) ≡ true)
    by true e h = absurd (cc)
    by false e h = (refl, h)

not_folder : (found : Option Item) → is_other found ≡ true → not (is_folder found) ≡ true
not_folder None h = absurd (cc)
not_folder (Some item.Folder) h = absurd (cc)
not_folder (Some (item.File exec bytes)) h = refl
not_folder (Some (item.Link target)) h = refl
not_folder (Some item.Odd) h = refl

-- for a folder, where below what stood there nothing stood
stands_replaced : (path : List ℕ) (files : Tree) (keep : List ℕ → Bool) → IsStanding files
    → is_other (item_at files path) ≡ true → StandsPartly path (folder_at path) files (retain_keys files keep)
stands_replaced path files keep standing other q at = by (kept_or_gone files keep q)
  where
    plain : (is_root path ≡ false) × (is_other (get files path) ≡ true)
    plain = other_not_root path files other

    nothing : (found : Option Item) → item_at (retain_keys files keep) q ≡ None → (v : Bool) → is_root q ≡ v
        → get files q ≡ None → item_at (retain_keys files keep) q ≡ item_at files q
    nothing found none true e f = absurd (let no : Some item.Folder
        ≡ None = sym (ap (λ v. cond v (Some item.Folder) (cond (keep q) (get files q) None)) e)
        ∙ sym (item_retained files keep q) ∙ none in cc)
    nothing found none false e f = none ∙ sym (ap (λ v. cond v (Some item.Folder) (get files q)) e ∙ f)

    gone : item_at (retain_keys files keep) q ≡ None → (v : Bool) → bytes_eq q path ≡ v
        → (v || starts_with nat_eq q (path ++ 47 ∷ [])) ≡ true → IsOldOrPart (folder_at path) q (item_at files q)
        (item_at (retain_keys files keep) q)
    gone none true e h = inr (
      (path, item.Folder),
      folder_has path plain.0,
      inr (
        ap (λ v. v && not (is_folder (item_at files q))) e ∙ not_folder (item_at files q)
            (ap (λ p. is_other (item_at files p)) ((bytes_eq-Decides q path).0 e) ∙ other),
        none,
      ),
    )
    gone none false e h = inl (nothing (get files q) none (is_root q) refl (standing.clean path q plain.1 h))

    by : (item_at (retain_keys files keep) q ≡ item_at files q) ⊎ (item_at (retain_keys files keep) q ≡ None)
        → IsOldOrPart (folder_at path) q (item_at files q) (item_at (retain_keys files keep) q)
    by (inl same) = inl same
    by (inr none) = gone none (bytes_eq q path) refl (sym (ap (λ v. v || is_under path q) plain.0) ∙ at)

pub replaced_partly : (path : List ℕ) (result : Result (Unit {0}) FileFault) (o o1 : Option Tree)
    → IfSome o IsTree → IfSome o (λ files. is_other (item_at files path) ≡ true)
    → OnOk result (o1 ≡ option_map (without path) o) → OnErr result (RemovesSome o o1 path)
    → LaidPartly path (folder_at path) o o1
replaced_partly path result o o1 tree other ok err = removes path (folder_at path) path result o o1
    (by o (tree_stands o tree) other) ok err
  where
    by : (o : Option Tree) → IfSome o IsStanding → IfSome o (λ files. is_other (item_at files path) ≡ true)
        → IfSome o (λ files. (keep : List ℕ → Bool) → StandsPartly path (folder_at path) files
        (retain_keys files keep))
    by None standing other = tt
    by (Some files) standing other = λ keep. stands_replaced path files keep standing other
