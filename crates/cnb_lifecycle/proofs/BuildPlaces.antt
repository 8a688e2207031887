-- What the build of a buildpack makes leaves the rest of the right kinds: the folder of its layers, and its Buildpack
-- Plan.
use Rattle.std.proofs.Common.{◌≡◌, ◌∙◌, refl, sym, ap, subst, arith, ℕ, ◌<◌, Bool, true, false, cond, not, ◌&&◌, ◌||◌}
use Rattle.std.proofs.Common.{◌==◌, nat_eq, List, [], ◌∷◌, ◌++◌, append_assoc, codes, length, length-append, is_some}
use Rattle.std.proofs.Common.{Option, Some, None, inl, inr, ◌⊎◌}
use Rattle.std.specs.List.{list_all, list_any, starts_with}
use Rattle.std.specs.Str.{bytes_eq}
use Rattle.std.specs.FinMap.{get}
use Rattle.std.proofs.lemmas.Bool.{and_from, and_parts, eqb-true}
use Rattle.std.proofs.lemmas.Bool.Decides.{nat_tests}
use Rattle.std.proofs.lemmas.List.Folds.{list_any-append, list_all-append}
use Rattle.cnb_env.specs.Buildpack.{plan_name_of}
use Rattle.cnb_env.specs.Files.{is_fit_folder, is_folder_or_absent}
use Rattle.cnb_env.specs.Layers.{is_fit_layer}
use Rattle.cnb_env.specs.declared.layers.Phase.TheVariants as phase
use Rattle.cnb_toml.specs.Names.{folder_byte, folder_of}
use Rattle.cnb_toml.specs.declared.names.Key.{Key}
use Rattle.cnb_world.proofs.EffectLemmas.{same_path}
use Rattle.cnb_world.proofs.Folders.{get-folder_made_longer, get-with_folders}
use Rattle.cnb_world.proofs.Parents.{has_slash}
use Rattle.cnb_world.proofs.Trees.{bytes_eq-other}
use Rattle.cnb_world.specs.Path.{beside, joined, parent_of}
use Rattle.cnb_world.specs.Tree.{Tree, can_make_folder, folder_made, folders_above, is_file_or_absent, is_folder}
use Rattle.cnb_world.specs.Tree.{is_root, is_within, item_at}
use Rattle.cnb_world.specs.Whole.{can_write, written}
use Rattle.cnb_world.specs.declared.world.Item.{Item}
use Rattle.cnb_world.specs.declared.world.Item.TheVariants as item
use Rattle.layer_paths.specs.Paths.{layers_folder}
use Rattle.steps.proofs.KeepingLaws.{made_free}
use Rattle.steps.specs.Keeping.{folder_paths}
use Rattle.tree_store.proofs.Apart.{above_within}
use Rattle.tree_store.proofs.Blames.{within_child, within_itself}
use Rattle.tree_store.proofs.Places.{child_not_root}
use Rattle.cnb_lifecycle.proofs.DetectFits.{folder_stays}
use Rattle.cnb_lifecycle.specs.Fitting.{plans_folder}

-- ---- a folder or nothing

abbrev can_be_folder : Option Item → Bool
can_be_folder found = is_folder found || not (is_some found)

to_can : (found : Option Item) → is_folder_or_absent found ≡ true → can_be_folder found ≡ true
to_can None h = refl
to_can (Some found) h = ap (λ v. v || false) h

from_can : (found : Option Item) → can_be_folder found ≡ true → is_folder_or_absent found ≡ true
from_can None h = refl
from_can (Some item.Folder) h = refl
from_can (Some (item.File exec bytes)) h = absurd (cc)
from_can (Some (item.Link target)) h = absurd (cc)
from_can (Some item.Odd) h = absurd (cc)

over_made : (root made : Bool) (old : Option Item) → can_be_folder (cond root (Some item.Folder) old) ≡ true
    → can_be_folder (cond root (Some item.Folder) (cond (made && not root) (Some item.Folder) old)) ≡ true
over_made true made old h = refl
over_made false true old h = refl
over_made false false old h = h

-- it stays one where a folder is made
made_stays : (folder q : List ℕ) (t : Tree) → can_be_folder (item_at t q) ≡ true
    → can_be_folder (item_at (folder_made folder t) q) ≡ true
made_stays folder q t h =
    ap (λ v. can_be_folder (cond (is_root q) (Some item.Folder) v)) (get-with_folders (folder_paths folder) t q)
    ∙ over_made (is_root q) (list_any (bytes_eq q) (folder_paths folder)) (get t q) h

all_stay : (F G : List ℕ → Bool) → ((r : List ℕ) → F r ≡ true → G r ≡ true) → (paths : List (List ℕ))
    → list_all F paths ≡ true → list_all G paths ≡ true
all_stay F G step [] h = refl
all_stay F G step (p ∷ ps) h = let parts = and_parts (F p) (list_all F ps) h
    in and_from (G p) (list_all G ps) (step p parts.0) (all_stay F G step ps parts.1)

-- ---- the folders of a layer's environment

layer_stays : (t u : Tree) (layer : List ℕ) → (is_fit_folder (joined layer (codes "env")) t ≡ true
    → is_fit_folder (joined layer (codes "env")) u ≡ true)
    → (is_fit_folder (joined layer (codes "env.build")) t ≡ true
    → is_fit_folder (joined layer (codes "env.build")) u ≡ true) → is_fit_layer phase.Build t layer ≡ true
    → is_fit_layer phase.Build u layer ≡ true
layer_stays t u layer one two h =
    let first = and_parts (is_fit_folder (joined layer (codes "env")) t)
    (is_fit_folder (joined layer (codes "env.build")) t && true) h in
    let second = and_parts (is_fit_folder (joined layer (codes "env.build")) t) true first.1 in
    and_from _ _ (one first.0) (and_from _ _ (two second.0) refl)

pub layer_behind_folder : (folder layer : List ℕ) (t : Tree) → is_fit_layer phase.Build t layer ≡ true
    → is_fit_layer phase.Build (folder_made folder t) layer ≡ true
layer_behind_folder folder layer t h =
    let one : (q : List ℕ) → is_fit_folder q t ≡ true → is_fit_folder q (folder_made folder t)
    ≡ true = λ q is. from_can _ (made_stays folder q t (to_can _ is)) in
    layer_stays t (folder_made folder t) layer (one (joined layer (codes "env")))
    (one (joined layer (codes "env.build"))) h

-- the last byte of a text
abbrev last_of : List ℕ → ℕ
last_of [] = 0
last_of (c ∷ []) = c
last_of (c ∷ d ∷ cs) = last_of (d ∷ cs)

last_behind : (xs : List ℕ) (c : ℕ) (cs : List ℕ) → last_of (xs ++ c ∷ cs) ≡ last_of (c ∷ cs)
last_behind [] c cs = refl
last_behind (x ∷ []) c cs = refl
last_behind (x ∷ y ∷ xs) c cs = last_behind (y ∷ xs) c cs

last_of_plan : (work : List ℕ) (key : Key) → last_of (joined (plans_folder work) (plan_name_of key)) ≡ 108
last_of_plan work key =
    let front : List ℕ = cond (bytes_eq (plans_folder work) (47 ∷ [])) (plans_folder work)
    (plans_folder work ++ 47 ∷ []) in
    let name : List ℕ = folder_of key.id ++ codes "@" ++ key.version in
    ap last_of (sym (append_assoc front name (codes ".toml"))) ∙ last_behind (front ++ name) 46 (codes "toml")

other_end : (a b : List ℕ) → (last_of a ≡ last_of b → ⊥) → bytes_eq a b ≡ false
other_end a b ne = bytes_eq-other a b (λ e. ne (ap last_of e))

pub layer_behind_plan : (work : List ℕ) (key : Key) (layer bytes : List ℕ) (t : Tree)
    → is_fit_layer phase.Build t layer ≡ true → is_fit_layer phase.Build
    (written (joined (plans_folder work) (plan_name_of key)) bytes t) layer ≡ true
layer_behind_plan work key layer bytes t h =
    let plan : List ℕ = joined (plans_folder work) (plan_name_of key) in
    let front : List ℕ = cond (bytes_eq layer (47 ∷ [])) layer (layer ++ 47 ∷ []) in
    let one : (q : List ℕ) → bytes_eq plan q ≡ false → is_fit_folder q t ≡ true
    → is_fit_folder q (written plan bytes t) ≡ true = λ q other is. from_can _
    (folder_stays plan bytes t q other (to_can _ is)) in
    layer_stays t (written plan bytes t) layer
    (one (joined layer (codes "env")) (other_end plan _
    (λ e. let no : 108 ≡ 118 = sym (last_of_plan work key) ∙ e ∙ last_behind front 101 (codes "nv")
    in omega (arith, no))))
    (one (joined layer (codes "env.build")) (other_end plan _
    (λ e. let no : 108 ≡ 100 = sym (last_of_plan work key) ∙ e ∙ last_behind front 101 (codes "nv.build")
    in omega (arith, no))))
    h

-- ---- a Buildpack Plan behind a folder of layers

no_slash : (id : List ℕ) → has_slash (folder_of id) ≡ false
no_slash [] = refl
no_slash (b ∷ id) = ap (λ v. v || has_slash (folder_of id)) (plain b) ∙ no_slash id
  where
    plain : (b : ℕ) → (folder_byte b == 47) ≡ false
    plain b = grind (arith, nat_tests)

neither : (a b : Bool) → (a || b) ≡ false → (a ≡ false) × (b ≡ false)
neither true b h = absurd (cc)
neither false b h = (refl, h)

either : (a b : Bool) → (a || b) ≡ true → (a ≡ true) ⊎ (b ≡ true)
either true b h = inl refl
either false b h = inr h

-- a slash is in no name without one
starts_slash : (n p : List ℕ) → starts_with nat_eq n (p ++ 47 ∷ []) ≡ true → has_slash n ≡ true
starts_slash [] [] h = absurd (cc)
starts_slash [] (d ∷ p) h = absurd (cc)
starts_slash (c ∷ n) [] h = let parts = and_parts (nat_eq 47 c) true h
    in let same : 47 ≡ c = eqb-true 47 c parts.0 in ap (λ v. (v == 47) || has_slash n) (sym same)
starts_slash (c ∷ n) (d ∷ p) h = let parts = and_parts (nat_eq d c) (starts_with nat_eq n (p ++ 47 ∷ [])) h
    in or_right (c == 47) (has_slash n) (starts_slash n p parts.1)
  where
    or_right : (a b : Bool) → b ≡ true → (a || b) ≡ true
    or_right true b h = refl
    or_right false b h = h

-- so it ends in front of the name
in_front : (front n p : List ℕ) → has_slash n ≡ false → starts_with nat_eq (front ++ n) (p ++ 47 ∷ []) ≡ true
    → starts_with nat_eq front (p ++ 47 ∷ []) ≡ true
in_front [] n p none h = absurd (let no : true ≡ false = sym (starts_slash n p h) ∙ none in cc)
in_front (c ∷ front) n [] none h = h
in_front (c ∷ front) n (d ∷ p) none h = let parts = and_parts (nat_eq d c)
    (starts_with nat_eq (front ++ n) (p ++ 47 ∷ [])) h in and_from (nat_eq d c)
    (starts_with nat_eq front (p ++ 47 ∷ [])) parts.0 (in_front front n p none parts.1)

end_slash : (l p : List ℕ) → starts_with nat_eq (l ++ 47 ∷ []) (p ++ 47 ∷ []) ≡ true
    → (bytes_eq l p || starts_with nat_eq l (p ++ 47 ∷ [])) ≡ true
end_slash [] [] h = refl
end_slash [] (d ∷ []) h = absurd (let parts = and_parts (nat_eq d 47) (starts_with nat_eq [] (47 ∷ [])) h
    in let no : false ≡ true = parts.1 in cc)
end_slash [] (d ∷ e ∷ p) h = absurd (let parts = and_parts (nat_eq d 47)
    (starts_with nat_eq [] (e ∷ p ++ 47 ∷ [])) h in let no : false ≡ true = parts.1 in cc)
end_slash (c ∷ l) [] h = h
end_slash (c ∷ l) (d ∷ p) h =
    let parts = and_parts (nat_eq d c) (starts_with nat_eq (l ++ 47 ∷ []) (p ++ 47 ∷ [])) h in
    let same : d ≡ c = eqb-true d c parts.0 in
    subst (λ v. ((v == d) && bytes_eq l p || (d == v) && starts_with nat_eq l (p ++ 47 ∷ [])) ≡ true) same
    (own d (bytes_eq l p) (starts_with nat_eq l (p ++ 47 ∷ [])) (end_slash l p parts.1))
  where
    own : (d : ℕ) (a b : Bool) → (a || b) ≡ true → ((d == d) && a || (d == d) && b) ≡ true
    own d a b h = ap (λ v. v && a || v && b) (itself d) ∙ h
      where
        itself : (d : ℕ) → (d == d) ≡ true
        itself d = grind (arith, nat_tests)

longer : (folder name : List ℕ) → 0 < length name → length folder < length (joined folder name)
    ⊎ (is_root folder ≡ true)
longer folder name some = by (bytes_eq folder (47 ∷ [])) refl
  where
    by : (root : Bool) → bytes_eq folder (47 ∷ []) ≡ root → length folder
        < length (cond root folder (folder ++ 47 ∷ []) ++ name) ⊎ (is_root folder ≡ true)
    by true e = inr e
    by false e = inl (omega (arith, some, length-append (folder ++ 47 ∷ []) name, length-append folder (47 ∷ [])))

module _ (plans layers : List ℕ) (apart : is_within plans layers ≡ false) (plain : is_root plans ≡ false)
    (some : 0 < length plans) where
  -- a folder of layers that lies in the folder of the plans is that folder
  one_folder : (name : List ℕ) → has_slash name ≡ false → is_within plans (joined layers name) ≡ true
      → joined layers name ≡ plans
  one_folder name none h = by (either (is_root plans) under_it h)
    where
      apart_of : (bytes_eq layers plans ≡ false) × (starts_with nat_eq layers (plans ++ 47 ∷ []) ≡ false)
      apart_of = neither (bytes_eq layers plans) _ (neither (is_root plans) _ apart).1

      starts : (root : Bool) → bytes_eq layers (47 ∷ []) ≡ root
          → starts_with nat_eq (cond root layers (layers ++ 47 ∷ []) ++ name) (plans ++ 47 ∷ []) ≡ true → ⊥
      starts true e s = let no : true ≡ false = sym (in_front layers name plans none s) ∙ apart_of.1 in absurd (cc)
      starts false e s = let no : true ≡ false = sym (end_slash layers plans
          (in_front (layers ++ 47 ∷ []) name plans none s)) ∙ (neither (is_root plans) _ apart).1 in absurd (cc)

      under : (bytes_eq (joined layers name) plans ≡ true)
          ⊎ (starts_with nat_eq (joined layers name) (plans ++ 47 ∷ []) ≡ true) → joined layers name ≡ plans
      under (inl e) = same_path (joined layers name) plans e
      under (inr s) = absurd (starts (bytes_eq layers (47 ∷ [])) refl s)

      under_it : Bool
      under_it = bytes_eq (joined layers name) plans || starts_with nat_eq (joined layers name) (plans ++ 47 ∷ [])

      by : (is_root plans ≡ true) ⊎ (under_it ≡ true) → joined layers name ≡ plans
      by (inl root) = absurd (let no : true ≡ false = sym root ∙ plain in cc)
      by (inr u) = under (either (bytes_eq (joined layers name) plans)
          (starts_with nat_eq (joined layers name) (plans ++ 47 ∷ [])) u)

  -- what stands right in the folder of the plans is as before
  item_stays : (name id : List ℕ) (t : Tree) → 0 < length name
      → item_at (folder_made (joined layers (folder_of id)) t) (joined plans name) ≡ item_at t (joined plans name)
  item_stays name id t more = by (list_any (bytes_eq q) (folder_paths made)) refl
    where
      q : List ℕ
      q = joined plans name

      made : List ℕ
      made = joined layers (folder_of id)

      lies : (list_any (bytes_eq q) (folders_above made) ≡ true) ⊎ (list_any (bytes_eq q) (made ∷ []) ≡ true)
          → is_within q made ≡ true
      lies (inl above) = above_within made q above
      lies (inr last) = itself (either (bytes_eq q made) false last)
        where
          itself : (bytes_eq q made ≡ true) ⊎ (false ≡ true) → is_within q made ≡ true
          itself (inl e) = subst (λ p. is_within q p ≡ true) (same_path q made e) (within_itself q)
          itself (inr e) = absurd (cc)

      short : length plans < length q
      short = by_root (longer plans name more)
        where
          by_root : length plans < length q ⊎ (is_root plans ≡ true) → length plans < length q
          by_root (inl less) = less
          by_root (inr root) = absurd (let no : true ≡ false = sym root ∙ plain in cc)

      by : (v : Bool) → list_any (bytes_eq q) (folder_paths made) ≡ v → item_at (folder_made made t) q ≡ item_at t q
      by false e = made_free t made q (ap not e)
      by true e =
          let within : is_within q made ≡ true = lies (either _ _
          (sym (list_any-append (bytes_eq q) (folders_above made) (made ∷ [])) ∙ e)) in
          let same : made ≡ plans = one_folder (folder_of id) (no_slash id)
          (within_child plans name made more within) in
          let length_same : length made ≡ length plans = ap length same in
          ap (cond (is_root q) (Some item.Folder)) (get-folder_made_longer made q t (omega (arith, length_same, short)))

plans_plain : (work : List ℕ) → is_root (plans_folder work) ≡ false
plans_plain work = child_not_root work (codes "plans") (omega arith)

joined_some : (folder name : List ℕ) → 0 < length name → 0 < length (joined folder name)
joined_some folder name some = omega (
  arith,
  some,
  length-append
      (cond (bytes_eq folder (47 ∷ [])) folder (folder ++ 47 ∷ [])) name,
)

beside_joined : (folder name : List ℕ) → beside (joined folder name) ≡ joined folder (beside name)
beside_joined folder name = append_assoc (cond (bytes_eq folder (47 ∷ [])) folder (folder ++ 47 ∷ [])) name
    (46 ∷ 110 ∷ 101 ∷ 119 ∷ [])

-- a plan can be written behind it
pub plan_behind_folder : (work layers : List ℕ) (key other : Key) (t : Tree)
    → is_within (plans_folder work) layers ≡ false → can_write (joined (plans_folder work) (plan_name_of key)) t
    ≡ true
    → can_write (joined (plans_folder work) (plan_name_of key)) (folder_made (layers_folder layers other.id) t) ≡ true
plan_behind_folder work layers key other t apart h =
    let plans : List ℕ = plans_folder work in
    let name : List ℕ = plan_name_of key in
    let plan : List ℕ = joined plans name in
    let folder : List ℕ = layers_folder layers other.id in
    let some : 0 < length name = omega (
      arith,
      length-append (folder_of key.id ++ codes "@" ++ key.version)
          (codes ".toml"),
    ) in
    let stays : (n : List ℕ) → 0 < length n → item_at (folder_made folder t) (joined plans n)
    ≡ item_at t (joined plans n) = λ n more. item_stays plans layers apart (plans_plain work)
    (joined_some work (codes "plans") (omega arith)) n other.id t more in
    let outer = and_parts (is_file_or_absent (item_at t plan) && is_file_or_absent (item_at t (beside plan)))
    (can_make_folder t (parent_of plan)) h in
    let both = and_parts (is_file_or_absent (item_at t plan)) (is_file_or_absent (item_at t (beside plan))) outer.0 in
    let beside_stays : item_at (folder_made folder t) (beside plan) ≡ item_at t (beside plan) =
    ap (item_at (folder_made folder t)) (beside_joined plans name)
    ∙ stays (beside name) (omega (arith, some, length-append name (46 ∷ 110 ∷ 101 ∷ 119 ∷ [])))
    ∙ sym (ap (item_at t) (beside_joined plans name))
    in
    and_from _ _ (and_from _ _ (ap is_file_or_absent (stays name some) ∙ both.0)
    (ap is_file_or_absent beside_stays ∙ both.1))
    (all_stay (λ r. can_be_folder (item_at t r)) (λ r. can_be_folder (item_at (folder_made folder t) r))
    (λ r is. made_stays folder r t is) (folder_paths (parent_of plan)) outer.1)

-- ---- the folder of layers itself

last_folder : (folder : List ℕ) (t : Tree) → can_make_folder t folder ≡ true → can_be_folder (item_at t folder) ≡ true
last_folder folder t h =
    let F : List ℕ → Bool = λ r. can_be_folder (item_at t r) in
    let parts = and_parts (list_all F (folders_above folder)) (list_all F (folder ∷ []))
    (sym (list_all-append F (folders_above folder) (folder ∷ [])) ∙ h) in
    (and_parts (F folder) true parts.1).0

pub stands_folder : (folder : List ℕ) (t : Tree) → can_make_folder t folder ≡ true
    → is_some (item_at t folder) ≡ true → is_folder (item_at t folder) ≡ true
stands_folder folder t h there = by (item_at t folder) (last_folder folder t h) there
  where
    by : (found : Option Item) → can_be_folder found ≡ true → is_some found ≡ true → is_folder found ≡ true
    by None can is = absurd (cc)
    by (Some item.Folder) can is = refl
    by (Some (item.File exec bytes)) can is = absurd (cc)
    by (Some (item.Link target)) can is = absurd (cc)
    by (Some item.Odd) can is = absurd (cc)
