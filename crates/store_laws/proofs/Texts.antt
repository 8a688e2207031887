-- Paths that are text, and files that stand at such paths alone.
use Rattle.std.proofs.Common.{◌≡◌, ◌∙◌, refl, sym, ap, subst, arith, ℕ, ◌+◌, ◌<◌, Bool, true, false, cond, ◌==◌, ◌&&◌}
use Rattle.std.proofs.Common.{◌||◌, not, List, [], ◌∷◌, ◌++◌, length, length-append, drop, get_or, append_assoc, nat_eq}
use Rattle.std.proofs.Common.{Option, Some, None, is_some, inl, inr, ◌⊎◌}
use Rattle.std.specs.List.{list_any, starts_with}
use Rattle.std.specs.Str.{IsUtf8, bytes_eq, is_utf8}
use Rattle.std.specs.FinMap.{get, insert, remove}
use Rattle.std.proofs.Math.Seq.{take-append_seam, drop-append_seam}
use Rattle.std.proofs.lemmas.Bool.{eqb-true}
use Rattle.std.proofs.lemmas.List.Folds.{list_any-append}
use Rattle.std.proofs.lemmas.Slice.Eq.{bytes_eq-Decides}
use Rattle.std.proofs.lemmas.Str.{IsCharBoundary-after_ascii, IsCharBoundary-before_ascii, IsUtf8-append, IsUtf8-drop}
use Rattle.std.proofs.lemmas.Str.{IsUtf8-from_ascii, IsUtf8-from_is_utf8, IsUtf8-take, is_utf8-from_IsUtf8}
use Rattle.std.proofs.lemmas.Str.Ascii.{IsAscii-cons, IsAscii-nil}
use Rattle.cnb_world.specs.Path.{front_of, joined, parent_of}
use Rattle.cnb_world.specs.Tree.{Tree, folder_made, folders_above, is_root, is_under, is_within, item_at, without}
use Rattle.cnb_world.specs.declared.world.Item.{Item}
use Rattle.cnb_world.specs.declared.world.Item.TheVariants as item
use Rattle.cnb_world.proofs.Folders.{get-with_folders, get-without}
use Rattle.cnb_world.proofs.Trees.{get-insert_bytes, get-remove_bytes}
use Rattle.tree_store.proofs.Apart.{above_begins}
use Rattle.tree_store.proofs.Places.{or_right, starts_itself, starts_split}
use Rattle.store_laws.specs.Texts.{AreTexts}

-- ---- the byte at a slash

at_slash : (front rest : List ℕ) → get_or (front ++ 47 ∷ rest) (length front) 0 ≡ 47
at_slash [] rest = refl
at_slash (c ∷ front) rest = at_slash front rest

-- what stands before a slash, and what stands behind it, is text where the whole is
pub before_slash : (front rest : List ℕ) → IsUtf8 (front ++ 47 ∷ rest) → IsUtf8 front
before_slash front rest h =
    let whole : List ℕ = front ++ 47 ∷ rest in
    let small : get_or whole (length front) 0 < 128 = omega (arith, at_slash front rest) in
    let within : length front < length whole = omega (arith, length-append front (47 ∷ rest)) in
    subst IsUtf8 (take-append_seam front (47 ∷ rest))
    (IsUtf8-take whole (length front) h (IsCharBoundary-before_ascii whole (length front) within small))

pub behind_slash : (front rest : List ℕ) → IsUtf8 (front ++ 47 ∷ rest) → IsUtf8 rest
behind_slash front rest h =
    let whole : List ℕ = front ++ 47 ∷ rest in
    let small : get_or whole (length front) 0 < 128 = omega (arith, at_slash front rest) in
    let within : length front < length whole = omega (arith, length-append front (47 ∷ rest)) in
    let is : whole ≡ (front ++ 47 ∷ []) ++ rest = sym (append_assoc front (47 ∷ []) rest) in
    let size : length (front ++ 47 ∷ []) ≡ length front + 1 = length-append front (47 ∷ []) in
    subst IsUtf8 (ap (drop (length front + 1)) is ∙ ap (λ n. drop n ((front ++ 47 ∷ []) ++ rest)) (sym size)
    ∙ drop-append_seam (front ++ 47 ∷ []) rest)
    (IsUtf8-drop whole (length front + 1) h (IsCharBoundary-after_ascii whole (length front) h within small))

-- ---- paths

-- a name in a folder is text where its path is
pub name_text : (folder name : List ℕ) → IsUtf8 (joined folder name) → IsUtf8 name
name_text folder name h = by (bytes_eq folder (47 ∷ [])) refl h
  where
    by : (v : Bool) → bytes_eq folder (47 ∷ []) ≡ v → IsUtf8 (cond v folder (folder ++ 47 ∷ []) ++ name) → IsUtf8 name
    by true e u = behind_slash [] name (subst (λ f. IsUtf8 (f ++ name)) ((bytes_eq-Decides folder (47 ∷ [])).0 e) u)
    by false e u = behind_slash folder name (subst IsUtf8 (append_assoc folder (47 ∷ []) name) u)

slash_text : IsUtf8 (47 ∷ [])
slash_text = IsUtf8-from_ascii (47 ∷ []) (IsAscii-cons 47 [] (omega arith) IsAscii-nil)

-- and the path is where the folder and the name are
pub path_text : (folder name : List ℕ) → IsUtf8 folder → IsUtf8 name → IsUtf8 (joined folder name)
path_text folder name f n = by (bytes_eq folder (47 ∷ []))
  where
    by : (v : Bool) → IsUtf8 (cond v folder (folder ++ 47 ∷ []) ++ name)
    by true = IsUtf8-append folder name f n
    by false = IsUtf8-append (folder ++ 47 ∷ []) name (IsUtf8-append folder (47 ∷ []) f slash_text) n

-- a folder above a path is text where the path is
above_text : (path q : List ℕ) → IsUtf8 path → list_any (bytes_eq q) (folders_above path) ≡ true → IsUtf8 q
above_text path q h above =
    let begins : starts_with nat_eq path (q ++ 47 ∷ []) ≡ true = above_begins [] path q above in
    let is : path ≡ q ++ 47 ∷ drop (length (q ++ 47 ∷ [])) path = starts_split path (q ++ 47 ∷ []) begins
    ∙ append_assoc q (47 ∷ []) (drop (length (q ++ 47 ∷ [])) path) in
    before_slash q (drop (length (q ++ 47 ∷ [])) path) (subst IsUtf8 is h)

-- one of the folders that are made for a path
made_text : (path q : List ℕ) → IsUtf8 path → list_any (bytes_eq q) (folders_above path ++ path ∷ []) ≡ true
    → IsUtf8 q
made_text path q h made = by (list_any (bytes_eq q) (folders_above path)) refl (bytes_eq q path) refl
    (sym (list_any-append (bytes_eq q) (folders_above path) (path ∷ [])) ∙ made)
  where
    by : (a : Bool) → list_any (bytes_eq q) (folders_above path) ≡ a → (s : Bool) → bytes_eq q path ≡ s
        → (a || (s || false)) ≡ true → IsUtf8 q
    by true above s same e = above_text path q h above
    by false above true same e = subst IsUtf8 (sym ((bytes_eq-Decides q path).0 same)) h
    by false above false same e = absurd (cc)

-- the folder that a path stands in
front_text : (bytes : List ℕ) → (front_of bytes ≡ []) ⊎ ((rest : List ℕ) × (bytes ≡ front_of bytes ++ 47 ∷ rest))
front_text [] = inl refl
front_text (c ∷ cs) = by (list_any (λ b. b == 47) cs) refl (front_text cs)
  where
    at : (v : Bool) → list_any (λ b. b == 47) cs ≡ v → front_of (c ∷ cs) ≡ cond v (c ∷ front_of cs) []
    at v e = ap (λ w. cond w (c ∷ front_of cs) []) e

    no_front : (cs : List ℕ) → front_of cs ≡ [] → list_any (λ b. b == 47) cs ≡ true
        → (rest : List ℕ) × (cs ≡ 47 ∷ rest)
    no_front [] e h = absurd (cc)
    no_front (d ∷ ds) e h = inner (list_any (λ b. b == 47) ds) refl (d == 47) refl h e
      where
        inner : (v : Bool) → list_any (λ b. b == 47) ds ≡ v → (s : Bool) → (d == 47) ≡ s → (s || v) ≡ true
            → cond v (d ∷ front_of ds) [] ≡ [] → (rest : List ℕ) × (d ∷ ds ≡ 47 ∷ rest)
        inner true f s is k g = absurd (cc)
        inner false f true is k g = (ds, ap (λ x. x ∷ ds) (eqb-true d 47 is))
        inner false f false is k g = absurd (cc)

    by : (v : Bool) → list_any (λ b. b == 47) cs ≡ v → (front_of cs ≡ [])
        ⊎ ((rest : List ℕ) × (cs ≡ front_of cs ++ 47 ∷ rest)) → (front_of (c ∷ cs) ≡ [])
        ⊎ ((rest : List ℕ) × (c ∷ cs ≡ front_of (c ∷ cs) ++ 47 ∷ rest))
    by false e rest = inl (at false e)
    by true e (inr (rest, is)) = inr (rest, ap (λ x. c ∷ x) is ∙ ap (λ f. f ++ 47 ∷ rest) (sym (at true e)))
    by true e (inl none) =
        let (rest, is) = no_front cs none e in
        inr (
          rest,
          ap (λ x. c ∷ x) is ∙ ap (λ f. (c ∷ f) ++ 47 ∷ rest) (sym none)
              ∙ ap (λ f. f ++ 47 ∷ rest) (sym (at true e)),
        )

pub parent_text : (path : List ℕ) → IsUtf8 path → IsUtf8 (parent_of path)
parent_text path h = by (bytes_eq (front_of path) []) refl (front_text path)
  where
    by : (v : Bool) → bytes_eq (front_of path) [] ≡ v → (front_of path ≡ [])
        ⊎ ((rest : List ℕ) × (path ≡ front_of path ++ 47 ∷ rest)) → IsUtf8 (cond v (47 ∷ []) (front_of path))
    by true e found = slash_text
    by false e (inl none) = absurd (let no : false ≡ true = sym e ∙ ap (λ f. bytes_eq f []) none in cc)
    by false e (inr (rest, is)) = before_slash (front_of path) rest (subst IsUtf8 is h)

-- ---- what lies in a folder

begins_more : (a b c : List ℕ) → starts_with nat_eq a c ≡ true → starts_with nat_eq (a ++ b) c ≡ true
begins_more a b c h = ap (λ p. starts_with nat_eq p c) (ap (λ p. p ++ b) (starts_split a c h)
    ∙ append_assoc c (drop (length c) a) b) ∙ starts_itself c (drop (length c) a ++ b)

-- what is within a folder has all that is in it within that folder
pub within_deeper : (top path name : List ℕ) → is_within top path ≡ true → is_within top (joined path name) ≡ true
within_deeper top path name h = by (is_root top) refl h
  where
    begins : is_root top ≡ false → (bytes_eq path top || starts_with nat_eq path (top ++ 47 ∷ [])) ≡ true
        → starts_with nat_eq (joined path name) (top ++ 47 ∷ []) ≡ true
    begins plain h = cases (bytes_eq path top) refl h (bytes_eq path (47 ∷ [])) refl
      where
        cases : (s : Bool) → bytes_eq path top ≡ s → (s || starts_with nat_eq path (top ++ 47 ∷ [])) ≡ true
            → (r : Bool) → bytes_eq path (47 ∷ []) ≡ r
            → starts_with nat_eq (cond r path (path ++ 47 ∷ []) ++ name) (top ++ 47 ∷ []) ≡ true
        cases true same h true root = absurd (let no : false ≡ true = sym plain
            ∙ ap is_root (sym ((bytes_eq-Decides path top).0 same)) ∙ root in cc)
        cases true same h false root = ap (λ p. starts_with nat_eq ((p ++ 47 ∷ []) ++ name) (top ++ 47 ∷ []))
            ((bytes_eq-Decides path top).0 same) ∙ starts_itself (top ++ 47 ∷ []) name
        cases false other h true root = begins_more path name (top ++ 47 ∷ []) h
        cases false other h false root = begins_more (path ++ 47 ∷ []) name (top ++ 47 ∷ [])
            (begins_more path (47 ∷ []) (top ++ 47 ∷ []) h)

    by : (r : Bool) → is_root top ≡ r → (r || is_under top path) ≡ true
        → (r || is_under top (joined path name)) ≡ true
    by true e h = refl
    by false e h = or_right (bytes_eq (joined path name) top)
        (starts_with nat_eq (joined path name) (top ++ 47 ∷ [])) (begins e h)

-- ---- files

pub stands_text : (top : List ℕ) (files : Tree) (path : List ℕ) → AreTexts top files → is_within top path ≡ true
    → is_some (item_at files path) ≡ true → IsUtf8 path
stands_text top files path h within some = IsUtf8-from_is_utf8 path (h.text path within some)

-- files that have nothing at other paths than these, but at some that are text
pub texts_by : (top : List ℕ) (a b : Tree) → AreTexts top a
    → ((path : List ℕ) → is_some (item_at b path) ≡ true → IsUtf8 path
    ⊎ (is_some (item_at a path) ≡ true)) → AreTexts top b
texts_by top a b h each = record { text = λ path within some. by path within (each path some) }
  where
    by : (path : List ℕ) → is_within top path ≡ true → IsUtf8 path ⊎ (is_some (item_at a path) ≡ true)
        → is_utf8 path ≡ true
    by path within (inl text) = is_utf8-from_IsUtf8 path text
    by path within (inr some) = h.text path within some

pub folder_made_texts : (top folder : List ℕ) (files : Tree) → IsUtf8 folder → AreTexts top files
    → AreTexts top (folder_made folder files)
folder_made_texts top folder files text h = texts_by top files (folder_made folder files) h (λ path some.
    by path (is_root path) refl (list_any (bytes_eq path) (folders_above folder ++ folder ∷ [])) refl
    (sym (ap is_some (at path)) ∙ some))
  where
    at : (path : List ℕ) → item_at (folder_made folder files) path ≡ cond (is_root path) (Some item.Folder)
        (cond (list_any (bytes_eq path) (folders_above folder ++ folder ∷ []) && not (is_root path))
        (Some item.Folder) (get files path))
    at path = ap (cond (is_root path) (Some item.Folder)) (get-with_folders (folders_above folder ++ folder ∷ [])
        files path)

    by : (path : List ℕ) (r : Bool) → is_root path ≡ r → (v : Bool)
        → list_any (bytes_eq path) (folders_above folder ++ folder ∷ []) ≡ v
        → is_some (cond r (Some item.Folder) (cond (v && not r) (Some item.Folder) (get files path))) ≡ true
        → IsUtf8 path ⊎ (is_some (item_at files path) ≡ true)
    by path true e v f some = inr (ap (λ b. is_some (cond b (Some item.Folder) (get files path))) e)
    by path false e true f some = inl (made_text folder path text f)
    by path false e false f some = inr (ap (λ b. is_some (cond b (Some item.Folder) (get files path))) e ∙ some)

pub insert_texts : (top path : List ℕ) (x : Item) (files : Tree) → IsUtf8 path → AreTexts top files
    → AreTexts top (insert files path x)
insert_texts top path x files text h = texts_by top files (insert files path x) h (λ q some.
    by q (is_root q) refl (bytes_eq q path) refl
    (sym (ap (λ found. is_some (cond (is_root q) (Some item.Folder) found)) (get-insert_bytes files path x q)) ∙ some))
  where
    by : (q : List ℕ) (r : Bool) → is_root q ≡ r → (v : Bool) → bytes_eq q path ≡ v
        → is_some (cond r (Some item.Folder) (cond v (Some x) (get files q))) ≡ true
        → IsUtf8 q ⊎ (is_some (item_at files q) ≡ true)
    by q true e v f some = inr (ap (λ b. is_some (cond b (Some item.Folder) (get files q))) e)
    by q false e true f some = inl (subst IsUtf8 (sym ((bytes_eq-Decides q path).0 f)) text)
    by q false e false f some = inr (ap (λ b. is_some (cond b (Some item.Folder) (get files q))) e ∙ some)

-- of which some are gone
fewer_texts : (top : List ℕ) (a b : Tree) → ((q : List ℕ) → (v : Bool) × (get b q ≡ cond v (get a q) None))
    → AreTexts top a → AreTexts top b
fewer_texts top a b each h = texts_by top a b h (λ q some. by q (is_root q) refl (each q) some)
  where
    less : (v : Bool) (o : Option Item) → is_some (cond v o None) ≡ true → is_some o ≡ true
    less true o some = some
    less false o some = absurd (cc)

    by : (q : List ℕ) (r : Bool) → is_root q ≡ r → (v : Bool) × (get b q ≡ cond v (get a q) None)
        → is_some (item_at b q) ≡ true → IsUtf8 q ⊎ (is_some (item_at a q) ≡ true)
    by q true e found some = inr (ap (λ w. is_some (cond w (Some item.Folder) (get a q))) e)
    by q false e (v, is) some = inr (ap (λ w. is_some (cond w (Some item.Folder) (get a q))) e
        ∙ less v (get a q) (sym (ap is_some is) ∙ sym (ap (λ w. is_some (cond w (Some item.Folder) (get b q))) e)
        ∙ some))

pub remove_texts : (top path : List ℕ) (files : Tree) → AreTexts top files → AreTexts top (remove files path)
remove_texts top path files h = fewer_texts top files (remove files path) (λ q. (
  not (bytes_eq q path),
  get-remove_bytes files path q ∙ turned (bytes_eq q path) (get files q),
)) h
  where
    turned : (v : Bool) (o : Option Item) → cond v None o ≡ cond (not v) o None
    turned true o = refl
    turned false o = refl

pub without_texts : (top path : List ℕ) (files : Tree) → AreTexts top files → AreTexts top (without path files)
without_texts top path files h = fewer_texts top files (without path files)
    (λ q. (not (is_within path q), get-without path files q)) h
