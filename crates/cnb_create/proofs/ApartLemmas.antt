-- What lies in a folder, and what is made above it, is never a path that is apart from the folder.
use Rattle.std.proofs.Common.{◌≡◌, ◌∙◌, refl, sym, ap, subst, ℕ, ◌<◌, Bool, true, false, not, cond, ◌&&◌, ◌||◌, ◌==◌}
use Rattle.std.proofs.Common.{List, [], ◌∷◌, ◌++◌, length, length-append, inl, inr, ◌⊎◌, append_assoc, append-nil, drop}
use Rattle.std.proofs.Common.{arith}
use Rattle.std.specs.List.{list_any, starts_with}
use Rattle.std.specs.Prelude.{nat_eq}
use Rattle.std.specs.Str.{bytes_eq}
use Rattle.std.proofs.lemmas.Bool.{and_parts, false≢true}
use Rattle.std.proofs.lemmas.Bool.Decides.{Decides-eqb}
use Rattle.std.proofs.lemmas.List.Folds.{list_any-append}
use Rattle.std.proofs.lemmas.Slice.Eq.{starts_is}
use Rattle.cnb_world.specs.Effects.{is_slashed}
use Rattle.cnb_world.specs.Path.{beside, front_of, joined, parent_of}
use Rattle.cnb_world.specs.Tree.{folders_above, folders_from, is_root, is_under, is_within}
use Rattle.cnb_world.proofs.EffectLemmas.{same_path, within_more}
use Rattle.steps.specs.Keeping.{folder_paths, is_free, touched}
use Rattle.cnb_create.specs.Apart.{are_apart}

-- a path is another, or lies below it
abbrev pub Below : List ℕ → List ℕ → Type 0
Below folder path = (rest : List ℕ) × (path ≡ folder ++ rest) × (is_slashed rest ≡ true)

-- so the one lies within the other
pub under : (folder path : List ℕ) → Below folder path → is_within folder path ≡ true
under folder path (rest, is, slashed) = by (is_root folder)
    (ap (is_under folder) is ∙ within_more folder rest ∙ slashed)
  where
    by : (root : Bool) → is_under folder path ≡ true → (root || is_under folder path) ≡ true
    by true h = refl
    by false h = h

or_cases : (a b : Bool) → (a || b) ≡ true → (a ≡ true) ⊎ (b ≡ true)
or_cases true b h = inl refl
or_cases false b h = inr h

-- and the other way round
pub within_so : (folder path : List ℕ) → is_within folder path ≡ true → (is_root folder ≡ true) ⊎ Below folder path
within_so folder path h = by (or_cases (is_root folder) (is_under folder path) h)
  where
    begun : (bytes_eq path folder ≡ true) ⊎ (starts_with nat_eq path (folder ++ 47 ∷ []) ≡ true) → Below folder path
    begun (inl same) = ([], same_path path folder same ∙ sym (append-nil folder), refl)
    begun (inr begins) = (
      47 ∷ drop (length (folder ++ 47 ∷ [])) path,
      (starts_is Decides-eqb path (folder ++ 47 ∷ []) _ refl).0 begins ∙ append_assoc folder (47 ∷ []) _,
      refl,
    )

    by : (is_root folder ≡ true) ⊎ (is_under folder path ≡ true) → (is_root folder ≡ true) ⊎ Below folder path
    by (inl root) = inl root
    by (inr below) = inr (begun (or_cases (bytes_eq path folder) (starts_with nat_eq path (folder ++ 47 ∷ [])) below))

-- nor does the one lie within the other where it isn't below and the other isn't `/`
pub unless_within : (folder path : List ℕ) → is_root folder ≡ false → (Below folder path → ⊥)
    → not (is_within folder path) ≡ true
unless_within folder path no_root lacks = by (is_within folder path) refl
  where
    either : (is_root folder ≡ true) ⊎ Below folder path → ⊥
    either (inl root) = let e : true ≡ false = sym root ∙ no_root in absurd (cc)
    either (inr below) = lacks below

    by : (v : Bool) → is_within folder path ≡ v → not v ≡ true
    by true is = absurd (either (within_so folder path is))
    by false is = refl

pub never : (a : Bool) → not a ≡ true → a ≡ true → ⊥
never true h e = false≢true h
never false h e = false≢true e

pub no_root : (root rest : Bool) → not (root || rest) ≡ true → root ≡ false
no_root true rest h = absurd (cc)
no_root false rest h = refl

module _ (folder path : List ℕ) (apart : are_apart folder path ≡ true) where
  outside_folder : not (is_within folder path) ≡ true
  outside_folder = (and_parts (not (is_within folder path)) (not (is_within path folder)) apart).0

  outside_path : not (is_within path folder) ≡ true
  outside_path = (and_parts (not (is_within folder path)) (not (is_within path folder)) apart).1

  pub folder_not_root : is_root folder ≡ false
  folder_not_root = no_root (is_root folder) (is_under folder path) outside_folder

  pub path_not_root : is_root path ≡ false
  path_not_root = no_root (is_root path) (is_under path folder) outside_path

  not_in : Below folder path → ⊥
  not_in below = never (is_within folder path) outside_folder (under folder path below)

  not_around : Below path folder → ⊥
  not_around below = never (is_within path folder) outside_path (under path folder below)

-- two that a path lies in: one lies in the other
one_first : (a b s t : List ℕ) → a ++ s ≡ b ++ t → is_slashed s ≡ true → is_slashed t ≡ true → Below a b ⊎ Below b a
one_first [] b s t same hs ht = inl (b, refl, by b s same hs)
  where
    by : (b s : List ℕ) → s ≡ b ++ t → is_slashed s ≡ true → is_slashed b ≡ true
    by [] s same hs = refl
    by (c ∷ b) s same hs = subst (λ v. is_slashed v ≡ true) same hs
one_first (x ∷ a) [] s t same hs ht = inr (x ∷ a, refl, subst (λ v. is_slashed v ≡ true) (sym same) ht)
one_first (x ∷ a) (y ∷ b) s t same hs ht =
    let first : x ≡ y = cc in
    let rest : a ++ s ≡ b ++ t = cc in
    by first (one_first a b s t rest hs ht)
  where
    longer : (x y : ℕ) (a b : List ℕ) → x ≡ y → Below a b → Below (x ∷ a) (y ∷ b)
    longer x y a b e (u, is, slashed) = (u, ap (λ v. y ∷ v) is ∙ ap (λ v. v ∷ (a ++ u)) (sym e), slashed)

    by : x ≡ y → Below a b ⊎ Below b a → Below (x ∷ a) (y ∷ b) ⊎ Below (y ∷ b) (x ∷ a)
    by first (inl h) = inl (longer x y a b first h)
    by first (inr h) = inr (longer y x b a (sym first) h)

pub one_in_other : (a b path : List ℕ) → Below a path → Below b path → Below a b ⊎ Below b a
one_in_other a b path (s, is, hs) (t, also, ht) = one_first a b s t (sym is ∙ also) hs ht

pub below_below : (a b path : List ℕ) → Below a b → Below b path → Below a path
below_below a b path (s, is, hs) (t, also, ht) = (s ++ t, also ∙ ap (λ v. v ++ t) is ∙ append_assoc a s t, by s hs)
  where
    by : (s : List ℕ) → is_slashed s ≡ true → is_slashed (s ++ t) ≡ true
    by [] hs = ht
    by (c ∷ s) hs = hs

-- ---- the folders above a path

above_from : (front cs path : List ℕ) → list_any (bytes_eq path) (folders_from front cs) ≡ true
    → Below path (front ++ cs)
above_from front [] path h = absurd (cc)
above_from front (c ∷ cs) path h = by (λ later. subst (Below path) (append_assoc front (c ∷ []) cs)
    (above_from (front ++ c ∷ []) cs path later)) (c == 47) refl (bytes_eq front []) h
  where
    either : (list_any (bytes_eq path) (folders_from (front ++ c ∷ []) cs) ≡ true → Below path (front ++ c ∷ cs))
        → (c == 47) ≡ true → (bytes_eq path front ≡ true)
        ⊎ (list_any (bytes_eq path) (folders_from (front ++ c ∷ []) cs) ≡ true) → Below path (front ++ c ∷ cs)
    either further slash (inl same) = (c ∷ cs, ap (λ v. v ++ c ∷ cs) (sym (same_path path front same)), slash)
    either further slash (inr h) = further h

    by : (list_any (bytes_eq path) (folders_from (front ++ c ∷ []) cs) ≡ true → Below path (front ++ c ∷ cs))
        → (slash : Bool) → (c == 47) ≡ slash → (none : Bool) → list_any (bytes_eq path)
        (cond (slash && not none) (front ∷ folders_from (front ++ c ∷ []) cs) (folders_from (front ++ c ∷ []) cs))
        ≡ true → Below path (front ++ c ∷ cs)
    by further true is true h = further h
    by further true is false h = either further is
        (or_cases (bytes_eq path front) (list_any (bytes_eq path) (folders_from (front ++ c ∷ []) cs)) h)
    by further false is none h = further h

pub above : (path folder : List ℕ) → list_any (bytes_eq path) (folders_above folder) ≡ true → Below path folder
above path folder h = above_from [] folder path h

-- one of the folders that are made for a folder
above_or_same : (path folder : List ℕ) → list_any (bytes_eq path) (folder_paths folder) ≡ true → Below path folder
above_or_same path folder h = by (or_cases (list_any (bytes_eq path) (folders_above folder))
    (list_any (bytes_eq path) (folder ∷ [])) (sym
    (list_any-append (bytes_eq path) (folders_above folder) (folder ∷ [])) ∙ h))
  where
    same : (bytes_eq path folder ≡ true) ⊎ (list_any (bytes_eq path) [] ≡ true) → Below path folder
    same (inl e) = ([], sym (same_path path folder e) ∙ sym (append-nil path), refl)
    same (inr e) = absurd (cc)

    by : (list_any (bytes_eq path) (folders_above folder) ≡ true)
        ⊎ (list_any (bytes_eq path) (folder ∷ []) ≡ true) → Below path folder
    by (inl h) = above path folder h
    by (inr h) = same (or_cases (bytes_eq path folder) (list_any (bytes_eq path) []) h)

-- ---- the folder that a path stands in

front_rest : (cs : List ℕ) → list_any (λ b. b == 47) cs ≡ true → Below (front_of cs) cs
front_rest [] h = absurd (cc)
front_rest (c ∷ cs) h = by (front_rest cs) (list_any (λ b. b == 47) cs) refl (c == 47) refl h
  where
    longer : Below (front_of cs) cs → Below (c ∷ front_of cs) (c ∷ cs)
    longer (rest, is, slashed) = (rest, ap (λ v. c ∷ v) is, slashed)

    by : (list_any (λ b. b == 47) cs ≡ true → Below (front_of cs) cs) → (later : Bool)
        → list_any (λ b. b == 47) cs ≡ later → (slash : Bool) → (c == 47) ≡ slash → (slash || later) ≡ true
        → Below (cond later (c ∷ front_of cs) []) (c ∷ cs)
    by rest true is slash at h = longer (rest is)
    by rest false is true at h = (c ∷ cs, refl, at)
    by rest false is false at h = absurd (cc)

no_front : (cs : List ℕ) → list_any (λ b. b == 47) cs ≡ false → front_of cs ≡ []
no_front [] h = refl
no_front (c ∷ cs) h = by (list_any (λ b. b == 47) cs) (c == 47) h
  where
    by : (later slash : Bool) → (slash || later) ≡ false → cond later (c ∷ front_of cs) [] ≡ []
    by true true h = absurd (cc)
    by true false h = absurd (cc)
    by false slash h = refl

-- it is `/`, or the path lies below it
parent_above : (path : List ℕ) → (parent_of path ≡ 47 ∷ []) ⊎ Below (parent_of path) path
parent_above path = by (list_any (λ b. b == 47) path) refl
  where
    filled : (none : Bool) → Below (front_of path) path → (cond none (47 ∷ []) (front_of path) ≡ 47 ∷ [])
        ⊎ Below (cond none (47 ∷ []) (front_of path)) path
    filled true h = inl refl
    filled false h = inr h

    by : (any : Bool) → list_any (λ b. b == 47) path ≡ any → (parent_of path ≡ 47 ∷ []) ⊎ Below (parent_of path) path
    by true is = filled (bytes_eq (front_of path) []) (front_rest path is)
    by false is = inl (ap (λ f. cond (bytes_eq f []) (47 ∷ []) f) (no_front path is))

-- ---- what lies in a folder

abbrev pub Inside : List ℕ → List ℕ → Type 0
Inside folder path = (rest : List ℕ) × (path ≡ folder ++ 47 ∷ rest)

pub inside_joined : (folder name : List ℕ) → is_root folder ≡ false → Inside folder (joined folder name)
inside_joined folder name below = (
  name,
  ap (λ b. cond b folder (folder ++ 47 ∷ []) ++ name) below
      ∙ append_assoc folder (47 ∷ []) name,
)

pub inside_deeper : (folder path name : List ℕ) → Inside folder path → Inside folder (joined path name)
inside_deeper folder path name (rest, is) = by (bytes_eq path (47 ∷ []))
  where
    by : (root : Bool) → Inside folder (cond root path (path ++ 47 ∷ []) ++ name)
    by true = (rest ++ name, ap (λ v. v ++ name) is ∙ append_assoc folder (47 ∷ rest) name)
    by false = (
      rest ++ 47 ∷ name,
      append_assoc path (47 ∷ []) name ∙ ap (λ v. v ++ 47 ∷ name) is
          ∙ append_assoc folder (47 ∷ rest) (47 ∷ name),
    )

inside_beside : (folder path : List ℕ) → Inside folder path → Inside folder (beside path)
inside_beside folder path (rest, is) = (
  rest ++ 46 ∷ 110 ∷ 101 ∷ 119
      ∷ [],
  ap (λ v. v ++ 46 ∷ 110 ∷ 101 ∷ 119 ∷ []) is ∙ append_assoc folder (47 ∷ rest)
      (46 ∷ 110 ∷ 101 ∷ 119 ∷ []),
)

pub inside_below : (folder path : List ℕ) → Inside folder path → Below folder path
inside_below folder path (rest, is) = (47 ∷ rest, is, refl)

none_free : (paths : List (List ℕ)) (path : List ℕ) → (list_any (bytes_eq path) paths ≡ true → ⊥)
    → is_free paths path ≡ true
none_free paths path h = by (list_any (bytes_eq path) paths) h
  where
    by : (any : Bool) → (any ≡ true → ⊥) → not any ≡ true
    by true h = absurd (h refl)
    by false h = refl

-- a path is touched by no write of a document where neither the document nor what is written beside it is the path or
-- below it
pub untouched : (document path : List ℕ) → is_root path ≡ false → (Below path document → ⊥)
    → (Below path (beside document) → ⊥) → is_free (touched document) path ≡ true
untouched document path no_root not_above not_beside = none_free (touched document) path
    (λ h. first (or_cases (bytes_eq path document)
    (list_any (bytes_eq path) (beside document ∷ folder_paths (parent_of document))) h))
  where
    same : (other : List ℕ) → bytes_eq path other ≡ true → Below path other
    same other is = ([], sym (same_path path other is) ∙ sym (append-nil path), refl)

    in_root : (is_root path ≡ true) ⊎ (false ≡ true) → ⊥
    in_root (inl root) = false≢true (sym no_root ∙ root)
    in_root (inr e) = false≢true e

    in_parent : list_any (bytes_eq path) (folder_paths (parent_of document)) ≡ true
        → (parent_of document ≡ 47 ∷ []) ⊎ Below (parent_of document) document → ⊥
    in_parent h (inl root) = in_root (or_cases (is_root path) false
        (subst (λ p. list_any (bytes_eq path) (folder_paths p) ≡ true) root h))
    in_parent h (inr below) = not_above (below_below path (parent_of document) document
        (above_or_same path (parent_of document) h) below)

    second : (bytes_eq path (beside document) ≡ true)
        ⊎ (list_any (bytes_eq path) (folder_paths (parent_of document)) ≡ true) → ⊥
    second (inl is) = not_beside (same (beside document) is)
    second (inr h) = in_parent h (parent_above document)

    first : (bytes_eq path document ≡ true) ⊎ (list_any (bytes_eq path)
        (beside document ∷ folder_paths (parent_of document)) ≡ true) → ⊥
    first (inl is) = not_above (same document is)
    first (inr h) = second (or_cases (bytes_eq path (beside document))
        (list_any (bytes_eq path) (folder_paths (parent_of document))) h)

module _ (folder path : List ℕ) (apart : are_apart folder path ≡ true) where
  -- a path that is apart from a folder is nothing in it, and nothing above what is in it
  pub not_above : (other : List ℕ) → Inside folder other → Below path other → ⊥
  not_above other inside below = by (one_in_other folder path other (inside_below folder other inside) below)
    where
      by : Below folder path ⊎ Below path folder → ⊥
      by (inl h) = not_in folder path apart h
      by (inr h) = not_around folder path apart h

  -- nor below it
  pub not_within : 0 < length folder → (other : List ℕ) → Inside folder other → is_within other path ≡ false
  not_within long other inside = by (is_within other path) refl
    where
      shorter : (rest : List ℕ) → other ≡ folder ++ 47 ∷ rest → other ≡ 47 ∷ [] → ⊥
      shorter rest is root =
          let e : length (folder ++ 47 ∷ rest) ≡ 1 = ap length (sym is ∙ root) in
          absurd (omega (arith, e, long, length-append folder (47 ∷ rest)))

      either : (is_root other ≡ true) ⊎ Below other path → ⊥
      either (inl root) = shorter inside.0 inside.1 (same_path other (47 ∷ []) root)
      either (inr below) = not_in folder path apart
          (below_below folder other path (inside_below folder other inside) below)

      by : (v : Bool) → is_within other path ≡ v → v ≡ false
      by true is = absurd (either (within_so other path is))
      by false is = refl

  -- so neither the folder where it is made touches the path, nor a folder that is made in it, nor a document that is
  -- written in it
  pub free_itself : is_free (folder_paths folder) path ≡ true
  free_itself = none_free (folder_paths folder) path (λ h. not_around folder path apart (above_or_same path folder h))

  pub free_folder : (other : List ℕ) → Inside folder other → is_free (folder_paths other) path ≡ true
  free_folder other inside = none_free (folder_paths other) path
      (λ h. not_above other inside (above_or_same path other h))

  pub free_document : (other : List ℕ) → Inside folder other → is_free (touched other) path ≡ true
  free_document other inside =
      untouched other path (path_not_root folder path apart) (not_above other inside)
      (not_above (beside other) (inside_beside folder other inside))
