-- What stands one or two names below the work folder is no image's document and lies below none, if the work folder
-- isn't the image's store and doesn't lie in it: such a document is at least three names below the work folder, or not
-- below it at all.
use Rattle.std.proofs.Common.{◌≡◌, ◌∙◌, refl, sym, ap, subst, ℕ, ◌+◌, ◌≤◌, ◌<◌, Bool, true, false, not, cond, ◌&&◌}
use Rattle.std.proofs.Common.{◌==◌, List, [], ◌∷◌, ◌++◌, length, length-append, codes, append_assoc, append-nil, arith}
use Rattle.std.proofs.Common.{inl, inr, ◌⊎◌}
use Rattle.std.specs.List.{list_all}
use Rattle.std.specs.Str.{bytes_eq}
use Rattle.std.proofs.lemmas.Bool.{and_from, and_parts}
use Rattle.cnb_build.specs.declared.frame.BuildFrame.{BuildFrame}
use Rattle.cnb_build.specs.Places.{buildpack_plan_path}
use Rattle.cnb_env.specs.Buildpack.{plan_name_of}
use Rattle.cnb_env.proofs.PlanNameLemmas.{part_bytes, plan_name_is_part}
use Rattle.cnb_toml.specs.Keys.{is_key}
use Rattle.cnb_toml.specs.Names.{is_bp_id, is_bp_version}
use Rattle.cnb_toml.specs.declared.names.Key.{Key}
use Rattle.cnb_toml.proofs.Ids.{folder_is_part}
use Rattle.cnb_toml.proofs.Versions.{version_is_part}
use Rattle.cnb_world.specs.Effects.{is_slashed}
use Rattle.cnb_world.specs.Path.{beside, is_part_byte, joined}
use Rattle.cnb_world.specs.Tree.{is_root, is_under, is_within}
use Rattle.cnb_world.proofs.EffectLemmas.{same_path}
use Rattle.image_files.specs.Paths.{document_name, image_path, images_folder}
use Rattle.image_files.proofs.PathLemmas.{document_length}
use Rattle.steps.specs.Keeping.{is_free, touched}
use Rattle.cnb_create.specs.Apart.{are_apart}
use Rattle.cnb_create.proofs.ApartLemmas.{Below, Inside, below_below, folder_not_root, inside_below, inside_deeper}
use Rattle.cnb_create.proofs.ApartLemmas.{inside_joined, never, no_root, one_in_other, under, unless_within, untouched}

-- ---- how many folders deep a path is

abbrev pub slashes : List ℕ → ℕ
slashes [] = 0
slashes (c ∷ cs) = cond (c == 47) 1 0 + slashes cs

slashes_append : (a b : List ℕ) → slashes (a ++ b) ≡ slashes a + slashes b
slashes_append [] b = omega arith
slashes_append (c ∷ a) b = let rest = slashes_append a b in omega (arith, rest)

no_slash : (c : ℕ) → is_part_byte c ≡ true → (c == 47) ≡ false
no_slash c h = by (c == 47) (c == 0) h
  where
    by : (slash zero : Bool) → (not slash && not zero) ≡ true → slash ≡ false
    by true zero h = absurd (cc)
    by false zero h = refl

none_in_part : (name : List ℕ) → list_all is_part_byte name ≡ true → slashes name ≡ 0
none_in_part [] h = refl
none_in_part (c ∷ name) h =
    let parts = and_parts (is_part_byte c) (list_all is_part_byte name) h in
    let rest = none_in_part name parts.1 in
    let other = no_slash c parts.0 in
    rw other (omega (arith, rest))

slashed_more : (rest : List ℕ) → is_slashed rest ≡ true → (rest ≡ []) ⊎ (1 ≤ slashes rest)
slashed_more [] h = inl refl
slashed_more (c ∷ rest) h = inr (by (c == 47) h)
  where
    by : (slash : Bool) → slash ≡ true → 1 ≤ cond slash 1 0 + slashes rest
    by true h = omega arith
    by false h = absurd (cc)

-- ---- a path that isn't `/`

abbrev front : List ℕ → List ℕ
front folder = cond (bytes_eq folder (47 ∷ [])) folder (folder ++ 47 ∷ [])

pub no_root_behind : (before name : List ℕ) → 1 < length name → is_root (before ++ name) ≡ false
no_root_behind before name long = by (is_root (before ++ name)) refl
  where
    by : (v : Bool) → is_root (before ++ name) ≡ v → v ≡ false
    by true is =
        let e : length (before ++ name) ≡ 1 = ap length (same_path (before ++ name) (47 ∷ []) is) in
        absurd (omega (arith, e, long, length-append before name))
    by false is = refl

pub no_document_root : (folder name : List ℕ) → is_root (joined folder (document_name name)) ≡ false
no_document_root folder name = no_root_behind (front folder) (document_name name) (omega (arith, document_length name))

module _ (store name work : List ℕ) (away : not (is_within store work) ≡ true) where
  abbrev image : List ℕ
  image = image_path store name

  no_root_store : is_root store ≡ false
  no_root_store = no_root (is_root store) (is_under store work) away

  no_root_images : is_root (images_folder store) ≡ false
  no_root_images = no_root_behind (front store) (codes "images") (omega arith)

  in_images : Inside (images_folder store) image
  in_images = inside_joined (images_folder store) (document_name name) no_root_images

  images_in : Inside store (images_folder store)
  images_in = inside_joined store (codes "images") no_root_store

  in_store : Below store image
  in_store = inside_below store image (inside_deeper store (images_folder store) (document_name name) images_in)

  -- the document is two folders below its store
  deep : slashes store + 2 ≤ slashes image
  deep =
      let a : slashes image ≡ slashes (images_folder store) + slashes (47 ∷ in_images.0) = ap slashes in_images.1
      ∙ slashes_append (images_folder store) (47 ∷ in_images.0) in
      let b : slashes (images_folder store) ≡ slashes store + slashes (47 ∷ images_in.0) = ap slashes images_in.1
      ∙ slashes_append store (47 ∷ images_in.0) in
      omega (arith, a, b)

  -- a path from the work folder, of one or two names, that begins otherwise than the store's folder of images
  abbrev IsFew : ℕ → List ℕ → Type 0
  IsFew c more = (c ≡ 105 → ⊥) × (slashes (c ∷ more) ≤ 1)

  below_root : (c : ℕ) (more : List ℕ) → IsFew c more → Below image (47 ∷ c ∷ more) → ⊥
  below_root c more few (rest, is, slashed) = by store refl
    where
      count : slashes (47 ∷ c ∷ more) ≡ slashes image + slashes rest
      count = ap slashes is ∙ slashes_append image rest

      none : slashes store ≡ 0
      none = let most = few.1 in let least = deep in omega (arith, most, least, count)

      begins : 47 ∷ c ∷ more ≡ store ++ (in_store.0 ++ rest)
      begins = is ∙ ap (λ v. v ++ rest) in_store.1 ∙ append_assoc store in_store.0 rest

      by : (s : List ℕ) → store ≡ s → ⊥
      by [] e =
          let at : image ≡ 47 ∷ 105 ∷ 109 ∷ 97 ∷ 103 ∷ 101 ∷ 115 ∷ 47
          ∷ document_name name = ap (λ s. image_path s name) e in
          let whole : 47 ∷ c ∷ more ≡ 47 ∷ 105 ∷ 109 ∷ 97 ∷ 103 ∷ 101 ∷ 115 ∷ 47
          ∷ (document_name name ++ rest) = is ∙ ap (λ v. v ++ rest) at in
          let same : c ≡ 105 = cc in
          few.0 same
      by (d ∷ s) e =
          let whole : 47 ∷ c ∷ more ≡ d ∷ (s ++ (in_store.0 ++ rest)) = begins
          ∙ ap (λ v. v ++ (in_store.0 ++ rest)) e in
          let first : d ≡ 47 = cc in
          let some : slashes (d ∷ s) ≡ 1 + slashes s = ap (λ v. slashes (v ∷ s)) first in
          let nothing : slashes (d ∷ s) ≡ 0 = ap slashes (sym e) ∙ none in
          absurd (omega (arith, some, nothing))

  below_other : (c : ℕ) (more : List ℕ) → IsFew c more → Below image (work ++ 47 ∷ c ∷ more) → ⊥
  below_other c more few (rest, is, slashed) = by
      (one_in_other store work (work ++ 47 ∷ c ∷ more)
      (below_below store image (work ++ 47 ∷ c ∷ more) in_store (rest, is, slashed)) (47 ∷ c ∷ more, refl, refl))
    where
      count : slashes work + slashes (47 ∷ c ∷ more) ≡ slashes image + slashes rest
      count = sym (slashes_append work (47 ∷ c ∷ more)) ∙ ap slashes is ∙ slashes_append image rest

      inside : Below store work → ⊥
      inside below = never (is_within store work) away (under store work below)

      further : (s : List ℕ) → store ≡ work ++ s → (s ≡ []) ⊎ (1 ≤ slashes s) → ⊥
      further s at (inl none) = inside (
        [],
        sym (append-nil work) ∙ sym (ap (λ v. work ++ v) none) ∙ sym at
            ∙ sym (append-nil store),
        refl,
      )
      further s at (inr some) =
          let whole : slashes store ≡ slashes work + slashes s = ap slashes at ∙ slashes_append work s in
          let most = few.1 in
          let least = deep in
          absurd (omega (arith, some, whole, most, least, count))

      by : Below store work ⊎ Below work store → ⊥
      by (inl below) = inside below
      by (inr below) = further below.0 below.1 (slashed_more below.0 below.2)

  not_below : (c : ℕ) (more : List ℕ) → IsFew c more → Below image (joined work (c ∷ more)) → ⊥
  not_below c more few below = by (bytes_eq work (47 ∷ [])) refl
    where
      by : (root : Bool) → bytes_eq work (47 ∷ []) ≡ root → ⊥
      by true is =
          let at : joined work (c ∷ more) ≡ 47 ∷ c ∷ more = ap (λ w. joined w (c ∷ more))
          (same_path work (47 ∷ []) is) in
          below_root c more few (subst (Below image) at below)
      by false is =
          let at : joined work (c ∷ more) ≡ work ++ 47 ∷ c ∷ more = ap
          (λ b. cond b work (work ++ 47 ∷ []) ++ c ∷ more) is ∙ append_assoc work (47 ∷ []) (c ∷ more) in
          below_other c more few (subst (Below image) at below)

  beside_few : (c : ℕ) (more : List ℕ) → IsFew c more → IsFew c (beside more)
  beside_few c more few =
      let added : slashes (beside more) ≡ slashes more + 0 = slashes_append more (46 ∷ 110 ∷ 101 ∷ 119 ∷ []) in
      let most = few.1 in
      (few.0, omega (arith, added, most))

  free_few : (c : ℕ) (more : List ℕ) → IsFew c more → is_free (touched (joined work (c ∷ more))) image ≡ true
  free_few c more few =
      untouched (joined work (c ∷ more)) image (no_document_root (images_folder store) name) (not_below c more few)
      (λ below. not_below c (beside more) (beside_few c more few)
      (subst (Below image) (append_assoc (front work) (c ∷ more) (46 ∷ 110 ∷ 101 ∷ 119 ∷ [])) below))

  -- a document in the work folder
  pub free_in_work : (c : ℕ) (more : List ℕ) → (c ≡ 105 → ⊥) → slashes (c ∷ more) ≤ 1
      → is_free (touched (joined work (c ∷ more))) image ≡ true
  free_in_work c more other few = free_few c more (other, few)

  -- a Buildpack Plan
  pub free_plan : (frame : BuildFrame) (key : Key) → frame.work ≡ work → is_key key ≡ true
      → is_free (touched (buildpack_plan_path frame key)) image ≡ true
  free_plan frame key same named =
      let parts = and_parts (is_bp_id key.id) (is_bp_version key.version) named in
      let part = plan_name_is_part key parts.0 parts.1 (folder_is_part key.id parts.0)
      (version_is_part key.version parts.1) in
      let none : slashes (plan_name_of key) ≡ 0 = none_in_part (plan_name_of key)
      (part_bytes (plan_name_of key) part) in
      let at : joined (joined work (codes "plans")) (plan_name_of key)
      ≡ joined work (codes "plans" ++ 47 ∷ plan_name_of key) =
      ap (λ b. cond b (joined work (codes "plans")) (joined work (codes "plans") ++ 47 ∷ []) ++ plan_name_of key)
      (no_root_behind (front work) (codes "plans") (omega arith))
      ∙ append_assoc (joined work (codes "plans")) (47 ∷ []) (plan_name_of key)
      ∙ append_assoc (front work) (codes "plans") (47 ∷ plan_name_of key) in
      subst (λ path. is_free (touched path) image ≡ true)
      (sym at ∙ ap (λ w. joined (joined w (codes "plans")) (plan_name_of key)) (sym same))
      (free_few 112 (108 ∷ 97 ∷ 110 ∷ 115 ∷ 47 ∷ plan_name_of key)
      ((λ (e : ◌≡◌ {A = ℕ} 112 105). absurd (omega (arith, e))), omega (arith, none)))

module _ (folder store name : List ℕ) (apart : are_apart folder store ≡ true) where
  abbrev document : List ℕ
  document = image_path store name

  parts : (not (is_within folder store) ≡ true) × (not (is_within store folder) ≡ true)
  parts = and_parts (not (is_within folder store)) (not (is_within store folder)) apart

  in_that_store : Below store document
  in_that_store =
      let no_root : is_root store ≡ false = no_root (is_root store) (is_under store folder) parts.1 in
      inside_below store document (inside_deeper store (images_folder store) (document_name name)
      (inside_joined store (codes "images") no_root))

  either : Below folder store ⊎ Below store folder → ⊥
  either (inl below) = never (is_within folder store) parts.0 (under folder store below)
  either (inr below) = never (is_within store folder) parts.1 (under store folder below)

  -- what is apart from a store is apart from the documents of its images
  pub document_apart : are_apart folder document ≡ true
  document_apart =
      and_from (not (is_within folder document)) (not (is_within document folder))
      (unless_within folder document (folder_not_root folder store apart)
      (λ below. either (one_in_other folder store document below in_that_store)))
      (unless_within document folder (no_document_root (images_folder store) name)
      (λ below. either (inr (below_below store document folder in_that_store below))))
