-- What a folder that is made, an item that is placed, and a play do at one path.
use Rattle.std.proofs.Common.{◌≡◌, ℕ, Bool, true, false, not, cond, List, [], ◌∷◌, ◌++◌, ◌&&◌, ◌||◌, refl, sym, ap, ◌∙◌}
use Rattle.std.proofs.Common.{Option, Some, None, length, arith}
use Rattle.std.specs.List.{list_any}
use Rattle.std.specs.Str.{bytes_eq}
use Rattle.std.specs.FinMap.{get}
use Rattle.std.proofs.lemmas.List.Folds.{list_any-append}
use Rattle.cnb_world.specs.declared.world.Item.{Item}
use Rattle.cnb_world.specs.declared.world.Item.TheVariants.{Folder, File, Link, Odd}
use Rattle.cnb_world.specs.declared.world.Placed.{Placed}
use Rattle.cnb_world.specs.declared.memory.effect.Effect.{Effect}
use Rattle.cnb_world.specs.declared.memory.effect.Effect.TheVariants.{IsFolder, Clears, Keeps}
use Rattle.cnb_world.specs.Effects.{HasEffectAfter, HasEffectOn, covers, is_made_above}
use Rattle.cnb_world.specs.Memory.{all_placed, all_without, laid, placed}
use Rattle.cnb_world.specs.Tree.{Tree, folder_made, folders_above, is_folder, is_root, is_within, with_folders, without}
use Rattle.cnb_world.proofs.ChangeLemmas.{all_placed-push}
use Rattle.cnb_world.proofs.EffectLemmas.{same_path}
use Rattle.cnb_world.proofs.Folders.{get-with_folders, get-without}
use Rattle.cnb_world.proofs.Trees.{bytes_eq-other, bytes_eq-same, get-insert_bytes}

turned : (p q : List ℕ) → bytes_eq p q ≡ true → bytes_eq q p ≡ true
turned p q same = ap (bytes_eq q) (same_path p q same) ∙ bytes_eq-same q

not_turned : (p q : List ℕ) → bytes_eq p q ≡ false → bytes_eq q p ≡ false
not_turned p q other = bytes_eq-other q p (λ e. let no : true ≡ false = sym (bytes_eq-same p)
    ∙ ap (bytes_eq p) (sym e) ∙ other in cc)

-- a folder that is made
get-folder_made : (at : List ℕ) (t : Tree) (q : List ℕ)
    → get (folder_made at t) q ≡ cond ((list_any (bytes_eq q) (folders_above at) || (bytes_eq q at || false))
    && not (is_root q)) (Some Folder) (get t q)
get-folder_made at t q = get-with_folders (folders_above at ++ at ∷ []) t q
    ∙ ap (λ v. cond (v && not (is_root q)) (Some Folder) (get t q))
    (list_any-append (bytes_eq q) (folders_above at) (at ∷ []))

and_false : (a : Bool) → (a && false) ≡ false
and_false true = refl
and_false false = refl

or_true : (a : Bool) → (a || true) ≡ true
or_true true = refl
or_true false = refl

pub made_root : (at q : List ℕ) → is_root q ≡ true → HasEffectOn (folder_made at) q Keeps
made_root at q root t = get-folder_made at t q
    ∙ ap (λ v. cond ((list_any (bytes_eq q) (folders_above at) || (bytes_eq q at || false)) && not v)
    (Some Folder) (get t q)) root ∙ ap (λ v. cond v (Some Folder) (get t q)) (and_false _)

pub made_here : (at q : List ℕ) → is_root q ≡ false → bytes_eq at q ≡ true → HasEffectOn (folder_made at) q IsFolder
made_here at q other same t =
    get-folder_made at t q ∙ ap (λ v. cond ((list_any (bytes_eq q) (folders_above at) || (v || false))
    && not (is_root q)) (Some Folder) (get t q)) (turned at q same)
    ∙ ap (λ v. cond (v && not (is_root q)) (Some Folder) (get t q))
    (or_true (list_any (bytes_eq q) (folders_above at))) ∙ ap
    (λ v. cond (not v) (Some Folder) (get t q)) other

pub made_above : (at q : List ℕ) → is_root q ≡ false → list_any (bytes_eq q) (folders_above at) ≡ true
    → HasEffectOn (folder_made at) q IsFolder
made_above at q other above t =
    get-folder_made at t q ∙ ap (λ v. cond ((v || (bytes_eq q at || false)) && not (is_root q)) (Some Folder)
    (get t q)) above ∙ ap (λ v. cond (not v) (Some Folder) (get t q)) other

pub made_elsewhere : (at q : List ℕ) → bytes_eq at q ≡ false → list_any (bytes_eq q) (folders_above at) ≡ false
    → HasEffectOn (folder_made at) q Keeps
made_elsewhere at q other above t =
    get-folder_made at t q ∙ ap (λ v. cond ((v || (bytes_eq q at || false)) && not (is_root q)) (Some Folder)
    (get t q)) above
    ∙ ap (λ v. cond ((v || false) && not (is_root q)) (Some Folder) (get t q)) (not_turned at q other)

pub ruleset made_effects = (made_root, made_here, made_above, made_elsewhere)

-- an item that is placed
flipped : (v : Bool) (old : Option Item) → cond (not v) old None ≡ cond v None old
flipped true old = refl
flipped false old = refl

over : (path : List ℕ) (item : Item) (t : Tree) (q : List ℕ)
    → get (Rattle.std.specs.FinMap.insert (without path t) path item) q
    ≡ cond (bytes_eq q path) (Some item) (cond (is_within path q) None (get t q))
over path item t q = get-insert_bytes (without path t) path item q
    ∙ ap (cond (bytes_eq q path) (Some item)) (get-without path t q ∙ flipped (is_within path q) (get t q))

get-laid : (item : Item) (path : List ℕ) (t : Tree) (q : List ℕ)
    → get (laid item path t) q ≡ cond (bytes_eq q path) (Some item)
    (cond (not (is_folder (Some item)) && is_within path q) None (get t q))
get-laid Folder path t q = get-insert_bytes t path Folder q
get-laid (File exec bytes) path t q = over path (File exec bytes) t q
get-laid (Link target) path t q = over path (Link target) t q
get-laid Odd path t q = over path Odd t q

module _ (p : Placed) (q : List ℕ) where
  get-placed : (t : Tree) → is_root p.path ≡ false → get (placed p t) q
      ≡ cond (bytes_eq q p.path) (Some p.item) (cond (covers p q) None
      (cond (is_made_above q p.path) (Some Folder) (get t q)))
  get-placed t other =
      ap (λ v. get (cond v t (laid p.item p.path (with_folders (folders_above p.path) t))) q) other
      ∙ get-laid p.item p.path (with_folders (folders_above p.path) t) q
      ∙ ap (λ found. cond (bytes_eq q p.path) (Some p.item) (cond (covers p q) None found))
      (get-with_folders (folders_above p.path) t q)

  pub put_root : (before : Effect) → is_root p.path ≡ true → HasEffectAfter (placed p) q before before
  put_root before root earlier has t = ap (λ v. get
      (cond v (earlier t) (laid p.item p.path (with_folders (folders_above p.path) (earlier t)))) q) root ∙ has t

  pub put_here : (before : Effect) → is_root p.path ≡ false → bytes_eq p.path q ≡ true → (earlier : Tree → Tree)
      → HasEffectOn earlier q before → (t : Tree) → get (placed p (earlier t)) q ≡ Some p.item
  put_here before other same earlier has t =
      get-placed (earlier t) other ∙ ap (λ v. cond v (Some p.item)
      (cond (covers p q) None (cond (is_made_above q p.path) (Some Folder) (get (earlier t) q))))
      (turned p.path q same)

  module _ (other : is_root p.path ≡ false) (apart : bytes_eq p.path q ≡ false) where
    elsewhere : (t : Tree) → get (placed p t) q ≡ cond (covers p q) None
        (cond (is_made_above q p.path) (Some Folder) (get t q))
    elsewhere t = get-placed t other ∙ ap (λ v. cond v (Some p.item)
        (cond (covers p q) None (cond (is_made_above q p.path) (Some Folder) (get t q))))
        (not_turned p.path q apart)

    pub put_over : (before : Effect) → covers p q ≡ true → HasEffectAfter (placed p) q before Clears
    put_over before covered earlier has t = elsewhere (earlier t)
        ∙ ap (λ v. cond v None (cond (is_made_above q p.path) (Some Folder) (get (earlier t) q))) covered

    pub put_below : (before : Effect) → covers p q ≡ false → is_made_above q p.path ≡ true
        → HasEffectAfter (placed p) q before IsFolder
    put_below before free above earlier has t =
        elsewhere (earlier t) ∙ ap (λ v. cond v None (cond (is_made_above q p.path) (Some Folder)
        (get (earlier t) q))) free ∙ ap (λ v. cond v (Some Folder) (get (earlier t) q)) above

    pub put_apart : (before : Effect) → covers p q ≡ false → is_made_above q p.path ≡ false
        → HasEffectAfter (placed p) q before before
    put_apart before free above earlier has t =
        elsewhere (earlier t) ∙ ap (λ v. cond v None (cond (is_made_above q p.path) (Some Folder)
        (get (earlier t) q))) free ∙ ap (λ v. cond v (Some Folder) (get (earlier t) q)) above ∙ has t

pub ruleset put_effects = (put_root, put_here, put_over, put_below, put_apart)

pub put_first : (p : Placed) (q : List ℕ) (effect : Effect) → HasEffectAfter (placed p) q Keeps effect
    → HasEffectOn (placed p) q effect
put_first p q effect after t = after (λ tree. tree) (λ tree. refl) t

-- what a play does
or_none : (v w : Bool) (old : Option Item) → cond w None (cond v None old) ≡ cond (v || w) None old
or_none true true old = refl
or_none true false old = refl
or_none false w old = refl

get-all_without : (ps : List (List ℕ)) (t : Tree) (q : List ℕ)
    → get (all_without ps t) q ≡ cond (list_any (λ p. is_within p q) ps) None (get t q)
get-all_without [] t q = refl
get-all_without (p ∷ ps) t q =
    get-all_without ps (without p t) q ∙ ap (cond (list_any (λ p. is_within p q) ps) None)
    (get-without p t q ∙ flipped (is_within p q) (get t q))
    ∙ or_none (is_within p q) (list_any (λ p. is_within p q) ps) (get t q)

pub removed_here : (ps : List (List ℕ)) (q : List ℕ) → list_any (λ p. is_within p q) ps ≡ true
    → HasEffectOn (all_without ps) q Clears
removed_here ps q within t = get-all_without ps t q ∙ ap (λ v. cond v None (get t q)) within

pub removed_elsewhere : (ps : List (List ℕ)) (q : List ℕ) → list_any (λ p. is_within p q) ps ≡ false
    → HasEffectOn (all_without ps) q Keeps
removed_elsewhere ps q apart t = get-all_without ps t q ∙ ap (λ v. cond v None (get t q)) apart

pub ruleset removal_effects = (removed_here, removed_elsewhere)

pub no_leaves : (leaves : List Placed) (removes : List (List ℕ)) (q : List ℕ) (effect : Effect)
    → length leaves ≡ 0 → HasEffectOn (all_without removes) q effect
    → HasEffectOn (λ tree. all_placed leaves (all_without removes tree)) q effect
no_leaves [] removes q effect none has t = has t
no_leaves (p ∷ ps) removes q effect none has t = absurd (omega arith)

pub leaf_after : (leaves earlier : List Placed) (last : Placed) (removes : List (List ℕ)) (q : List ℕ)
    (before effect : Effect) → leaves ≡ earlier ++ last ∷ []
    → HasEffectOn (λ tree. all_placed earlier (all_without removes tree)) q before
    → HasEffectAfter (placed last) q before effect → HasEffectOn
    (λ tree. all_placed leaves (all_without removes tree)) q effect
leaf_after leaves earlier last removes q before effect is has after t =
    ap (λ ps. get (all_placed ps (all_without removes t)) q) is
    ∙ ap (λ u. get u q) (all_placed-push earlier last (all_without removes t))
    ∙ after (λ tree. all_placed earlier (all_without removes tree)) has t
