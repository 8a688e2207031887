-- Path folders: the loop that joins them, and what they give a variable.
use Rattle.std.proofs.Common.{◌≡◌, ◌∙◌, sym, ap, subst, ℕ, ◌+◌, ◌<◌, zero, suc, false, cond, nat_eq, List, [], ◌∷◌}
use Rattle.std.proofs.Common.{◌++◌, append_assoc, append-nil, codes, length, take, get_or, arith, Option, Some, None}
use Rattle.std.specs.Prelude.{IfSome}
use Rattle.std.specs.List.{join_by}
use Rattle.std.proofs.lemmas.Bool.Decides.{nat_tests}
use Rattle.std.proofs.lemmas.List.{flat_map_more, take_more}
use Rattle.cnb_world.specs.Tree.{Tree}
use Rattle.cnb_world.specs.declared.env.Variable.{Variable}
use Rattle.cnb_env.specs.Layers.{folders_at, with_front}

abbrev joined_by_colon : List (List ℕ) → List ℕ
joined_by_colon paths = join_by (λ path. path) (codes ":") paths

joined_behind : (first : List ℕ) (paths : List (List ℕ)) (path : List ℕ)
    → (joined_by_colon (first ∷ paths) ++ codes ":") ++ path ≡ joined_by_colon (first ∷ (paths ++ path ∷ []))
joined_behind first paths path = append_assoc (joined_by_colon (first ∷ paths)) (codes ":") path
    ∙ flat_map_more (λ p. codes ":" ++ p) first paths path

-- one path more than the first ones
pub joined_more : (paths : List (List ℕ)) (i : ℕ) (path text : List ℕ) → i < length paths
    → path ≡ get_or paths i path → text ≡ join_by (λ p. p) (codes ":") (take i paths)
    → cond (nat_eq i 0) text (text ++ codes ":") ++ path ≡ join_by (λ p. p) (codes ":") (take (i + 1) paths)
joined_more [] i path text h e t = absurd (omega arith)
joined_more (p ∷ ps) zero path text h e t = (λ k. t k ++ e k) ∙ sym (append-nil p)
joined_more (p ∷ ps) (suc n) path text h e t =
    let other : nat_eq (suc n) 0 ≡ false = grind (arith, nat_tests) in
    ap (λ v. cond v text (text ++ codes ":") ++ path) other
    ∙ ap (λ x. (x ++ codes ":") ++ path) t
    ∙ joined_behind p (take n ps) path
    ∙ ap joined_by_colon (sym (take_more (p ∷ ps) (suc n) path h ∙ ap (λ x. take (suc n) (p ∷ ps) ++ x ∷ []) (sym e)))

-- a path variable with the folders of a name in front
abbrev pub with_folders : List ℕ → List ℕ → List (List ℕ) → Tree → List Variable → List Variable
with_folders variable name layers files env = with_front variable (folders_at files layers name) env

-- both variables of libraries with these folders in front
abbrev pub with_libraries : List ℕ → List Variable → List Variable
with_libraries lib env = with_front (codes "LIBRARY_PATH") lib (with_front (codes "LD_LIBRARY_PATH") lib env)

-- a later step over the same files, where an earlier one gave this
pub found_then : {A : Type 0} (F : Tree → A) (P : Tree → A → Type 0) (before after : Option Tree) (x : A)
    → after ≡ before
    → IfSome before (λ files. x ≡ F files) → IfSome after (λ files. P files x)
    → IfSome before (λ files. P files (F files))
found_then F P None after x same first second = tt
found_then F P (Some files) after x same first second =
    let Q : Option Tree → Type 0 = λ o. IfSome o (λ f. P f x) in subst (P files) first (subst Q same second)

pub libraries_found : (layers : List (List ℕ)) (o : Option Tree) (lib : List ℕ) (env new : List Variable)
    → IfSome o (λ files. lib ≡ folders_at files layers (codes "lib")) → new ≡ with_libraries lib env
    → IfSome o (λ files. new ≡ with_libraries (folders_at files layers (codes "lib")) env)
libraries_found layers None lib env new found h = tt
libraries_found layers (Some files) lib env new found h = h ∙ ap (λ l. with_libraries l env) found
