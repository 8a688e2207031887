-- Which path a refusal carries.
use Rattle.std.proofs.Common.{◌≡◌, ℕ, ◌<◌, Bool, true, false, cond, List, [], ◌∷◌, ◌++◌, ◌||◌, refl, sym, ap, ◌∙◌}
use Rattle.std.proofs.Common.{arith, length, nat_eq, append_assoc, Option, Some, Result, Ok, Err, inl, inr}
use Rattle.std.specs.Prelude.{IfErr, IsTrue}
use Rattle.std.specs.List.{starts_with}
use Rattle.std.specs.Str.{bytes_eq}
use Rattle.std.proofs.lemmas.Slice.Eq.{bytes_eq-Decides}
use Rattle.cnb_world.specs.Calls.{LastFailed, Rose}
use Rattle.cnb_world.specs.Path.{is_part, joined}
use Rattle.cnb_world.specs.Tree.{is_root, is_under, is_within}
use Rattle.cnb_world.specs.declared.world.FileFault.{FileFault}
use Rattle.cnb_world.specs.declared.world.FileFault.TheVariants as file_fault
use Rattle.cnb_world.proofs.Trees.{bytes_eq-same}
use Rattle.steps.specs.Causes.{CountsFiles, IsReadCause, NamesOne, Only}
use Rattle.tree_canon.specs.Names.{is_name}
use Rattle.tree_store.specs.declared.fault.StoreFault.{StoreFault}
use Rattle.tree_store.specs.declared.fault.StoreFault.TheVariants.{OddFile, Limit, File, NoTree, Damaged, Clash, Memory}
use Rattle.tree_store.specs.Answers.{AtOrBelow, Blames, BlamesAt, BlamesEither, BlamesWithin, cause_of}
use Rattle.tree_store.proofs.Places.{child_not_root, longer_front, name_form, or_right, part_form, starts_itself}

pub within_itself : (path : List ℕ) → is_within path path ≡ true
within_itself path = by (is_root path)
  where
    by : (v : Bool) → (v || is_under path path) ≡ true
    by true = refl
    by false = ap (λ v. v || starts_with nat_eq path (path ++ 47 ∷ [])) (bytes_eq-same path)

-- what is within a name in a folder is within the folder
pub within_child : (folder name q : List ℕ) → 0 < length name → is_within (joined folder name) q ≡ true
    → is_within folder q ≡ true
within_child folder name q some h = by (is_root folder) refl
  where
    front : List ℕ
    front = folder ++ 47 ∷ []

    begins : joined folder name ≡ front ++ name → (v : Bool) → bytes_eq q (joined folder name) ≡ v
        → (v || starts_with nat_eq q (joined folder name ++ 47 ∷ [])) ≡ true → starts_with nat_eq q front ≡ true
    begins is true e h = ap (λ x. starts_with nat_eq x front) ((bytes_eq-Decides q (joined folder name)).0 e ∙ is)
        ∙ starts_itself front name
    begins is false e h = longer_front q front (name ++ 47 ∷ [])
        (ap (starts_with nat_eq q) (sym (ap (λ x. x ++ 47 ∷ []) is ∙ append_assoc front name (47 ∷ []))) ∙ h)

    under : is_under (joined folder name) q ≡ true
    under = ap (λ v. v || is_under (joined folder name) q) (sym (child_not_root folder name some)) ∙ h

    by : (v : Bool) → is_root folder ≡ v → (v || is_under folder q) ≡ true
    by true e = refl
    by false e = or_right (bytes_eq q folder) (starts_with nat_eq q front)
        (begins (ap (λ v. cond v folder front ++ name) e) (bytes_eq q (joined folder name)) refl under)

pub at_within : (path : List ℕ) (fault : StoreFault) → BlamesAt path fault → BlamesWithin path fault
at_within path (File blamed) is = ap (is_within path) is ∙ within_itself path
at_within path (OddFile odd) is = tt
at_within path (Limit kind) is = tt
at_within path (NoTree digest) is = tt
at_within path (Damaged asked found bad) is = tt
at_within path (Clash digest) is = tt
at_within path Memory is = tt

child_within : (folder name path : List ℕ) (fault : StoreFault) → path ≡ joined folder name → 0 < length name
    → BlamesWithin path fault → BlamesWithin folder fault
child_within folder name path (File blamed) is some h = within_child folder name blamed some
    (ap (λ p. is_within p blamed) (sym is) ∙ h)
child_within folder name path (OddFile odd) is some h = tt
child_within folder name path (Limit kind) is some h = tt
child_within folder name path (NoTree digest) is some h = tt
child_within folder name path (Damaged asked found bad) is some h = tt
child_within folder name path (Clash digest) is some h = tt
child_within folder name path Memory is some h = tt

pub part_within : (folder name path : List ℕ) (fault : StoreFault) → path ≡ joined folder name
    → IsTrue (is_part name) → BlamesWithin path fault → BlamesWithin folder fault
part_within folder name path fault is part h = child_within folder name path fault is (part_form name part).0 h

pub name_within : (folder name path : List ℕ) (fault : StoreFault) → path ≡ joined folder name
    → is_name name ≡ true → BlamesWithin path fault → BlamesWithin folder fault
name_within folder name path fault is name_is h = child_within folder name path fault is (name_form name name_is).0 h

-- what a refusal carries, a failed call names
pub at_named : {A : Type 0} (path : List ℕ) (result : Result A StoreFault) → IfErr result (BlamesAt path)
    → IfErr result (λ fault. NamesOne (Only path) (cause_of fault))
at_named path (Ok value) h = tt
at_named path (Err (File blamed)) h = h
at_named path (Err (OddFile odd)) h = tt
at_named path (Err (Limit kind)) h = tt
at_named path (Err (NoTree digest)) h = tt
at_named path (Err (Damaged asked found bad)) h = tt
at_named path (Err (Clash digest)) h = tt
at_named path (Err Memory) h = tt

pub within_named : {A : Type 0} (path : List ℕ) (result : Result A StoreFault) → IfErr result (BlamesWithin path)
    → IfErr result (λ fault. NamesOne (AtOrBelow path) (cause_of fault))
within_named path (Ok value) h = tt
within_named path (Err (File blamed)) h = h
within_named path (Err (OddFile odd)) h = tt
within_named path (Err (Limit kind)) h = tt
within_named path (Err (NoTree digest)) h = tt
within_named path (Err (Damaged asked found bad)) h = tt
within_named path (Err (Clash digest)) h = tt
within_named path (Err Memory) h = tt

-- the path of a call that failed is that of the last one
pub blamed_last : (T : Type 0) (path : List ℕ) (fault : FileFault) (refusal : StoreFault)
    (before now : Option (List ℕ)) → LastFailed {T = T} path (Err fault) before now → Blames path fault refusal
    → IsReadCause now (cause_of refusal)
blamed_last T path file_fault.Failed (File blamed) before now last h = last ∙ ap Some (sym h)
blamed_last T path file_fault.Memory (File blamed) before now last h = absurd (cc)
blamed_last T path fault (OddFile odd) before now last h = tt
blamed_last T path fault (Limit kind) before now last h = tt
blamed_last T path fault (NoTree digest) before now last h = tt
blamed_last T path fault (Damaged asked found bad) before now last h = tt
blamed_last T path fault (Clash digest) before now last h = tt
blamed_last T path fault Memory before now last h = tt

-- an answer that no call on files was made for has no path of a call
pub names_none : (T : Type 0) (result : Result T StoreFault) (last : Option (List ℕ))
    → ((n : ℕ) → CountsFiles cause_of result n n) → IfErr result (λ fault. IsReadCause last (cause_of fault))
names_none T (Ok value) last h = tt
names_none T (Err (File path)) last h = let rose : Rose 0 0 = h 0 in let up = rose.up in absurd (omega arith)
names_none T (Err (OddFile path)) last h = tt
names_none T (Err (Limit kind)) last h = tt
names_none T (Err (NoTree digest)) last h = tt
names_none T (Err (Damaged asked found bad)) last h = tt
names_none T (Err (Clash digest)) last h = tt
names_none T (Err Memory) last h = tt

-- ---- a path, one below it, or a file

pub blames_at : {A : Type 0} (path file : List ℕ) (r : Result A StoreFault) → IfErr r (BlamesAt path)
    → IfErr r (BlamesEither path file)
blames_at path file (Ok v) h = tt
blames_at path file (Err (File blamed)) h = inl (ap (is_within path) h ∙ within_itself path)
blames_at path file (Err (OddFile odd)) h = tt
blames_at path file (Err (Limit kind)) h = tt
blames_at path file (Err (NoTree digest)) h = tt
blames_at path file (Err (Damaged asked found bad)) h = tt
blames_at path file (Err (Clash digest)) h = tt
blames_at path file (Err Memory) h = tt

pub blames_file : {A : Type 0} (path file : List ℕ) (r : Result A StoreFault) → IfErr r (BlamesAt file)
    → IfErr r (BlamesEither path file)
blames_file path file (Ok v) h = tt
blames_file path file (Err (File blamed)) h = inr h
blames_file path file (Err (OddFile odd)) h = tt
blames_file path file (Err (Limit kind)) h = tt
blames_file path file (Err (NoTree digest)) h = tt
blames_file path file (Err (Damaged asked found bad)) h = tt
blames_file path file (Err (Clash digest)) h = tt
blames_file path file (Err Memory) h = tt

pub blames_wider : {A : Type 0} (folder name path file : List ℕ) (r : Result A StoreFault)
    → path ≡ joined folder name → 0 < length name → IfErr r (BlamesEither path file)
    → IfErr r (BlamesEither folder file)
blames_wider folder name path file (Ok v) is some h = tt
blames_wider folder name path file (Err (File blamed)) is some (inl h) = inl
    (within_child folder name blamed some (ap (λ p. is_within p blamed) (sym is) ∙ h))
blames_wider folder name path file (Err (File blamed)) is some (inr h) = inr h
blames_wider folder name path file (Err (OddFile odd)) is some h = tt
blames_wider folder name path file (Err (Limit kind)) is some h = tt
blames_wider folder name path file (Err (NoTree digest)) is some h = tt
blames_wider folder name path file (Err (Damaged asked found bad)) is some h = tt
blames_wider folder name path file (Err (Clash digest)) is some h = tt
blames_wider folder name path file (Err Memory) is some h = tt
