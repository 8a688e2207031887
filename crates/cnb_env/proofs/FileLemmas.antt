-- One environment file: what its reading gives, step by step.
use Rattle.std.proofs.Common.{◌≡◌, ◌∙◌, sym, ap, subst, ℕ, ◌+◌, ◌≤◌, Bool, true, false, cond, List, [], ◌∷◌, length}
use Rattle.std.proofs.Common.{take, drop, arith, Option, Some, None, Result, Ok, Err}
use Rattle.std.specs.Prelude.{IfSome, IsTrue, nat_lt}
use Rattle.std.proofs.lemmas.Bool.Decides.{nat_tests}
use Rattle.std.proofs.lemmas.Grind.{common_steps}
use Rattle.cnb_world.specs.Path.{is_part, joined}
use Rattle.cnb_world.proofs.Lengths.{length_joined, part_within}
use Rattle.cnb_world.specs.Tree.{Tree, item_at, kind_of, bytes_of}
use Rattle.cnb_world.specs.declared.limits.LimitKind.TheVariants.{Document as DocumentLimit}
use Rattle.cnb_world.specs.declared.world.Item.{Item}
use Rattle.cnb_world.specs.declared.world.Item.TheVariants as item
use Rattle.cnb_world.specs.declared.world.Kind.{Kind}
use Rattle.cnb_world.specs.declared.world.Kind.TheVariants as kind
use Rattle.steps.specs.Causes.{IsAnswer}
use Rattle.doc_files.specs.Faults.{read_cause}
use Rattle.doc_files.specs.declared.fault.ReadFault.{ReadFault}
use Rattle.doc_files.specs.declared.fault.ReadFault.TheVariants.{File, Document, Limit, Memory}
use Rattle.cnb_env.specs.Contents.{contents_of, file_of, file_at}
use Rattle.cnb_env.specs.Names.{is_ignored}
use Rattle.cnb_env.specs.declared.files.EnvFile.{EnvFile}
use Rattle.cnb_env.specs.declared.names.Naming.{Naming}

not_more : (n m : ℕ) → n ≤ m → nat_lt m n ≡ false
not_more n m h = grind (arith, nat_tests)

all_taken : (n : ℕ) (bytes : List ℕ) → length bytes ≤ n → take n (drop 0 bytes) ≡ bytes
all_taken n bytes h = grind (arith, common_steps)

whole_item : (found : Option Item) (exec : Bool) (len : ℕ) (bytes : List ℕ) → kind.File exec len ≡ kind_of found
    → len ≤ 1048576 → bytes ≡ take 1048576 (drop 0 (bytes_of found)) → contents_of found ≡ Ok (Some bytes)
whole_item (Some (item.File e all)) exec len bytes k le read =
    let same : len ≡ length all = cc in
    let fits : length all ≤ 1048576 = omega arith in
    ap (λ b. cond b (Err (Limit DocumentLimit)) (Ok (Some all))) (not_more (length all) 1048576 fits)
    ∙ ap (λ x. Ok (Some x)) (sym (read ∙ all_taken 1048576 all fits))
whole_item (Some item.Folder) exec len bytes k le read = absurd (cc)
whole_item (Some (item.Link target)) exec len bytes k le read = absurd (cc)
whole_item (Some item.Odd) exec len bytes k le read = absurd (cc)
whole_item None exec len bytes k le read = absurd (cc)

-- a file that isn't longer than the limit is read whole
pub whole_read : (o o1 : Option Tree) (path : List ℕ) (k : Kind) (exec : Bool) (len : ℕ) (bytes : List ℕ) → o1 ≡ o
    → k ≡ kind.File exec len → IfSome o (λ files. k ≡ kind_of (item_at files path)) → len ≤ 1048576
    → IfSome o1 (λ files. bytes ≡ take 1048576 (drop 0 (bytes_of (item_at files path))))
    → IfSome o (λ files. contents_of (item_at files path) ≡ Ok (Some bytes))
whole_read None o1 path k exec len bytes e is told le read = tt
whole_read (Some files) o1 path k exec len bytes e is told le read =
    let P : Option Tree → Type 0 = λ x. IfSome x (λ t. bytes ≡ take 1048576 (drop 0 (bytes_of (item_at t path)))) in
    whole_item (item_at files path) exec len bytes (sym is ∙ told) le (subst P e read)

of_refused : (name path : List ℕ) (want : Result (Option (List ℕ)) ReadFault) (fault : ReadFault)
    → IsAnswer read_cause (Err fault) want → IsAnswer read_cause (Err fault) (file_of name path want)
of_refused name path want (File p) h = tt
of_refused name path want Memory h = tt
of_refused name path want (Document p f) h = ap (file_of name path) h
of_refused name path want (Limit kind) h = ap (file_of name path) h

module _ (naming : Naming) (folder name path : List ℕ) (place : path ≡ joined folder name) where
  -- a name that is passed over has no file
  pub no_file : (o : Option Tree) → is_ignored naming name ≡ true
      → IfSome o (λ files. IsAnswer read_cause (Ok None) (file_at naming files folder name))
  unfolding file_at
  no_file None h = tt
  no_file (Some files) h = ap (λ b. cond b (Ok None)
      (file_of name (joined folder name) (contents_of (item_at files (joined folder name))))) h

  at_path : (files : Tree) → is_ignored naming name ≡ false
      → file_at naming files folder name ≡ file_of name path (contents_of (item_at files path))
  unfolding file_at
  at_path files h = ap (λ b. cond b (Ok None) (file_of name (joined folder name)
      (contents_of (item_at files (joined folder name))))) h ∙ ap
      (λ p. file_of name p (contents_of (item_at files p))) (sym place)

  pub refused_file : (o : Option Tree) (fault : ReadFault) → is_ignored naming name ≡ false
      → IfSome o (λ files. IsAnswer {A = Option (List ℕ)} read_cause (Err fault)
      (contents_of (item_at files path)))
      → IfSome o (λ files. IsAnswer {A = Option EnvFile} read_cause (Err fault) (file_at naming files folder name))
  refused_file None fault h r = tt
  refused_file (Some files) fault h r = let P : Result (Option EnvFile) ReadFault
      → Type 0 = λ x. IsAnswer read_cause (Err fault) x in subst P (sym (at_path files h))
      (of_refused name path (contents_of (item_at files path)) fault r)

  found_at : (files : Tree) (found : Option (List ℕ)) (result : Result (Option EnvFile) ReadFault)
      → is_ignored naming name ≡ false → contents_of (item_at files path) ≡ Ok found
      → IsAnswer read_cause result (file_of name path (Ok found))
      → IsAnswer read_cause result (file_at naming files folder name)
  found_at files found result h r of = let P : Result (Option EnvFile) ReadFault
      → Type 0 = λ x. IsAnswer read_cause result x in subst P
      (sym (at_path files h ∙ ap (file_of name path) r)) of

  pub found_refused : (o : Option Tree) (found : Option (List ℕ)) (fault : ReadFault)
      → is_ignored naming name ≡ false → IfSome o (λ files. contents_of (item_at files path) ≡ Ok found)
      → IsAnswer {A = Option EnvFile} read_cause (Err fault) (file_of name path (Ok found))
      → IfSome o (λ files. IsAnswer {A = Option EnvFile} read_cause (Err fault) (file_at naming files folder name))
  found_refused None found fault h r of = tt
  found_refused (Some files) found fault h r of = found_at files found (Err fault) h r of

  pub found_file : (o : Option Tree) (found : Option (List ℕ)) (file : Option EnvFile)
      → is_ignored naming name ≡ false → IfSome o (λ files. contents_of (item_at files path) ≡ Ok found)
      → file_of name path (Ok found) ≡ Ok file
      → IfSome o (λ files. file_at naming files folder name ≡ Ok file)
  found_file None found file h r of = tt
  found_file (Some files) found file h r of = found_at files found (Ok file) h r of

-- a name in a folder has a path
pub file_fits : (folder name : List ℕ) → length folder ≤ 16384 → IsTrue (is_part name)
    → length (joined folder name) ≤ 32768
file_fits folder name short part = let by : length (joined folder name)
    ≤ length folder + 1 + length name = length_joined folder name in omega (arith, part_within name part)

pub folder_fits : (platform : List ℕ) → length platform ≤ 8192 → length (joined platform (101 ∷ 110 ∷ 118 ∷ [])) ≤ 16384
folder_fits platform short = let by : length (joined platform (101 ∷ 110 ∷ 118 ∷ []))
    ≤ length platform + 1 + 3 = length_joined platform (101 ∷ 110 ∷ 118 ∷ []) in omega arith
