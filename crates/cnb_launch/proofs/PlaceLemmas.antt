-- A place under a root is a path.
use Rattle.std.proofs.Common.{◌≡◌, ◌∙◌, ℕ, ◌≤◌, Bool, true, false, cond, List, [], ◌∷◌, ◌++◌, ◌&&◌, ◌||◌, ◌==◌, refl}
use Rattle.std.proofs.Common.{sym, ap, IsTrue, length, length-append, get_or, nat_le, arith, ◌<◌, Option, Some, None}
use Rattle.std.specs.List.{list_all, onto_first}
use Rattle.std.specs.Str.{bytes_eq}
use Rattle.std.proofs.lemmas.List.Folds.{list_all-append}
use Rattle.std.proofs.lemmas.Bool.{and_parts, leb-true}
use Rattle.std.proofs.lemmas.Bool.Decides.{nat_tests}
use Rattle.std.proofs.lemmas.List.Sums.{AllPass-from_list_all}
use Rattle.cnb_toml.specs.Process.{is_process, is_working_dir}
use Rattle.cnb_toml.specs.Written.{is_filled}
use Rattle.cnb_toml.specs.declared.process.Process.{Process}
use Rattle.cnb_launch.specs.Places.{IsShortDir}
use Rattle.cnb_world.specs.Path.{are_parts, is_part, is_path}
use Rattle.cnb_world.specs.Tree.{is_root}
use Rattle.cnb_world.proofs.Parents.{parts_of, some_part}

-- the parts of two ways, one behind the other
parts_of-both : (bytes more : List ℕ) → parts_of (bytes ++ 47 ∷ more) ≡ parts_of bytes ++ parts_of more
parts_of-both [] more = refl
parts_of-both (c ∷ cs) more = by (c == 47) (parts_of-both cs more)
  where
    onto : parts_of (cs ++ 47 ∷ more) ≡ parts_of cs ++ parts_of more
        → onto_first c (parts_of (cs ++ 47 ∷ more)) ≡ onto_first c (parts_of cs) ++ parts_of more
    onto e = let some = some_part cs in ap (onto_first c) e
        ∙ ap (λ parts. onto_first c (parts ++ parts_of more)) some.2
        ∙ sym (ap (λ parts. onto_first c parts ++ parts_of more) some.2)

    by : (v : Bool) → parts_of (cs ++ 47 ∷ more) ≡ parts_of cs ++ parts_of more
        → cond v ([] ∷ parts_of (cs ++ 47 ∷ more)) (onto_first c (parts_of (cs ++ 47 ∷ more)))
        ≡ cond v ([] ∷ parts_of cs) (onto_first c (parts_of cs)) ++ parts_of more
    by true e = ap (λ parts. [] ∷ parts) e
    by false e = onto e

are_both_parts : (root place : List ℕ) → are_parts root ≡ true → are_parts place ≡ true
    → are_parts (root ++ place) ≡ true
are_both_parts [] place h k = absurd (cc)
are_both_parts (c ∷ cs) [] h k = absurd (cc)
are_both_parts (c ∷ cs) (d ∷ ds) h k =
    let (slash, parts) = and_parts (c == 47) (list_all is_part (parts_of cs)) h in
    let (other, more) = and_parts (d == 47) (list_all is_part (parts_of ds)) k in
    let same : d ≡ 47 = grind (arith, nat_tests) in
    ap (λ v. v && list_all is_part (parts_of (cs ++ d ∷ ds))) slash
    ∙ ap (λ b. list_all is_part (parts_of (cs ++ b ∷ ds))) same
    ∙ ap (list_all is_part) (parts_of-both cs ds)
    ∙ list_all-append is_part (parts_of cs) (parts_of ds)
    ∙ ap (λ v. v && list_all is_part (parts_of ds)) parts
    ∙ more

has_parts : (path : List ℕ) → is_path path ≡ true → is_root path ≡ false → are_parts path ≡ true
has_parts path h other = by (nat_le (length path) 32768) (bytes_eq path (47 ∷ [])) (are_parts path) other h
  where
    by : (fits root parts : Bool) → root ≡ false → (fits && (root || parts)) ≡ true → parts ≡ true
    by true true parts e h = absurd (cc)
    by true false parts e h = h
    by false root parts e h = absurd (cc)

or_path : (fits root parts : Bool) → fits ≡ true → parts ≡ true → (fits && (root || parts)) ≡ true
or_path true true parts f p = refl
or_path true false parts f p = p
or_path false root parts f p = absurd (cc)

within : (n : ℕ) → n ≤ 32768 → nat_le n 32768 ≡ true
within n h = grind (arith, nat_tests)

pub place_is_path : (root place : List ℕ) → IsTrue (is_path root) → IsTrue (is_path place) → is_root root ≡ false
    → is_root place ≡ false → length root ≤ 4096 → length place ≤ 4096 → is_path (root ++ place) ≡ true
place_is_path root place h k a b short other =
    or_path (nat_le (length (root ++ place)) 32768) (bytes_eq (root ++ place) (47 ∷ []))
    (are_parts (root ++ place)) (within _ (let e = length-append root place in omega arith))
    (are_both_parts root place (has_parts root h a) (has_parts place k b))

-- ---- the working folder of a process that was read

short_dir : (dir : Option (List ℕ)) → is_working_dir dir ≡ true → IsShortDir dir
short_dir None h = λ v e. absurd (cc)
short_dir (Some place) h = let (short, path) = and_parts (nat_le (length place) 4096) (is_path place) h
    in λ v e. let same : place ≡ v = cc in let fits : nat_le (length v) 4096
    ≡ true = ap (λ p. nat_le (length p) 4096) (sym same) ∙ short in leb-true (length v) 4096 fits

pub process_dir : (process : Process) (dir : Option (List ℕ)) → dir ≡ process.dir → IsTrue (is_process process)
    → IsShortDir dir
process_dir process dir same h = short_dir dir
    (ap is_working_dir same ∙ (and_parts (is_filled process.command) (is_working_dir process.dir) h).1)

pub one_of : (processes : List Process) (i : ℕ) (process : Process) → i < length processes
    → process ≡ get_or processes i process → IsTrue (list_all is_process processes) → IsTrue (is_process process)
one_of processes i process lt is all = ap is_process is ∙ AllPass-from_list_all is_process processes all i process lt
