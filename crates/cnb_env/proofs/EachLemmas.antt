-- One step after another over an environment: how far a loop has come.
use Rattle.std.proofs.Common.{◌≡◌, ◌∙◌, refl, sym, ap, subst, ℕ, ◌+◌, ◌<◌, List, [], ◌∷◌, length, drop, get_or, Option}
use Rattle.std.proofs.Common.{Some, None, Result, Ok, Err}
use Rattle.std.proofs.lemmas.List.{drop_more}
use Rattle.std.specs.Prelude.{IfSome}
use Rattle.cnb_world.specs.Tree.{Tree}
use Rattle.cnb_world.specs.declared.env.Variable.{Variable}
use Rattle.steps.proofs.ReadingLaws.{refused_where}
use Rattle.steps.specs.Causes.{IsAnswer}
use Rattle.steps.specs.Results.{◌>>=◌}
use Rattle.doc_files.specs.Faults.{read_cause}
use Rattle.doc_files.specs.declared.fault.ReadFault.{ReadFault}
use Rattle.doc_files.specs.declared.fault.ReadFault.TheVariants.{File, Document, Limit, Memory}
use Rattle.cnb_env.specs.Layers.{FailsOne, each}

abbrev pub Applied : Type 0
Applied = Result (List Variable) ReadFault

-- with this environment so far, what is left gives the whole
abbrev pub Leaves : {X : Type 0} → Option Tree → (Tree → X → List Variable → Applied) → List X → List Variable
    → (Tree → Applied) → Type 0
Leaves o step rest env all = IfSome o (λ files. each (step files) rest env ≡ all files)

module _ {X : Type 0} (step : Tree → X → List Variable → Applied) (one : X) (later whole : List X)
    (next : whole ≡ one ∷ later) (all : Tree → Applied) (env : List Variable) where
  left_as : (files : Tree) → each (step files) whole env ≡ all files
      → (step files one env >>= each (step files) later) ≡ all files
  left_as files left = ap (λ xs. each (step files) xs env) (sym next) ∙ left

  pub moves : (o o1 : Option Tree) (new : List Variable) → o1 ≡ o
      → IfSome o1 (λ files. step files one env ≡ Ok new) → Leaves o step whole env all
      → Leaves o step later new all
  moves None o1 new e read left = tt
  moves (Some files) o1 new e read left =
      let P : Option Tree → Type 0 = λ x. IfSome x (λ t. step t one env ≡ Ok new) in
      ap (λ x. x >>= each (step files) later) (sym (subst P e read)) ∙ left_as files left

  pub stops : (o o1 : Option Tree) (fault : ReadFault) → o1 ≡ o
      → IfSome o1 (λ files. IsAnswer {A = List Variable} read_cause (Err fault) (step files one env))
      → Leaves o step whole env all
      → IfSome o (λ files. IsAnswer {A = List Variable} read_cause (Err fault) (all files))
  stops None o1 fault e read left = tt
  stops (Some files) o1 fault e read left =
      let P : Option Tree → Type 0 = λ x. IfSome x (λ t. IsAnswer {A = List Variable} read_cause (Err fault)
      (step t one env)) in
      let Q : Applied → Type 0 = λ x. IsAnswer {A = List Variable} read_cause (Err fault) x in
      subst Q (left_as files left) (refused_where read_cause (Some files) (λ t. step t one env)
      (λ made t. each (step t) later made) fault (subst P e read))

alone : (r : Applied) → (r >>= λ env. Ok env) ≡ r
alone (Ok env) = refl
alone (Err fault) = refl

-- the first of some steps, and what is read with those behind it
module _ {X : Type 0} (step : Tree → X → List Variable → Applied) (one : X) (env : List Variable) where
  pub one_alone : (whole : List X) → whole ≡ one ∷ [] → (o : Option Tree) (result : Applied)
      → IfSome o (λ files. IsAnswer read_cause result (step files one env))
      → IfSome o (λ files. IsAnswer read_cause result (each (step files) whole env))
  one_alone whole is None result read = tt
  one_alone whole is (Some files) result read =
      let Q : Applied → Type 0 = λ x. IsAnswer read_cause result x in
      subst Q (sym (ap (λ xs. each (step files) xs env) is ∙ alone (step files one env))) read

  pub first_refused : (later : List X) (o : Option Tree) (fault : ReadFault)
      → IfSome o (λ files. IsAnswer {A = List Variable} read_cause (Err fault) (step files one env))
      → IfSome o (λ files. IsAnswer {A = List Variable} read_cause (Err fault) (each (step files) (one ∷ later) env))
  first_refused later o fault read = refused_where read_cause o (λ t. step t one env)
      (λ made t. each (step t) later made) fault read

  pub then_later : (later : List X) (o o1 : Option Tree) (made : List Variable) (result : Applied) → o1 ≡ o
      → IfSome o (λ files. step files one env ≡ Ok made) → IfSome o1
      (λ files. IsAnswer read_cause result (each (step files) later made))
      → IfSome o (λ files. IsAnswer read_cause result (each (step files) (one ∷ later) env))
  then_later later None o1 made result e read more = tt
  then_later later (Some files) o1 made result e read more =
      let P : Option Tree → Type 0 = λ x. IfSome x (λ t. IsAnswer read_cause result (each (step t) later made)) in
      let Q : Applied → Type 0 = λ x. IsAnswer read_cause result (x >>= each (step files) later) in
      subst Q (sym read) (subst P e more)

  pub then_refused : (later : List X) (o o1 : Option Tree) (made : List Variable) (fault : ReadFault) → o1 ≡ o
      → IfSome o (λ files. step files one env ≡ Ok made) → IfSome o1
      (λ files. IsAnswer {A = List Variable} read_cause (Err fault) (each (step files) later made))
      → IfSome o (λ files. IsAnswer {A = List Variable} read_cause (Err fault) (each (step files) (one ∷ later) env))
  then_refused later o o1 made fault e read more = then_later later o o1 made (Err fault) e read more

-- what a loop over all has done is the whole
pub all_done : {X : Type 0} (o : Option Tree) (step : Tree → X → List Variable → Applied) (rest : List X)
    (env : List Variable) (all : Tree → Applied) → rest ≡ [] → Leaves o step rest env all
    → IfSome o (λ files. all files ≡ Ok env)
all_done None step rest env all none left = tt
all_done (Some files) step rest env all none left = sym left ∙ ap (λ xs. each (step files) xs env) none

-- before anything is done, all is left
pub nothing_done : {X : Type 0} (o : Option Tree) (step : Tree → X → List Variable → Applied) (whole : List X)
    (env : List Variable) → Leaves o step whole env (λ files. each (step files) whole env)
nothing_done None step whole env = tt
nothing_done (Some files) step whole env = refl

-- those from a place on
pub next_item : {X : Type 0} (xs : List X) (i : ℕ) (x : X) → i < length xs → x ≡ get_or xs i x
    → drop i xs ≡ x ∷ drop (i + 1) xs
next_item xs i x h e = drop_more xs i x h ∙ ap (λ y. y ∷ drop (i + 1) xs) (sym e)

-- a call that failed may come in place of any answer
pub fails_answer : (Among : List ℕ → Type 0) (fault : ReadFault) (want : Applied) → FailsOne Among fault
    → IsAnswer {A = List Variable} read_cause (Err fault) want
fails_answer Among (File path) want h = tt
fails_answer Among Memory want h = tt
fails_answer Among (Document path fault) want h = absurd h
fails_answer Among (Limit kind) want h = absurd h

pub fails_reads : (Among : List ℕ → Type 0) (o : Option Tree) (want : Tree → Applied) (fault : ReadFault)
    → FailsOne Among fault → IfSome o (λ files. IsAnswer {A = List Variable} read_cause (Err fault) (want files))
fails_reads Among None want fault h = tt
fails_reads Among (Some files) want fault h = fails_answer Among fault (want files) h

-- an environment that was told, and then what is read with it
pub told_then : (o o1 : Option Tree) (made : Tree → List Variable) (next : Tree → List Variable → Applied)
    (new : List Variable) (result : Applied) → o1 ≡ o → IfSome o (λ files. new ≡ made files)
    → IfSome o1 (λ files. IsAnswer read_cause result (next files new))
    → IfSome o (λ files. IsAnswer read_cause result (next files (made files)))
told_then None o1 made next new result e told read = tt
told_then (Some files) o1 made next new result e told read =
    let P : Option Tree → Type 0 = λ x. IfSome x (λ t. IsAnswer read_cause result (next t new)) in
    let Q : List Variable → Type 0 = λ env. IsAnswer read_cause result (next files env) in
    subst Q told (subst P e read)

pub told_then_refused : (o o1 : Option Tree) (made : Tree → List Variable) (next : Tree → List Variable → Applied)
    (new : List Variable) (fault : ReadFault) → o1 ≡ o → IfSome o (λ files. new ≡ made files)
    → IfSome o1 (λ files. IsAnswer {A = List Variable} read_cause (Err fault) (next files new))
    → IfSome o (λ files. IsAnswer {A = List Variable} read_cause (Err fault) (next files (made files)))
told_then_refused o o1 made next new fault e told read = told_then o o1 made next new (Err fault) e told read
