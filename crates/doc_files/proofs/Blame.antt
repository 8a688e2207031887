-- Which path a fault names, after one step and another.
use Rattle.std.proofs.Common.{◌≡◌, ◌∙◌, ap, sym, subst, ℕ, List, Option, Some, Result, Err}
use Rattle.cnb_world.specs.Calls.{LastFailed}
use Rattle.cnb_world.specs.declared.world.FileFault.{FileFault}
use Rattle.cnb_world.specs.declared.world.FileFault.TheVariants as file_fault
use Rattle.std.specs.Prelude.{IfErr, Ok}
use Rattle.steps.specs.Causes.{IsAnswer, IsReadCause, NamesOne}
use Rattle.doc_files.specs.Faults.{read_cause}
use Rattle.doc_files.specs.Reading.{Blames, BlamesOne, BlamesOnly, FailsAt}
use Rattle.doc_files.specs.declared.fault.ReadFault.{ReadFault}
use Rattle.doc_files.specs.declared.fault.ReadFault.TheVariants.{File, Document, Limit, Memory}

-- one of some is one of more
pub blames_more : (Few More : List ℕ → Type 0) → ((path : List ℕ) → Few path → More path) → (fault : ReadFault)
    → BlamesOne Few fault → BlamesOne More fault
blames_more Few More grow (File path) h = grow path h
blames_more Few More grow (Document path fault) h = grow path h
blames_more Few More grow (Limit kind) h = tt
blames_more Few More grow Memory h = tt

-- what a refusal names, a failed call names
pub blames_named : (Among : List ℕ → Type 0) (fault : ReadFault) → BlamesOne Among fault
    → NamesOne Among (read_cause fault)
blames_named Among (File path) h = h
blames_named Among (Document path fault) h = tt
blames_named Among (Limit kind) h = tt
blames_named Among Memory h = tt

pub all_named : {T : Type 0} (Among : List ℕ → Type 0) (result : Result T ReadFault) → IfErr result (BlamesOne Among)
    → IfErr result (λ fault. NamesOne Among (read_cause fault))
all_named Among (Ok value) h = tt
all_named Among (Err fault) h = blames_named Among fault h

-- a call that failed names its path
pub fails_among : (path : List ℕ) (Among : List ℕ → Type 0) → ((blamed : List ℕ) → blamed ≡ path → Among blamed)
    → (fault : ReadFault) → FailsAt path fault → BlamesOne Among fault
fails_among path Among is (File blamed) h = is blamed h
fails_among path Among is Memory h = tt
fails_among path Among is (Document blamed fault) h = absurd h
fails_among path Among is (Limit kind) h = absurd h

-- and may come in place of any answer
pub fails_free : {T : Type 0} (path : List ℕ) (fault : ReadFault) (want : Result T ReadFault) → FailsAt path fault
    → IsAnswer {A = T} read_cause (Err fault) want
fails_free path (File blamed) want h = tt
fails_free path Memory want h = tt
fails_free path (Document blamed fault) want h = absurd h
fails_free path (Limit kind) want h = absurd h

-- a failed call on one of some is a refusal of one of them
pub blames_among : (path : List ℕ) (Among : List ℕ → Type 0) → ((blamed : List ℕ) → blamed ≡ path → Among blamed)
    → (fault : FileFault) (refusal : ReadFault) → Blames path fault refusal → BlamesOne Among refusal
blames_among path Among is fault Memory h = tt
blames_among path Among is file_fault.Failed (File blamed) h = is blamed h
blames_among path Among is file_fault.Memory (File blamed) h = absurd h
blames_among path Among is file_fault.Failed (Document blamed fault) h = absurd h
blames_among path Among is file_fault.Memory (Document blamed fault) h = absurd h
blames_among path Among is file_fault.Failed (Limit kind) h = absurd h
blames_among path Among is file_fault.Memory (Limit kind) h = absurd h

-- two spellings of one path
pub blames_same : (path other : List ℕ) → path ≡ other → (fault : ReadFault) → BlamesOnly path fault
    → BlamesOnly other fault
blames_same path other same fault h = subst (λ p. BlamesOnly p fault) same h

-- the path of a call that failed is that of the last one
pub blamed_last : (T : Type 0) (path : List ℕ) (fault : FileFault) (refusal : ReadFault)
    (before now : Option (List ℕ)) → LastFailed {T = T} path (Err fault) before now → Blames path fault refusal
    → IsReadCause now (read_cause refusal)
blamed_last T path fault Memory before now last h = tt
blamed_last T path file_fault.Failed (File blamed) before now last h = last ∙ ap Some (sym h)
blamed_last T path file_fault.Memory (File blamed) before now last h = absurd h
blamed_last T path fault (Document blamed why) before now last h = tt
blamed_last T path fault (Limit kind) before now last h = tt
