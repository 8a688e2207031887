-- The names in a folder of layers, by what stands there.
use Rattle.std.proofs.Common.{◌≡◌, refl, sym, subst, ℕ, true, false, List, [], Result, Ok}
use Rattle.cnb_world.specs.Tree.{can_list}
use Rattle.cnb_world.specs.declared.world.Kind.{Kind}
use Rattle.cnb_env.specs.Files.{is_absent}
use Rattle.doc_files.specs.Reading.{names_at}
use Rattle.steps.specs.Causes.{Only}
use Rattle.steps.specs.Outside.{Seen}
use Rattle.steps.specs.Steps.{yields}
use Rattle.cnb_build.specs.declared.fault.BuildFault.{BuildFault}
use Rattle.cnb_build.specs.Layers.{names_if}
use Rattle.cnb_build.specs.Reading.{reads_files}

none_given : (folder : List ℕ) (none : List (List ℕ)) (old : Seen) → none ≡ [] → names_if folder true old (Ok none) old
unfolding yields
none_given folder none old is = (is, refl)

-- nothing stands there
pub no_names : (folder : List ℕ) (kind : Kind) (none : List (List ℕ)) (old : Seen) → is_absent kind ≡ true
    → none ≡ [] → names_if folder (is_absent kind) old (Ok none) old
no_names folder kind none old absent is = subst (λ b. names_if folder b old (Ok none) old) (sym absent)
    (none_given folder none old is)

-- a folder has to stand there
pub listed_names : (folder : List ℕ) (kind : Kind) (result : Result (List (List ℕ)) BuildFault) (old new : Seen)
    → is_absent kind ≡ false
    → reads_files (Only folder) (λ files. can_list files folder) (λ files. names_at files folder) old result new
    → names_if folder (is_absent kind) old result new
listed_names folder kind result old new there h = subst (λ b. names_if folder b old result new) (sym there) h
