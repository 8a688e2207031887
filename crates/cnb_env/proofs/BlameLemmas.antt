-- Which path a fault of layers names.
use Rattle.std.proofs.Common.{◌≡◌, ◌∙◌, subst, ℕ, ◌<◌, List, length, get_or, inl, inr}
use Rattle.std.specs.Prelude.{IsTrue}
use Rattle.cnb_world.specs.Path.{is_part, joined}
use Rattle.doc_files.proofs.Blame.{blames_more}
use Rattle.doc_files.specs.Reading.{BlamesOne, FailsAt}
use Rattle.doc_files.specs.declared.fault.ReadFault.{ReadFault}
use Rattle.doc_files.specs.declared.fault.ReadFault.TheVariants.{File, Document, Limit, Memory}
use Rattle.cnb_env.specs.Files.{IsOfFolder}
use Rattle.cnb_env.specs.Layers.{FailsOne, IsOfFolderIn, IsOfLayer, IsOfLayers, IsOfSets}

fails_as : (path : List ℕ) (Among : List ℕ → Type 0) → ((blamed : List ℕ) → blamed ≡ path → Among blamed)
    → (fault : ReadFault) → FailsAt path fault → FailsOne Among fault
fails_as path Among is (File blamed) h = is blamed h
fails_as path Among is Memory h = tt
fails_as path Among is (Document blamed fault) h = absurd h
fails_as path Among is (Limit kind) h = absurd h

-- a call on a folder of a layer failed
pub folder_fails : (layers : List (List ℕ)) (i : ℕ) (layer name path : List ℕ) → i < length layers
    → layer ≡ get_or layers i layer → IsTrue (is_part name) → path ≡ joined layer name → (fault : ReadFault)
    → FailsAt path fault → FailsOne (IsOfLayers layers) fault
folder_fails layers i layer name path h e part place fault fails = fails_as path (IsOfLayers layers)
    (λ blamed b. (layer, (i, (h, e)), inl (name, part, inl (b ∙ place)))) fault fails

pub fails_blames : (Among : List ℕ → Type 0) (fault : ReadFault) → FailsOne Among fault → BlamesOne Among fault
fails_blames Among (File blamed) h = h
fails_blames Among Memory h = tt
fails_blames Among (Document blamed fault) h = absurd h
fails_blames Among (Limit kind) h = absurd h

pub fails_same : (layers other : List (List ℕ)) → layers ≡ other → (fault : ReadFault)
    → FailsOne (IsOfLayers layers) fault → BlamesOne (IsOfLayers other) fault
fails_same layers other same fault h = subst (λ ls. BlamesOne (IsOfLayers ls) fault) same
    (fails_blames (IsOfLayers layers) fault h)

pub folder_same : (folder other : List ℕ) → folder ≡ other → (fault : ReadFault)
    → BlamesOne (IsOfFolder folder) fault → BlamesOne (IsOfFolder other) fault
folder_same folder other same fault h = subst (λ f. BlamesOne (IsOfFolder f) fault) same h

-- in a folder of a given name
pub in_folder : (folder name path : List ℕ) → IsTrue (is_part name) → path ≡ joined folder name
    → (fault : ReadFault) → BlamesOne (IsOfFolder path) fault → BlamesOne (IsOfFolderIn folder) fault
in_folder folder name path part place fault h = blames_more (IsOfFolder path) (IsOfFolderIn folder)
    (λ blamed of. (name, part, subst (λ f. IsOfFolder f blamed) place of)) fault h

pub in_layer : (layer : List ℕ) → (fault : ReadFault) → BlamesOne (IsOfFolderIn layer) fault
    → BlamesOne (IsOfLayer layer) fault
in_layer layer fault h = blames_more (IsOfFolderIn layer) (IsOfLayer layer) (λ blamed of. inl of) fault h

-- in a folder right in one of the layer
pub deeper_in_layer : (layer name folder : List ℕ) → IsTrue (is_part name) → folder ≡ joined layer name
    → (fault : ReadFault) → BlamesOne (IsOfFolderIn folder) fault → BlamesOne (IsOfLayer layer) fault
deeper_in_layer layer name folder part place fault h = blames_more (IsOfFolderIn folder) (IsOfLayer layer)
    (λ blamed of. inr (name, part, subst (λ f. IsOfFolderIn f blamed) place of)) fault h

pub in_layers : (layers : List (List ℕ)) (i : ℕ) (layer : List ℕ) → i < length layers
    → layer ≡ get_or layers i layer → (fault : ReadFault) → BlamesOne (IsOfLayer layer) fault
    → BlamesOne (IsOfLayers layers) fault
in_layers layers i layer h e fault k = blames_more (IsOfLayer layer) (IsOfLayers layers)
    (λ path of. (layer, (i, (h, e)), of)) fault k

pub in_sets : (sets : List (List (List ℕ))) (i : ℕ) (layers : List (List ℕ)) → i < length sets
    → layers ≡ get_or sets i layers → (fault : ReadFault) → BlamesOne (IsOfLayers layers) fault
    → BlamesOne (IsOfSets sets) fault
in_sets sets i layers h e fault k = blames_more (IsOfLayers layers) (IsOfSets sets)
    (λ path of. (layers, (i, (h, e)), of)) fault k
