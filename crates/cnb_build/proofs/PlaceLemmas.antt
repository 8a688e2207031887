-- The places of a build are paths, and leave room.
use Rattle.std.proofs.Common.{◌≡◌, refl, ◌<◌, ◌≤◌, ℕ, ◌&&◌, true, false, cond, IsTrue, List, [], ◌∷◌, ◌++◌, length}
use Rattle.std.proofs.Common.{length-append, arith, Option, Some, None}
use Rattle.std.specs.Prelude.{IfSome}
use Rattle.std.specs.List.{All}
use Rattle.std.specs.Str.{bytes_eq}
use Rattle.std.proofs.lemmas.List.Elements.{All-push}
use Rattle.cnb_world.specs.Path.{beside, is_part, is_path, joined}
use Rattle.cnb_world.specs.Tree.{is_root}
use Rattle.cnb_world.proofs.Folders.{not_longer}
use Rattle.cnb_world.proofs.Joins.{path_beside_file}
use Rattle.cnb_env.specs.Base.{is_named_target}
use Rattle.cnb_env.specs.Layers.{AreShort, IsShort}
use Rattle.cnb_toml.specs.Names.{is_target_name}
use Rattle.cnb_toml.specs.declared.target.Target.{Target}
use Rattle.cnb_world.proofs.Lengths.{length_joined, part_within}

-- a file of a folder isn't `/`
pub no_root : (folder name : List ℕ) → 1 < length name → is_root (joined folder name) ≡ false
no_root folder name long =
    let more : 1 < length (joined folder name) = omega
    (arith, length-append (cond (bytes_eq folder (47 ∷ [])) folder (folder ++ 47 ∷ [])) name) in
    not_longer (joined folder name) (47 ∷ []) more

-- what is written beside the file of a plan
pub beside_plan : (folder name : List ℕ) → is_path folder ≡ true → length folder ≤ 8192
    → is_part (beside name) ≡ true → is_path (beside (joined folder name)) ≡ true
beside_plan folder name path short part =
    let few : length (beside name) ≤ 255 = part_within (beside name) part in
    path_beside_file folder name path part (omega (arith, length_joined folder (beside name)))

-- layers that leave room, and buildpacks' sets of such
pub no_layers_short : AreShort []
no_layers_short at layer less = absurd (omega arith)

pub more_layers_short : (layers : List (List ℕ)) (layer : List ℕ) → AreShort layers → length layer ≤ 8192
    → AreShort (layers ++ layer ∷ [])
more_layers_short layers layer short room = All-push IsShort layers layer short room

pub no_sets_short : All AreShort []
no_sets_short at layers less = absurd (omega arith)

pub more_sets_short : (sets : List (List (List ℕ))) (layers : List (List ℕ)) → All AreShort sets → AreShort layers
    → All AreShort (sets ++ layers ∷ [])
more_sets_short sets layers short room = All-push AreShort sets layers short room

-- the texts of a target that was read are names
pub named_so : (target : Option Target) → IfSome target
    (λ found. IsTrue (is_target_name found.os && is_target_name found.arch)) → IsTrue (is_named_target target)
named_so None h = refl
named_so (Some target) h = h
