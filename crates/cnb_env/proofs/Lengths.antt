-- How long the paths of buildpacks are.
use Rattle.std.proofs.Common.{ℕ, ◌≤◌, IsTrue, List, length, arith}
use Rattle.cnb_world.specs.Path.{is_part, joined}
use Rattle.cnb_world.proofs.Lengths.{length_joined, part_within}

-- the folder of a buildpack's version is short too
pub folder_within : (buildpacks folder version : List ℕ) → length buildpacks ≤ 4096 → IsTrue (is_part folder)
    → IsTrue (is_part version) → length (joined (joined buildpacks folder) version) ≤ 8192
folder_within buildpacks folder version short a b =
    let first : length folder ≤ 255 = part_within folder a in
    let second : length version ≤ 255 = part_within version b in
    omega (arith, length_joined buildpacks folder, length_joined (joined buildpacks folder) version)
