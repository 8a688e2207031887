-- The folders and documents of a catalog are paths.
use Rattle.std.proofs.Common.{ℕ, ◌+◌, ◌≤◌, IsTrue, List, codes, length, arith}
use Rattle.cnb_world.specs.Path.{is_part, joined}
use Rattle.cnb_world.proofs.Lengths.{length_joined, part_within}

-- the folder of an id
pub id_fits : (buildpacks id_folder : List ℕ) → length buildpacks ≤ 4096 → IsTrue (is_part id_folder)
    → length (joined buildpacks id_folder) ≤ 4352
id_fits buildpacks id_folder short part = let by : length (joined buildpacks id_folder)
    ≤ length buildpacks + 1 + length id_folder = length_joined buildpacks id_folder
    in omega (arith, part_within id_folder part)

-- the folder of a version
pub version_fits : (folder version : List ℕ) → length folder ≤ 4352 → IsTrue (is_part version)
    → length (joined folder version) ≤ 4608
version_fits folder version short part = let by : length (joined folder version)
    ≤ length folder + 1 + length version = length_joined folder version in omega (arith, part_within version part)

-- the document of a descriptor
pub document_fits : (folder : List ℕ) → length folder ≤ 4608 → length (joined folder (codes "buildpack.toml")) ≤ 32768
document_fits folder short = let by : length (joined folder (codes "buildpack.toml"))
    ≤ length folder + 1 + 14 = length_joined folder (codes "buildpack.toml") in omega arith
