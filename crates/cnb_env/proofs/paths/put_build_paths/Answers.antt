use Rattle.std.proofs.Common.{◌≡◌, ◌∙◌, ap, codes, List}
use Rattle.std.specs.Prelude.{OnOk}
use Rattle.cnb_world.specs.Tree.{Tree}
use Rattle.cnb_world.specs.declared.env.Variable.{Variable}
use Rattle.cnb_env.specs.Layers.{folders_at, with_front}
use Rattle.cnb_env.proofs.PathLemmas.{found_then, libraries_found, with_folders, with_libraries}
use Rattle.cnb_env.proofs.paths.put_build_paths.Goals as goal

pub returns-clause-found : goal.returns-clause-found
returns-clause-found g c =
    let layers = c.args.layers.now in
    let lib = c.in_ok-lib.lib in
    let pkgconfig : Tree → List Variable → Type 0 = λ files env. OnOk c.put_folders-3.result
    (c.put_folders-3.new.env ≡ with_folders (codes "PKG_CONFIG_PATH") (codes "pkgconfig") layers files env) in
    let include : Tree → List Variable → Type 0 = λ files env. pkgconfig files
    (with_folders (codes "CPATH") (codes "include") layers files env) in
    let libraries : Tree → List Variable → Type 0 = λ files env. include files
    (with_libraries (folders_at files layers (codes "lib")) env) in
    found_then (λ files. with_folders (codes "PATH") (codes "bin") layers files c.args.env.now) libraries _ _ _
    c.in_ok-put_folders.ensures.leaves.files c.in_ok-put_folders.ensures.found
    (found_then (λ files. with_libraries (folders_at files layers (codes "lib")) c.put_folders.new.env) include _
    _ _ c.in_ok-lib.ensures.leaves.files
    (libraries_found layers _ lib c.put_folders.new.env c.put_front-2.new.env c.in_ok-lib.ensures.found
    (c.in_ok-put_front-2.ensures ∙ ap (with_front (codes "LIBRARY_PATH") lib) c.in_ok-put_front.ensures))
    (found_then (λ files. with_folders (codes "CPATH") (codes "include") layers files c.put_front-2.new.env)
    pkgconfig _ _ _ c.in_ok-put_folders-2.ensures.leaves.files c.in_ok-put_folders-2.ensures.found
    c.put_folders-3.ensures.found))
