use Rattle.std.proofs.Common.{◌≡◌, codes}
use Rattle.std.specs.Prelude.{OnOk}
use Rattle.cnb_env.proofs.PathLemmas.{found_then, with_folders}
use Rattle.cnb_env.proofs.paths.put_launch_paths.Goals as goal

pub returns-clause-found : goal.returns-clause-found
returns-clause-found g c =
    let layers = c.args.layers.now in
    found_then (λ files. with_folders (codes "PATH") (codes "bin") layers files c.args.env.now)
    (λ files env. OnOk c.put_folders-2.result (c.put_folders-2.new.env
    ≡ with_folders (codes "LD_LIBRARY_PATH") (codes "lib") layers files env)) _ _ _
    c.in_ok-put_folders.ensures.leaves.files c.in_ok-put_folders.ensures.found c.put_folders-2.ensures.found
