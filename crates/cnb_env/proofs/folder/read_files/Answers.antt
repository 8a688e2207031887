use Rattle.std.proofs.Common.{◌≡◌, ◌∙◌, ◌+◌, ◌∷◌, List, drop, inr, sym, subst}
use Rattle.std.proofs.lemmas.Result.{err_from_is_err_and}
use Rattle.cnb_env.specs.declared.files.EnvFile.{EnvFile}
use Rattle.cnb_world.specs.Calls.{AreNames}
use Rattle.cnb_world.specs.Path.{joined}
use Rattle.cnb_env.specs.Files.{IsOfFolder}
use Rattle.doc_files.proofs.Blame.{blames_more}
use Rattle.doc_files.proofs.NamesRead.{next_name, later_names}
use Rattle.cnb_env.proofs.FolderLemmas.{Leaves, moves, stops}
use Rattle.cnb_env.proofs.folder.read_files.Goals as goal

pub returns-in_err-found-clause-reads : goal.returns-in_err-found-clause-reads
returns-in_err-found-clause-reads g c =
    let exit = err_from_is_err_and c.from_residual.result c.from_residual.ensures.1 in
    rw (exit.1, exit.2) (stops c.args.naming c.args.folder.now c.name-item.result _ c.args.names.now
    c.loop-name.files _ _ _ _ c.loop-name.invariant.tree
    (next_name c.args.names.now c.loop-name.name-index c.name-item.result c.loop-name-test.true
    c.name-item.is) c.in_err-found.ensures.reads c.loop-name.invariant.leaves)

pub returns-in_err-found-clause-blames : goal.returns-in_err-found-clause-blames
returns-in_err-found-clause-blames g c =
    let next = next_name c.args.names.now c.loop-name.name-index c.name-item.result c.loop-name-test.true
    c.name-item.is in
    let names : AreNames (c.name-item.result ∷ drop (c.loop-name.name-index + 1) c.args.names.now) = subst
    AreNames next c.loop-name.invariant.names in
    let exit = err_from_is_err_and c.from_residual.result c.from_residual.ensures.1 in
    rw (exit.1, exit.2) (blames_more (λ blamed. blamed ≡ joined c.args.folder.now c.name-item.result)
    (IsOfFolder c.args.folder.now) (λ blamed e. inr (c.name-item.result, names.0, e)) _
    c.in_err-found.ensures.blames)

pub loop-name-preserved : goal.loop-name-preserved
loop-name-preserved g c =
    let next = next_name c.args.names.now c.loop-name.name-index c.name-item.result c.loop-name-test.true
    c.name-item.is in
    let P : List EnvFile → Type 0 = λ files. Leaves c.args.naming
    (g.W.World.tree c.args.world.now) c.args.folder.now files
    (drop (c.loop-name.name-index + 1) c.args.names.now) c.args.names.now in
    record {
      names = later_names _ _ _ next c.loop-name.invariant.names;
      tree = c.in_ok-found.ensures.leaves.files ∙ c.loop-name.invariant.tree;
      files = c.in_ok-found.ensures.leaves.counts ∙ c.loop-name.invariant.files;
      children = c.in_ok-found.ensures.leaves.children ∙ c.loop-name.invariant.children;
      runs = c.in_ok-found.ensures.leaves.runs ∙ c.loop-name.invariant.runs;
      misused = c.in_ok-found.ensures.misused ∙ c.loop-name.invariant.misused;
      leaves = subst P (sym c.in_ok-push_found.ensures)
          (moves c.args.naming c.args.folder.now c.name-item.result
          (drop (c.loop-name.name-index + 1) c.args.names.now) c.args.names.now c.loop-name.files _ _ _
          c.in_ok-found.found c.loop-name.invariant.tree next c.in_ok-found.ensures.reads
          c.loop-name.invariant.leaves);
    }
