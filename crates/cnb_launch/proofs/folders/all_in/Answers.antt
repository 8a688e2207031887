use Rattle.std.proofs.Common.{◌∙◌, ◌+◌, [], ℕ, List, drop, refl, sym, subst}
use Rattle.std.proofs.lemmas.List.{drop_all}
use Rattle.std.proofs.lemmas.List.Elements.{All-nil, All-same}
use Rattle.std.proofs.lemmas.Result.{err_from_is_err_and}
use Rattle.cnb_world.proofs.Misuse.{no_misuse, one_fits, rest_fits}
use Rattle.cnb_world.specs.Tree.{Tree}
use Rattle.cnb_env.proofs.EachLemmas.{next_item}
use Rattle.cnb_env.specs.Files.{is_fit_folder}
use Rattle.cnb_launch.specs.Folders.{AreWithin, are_fit}
use Rattle.cnb_launch.proofs.FolderLemmas.{Leaves, all_found, among_folders, moves, nothing_found, stops, within_more}
use Rattle.cnb_launch.proofs.folders.all_in.Goals as goal

pub loop-folder-init : goal.loop-folder-init
loop-folder-init g c = record {
  tree = refl;
  files = refl;
  children = refl;
  runs = refl;
  misused = λ now h. h;
  within = λ room h. All-same (AreWithin (room + 256)) _ [] c.new-all.ensures (All-nil (AreWithin (room + 256)));
  left = nothing_found c.args.wanted (g.W.World.tree c.args.world.now) _ c.args.folders.now c.new-all.ensures;
}

pub loop-folder-preserved : goal.loop-folder-preserved
loop-folder-preserved g c =
    let later = drop (c.loop-folder.folder-index + 1) c.args.folders.now in
    let next = next_item c.args.folders.now c.loop-folder.folder-index c.folder-item.result
    c.loop-folder-test.true c.folder-item.is in
    let P : List (List (List ℕ)) → Type 0 = λ all. Leaves c.args.wanted
    (g.W.World.tree c.args.world.now) all later c.args.folders.now in
    record {
      tree = c.in_ok-paths.ensures.leaves.files ∙ c.loop-folder.invariant.tree;
      files = c.in_ok-paths.ensures.leaves.counts ∙ c.loop-folder.invariant.files;
      children = c.in_ok-paths.ensures.leaves.children ∙ c.loop-folder.invariant.children;
      runs = c.in_ok-paths.ensures.leaves.runs ∙ c.loop-folder.invariant.runs;
      misused = λ now h. c.loop-folder.invariant.misused now
          (rest_fits (λ (files : Tree) (folder : List ℕ). is_fit_folder folder files) c.folder-item.result later _
          next _ _ c.loop-folder.invariant.tree _ _ now c.in_ok-paths.ensures.misused h);
      within = λ room h. within_more room c.args.folders.now c.loop-folder.folder-index c.folder-item.result
          c.loop-folder-test.true c.folder-item.is c.loop-folder.all c.in_ok-paths.paths _ c.in_ok-push.ensures.ok
          h c.in_ok-paths.ensures.within (c.loop-folder.invariant.within room h);
      left = subst P (sym c.in_ok-push.ensures.ok) (moves c.args.wanted c.folder-item.result later _
          c.args.folders.now next c.loop-folder.all _ _ c.in_ok-paths.paths c.loop-folder.invariant.tree
          c.in_ok-paths.ensures.reads c.loop-folder.invariant.left);
    }

pub returns-in_err-paths-clause-reads : goal.returns-in_err-paths-clause-reads
returns-in_err-paths-clause-reads g c =
    let later = drop (c.loop-folder.folder-index + 1) c.args.folders.now in
    let next = next_item c.args.folders.now c.loop-folder.folder-index c.folder-item.result
    c.loop-folder-test.true c.folder-item.is in
    let exit = err_from_is_err_and c.from_residual.result c.from_residual.ensures.1 in
    rw (exit.1, exit.2) (stops c.args.wanted c.folder-item.result later _ c.args.folders.now next
    c.loop-folder.all _ _ _ c.loop-folder.invariant.tree c.in_err-paths.ensures.reads
    c.loop-folder.invariant.left)

pub returns-in_err-paths-clause-blames : goal.returns-in_err-paths-clause-blames
returns-in_err-paths-clause-blames g c =
    let exit = err_from_is_err_and c.from_residual.result c.from_residual.ensures.1 in
    rw (exit.1, exit.2) (among_folders c.args.folders.now c.loop-folder.folder-index c.folder-item.result
    c.loop-folder-test.true c.folder-item.is _ c.in_err-paths.ensures.blames)

pub returns-in_err-paths-clause-misused : goal.returns-in_err-paths-clause-misused
returns-in_err-paths-clause-misused g c =
    let next = next_item c.args.folders.now c.loop-folder.folder-index c.folder-item.result
    c.loop-folder-test.true c.folder-item.is in
    c.loop-folder.invariant.misused _ (one_fits (λ (files : Tree) (folder : List ℕ). is_fit_folder folder files)
    c.folder-item.result (drop (c.loop-folder.folder-index + 1) c.args.folders.now) _ next _ _
    c.loop-folder.invariant.tree _ _ c.in_err-paths.ensures.misused)

pub returns-clause-reads : goal.returns-clause-reads
returns-clause-reads g c =
    all_found c.args.wanted (g.W.World.tree c.args.world.now) c.loop-folder.all _ c.args.folders.now
    (drop_all c.loop-folder.folder-index c.args.folders.now c.loop-folder-test.false)
    c.loop-folder.invariant.left

pub returns-clause-misused : goal.returns-clause-misused
returns-clause-misused g c = c.loop-folder.invariant.misused _
    (no_misuse (are_fit (drop c.loop-folder.folder-index c.args.folders.now)) (g.W.World.tree c.args.world.now)
    (g.W.World.misused c.loop-folder.world) _ refl)
