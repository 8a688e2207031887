use Rattle.std.proofs.Common.{rules, ◌≡◌, ◌<◌, ◌+◌, refl, ap, arith, [], ◌++◌, length, Ok, Err}
use Rattle.std.proofs.lemmas.Result.{err_from_is_err_and}
use Rattle.tree_canon.specs.Spelling.{node_bytes}
use Rattle.tree_store.specs.Laying.{folder_laid, laid_under}
use Rattle.tree_store.specs.Overlay.{way_parts}
use Rattle.tree_store.specs.Right.{way_into, way_to}
use Rattle.tree_store.proofs.Ahead.{apart_child, does_called, does_memory, lays_as, lays_from, lays_on, lays_stop}
use Rattle.tree_store.proofs.Ahead.{leaves_laid, leaves_short, leaves_then, leaves_wider}
use Rattle.tree_store.proofs.Right.{inside_laid, part_way}
use Rattle.tree_store.proofs.Stored.{same_last, same_part}
use Rattle.tree_store.proofs.Ways.{joined_short, last_part, part_ahead, parts_behind, when_ok}
use Rattle.tree_store.proofs.PartlyLaid.{way_begun, way_partly}
use Rattle.tree_store.proofs.KeptPartly.{part_after, part_from}
use Rattle.tree_store.proofs.Takes.{done_then, takes_below}
use Rattle.tree_store.proofs.laying_kept.+lay_kept_under.Goals as goal

pub returns-in_err-or_blame-clause-leaves : goal.returns-in_err-or_blame-clause-leaves
returns-in_err-or_blame-clause-leaves g t c =
    let exit = err_from_is_err_and c.from_residual.result c.from_residual.ensures.1 in
    rw (exit.1, exit.2) (leaves_laid g.W.World c.args.folder.now _ c.lay_folder.result (Err _) _ _
    (way_to c.args.folder.now) c.lay_folder.ensures.files c.in_err-or_blame.ensures.counts
    c.in_err-or_blame.ensures.blames c.lay_folder.ensures.children c.lay_folder.ensures.around
    c.lay_folder.ensures.right)

pub returns-in_err-or_blame-clause-lays : goal.returns-in_err-or_blame-clause-lays
returns-in_err-or_blame-clause-lays g t c = λ node rest fit.
    let exit = err_from_is_err_and c.from_residual.result c.from_residual.ensures.1 in
    rw (exit.1, exit.2) (lays_stop (does_called c.args.folder.now (node_bytes node ++ rest) _
    (folder_laid c.args.folder.now) (way_to c.args.folder.now)
    (way_into c.args.folder.now) c.lay_folder.result (Err _) _ _
    c.requires.1.1.1.1.0 c.lay_folder.ensures.ok tt c.in_err-or_blame.ensures.free c.lay_folder.ensures.around
    c.lay_folder.ensures.right (λ is are. inside_laid c.args.folder.now _ _ is
    c.lay_folder.ensures.around.files are)))

pub returns-in_err-path-in-Some-clause-leaves : goal.returns-in_err-path-in-Some-clause-leaves
returns-in_err-path-in-Some-clause-leaves g t c =
    let exit = err_from_is_err_and c.from_residual-in_err-path-in-Some.result
    c.from_residual-in_err-path-in-Some.ensures.1 in
    rw (exit.1, exit.2) (leaves_short c.args.folder.now _ _ _ _ _
    (leaves_laid g.W.World c.args.folder.now _ c.lay_folder.result (Ok tt) _ _
    (way_to c.args.folder.now) c.lay_folder.ensures.files c.in_ok-or_blame.ensures.counts tt
    c.lay_folder.ensures.children c.lay_folder.ensures.around c.lay_folder.ensures.right))

pub returns-in_err-path-in-None-clause-leaves : goal.returns-in_err-path-in-None-clause-leaves
returns-in_err-path-in-None-clause-leaves g t c =
    let exit = err_from_is_err_and c.from_residual-in_err-path-in-None.result
    c.from_residual-in_err-path-in-None.ensures.1 in
    rw (exit.1, exit.2) (leaves_short c.args.folder.now _ _ _ _ _
    (leaves_laid g.W.World c.args.folder.now _ c.lay_folder.result (Ok tt) _ _
    (way_to c.args.folder.now) c.lay_folder.ensures.files c.in_ok-or_blame.ensures.counts tt
    c.lay_folder.ensures.children c.lay_folder.ensures.around c.lay_folder.ensures.right))

pub returns-in_err-path-in-Some-clause-lays : goal.returns-in_err-path-in-Some-clause-lays
returns-in_err-path-in-Some-clause-lays g t c = λ node rest fit.
    let exit = err_from_is_err_and c.from_residual-in_err-path-in-Some.result
    c.from_residual-in_err-path-in-Some.ensures.1 in
    rw (exit.1, exit.2) (lays_stop (lays_on (does_called c.args.folder.now
    (node_bytes node ++ rest) _ (folder_laid c.args.folder.now) (way_to c.args.folder.now)
    (way_into c.args.folder.now) c.lay_folder.result (Ok tt) _ _
    c.requires.1.1.1.1.0 c.lay_folder.ensures.ok c.in_ok-or_blame.ensures.ok tt c.lay_folder.ensures.around
    c.lay_folder.ensures.right (λ is are. inside_laid c.args.folder.now _ _ is
    c.lay_folder.ensures.around.files are))
    (does_memory (λ done. Unit {0}) (node_bytes node ++ rest) rest (λ files. files)
    (way_into c.args.folder.now) [] _ _)))

pub returns-in_err-path-in-None-clause-lays : goal.returns-in_err-path-in-None-clause-lays
returns-in_err-path-in-None-clause-lays g t c = λ node rest fit.
    let exit = err_from_is_err_and c.from_residual-in_err-path-in-None.result
    c.from_residual-in_err-path-in-None.ensures.1 in
    rw (exit.1, exit.2) (lays_stop (lays_on (does_called c.args.folder.now
    (node_bytes node ++ rest) _ (folder_laid c.args.folder.now) (way_to c.args.folder.now)
    (way_into c.args.folder.now) c.lay_folder.result (Ok tt) _ _
    c.requires.1.1.1.1.0 c.lay_folder.ensures.ok c.in_ok-or_blame.ensures.ok tt c.lay_folder.ensures.around
    c.lay_folder.ensures.right (λ is are. inside_laid c.args.folder.now _ _ is
    c.lay_folder.ensures.around.files are))
    (does_memory (λ done. Unit {0}) (node_bytes node ++ rest) rest (λ files. files)
    (way_into c.args.folder.now) [] _ _)))

pub lay_kept_under-requires : goal.lay_kept_under-requires
lay_kept_under-requires g t c κs within =
    let cut : length c.in-Some.part.now + (1 + length c.in-Some.rest.now)
    ≡ length c.args.way.now = c.in-Some.ensures.lengths in
    let less : length c.in-Some.rest.now < length c.args.way.now = omega arith in (
      search (rules, less),
      (
        within.0,
        (
          within.1,
          (
            apart_child c.args.folder.now c.in-Some.part.now _ _ _
                c.in_ok-path-in-Some.ensures.0 (part_ahead c.args.way.now c.in-Some.part.now c.in-Some.rest.now
                c.in-Some.ensures.parts c.requires.1.1.1.1.1.0) refl c.requires.1.1.1.1.0,
            (
              parts_behind c.args.way.now c.in-Some.part.now c.in-Some.rest.now c.in-Some.ensures.parts
                  c.requires.1.1.1.1.1.0,
              omega (
                arith,
                cut,
                c.requires.1.1.1.1.1.1,
                ap length
                    c.in_ok-path-in-Some.ensures.0,
                joined_short c.args.folder.now c.in-Some.part.now,
              ),
            ),
          ),
        ),
      ),
    )

pub lay_kept_node-requires : goal.lay_kept_node-requires
lay_kept_node-requires g t c = record {
  apart = apart_child c.args.folder.now c.args.way.now _ _ _ c.in_ok-path-in-None.ensures.0
      (last_part c.args.way.now c.in-None.ensures.parts c.requires.1.1.1.1.1.0) refl c.requires.1.1.1.1.0;
  deep = omega arith;
  short = omega (
    arith,
    c.requires.1.1.1.1.1.1,
    ap length c.in_ok-path-in-None.ensures.0,
    joined_short
        c.args.folder.now c.args.way.now,
  );
}

pub returns-in_ok-path-in-Some-clause-leaves : goal.returns-in_ok-path-in-Some-clause-leaves
returns-in_ok-path-in-Some-clause-leaves g t c = leaves_then
    (leaves_laid g.W.World c.args.folder.now _ c.lay_folder.result (Ok tt) _ _
    (way_to c.args.folder.now) c.lay_folder.ensures.files c.in_ok-or_blame.ensures.counts tt
    c.lay_folder.ensures.children c.lay_folder.ensures.around c.lay_folder.ensures.right)
    (leaves_wider c.args.folder.now c.in-Some.part.now _ _ _ _ _ _ c.in_ok-path-in-Some.ensures.0
    (part_ahead c.args.way.now c.in-Some.part.now c.in-Some.rest.now c.in-Some.ensures.parts
    c.requires.1.1.1.1.1.0) c.lay_kept_under.ensures.leaves)

pub returns-in_ok-path-in-None-clause-leaves : goal.returns-in_ok-path-in-None-clause-leaves
returns-in_ok-path-in-None-clause-leaves g t c = leaves_then
    (leaves_laid g.W.World c.args.folder.now _ c.lay_folder.result (Ok tt) _ _
    (way_to c.args.folder.now) c.lay_folder.ensures.files c.in_ok-or_blame.ensures.counts tt
    c.lay_folder.ensures.children c.lay_folder.ensures.around c.lay_folder.ensures.right)
    (leaves_wider c.args.folder.now c.args.way.now _ _ _ _ _ _ c.in_ok-path-in-None.ensures.0
    (last_part c.args.way.now c.in-None.ensures.parts c.requires.1.1.1.1.1.0) c.lay_kept_node.ensures.leaves)

pub returns-in_ok-path-in-Some-clause-lays : goal.returns-in_ok-path-in-Some-clause-lays
returns-in_ok-path-in-Some-clause-lays g t c = λ node rest fit.
    lays_as (λ files. same_part node c.args.way.now c.in-Some.part.now c.in-Some.rest.now c.args.folder.now _
    files c.in-Some.ensures.parts c.in_ok-path-in-Some.ensures.0)
    (lays_on (does_called c.args.folder.now (node_bytes node ++ rest) _
    (folder_laid c.args.folder.now) (way_to c.args.folder.now)
    (way_into c.args.folder.now) c.lay_folder.result (Ok tt) _ _
    c.requires.1.1.1.1.0 c.lay_folder.ensures.ok c.in_ok-or_blame.ensures.ok tt c.lay_folder.ensures.around
    c.lay_folder.ensures.right (λ is are. inside_laid c.args.folder.now _ _ is
    c.lay_folder.ensures.around.files are))
    (lays_from (λ are. part_way c.args.folder.now c.in-Some.part.now _ _ c.in_ok-path-in-Some.ensures.0
    c.as_str-folder.ensures.is_path (part_ahead c.args.way.now c.in-Some.part.now c.in-Some.rest.now
    c.in-Some.ensures.parts c.requires.1.1.1.1.1.0) are) (c.lay_kept_under.ensures.lays node rest fit)))

pub returns-in_ok-path-in-None-clause-lays : goal.returns-in_ok-path-in-None-clause-lays
returns-in_ok-path-in-None-clause-lays g t c = λ node rest fit.
    lays_as (λ files. same_last node c.args.way.now c.args.folder.now _ files c.in-None.ensures.parts
    c.in_ok-path-in-None.ensures.0)
    (lays_on (does_called c.args.folder.now (node_bytes node ++ rest) _
    (folder_laid c.args.folder.now) (way_to c.args.folder.now)
    (way_into c.args.folder.now) c.lay_folder.result (Ok tt) _ _
    c.requires.1.1.1.1.0 c.lay_folder.ensures.ok c.in_ok-or_blame.ensures.ok tt c.lay_folder.ensures.around
    c.lay_folder.ensures.right (λ is are. inside_laid c.args.folder.now _ _ is
    c.lay_folder.ensures.around.files are))
    (lays_from (λ are. part_way c.args.folder.now c.args.way.now _ _ c.in_ok-path-in-None.ensures.0
    c.as_str-folder.ensures.is_path (last_part c.args.way.now c.in-None.ensures.parts c.requires.1.1.1.1.1.0)
    are) (c.lay_kept_node.ensures.lays node rest fit)))

pub returns-in_err-or_blame-clause-partly : goal.returns-in_err-or_blame-clause-partly
returns-in_err-or_blame-clause-partly g t c = λ node rest fit. record
    { so = λ ahead are. way_begun node c.args.way.now c.args.folder.now _ _ c.lay_folder.ensures.partly }

pub returns-in_err-path-in-Some-clause-partly : goal.returns-in_err-path-in-Some-clause-partly
returns-in_err-path-in-Some-clause-partly g t c = λ node rest fit. record
    { so = λ ahead are. way_begun node c.args.way.now c.args.folder.now _ _ c.lay_folder.ensures.partly }

pub returns-in_err-path-in-None-clause-partly : goal.returns-in_err-path-in-None-clause-partly
returns-in_err-path-in-None-clause-partly g t c = λ node rest fit. record
    { so = λ ahead are. way_begun node c.args.way.now c.args.folder.now _ _ c.lay_folder.ensures.partly }

pub returns-in_ok-path-in-Some-clause-partly : goal.returns-in_ok-path-in-Some-clause-partly
returns-in_ok-path-in-Some-clause-partly g t c = λ node rest fit.
    part_after (does_called c.args.folder.now (node_bytes node ++ rest) _
    (folder_laid c.args.folder.now) (way_to c.args.folder.now)
    (way_into c.args.folder.now) c.lay_folder.result (Ok tt) _ _
    c.requires.1.1.1.1.0 c.lay_folder.ensures.ok c.in_ok-or_blame.ensures.ok tt c.lay_folder.ensures.around
    c.lay_folder.ensures.right (λ is are. inside_laid c.args.folder.now _ _ is
    c.lay_folder.ensures.around.files are))
    (part_from (λ are. part_way c.args.folder.now c.in-Some.part.now _ _ c.in_ok-path-in-Some.ensures.0
    c.as_str-folder.ensures.is_path (part_ahead c.args.way.now c.in-Some.part.now c.in-Some.rest.now
    c.in-Some.ensures.parts c.requires.1.1.1.1.1.0) are) (c.lay_kept_under.ensures.partly node rest fit))
    (λ h. way_partly node _ _ c.args.folder.now c.in-Some.part.now _ _ _ _ c.in-Some.ensures.parts
    c.in_ok-path-in-Some.ensures.0 (part_ahead c.args.way.now c.in-Some.part.now c.in-Some.rest.now
    c.in-Some.ensures.parts c.requires.1.1.1.1.1.0) c.lay_folder.ensures.partly
    c.lay_kept_under.ensures.leaves.around.files h)

pub returns-in_ok-path-in-None-clause-partly : goal.returns-in_ok-path-in-None-clause-partly
returns-in_ok-path-in-None-clause-partly g t c = λ node rest fit.
    part_after (does_called c.args.folder.now (node_bytes node ++ rest) _
    (folder_laid c.args.folder.now) (way_to c.args.folder.now)
    (way_into c.args.folder.now) c.lay_folder.result (Ok tt) _ _
    c.requires.1.1.1.1.0 c.lay_folder.ensures.ok c.in_ok-or_blame.ensures.ok tt c.lay_folder.ensures.around
    c.lay_folder.ensures.right (λ is are. inside_laid c.args.folder.now _ _ is
    c.lay_folder.ensures.around.files are))
    (part_from (λ are. part_way c.args.folder.now c.args.way.now _ _ c.in_ok-path-in-None.ensures.0
    c.as_str-folder.ensures.is_path (last_part c.args.way.now c.in-None.ensures.parts c.requires.1.1.1.1.1.0)
    are) (c.lay_kept_node.ensures.partly node rest fit))
    (λ h. way_partly node _ [] c.args.folder.now c.args.way.now _ _ _ _ c.in-None.ensures.parts
    c.in_ok-path-in-None.ensures.0 (last_part c.args.way.now c.in-None.ensures.parts c.requires.1.1.1.1.1.0)
    c.lay_folder.ensures.partly c.lay_kept_node.ensures.leaves.around.files h)

pub returns-in_ok-path-in-Some-clause-takes : goal.returns-in_ok-path-in-Some-clause-takes
returns-in_ok-path-in-Some-clause-takes g t c = done_then _ _ c.lay_kept_under.result
    (takes_below c.args.folder.now 0 _ (λ node. laid_under node (way_parts c.args.way.now) c.args.folder.now)
    _ _ _ _ _ (when_ok c.lay_folder.result c.in_ok-or_blame.ensures.ok c.lay_folder.ensures.ok)
    (λ node files. same_part node c.args.way.now c.in-Some.part.now c.in-Some.rest.now c.args.folder.now _
    files c.in-Some.ensures.parts c.in_ok-path-in-Some.ensures.0)) c.lay_kept_under.ensures.takes

pub returns-in_ok-path-in-None-clause-takes : goal.returns-in_ok-path-in-None-clause-takes
returns-in_ok-path-in-None-clause-takes g t c = done_then _ _ c.lay_kept_node.result
    (takes_below c.args.folder.now 0 _ (λ node. laid_under node (way_parts c.args.way.now) c.args.folder.now)
    _ _ _ _ _ (when_ok c.lay_folder.result c.in_ok-or_blame.ensures.ok c.lay_folder.ensures.ok)
    (λ node files. same_last node c.args.way.now c.args.folder.now _ files c.in-None.ensures.parts
    c.in_ok-path-in-None.ensures.0)) c.lay_kept_node.ensures.takes
