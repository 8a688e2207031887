use Rattle.std.proofs.Common.{rules, ◌≡◌, ◌∙◌, ◌+◌, ◌<◌, ap, arith, length}
use Rattle.tree_store.proofs.Around.{onward, part_within}
use Rattle.tree_store.proofs.Right.{inside_laid, part_placed, part_way}
use Rattle.tree_store.proofs.Ways.{joined_short, last_part, part_ahead, parts_behind, when_ok}
use Rattle.tree_store.proofs.PartlyLaid.{way_begun, way_partly}
use Rattle.tree_store.proofs.laying.+lay_under.Goals as goal

pub lay_under-requires : goal.lay_under-requires
lay_under-requires g t c κs within =
    let cut : length c.in-Some.part.now + (1 + length c.in-Some.rest.now)
    ≡ length c.args.way.now = c.in-Some.ensures.lengths in
    let less : length c.in-Some.rest.now < length c.args.way.now = omega arith in (
      search (rules, less),
      (
        within,
        (
          parts_behind c.args.way.now c.in-Some.part.now c.in-Some.rest.now
              c.in-Some.ensures.parts c.requires.1.1.1.0,
          (
            c.requires.1.1.1.1.0,
            omega (
              arith,
              cut,
              c.requires.1.1.1.1.1,
              ap length c.in_ok-path-in-Some.ensures.0,
              joined_short
                  c.args.folder.now c.in-Some.part.now,
            ),
          ),
        ),
      ),
    )

pub returns-in_err-lay_under-in-Some-clause-around : goal.returns-in_err-lay_under-in-Some-clause-around
returns-in_err-lay_under-in-Some-clause-around g t c = onward _ _ _ _ c.lay_folder.ensures.around
    (part_within _ _ _ _ _ c.in_ok-path-in-Some.ensures.0
    (part_ahead c.args.way.now c.in-Some.part.now c.in-Some.rest.now c.in-Some.ensures.parts c.requires.1.1.1.0)
    c.lay_under.ensures.around)

pub returns-in_ok-lay_under-in-Some-clause-around : goal.returns-in_ok-lay_under-in-Some-clause-around
returns-in_ok-lay_under-in-Some-clause-around g t c = onward _ _ _ _ c.lay_folder.ensures.around
    (part_within _ _ _ _ _ c.in_ok-path-in-Some.ensures.0
    (part_ahead c.args.way.now c.in-Some.part.now c.in-Some.rest.now c.in-Some.ensures.parts c.requires.1.1.1.0)
    c.lay_under.ensures.around)

pub returns-in_err-lay_node-in-None-clause-around : goal.returns-in_err-lay_node-in-None-clause-around
returns-in_err-lay_node-in-None-clause-around g t c = onward _ _ _ _ c.lay_folder.ensures.around
    (part_within _ _ _ _ _ c.in_ok-path-in-None.ensures.0
    (last_part c.args.way.now c.in-None.ensures.parts c.requires.1.1.1.0) c.lay_node.ensures.around)

pub returns-in_ok-lay_node-in-None-clause-around : goal.returns-in_ok-lay_node-in-None-clause-around
returns-in_ok-lay_node-in-None-clause-around g t c = onward _ _ _ _ c.lay_folder.ensures.around
    (part_within _ _ _ _ _ c.in_ok-path-in-None.ensures.0
    (last_part c.args.way.now c.in-None.ensures.parts c.requires.1.1.1.0) c.lay_node.ensures.around)

pub returns-in_err-or_blame-clause-right : goal.returns-in_err-or_blame-clause-right
returns-in_err-or_blame-clause-right g t c = λ all. c.lay_folder.ensures.right all

pub returns-in_err-path-in-Some-clause-right : goal.returns-in_err-path-in-Some-clause-right
returns-in_err-path-in-Some-clause-right g t c = λ all. c.lay_folder.ensures.right all

pub returns-in_err-path-in-None-clause-right : goal.returns-in_err-path-in-None-clause-right
returns-in_err-path-in-None-clause-right g t c = λ all. c.lay_folder.ensures.right all

pub returns-in_err-lay_under-in-Some-clause-right : goal.returns-in_err-lay_under-in-Some-clause-right
returns-in_err-lay_under-in-Some-clause-right g t c = λ all. c.lay_under.ensures.right
    (part_way c.args.folder.now c.in-Some.part.now _ (g.W.World.tree c.lay_folder.new.world)
    c.in_ok-path-in-Some.ensures.0 c.as_str-folder.ensures.is_path
    (part_ahead c.args.way.now c.in-Some.part.now c.in-Some.rest.now c.in-Some.ensures.parts c.requires.1.1.1.0)
    (inside_laid c.args.folder.now (g.W.World.tree c.args.world.now) (g.W.World.tree c.lay_folder.new.world)
    (when_ok c.lay_folder.result c.in_ok-or_blame.ensures.ok c.lay_folder.ensures.ok)
    c.lay_folder.ensures.around.files all)) ∙ c.lay_folder.ensures.right all

pub returns-in_ok-lay_under-in-Some-clause-right : goal.returns-in_ok-lay_under-in-Some-clause-right
returns-in_ok-lay_under-in-Some-clause-right g t c = λ all. c.lay_under.ensures.right
    (part_way c.args.folder.now c.in-Some.part.now _ (g.W.World.tree c.lay_folder.new.world)
    c.in_ok-path-in-Some.ensures.0 c.as_str-folder.ensures.is_path
    (part_ahead c.args.way.now c.in-Some.part.now c.in-Some.rest.now c.in-Some.ensures.parts c.requires.1.1.1.0)
    (inside_laid c.args.folder.now (g.W.World.tree c.args.world.now) (g.W.World.tree c.lay_folder.new.world)
    (when_ok c.lay_folder.result c.in_ok-or_blame.ensures.ok c.lay_folder.ensures.ok)
    c.lay_folder.ensures.around.files all)) ∙ c.lay_folder.ensures.right all

pub returns-in_err-lay_node-in-None-clause-right : goal.returns-in_err-lay_node-in-None-clause-right
returns-in_err-lay_node-in-None-clause-right g t c = λ all. c.lay_node.ensures.right
    (part_placed c.args.folder.now c.args.way.now _ (g.W.World.tree c.lay_folder.new.world) c.args.node.now
    c.in_ok-path-in-None.ensures.0 (last_part c.args.way.now c.in-None.ensures.parts c.requires.1.1.1.0))
    (part_way c.args.folder.now c.args.way.now _ (g.W.World.tree c.lay_folder.new.world)
    c.in_ok-path-in-None.ensures.0 c.as_str-folder.ensures.is_path
    (last_part c.args.way.now c.in-None.ensures.parts c.requires.1.1.1.0)
    (inside_laid c.args.folder.now (g.W.World.tree c.args.world.now) (g.W.World.tree c.lay_folder.new.world)
    (when_ok c.lay_folder.result c.in_ok-or_blame.ensures.ok c.lay_folder.ensures.ok)
    c.lay_folder.ensures.around.files all)) ∙ c.lay_folder.ensures.right all

pub returns-in_ok-lay_node-in-None-clause-right : goal.returns-in_ok-lay_node-in-None-clause-right
returns-in_ok-lay_node-in-None-clause-right g t c = λ all. c.lay_node.ensures.right
    (part_placed c.args.folder.now c.args.way.now _ (g.W.World.tree c.lay_folder.new.world) c.args.node.now
    c.in_ok-path-in-None.ensures.0 (last_part c.args.way.now c.in-None.ensures.parts c.requires.1.1.1.0))
    (part_way c.args.folder.now c.args.way.now _ (g.W.World.tree c.lay_folder.new.world)
    c.in_ok-path-in-None.ensures.0 c.as_str-folder.ensures.is_path
    (last_part c.args.way.now c.in-None.ensures.parts c.requires.1.1.1.0)
    (inside_laid c.args.folder.now (g.W.World.tree c.args.world.now) (g.W.World.tree c.lay_folder.new.world)
    (when_ok c.lay_folder.result c.in_ok-or_blame.ensures.ok c.lay_folder.ensures.ok)
    c.lay_folder.ensures.around.files all)) ∙ c.lay_folder.ensures.right all

pub returns-in_err-or_blame-clause-partly : goal.returns-in_err-or_blame-clause-partly
returns-in_err-or_blame-clause-partly g t c = way_begun c.args.node.now c.args.way.now c.args.folder.now _ _
    c.lay_folder.ensures.partly

pub returns-in_err-path-in-Some-clause-partly : goal.returns-in_err-path-in-Some-clause-partly
returns-in_err-path-in-Some-clause-partly g t c = way_begun c.args.node.now c.args.way.now c.args.folder.now _ _
    c.lay_folder.ensures.partly

pub returns-in_err-path-in-None-clause-partly : goal.returns-in_err-path-in-None-clause-partly
returns-in_err-path-in-None-clause-partly g t c = way_begun c.args.node.now c.args.way.now c.args.folder.now _ _
    c.lay_folder.ensures.partly

pub returns-in_err-lay_under-in-Some-clause-partly : goal.returns-in_err-lay_under-in-Some-clause-partly
returns-in_err-lay_under-in-Some-clause-partly g t c = way_partly c.args.node.now _ _ c.args.folder.now
    c.in-Some.part.now _ _ _ _ c.in-Some.ensures.parts c.in_ok-path-in-Some.ensures.0
    (part_ahead c.args.way.now c.in-Some.part.now c.in-Some.rest.now c.in-Some.ensures.parts c.requires.1.1.1.0)
    c.lay_folder.ensures.partly c.lay_under.ensures.around.files c.lay_under.ensures.partly

pub returns-in_ok-lay_under-in-Some-clause-partly : goal.returns-in_ok-lay_under-in-Some-clause-partly
returns-in_ok-lay_under-in-Some-clause-partly g t c = way_partly c.args.node.now _ _ c.args.folder.now
    c.in-Some.part.now _ _ _ _ c.in-Some.ensures.parts c.in_ok-path-in-Some.ensures.0
    (part_ahead c.args.way.now c.in-Some.part.now c.in-Some.rest.now c.in-Some.ensures.parts c.requires.1.1.1.0)
    c.lay_folder.ensures.partly c.lay_under.ensures.around.files c.lay_under.ensures.partly

pub returns-in_err-lay_node-in-None-clause-partly : goal.returns-in_err-lay_node-in-None-clause-partly
returns-in_err-lay_node-in-None-clause-partly g t c = way_partly c.args.node.now _ _ c.args.folder.now
    c.args.way.now _ _ _ _ c.in-None.ensures.parts c.in_ok-path-in-None.ensures.0
    (last_part c.args.way.now c.in-None.ensures.parts c.requires.1.1.1.0) c.lay_folder.ensures.partly
    c.lay_node.ensures.around.files c.lay_node.ensures.partly

pub returns-in_ok-lay_node-in-None-clause-partly : goal.returns-in_ok-lay_node-in-None-clause-partly
returns-in_ok-lay_node-in-None-clause-partly g t c = way_partly c.args.node.now _ _ c.args.folder.now
    c.args.way.now _ _ _ _ c.in-None.ensures.parts c.in_ok-path-in-None.ensures.0
    (last_part c.args.way.now c.in-None.ensures.parts c.requires.1.1.1.0) c.lay_folder.ensures.partly
    c.lay_node.ensures.around.files c.lay_node.ensures.partly
