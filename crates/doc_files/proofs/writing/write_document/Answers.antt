use Rattle.std.proofs.Common.{◌∙◌, sym, ap, subst, IsTrue, arith}
use Rattle.cnb_world.specs.Path.{is_path, beside}
use Rattle.cnb_world.specs.Tree.{is_root}
use Rattle.cnb_world.proofs.Joins.{path_beside_file}
use Rattle.cnb_world.proofs.Lengths.{length_joined}
use Rattle.doc_files.proofs.Written.{no_root_below, longer}
use Rattle.doc_files.proofs.writing.write_document.Goals as goal

pub below-requires-clause-short : goal.below-requires-clause-short
below-requires-clause-short g c = let few = c.requires.short_name in let short = c.requires.short
    in omega (arith, length_joined c.args.folder.now c.args.name.now)

pub write_whole-requires-clause-beside : goal.write_whole-requires-clause-beside
write_whole-requires-clause-beside g c =
    let few = c.requires.short_name in
    let short = c.requires.short in
    subst (λ p. IsTrue (is_path (beside p))) (sym c.in-Ok.ensures.0)
    (path_beside_file c.args.folder.now c.args.name.now c.as_str-folder.ensures.is_path c.requires.beside
    (omega (arith, length_joined c.args.folder.now (beside c.args.name.now), longer c.args.name.now)))

pub write_whole-requires-clause-not_root : goal.write_whole-requires-clause-not_root
write_whole-requires-clause-not_root g c = ap is_root c.in-Ok.ensures.0
    ∙ no_root_below c.args.folder.now c.args.name.now c.requires.long
