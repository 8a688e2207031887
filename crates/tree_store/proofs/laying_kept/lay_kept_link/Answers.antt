use Rattle.std.proofs.Common.{◌≡◌, ◌∙◌, ap, sym, false, true, []}
use Rattle.std.proofs.lemmas.Bool.{and_parts}
use Rattle.std.proofs.lemmas.Result.{err_from_is_err_and}
use Rattle.cnb_world.specs.Tree.{is_within}
use Rattle.tree_canon.specs.Names.{has_no_zero, is_target, is_text}
use Rattle.tree_canon.specs.declared.node.Node.TheVariants.{Link}
use Rattle.tree_store.specs.Laying.{node_laid}
use Rattle.tree_store.specs.Right.{way_to}
use Rattle.tree_store.proofs.Ahead.{does_called, lays_as, lays_behind, leaves_broken, leaves_laid, leaves_stop}
use Rattle.tree_store.proofs.Ahead.{leaves_then, lays_never, none_are, plain_path, reads_stop, told_plain}
use Rattle.tree_store.proofs.PartlyLaid.{link_partly}
use Rattle.tree_store.proofs.KeptPartly.{part_behind, partly_unread}
use Rattle.tree_store.proofs.Takes.{done_of, takes_link}
use Rattle.tree_store.proofs.laying_kept.lay_kept_link.Goals as goal

text_of : (target : _) → is_target target ≡ true → is_text 4096 target ≡ true
text_of target is = (and_parts (is_text 4096 target) (has_no_zero target) is).0

pub returns-in_err-target-clause-leaves : goal.returns-in_err-target-clause-leaves
returns-in_err-target-clause-leaves g c =
    let exit = err_from_is_err_and c.from_residual.result c.from_residual.ensures.1 in
    rw (exit.1, exit.2) (leaves_stop c.args.path.now _ _ _ _ _ (c.in_err-target.ensures.leaves c.args.path.now))

pub returns-in_err-target-clause-lays : goal.returns-in_err-target-clause-lays
returns-in_err-target-clause-lays g c = λ target rest is.
    let exit = err_from_is_err_and c.from_residual.result c.from_residual.ensures.1 in
    rw (exit.1, exit.2) (reads_stop (λ read. read ≡ target) (λ done. Unit {0})
    (c.in_err-target.ensures.reads target rest (way_to c.args.path.now) (text_of target is)))

pub returns-then-not-is_target-clause-leaves : goal.returns-then-not-is_target-clause-leaves
returns-then-not-is_target-clause-leaves g c = rw c.broken.ensures
    (leaves_broken c.args.path.now _ _ _ _ c.in_ok-target.target _ _ _
    (c.in_ok-target.ensures.leaves c.args.path.now))

pub returns-then-not-is_target-clause-lays : goal.returns-then-not-is_target-clause-lays
returns-then-not-is_target-clause-lays g c = λ target rest is.
    lays_behind (λ read. read ≡ target) (c.in_ok-target.ensures.reads target rest (way_to c.args.path.now)
    (text_of target is))
    (λ same. lays_never (let no : false ≡ true = c.if-not-is_target.ensures
    ∙ ap is_target (c.as_bytes.ensures.value ∙ c.as_str.ensures ∙ same) ∙ is in cc))

pub returns-clause-leaves : goal.returns-clause-leaves
returns-clause-leaves g c = leaves_then (c.in_ok-target.ensures.leaves c.args.path.now)
    (leaves_laid g.W.World c.args.path.now _ c.lay_link.result _ _ _
    (way_to c.args.path.now) c.lay_link.ensures.files c.or_blame.ensures.counts c.or_blame.ensures.blames
    c.lay_link.ensures.children c.lay_link.ensures.around
    (λ are. c.lay_link.ensures.right (told_plain _ c.args.path.now
    (plain_path c.args.path.now _ c.requires.apart)) are))

pub returns-clause-lays : goal.returns-clause-lays
returns-clause-lays g c = λ target rest is.
    lays_behind (λ read. read ≡ target) (c.in_ok-target.ensures.reads target rest (way_to c.args.path.now)
    (text_of target is))
    (λ same. lays_as (λ files. ap (λ t. node_laid (Link t) c.args.path.now files) (c.as_str-2.ensures ∙ same))
    (does_called c.args.path.now rest _ (node_laid (Link c.as_str-2.result.now) c.args.path.now)
    (way_to c.args.path.now) [] c.lay_link.result _ _ _
    (ap (is_within c.args.path.now) (c.in_ok-target.ensures.leaves c.args.path.now).stays ∙ c.requires.apart)
    c.lay_link.ensures.ok c.or_blame.ensures.ok c.or_blame.ensures.free c.lay_link.ensures.around
    (λ are. c.lay_link.ensures.right (told_plain _ c.args.path.now
    (plain_path c.args.path.now _ c.requires.apart)) are) (λ is are. none_are _)))

pub returns-in_err-target-clause-partly : goal.returns-in_err-target-clause-partly
returns-in_err-target-clause-partly g c = λ target rest is. record
    { so = λ ahead are. partly_unread _ _ _ _ (λ p. (c.in_err-target.ensures.leaves p).around.files) }

pub returns-then-not-is_target-clause-partly : goal.returns-then-not-is_target-clause-partly
returns-then-not-is_target-clause-partly g c = λ target rest is. record
    { so = λ ahead are. partly_unread _ _ _ _ (λ p. (c.in_ok-target.ensures.leaves p).around.files) }

pub returns-clause-partly : goal.returns-clause-partly
returns-clause-partly g c = λ target rest is.
    part_behind (λ read. read ≡ target) (c.in_ok-target.ensures.reads target rest (way_to c.args.path.now)
    (text_of target is))
    (λ same. record {
      so = λ ahead are. link_partly (Link target) c.args.path.now _ _ _
          (ap Link (sym (c.as_str-2.ensures ∙ same))) c.lay_link.ensures.partly;
    })

pub returns-clause-takes : goal.returns-clause-takes
returns-clause-takes g c = done_of _ _ c.lay_link.result c.or_blame.result c.or_blame.ensures.ok
    (takes_link c.args.path.now c.in_ok-target.target _ _ _ _ _ _
    (ap is_target (sym (c.as_bytes.ensures.value ∙ c.as_str.ensures)) ∙ sym c.if-not-is_target.ensures)
    c.in_ok-target.ensures.takes c.as_str-2.ensures) c.lay_link.ensures.ok
