use Rattle.std.proofs.Common.{◌≡◌, ◌∙◌, ap, sym, Err, None, Some}
use Rattle.std.specs.Prelude.{is_some}
use Rattle.tree_store.proofs.Ahead.{piece_held, piece_short}
use Rattle.tree_store.proofs.Shelves.{entry_at, held_failed, held_given, held_short}
use Rattle.tree_store.proofs.held_tree.HeldTreeOrigin.piece.Goals as goal

pub returns-then-self-len : goal.returns-then-self-len
returns-then-self-len g c = piece_short _ _ _ _

pub returns-in-Ok-Some : goal.returns-in-Ok-Some
returns-in-Ok-Some g c =
    let read = c.read_numbered.ensures in
    piece_held _ _ c.args.digest.now c.args.at _ _ (ap is_some (entry_at _ _ read.0 read.1 _ read.2))
    (held_given _ _ c.args.self.now.number c.args.self.now.failed c.args.digest.now c.args.at read.0 read.1 _
    c.in-Ok-Some.field-0 c.in-Ok-Some.piece read.2 read.3 c.in-Ok-Some.is
    (λ bytes is. let same : Some c.in-Ok-Some.piece ≡ Some bytes = sym c.in-Ok-Some.field-0-is ∙ is in cc))

pub returns-in-Ok-None : goal.returns-in-Ok-None
returns-in-Ok-None g c =
    let read = c.read_numbered.ensures in
    piece_held _ _ c.args.digest.now c.args.at _ _ (ap is_some (entry_at _ _ read.0 read.1 _ read.2))
    (held_given _ _ c.args.self.now.number c.args.self.now.failed c.args.digest.now c.args.at read.0 read.1 _
    c.in-Ok-None.field-0 _ read.2 read.3 c.in-Ok-None.is
    (λ bytes is. absurd (let no : None ≡ Some bytes = sym c.in-Ok-None.field-0-is ∙ is in cc)))

pub returns-in-Err-Failed : goal.returns-in-Err-Failed
returns-in-Err-Failed g c =
    let read = c.read_numbered.ensures in
    piece_held _ _ c.args.digest.now c.args.at _ _ (ap is_some (entry_at _ _ read.0 read.1 _ read.2))
    (held_failed _ _ c.args.self.now.number c.args.self.now.failed c.args.digest.now c.args.at read.0 read.1 _
    read.2 read.3 (c.in-Err-Failed.is ∙ ap Err c.in-Err-Failed.field-0-is))

pub returns-in-Err-Memory : goal.returns-in-Err-Memory
returns-in-Err-Memory g c =
    let read = c.read_numbered.ensures in
    piece_held _ _ c.args.digest.now c.args.at _ _ (ap is_some (entry_at _ _ read.0 read.1 _ read.2))
    (held_short _ _ c.args.self.now.number c.args.self.now.failed c.args.digest.now c.args.at read.0 read.1 _
    read.2 read.3 (c.in-Err-Memory.is ∙ ap Err c.in-Err-Memory.field-0-is))
