use Rattle.std.proofs.Common.{◌≡◌, ◌∙◌, sym, ap, arith, length, reverse, None}
use Rattle.tree_canon.specs.Scanning.{reason_at}
use Rattle.tree_canon.proofs.Scans.{fresh_part}
use Rattle.tree_canon.proofs.Held.{small_moved}
use Rattle.tree_canon.proofs.scanner.Scanner.take_field.Goals as goal

pub returns-clause-partial : goal.returns-clause-partial
returns-clause-partial c =
    let old = c.args.self.now in
    let none : reason_at c.len-depth.result old.at old.next c.args.field.now ≡ None = sym c.reason_of.ensures
    ∙ c.in_default.is in
    fresh_part c.len-depth.result old.at (reverse old.folders.items)
    (reverse c.advance.new.folders.items) old.next c.advance.new.next c.args.field.now _ none
    c.in_ok-self.ensures.place c.requires.empty

pub returns-clause-small : goal.returns-clause-small
returns-clause-small c =
    let old = c.args.self.now in
    let none : reason_at c.len-depth.result old.at old.next c.args.field.now ≡ None = sym c.reason_of.ensures
    ∙ c.in_default.is in
    record {
      place = small_moved c.len-depth.result old.at old.folders.items
          (reverse c.advance.new.folders.items) old.next c.advance.new.next c.args.field.now
          (omega (arith, c.len-depth.ensures)) c.requires.small c.requires.whole none c.in_ok-self.ensures.place;
      part = omega (arith, ap length c.requires.empty);
    }
