use Rattle.std.proofs.Common.{◌∙◌, ap, map, string_bytes}
use Rattle.cnb_words.specs.Options.{value_of}
use Rattle.cnb_words.specs.Reading.{dashed, given_by}
use Rattle.cnb_words.proofs.RowLemmas.{value_found}
use Rattle.cnb_words.proofs.options.Options.value_of.Goals as goal

pub returns : goal.returns
returns c =
    value_found c.self.inside.matches (given_by (map string_bytes c.self.inside.words.now)) c.args.name.now
    c.get_str.result c.self.invariant c.get_str.ensures
    ∙ ap (value_of (dashed c.args.name.now)) c.self.view_is
