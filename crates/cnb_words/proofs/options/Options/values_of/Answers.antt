use Rattle.std.proofs.Common.{◌∙◌, ap, map, option_map, string_bytes}
use Rattle.cnb_words.specs.Reading.{dashed, given_by, texts_of}
use Rattle.cnb_words.proofs.RowLemmas.{values_found}
use Rattle.cnb_words.proofs.options.Options.values_of.Goals as goal

pub returns : goal.returns
returns c =
    values_found c.self.inside.matches (given_by (map string_bytes c.self.inside.words.now)) c.args.name.now
    (option_map (λ s. map (λ v. v.now) s.now) c.get_strs.result) c.self.invariant c.get_strs.ensures
    ∙ ap (texts_of (dashed c.args.name.now)) c.self.view_is
