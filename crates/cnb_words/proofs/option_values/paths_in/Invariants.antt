use Rattle.std.proofs.Common.{◌≤◌, All, drop, length, map}
use Rattle.cnb_words.specs.Reading.{paths_in}
use Rattle.cnb_words.proofs.PathLemmas.{LeavesPaths}
use Rattle.cnb_words.proofs.option_values.paths_in.Given as goal

abbrev pub invariant-loop-text : goal.invariant-loop-text
invariant-loop-text l = record {
  leaves : LeavesPaths l.paths (map (λ text. text.now) (drop l.text-index l.texts))
      (paths_in (map (λ text. text.now) l.texts));
  short : All (λ path. length path ≤ 4096) l.paths;
}
