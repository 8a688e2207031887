use Rattle.std.proofs.Common.{◌≡◌, [], map, take}
use Rattle.clap.specs.Words.{app_of}
use Rattle.cnb_words.specs.Reading.{reader}
use Rattle.cnb_words.proofs.reading.reader.Given as goal

abbrev pub invariant-loop-name : goal.invariant-loop-name
invariant-loop-name l = app_of l.command ≡ reader (map (λ name. name.now) (take l.name-index l.once)) []

abbrev pub invariant-loop-name-2 : goal.invariant-loop-name-2
invariant-loop-name-2 l = app_of l.command ≡ reader (map (λ name. name.now) l.once)
    (map (λ name. name.now) (take l.name-index l.often))
