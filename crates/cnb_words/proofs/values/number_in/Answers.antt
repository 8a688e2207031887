use Rattle.std.proofs.Common.{◌≡◌, true, Err, arith}
use Rattle.std.proofs.lemmas.Bool.Decides.{nat_tests}
use Rattle.std.specs.Str.Parse.{ParsesUnsigned}
use Rattle.cnb_words.specs.Values.{is_decimal}
use Rattle.cnb_words.proofs.Numbers.{no_number}
use Rattle.cnb_words.proofs.values.number_in.Goals as goal

pub returns-in_default-3-clause-reads : goal.returns-in_default-3-clause-reads
returns-in_default-3-clause-reads c =
    let decimal : is_decimal c.args.text.now ≡ true = grind (arith, nat_tests) in
    let parsed : ParsesUnsigned 32 10 c.args.text.now (Err c.in_default.field-0) = assumption c.in_default.ensures in
    no_number c.args.least c.args.most c.args.text.now c.in_default.field-0 decimal c.ranges.most.fits parsed
