use Rattle.std.proofs.Common.{◌≡◌, ◌∙◌, ◌++◌, ◌∷◌, ◌/◌, ◌%◌, ◌<◌, arith}
use Rattle.std.proofs.lemmas.Fmt.{decimal_digit}
use Rattle.cnb_drill.specs.Trees.{contents, drill_file, file_name}
use Rattle.cnb_drill.proofs.trees.file.Goals as goal

pub returns : goal.returns
unfolding contents
returns c =
    let tens : c.args.place / 10 < 10 = let few = c.requires.place in omega arith in
    let ones : c.args.place % 10 < 10 = omega arith in
    let name : c.from_string.result ≡ file_name c.args.place =
    c.from_string.ensures ∙ (c.in_ok-name.ensures.ok
    ∙ (λ i. 102 ∷ (decimal_digit (c.args.place / 10) tens i ++ decimal_digit (c.args.place % 10) ones i))) in
    let bytes : c.from_vec.result ≡ contents c.args.tree = c.from_vec.ensures
    ∙ c.in_ok-bytes.ensures.items_if_clones_equal (λ y e. e) in
    λ i. drill_file (bytes i) (name i)
