-- Names in front of `.toml`.
use Rattle.std.proofs.Common.{◌≡◌, ◌∙◌, sym, ap, subst, ℕ, ◌-◌, true, false, cond, List, length, take, codes, arith}
use Rattle.std.proofs.Common.{Bor, Option, Some, None}
use Rattle.std.specs.Prelude.{MatchOption}
use Rattle.std.specs.Option.{option_copied}
use Rattle.std.specs.Str.{IsCharBoundary}
use Rattle.std.specs.Str.Pattern.{FindsTextSuffix, StripsSuffix}
use Rattle.std.proofs.lemmas.Str.Pattern.{ends_text}
use Rattle.layer_paths.specs.Names.{stem_of}

-- what is in front of a suffix that is stripped
pub stem_is : (name : List ℕ) (found : Option (Bor (List ℕ)))
    → MatchOption found (FindsTextSuffix (codes ".toml") name None)
    (λ x. StripsSuffix (FindsTextSuffix (codes ".toml")) name x.now)
    → option_copied found ≡ stem_of name
stem_is name None none = ap (λ ends. cond ends (Some (take (length name - 5) name)) None)
    (ends_text false (codes ".toml") name none)
stem_is name (Some x) (count, finds, is, whole) =
    let five : count ≡ 5 = finds.0 in
    let boundary = subst (λ n. IsCharBoundary name (length name - n)) (sym finds.0) finds.2 in
    ap Some is ∙ ap (λ n. Some (take (length name - n) name)) five
    ∙ ap (λ ends. cond ends (Some (take (length name - 5) name)) None)
    (ends_text true (codes ".toml") name (count, finds, omega (arith, whole), boundary))
