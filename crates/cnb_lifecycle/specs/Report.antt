-- The line of a refusal.
use Rattle.std.specs.Prelude.{ℕ, List, [], ◌∷◌, ◌++◌, codes}
use Rattle.std.specs.Fmt.{decimal}
use Rattle.cnb_lifecycle.specs.declared.refusal.Refusal.{Refusal}
use Rattle.cnb_lifecycle.specs.Refusal.{code_of, name_of, detail_of, with_text}

-- its exit status, its name and what is told of it
abbrev pub error_line : Refusal → List ℕ
error_line refusal = codes "error " ++ decimal (code_of refusal) ++ codes " "
    ++ with_text (name_of refusal) (detail_of refusal) ++ 10 ∷ []
