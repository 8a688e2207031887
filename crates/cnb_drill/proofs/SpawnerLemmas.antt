-- Spawners that ran no child yet.
use Rattle.std.proofs.Common.{◌≡◌, ◌∙◌, refl, sym, subst, ℕ, ◌+◌, ◌<◌, List, [], ◌∷◌, ◌++◌, map, length, ap, arith}
use Rattle.std.specs.Prelude.{replicate}
use Rattle.std.proofs.lemmas.List.{length-map, map-append, replicate_more}
use Rattle.steps.specs.Outside.{SpawnerSeen}
use Rattle.cnb_drill.specs.Spawners.{AnswerBy, new_spawner}

-- one spawner more
pub one_more : {S : Type 0} (see : S → SpawnerSeen) (number n : ℕ) (old new : List S) (spawner : S) →
    map see old ≡ replicate n (new_spawner number) → see spawner ≡ new_spawner number → new ≡ old ++ spawner ∷ []
    → map see new ≡ replicate (n + 1) (new_spawner number)
one_more see number n old new spawner e is push =
    ap (map see) push ∙ (map-append see old (spawner ∷ []) ∙
    ((λ i. e i ++ is i ∷ []) ∙ replicate_more n (new_spawner number)))

-- there are some
pub new_some : {S : Type 0} (number : ℕ) (see : S → SpawnerSeen) (spawners : List S)
    → map see spawners ≡ replicate 8 (new_spawner number) → 0 < length spawners
new_some number see spawners e = let long : length spawners ≡ 8 = sym (length-map spawners see) ∙ ap length e
    in omega arith

-- and each answers by the number
pub new_answer : (number : ℕ) (spawners : List SpawnerSeen) → spawners ≡ replicate 8 (new_spawner number)
    → AnswerBy number spawners
new_answer number spawners e = subst (AnswerBy number) (sym e)
    (refl, (refl, (refl, (refl, (refl, (refl, (refl, (refl, tt))))))))
