use Rattle.std.proofs.Common.{ℕ, List, [], ◌∷◌, map, sym, ◌∙◌, ap, Bor}
use Rattle.std.proofs.lemmas.List.{map-append}
use Rattle.cnb_toml.proofs.AscendingLemmas.{put_all, put_all_is, put_all-push, insert_put}
use Rattle.cnb_toml.proofs.sorted_names.ascending.Goals as goal

pub loop-name-init : goal.loop-name-init
loop-name-init c = rw c.new-set.ensures.empty (put_all_is (map (λ name. name.now) c.args.names.items))

pub loop-name-preserved : goal.loop-name-preserved
loop-name-preserved c =
    let text = λ (name : Bor (List ℕ)). name.now in
    let name = c.in-Some.name in
    let front = c.pop.new.self.items in
    let keys = c.loop-name.set.keys in
    rw c.in_ok-insert.ensures.keys
    (ap (put_all (map text front)) (insert_put text keys name)
    ∙ (sym (put_all-push (map text front) name.now (map text keys))
    ∙ (ap (λ names. put_all names (map text keys))
    (sym (map-append text front (name ∷ [])) ∙ ap (map text) (sym c.in-Some.ensures.items))
    ∙ c.loop-name.invariant)))
