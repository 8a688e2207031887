use Rattle.std.proofs.Common.{ℕ, List, ◌≡◌, ◌≤◌, ◌+◌, ◌-◌, ◌++◌, ◌∙◌, ap, arith, drop, length, refl, subst, take}
use Rattle.std.proofs.lemmas.List.{length-drop, length-take}
use Rattle.sha2.specs.Hashers.{Holds256}
use Rattle.tree_canon.specs.Spelling.{limit}
use Rattle.tree_store.specs.Source.{source_seen}
use Rattle.tree_store.proofs.Fields.{ahead_few, ahead_moved, ahead_taken}
use Rattle.tree_store.proofs.Takes.{takes_cut}
use Rattle.tree_store.proofs.kept_bytes.KeptBytes.cut.Goals as goal

pub returns-then-self-len-clause-free : goal.returns-then-self-len-clause-free
returns-then-self-len-clause-free g c = λ files bytes long h. let few : c.args.self.now.at + length bytes
    ≤ limit = ahead_few (source_seen g.O.Origin.state c.args.self.now) files bytes h in
    absurd (omega (arith, few, long))

pub returns-clause-value : goal.returns-clause-value
returns-clause-value g c = λ files field rest is h. c.in_ok-field.ensures
    ∙ ap (λ p. take ((c.args.self.now.used + c.args.len) - c.args.self.now.used) (drop c.args.self.now.used p))
    c.as_slice-held.ensures ∙ ap (λ n. take n (drop c.args.self.now.used c.args.self.now.piece))
    (let e : (c.args.self.now.used + c.args.len) - c.args.self.now.used ≡ c.args.len = omega arith in e)
    ∙ ahead_taken (source_seen g.O.Origin.state c.args.self.now) files field rest c.args.len is c.requires.held h

pub returns-clause-ahead : goal.returns-clause-ahead
returns-clause-ahead g c = λ files field rest is h.
    let same : c.as_slice.result.now ≡ field = c.as_slice.ensures ∙ returns-clause-value g c files field rest is h in
    ahead_moved (source_seen g.O.Origin.state c.args.self.now) _ files field rest c.args.len is c.requires.held
    refl refl
    (λ bytes hashed. subst (λ m. Holds256 c.update.new.self (bytes ++ m)) same
    (c.update.ensures bytes hashed)) refl refl refl h

-- so many bytes were cut
size : (field held piece : List ℕ) (used len : ℕ) → field ≡ take ((used + len) - used) (drop used held) → held ≡ piece
    → used + len ≤ length piece → len ≡ length field
size field held piece used len is same le = omega (
  arith,
  ap length is,
  length-take ((used + len) - used) (drop used held),
  length-drop used held,
  ap length same,
  le,
)

pub returns-clause-takes : goal.returns-clause-takes
returns-clause-takes g c = λ outside. takes_cut c.in_ok-field.field (source_seen g.O.Origin.state c.args.self.now) _
    outside refl (ap (λ n. c.args.self.now.at + n) (size _ _ c.args.self.now.piece c.args.self.now.used c.args.len
    c.in_ok-field.ensures c.as_slice-held.ensures c.requires.held)) (omega arith)
    (λ bytes hashed. subst (λ m. Holds256 c.update.new.self (bytes ++ m)) c.as_slice.ensures
    (c.update.ensures bytes hashed))
