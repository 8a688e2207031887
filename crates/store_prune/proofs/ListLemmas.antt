-- Steps that are taken where something stands, and where it doesn't.
use Rattle.std.proofs.Common.{◌≡◌, refl, sym, subst, ℕ, Bool, true, false, List, [], Result, Ok}
use Rattle.cnb_toml.specs.Form.{TableForm}
use Rattle.cnb_world.specs.Path.{joined}
use Rattle.steps.specs.Outside.{Seen}
use Rattle.steps.specs.Steps.{yields}
use Rattle.store_prune.specs.Listing.{lists_where}
use Rattle.store_prune.specs.Named.{adds_document, adds_if, adds_name, adds_where, is_document_name}
use Rattle.store_prune.specs.declared.fault.PruneFault.{PruneFault}

pub listed_there : (folder : List ℕ) (there : Bool) (old new : Seen) (result : Result (List (List ℕ)) PruneFault)
    → there ≡ true → lists_where folder true old result new → lists_where folder there old result new
listed_there folder there old new result is h = subst (λ b. lists_where folder b old result new) (sym is) h

pub nothing_listed : (folder : List ℕ) (names : List (List ℕ)) (there : Bool) (old : Seen) → there ≡ false
    → names ≡ [] → lists_where folder there old (Ok names) old
unfolding lists_where yields
nothing_listed folder names there old is none = subst (λ b. lists_where folder b old (Ok names) old) (sym is)
    (none, refl)

module _ {A : Type 0} (form : TableForm A) (digests : A → List (List ℕ)) where
  pub added_there : (path : List ℕ) (named : List (List ℕ)) (there : Bool) (old new : Seen)
      (result : Result (List (List ℕ)) PruneFault) → there ≡ true
      → adds_where form digests path named true old result new
      → adds_where form digests path named there old result new
  added_there path named there old new result is h = subst
      (λ b. adds_where form digests path named b old result new) (sym is) h

  pub nothing_added : (path : List ℕ) (named : List (List ℕ)) (there : Bool) (old : Seen) → there ≡ false
      → adds_where form digests path named there old (Ok named) old
  unfolding adds_where yields
  nothing_added path named there old is = subst (λ b. adds_where form digests path named b old (Ok named) old)
      (sym is) (refl, refl)

  pub name_passed : (folder name : List ℕ) (named : List (List ℕ)) (old : Seen) → is_document_name name ≡ false
      → adds_name form digests folder name named old (Ok named) old
  unfolding adds_name adds_if yields
  name_passed folder name named old is = subst (λ b. adds_if form digests (joined folder name) named b old
      (Ok named) old) (sym is) (refl, refl)

  pub name_added : (folder name path : List ℕ) (named : List (List ℕ)) (old new : Seen)
      (result : Result (List (List ℕ)) PruneFault) → is_document_name name ≡ true → path ≡ joined folder name
      → adds_document form digests path named old result new → adds_name form digests folder name named old result new
  unfolding adds_name adds_if
  name_added folder name path named old new result is at h =
      subst (λ b. adds_if form digests (joined folder name) named b old result new) (sym is)
      (subst (λ p. adds_document form digests p named old result new) at h)
