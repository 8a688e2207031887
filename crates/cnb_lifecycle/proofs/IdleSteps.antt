-- Steps behind which a fact of the files holds where they run no child.
use Rattle.std.proofs.Common.{◌≡◌, ◌∙◌, ap, ℕ, Bool}
use Rattle.std.proofs.Common.{List, [], ◌∷◌}
use Rattle.std.proofs.Common.{Result, Ok, Err, inl, inr}
use Rattle.std.specs.Prelude.{IfOk}
use Rattle.cnb_world.specs.Tree.{Tree, folder_made}
use Rattle.cnb_world.specs.Tree.{without}
use Rattle.cnb_world.specs.Whole.{written}
use Rattle.shelf_set.specs.Caches.{Caches, in_caches, in_world}
use Rattle.shelf_set.specs.Restoring.{restores_tree}
use Rattle.steps.specs.Causes.{Cause}
use Rattle.steps.specs.Each.{for_each}
use Rattle.steps.specs.Outside.{Seen}
use Rattle.steps.specs.Steps.{◌>>=◌, gives, makes_folder, map_err, reads, removes, writes, yields}
use Rattle.tree_store.specs.Around.{KeepsAround}
use Rattle.cnb_lifecycle.proofs.LeadingSteps.{Brings, beside_caches, brings_around, brings_change}
use Rattle.cnb_lifecycle.proofs.LeadingSteps.{brings_on, brings_same, itself}

module _ {S : Type 0} (view : S → Seen) (K : Tree → Type 0) where
  abbrev pub Bears : {E A : Type 0} → (S → Result A E → S → Type 0) → Type 0
  Bears {E} {A} step = (old new : S) (result : Result A E) → step old result new
      → ((view new).runs ≡ (view old).runs) × IfOk result (λ a. Brings K K (view old).files (view new).files)

  bears_same : {E A : Type 0} (old new : S) (result : Result A E) → (view new).runs ≡ (view old).runs
      → (view new).files ≡ (view old).files → ((view new).runs ≡ (view old).runs)
      × IfOk result (λ a. Brings K K (view old).files (view new).files)
  bears_same old new (Ok a) runs files = (runs, brings_same K (view old).files (view new).files files)
  bears_same old new (Err fault) runs files = (runs, tt)

  bears_unmoved : {E A : Type 0} (old new : S) (result : Result A E) → new ≡ old
      → ((view new).runs ≡ (view old).runs) × IfOk result (λ a. Brings K K (view old).files (view new).files)
  bears_unmoved old new result same = bears_same old new result (ap (λ s. (view s).runs) same)
      (ap (λ s. (view s).files) same)

  pub bears_bind : {E A B : Type 0} (first : S → Result A E → S → Type 0) (next : A → S → Result B E → S → Type 0)
      → Bears first → ((a : A) → Bears (next a)) → Bears (first >>= next)
  unfolding ◌>>=◌
  bears_bind first next p q old new (Ok value) (a, mid, h, k) =
      let one = p old mid (Ok a) h in
      let two = q a mid new (Ok value) k in
      (two.0 ∙ one.0, brings_on K K K (view old).files (view mid).files (view new).files one.1 two.1)
  bears_bind first next p q old new (Err fault) (inl h) = ((p old new (Err fault) h).0, tt)
  bears_bind first next p q old new (Err fault) (inr (a, mid, h, k)) =
      ((q a mid new (Err fault) k).0 ∙ (p old mid (Ok a) h).0, tt)

  pub bears_told : {E F A : Type 0} (of : E → F) (step : S → Result A E → S → Type 0) → Bears step
      → Bears (map_err of step)
  unfolding map_err
  bears_told of step p old new (Ok value) h = p old new (Ok value) h
  bears_told of step p old new (Err refusal) (fault, is, h) = ((p old new (Err fault) h).0, tt)

  pub bears_gives : {E A : Type 0} (cause : E → Cause) (want : Result A E) → Bears (gives cause want)
  unfolding gives
  bears_gives cause want old new result h = bears_unmoved old new result h.0

  pub bears_yields : {E A : Type 0} (want : A) → Bears {E = E} {A = A} (yields want)
  unfolding yields
  bears_yields {E = E} want old new (Ok value) h = bears_unmoved {E = E} old new (Ok value) h.1
  bears_yields want old new (Err fault) h = absurd h

  pub bears_each : {E A X : Type 0} (step : X → A → S → Result A E → S → Type 0) (xs : List X) (so_far : A)
      → ((x : X) (a : A) → Bears (step x a)) → Bears (for_each step xs so_far)
  unfolding for_each
  bears_each step [] so_far p = bears_yields so_far
  bears_each step (x ∷ xs) so_far p = bears_bind (step x so_far) (for_each step xs) (p x so_far)
      (λ a. bears_each step xs a p)

module _ (K : Tree → Type 0) where
  pub bears_in_world : {E A : Type 0} (step : Seen → Result A E → Seen → Type 0) → Bears itself K step
      → Bears beside_caches K (in_world step)
  unfolding in_world
  bears_in_world step p old new result h = p old.world new.world result h.0

  pub bears_in_caches : {E A : Type 0} (step : Caches → Result A E → Caches → Type 0)
      → Bears beside_caches K (in_caches step)
  unfolding in_caches
  bears_in_caches step old new result h = bears_same beside_caches K old new result
      (ap (λ (s : Seen). s.runs) h.1) (ap (λ (s : Seen). s.files) h.1)

  pub bears_reads : {E A : Type 0} (cause : E → Cause) (Among : List ℕ → Type 0) (fits : Tree → Bool)
      (want : Tree → Result A E)
      → Bears itself K (reads cause Among fits want)
  unfolding reads
  bears_reads cause Among fits want old new result h = bears_same itself K old new result h.same.runs h.same.files

  pub bears_removes : {E : Type 0} (cause : E → Cause) (path : List ℕ) → ((t : Tree) → K t → K (without path t))
      → Bears itself K (removes cause path)
  unfolding removes
  bears_removes cause path so old new (Ok done) h =
      (h.0.runs, brings_change K K (without path) old.files new.files so h.0.files)
  bears_removes cause path so old new (Err fault) h = (h.1.runs, tt)

  pub bears_makes : {E : Type 0} (cause : E → Cause) (path : List ℕ) → ((t : Tree) → K t → K (folder_made path t))
      → Bears itself K (makes_folder cause path)
  unfolding makes_folder
  bears_makes cause path so old new (Ok done) h =
      (h.0.runs, brings_change K K (folder_made path) old.files new.files so h.0.files)
  bears_makes cause path so old new (Err fault) h = (h.1.runs, tt)

  pub bears_writes : {E : Type 0} (cause : E → Cause) (path : List ℕ) (Says : List ℕ → Type 0)
      → ((bytes : List ℕ) (t : Tree) → K t → K (written path bytes t)) → Bears itself K (writes cause path Says)
  unfolding writes
  bears_writes cause path Says so old new (Ok done) h =
      (h.runs, brings_change K K (written path h.bytes) old.files new.files (so h.bytes) h.files)
  bears_writes cause path Says so old new (Err fault) h = (h.1.runs, tt)

  pub bears_restored : (digest root : List ℕ) → ((t after : Tree) → K t → KeepsAround root t after → K after)
      → Bears beside_caches K (restores_tree digest root)
  unfolding restores_tree
  bears_restored digest root so old new (Ok search) h =
      (h.around.runs, brings_around K K root old.world.files new.world.files so h.around.files)
  bears_restored digest root so old new (Err fault) h = (h.around.runs, tt)
