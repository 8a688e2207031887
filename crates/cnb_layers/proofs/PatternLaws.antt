-- The texts of patterns decide what they are read as, and reading them makes no call.
use Rattle.std.proofs.Common.{◌≡◌, ◌∙◌, sym, ap, subst, ℕ, List, [], Some, Result, Ok, Err}
use Rattle.std.specs.Prelude.{IfErr}
use Rattle.app_slices.specs.Slots.{Slices}
use Rattle.app_slices.specs.declared.item.Item.{Item}
use Rattle.cnb_world.specs.Tree.{Tree}
use Rattle.steps.specs.Causes.{IsGivenCause, WhereDecided, ended_by}
use Rattle.steps.specs.Counts.{FileCounts}
use Rattle.steps.specs.Outside.{Seen}
use Rattle.steps.proofs.EndLaws.{Obeys, files_link, files_rest, given_ends, obeys_bind, obeys_each, obeys_gives}
use Rattle.steps.proofs.ReadingLaws.{where_map}
use Rattle.cnb_layers.specs.Patterns.{IsRead, adds_pattern, adds_slice, reads_pattern, reads_slices}
use Rattle.cnb_layers.specs.Refusals.{cause_of}
use Rattle.cnb_layers.specs.declared.fault.ExportFault.{ExportFault}
use Rattle.cnb_layers.proofs.DecidedLaws.{AreAlike, AreDecided, decided_bind, decided_each, decided_gives}

-- ---- decided

read_alike : (id text : List ℕ) (t : Tree) (new new' : Seen) (result result' : Result (List Item) ExportFault)
    → new.files ≡ Some t → new'.files ≡ Some t → IsRead id text result → IsRead id text result'
    → AreAlike cause_of result new result' new'
read_alike id text t new new' (Ok items) (Ok other) is is' h h' = (h.1 other h'.0, t, is, is')
read_alike id text t new new' (Ok items) (Err fault) is is' h h' = where_map (cause_of fault) _ ⊥
    (λ bad. bad.1 items h.0) h'.1
read_alike id text t new new' (Err fault) (Ok other) is is' h h' = where_map (cause_of fault) _ ⊥
    (λ bad. bad.1 other h'.0) h.1
read_alike id text t new new' (Err fault) (Err other) is is' h h' =
    where_map (cause_of fault) _ (WhereDecided (cause_of other) (other ≡ fault))
    (λ bad. where_map (cause_of other) _ (other ≡ fault) (λ bad'. bad'.0 ∙ sym bad.0) h'.1) h.1

one_pattern : (id text : List ℕ) → AreDecided cause_of (reads_pattern id text)
unfolding reads_pattern
one_pattern id text t old new old' new' result result' is is' h h' = read_alike id text t new new' result result'
    (ap (λ (s : Seen). s.files) h.0 ∙ is) (ap (λ (s : Seen). s.files) h'.0 ∙ is') h.1 h'.1

one_more : (id text : List ℕ) (patterns : List (List Item)) → AreDecided cause_of (adds_pattern id text patterns)
unfolding adds_pattern
one_more id text patterns = decided_bind cause_of _ _ (one_pattern id text) (λ pattern. decided_gives cause_of _)

one_slice : (id : List ℕ) (texts : List (List ℕ)) (slices : Slices) → AreDecided cause_of (adds_slice id texts slices)
unfolding adds_slice
one_slice id texts slices =
    decided_bind cause_of _ _ (decided_each cause_of (adds_pattern id) texts []
    (λ text patterns. one_more id text patterns)) (λ patterns. decided_gives cause_of _)

pub decided_slices : (id : List ℕ) (slices : List (List (List ℕ))) → AreDecided cause_of (reads_slices id slices)
decided_slices id slices = decided_each cause_of (adds_slice id) slices [] (λ texts so_far. one_slice id texts so_far)

-- ---- counts

given_read : (id text : List ℕ) (result : Result (List Item) ExportFault) → IsRead id text result
    → IfErr result (λ fault. IsGivenCause (cause_of fault))
given_read id text (Ok items) h = tt
given_read id text (Err fault) h = h.0

pattern_counts : (id text : List ℕ) → Obeys FileCounts cause_of (reads_pattern id text)
unfolding reads_pattern
pattern_counts id text old new result h = subst (FileCounts (ended_by cause_of result) old) (sym h.0)
    (given_ends FileCounts cause_of result old files_rest (given_read id text result h.1))

more_counts : (id text : List ℕ) (patterns : List (List Item))
    → Obeys FileCounts cause_of (adds_pattern id text patterns)
unfolding adds_pattern
more_counts id text patterns = obeys_bind _ _ _ _ files_link (pattern_counts id text)
    (λ pattern. obeys_gives _ _ _ files_rest)

slice_counts : (id : List ℕ) (texts : List (List ℕ)) (slices : Slices)
    → Obeys FileCounts cause_of (adds_slice id texts slices)
unfolding adds_slice
slice_counts id texts slices = obeys_bind _ _ _ _ files_link
    (obeys_each _ _ _ files_link files_rest (more_counts id) texts []) (λ patterns. obeys_gives _ _ _ files_rest)

pub slices_counts : (id : List ℕ) (slices : List (List (List ℕ))) → Obeys FileCounts cause_of (reads_slices id slices)
slices_counts id slices = obeys_each _ _ _ files_link files_rest (slice_counts id) slices []
