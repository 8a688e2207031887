-- Spawners' counts of children without an answer.
use Rattle.std.proofs.Common.{◌≡◌, refl, sym, ap, subst, ℕ, ◌≤◌, inl, inr, List, [], ◌∷◌, map}
use Rattle.std.specs.Prelude.{Option, Result, Ok, Err}
use Rattle.std.specs.List.{AllZip}
use Rattle.cnb_toml.specs.declared.names.Key.{Key}
use Rattle.steps.specs.Asking.{CountsSpawners, NoneFell, OneRose, SpawnersBy}
use Rattle.steps.specs.Outside.{SpawnerSeen, faults_of}
use Rattle.steps.proofs.AskingLemmas.{none_fell}
use Rattle.ticket_pool.specs.Counts.{CountsPool, SomeRose}
use Rattle.ticket_pool.specs.Counts as counts
use Rattle.ticket_pool.specs.declared.fault.PoolFault.{PoolFault}
use Rattle.ticket_pool.specs.declared.fault.PoolFault.TheVariants as pool
use Rattle.detect_core.specs.declared.chosen.DetectEnd.{DetectEnd}
use Rattle.detect_core.specs.declared.chosen.DetectEnd.TheVariants.{NoGroup, ManyTrials, Child, Memory}
use Rattle.detect_core.specs.Asking.{pool_cause}
use Rattle.detect_core.specs.Detection.{Ending}
use Rattle.detect_core.specs.Ending.{EndsGroup}
use Rattle.detect_core.specs.Search.{end_cause}
use Rattle.detect_core.specs.Searching.{end_of_fault}

-- counts that stayed did not fall
pub stayed : (before now : List ℕ) → now ≡ before → NoneFell before now
stayed before now same = subst (NoneFell before) (sym same) (none_fell before)

-- rounds that counted nothing, and then one that ended with a fault
pub fault_counts : (fault : PoolFault) (before mid now : List ℕ) → mid ≡ before
    → SpawnersBy (pool_cause fault) mid now → SpawnersBy (end_cause (end_of_fault fault)) before now
fault_counts pool.Child before mid now same h = subst (λ counts. OneRose counts now) same h
fault_counts pool.Memory before mid now same h = subst (λ counts. NoneFell counts now) same h

-- a group whose judgement ended the search, after rounds that counted nothing
pub end_counts : (end : DetectEnd) (ending : Option Ending) (asked : List Key) (before now : List ℕ)
    → EndsGroup (Err end) ending asked → now ≡ before → SpawnersBy (end_cause end) before now
end_counts ManyTrials ending asked before now h same = same
end_counts Memory ending asked before now h same = stayed before now same
end_counts (NoGroup erred) ending asked before now h same = same
end_counts Child ending asked before now h same = absurd h

none_fell_by : (before now : List ℕ) → AllZip (λ b n. b ≤ n) before now → NoneFell before now
none_fell_by [] [] h = tt
none_fell_by [] (n ∷ now) h = absurd h
none_fell_by (b ∷ before) [] h = absurd h
none_fell_by (b ∷ before) (n ∷ now) h = (h.0, none_fell_by before now h.1)

one_rose_by : (before now : List ℕ) → AllZip (λ b n. b ≤ n) before now → counts.OneRose before now → OneRose before now
one_rose_by [] now h rose = absurd rose
one_rose_by (b ∷ before) [] h rose = absurd rose
one_rose_by (b ∷ before) (n ∷ now) h (inl rose) = inl (rose, none_fell_by before now h.1)
one_rose_by (b ∷ before) (n ∷ now) h (inr rose) = inr (h.0, one_rose_by before now h.1 rose)

counts_by : {T : Type 0} (result : Result T PoolFault) (before now : List ℕ) → CountsPool result before now
    → CountsSpawners pool_cause result before now
counts_by (Ok value) before now h = h
counts_by (Err pool.Child) before now h = one_rose_by before now h.none_fell h.one_rose
counts_by (Err pool.Memory) before now h = stayed before now h

faults_seen : {S : Type 0} (see : S → SpawnerSeen) (spawners : List S)
    → map (λ s. (see s).faults) spawners ≡ faults_of (map see spawners)
faults_seen see [] = refl
faults_seen see (s ∷ spawners) = ap (λ l. (see s).faults ∷ l) (faults_seen see spawners)

-- what the pool says of the counts, as contracts see spawners
pub pool_counts : {S T : Type 0} (see : S → SpawnerSeen) (result : Result T PoolFault) (olds news : List S)
    → CountsPool result (map (λ s. (see s).faults) olds) (map (λ s. (see s).faults) news)
    → CountsSpawners pool_cause result (faults_of (map see olds)) (faults_of (map see news))
pool_counts see result olds news h =
    counts_by result (faults_of (map see olds)) (faults_of (map see news))
    (subst (λ (p : List ℕ × List ℕ). CountsPool result p.0 p.1)
    (λ i. (faults_seen see olds i, faults_seen see news i)) h)
