-- One turn of the search: the next group is asked, judged, and ends the search or not.
use Rattle.std.proofs.Common.{◌≡◌, ◌∙◌, refl, sym, ap, subst, ℕ, ◌+◌, ◌<◌, ◌≤◌, ◌^◌, Bool, false, List, [], ◌∷◌, ◌++◌}
use Rattle.std.proofs.Common.{map, length, arith, append_assoc, append-nil, length-append}
use Rattle.std.specs.Prelude.{◌||◌, Option, Some, None, IfSome, Result, Ok, Err, IsErrAnd}
use Rattle.std.specs.List.{filter}
use Rattle.steps.specs.Outside.{SpawnerSeen}
use Rattle.ticket_pool.specs.declared.fault.PoolFault.{PoolFault}
use Rattle.ticket_pool.specs.declared.fault.PoolFault.TheVariants as pool
use Rattle.order_expand.specs.declared.member.Member.{Member}
use Rattle.detect_core.specs.declared.chosen.AnswerRow.{AnswerRow}
use Rattle.detect_core.specs.declared.chosen.Chosen.{Chosen}
use Rattle.detect_core.specs.declared.chosen.DetectEnd.{DetectEnd}
use Rattle.detect_core.specs.declared.chosen.DetectEnd.TheVariants.{NoGroup}
use Rattle.detect_core.specs.declared.chosen.DetectFrame.{DetectFrame}
use Rattle.detect_core.specs.declared.judging.Judged.{Judged}
use Rattle.detect_core.specs.Kept.{KeptRow}
use Rattle.detect_core.specs.Answer.{is_fit}
use Rattle.detect_core.specs.Asking.{unmet, RunsAll, RunsSome}
use Rattle.detect_core.specs.Detection.{ending_of_rows}
use Rattle.detect_core.specs.Ending.{EndsGroup}
use Rattle.detect_core.specs.Job.{detect_job}
use Rattle.detect_core.specs.Judging.{IsJudged}
use Rattle.detect_core.specs.Kept.{keys_of, kept_says}
use Rattle.detect_core.specs.Searching.{AreWithin, IsSearch, end_of_fault}
use Rattle.detect_core.proofs.LimitLemmas.{within_group, within_place, judged_rows}
use Rattle.detect_core.proofs.SearchLemmas.{IsAt, IsUnderWay, IsStopped, GroupLeads, under_way_start, stopped_between}
use Rattle.detect_core.proofs.SearchLemmas.{stopped_in, stopped_behind, asked_group, group_leads, no_group}

pub err_result : {A : Type 0} (P : Result A DetectEnd → Type 0) (r : Result A DetectEnd) (end : DetectEnd)
    → IsErrAnd r (λ e. e ≡ end) → P (Err end) → P r
err_result P (Ok value) end h p = absurd h
err_result P (Err e) end h p = subst (λ (d : DetectEnd). P (Err d)) (sym h) p

pub stopped_by : (frame : DetectFrame) (listed : List (List Member)) (r0 r1 : List SpawnerSeen)
    (said : List AnswerRow) (f : PoolFault) → IsStopped frame listed r0 r1
    → IsSearch frame listed r0 r1 said (Err (end_of_fault f))
stopped_by frame listed r0 r1 said pool.Child s = record
    { answers = s.answers; asked_by = s.asked; some = s.some; asked = tt; detects = tt; rows_are = tt }
stopped_by frame listed r0 r1 said pool.Memory s = record
    { answers = s.answers; asked_by = s.asked; some = s.some; asked = tt; detects = tt; rows_are = tt }

-- nobody was asked yet
pub search_start : (frame : DetectFrame) (listed : List (List Member)) (r0 : List SpawnerSeen)
    → IsAt frame listed listed 0 r0 r0 [] [] false
search_start frame listed r0 = record { done = []; parts = refl; at = refl; under_way = under_way_start frame r0 }

pub search_starts : (frame : DetectFrame) (listed left : List (List Member)) (r0 : List SpawnerSeen)
    (kept : List KeptRow) (said : List AnswerRow) → left ≡ listed → kept ≡ [] → said ≡ [] →
    IsAt frame listed left 0 r0 r0 kept said false
search_starts frame listed left r0 kept said all none nothing =
    subst (λ (gs : List (List Member)). IsAt frame listed gs 0 r0 r0 kept said false) (sym all)
    (subst (λ (rows : List KeptRow). IsAt frame listed listed 0 r0 r0 rows said false) (sym none)
    (subst (λ (rows : List AnswerRow). IsAt frame listed listed 0 r0 r0 [] rows false) (sym nothing)
    (search_start frame listed r0)))

module _ (frame : DetectFrame) (listed left : List (List Member)) (place : ℕ) (r0 r1 : List SpawnerSeen)
    (k1 : List KeptRow) (a1 : List AnswerRow) (erred : Bool)
    (s : IsAt frame listed left place r0 r1 k1 a1 erred) where
  -- no memory for the next group
  pub stopped_next : IsStopped frame listed r0 r1
  stopped_next = subst (λ (gs : List (List Member)). IsStopped frame gs r0 r1) (sym s.parts)
      (stopped_between frame s.done left r0 r1 k1 a1 erred s.under_way)

  -- no group is left
  pub finished : left ≡ [] → IsSearch frame listed r0 r1 a1 (Err (NoGroup erred))
  finished e =
      let whole : listed ≡ s.done = s.parts ∙ (ap (λ gs. s.done ++ gs) e ∙ append-nil s.done) in
      subst (λ (gs : List (List Member)). IsSearch frame gs r0 r1 a1 (Err (NoGroup erred))) (sym whole)
      (no_group frame s.done r0 r1 k1 a1 erred s.under_way)

  module _ (group : List Member) (later : List (List Member)) (next : left ≡ group ∷ later) where
    whole : s.done ++ group ∷ later ≡ listed
    whole = ap (λ gs. s.done ++ gs) (sym next) ∙ sym s.parts

    -- a failed spawner, or no memory
    pub stopped_asking : (asked : List Member) (r2 : List SpawnerSeen) → asked ≡ group
        → RunsSome (map (detect_job frame) (unmet (keys_of k1) (filter (is_fit frame.target) asked))) r1 r2
        → IsStopped frame listed r0 r2
    stopped_asking asked r2 is a =
        subst (λ (gs : List (List Member)). IsStopped frame gs r0 r2) whole
        (stopped_in frame s.done group later r0 r1 k1 a1 erred s.under_way r2
        (subst (λ (ms : List Member). RunsSome (map (detect_job frame)
        (unmet (keys_of k1) (filter (is_fit frame.target) ms))) r1 r2) is a))

    pub stopped_asked : (asked : List Member) (r2 : List SpawnerSeen) (k2 : List KeptRow) (a2 : List AnswerRow)
        → asked ≡ group → RunsAll frame (unmet (keys_of k1) (filter (is_fit frame.target) asked)) r1 r2 k1 k2 a1
        a2 → IsStopped frame listed r0 r2
    stopped_asked asked r2 k2 a2 is a =
        subst (λ (gs : List (List Member)). IsStopped frame gs r0 r2) whole
        (stopped_behind frame s.done group later r0 r1 k1 a1 erred s.under_way r2 k2 a2
        (subst (λ (ms : List Member). RunsAll frame (unmet (keys_of k1) (filter (is_fit frame.target) ms)) r1
        r2 k1 k2 a1 a2) is a))

    pub short_rows : (judged_group : List Member) (k2 : List KeptRow) (judged : Judged) → AreWithin listed
        → judged_group ≡ group → IsJudged (kept_says frame.target k2) judged_group judged
        → IfSome judged.alive (λ rows. length rows < 2 ^ 32)
    short_rows judged_group k2 judged w is j =
        judged_rows (kept_says frame.target k2) judged_group judged j
        (subst (λ (ms : List Member). length ms ≤ 256) (sym is)
        (within_group s.done group later (subst AreWithin (sym whole) w)))

    pub few_members : (asked : List Member) → AreWithin listed → asked ≡ group → length asked ≤ 256
    few_members asked w is = subst (λ (ms : List Member). length ms ≤ 256) (sym is)
        (within_group s.done group later (subst AreWithin (sym whole) w))

    pub few_places : AreWithin listed → place + 1 ≤ 4096
    few_places w =
        let h : length s.done + 1 ≤ 4096 = within_place s.done group later (subst AreWithin (sym whole) w) in
        let at : place ≡ length s.done = s.at in
        omega arith

    -- what the judged group leads to
    abbrev pub Leads : List SpawnerSeen → List KeptRow → List AnswerRow → Bool → Result (Option Chosen) DetectEnd
        → Type 0
    Leads r2 k2 a2 erred' (Ok None) = IsAt frame listed later (place + 1) r0 r2 k2 a2 erred'
    Leads r2 k2 a2 erred' (Ok (Some chosen)) = IsSearch frame listed r0 r2 a2 (Ok chosen)
    Leads r2 k2 a2 erred' (Err end) = IsSearch frame listed r0 r2 a2 (Err end)

    lead : (r2 : List SpawnerSeen) (k2 : List KeptRow) (a2 : List AnswerRow) (erred' : Bool)
        (r : Result (Option Chosen) DetectEnd) → GroupLeads frame s.done group later r0 r2 k2 a2 erred' r
        → Leads r2 k2 a2 erred' r
    lead r2 k2 a2 erred' (Ok None) u = record {
      done = s.done ++ group ∷ [];
      parts = sym whole ∙ sym (append_assoc s.done (group ∷ []) later);
      at = let e : length (s.done ++ group ∷ []) ≡ length s.done + length (group ∷ []) = length-append s.done
          (group ∷ []) in let at : place ≡ length s.done = s.at in omega arith;
      under_way = u;
    }
    lead r2 k2 a2 erred' (Ok (Some chosen)) u = subst
        (λ (gs : List (List Member)). IsSearch frame gs r0 r2 a2 (Ok chosen)) whole u
    lead r2 k2 a2 erred' (Err end) u = subst (λ (gs : List (List Member)). IsSearch frame gs r0 r2 a2 (Err end)) whole u

    pub turn : (asked judged_group : List Member) (r2 : List SpawnerSeen) (k2 : List KeptRow)
        (a2 : List AnswerRow) (judged : Judged) (erred' : Bool) (r : Result (Option Chosen) DetectEnd) →
        asked ≡ group → judged_group ≡ group → RunsAll frame (unmet (keys_of k1)
        (filter (is_fit frame.target) asked)) r1 r2 k1 k2 a1 a2
        → IsJudged (kept_says frame.target k2) judged_group judged →
        erred' ≡ (erred || judged.erred) → EndsGroup r (ending_of_rows place judged.alive) (keys_of k2)
        → Leads r2 k2 a2 erred' r
    turn asked judged_group r2 k2 a2 judged erred' r is_asked is_judged a j errs h =
        let a' = subst (λ (ms : List Member). RunsAll frame (unmet (keys_of k1) (filter (is_fit frame.target) ms))
        r1 r2 k1 k2 a1 a2) is_asked a in
        let j' = subst (λ (ms : List Member). IsJudged (kept_says frame.target k2) ms judged) is_judged j in
        let u = subst (λ (b : Bool). IsUnderWay frame (s.done ++ group ∷ []) s.done r0 r2 k2 a2 b) (sym errs)
        (asked_group frame s.done group later r0 r1 k1 a1 erred s.under_way r2 k2 a2 judged a' j') in
        lead r2 k2 a2 erred' r (group_leads frame s.done group later r0 r2 k2 a2 erred' u r place judged s.at j' h)
