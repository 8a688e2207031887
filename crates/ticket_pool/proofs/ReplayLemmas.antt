-- A deal of numbers, played as a round.
use Rattle.std.proofs.Common.{◌≡◌, ℕ, zero, suc, ◌+◌, ◌<◌, ◌≤◌, ◌≢◌, cond, eqb, List, [], ◌∷◌, ◌++◌, length, refl, sym}
use Rattle.std.proofs.Common.{ap, ◌∙◌, subst, arith, lt-ltb, le-leb, eq-eqb, ne_eqb}
use Rattle.std.proofs.lemmas.Bool.{lt-leb}
use Rattle.std.specs.Prelude.{Some, None, slice_get}
use Rattle.std.specs.List.{AllByRecursion, cons_option}
use Rattle.std.specs.Option.{option_map}
use mathlib.Core.Logic.{dite}
use native.Mathlib.Decide.{ℕ_discrete, dec_le}
use Rattle.cnb_world.specs.declared.child.Probed.{Probed}
use Rattle.ticket_pool.specs.declared.round.Event.TheVariants.{Draw, End}
use Rattle.ticket_pool.specs.Deal.{deal_weighs, IsDealOf}
use Rattle.ticket_pool.specs.Law.{AreLawful, after_all}
use Rattle.ticket_pool.specs.Numbers.{weigh, same, upto, AllAbove, IsAscending}
use Rattle.ticket_pool.specs.Replay.{owner_of, replay, numbered, end_by, ends_by, numbers_of, answers_at, IsRound}
use Rattle.ticket_pool.specs.Round.{Round, put, start, draw, give, end, after, IsLawful}
use Rattle.ticket_pool.proofs.LawLemmas.{put-same, put-other}
use Rattle.ticket_pool.proofs.NumberLemmas.{weigh-snoc, same-self, same-upto-le, ascending_same}

-- h of a number whose owner is w, and 0 of another
abbrev mask : (ℕ → ℕ) → ℕ → (ℕ → ℕ) → ℕ → ℕ
mask owner w h n = cond (eqb (owner n) w) (h n) 0

mask-own : (owner : ℕ → ℕ) (w : ℕ) (h : ℕ → ℕ) (n : ℕ) → owner n ≡ w → mask owner w h n ≡ h n
mask-own owner w h n e = ap (λ b. cond b (h n) 0) (eq-eqb (owner n) w e)

mask-else : (owner : ℕ → ℕ) (w : ℕ) (h : ℕ → ℕ) (n : ℕ) → owner n ≢ w → mask owner w h n ≡ 0
mask-else owner w h n ne = ap (λ b. cond b (h n) 0) (ne_eqb (owner n) w ne)

-- of the numbers from n on, as many as count, those whose owner is w
abbrev own : (ℕ → ℕ) → ℕ → ℕ → ℕ → List ℕ
own owner w n zero = []
own owner w n (suc count) = cond (eqb (owner n) w) (n ∷ own owner w (suc n) count) (own owner w (suc n) count)

own-yes : (owner : ℕ → ℕ) (w n count : ℕ) → owner n ≡ w → own owner w n (suc count) ≡ n ∷ own owner w (suc n) count
own-yes owner w n count e = ap (λ b. cond b (n ∷ own owner w (suc n) count) (own owner w (suc n) count))
    (eq-eqb (owner n) w e)

own-no : (owner : ℕ → ℕ) (w n count : ℕ) → owner n ≢ w → own owner w n (suc count) ≡ own owner w (suc n) count
own-no owner w n count ne = ap (λ b. cond b (n ∷ own owner w (suc n) count) (own owner w (suc n) count))
    (ne_eqb (owner n) w ne)

weigh-own : (owner : ℕ → ℕ) (w : ℕ) (h : ℕ → ℕ) (n count : ℕ)
    → weigh h (own owner w n count) + weigh (mask owner w h) (upto n) ≡ weigh (mask owner w h) (upto (n + count))
weigh-own owner w h n zero =
    let z : n ≡ n + zero = omega arith in
    let e : weigh (mask owner w h) (upto n) ≡ weigh (mask owner w h) (upto (n + zero)) = ap
    (λ k. weigh (mask owner w h) (upto k)) z in omega arith
weigh-own owner w h n (suc count) =
    let r = weigh-own owner w h (suc n) count in
    let s = weigh-snoc (mask owner w h) (upto n) n in
    let z : suc n + count ≡ n + suc count = omega arith in
    let e : weigh (mask owner w h) (upto (suc n + count)) ≡ weigh (mask owner w h) (upto (n + suc count)) = ap
    (λ k. weigh (mask owner w h) (upto k)) z in
    dite (ℕ_discrete (owner n) w)
    (λ q. let m = mask-own owner w h n q in
    let o : weigh h (own owner w n (suc count)) ≡ h n + weigh h (own owner w (suc n) count) = ap (weigh h)
    (own-yes owner w n count q) in omega arith)
    (λ ne. let m = mask-else owner w h n ne in
    let o : weigh h (own owner w n (suc count)) ≡ weigh h (own owner w (suc n) count) = ap (weigh h)
    (own-no owner w n count ne) in omega arith)

own-above : (owner : ℕ → ℕ) (w k n count : ℕ) → k < n → AllAbove k (own owner w n count)
own-above owner w k n zero lt = tt
own-above owner w k n (suc count) lt = dite (ℕ_discrete (owner n) w)
    (λ q. subst (AllAbove k) (sym (own-yes owner w n count q)) (lt, own-above owner w k (suc n) count (omega arith)))
    (λ ne. subst (AllAbove k) (sym (own-no owner w n count ne)) (own-above owner w k (suc n) count (omega arith)))

own-ascends : (owner : ℕ → ℕ) (w n count : ℕ) → IsAscending (own owner w n count)
own-ascends owner w n zero = tt
own-ascends owner w n (suc count) = dite (ℕ_discrete (owner n) w)
    (λ q. subst IsAscending (sym (own-yes owner w n count q))
    (own-above owner w n (suc n) count (omega arith), own-ascends owner w (suc n) count))
    (λ ne. subst IsAscending (sym (own-no owner w n count ne)) (own-ascends owner w (suc n) count))

-- a round that has come to n, where nothing is held
abbrev IsAt : ℕ → Round → Type 0
IsAt n t = (t.next ≡ n) × ((w : ℕ) → t.held w ≡ None)

at_next : (n : ℕ) (t : Round) (w : ℕ) (p : Probed) → IsAt n t → IsAt (suc n) (give (draw t w) t.next w p)
at_next n t w p at = (
  (let e = at.0 in omega arith),
  (λ u. dite (ℕ_discrete u w)
      (λ q. subst (λ x. put (put t.held w (Some t.next)) w None x ≡ None) (sym q)
      (put-same (put t.held w (Some t.next)) w None))
      (λ ne. put-other (put t.held w (Some t.next)) w None u ne ∙ put-other t.held w (Some t.next) u ne ∙ at.1 u)),
)

module _ (jobs workers : ℕ) (owner : ℕ → ℕ) where
  drawn : (t : Round) (w : ℕ) → t.next < jobs → after jobs t (Draw w) ≡ draw t w
  drawn t w lt = ap (λ b. cond b (draw t w) t) (lt-ltb t.next jobs lt)

  -- one number's draw and end
  two : (t : Round) (w : ℕ) (p : Probed) → t.next < jobs → after jobs (after jobs t (Draw w)) (End w p)
      ≡ give (draw t w) t.next w p
  two t w p lt = ap (λ s. after jobs s (End w p)) (drawn t w lt)
      ∙ ap (λ o. end o (draw t w) w p) (put-same t.held w (Some t.next))

  lawful : (ps : List Probed) (n : ℕ) (t : Round) → IsAt n t → n + length ps ≤ jobs
      → ((k : ℕ) → k < jobs → owner k < workers) → AreLawful jobs workers t (replay owner n ps)
  lawful [] n t at le low = tt
  lawful (p ∷ ps) n t at le low =
      let e = at.0 in
      let lt : t.next < jobs = omega arith in
      let lt_n : n < jobs = omega arith in
      let le_rest : suc n + length ps ≤ jobs = omega arith in (
        (low n lt_n, at.1 (owner n)),
        (
          subst (λ s. IsLawful workers s (End (owner n) p)) (sym (drawn t (owner n) lt))
              (t.next, put-same t.held (owner n) (Some t.next)),
          subst (λ s. AreLawful jobs workers s (replay owner (suc n) ps)) (sym (two t (owner n) p lt))
              (lawful ps (suc n) (give (draw t (owner n)) t.next (owner n) p) (at_next n t (owner n) p at) le_rest low),
        ),
      )

  over : (ps : List Probed) (n : ℕ) (t : Round) → IsAt n t → n + length ps ≤ jobs
      → IsAt (n + length ps) (after_all jobs t (replay owner n ps))
  over [] n t at le = ((let e = at.0 in omega arith), at.1)
  over (p ∷ ps) n t at le =
      let e = at.0 in
      let lt : t.next < jobs = omega arith in
      let le_rest : suc n + length ps ≤ jobs = omega arith in
      let rest = over ps (suc n) (give (draw t (owner n)) t.next (owner n) p) (at_next n t (owner n) p at) le_rest in
      subst (λ s. IsAt (n + length (p ∷ ps)) (after_all jobs s (replay owner (suc n) ps)))
      (sym (two t (owner n) p lt)) ((let r = rest.0 in omega arith), rest.1)

  kept : (k : ℕ) (ps : List Probed) (n : ℕ) (t : Round) → IsAt n t → n + length ps ≤ jobs → k < n
      → (after_all jobs t (replay owner n ps)).answers k ≡ t.answers k
  kept k [] n t at le low = refl
  kept k (p ∷ ps) n t at le low =
      let e = at.0 in
      let lt : t.next < jobs = omega arith in
      let le_rest : suc n + length ps ≤ jobs = omega arith in
      ap (λ s. (after_all jobs s (replay owner (suc n) ps)).answers k) (two t (owner n) p lt)
      ∙ kept k ps (suc n) (give (draw t (owner n)) t.next (owner n) p) (at_next n t (owner n) p at) le_rest
      (omega arith)
      ∙ put-other t.answers t.next (Some (owner n, p)) k (λ q. absurd (omega arith))

  answered : (i : ℕ) (ps : List Probed) (n : ℕ) (t : Round) → IsAt n t → n + length ps ≤ jobs
      → ((k : ℕ) → n ≤ k → t.answers k ≡ None)
      → (after_all jobs t (replay owner n ps)).answers (n + i) ≡ option_map (λ q. (owner (n + i), q)) (slice_get ps i)
  answered i [] n t at le none = none (n + i) (omega arith)
  answered zero (p ∷ ps) n t at le none =
      let e = at.0 in
      let lt : t.next < jobs = omega arith in
      let le_rest : suc n + length ps ≤ jobs = omega arith in
      let z : n ≡ n + zero = omega arith in
      subst (λ k. (after_all jobs t (replay owner n (p ∷ ps))).answers k ≡ Some (owner k, p)) z
      (ap (λ s. (after_all jobs s (replay owner (suc n) ps)).answers n) (two t (owner n) p lt)
      ∙ kept n ps (suc n) (give (draw t (owner n)) t.next (owner n) p) (at_next n t (owner n) p at) le_rest
      (omega arith)
      ∙ subst (λ k. put t.answers t.next (Some (owner n, p)) k ≡ Some (owner n, p)) at.0
      (put-same t.answers t.next (Some (owner n, p))))
  answered (suc i) (p ∷ ps) n t at le none =
      let e = at.0 in
      let lt : t.next < jobs = omega arith in
      let le_rest : suc n + length ps ≤ jobs = omega arith in
      let z : suc n + i ≡ n + suc i = omega arith in
      subst (λ k. (after_all jobs t (replay owner n (p ∷ ps))).answers k
      ≡ option_map (λ q. (owner k, q)) (slice_get ps i)) z
      (ap (λ s. (after_all jobs s (replay owner (suc n) ps)).answers (suc n + i)) (two t (owner n) p lt)
      ∙ answered i ps (suc n) (give (draw t (owner n)) t.next (owner n) p) (at_next n t (owner n) p at) le_rest
      (λ k high. put-other t.answers t.next (Some (owner n, p)) k (λ q. absurd (omega arith)) ∙ none k (omega arith)))

  by_worker : (w : ℕ) (answers ps : List Probed) (n : ℕ) (t : Round) → IsAt n t → n + length ps ≤ jobs
      → ((i : ℕ) → slice_get answers (n + i) ≡ slice_get ps i)
      → ends_by jobs w t (replay owner n ps) ≡ answers_at answers (own owner w n (length ps))
  by_worker w answers [] n t at le same_from = refl
  by_worker w answers (p ∷ ps) n t at le same_from =
      let e = at.0 in
      let o : ℕ = owner n in
      let lt : t.next < jobs = omega arith in
      let le_rest : suc n + length ps ≤ jobs = omega arith in
      let rest = by_worker w answers ps (suc n) (give (draw t (owner n)) t.next (owner n) p)
      (at_next n t (owner n) p at) le_rest
      (λ i. let z : suc n + i ≡ n + suc i = omega arith in ap (slice_get answers) z ∙ same_from (suc i)) in
      let z : n ≡ n + zero = omega arith in
      let here : slice_get answers n ≡ Some p = ap (slice_get answers) z ∙ same_from zero in
      let one : end_by w (after jobs t (Draw (owner n))) (End (owner n) p) ≡ cond (eqb (owner n) w) ((n, p) ∷ []) [] =
      ap (λ s. end_by w s (End (owner n) p)) (drawn t (owner n) lt)
      ∙ ap (λ x. cond (eqb (owner n) w) (numbered x p) []) (put-same t.held (owner n) (Some t.next) ∙ ap Some at.0) in
      let later = own owner w (suc n) (length ps) in
      (λ i. one i ++ (ap (λ s. ends_by jobs w s (replay owner (suc n) ps)) (two t (owner n) p lt) ∙ rest) i)
      ∙ dite (ℕ_discrete (owner n) w)
      (λ q. ap (λ b. cond b ((n, p) ∷ []) [] ++ answers_at answers (own owner w (suc n) (length ps)))
      (eq-eqb (owner n) w q)
      ∙ sym (ap (λ x. cons_option (option_map (λ r. (n, r)) x)
      (answers_at answers (own owner w (suc n) (length ps)))) here)
      ∙ ap (answers_at answers) (sym (own-yes owner w n (length ps) q)))
      (λ ne. ap (λ b. cond b ((n, p) ∷ []) [] ++ answers_at answers (own owner w (suc n) (length ps)))
      (ne_eqb (owner n) w ne)
      ∙ ap (answers_at answers) (sym (own-no owner w n (length ps) ne)))

weigh-ext : (f g : ℕ → ℕ) (xs : List ℕ) → ((n : ℕ) → 1 ≤ weigh (same n) xs → f n ≡ g n) → weigh f xs ≡ weigh g xs
weigh-ext f g [] h = refl
weigh-ext f g (x ∷ xs) h = let a = h x (let o = same-self x in omega arith)
    in let r = weigh-ext f g xs (λ n le. h n (omega arith)) in omega arith

deal-ext : (f g : ℕ → ℕ) (ds : List (List ℕ)) → ((n : ℕ) → 1 ≤ deal_weighs (same n) ds → f n ≡ g n)
    → deal_weighs f ds ≡ deal_weighs g ds
deal-ext f g [] h = refl
deal-ext f g (d ∷ ds) h = let a = weigh-ext f g d (λ n le. h n (omega arith))
    in let r = deal-ext f g ds (λ n le. h n (omega arith)) in omega arith

weigh-zero : (xs : List ℕ) → weigh (λ _. 0) xs ≡ 0
weigh-zero [] = refl
weigh-zero (x ∷ xs) = let r = weigh-zero xs in omega arith

deal-zero : (ds : List (List ℕ)) → deal_weighs (λ _. 0) ds ≡ 0
deal-zero [] = refl
deal-zero (d ∷ ds) = let r = deal-zero ds in let z = weigh-zero d in omega arith

owner-here : (d : List ℕ) (ds : List (List ℕ)) (n : ℕ) → 1 ≤ weigh (same n) d → owner_of (d ∷ ds) n ≡ 0
owner-here d ds n h = ap (λ b. cond b 0 (suc (owner_of ds n))) (le-leb 1 (weigh (same n) d) h)

owner-there : (d : List ℕ) (ds : List (List ℕ)) (n : ℕ) → weigh (same n) d ≡ 0
    → owner_of (d ∷ ds) n ≡ suc (owner_of ds n)
owner-there d ds n h = ap (λ b. cond b 0 (suc (owner_of ds n))) (lt-leb 1 (weigh (same n) d) (omega arith))

owner-low : (ds : List (List ℕ)) (n : ℕ) → 1 ≤ deal_weighs (same n) ds → owner_of ds n < length ds
owner-low [] n h = absurd (omega arith)
owner-low (d ∷ ds) n h = dite (dec_le 1 (weigh (same n) d))
    (λ y. let e = owner-here d ds n y in omega arith)
    (λ no. let e = owner-there d ds n (omega arith) in let r = owner-low ds n (omega arith) in omega arith)

-- what is weighed by owner is one list
owned : (ds : List (List ℕ)) (w : ℕ) (h : ℕ → ℕ) → ((n : ℕ) → deal_weighs (same n) ds ≤ 1) → w < length ds
    → deal_weighs (mask (owner_of ds) w h) ds ≡ weigh h (numbers_of ds w)
owned [] w h once low = absurd (omega arith)
owned (d ∷ ds) zero h once low =
    let a = weigh-ext (mask (owner_of (d ∷ ds)) 0 h) h d
    (λ n le. mask-own (owner_of (d ∷ ds)) 0 h n (owner-here d ds n le)) in
    let b = deal-ext (mask (owner_of (d ∷ ds)) 0 h) (λ _. 0) ds
    (λ n le. let o = once n in mask-else (owner_of (d ∷ ds)) 0 h n
    (λ e. let f = owner-there d ds n (omega arith) in absurd (omega arith))) in
    let z = deal-zero ds in omega arith
owned (d ∷ ds) (suc w) h once low =
    let a = weigh-ext (mask (owner_of (d ∷ ds)) (suc w) h) (λ _. 0) d
    (λ n le. mask-else (owner_of (d ∷ ds)) (suc w) h n
    (λ e. let f = owner-here d ds n le in absurd (omega arith))) in
    let z = weigh-zero d in
    let b = deal-ext (mask (owner_of (d ∷ ds)) (suc w) h) (mask (owner_of ds) w h) ds
    (λ n le. let o = once n in let f = owner-there d ds n (omega arith) in dite (ℕ_discrete (owner_of ds n) w)
    (λ e. mask-own (owner_of (d ∷ ds)) (suc w) h n (omega arith) ∙ sym (mask-own (owner_of ds) w h n e))
    (λ ne. mask-else (owner_of (d ∷ ds)) (suc w) h n (λ e. ne (omega arith))
    ∙ sym (mask-else (owner_of ds) w h n ne))) in
    let r = owned ds w h (λ n. let o = once n in omega arith) (omega arith) in omega arith

ascends_at : (ds : List (List ℕ)) (w : ℕ) → AllByRecursion IsAscending ds → IsAscending (numbers_of ds w)
ascends_at [] w a = tt
ascends_at (d ∷ ds) zero a = a.0
ascends_at (d ∷ ds) (suc w) a = ascends_at ds w a.1

same-upto : (n jobs : ℕ) → n < jobs → 1 ≤ weigh (same n) (upto jobs)
same-upto n zero lt = absurd (omega arith)
same-upto n (suc k) lt = dite (ℕ_discrete n k)
    (λ e. let o : same n k ≡ 1 = subst (λ x. same n x ≡ 1) e (same-self n)
    in omega (arith, weigh-snoc (same n) (upto k) k))
    (λ ne. let r = same-upto n k (omega arith) in omega (arith, weigh-snoc (same n) (upto k) k))

pub deal_is_round : (jobs : ℕ) (deal : List (List ℕ)) (answers : List Probed) → length answers ≡ jobs
    → AllByRecursion IsAscending deal → IsDealOf jobs deal → IsRound jobs deal answers
deal_is_round jobs deal answers len ascend is =
    let once : (n : ℕ) → deal_weighs (same n) deal ≤ 1 = λ n. let e = is (same n) in let o = same-upto-le n jobs
    in omega arith in
    let low : (n : ℕ) → n < jobs → owner_of deal n < length deal = λ n lt. owner-low deal n
    (let e = is (same n) in let o = same-upto n jobs lt in omega arith) in
    let le : 0 + length answers ≤ jobs = omega arith in
    let at : IsAt 0 start = (refl, λ w. refl) in
    let end = over jobs (length deal) (owner_of deal) answers 0 start at le in
    record {
      lawful = lawful jobs (length deal) (owner_of deal) answers 0 start at le low;
      over = ((let e = end.0 in omega arith), end.1);
      answered = λ n. let z : 0 + n ≡ n = omega arith in
          subst (λ k. (after_all jobs start (replay (owner_of deal) 0 answers)).answers k
          ≡ option_map (λ q. (owner_of deal k, q)) (slice_get answers n)) z
          (answered jobs (length deal) (owner_of deal) n answers 0 start at le (λ k high. refl));
      ended = λ w lt. by_worker jobs (length deal) (owner_of deal) w answers answers 0 start at le
          (λ i. let z : 0 + i ≡ i = omega arith in ap (slice_get answers) z)
          ∙ ap (answers_at answers) (ascending_same (own (owner_of deal) w 0 (length answers)) (numbers_of deal w)
          (own-ascends (owner_of deal) w 0 (length answers)) (ascends_at deal w ascend)
          (λ h. let own_all = weigh-own (owner_of deal) w h 0 (length answers) in
          let z : 0 + length answers ≡ jobs = omega arith in
          let e : weigh (mask (owner_of deal) w h) (upto (0 + length answers))
          ≡ weigh (mask (owner_of deal) w h) (upto jobs) = ap (λ k. weigh (mask (owner_of deal) w h) (upto k))
          z in
          let d = is (mask (owner_of deal) w h) in let o = owned deal w h once lt in omega arith));
    }
