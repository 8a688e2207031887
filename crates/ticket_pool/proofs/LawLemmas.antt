-- Each job has one answer.
use Rattle.std.proofs.Common.{◌≡◌, ℕ, ◌+◌, ◌<◌, ◌≤◌, ◌≢◌, cond, eqb, List, [], ◌∷◌, ◌++◌, refl, sym, ap, ◌∙◌, subst}
use Rattle.std.proofs.Common.{arith, lt-ltb, le-ltb, eq-eqb, ne_eqb}
use Rattle.std.specs.Prelude.{Option, Some, None}
use mathlib.Core.Logic.{dite}
use native.Mathlib.Decide.{ℕ_discrete, dec_lt}
use Rattle.cnb_world.specs.declared.child.Probed.{Probed}
use Rattle.ticket_pool.specs.declared.round.Event.{Event}
use Rattle.ticket_pool.specs.declared.round.Event.TheVariants.{Draw, End}
use Rattle.ticket_pool.specs.Round.{Round, put, start, draw, give, end, after}
use Rattle.ticket_pool.specs.Law.{AreLawful, after_all, IsOver, drawn_by, draws, given_to, ended_by, ends}
use Rattle.ticket_pool.specs.Law.{EachJobHasOneAnswer}

pub some_inj : {A : Type 0} (a b : A) → Some a ≡ Some b → a ≡ b
some_inj a b e = cc

pub not_some : {A : Type 0} (a : A) (o : Option A) → o ≡ None → o ≡ Some a → ⊥
not_some a o e f = cc

-- what a function is after a put
module _ {A : Type 0} where
  pub put-same : (f : ℕ → A) (k : ℕ) (v : A) → put f k v k ≡ v
  put-same f k v = ap (λ b. cond b v (f k)) (eq-eqb k k refl)

  pub put-other : (f : ℕ → A) (k : ℕ) (v : A) (j : ℕ) → j ≢ k → put f k v j ≡ f j
  put-other f k v j ne = ap (λ b. cond b v (f j)) (ne_eqb j k ne)

-- a held number is below the next, has no answer and one worker; no number from the next on has an answer
abbrev Inv : Round → Type 0
Inv s =
    ((w n : ℕ) → s.held w ≡ Some n → (n < s.next) × (s.answers n ≡ None))
    × ((w u n : ℕ) → s.held w ≡ Some n → s.held u ≡ Some n → w ≡ u)
    × ((n : ℕ) → s.next ≤ n → s.answers n ≡ None)

-- what w holds after a put
was : (f : ℕ → Option ℕ) (k : ℕ) (v : Option ℕ) (j n : ℕ) → put f k v j ≡ Some n → ((j ≡ k) → v ≡ Some n → ⊥)
    → (j ≢ k → f j ≡ Some n → ⊥) → ⊥
was f k v j n e hit miss = dite (ℕ_discrete j k)
    (λ q. hit q (sym (put-same f k v) ∙ subst (λ x. put f k v x ≡ Some n) q e))
    (λ ne. miss ne (sym (put-other f k v j ne) ∙ e))

-- by cases on whether j is k
at_put : (P : Type 0) (f : ℕ → Option ℕ) (k : ℕ) (v : Option ℕ) (j n : ℕ) → put f k v j ≡ Some n
    → (j ≡ k → v ≡ Some n → P) → (j ≢ k → f j ≡ Some n → P) → P
at_put P f k v j n e hit miss = dite (ℕ_discrete j k)
    (λ q. hit q (sym (put-same f k v) ∙ subst (λ x. put f k v x ≡ Some n) q e))
    (λ ne. miss ne (sym (put-other f k v j ne) ∙ e))

inv_draw : (s : Round) (w : ℕ) → Inv s → Inv (draw s w)
inv_draw s w i = (
  (λ u n e. at_put ((n < s.next + 1) × (s.answers n ≡ None)) s.held w (Some s.next) u n e
      (λ q f. let g = some_inj s.next n f in (omega arith, i.2 n (omega arith)))
      (λ ne f. let r = (i.0 u n f).0 in (omega arith, (i.0 u n f).1))),
  (λ u t n e f. at_put (u ≡ t) s.held w (Some s.next) u n e
      (λ q g. at_put (u ≡ t) s.held w (Some s.next) t n f (λ q' g'. omega arith)
      (λ ne' g'. let a = some_inj s.next n g in let b = (i.0 t n g').0 in absurd (omega arith)))
      (λ ne g. at_put (u ≡ t) s.held w (Some s.next) t n f
      (λ q' g'. let a = some_inj s.next n g' in let b = (i.0 u n g).0 in absurd (omega arith))
      (λ ne' g'. i.1 u t n g g'))),
  (λ n le. i.2 n (omega arith)),
)

inv_end : (s : Round) (w m : ℕ) (p : Probed) → Inv s → s.held w ≡ Some m → Inv (give s m w p)
inv_end s w m p i h = (
  (λ u n e. at_put ((n < s.next) × (put s.answers m (Some (w, p)) n ≡ None)) s.held w None u n e
      (λ q f. absurd (not_some n None refl f))
      (λ ne f. (
        (i.0 u n f).0,
        put-other s.answers m (Some (w, p)) n (λ q. ne (i.1 u w n f (h ∙ ap Some (sym q))))
            ∙ (i.0 u n f).1,
      ))),
  (λ u t n e f. at_put (u ≡ t) s.held w None u n e
      (λ q g. absurd (not_some n None refl g))
      (λ ne g. at_put (u ≡ t) s.held w None t n f (λ q' g'. absurd (not_some n None refl g'))
      (λ ne' g'. i.1 u t n g g'))),
  (λ n le. let lt = (i.0 w m h).0 in put-other s.answers m (Some (w, p)) n (λ q. absurd (omega arith)) ∙ i.2 n le),
)

module _ (jobs workers : ℕ) where
  abbrev Out : ℕ → Round → List Event → List ℕ → List (ℕ × Probed) → ℕ × Probed → Type 0
  Out n s es dl el a = (draws jobs n s es ≡ dl) × (ends jobs n s es ≡ el) × ((after_all jobs s es).answers n ≡ Some a)

  out : (n : ℕ) (s t : Round) (e : Event) (es : List Event) (d : List ℕ) (l : List (ℕ × Probed)) (dl : List ℕ)
      (el : List (ℕ × Probed)) (a : ℕ × Probed)
      → after jobs s e ≡ t → drawn_by jobs n s e ≡ d → ended_by n s e ≡ l → Out n t es dl el a
      → Out n s (e ∷ es) (d ++ dl) (l ++ el) a
  out n s t e es d l dl el a go p q r = (
    (λ i. p i ++ draws jobs n (go i) es) ∙ ap (λ x. d ++ x) r.0,
    (λ i. q i ++ ends jobs n (go i) es) ∙ ap (λ x. l ++ x) r.1,
    ap (λ x. (after_all jobs x es).answers n) go ∙ r.2,
  )

  go_yes : (s : Round) (w : ℕ) → s.next < jobs → after jobs s (Draw w) ≡ draw s w
  go_yes s w lt = ap (λ b. cond b (draw s w) s) (lt-ltb s.next jobs lt)

  go_no : (s : Round) (w : ℕ) → jobs ≤ s.next → after jobs s (Draw w) ≡ s
  go_no s w le = ap (λ b. cond b (draw s w) s) (le-ltb s.next jobs le)

  go_end : (s : Round) (w : ℕ) (p : Probed) (m : ℕ) → s.held w ≡ Some m → after jobs s (End w p) ≡ give s m w p
  go_end s w p m h = ap (λ o. end o s w p) h

  none_drawn : (n : ℕ) (s : Round) (w : ℕ) → s.next ≢ n → drawn_by jobs n s (Draw w) ≡ []
  none_drawn n s w ne = dite (dec_lt s.next jobs)
      (λ lt. (λ i. cond (lt-ltb s.next jobs lt i) (cond (ne_eqb s.next n ne i) (w ∷ []) []) []))
      (λ ge. ap (λ b. cond b (cond (eqb s.next n) (w ∷ []) []) []) (le-ltb s.next jobs (omega arith)))

  not_drawn : (n : ℕ) (s : Round) (w : ℕ) → jobs ≤ s.next → drawn_by jobs n s (Draw w) ≡ []
  not_drawn n s w le = ap (λ b. cond b (cond (eqb s.next n) (w ∷ []) []) []) (le-ltb s.next jobs le)

  is_drawn : (n : ℕ) (s : Round) (w : ℕ) → s.next < jobs → s.next ≡ n → drawn_by jobs n s (Draw w) ≡ w ∷ []
  is_drawn n s w lt e = λ i. cond (lt-ltb s.next jobs lt i) (cond (eq-eqb s.next n e i) (w ∷ []) []) []

  none_ended : (n : ℕ) (s : Round) (w : ℕ) (p : Probed) (m : ℕ) → s.held w ≡ Some m → m ≢ n
      → ended_by n s (End w p) ≡ []
  none_ended n s w p m h ne = ap (λ o. given_to n o w p) h ∙ ap (λ b. cond b ((w, p) ∷ []) []) (ne_eqb m n ne)

  is_ended : (n : ℕ) (s : Round) (w : ℕ) (p : Probed) → s.held w ≡ Some n → ended_by n s (End w p) ≡ (w, p) ∷ []
  is_ended n s w p h = ap (λ o. given_to n o w p) h ∙ ap (λ b. cond b ((w, p) ∷ []) []) (eq-eqb n n refl)

  -- a number with an answer keeps it, and is not drawn or ended again
  answered : (n : ℕ) (a : ℕ × Probed) (s : Round) (es : List Event) → Inv s → AreLawful jobs workers s es
      → s.answers n ≡ Some a → Out n s es [] [] a
  answered n a s [] i l h = (refl, refl, h)
  answered n a s (Draw w ∷ es) i l h = dite (dec_lt s.next jobs)
      (λ lt. out n s (draw s w) (Draw w) es [] [] [] [] a (go_yes s w lt)
      (none_drawn n s w (λ e. not_some a (s.answers n) (i.2 n (omega arith)) h)) refl
      (answered n a (draw s w) es (inv_draw s w i) (subst (λ t. AreLawful jobs workers t es) (go_yes s w lt) l.1) h))
      (λ ge. out n s s (Draw w) es [] [] [] [] a (go_no s w (omega arith)) (not_drawn n s w (omega arith)) refl
      (answered n a s es i (subst (λ t. AreLawful jobs workers t es) (go_no s w (omega arith)) l.1) h))
  answered n a s (End w p ∷ es) i l h =
      let m = l.0.0 in let hm = l.0.1 in
      let ne : m ≢ n = λ e. not_some a (s.answers n) (subst (λ k. s.answers k ≡ None) e (i.0 w m hm).1) h in
      out n s (give s m w p) (End w p) es [] [] [] [] a (go_end s w p m hm) refl (none_ended n s w p m hm ne)
      (answered n a (give s m w p) es (inv_end s w m p i hm)
      (subst (λ t. AreLawful jobs workers t es) (go_end s w p m hm) l.1)
      (put-other s.answers m (Some (w, p)) n (λ e. ne (sym e)) ∙ h))

  -- a number that a worker holds is ended by it, once
  held_ends : (n w : ℕ) (s : Round) (es : List Event) → Inv s → AreLawful jobs workers s es
      → IsOver jobs (after_all jobs s es) → s.held w ≡ Some n → (p : Probed) × Out n s es [] ((w, p) ∷ []) (w, p)
  held_ends n w s [] i l o h = absurd (not_some n (s.held w) (o.1 w) h)
  held_ends n w s (Draw u ∷ es) i l o h =
      let ne : w ≢ u = λ e. not_some n (s.held u) l.0.1 (subst (λ k. s.held k ≡ Some n) e h) in
      let low = (i.0 w n h).0 in
      dite (dec_lt s.next jobs)
      (λ lt. let r = held_ends n w (draw s u) es (inv_draw s u i)
      (subst (λ t. AreLawful jobs workers t es) (go_yes s u lt) l.1)
      (subst (λ t. IsOver jobs (after_all jobs t es)) (go_yes s u lt) o)
      (put-other s.held u (Some s.next) w ne ∙ h) in (
        r.0,
        out n s (draw s u) (Draw u) es [] [] [] ((w, r.0) ∷ []) (w, r.0) (go_yes s u lt)
            (none_drawn n s u (λ e. absurd (omega arith))) refl r.1,
      ))
      (λ ge. let r = held_ends n w s es i (subst (λ t. AreLawful jobs workers t es) (go_no s u (omega arith)) l.1)
      (subst (λ t. IsOver jobs (after_all jobs t es)) (go_no s u (omega arith)) o) h in (
        r.0,
        out n s s (Draw u) es [] [] [] ((w, r.0) ∷ []) (w, r.0) (go_no s u (omega arith))
            (not_drawn n s u (omega arith)) refl r.1,
      ))
  held_ends n w s (End u p ∷ es) i l o h =
      let m = l.0.0 in let hm = l.0.1 in
      let lawful = subst (λ t. AreLawful jobs workers t es) (go_end s u p m hm) l.1 in
      let over = subst (λ t. IsOver jobs (after_all jobs t es)) (go_end s u p m hm) o in
      dite (ℕ_discrete w u)
      (λ e. let same : m ≡ n = some_inj m n (sym hm ∙ subst (λ k. s.held k ≡ Some n) e h) in
      let hn : s.held u ≡ Some n = subst (λ k. s.held k ≡ Some n) e h in
      let r = answered n (u, p) (give s m u p) es (inv_end s u m p i hm) lawful
      (subst (λ k. put s.answers k (Some (u, p)) n ≡ Some (u, p)) (sym same)
      (put-same s.answers n (Some (u, p)))) in
      subst (λ k. (p' : Probed) × Out n s (End u p ∷ es) [] ((k, p') ∷ []) (k, p')) (sym e) (
        p,
        out n s (give s m u p) (End u p) es [] ((u, p) ∷ []) [] [] (u, p) (go_end s u p m hm) refl
            (is_ended n s u p hn) r,
      ))
      (λ ne. let other : m ≢ n = λ q. ne (i.1 w u n h (hm ∙ ap Some q)) in
      let r = held_ends n w (give s m u p) es (inv_end s u m p i hm) lawful over (put-other s.held u None w ne ∙ h) in (
        r.0,
        out n s (give s m u p) (End u p) es [] [] [] ((w, r.0) ∷ []) (w, r.0) (go_end s u p m hm) refl
            (none_ended n s u p m hm other) r.1,
      ))

  -- a number that is not drawn yet
  fresh : (n : ℕ) (s : Round) (es : List Event) → Inv s → AreLawful jobs workers s es
      → IsOver jobs (after_all jobs s es) → s.next ≤ n → n < jobs → (w : ℕ) × (p : Probed)
      × Out n s es (w ∷ []) ((w, p) ∷ []) (w, p)
  fresh n s [] i l o le lt = let e = o.0 in absurd (omega arith)
  fresh n s (Draw u ∷ es) i l o le lt =
      let yes : s.next < jobs = omega arith in
      let lawful = subst (λ t. AreLawful jobs workers t es) (go_yes s u yes) l.1 in
      let over = subst (λ t. IsOver jobs (after_all jobs t es)) (go_yes s u yes) o in
      dite (ℕ_discrete s.next n)
      (λ e. let r = held_ends n u (draw s u) es (inv_draw s u i) lawful over
      (put-same s.held u (Some s.next) ∙ ap Some e) in (
        u,
        r.0,
        out n s (draw s u) (Draw u) es (u ∷ []) [] [] ((u, r.0) ∷ []) (u, r.0) (go_yes s u yes)
            (is_drawn n s u yes e) refl r.1,
      ))
      (λ ne. let r = fresh n (draw s u) es (inv_draw s u i) lawful over (omega arith) lt in (
        r.0,
        r.1,
        out n s (draw s u) (Draw u) es [] [] (r.0 ∷ []) ((r.0, r.1) ∷ []) (r.0, r.1) (go_yes s u yes)
            (none_drawn n s u ne) refl r.2,
      ))
  fresh n s (End u p ∷ es) i l o le lt =
      let m = l.0.0 in let hm = l.0.1 in
      let low = (i.0 u m hm).0 in
      let r = fresh n (give s m u p) es (inv_end s u m p i hm)
      (subst (λ t. AreLawful jobs workers t es) (go_end s u p m hm) l.1)
      (subst (λ t. IsOver jobs (after_all jobs t es)) (go_end s u p m hm) o) le lt in (
        r.0,
        r.1,
        out n s (give s m u p) (End u p) es [] [] (r.0 ∷ []) ((r.0, r.1) ∷ []) (r.0, r.1)
            (go_end s u p m hm) refl (none_ended n s u p m hm (λ q. absurd (omega arith))) r.2,
      )

pub each_once : EachJobHasOneAnswer
each_once jobs workers es l o n lt =
    let r = fresh jobs workers n start es (
      (λ w m e. absurd (not_some m None refl e)),
      (λ w u m e f. absurd (not_some m None refl e)),
      λ m le. refl,
    ) l o (omega arith) lt in
    record { worker = r.0; probed = r.1; drawn = r.2.0; ended = r.2.1; answer = r.2.2 }
