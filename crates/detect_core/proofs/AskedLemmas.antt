-- What spawners ran between them in one round after another.
use Rattle.std.proofs.Common.{◌≡◌, ◌∙◌, refl, sym, ap, subst, arith, ◌<◌, List, [], ◌∷◌, ◌++◌, map, length}
use Rattle.std.proofs.Common.{length-append, append_assoc, append-nil, Option}
use Rattle.std.specs.List.{AllByRecursion}
use Rattle.cnb_world.specs.Runs.{Ran}
use Rattle.cnb_world.specs.declared.child.Reply.{Reply}
use Rattle.steps.specs.Asking.{AskedBy, AreSaid, IsMadeOf, RunsMore, RunShares}
use Rattle.steps.specs.Outside.{SpawnerSeen}

-- the shares of two rounds, each spawner's put together
abbrev pub both_shares : List (List Ran) → List (List Ran) → List (List Ran)
both_shares [] mores = mores
both_shares (share ∷ shares) [] = share ∷ shares
both_shares (share ∷ shares) (more ∷ mores) = (share ++ more) ∷ both_shares shares mores

-- one share among others, and what the second round adds to it
record Split (front back mores : List (List Ran)) : Type 0 where
  before : List (List Ran)
  own : List Ran
  behind : List (List Ran)
  at : (xs : List Ran) → both_shares (front ++ xs ∷ back) mores ≡ before ++ (xs ++ own) ∷ behind

split : (front back mores : List (List Ran)) → Split front back mores
split [] back [] = record {
  before = [];
  own = [];
  behind = back;
  at = λ xs. ap (λ ys. ys ∷ back)
      (sym (append-nil xs));
}
split [] back (more ∷ mores) = record { before = []; own = more; behind = both_shares back mores; at = λ xs. refl }
split (share ∷ front) back [] = record {
  before = share ∷ front;
  own = [];
  behind = back;
  at = λ xs. ap (λ ys. share ∷ front ++ ys ∷ back) (sym (append-nil xs));
}
split (share ∷ front) back (more ∷ mores) =
    let r = split front back mores in
    record {
      before = (share ++ more) ∷ r.before;
      own = r.own;
      behind = r.behind;
      at = λ xs. ap
          (λ l. (share ++ more) ∷ l) (r.at xs);
    }

none_both : (shares mores : List (List Ran)) → length shares ≡ length mores
    → AllByRecursion (λ (share : List Ran). share ≡ []) shares → both_shares shares mores ≡ mores
none_both [] mores same none = refl
none_both (share ∷ shares) [] same none = absurd (omega arith)
none_both (share ∷ shares) (more ∷ mores) same none = λ i. (none.0 i ++ more)
    ∷ none_both shares mores (omega arith) none.1 i

-- what one round ran, and behind it what the other ran
made_then : (first second : List Ran) (shares mores : List (List Ran)) → length shares ≡ length mores
    → IsMadeOf first shares → IsMadeOf second mores → IsMadeOf (first ++ second) (both_shares shares mores)
made_then [] second shares mores same none made = subst (IsMadeOf second) (sym (none_both shares mores same none)) made
made_then (ran ∷ first) second shares mores same (front, rest, back, is, made) made' =
    let s = split front back mores in
    let whole : both_shares shares mores ≡ s.before ++ (ran ∷ (rest ++ s.own))
    ∷ s.behind = ap (λ l. both_shares l mores) is ∙ s.at (ran ∷ rest) in
    let long : length (front ++ rest ∷ back) ≡ length mores =
    omega (arith, ap length is, length-append front ((ran ∷ rest) ∷ back), length-append front (rest ∷ back)) in (
      s.before,
      rest ++ s.own,
      s.behind,
      whole,
      subst (IsMadeOf (first ++ second)) (s.at rest)
          (made_then first second (front ++ rest ∷ back) mores long made made'),
    )

all_said : (says : Option (List Reply)) (first second : List Ran) → AreSaid says first → AreSaid says second
    → AreSaid says (first ++ second)
all_said says [] second a b = b
all_said says (ran ∷ first) second a b = (a.0, all_said says first second a.1 b)

more_then : (share more : List Ran) (old mid new : SpawnerSeen) → RunsMore share old mid → RunsMore more mid new
    → RunsMore (share ++ more) old new
more_then share more old mid new a b = record {
  runs = b.runs ∙ ap (λ r. r ++ more) a.runs ∙ append_assoc old.runs share more;
  says = b.says ∙ a.says;
  said = all_said old.says share more a.said (subst (λ says. AreSaid says more) a.says b.said);
}

shares_then : (shares mores : List (List Ran)) (old mid new : List SpawnerSeen) → RunShares shares old mid
    → RunShares mores mid new → RunShares (both_shares shares mores) old new
shares_then [] [] [] [] [] a b = tt
shares_then [] [] [] [] (n ∷ new) a b = absurd b
shares_then [] (more ∷ mores) [] [] new a b = absurd b
shares_then [] mores [] (m ∷ mid) new a b = absurd a
shares_then [] mores (o ∷ old) mid new a b = absurd a
shares_then (share ∷ shares) mores [] mid new a b = absurd a
shares_then (share ∷ shares) mores (o ∷ old) [] new a b = absurd a
shares_then (share ∷ shares) [] (o ∷ old) (m ∷ mid) new a b = absurd b
shares_then (share ∷ shares) (more ∷ mores) (o ∷ old) (m ∷ mid) [] a b = absurd b
shares_then (share ∷ shares) (more ∷ mores) (o ∷ old) (m ∷ mid) (n ∷ new) a b =
    (more_then share more o m n a.0 b.0, shares_then shares mores old mid new a.1 b.1)

-- each spawner has a share
shares_long : (shares : List (List Ran)) (old new : List SpawnerSeen) → RunShares shares old new
    → (length shares ≡ length old) × (length new ≡ length old)
shares_long [] [] [] a = (refl, refl)
shares_long (share ∷ shares) (o ∷ old) (n ∷ new) a = let r = shares_long shares old new a.1
    in (omega (arith, r.0), omega (arith, r.1))
shares_long _ _ _ a = absurd a

pub asked_then : (first second : List Ran) (old mid new : List SpawnerSeen) → AskedBy first old mid
    → AskedBy second mid new → AskedBy (first ++ second) old new
asked_then first second old mid new a b =
    let p = shares_long a.shares old mid a.ran in
    let q = shares_long b.shares mid new b.ran in
    record {
      shares = both_shares a.shares b.shares;
      made = made_then first second a.shares b.shares (omega (arith, p.0, p.1, q.0)) a.made b.made;
      ran = shares_then a.shares b.shares old mid new a.ran b.ran;
    }

-- there are as many spawners as before
pub still_some : {S : Type 0} (see : S → SpawnerSeen) (ran : List Ran) (old new : List S)
    → AskedBy ran (map see old) (map see new) → 0 < length old → 0 < length new
still_some see ran [] new a some = absurd (omega arith)
still_some see ran (o ∷ old) [] a some = let p = (shares_long a.shares (map see (o ∷ old)) [] a.ran).1
    in absurd (omega (arith, p))
still_some see ran (o ∷ old) (n ∷ new) a some = omega arith
