-- Children that the first of some spawners ran.
use Rattle.std.proofs.Common.{◌≡◌, ◌∙◌, refl, sym, ap, subst, arith, ℕ, zero, suc, List, [], ◌∷◌, ◌++◌, take, drop}
use Rattle.std.proofs.Common.{length, Option, inl, append-nil, append_assoc}
use Rattle.std.proofs.Math.Seq.{drop-append_seam}
use Rattle.std.specs.List.{AllByRecursion}
use Rattle.cnb_world.specs.Calls.{Rose}
use Rattle.cnb_world.specs.Runs.{Ran, IsSaid}
use Rattle.cnb_world.specs.declared.child.DetectJob.{DetectJob}
use Rattle.cnb_world.specs.declared.child.Reply.{Reply}
use Rattle.steps.specs.Outside.{SpawnerSeen}
use Rattle.steps.specs.Asking.{AskedBy, IsMadeOf, AreSaid, AreSome, Grows, NoneFell, OneRose, RunsMore, RunShares}

-- the others ran none
abbrev pub none_each : List SpawnerSeen → List (List Ran)
none_each [] = []
none_each (spawner ∷ spawners) = [] ∷ none_each spawners

none_left : (others : List SpawnerSeen) → AllByRecursion (λ (share : List Ran). share ≡ []) (none_each others)
none_left [] = tt
none_left (other ∷ others) = (refl, none_left others)

pub made_of_first : (rans : List Ran) (others : List SpawnerSeen) → IsMadeOf rans (rans ∷ none_each others)
made_of_first [] others = (refl, none_left others)
made_of_first (ran ∷ rans) others = ([], rans, none_each others, refl, made_of_first rans others)

rests : (others : List SpawnerSeen) → RunShares (none_each others) others others
rests [] = tt
rests (other ∷ others) = (record { runs = sym (append-nil other.runs); says = refl; said = tt }, rests others)

-- nobody was asked
pub asked_none : (spawners : List SpawnerSeen) → AskedBy [] spawners spawners
asked_none spawners = record { shares = none_each spawners; made = none_left spawners; ran = rests spawners }

pub first_ran : (rans : List Ran) (old new : SpawnerSeen) (others : List SpawnerSeen) → RunsMore rans old new
    → RunShares (rans ∷ none_each others) (old ∷ others) (new ∷ others)
first_ran rans old new others h = (h, rests others)

-- the first of some jobs are some of them
pub some_by_take : (n : ℕ) (jobs : List DetectJob) → AreSome (take n jobs) jobs
some_by_take zero jobs = tt
some_by_take (suc n) [] = tt
some_by_take (suc n) (job ∷ jobs) = inl (refl, some_by_take n jobs)

pub none_fell : (counts : List ℕ) → NoneFell counts counts
none_fell [] = tt
none_fell (count ∷ counts) = (omega arith, none_fell counts)

pub first_rose : (before now : ℕ) (counts : List ℕ) → Rose before now → OneRose (before ∷ counts) (now ∷ counts)
first_rose before now counts rose = inl (rose, none_fell counts)

-- a spawner that ran none, one that ran one, and one that ran some and then more
pub ran_none : (old new : SpawnerSeen) → new.runs ≡ old.runs → new.says ≡ old.says → Grows old new
ran_none old new runs says = record {
  rans = [];
  more = record
      { runs = runs ∙ sym (append-nil old.runs); says = says; said = tt };
}

pub ran_one : (old new : SpawnerSeen) (ran : Ran) → new.runs ≡ old.runs ++ ran ∷ [] → new.says ≡ old.says
    → IsSaid old.says ran.job ran.probed → Grows old new
ran_one old new ran runs says said = record {
  rans = ran
      ∷ [];
  more = record { runs = runs; says = says; said = (said, tt) };
}

all_said : (says : Option (List Reply)) (first second : List Ran) → AreSaid says first → AreSaid says second
    → AreSaid says (first ++ second)
all_said says [] second a b = b
all_said says (ran ∷ first) second a b = (a.0, all_said says first second a.1 b)

pub ran_then : (old mid new : SpawnerSeen) → Grows old mid → Grows mid new → Grows old new
ran_then old mid new first second = record {
  rans = first.rans ++ second.rans;
  more = record {
    runs = second.more.runs ∙ ap (λ r. r ++ second.rans) first.more.runs ∙ append_assoc old.runs first.rans second.rans;
    says = second.more.says ∙ first.more.says;
    said = all_said old.says first.rans second.rans first.more.said
        (subst (λ says. AreSaid says second.rans) first.more.says second.more.said);
  };
}

-- the first of some spawners ran all children
pub asked_by_first : (old new : SpawnerSeen) (others : List SpawnerSeen) → Grows old new
    → AskedBy (drop (length old.runs) new.runs) (old ∷ others) (new ∷ others)
asked_by_first old new others grows =
    let same : drop (length old.runs) new.runs ≡ grows.rans = ap (drop (length old.runs)) grows.more.runs
    ∙ drop-append_seam old.runs grows.rans in
    subst (λ (rans : List Ran). AskedBy rans (old ∷ others) (new ∷ others)) (sym same)
    record {
      shares = grows.rans ∷ none_each others;
      made = made_of_first grows.rans others;
      ran = first_ran
          grows.rans old new others grows.more;
    }
