-- In whatever order the children of some spawners finished, they say the same.
use Rattle.std.proofs.Common.{◌≡◌, ◌∙◌, refl, sym, ap, subst, arith, ℕ, ◌+◌, ◌≤◌, Bool, true, false, cond, not, List}
use Rattle.std.proofs.Common.{[], ◌∷◌, ◌++◌, map, drop, length, inl, inr, append_assoc}
use Rattle.std.specs.Prelude.{if◌then◌else◌, Option, Some}
use Rattle.std.specs.List.{AllByRecursion, filter}
use Rattle.std.proofs.lemmas.Bool.{cases_Bool}
use Rattle.std.proofs.Math.Seq.{drop-append_seam}
use Rattle.cnb_world.specs.Runs.{Ran}
use Rattle.cnb_world.specs.declared.child.DetectJob.{DetectJob}
use Rattle.cnb_toml.specs.declared.target.Target.{Target}
use Rattle.cnb_toml.specs.declared.names.Key.{Key}
use Rattle.cnb_toml.specs.Keys.{same_key}
use Rattle.order_expand.specs.declared.member.Member.{Member}
use Rattle.order_expand.specs.Groups.{distinct}
use Rattle.steps.specs.Asking.{AskedBy, AreSome, IsMadeOf, RunShares}
use Rattle.steps.specs.Outside.{SpawnerSeen}
use Rattle.detect_core.specs.declared.chosen.DetectFrame.{DetectFrame}
use Rattle.detect_core.specs.Answer.{answer_or_error, build_plan, is_fit, key_of, recorded, says, where_fit}
use Rattle.detect_core.specs.Detection.{members_of, same_member}
use Rattle.detect_core.specs.Job.{detect_job}
use Rattle.detect_core.proofs.MemberLemmas.{flat, same_key-true}

-- the weights of the elements, added up
abbrev pub total : {X : Type 0} → (X → ℕ) → List X → ℕ
total h [] = 0
total h (x ∷ xs) = h x + total h xs

abbrev pub totals : {X : Type 0} → (X → ℕ) → List (List X) → ℕ
totals h [] = 0
totals h (share ∷ shares) = total h share + totals h shares

total-append : {X : Type 0} (h : X → ℕ) (xs ys : List X) → total h (xs ++ ys) ≡ total h xs + total h ys
total-append h [] ys = omega arith
total-append h (x ∷ xs) ys = omega (arith, total-append h xs ys)

totals-append : {X : Type 0} (h : X → ℕ) (front back : List (List X))
    → totals h (front ++ back) ≡ totals h front + totals h back
totals-append h [] back = omega arith
totals-append h (share ∷ front) back = omega (arith, totals-append h front back)

total-map : {X Y : Type 0} (h : Y → ℕ) (f : X → Y) (xs : List X) → total h (map f xs) ≡ total (λ x. h (f x)) xs
total-map h f [] = refl
total-map h f (x ∷ xs) = ap (λ n. h (f x) + n) (total-map h f xs)

none_weigh : {X : Type 0} (h : X → ℕ) (shares : List (List X))
    → AllByRecursion (λ (share : List X). share ≡ []) shares → totals h shares ≡ 0
none_weigh h [] none = refl
none_weigh h (share ∷ shares) none = let e : total h share ≡ 0 = ap (total h) none.0
    in omega (arith, none_weigh h shares none.1)

-- what a list is made of weighs as much as the list
made-weighs : (h : Ran → ℕ) (rans : List Ran) (shares : List (List Ran)) → IsMadeOf rans shares
    → total h rans ≡ totals h shares
made-weighs h [] shares none = sym (none_weigh h shares none)
made-weighs h (ran ∷ rans) shares (front, rest, back, is, made) =
    let r = made-weighs h rans (front ++ rest ∷ back) made in
    let e : totals h shares ≡ totals h (front ++ (ran ∷ rest) ∷ back) = ap (totals h) is in
    omega (arith, totals-append h front (rest ∷ back), totals-append h front ((ran ∷ rest) ∷ back))

-- each spawner's share is what it ran since
abbrev since_all : List SpawnerSeen → List SpawnerSeen → List (List Ran)
since_all [] new = []
since_all (o ∷ old) [] = []
since_all (o ∷ old) (n ∷ new) = drop (length o.runs) n.runs ∷ since_all old new

shares_since : (shares : List (List Ran)) (old new : List SpawnerSeen) → RunShares shares old new
    → shares ≡ since_all old new
shares_since [] [] [] a = refl
shares_since (share ∷ shares) (o ∷ old) (n ∷ new) a =
    λ i. sym (ap (drop (length o.runs)) a.0.runs ∙ drop-append_seam o.runs share) i ∷ shares_since shares old new a.1 i
shares_since _ _ _ a = absurd a

-- 1 where the child is that of this buildpack
abbrev pub of_key : Key → Ran → ℕ
of_key key ran = if same_key key (key_of ran) then 1 else 0

-- no buildpack has two children
abbrev pub EachOnce : List Ran → Type 0
EachOnce rans = (key : Key) → total (of_key key) rans ≤ 1

abbrev joined : List (List Ran) → List Ran
joined [] = []
joined (share ∷ shares) = share ++ joined shares

joined-append : (front back : List (List Ran)) → joined (front ++ back) ≡ joined front ++ joined back
joined-append [] back = refl
joined-append (share ∷ front) back = ap (λ l. share ++ l) (joined-append front back)
    ∙ sym (append_assoc share (joined front) (joined back))

total-joined : (h : Ran → ℕ) (shares : List (List Ran)) → total h (joined shares) ≡ totals h shares
total-joined h [] = refl
total-joined h (share ∷ shares) = omega (arith, total-append h share (joined shares), total-joined h shares)

-- a child of another buildpack changes nothing
skipped : (key : Key) (front : List Ran) (ran : Ran) (back : List Ran) → same_key key (key_of ran) ≡ false
    → recorded (front ++ ran ∷ back) key ≡ recorded (front ++ back) key
skipped key [] ran back other = ap (λ b. cond b (Some ran.probed) (recorded back key)) other
skipped key (x ∷ front) ran back other = ap (λ o. cond (same_key key (key_of x)) (Some x.probed) o)
    (skipped key front ran back other)

-- the buildpack's own child decides, where none before it is the buildpack's
found : (key : Key) (front : List Ran) (ran : Ran) (back : List Ran) → same_key key (key_of ran) ≡ true
    → total (of_key key) front ≡ 0 → recorded (front ++ ran ∷ back) key ≡ Some ran.probed
found key [] ran back own none = ap (λ b. cond b (Some ran.probed) (recorded back key)) own
found key (x ∷ front) ran back own none = elim (cases_Bool (same_key key (key_of x))) [
  | inl e ↦ let one : of_key key x ≡ 1 = ap (λ b. cond b 1 0) e in absurd (omega (arith, none))
  | inr e ↦ ap (λ b. cond b (Some x.probed) (recorded (front ++ ran ∷ back) key)) e
      ∙ found key front ran back own (let zero_here : of_key key x ≡ 0 = ap (λ b. cond b 1 0) e
      in omega (arith, none))
]

-- what was recorded for a buildpack is what some share recorded for it
recorded-made : (key : Key) (rans : List Ran) (shares : List (List Ran)) → IsMadeOf rans shares
    → total (of_key key) rans ≤ 1 → recorded rans key ≡ recorded (joined shares) key
recorded-made key [] shares none once = sym (ap (λ l. recorded l key) (nothing shares none))
  where
    nothing : (ss : List (List Ran)) → AllByRecursion (λ (share : List Ran). share ≡ []) ss → joined ss ≡ []
    nothing [] n = refl
    nothing (s ∷ ss) n = λ i. n.0 i ++ nothing ss n.1 i
recorded-made key (ran ∷ rans) shares (front, rest, back, is, made) once =
    let whole : joined shares ≡ joined front ++ ran ∷ (rest ++ joined back) = ap joined is
    ∙ joined-append front ((ran ∷ rest) ∷ back) in
    let less : joined (front ++ rest ∷ back) ≡ joined front
    ++ (rest ++ joined back) = joined-append front (rest ∷ back) in
    let weight = made-weighs (of_key key) rans (front ++ rest ∷ back) made in
    elim (cases_Bool (same_key key (key_of ran))) [
      | inl e ↦ let one : of_key key ran ≡ 1 = ap (λ b. cond b 1 0) e in
          let none : total (of_key key) (joined front) ≡ 0 = omega (
            arith,
            once,
            weight,
            totals-append (of_key key) front (rest ∷ back),
            total-joined
                (of_key key) front,
          ) in
          ap (λ b. cond b (Some ran.probed) (recorded rans key)) e
          ∙ sym (ap (λ l. recorded l key) whole ∙ found key (joined front) ran (rest ++ joined back) e none)
      | inr e ↦ let again = recorded-made key rans (front ++ rest ∷ back) made
          (let here : of_key key ran ≡ 0 = ap (λ b. cond b 1 0) e in omega (arith, once)) in
          ap (λ b. cond b (Some ran.probed) (recorded rans key)) e
          ∙ (again ∙ (ap (λ l. recorded l key) less ∙ sym (ap (λ l. recorded l key) whole
          ∙ skipped key (joined front) ran (rest ++ joined back) e)))
    ]

-- where no buildpack has two children, any order of finishing records the same
pub recorded_in_any_order : (first second : List Ran) (old new : List SpawnerSeen) → AskedBy first old new
    → AskedBy second old new → EachOnce first → (key : Key) → recorded second key ≡ recorded first key
recorded_in_any_order first second old new a b once key =
    let shares : b.shares ≡ a.shares = shares_since b.shares old new b.ran
    ∙ sym (shares_since a.shares old new a.ran) in
    let made : IsMadeOf second a.shares = subst (IsMadeOf second) shares b.made in
    recorded-made key second a.shares made
    (let o = once key in omega (
      arith,
      made-weighs (of_key key) first a.shares a.made,
      made-weighs
          (of_key key) second a.shares made,
    ))
    ∙ sym (recorded-made key first a.shares a.made (once key))

-- and says the same
pub same_in_any_order : (target : Option Target) (first second : List Ran) (old new : List SpawnerSeen)
    → AskedBy first old new → AskedBy second old new → EachOnce first
    → says target build_plan second ≡ says target build_plan first
same_in_any_order target first second old new a b once =
    λ i member. where_fit (is_fit target member) (answer_or_error build_plan
    (recorded_in_any_order first second old new a b once member.key i))

-- ---- the members of the listed groups are of different buildpacks

abbrev of_member : Key → Member → ℕ
of_member key member = if same_key key member.key then 1 else 0

filter-weighs : {X : Type 0} (h : X → ℕ) (p : X → Bool) (xs : List X) → total h (filter p xs) ≤ total h xs
filter-weighs h p [] = omega arith
filter-weighs h p (x ∷ xs) = step (p x) (filter-weighs h p xs)
  where
    step : (b : Bool) → total h (filter p xs) ≤ total h xs → total h (cond b (x ∷ filter p xs) (filter p xs))
        ≤ h x + total h xs
    step true le = omega arith
    step false le = omega arith

filtered_out : (key : Key) (first : Member) (members : List Member) → key ≡ first.key
    → total (of_member key) (filter (λ n. not (same_member first n)) members) ≡ 0
filtered_out key first [] is = refl
filtered_out key first (m ∷ members) is = elim (cases_Bool (same_key first.key m.key)) [
  | inl e ↦ ap (λ b. total (of_member key) (cond (not b) (m ∷ filter (λ n. not (same_member first n)) members)
      (filter (λ n. not (same_member first n)) members))) e
      ∙ filtered_out key first members is
  | inr e ↦ ap (λ b. total (of_member key) (cond (not b) (m ∷ filter (λ n. not (same_member first n)) members)
      (filter (λ n. not (same_member first n)) members))) e
      ∙ (let here : of_member key m ≡ 0 = ap (λ b. cond b 1 0) (ap (λ k. same_key k m.key) is ∙ e) in
      omega (arith, filtered_out key first members is))
]

distinct_once : (key : Key) (members : List Member) → total (of_member key) (distinct same_member members) ≤ 1
distinct_once key [] = omega arith
distinct_once key (m ∷ members) = elim (cases_Bool (same_key key m.key)) [
  | inl e ↦ let here : of_member key m ≡ 1 = ap (λ b. cond b 1 0) e in
      omega (arith, filtered_out key m (distinct same_member members) (same_key-true key m.key e))
  | inr e ↦ let here : of_member key m ≡ 0 = ap (λ b. cond b 1 0) e in
      omega (
        arith,
        filter-weighs (of_member key) (λ n. not (same_member m n))
            (distinct same_member members),
        distinct_once key members,
      )
]

some-weighs : (h : DetectJob → ℕ) (some jobs : List DetectJob) → AreSome some jobs → total h some ≤ total h jobs
some-weighs h [] jobs a = omega arith
some-weighs h (job ∷ some) [] a = absurd a
some-weighs h (job ∷ some) (first ∷ jobs) (inl (is, a)) = let e : h job ≡ h first = ap h is
    in omega (arith, some-weighs h some jobs a)
some-weighs h (job ∷ some) (first ∷ jobs) (inr a) = omega (arith, some-weighs h (job ∷ some) jobs a)

abbrev of_job : Key → DetectJob → ℕ
of_job key job = if same_key key (record { id = job.id; version = job.version }) then 1 else 0

-- where the children are some of those of the members of some groups, no buildpack has two
pub each_once : (frame : DetectFrame) (groups : List (List Member)) (rans : List Ran)
    → AreSome (map (λ ran. ran.job) rans) (map (detect_job frame) (members_of groups)) → EachOnce rans
each_once frame groups rans some key =
    let left : total (of_job key) (map (λ ran. ran.job) rans)
    ≡ total (of_key key) rans = total-map (of_job key) (λ (ran : Ran). ran.job) rans in
    let right : total (of_job key) (map (detect_job frame) (members_of groups))
    ≡ total (of_member key) (members_of groups) = total-map (of_job key) (detect_job frame)
    (members_of groups) in
    omega (
      arith,
      left,
      right,
      some-weighs (of_job key) (map (λ ran. ran.job) rans)
          (map (detect_job frame) (members_of groups)) some,
      distinct_once key (flat groups),
    )

pub all_some : (jobs : List DetectJob) → AreSome jobs jobs
all_some [] = tt
all_some (job ∷ jobs) = inl (refl, all_some jobs)

pub all_once : (frame : DetectFrame) (groups : List (List Member)) (rans : List Ran)
    → map (λ ran. ran.job) rans ≡ map (detect_job frame) (members_of groups) → EachOnce rans
all_once frame groups rans is =
    each_once frame groups rans (subst (λ (jobs : List DetectJob). AreSome jobs
    (map (detect_job frame) (members_of groups))) (sym is)
    (all_some (map (detect_job frame) (members_of groups))))
