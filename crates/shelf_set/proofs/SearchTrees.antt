-- A search for a tree that is laid where a shelf has it.
use Rattle.std.proofs.Common.{◌≡◌, ◌∙◌, refl, sym, ap, subst, arith, ℕ, ◌+◌, ◌-◌, ◌<◌, ◌≤◌, Bool, List, codes, ◌++◌}
use Rattle.std.proofs.Common.{◌∷◌, map}
use Rattle.std.proofs.Common.{length, Option, Some, None, Result, Ok, Err}
use Rattle.std.specs.List.{AllByRecursion}
use Rattle.std.specs.Option.{option_map}
use Rattle.cnb_world.specs.Calls.{MayMisuse}
use Rattle.cnb_world.specs.Tree.{Tree}
use Rattle.cnb_world.specs.declared.shelf.ShelfFault.{ShelfFault}
use Rattle.cnb_world.specs.declared.shelf.ShelfFault.TheVariants as shelf
use Rattle.cnb_world.specs.declared.values.Memory.{Memory}
use Rattle.steps.specs.Causes.{ended_by}
use Rattle.steps.specs.Counts.{FileCounts}
use Rattle.steps.specs.Outside.{Seen}
use Rattle.steps.proofs.EndLaws.{files_link, files_rest}
use Rattle.tree_canon.specs.declared.judging.Judged.{Judged}
use Rattle.tree_canon.specs.declared.judging.Judged.TheVariants as judged
use Rattle.tree_canon.specs.declared.node.Node.{Node}
use Rattle.tree_store.proofs.Around.{itself, onward}
use Rattle.tree_store.specs.Answers.{cause_of}
use Rattle.tree_store.specs.Around.{LeavesAround}
use Rattle.tree_store.specs.Partly.{LaidPartly, items_placed}
use Rattle.tree_store.specs.Steps.{IsCauseWithin, can_lay, lays_tree}
use Rattle.tree_store.specs.declared.fault.StoreFault.TheVariants as store
use Rattle.tree_store.specs.declared.fault.StoreFault.{StoreFault}
use Rattle.shelf_set.specs.Dropping.{Turn, after_of, before_of, failed_of, left_of, number_of}
use Rattle.shelf_set.specs.Finding.{TellsSame}
use Rattle.shelf_set.specs.Laying.{AnswersBy, AnswersFiles, AnswersTold, EndsBy, EndsFiles, EndsTold, Fits, IsRefused}
use Rattle.shelf_set.specs.Laying.{JudgedFiles, Passes, SearchesTree, TakesTree, TurnEnds}
use Rattle.shelf_set.specs.Restoring.{LaysNothing, Tells}
use Rattle.shelf_set.specs.Searching.{Asks, Searches, Searching}
use Rattle.shelf_set.specs.ShelfState.{ShelfState}
use Rattle.shelf_set.specs.Turns.{Goes, TakesTurn, is_failed}
use Rattle.shelf_set.specs.declared.restoring.Found.{Found}
use Rattle.shelf_set.specs.declared.restoring.Found.TheVariants as found
use Rattle.shelf_set.proofs.Lists.{all_both}
use Rattle.shelf_set.proofs.RestoreLemmas.{all_split, chosen, still_tell}
use Rattle.shelf_set.proofs.TurnLemmas.{standing_of}
use Rattle.std.proofs.lemmas.List.{length-append, length-map}
use Rattle.shelf_set.proofs.SearchLemmas.{begin, failing, holding, lacking, nowhere, stopped}

-- ---- what passed is as if it hadn't been

pub nothing_on : (a b c : Seen) → LaysNothing a b → LaysNothing b c → LaysNothing a c
nothing_on a b c h k = record { files = k.files ∙ h.files; misused = k.misused ∙ h.misused }

pub lays_from : (root place : List ℕ) (tree : Node) (a b c : Seen) (result : Result (Unit {0}) StoreFault)
    → LaysNothing a b → LeavesAround root a b → FileCounts None a b → lays_tree root place tree b result c
    → lays_tree root place tree a result c
unfolding lays_tree
lays_from root place tree a b c (Ok done) nothing around counts (files, after, allows, ends) = (
  files ∙ ap (option_map _) nothing.files,
  onward root a b c around after,
  subst (λ o. MayMisuse (option_map (can_lay root place tree) o) a.misused c.misused) nothing.files
      (subst (λ n. MayMisuse (option_map (can_lay root place tree) b.files) n c.misused) nothing.misused allows),
  files_link None a b c counts ends,
)
lays_from root place tree a b c (Err fault) nothing around counts (cause, after, allows, ends, partly) = (
  cause,
  onward root a b c around after,
  subst (λ o. MayMisuse (option_map (can_lay root place tree) o) a.misused c.misused) nothing.files
      (subst (λ n. MayMisuse (option_map (can_lay root place tree) b.files) n c.misused) nothing.misused allows),
  files_link (Some (cause_of fault)) a b c counts ends,
  subst (λ o. LaidPartly root (items_placed root place tree) o c.files) nothing.files partly,
)

fits_on : (free : Bool) (root : List ℕ) (o o1 : Option Tree) → o1 ≡ o → Fits free root o → Fits free root o1
fits_on free root o o1 same fits = subst (Fits free root) (sym same) fits

judged_from : (root : List ℕ) (answer : Found) (given : Option Judged) (o o1 o2 : Option Tree) → o1 ≡ o
    → JudgedFiles root answer given o1 o2 → JudgedFiles root answer given o o2
judged_from root answer given o o1 o2 same h = subst (λ x. JudgedFiles root answer given x o2) same h

pub none_passed : (free : Bool) (root : List ℕ) (shelves : List ShelfState) (w : Seen) → Passes free root shelves w w
none_passed free root shelves w = record {
  around = itself root w;
  counts = files_rest.none w;
  told = λ tell fits. record { files = refl; misused = refl };
  files = λ fits. refl;
}

pub passes_on : (free : Bool) (root : List ℕ) (shelves : List ShelfState) (asked : Result (Option Judged) ShelfFault)
    (before : ShelfState) (a b c : Seen) → (AllByRecursion Tells shelves → Tells before) → Passes free root shelves a b
    → TurnEnds free root asked before None b c → Passes free root shelves a c
passes_on free root shelves asked before a b c tells p t = record {
  around = onward root a b c p.around t.around;
  counts = files_link None a b c p.counts t.counts;
  told = λ tell fits. let n = p.told tell fits in nothing_on a b c n
      (t.told (tells tell) (fits_on free root a.files b.files n.files fits));
  files = λ fits. let same = p.files fits in t.files (fits_on free root a.files b.files same fits) ∙ same;
}

-- ---- the shelf whose turn it is tells what it holds

goes_tell : (turns : List Turn) (old now : List ShelfState) (places numbers : List ℕ) (at : ℕ)
    → Goes turns old now places numbers at → AllByRecursion TellsSame turns → AllByRecursion Tells old
    → AllByRecursion Tells now
goes_tell turns old now places numbers at g same tell =
    let (asked, others) = all_split Tells (map before_of turns) (g.rest ++ g.earlier)
    (subst (AllByRecursion Tells) g.entry tell) in
    let (rest, earlier) = all_split Tells g.rest g.earlier others in
    let after = still_tell turns same asked in
    subst (AllByRecursion Tells) (sym g.exit)
    (all_both Tells (map after_of (left_of turns)) _ (chosen _ turns after)
    (all_both Tells g.rest _ rest (all_both Tells g.earlier _ earlier (chosen _ turns after))))

asks_turn : {E : ShelfState → Type 0} {now new : List ShelfState} {numbers later : List ℕ} {at next : ℕ}
    {digest : List ℕ} {asked : Result (Option Judged) ShelfFault} {fails : Bool}
    → TakesTurn now numbers at (λ before after. Asks digest asked before after × E before) fails new later next
    → TakesTurn now numbers at (Asks digest asked) fails new later next
asks_turn k = record {
  before = k.before;
  after = k.after;
  between = k.between;
  replaced = k.replaced;
  does = k.does.0;
  settled = k.settled;
}

-- so many shelves were asked, and nothing was laid
pub record SearchingTree (free : Bool) (digest root : List ℕ) (old now : List ShelfState) (places numbers : List ℕ)
    (at asked : ℕ) (first w : Seen) : Type 0 where
  pub searching : Searching old now places numbers digest at asked
  pub passes : Passes free root old first w

pub begin_tree : (free : Bool) (digest root : List ℕ) (old : List ShelfState) (places : List ℕ) (w : Seen)
    → length places ≤ length old → SearchingTree free digest root old old places places 0 0 w w
begin_tree free digest root old places w h = record {
  searching = begin old places digest h;
  passes = none_passed free root old w;
}

pub no_memory : Memory
no_memory = record {}

-- the shelf whose turn it is is there, and has a number
pub turn_there : (free : Bool) (digest root : List ℕ) (old now : List ShelfState) (places numbers : List ℕ)
    (at asked : ℕ) (first w : Seen) → asked < length places
    → SearchingTree free digest root old now places numbers at asked first w → at < length now
turn_there free digest root old now places numbers at asked first w lt s =
    let g = s.searching.goes in
    let all = standing_of s.searching.turns old now places numbers at g in
    let size = ap length g.exit ∙ length-append (map after_of (left_of s.searching.turns)) _ in
    let more = length-append g.rest (g.earlier ++ map after_of (failed_of s.searching.turns)) in
    let front = length-map (left_of s.searching.turns) after_of in
    omega (arith, lt, all, s.searching.count, size, more, front, g.paired, g.place)

pub below_map : {X Y : Type 0} (f : X → Y) (xs : List X) (i : ℕ) → i < length (map f xs) → i < length xs
below_map f xs i lt = let size = length-map xs f in omega (arith, size, lt)

pub turn_numbered : (free : Bool) (digest root : List ℕ) (old now : List ShelfState) (places numbers : List ℕ)
    (at asked : ℕ) (first w : Seen) → asked < length places
    → SearchingTree free digest root old now places numbers at asked first w → at < length numbers
turn_numbered free digest root old now places numbers at asked first w lt s =
    let g = s.searching.goes in
    let all = standing_of s.searching.turns old now places numbers at g in
    let size = ap length g.now ∙ length-append (map number_of (left_of s.searching.turns)) _ in
    let more = length-append g.later (map number_of (failed_of s.searching.turns)) in
    let front = length-map (left_of s.searching.turns) number_of in
    omega (arith, lt, all, s.searching.count, size, more, front, g.place)

module _ (free : Bool) (digest root : List ℕ) (old now new : List ShelfState) (places numbers later : List ℕ)
    (at asked next : ℕ) (first a b : Seen) (lt : asked < length places)
    (s : SearchingTree free digest root old now places numbers at asked first a) where
  module _ (end : Option (Result Found StoreFault))
      (k : TakesTree free digest root now numbers at end new later next a b) where
    turn_tells : AllByRecursion Tells old → Tells k.turn.before
    turn_tells tell = (all_split Tells k.turn.replaced.front (k.turn.before ∷ k.turn.replaced.back)
        (subst (AllByRecursion Tells) k.turn.replaced.entry
        (goes_tell s.searching.turns old now places numbers at s.searching.goes s.searching.same tell))).1.0

    pub passed : end ≡ None → SearchingTree free digest root old new places later next (asked + 1) first b
    passed none = record {
      searching = by k.asked refl (subst (EndsBy root k.asked) none k.by);
      passes = passes_on free root old k.asked k.turn.before first a b turn_tells s.passes
          (subst (λ e. TurnEnds free root k.asked k.turn.before e a b) none k.turn.does.1);
    }
      where
        turn_as : (r : Result (Option Judged) ShelfFault) → k.asked ≡ r
            → TakesTurn now numbers at (Asks digest r) (is_failed r) new later next
        turn_as r is = subst (λ r. TakesTurn now numbers at (Asks digest r) (is_failed r) new later next) is
            (asks_turn k.turn)

        by : (r : Result (Option Judged) ShelfFault) → k.asked ≡ r → EndsBy root r None
            → Searching old new places later digest next (asked + 1)
        by (Ok None) is h = lacking old now new places numbers later digest at asked next lt s.searching (turn_as _ is)
        by (Ok (Some (judged.Tree tree))) is h = absurd h
        by (Ok (Some (judged.Damaged d f bad))) is h = absurd (cc)
        by (Err shelf.Failed) is h = failing old now new places numbers later digest at asked next lt s.searching
            (turn_as _ is)
        by (Err shelf.Memory) is h = absurd (cc)

    ends_all : (answer : Result Found StoreFault) → end ≡ Some answer
        → TurnEnds free root k.asked k.turn.before (Some answer) a b
    ends_all answer is = subst (λ e. TurnEnds free root k.asked k.turn.before e a b) is k.turn.does.1

    told_end : (answer : Result Found StoreFault) → end ≡ Some answer → AllByRecursion Tells old
        → Fits free root first.files → EndsTold root (Some answer) k.asked a b
    told_end answer is tell fits = (ends_all answer is).told (turn_tells tell)
        (fits_on free root first.files a.files (s.passes.files fits) fits)

    files_end : (r : Result (Option Judged) ShelfFault) (answer : Result Found StoreFault) → k.asked ≡ r
        → end ≡ Some answer → Fits free root first.files → EndsFiles root (Some answer) r a.files b.files
    files_end r answer asks is fits = subst (λ r. EndsFiles root (Some answer) r a.files b.files) asks
        ((ends_all answer is).files (fits_on free root first.files a.files (s.passes.files fits) fits))

    refused_from : (fault : StoreFault) → AllByRecursion Tells old → Fits free root first.files
        → IsRefused root fault a b → IsRefused root fault first b
    refused_from fault tell fits (tree, h) = (
      tree,
      lays_from root (codes "/") tree first a b (Err fault) (s.passes.told tell fits) s.passes.around s.passes.counts h,
    )

    turn_of : (r : Result (Option Judged) ShelfFault) → k.asked ≡ r
        → TakesTurn now numbers at (Asks digest r) (is_failed r) new later next
    turn_of r is = subst (λ r. TakesTurn now numbers at (Asks digest r) (is_failed r) new later next) is
        (asks_turn k.turn)

    abbrev Ends : Result Found StoreFault → Type 0
    Ends answer = SearchesTree free digest root old places answer new later (next + (length places - asked - 1)) first b

    with_found : (answer : Result Found StoreFault) (found : Result (Option Judged) Memory) → end ≡ Some answer
        → Searches old places digest found new later (next + (length places - asked - 1))
        → AnswersBy root answer found → (AllByRecursion Tells old → Fits free root first.files
        → AnswersTold root answer found first b)
        → (Fits free root first.files → AnswersFiles root answer found first.files b.files) → Ends answer
    with_found answer found is searches by told files = record {
      found = found;
      searches = searches;
      around = onward root first a b s.passes.around (ends_all answer is).around;
      counts = files_link (ended_by cause_of answer) first a b s.passes.counts (ends_all answer is).counts;
      by = by;
      told = told;
      files = files;
    }

    told_as : (r : Result (Option Judged) ShelfFault) (answer : Result Found StoreFault) → k.asked ≡ r
        → end ≡ Some answer → AllByRecursion Tells old → Fits free root first.files
        → EndsTold root (Some answer) r a b
    told_as r answer asks is tell fits = subst (λ r. EndsTold root (Some answer) r a b) asks
        (told_end answer is tell fits)

    ended_by_turn : (memory : Memory) (r : Result (Option Judged) ShelfFault) (answer : Result Found StoreFault)
        → k.asked ≡ r → end ≡ Some answer → EndsBy root r (Some answer) → Ends answer
    ended_by_turn memory (Ok None) answer asks is h = absurd (cc)
    ended_by_turn memory (Ok (Some (judged.Tree tree))) (Ok value) asks is h =
        with_found (Ok value) (Ok (Some (judged.Tree tree))) is
        (holding old now new places numbers later digest at asked next lt s.searching (judged.Tree tree)
        (turn_of _ asks)) h
        (λ tell fits. let laid = told_as (Ok (Some (judged.Tree tree))) (Ok value) asks is tell fits in (
          laid.0,
          lays_from root (codes "/") tree first a b (Ok tt) (s.passes.told tell fits) s.passes.around s.passes.counts
              laid.1,
        ))
        (λ fits. judged_from root value (Some (judged.Tree tree)) first.files a.files b.files (s.passes.files fits)
        (files_end (Ok (Some (judged.Tree tree))) (Ok value) asks is fits))
    ended_by_turn memory (Ok (Some (judged.Tree tree))) (Err fault) asks is h =
        with_found (Err fault) (Ok (Some (judged.Tree tree))) is
        (holding old now new places numbers later digest at asked next lt s.searching (judged.Tree tree)
        (turn_of _ asks)) h
        (λ tell fits. refused_from fault tell fits
        (told_as (Ok (Some (judged.Tree tree))) (Err fault) asks is tell fits))
        (λ fits. tt)
    ended_by_turn memory (Ok (Some (judged.Damaged d f bad))) (Ok value) asks is h =
        with_found (Ok value) (Ok (Some (judged.Damaged d f bad))) is
        (holding old now new places numbers later digest at asked next lt s.searching (judged.Damaged d f bad)
        (turn_of _ asks)) (cc)
        (λ tell fits. nothing_on first a b (s.passes.told tell fits)
        (told_as (Ok (Some (judged.Damaged d f bad))) (Ok value) asks is tell fits))
        (λ fits. judged_from root value (Some (judged.Damaged d f bad)) first.files a.files b.files
        (s.passes.files fits) (files_end (Ok (Some (judged.Damaged d f bad))) (Ok value) asks is fits))
    ended_by_turn memory (Ok (Some (judged.Damaged d f bad))) (Err fault) asks is h = absurd (cc)
    ended_by_turn memory (Err shelf.Failed) (Ok value) asks is h = absurd h
    ended_by_turn memory (Err shelf.Failed) (Err fault) asks is h =
        with_found (Err fault) (Err memory) is
        (stopped old now new places numbers later digest at asked next lt s.searching shelf.Failed memory
        (turn_of _ asks)) h
        (λ tell fits. refused_from fault tell fits (told_as (Err shelf.Failed) (Err fault) asks is tell fits))
        (λ fits. tt)
    ended_by_turn memory (Err shelf.Memory) (Ok value) asks is h = absurd (cc)
    ended_by_turn memory (Err shelf.Memory) (Err fault) asks is h =
        with_found (Err fault) (Err memory) is
        (stopped old now new places numbers later digest at asked next lt s.searching shelf.Memory memory
        (turn_of _ asks))
        (let same : fault ≡ store.Memory = cc in subst (λ f. IsCauseWithin root (cause_of f)) (sym same) tt)
        (λ tell fits. refused_from fault tell fits (told_as (Err shelf.Memory) (Err fault) asks is tell fits))
        (λ fits. tt)

    pub ended : (memory : Memory) (answer : Result Found StoreFault) (count : ℕ) → end ≡ Some answer
        → count ≡ length places
        → SearchesTree free digest root old places answer new later (next + (count - asked - 1)) first b
    ended memory answer count is all = subst
        (λ n. SearchesTree free digest root old places answer new later (next + (n - asked - 1)) first b) (sym all)
        (ended_by_turn memory k.asked answer refl is (subst (EndsBy root k.asked) is k.by))

-- all were asked
pub nowhere_tree : (free : Bool) (digest root : List ℕ) (old new : List ShelfState) (places numbers : List ℕ)
    (at asked : ℕ) (first w : Seen) → SearchingTree free digest root old new places numbers at asked first w
    → asked ≡ length places
    → SearchesTree free digest root old places (Ok found.None) new numbers at first w
nowhere_tree free digest root old new places numbers at asked first w s all = record {
  found = Ok None;
  searches = nowhere old new places numbers digest at asked s.searching all;
  around = s.passes.around;
  counts = s.passes.counts;
  by = refl;
  told = s.passes.told;
  files = s.passes.files;
}
