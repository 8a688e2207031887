-- Every list of bytes is node_bytes, broken or short.
use Rattle.std.proofs.Common.{◌≡◌, ℕ, zero, suc, ◌+◌, ◌<◌, ◌∙◌, List, [], ◌∷◌, ◌++◌, length, take, arith, refl, sym, ap}
use Rattle.std.proofs.Common.{subst, append_assoc, false, Bool, if◌then◌else◌, true, length-append, Option, Some, None}
use Rattle.std.specs.Prelude.{nat_lt, ◌==◌, slice_index}
use Rattle.std.proofs.lemmas.Bool.{ltb-true, ltb-false, eqb-true}
use Rattle.std.proofs.lemmas.List.{append-nil}
use Rattle.tree_canon.specs.Spelling.{magic, node_bytes}
use Rattle.tree_canon.specs.Fits.{fits}
use Rattle.tree_canon.specs.CutTree.{OpenFolder, Hole, Magic, Tag, Count, NameLength, Name, Executable, FileLength}
use Rattle.tree_canon.specs.CutTree.{Contents, TargetLength, Target, End, CutTree, open_folders_bytes, cut_bytes}
use Rattle.tree_canon.specs.CutTree.{bytes_before, width}
use Rattle.tree_canon.specs.Rules.{reason_of, large_past, first_byte}
use Rattle.tree_canon.specs.Reading.{IsBytes, SpellsUpTo}
use Rattle.tree_canon.specs.Reading.{cut_at, after, State, Stuck, Going, moved, step, run, start}
use Rattle.tree_canon.specs.Division.{IsSound, Spells, IsBroken, Kind, Spelled, Broken, Short, has_ended}
use Rattle.tree_canon.specs.declared.node.Node.{Node}
use Rattle.tree_canon.specs.declared.fault.Reason.{Reason}
use Rattle.tree_canon.specs.declared.fault.Reason.TheVariants as reasons
use Rattle.tree_canon.proofs.CutMoves.{some_width}
use Rattle.tree_canon.proofs.Keeps.{Keeps, single, first_parts, ok_true, keeps_tag, keeps_count, keeps_name_len}
use Rattle.tree_canon.proofs.Keeps.{keeps_name, keeps_exec, keeps_file_len, keeps_contents, keeps_target_len}
use Rattle.tree_canon.proofs.Keeps.{keeps_target}

keeps_magic : (k : ℕ) (b : ℕ) → k < 5 → b ≡ slice_index magic k
    → Keeps (after [] (Magic k) (b ∷ [])) (take k magic ++ b ∷ [])
keeps_magic zero b lt e = record {
  sound = record
      { folders = tt; hole = (omega arith, refl); size = omega arith };
  is = ap (λ n. n ∷ []) (sym e);
}
keeps_magic (suc zero) b lt e = record {
  sound = record
      { folders = tt; hole = (omega arith, refl); size = omega arith };
  is = ap (λ n. 67 ∷ n ∷ []) (sym e);
}
keeps_magic (suc (suc zero)) b lt e = record {
  sound = record
      { folders = tt; hole = (omega arith, refl); size = omega arith };
  is = ap (λ n. 67 ∷ 78 ∷ n ∷ []) (sym e);
}
keeps_magic (suc (suc (suc zero))) b lt e = record {
  sound = record { folders = tt; hole = (omega arith, refl); size = omega arith };
  is = ap
      (λ n. 67 ∷ 78 ∷ 66 ∷ n ∷ []) (sym e);
}
keeps_magic (suc (suc (suc (suc zero)))) b lt e = record {
  sound = record { folders = tt; hole = tt; size = omega arith };
  is = ap (λ n. 67 ∷ 78 ∷ 66 ∷ 84 ∷ n ∷ [])
      (sym e);
}
keeps_magic (suc (suc (suc (suc (suc k))))) b lt e = absurd (omega arith)

keeps_field : (ls : List OpenFolder) (hole : Hole) (at : ℕ) (f : List ℕ) → IsSound (cut_at ls hole) → IsBytes f
    → at ≡ length (bytes_before ls hole) → length f ≡ width hole → reason_of (length ls) at hole f ≡ None
    → Keeps (after ls hole f) (bytes_before ls hole ++ f)
keeps_field ls (Magic k) at f ok bytes place len h =
    let one : f ≡ first_byte f ∷ [] = single f len in
    let is : first_byte f ≡ slice_index magic k = eqb-true _ _
    (ok_true (first_byte f == slice_index magic k) reasons.Magic (first_parts (large_past (at + 1)) _ h).1) in
    subst (λ (x : List OpenFolder). Keeps (after x (Magic k) f) (take k magic ++ f)) (sym ok.hole.1)
    (subst (λ (x : List ℕ). Keeps (after [] (Magic k) x) (take k magic ++ x)) (sym one)
    (keeps_magic k (first_byte f) ok.hole.0 is))
keeps_field ls Tag at f ok bytes place len h = keeps_tag ls ok.folders at f bytes place len h
keeps_field ls Count at f ok bytes place len h = keeps_count ls ok.folders at f bytes place len ok.hole h
keeps_field ls (NameLength count before) at f ok bytes place len h = keeps_name_len ls ok.folders at f bytes count
    before place len ok.hole h
keeps_field ls (Name count before n) at f ok bytes place len h = keeps_name ls ok.folders at f bytes count before
    n place len ok.hole.0 ok.hole.1 ok.hole.2 h
keeps_field ls Executable at f ok bytes place len h = keeps_exec ls ok.folders at f bytes place len ok.hole h
keeps_field ls (FileLength exec) at f ok bytes place len h = keeps_file_len ls ok.folders at f bytes exec place
    len ok.hole h
keeps_field ls (Contents exec n) at f ok bytes place len h = keeps_contents ls ok.folders at f bytes exec n place
    len ok.hole.0 h
keeps_field ls TargetLength at f ok bytes place len h = keeps_target_len ls ok.folders at f bytes place len ok.hole h
keeps_field ls (Target n) at f ok bytes place len h = keeps_target ls ok.folders at f bytes n place len ok.hole.0
    ok.hole.1 ok.hole.2 h
keeps_field ls (End node) at f ok bytes place len h = let no =
    (first_parts (large_past (at + 1)) (Some reasons.Rest) h).1 in absurd cc

abbrev pub Holds : State → List ℕ → Type 0
Holds (Stuck at r) bytes = IsBroken bytes at r
Holds (Going at c part) bytes = SpellsUpTo at c part bytes

IsBytes-push : (f : List ℕ) (b : ℕ) → IsBytes f → b < 256 → IsBytes (f ++ b ∷ [])
IsBytes-push [] b h lt zero = lt
IsBytes-push [] b h lt (suc i) = omega arith
IsBytes-push (x ∷ xs) b h lt zero = h 0
IsBytes-push (x ∷ xs) b h lt (suc i) = IsBytes-push xs b (λ j. h (suc j)) lt i

choose_state : (b : Bool) (P : State → Type 0) (x y : State) → (b ≡ true → P x) → (b ≡ false → P y)
    → P (if b then x else y)
choose_state true P x y f g = f refl
choose_state false P x y f g = g refl

judge_both : (at : ℕ) (c : CutTree) (f bytes : List ℕ) (o : Option Reason)
    → reason_of (length c.folders) at c.hole f ≡ o → IsSound c → IsBytes f → at ≡ length (cut_bytes c)
    → length f ≡ width c.hole → bytes ≡ cut_bytes c ++ f → Holds (moved at c f o) bytes
judge_both at c f bytes None e ok fits place len is =
    let k = keeps_field c.folders c.hole at f ok fits place len e in
    record {
      sound = k.sound;
      place = omega (arith, length-append (cut_bytes c) f, ap length k.is);
      is = is ∙ sym k.is ∙ sym (append-nil (cut_bytes (after c.folders c.hole f)));
      partial = some_width (after c.folders c.hole f).folders (after c.folders c.hole f).hole k.sound.hole;
      fits = λ i. omega arith;
    }
judge_both at c f bytes (Some r) e ok fits place len is =
    record {
      cut = c;
      field = f;
      rest = [];
      sound = ok;
      place = place;
      is = is
          ∙ ap (λ x. cut_bytes c ++ x) (sym (append-nil f));
      whole = len;
      breaks = e;
    }

step_holds : (s : State) (bytes : List ℕ) (b : ℕ) → b < 256 → Holds s bytes → Holds (step s b) (bytes ++ b ∷ [])
step_holds (Stuck at r) bytes b lt h =
    record {
      cut = h.cut;
      field = h.field;
      rest = h.rest ++ b ∷ [];
      sound = h.sound;
      place = h.place;
      whole = h.whole;
      breaks = h.breaks;
      is = ap (λ x. x ++ b ∷ []) h.is ∙ append_assoc (cut_bytes h.cut) (h.field ++ h.rest) (b ∷ [])
          ∙ ap (λ x. cut_bytes h.cut ++ x) (append_assoc h.field h.rest (b ∷ []));
    }
step_holds (Going at c part) bytes b lt h =
    let more : bytes ++ b ∷ [] ≡ cut_bytes c ++ (part ++ b ∷ []) = ap (λ x. x ++ b ∷ []) h.is
    ∙ append_assoc (cut_bytes c) part (b ∷ []) in
    choose_state (nat_lt (length (part ++ b ∷ [])) (width c.hole)) (λ s. Holds s (bytes ++ b ∷ []))
    (Going at c (part ++ b ∷ [])) (moved at c (part ++ b ∷ [])
    (reason_of (length c.folders) at c.hole (part ++ b ∷ [])))
    (λ e. record {
      sound = h.sound;
      place = h.place;
      is = more;
      partial = ltb-true _ _ e;
      fits = IsBytes-push part
          b h.fits lt;
    })
    (λ e. judge_both at c (part ++ b ∷ []) (bytes ++ b ∷ [])
    (reason_of (length c.folders) at c.hole (part ++ b ∷ [])) refl h.sound
    (IsBytes-push part b h.fits lt) h.place
    (omega (arith, ltb-false _ _ e, h.partial, length-append part (b ∷ []))) more)

pub run_holds : (s : State) (bytes more : List ℕ) → IsBytes more → Holds s bytes → Holds (run s more) (bytes ++ more)
run_holds s bytes [] fits h = subst (Holds s) (sym (append-nil bytes)) h
run_holds s bytes (b ∷ bs) fits h = subst (Holds (run (step s b) bs)) (append_assoc bytes (b ∷ []) bs)
    (run_holds (step s b) (bytes ++ b ∷ []) bs (λ i. fits (suc i)) (step_holds s bytes b (fits 0) h))

pub start_holds : Holds start []
start_holds = record {
  sound = record { folders = tt; hole = (omega arith, refl); size = omega arith };
  place =
      refl;
  is = refl;
  partial = omega arith;
  fits = λ i. omega arith;
}

no_part : (part : List ℕ) → length part < 1 → part ≡ []
no_part [] lt = refl
no_part (b ∷ bs) lt = absurd (omega arith)

pub reads_end : (ls : List OpenFolder) (node : Node) (at : ℕ) (part bytes : List ℕ)
    → SpellsUpTo at (cut_at ls (End node)) part bytes → Spells node bytes
reads_end ls node at part bytes h =
    let none : part ≡ [] = no_part part h.partial in
    let whole : bytes ≡ open_folders_bytes ls ++ node_bytes node = h.is
    ∙ ap (λ x. (open_folders_bytes ls ++ node_bytes node) ++ x) none
    ∙ append-nil (open_folders_bytes ls ++ node_bytes node) in
    let is : bytes ≡ magic ++ node_bytes node = subst (λ x. bytes ≡ open_folders_bytes x ++ node_bytes node)
    h.sound.hole.1 whole in
    record { fit = h.sound.hole.0; size = omega (arith, ap length whole, h.sound.size); is = is }

ended : (ls : List OpenFolder) (hole : Hole) (at : ℕ) (part bytes : List ℕ)
    → SpellsUpTo at (cut_at ls hole) part bytes → (b : Bool) → has_ended hole ≡ b → Kind bytes
ended ls hole at part bytes h false e = Short
    (record { cut = cut_at ls hole; part = part; sound = h.sound; is = h.is; partial = h.partial; goes_on = e })
ended ls (End node) at part bytes h true e =
    let none : part ≡ [] = no_part part h.partial in
    let whole : bytes ≡ open_folders_bytes ls ++ node_bytes node = h.is
    ∙ ap (λ x. (open_folders_bytes ls ++ node_bytes node) ++ x) none
    ∙ append-nil (open_folders_bytes ls ++ node_bytes node) in
    let is : bytes ≡ magic ++ node_bytes node = subst (λ x. bytes ≡ open_folders_bytes x ++ node_bytes node)
    h.sound.hole.1 whole in
    Spelled node (record { fit = h.sound.hole.0; size = omega (arith, ap length whole, h.sound.size); is = is })
ended ls (Magic k) at part bytes h true e = absurd cc
ended ls Tag at part bytes h true e = absurd cc
ended ls Count at part bytes h true e = absurd cc
ended ls (NameLength count before) at part bytes h true e = absurd cc
ended ls (Name count before len) at part bytes h true e = absurd cc
ended ls Executable at part bytes h true e = absurd cc
ended ls (FileLength exec) at part bytes h true e = absurd cc
ended ls (Contents exec len) at part bytes h true e = absurd cc
ended ls TargetLength at part bytes h true e = absurd cc
ended ls (Target len) at part bytes h true e = absurd cc

pub by_state : (s : State) (bytes : List ℕ) → Holds s bytes → Kind bytes
by_state (Stuck at r) bytes h = Broken at r h
by_state (Going at c part) bytes h = ended c.folders c.hole at part bytes h (has_ended c.hole) refl

pub one_of_three : (bytes : List ℕ) → IsBytes bytes → Kind bytes
one_of_three bytes fits = by_state (run start bytes) bytes (run_holds start [] bytes fits start_holds)
