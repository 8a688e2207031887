-- Bytes put on a shelf in memory, one after others.
use Rattle.std.proofs.Common.{◌≡◌, ℕ, cond, List, [], ◌∷◌, ◌++◌, refl, ap, ◌∙◌, Some, None, length, arith}
use Rattle.std.proofs.lemmas.Cmp.{nat_list_cmp_total}
use Rattle.std.proofs.lemmas.Map.Text.{is_eq-slice_cmp}
use Rattle.std.specs.Str.{bytes_eq}
use Rattle.std.specs.Ordering.{nat_cmp}
use Rattle.std.specs.Cmp.Lexicographic.{slice_cmp}
use Rattle.std.specs.FinMap.{empty, get, insert, get-insert, get-empty}
use Rattle.cnb_world.specs.Shelf.{Held, all_put, held_of}
use Rattle.cnb_world.specs.declared.memory.shelf.Held.{Held as HeldBytes}

all_put-push : (hs : List HeldBytes) (last : HeldBytes) (m : Held)
    → all_put (hs ++ last ∷ []) m ≡ insert (all_put hs m) last.digest last.bytes
all_put-push [] last m = refl
all_put-push (h ∷ hs) last m = all_put-push hs last (insert m h.digest h.bytes)

pub held_of_push : (hs : List HeldBytes) (last : HeldBytes)
    → held_of (hs ++ last ∷ []) ≡ insert (held_of hs) last.digest last.bytes
held_of_push hs last = all_put-push hs last empty

pub held_after_last : (all earlier : List HeldBytes) (last : HeldBytes) (digest : List ℕ)
    → all ≡ earlier ++ last ∷ [] → get (held_of all) digest
    ≡ cond (bytes_eq digest last.digest) (Some last.bytes) (get (held_of earlier) digest)
held_after_last all earlier last digest is =
    ap (λ hs. get (held_of hs) digest) is
    ∙ ap (λ m. get m digest) (held_of_push earlier last)
    ∙ get-insert nat_list_cmp_total (held_of earlier) last.digest last.bytes digest
    ∙ ap (λ b. cond b (Some last.bytes) (get (held_of earlier) digest)) (is_eq-slice_cmp digest last.digest)

pub nothing_held : (hs : List HeldBytes) (digest : List ℕ) → length hs ≡ 0 → get (held_of hs) digest ≡ None
nothing_held [] digest h = get-empty (slice_cmp nat_cmp) digest
nothing_held (h ∷ hs) digest none = absurd (omega arith)
