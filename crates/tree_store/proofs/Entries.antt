-- The entries of a folder, one after another.
use Rattle.std.proofs.Common.{◌≡◌, ℕ, suc, ◌+◌, ◌<◌, drop, get_or, drop-cons, add-one, List, [], ◌∷◌, ◌++◌, length}
use Rattle.std.proofs.Common.{refl, sym, ap, subst, ◌∙◌, append_assoc, Option, Some, None, Result, Ok, Err}
use Rattle.std.specs.Prelude.{IfSome}
use Rattle.cnb_world.specs.Path.{joined}
use Rattle.cnb_world.specs.Tree.{Tree}
use Rattle.tree_canon.specs.declared.node.Node.{Node}
use Rattle.tree_canon.specs.declared.node.Named.{Named}
use Rattle.tree_store.specs.declared.fault.StoreFault.{StoreFault}
use Rattle.tree_store.specs.Reading.{◌>>=◌, Sized, in_order, entry_in_front, node_at}

abbrev pub Read : Type 0
Read = Result (List Named × ℕ) StoreFault

abbrev pub in_front : List Named → List Named × ℕ → Read
in_front es rest = Ok (es ++ rest.0, rest.1)

abbrev pub reader : ℕ → Tree → List ℕ → List ℕ → ℕ → Result Sized StoreFault
reader levels files folder name size = node_at levels files (joined folder name) size

-- these entries were read, and those of the other names are still to come
abbrev pub Leaves : Option Tree → ℕ → List ℕ → List Named → ℕ → List (List ℕ) → List (List ℕ) → ℕ → Type 0
Leaves o levels folder entries so_far rest names size = IfSome o
    (λ files. in_order (reader levels files folder) names size
    ≡ (in_order (reader levels files folder) rest so_far >>= in_front entries))

reads_on : (r : List ℕ → ℕ → Result Sized StoreFault) (entries : List Named) (name : List ℕ)
    (rest : List (List ℕ)) (node : Node) (so_far now : ℕ) → r name (so_far + (2 + length name)) ≡ Ok (node, now)
    → (in_order r (name ∷ rest) so_far >>= in_front entries)
    ≡ (in_order r rest now >>= in_front (entries ++ record { name = name; node = node } ∷ []))
reads_on r entries name rest node so_far now h = ap
    (λ (o : Result Sized StoreFault). (o >>= (λ one. in_order r rest one.1 >>= entry_in_front name one.0))
    >>= in_front entries) h ∙ by (in_order r rest now)
  where
    by : (found : Read) → ((found >>= entry_in_front name node) >>= in_front entries)
        ≡ (found >>= in_front (entries ++ record { name = name; node = node } ∷ []))
    by (Ok all) = ap (λ es. Ok (es, all.1)) (sym (append_assoc entries
        (record { name = name; node = node } ∷ []) all.0))
    by (Err fault) = refl

pub leaves_on : (o o1 : Option Tree) (levels size so_far now i : ℕ) (folder name : List ℕ)
    (entries more : List Named) (names : List (List ℕ)) (node : Node) → i < length names
    → name ≡ get_or names i name → o1 ≡ o → more ≡ entries ++ record { name = name; node = node } ∷ []
    → Leaves o levels folder entries so_far (drop i names) names size
    → IfSome o1 (λ files. node_at levels files (joined folder name) (so_far + (2 + length name))
    ≡ Ok (node, now)) → Leaves o levels folder more now (drop (i + 1) names) names size
leaves_on None o1 levels size so_far now i folder name entries more names node lt is same e before read = tt
leaves_on (Some files) o1 levels size so_far now i folder name entries more names node lt is same e before read =
    before ∙ ap (λ ns. in_order (reader levels files folder) ns so_far >>= in_front entries) next
    ∙ reads_on (reader levels files folder) entries name (drop (i + 1) names) node so_far now
    (subst (λ x. IfSome x (λ files. node_at levels files (joined folder name) (so_far + (2 + length name))
    ≡ Ok (node, now))) same read)
    ∙ ap (λ es. in_order (reader levels files folder) (drop (i + 1) names) now >>= in_front es) (sym e)
  where
    next : drop i names ≡ name ∷ drop (i + 1) names
    next = rw add-one (drop-cons names i name lt ∙ ap (λ y. y ∷ drop (suc i) names) (sym is))
