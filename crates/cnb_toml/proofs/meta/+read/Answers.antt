use Rattle.std.proofs.Common.{◌≡◌, ℕ, Ok, List, ◌∷◌, ◌++◌, [], Result, string_bytes, ap, ◌∙◌, sym}
use Rattle.toml.specs.View.{view, members_view}
use Rattle.toml.proofs.Views.{Entry}
use Rattle.cnb_toml.specs.declared.fault.DocFault.{DocFault}
use Rattle.cnb_toml.specs.declared.meta.Meta.{Meta}
use Rattle.cnb_toml.specs.declared.meta.MetaEntry.{MetaEntry}
use Rattle.cnb_toml.specs.Meta.{meta_at}
use Rattle.cnb_toml.specs.Reading.{◌>>=◌}
use Rattle.cnb_toml.proofs.Joined.{joined, joined-none, joined-one}
use Rattle.cnb_toml.proofs.Metas.{plain_at, members_at-sorted}
use Rattle.cnb_toml.proofs.meta.+read.Goals as goal

-- one more member is read
members_next : (depth : ℕ) (whole : Result (List MetaEntry) DocFault) (done : List MetaEntry) (e : Entry)
    (es rest : List Entry) (key : List ℕ) (m : Meta)
    → whole ≡ joined done (plain_at depth (members_view es)) → es ≡ e ∷ rest → key ≡ string_bytes e.0
    → Ok m ≡ meta_at depth (string_bytes e.0) (view e.1)
    → whole ≡ joined (done ++ record { key = key; value = m } ∷ []) (plain_at depth (members_view rest))
members_next depth whole done e es rest key m so_far split named read =
    so_far ∙ ap (λ all. joined done (plain_at depth (members_view all))) split
    ∙ ap (λ (r : Result Meta DocFault). joined done
    (r >>= (λ meta. plain_at depth (members_view rest)
    >>= (λ more. Ok (record { key = string_bytes e.0; value = meta } ∷ more))))) (sym read)
    ∙ joined-one done (record { key = string_bytes e.0; value = m }) (plain_at depth (members_view rest))
    ∙ ap (λ k. joined (done ++ record { key = k; value = m } ∷ []) (plain_at depth (members_view rest))) (sym named)

pub read_members-loop-key-init : goal.read_members-loop-key-init
read_members-loop-key-init t c =
    let all : c.args.members.now.entries ≡ c.into_iter-key-iterator.result = sym
    (c.into_iter-key-iterator.ensures.into_iter_gives ∙ c.iter-key-items.ensures.rest) in
    members_at-sorted c.args.depth c.args.members.now.entries c.iter-key-items.ensures.ordered
    ∙ sym (joined-none (plain_at c.args.depth (members_view c.args.members.now.entries)))
    ∙ ap (λ es. joined [] (plain_at c.args.depth (members_view es))) all
    ∙ ap (λ done. joined done (plain_at c.args.depth (members_view c.into_iter-key-iterator.result)))
    (sym c.new-entries.ensures)

pub read_members-loop-key-preserved : goal.read_members-loop-key-preserved
read_members-loop-key-preserved t c =
    let e : Entry = (c.in-Some.key.now, c.in-Some.value.now) in
    let named : c.in_ok-of.field-0 ≡ string_bytes c.in-Some.key.now = c.in_ok-of.ensures ∙ c.as_str.ensures.value in
    let read = c.in_ok-read_value.ensures ∙ ap (λ k. meta_at c.args.depth k (view c.in-Some.value.now))
    c.as_str-in-loop-key.ensures.value in
    members_next c.args.depth _ c.loop-key.entries e c.loop-key.key-iterator c.next.new.self _
    c.in_ok-read_value.field-0 c.loop-key.invariant c.in-Some.ensures.steps named read
    ∙ ap (λ done. joined done (plain_at c.args.depth (members_view c.next.new.self))) (sym c.in_ok-push.ensures.ok)
