use Rattle.std.proofs.Common.{◌≡◌, ℕ, ◌+◌, List, ◌∷◌, map, drop, sym, ap, ◌∙◌}
use Rattle.std.proofs.lemmas.List.{drop_more}
use Rattle.toml.specs.Data.{Data, Members}
use Rattle.toml.specs.View.{view, members_view}
use Rattle.cnb_toml.specs.declared.meta.MetaEntry.{MetaEntry}
use Rattle.cnb_toml.specs.Meta.{data_of, entry_of}
use Rattle.cnb_toml.specs.Writing.{put, put_all}
use Rattle.cnb_toml.proofs.Metas.{entry_of-parts}
use Rattle.cnb_toml.proofs.meta.+write.Goals as goal

-- one more entry is put
put_all-next : (table after whole : Members) (e : MetaEntry) (es rest : List MetaEntry) → es ≡ e ∷ rest
    → after ≡ put e.key (data_of e.value) table
    → put_all (map entry_of es) table ≡ whole → put_all (map entry_of rest) after ≡ whole
put_all-next table after whole e es rest split step so_far =
    ap (put_all (map entry_of rest)) (step ∙ ap (λ (pair : List ℕ × Data). put pair.0 pair.1 table)
    (sym (entry_of-parts e)))
    ∙ ap (λ all. put_all (map entry_of all) table) (sym split) ∙ so_far

pub write_table-loop-entry-preserved : goal.write_table-loop-entry-preserved
write_table-loop-entry-preserved t c =
    let e : MetaEntry = c.entry-item.result in
    let i = c.loop-entry.entry-index in
    let split : drop i c.args.entries.now ≡ e ∷ drop (i + 1) c.args.entries.now =
    drop_more c.args.entries.now i e c.loop-entry-test.true
    ∙ ap (λ x. x ∷ drop (i + 1) c.args.entries.now) (sym c.entry-item.is) in
    let put_there : members_view c.put.new.table.entries ≡ put e.key (data_of e.value)
    (members_view c.loop-entry.table.entries) =
    c.in_ok-put.ensures ∙ ap (λ key. put key (view c.in_ok-value.value) (members_view c.loop-entry.table.entries))
    c.as_str.ensures
    ∙ ap (λ value. put e.key value (members_view c.loop-entry.table.entries)) c.in_ok-value.ensures in
    put_all-next _ _ _ e _ _ split put_there c.loop-entry.invariant
