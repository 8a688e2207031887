use Rattle.std.proofs.Common.{◌≡◌, ℕ, List, map, Ok, ap, sym, ◌∙◌}
use Rattle.std.proofs.lemmas.Result.{IfOk-weaker}
use Rattle.std.specs.Prelude.{IsTrue}
use Rattle.toml.specs.Data.{no_members}
use Rattle.toml.specs.View.{table_view}
use Rattle.cnb_toml.specs.Meta.{meta_in, members_of, data_of, entry_of, is_kept}
use Rattle.cnb_toml.specs.Writing.{put_all}
use Rattle.cnb_toml.proofs.Metas.{data_of-Table}
use Rattle.cnb_toml.proofs.RoundTrip.{kept_read}
use Rattle.cnb_toml.proofs.meta.Meta.to_table.Goals as goal

pub returns-in-Table-clause-reads_back : goal.returns-in-Table-clause-reads_back
returns-in-Table-clause-reads_back c =
    let meta = c.args.self.now in
    let same = ap (λ entries. put_all (map entry_of entries) no_members) c.as_slice.ensures
    ∙ sym (ap members_of (ap data_of c.in-Table.is ∙ data_of-Table c.in-Table.entries)) in
    IfOk-weaker c.write_table.result _ (λ table. IsTrue (is_kept meta) → (path : List ℕ)
    → meta_in path (table_view table) ≡ Ok meta)
    (λ table written kept path. ap (meta_in path) (written ∙ same) ∙ kept_read meta kept path)
    c.write_table.ensures
