-- The equations of the folds.
use Rattle.std.proofs.Common.{None, ◌≡◌, ℕ, suc, ◌^◌, ◌∙◌, List, ◌∷◌, ◌++◌, length, sym, ap, append_assoc, Bool}
use Rattle.std.proofs.Common.{if◌then◌else◌, ◌&&◌, w16, w64}
use Rattle.std.specs.Prelude.{nat_lt, nat_le}
use Rattle.std.specs.Int.{to_be_bytes}
use Rattle.std.proofs.lemmas.List.{length-map}
use Rattle.tree_canon.specs.Spelling.{node_bytes, entry_bytes, entries_bytes, node_step, entry_step, folder_head}
use Rattle.tree_canon.specs.Spelling.{link_head, name_bytes}
use Rattle.tree_canon.specs.Fits.{fits, entry_fits, entries_fit, fit_step, fit_entry_step}
use Rattle.tree_canon.specs.Names.{is_target}
use Rattle.tree_canon.specs.declared.node.Named.{Named}
use Rattle.tree_canon.specs.declared.node.Node.TheVariants.{Folder, File, Link, rolls-Folder, rolls-File, rolls-Link}
use Rattle.tree_canon.specs.declared.node.Node.TheOpen as layer
use Rattle.tree_canon.specs.declared.node.Node.TheFolds.{fold-roll-Node, fold_out-Named}

pub node_bytes_folder : (all : List Named) → node_bytes (Folder all) ≡ folder_head (length all) ++ entries_bytes all
node_bytes_folder all = ap node_bytes (sym (rolls-Folder all))
    ∙ fold-roll-Node _ _ node_step entry_step (layer.Folder all)
    ∙ ap (λ n. folder_head n ++ entries_bytes all) (length-map all entry_bytes)

pub node_bytes_file : (exec : Bool) (bytes : List ℕ) → node_bytes (File exec bytes)
    ≡ (70 ∷ (if exec then 1 else 0) ∷ to_be_bytes w64 (length bytes)) ++ bytes
node_bytes_file exec bytes = ap node_bytes (sym (rolls-File exec bytes))
    ∙ fold-roll-Node _ _ node_step entry_step (layer.File exec bytes)

pub node_bytes_link : (target : List ℕ) → node_bytes (Link target) ≡ (76 ∷ to_be_bytes w16 (length target)) ++ target
node_bytes_link target = ap node_bytes (sym (rolls-Link target))
    ∙ fold-roll-Node _ _ node_step entry_step (layer.Link target)

pub entry_bytes_is : (e : Named) → entry_bytes e ≡ name_bytes e.name ++ node_bytes e.node
entry_bytes_is e = fold_out-Named _ _ node_step entry_step e

pub fits_folder : (all : List Named) (depth : ℕ) → fits (Folder all) depth
    ≡ (nat_le depth 64 && (nat_lt (length all) (2 ^ 32) && entries_fit None all (suc depth)))
fits_folder all depth = ap (λ (f : ℕ → Bool). f depth)
    (ap fits (sym (rolls-Folder all)) ∙ fold-roll-Node _ _ fit_step fit_entry_step (layer.Folder all))
    ∙ ap (λ n. nat_le depth 64 && (nat_lt n (2 ^ 32) && entries_fit None all (suc depth)))
    (length-map all entry_fits)

pub fits_file : (exec : Bool) (bytes : List ℕ) (depth : ℕ) → fits (File exec bytes) depth ≡ nat_le depth 64
fits_file exec bytes depth = ap (λ (f : ℕ → Bool). f depth)
    (ap fits (sym (rolls-File exec bytes)) ∙ fold-roll-Node _ _ fit_step fit_entry_step (layer.File exec bytes))

pub fits_link : (target : List ℕ) (depth : ℕ) → fits (Link target) depth ≡ (nat_le depth 64 && is_target target)
fits_link target depth = ap (λ (f : ℕ → Bool). f depth)
    (ap fits (sym (rolls-Link target)) ∙ fold-roll-Node _ _ fit_step fit_entry_step (layer.Link target))

pub fits_named : (e : Named) → entry_fits e ≡ (e.name, fits e.node)
fits_named e = fold_out-Named _ _ fit_step fit_entry_step e

pub put_link_is : (out target : List ℕ) → (out ++ link_head (length target)) ++ target ≡ out ++ node_bytes (Link target)
put_link_is out target = append_assoc out (link_head (length target)) target
    ∙ ap (λ x. out ++ x) (sym (node_bytes_link target))
