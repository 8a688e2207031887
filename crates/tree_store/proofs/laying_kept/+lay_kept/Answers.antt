use Rattle.std.proofs.Common.{rules, ◌≡◌, ◌≤◌, ◌<◌, ◌∙◌, refl, ap, sym, arith, ◌++◌, length, Ok, Err, true, false}
use Rattle.std.specs.Int.{to_be_bytes, w32}
use Rattle.std.proofs.lemmas.Result.{err_from_is_err_and}
use Rattle.cnb_world.specs.Path.{joined}
use Rattle.cnb_world.specs.Tree.{is_within}
use Rattle.tree_canon.specs.Names.{follows}
use Rattle.tree_canon.specs.Spelling.{entries_bytes, node_bytes}
use Rattle.tree_store.specs.Laying.{folder_laid}
use Rattle.tree_store.specs.Right.{way_into, way_to}
use Rattle.tree_store.proofs.Ahead.{apart_child, does_called, does_memory, does_value, lays_as, lays_behind, lays_never}
use Rattle.tree_store.proofs.Ahead.{lays_on, lays_stop, leaves_broken, leaves_damaged, leaves_laid, leaves_ok}
use Rattle.tree_store.proofs.Ahead.{leaves_short, leaves_stop, leaves_then, leaves_value, leaves_wider, part_size}
use Rattle.tree_store.proofs.Ahead.{reads_before, reads_behind, reads_stop}
use Rattle.tree_store.proofs.Cases.{count_is, entry_ahead, entry_child, fits_deep, form_behind, form_name, lays_away}
use Rattle.tree_store.proofs.Cases.{next_of, node_lays, node_stops}
use Rattle.tree_store.proofs.Fit.{folder_entries}
use Rattle.tree_store.proofs.Laid.{laid_folder}
use Rattle.tree_store.proofs.Right.{inside_laid}
use Rattle.tree_store.proofs.Ways.{joined_short, when_ok}
use Rattle.tree_store.proofs.PartlyLaid.{folder_partly}
use Rattle.tree_store.proofs.Partly.{partly_itself, partly_then}
use Rattle.tree_store.proofs.KeptPartly.{begun_done, begun_first, begun_next, begun_part, begun_stops, entry_parts}
use Rattle.tree_store.proofs.KeptPartly.{node_parts, part_after, part_behind, part_bytes, partly_unread}
use Rattle.tree_store.proofs.Takes.{done_then, node_file, node_folder, node_link, taken_first, taken_last, taken_next}
use Rattle.tree_store.proofs.Takes.{takes_entry, takes_folder}
use Rattle.tree_store.proofs.laying_kept.+lay_kept.Goals as goal

-- ---- entries

pub lay_kept_entries-loop-left-init : goal.lay_kept_entries-loop-left-init
lay_kept_entries-loop-left-init g t c = record {
  leaves = leaves_ok c.args.path.now _ _ _;
  begun = λ all rest count fit. begun_first c.args.path.now c.args.depth all rest c.args.count _ _ count fit;
  taken = taken_first c.args.path.now c.args.depth c.args.count _ _;
}

pub lay_kept_entries-returns-in_err-name-clause-leaves : goal.lay_kept_entries-returns-in_err-name-clause-leaves
lay_kept_entries-returns-in_err-name-clause-leaves g t c =
    let exit = err_from_is_err_and c.from_residual.result c.from_residual.ensures.1 in
    rw (exit.1, exit.2) (leaves_then c.loop-left.invariant.leaves
    (leaves_stop c.args.path.now _ _ _ _ _ c.in_err-name.ensures.leaves))

pub lay_kept_entries-returns-in_err-name-clause-lays : goal.lay_kept_entries-returns-in_err-name-clause-lays
lay_kept_entries-returns-in_err-name-clause-lays g t c = λ all rest count fit.
    let exit = err_from_is_err_and c.from_residual.result c.from_residual.ensures.1 in
    let h = c.loop-left.invariant.begun all rest count fit in
    let n = next_of c.args.depth h.more c.loop-left.left h.count c.loop-left-test.true h.fit in
    rw (exit.1, exit.2) (begun_stops c.args.path.now c.args.depth all rest c.loop-left.left c.loop-left.last _ _ _ _ h
    n _ _ _
    (λ form. c.in_err-name.ensures.lays n.entry (entries_bytes n.others ++ rest) form n.node))

pub lay_kept_entries-loop-left-preserved : goal.lay_kept_entries-loop-left-preserved
lay_kept_entries-loop-left-preserved g t c = record {
  leaves = leaves_then c.loop-left.invariant.leaves (leaves_value c.args.path.now _ _ _ _ _ _
      c.in_ok-name.ensures.leaves);
  begun = λ all rest count fit.
      let h = c.loop-left.invariant.begun all rest count fit in
      let n = next_of c.args.depth h.more c.loop-left.left h.count c.loop-left-test.true h.fit in
      begun_next c.args.path.now c.args.depth all rest c.loop-left.left c.loop-left.last _ _ _ _ h n
      c.in_ok-name.name _ _
      (λ form. c.in_ok-name.ensures.lays n.entry (entries_bytes n.others ++ rest) form n.node)
      (λ form. c.in_ok-name.ensures.partly n.entry (entries_bytes n.others ++ rest) form n.node);
  taken = taken_next c.args.path.now c.args.depth c.args.count c.loop-left.left c.loop-left.last c.in_ok-name.name
      _ _ _ _ _ _ c.loop-left-test.true c.loop-left.invariant.taken c.in_ok-name.ensures.takes;
}

pub lay_kept_entries-returns-clause-lays : goal.lay_kept_entries-returns-clause-lays
lay_kept_entries-returns-clause-lays g t c = λ all rest count fit. begun_done c.args.path.now c.args.depth all
    rest c.loop-left.left c.loop-left.last _ _ _ _ (omega (arith, c.loop-left-test.false))
    (c.loop-left.invariant.begun all rest count fit)

pub lay_kept_entries-returns-clause-takes : goal.lay_kept_entries-returns-clause-takes
lay_kept_entries-returns-clause-takes g t c = taken_last c.args.path.now c.args.depth c.args.count c.loop-left.left
    c.loop-left.last _ _ _ _ (omega (arith, c.loop-left-test.false)) c.loop-left.invariant.taken

-- ---- an entry

pub lay_kept_entry-returns-then-depth-gt-MAX_DEPTH-clause-leaves :
    goal.lay_kept_entry-returns-then-depth-gt-MAX_DEPTH-clause-leaves
lay_kept_entry-returns-then-depth-gt-MAX_DEPTH-clause-leaves g t c = rw c.broken.ensures
    (leaves_damaged c.args.folder.now _ _ _ _ _)

pub lay_kept_entry-returns-then-depth-gt-MAX_DEPTH-clause-lays :
    goal.lay_kept_entry-returns-then-depth-gt-MAX_DEPTH-clause-lays
lay_kept_entry-returns-then-depth-gt-MAX_DEPTH-clause-lays g t c = λ entry rest form fit.
    let deep : c.args.depth ≤ 64 = fits_deep entry.node c.args.depth fit in
    let above : 64 < c.args.depth = c.if-depth-gt-MAX_DEPTH.true in
    absurd (omega (arith, deep, above))

pub lay_kept_entry-returns-in_err-name-clause-leaves : goal.lay_kept_entry-returns-in_err-name-clause-leaves
lay_kept_entry-returns-in_err-name-clause-leaves g t c =
    let exit = err_from_is_err_and c.from_residual.result c.from_residual.ensures.1 in
    rw (exit.1, exit.2) (leaves_stop c.args.folder.now _ _ _ _ _ (c.in_err-name.ensures.leaves c.args.folder.now))

pub lay_kept_entry-returns-in_err-name-clause-lays : goal.lay_kept_entry-returns-in_err-name-clause-lays
lay_kept_entry-returns-in_err-name-clause-lays g t c = λ entry rest form fit.
    let exit = err_from_is_err_and c.from_residual.result c.from_residual.ensures.1 in
    rw (exit.1, exit.2) (reads_before (entry_ahead entry rest)
    (reads_stop (λ read. read ≡ entry.name) (λ name. name ≡ entry.name)
    (c.in_err-name.ensures.reads entry.name (node_bytes entry.node ++ rest)
    (way_into c.args.folder.now) (form_name c.args.last.now entry.name form))))

pub lay_kept_entry-returns-then-not-follows-clause-leaves :
    goal.lay_kept_entry-returns-then-not-follows-clause-leaves
lay_kept_entry-returns-then-not-follows-clause-leaves g t c = rw c.broken-then-not-follows.ensures
    (leaves_broken c.args.folder.now _ _ _ _ c.in_ok-name.name _ _ _
    (c.in_ok-name.ensures.leaves c.args.folder.now))

pub lay_kept_entry-returns-then-not-follows-clause-lays :
    goal.lay_kept_entry-returns-then-not-follows-clause-lays
lay_kept_entry-returns-then-not-follows-clause-lays g t c = λ entry rest form fit.
    reads_before (entry_ahead entry rest) (reads_behind (λ read. read ≡ entry.name) (λ name. name ≡ entry.name)
    (c.in_ok-name.ensures.reads entry.name (node_bytes entry.node ++ rest) (way_into c.args.folder.now)
    (form_name c.args.last.now entry.name form))
    (λ same. absurd (let no : false ≡ true = c.if-not-follows.ensures ∙ ap (follows c.args.last.now) same
    ∙ form_behind c.args.last.now entry.name form in cc)))

pub lay_kept_entry-returns-in_err-path-clause-leaves : goal.lay_kept_entry-returns-in_err-path-clause-leaves
lay_kept_entry-returns-in_err-path-clause-leaves g t c =
    let exit = err_from_is_err_and c.from_residual-in_err-path.result c.from_residual-in_err-path.ensures.1 in
    rw (exit.1, exit.2) (leaves_short c.args.folder.now _ _ _ _ _ (c.in_ok-name.ensures.leaves c.args.folder.now))

pub lay_kept_entry-returns-in_err-path-clause-lays : goal.lay_kept_entry-returns-in_err-path-clause-lays
lay_kept_entry-returns-in_err-path-clause-lays g t c = λ entry rest form fit.
    let exit = err_from_is_err_and c.from_residual-in_err-path.result c.from_residual-in_err-path.ensures.1 in
    rw (exit.1, exit.2) (reads_before (entry_ahead entry rest)
    (reads_behind (λ read. read ≡ entry.name) (λ name. name ≡ entry.name) (c.in_ok-name.ensures.reads entry.name
    (node_bytes entry.node ++ rest) (way_into c.args.folder.now) (form_name c.args.last.now entry.name form))
    (λ same. does_memory _ _ _ _ _ _ _ _)))

pub lay_kept_entry-lay_kept_node-requires : goal.lay_kept_entry-lay_kept_node-requires
lay_kept_entry-lay_kept_node-requires g t c κs within =
    let size : length c.in_ok-name.name ≤ 255 = part_size c.in_ok-name.name c.in_ok-name.ensures.part in (
      search rules,
      (
        within.0,
        (
          within.1,
          (
            apart_child c.args.folder.now c.in_ok-name.name _ _ _
                (c.in_ok-path.ensures.0 ∙ ap (joined c.args.folder.now) c.as_str.ensures) c.in_ok-name.ensures.part
                (c.in_ok-name.ensures.leaves c.args.folder.now).stays c.requires.apart,
            (
              omega (arith, c.if-depth-gt-MAX_DEPTH.false),
              omega (
                arith,
                size,
                c.if-depth-gt-MAX_DEPTH.false,
                c.requires.short,
                ap length
                    (c.in_ok-path.ensures.0 ∙ ap (joined c.args.folder.now) c.as_str.ensures),
                joined_short
                    c.args.folder.now c.in_ok-name.name,
              ),
            ),
          ),
        ),
      ),
    )

pub lay_kept_entry-returns-in_err-lay_kept_node-clause-leaves :
    goal.lay_kept_entry-returns-in_err-lay_kept_node-clause-leaves
lay_kept_entry-returns-in_err-lay_kept_node-clause-leaves g t c =
    let exit = err_from_is_err_and c.from_residual-in_err-lay_kept_node.result
    c.from_residual-in_err-lay_kept_node.ensures.1 in
    rw (exit.1, exit.2) (leaves_then (c.in_ok-name.ensures.leaves c.args.folder.now)
    (leaves_wider c.args.folder.now c.in_ok-name.name _ _ _ _ _ _
    (c.in_ok-path.ensures.0 ∙ ap (joined c.args.folder.now) c.as_str.ensures) c.in_ok-name.ensures.part
    (leaves_stop _ _ _ _ _ _ c.in_err-lay_kept_node.ensures.leaves)))

pub lay_kept_entry-returns-in_err-lay_kept_node-clause-lays :
    goal.lay_kept_entry-returns-in_err-lay_kept_node-clause-lays
lay_kept_entry-returns-in_err-lay_kept_node-clause-lays g t c = λ entry rest form fit.
    let exit = err_from_is_err_and c.from_residual-in_err-lay_kept_node.result
    c.from_residual-in_err-lay_kept_node.ensures.1 in
    let name = form_name c.args.last.now entry.name form in
    rw (exit.1, exit.2) (reads_before (entry_ahead entry rest)
    (reads_behind (λ read. read ≡ entry.name) (λ name. name ≡ entry.name)
    (c.in_ok-name.ensures.reads entry.name (node_bytes entry.node ++ rest) (way_into c.args.folder.now) name)
    (λ same. reads_stop (λ done. Unit {0}) (λ name. name ≡ entry.name)
    (entry_child c.args.folder.now _ entry _ rest _ _ _ _ _
    (c.in_ok-path.ensures.0 ∙ ap (joined c.args.folder.now) (c.as_str.ensures ∙ same))
    c.as_str-folder.ensures.is_path name c.in_err-lay_kept_node.ensures.leaves.around
    (c.in_err-lay_kept_node.ensures.lays entry.node rest fit)))))

pub lay_kept_entry-returns-clause-leaves : goal.lay_kept_entry-returns-clause-leaves
lay_kept_entry-returns-clause-leaves g t c = leaves_then (c.in_ok-name.ensures.leaves c.args.folder.now)
    (leaves_value c.args.folder.now _ _ _ _ _ _ (leaves_wider c.args.folder.now c.in_ok-name.name _ _ _ _ _ _
    (c.in_ok-path.ensures.0 ∙ ap (joined c.args.folder.now) c.as_str.ensures) c.in_ok-name.ensures.part
    c.in_ok-lay_kept_node.ensures.leaves))

pub lay_kept_entry-returns-clause-lays : goal.lay_kept_entry-returns-clause-lays
lay_kept_entry-returns-clause-lays g t c = λ entry rest form fit.
    let name = form_name c.args.last.now entry.name form in
    reads_before (entry_ahead entry rest) (reads_behind (λ read. read ≡ entry.name) (λ name. name ≡ entry.name)
    (c.in_ok-name.ensures.reads entry.name (node_bytes entry.node ++ rest) (way_into c.args.folder.now) name)
    (λ same. does_value (λ done. Unit {0}) (λ name. name ≡ entry.name) _ c.in_ok-name.name _ _ _ _ _ _ _ _ _
    (λ done. same) (entry_child c.args.folder.now _ entry _ rest _ _ _ _ _
    (c.in_ok-path.ensures.0 ∙ ap (joined c.args.folder.now) (c.as_str.ensures ∙ same))
    c.as_str-folder.ensures.is_path name c.in_ok-lay_kept_node.ensures.leaves.around
    (c.in_ok-lay_kept_node.ensures.lays entry.node rest fit))))

pub lay_kept_entry-returns-clause-takes : goal.lay_kept_entry-returns-clause-takes
lay_kept_entry-returns-clause-takes g t c = takes_entry c.args.folder.now _ c.in_ok-name.name c.args.last.now
    c.args.depth _ _ _ _ _ _ c.in_ok-name.ensures.form (sym c.if-not-follows.ensures)
    (c.in_ok-path.ensures.0 ∙ ap (joined c.args.folder.now) c.as_str.ensures) c.in_ok-name.ensures.takes
    c.in_ok-lay_kept_node.ensures.takes

-- ---- a folder

pub lay_kept_folder-returns-in_err-head-clause-leaves : goal.lay_kept_folder-returns-in_err-head-clause-leaves
lay_kept_folder-returns-in_err-head-clause-leaves g t c =
    let exit = err_from_is_err_and c.from_residual.result c.from_residual.ensures.1 in
    rw (exit.1, exit.2) (leaves_stop c.args.path.now _ _ _ _ _ (c.in_err-head.ensures.leaves c.args.path.now))

pub lay_kept_folder-returns-in_err-head-clause-lays : goal.lay_kept_folder-returns-in_err-head-clause-lays
lay_kept_folder-returns-in_err-head-clause-lays g t c = λ all rest fit.
    let exit = err_from_is_err_and c.from_residual.result c.from_residual.ensures.1 in
    rw (exit.1, exit.2) (reads_stop (λ read. read ≡ to_be_bytes w32 (length all)) (λ done. Unit {0})
    (c.in_err-head.ensures.reads (to_be_bytes w32 (length all)) (entries_bytes all ++ rest)
    (way_to c.args.path.now) refl))

pub lay_kept_folder-returns-in_err-or_blame-clause-leaves : goal.lay_kept_folder-returns-in_err-or_blame-clause-leaves
lay_kept_folder-returns-in_err-or_blame-clause-leaves g t c =
    let exit = err_from_is_err_and c.from_residual-in_err-or_blame.result c.from_residual-in_err-or_blame.ensures.1 in
    rw (exit.1, exit.2) (leaves_then (c.in_ok-head.ensures.leaves c.args.path.now)
    (leaves_laid g.W.World c.args.path.now _ c.lay_folder.result (Err _) _ _
    (way_to c.args.path.now) c.lay_folder.ensures.files c.in_err-or_blame.ensures.counts
    c.in_err-or_blame.ensures.blames c.lay_folder.ensures.children c.lay_folder.ensures.around
    c.lay_folder.ensures.right))

pub lay_kept_folder-returns-in_err-or_blame-clause-lays : goal.lay_kept_folder-returns-in_err-or_blame-clause-lays
lay_kept_folder-returns-in_err-or_blame-clause-lays g t c = λ all rest fit.
    let exit = err_from_is_err_and c.from_residual-in_err-or_blame.result c.from_residual-in_err-or_blame.ensures.1 in
    rw (exit.1, exit.2) (lays_behind (λ read. read ≡ to_be_bytes w32 (length all))
    (c.in_ok-head.ensures.reads (to_be_bytes w32 (length all)) (entries_bytes all ++ rest)
    (way_to c.args.path.now) refl)
    (λ size. lays_stop (does_called c.args.path.now (entries_bytes all ++ rest) _ (folder_laid c.args.path.now)
    (way_to c.args.path.now) (way_into c.args.path.now) c.lay_folder.result (Err _) _ _
    (ap (is_within c.args.path.now) (c.in_ok-head.ensures.leaves c.args.path.now).stays ∙ c.requires.apart)
    c.lay_folder.ensures.ok tt c.in_err-or_blame.ensures.free c.lay_folder.ensures.around
    c.lay_folder.ensures.right
    (λ is are. inside_laid c.args.path.now _ _ is c.lay_folder.ensures.around.files are))))

pub lay_kept_folder-returns-clause-leaves : goal.lay_kept_folder-returns-clause-leaves
lay_kept_folder-returns-clause-leaves g t c = leaves_then (c.in_ok-head.ensures.leaves c.args.path.now)
    (leaves_then (leaves_laid g.W.World c.args.path.now _ c.lay_folder.result (Ok tt) _ _
    (way_to c.args.path.now) c.lay_folder.ensures.files c.in_ok-or_blame.ensures.counts tt
    c.lay_folder.ensures.children c.lay_folder.ensures.around c.lay_folder.ensures.right)
    c.lay_kept_entries.ensures.leaves)

pub lay_kept_folder-returns-clause-lays : goal.lay_kept_folder-returns-clause-lays
lay_kept_folder-returns-clause-lays g t c = λ all rest fit.
    lays_behind (λ read. read ≡ to_be_bytes w32 (length all))
    (c.in_ok-head.ensures.reads (to_be_bytes w32 (length all)) (entries_bytes all ++ rest)
    (way_to c.args.path.now) refl)
    (λ size. lays_as (λ files. sym (laid_folder all c.args.path.now files)) (lays_away (lays_on
    (does_called c.args.path.now (entries_bytes all ++ rest) _ (folder_laid c.args.path.now)
    (way_to c.args.path.now) (way_into c.args.path.now) c.lay_folder.result (Ok tt) _ _
    (ap (is_within c.args.path.now) (c.in_ok-head.ensures.leaves c.args.path.now).stays ∙ c.requires.apart)
    c.lay_folder.ensures.ok c.in_ok-or_blame.ensures.ok tt c.lay_folder.ensures.around
    c.lay_folder.ensures.right
    (λ is are. inside_laid c.args.path.now _ _ is c.lay_folder.ensures.around.files are))
    (c.lay_kept_entries.ensures.lays all rest (count_is all c.args.depth c.in_ok-head.head c.as_slice.result.now
    c.u32_of-count.result fit c.as_slice.ensures size c.u32_of-count.ensures.value)
    (folder_entries all c.args.depth fit)))))

pub lay_kept_folder-returns-clause-takes : goal.lay_kept_folder-returns-clause-takes
lay_kept_folder-returns-clause-takes g t c = done_then _ _ c.lay_kept_entries.result
    (takes_folder c.args.path.now c.in_ok-head.head c.as_slice.result.now c.args.depth c.u32_of-count.result
    _ _ _ _ _ _ _ c.requires.deep (omega arith) c.in_ok-head.ensures.takes c.in_ok-head.ensures.length
    c.as_slice.ensures c.u32_of-count.ensures.bytes
    (when_ok c.lay_folder.result c.in_ok-or_blame.ensures.ok c.lay_folder.ensures.ok))
    c.lay_kept_entries.ensures.takes

-- ---- a node

pub lay_kept_node-returns-in_err-byte-clause-leaves : goal.lay_kept_node-returns-in_err-byte-clause-leaves
lay_kept_node-returns-in_err-byte-clause-leaves g t c =
    let exit = err_from_is_err_and c.from_residual.result c.from_residual.ensures.1 in
    rw (exit.1, exit.2) (leaves_stop c.args.path.now _ _ _ _ _ (c.in_err-byte.ensures.leaves c.args.path.now))

pub lay_kept_node-returns-in_err-byte-clause-lays : goal.lay_kept_node-returns-in_err-byte-clause-lays
lay_kept_node-returns-in_err-byte-clause-lays g t c = λ node rest fit.
    let exit = err_from_is_err_and c.from_residual.result c.from_residual.ensures.1 in
    rw (exit.1, exit.2) (node_stops node rest c.args.path.now (way_to c.args.path.now) _ _ _ _ _
    (λ byte behind. c.in_err-byte.ensures.reads byte behind (way_to c.args.path.now)))

pub lay_kept_node-lay_kept_folder-requires : goal.lay_kept_node-lay_kept_folder-requires
lay_kept_node-lay_kept_folder-requires g t c κs within = (
  search rules,
  (
    within.0,
    (
      within.1,
      (
        ap (is_within c.args.path.now) (c.in_ok-byte.ensures.leaves c.args.path.now).stays
            ∙ c.requires.apart,
        (c.requires.deep, c.requires.short),
      ),
    ),
  ),
)

pub lay_kept_node-lay_kept_file-requires : goal.lay_kept_node-lay_kept_file-requires
lay_kept_node-lay_kept_file-requires g t c = record {
  apart = ap (is_within c.args.path.now) (c.in_ok-byte.ensures.leaves c.args.path.now).stays
      ∙ c.requires.apart;
}

pub lay_kept_node-lay_kept_link-requires : goal.lay_kept_node-lay_kept_link-requires
lay_kept_node-lay_kept_link-requires g t c = record {
  apart = ap (is_within c.args.path.now) (c.in_ok-byte.ensures.leaves c.args.path.now).stays
      ∙ c.requires.apart;
}

pub lay_kept_node-returns-in-68-clause-leaves : goal.lay_kept_node-returns-in-68-clause-leaves
lay_kept_node-returns-in-68-clause-leaves g t c = leaves_then
    (c.in_ok-byte.ensures.leaves c.args.path.now) c.lay_kept_folder.ensures.leaves

pub lay_kept_node-returns-in-70-clause-leaves : goal.lay_kept_node-returns-in-70-clause-leaves
lay_kept_node-returns-in-70-clause-leaves g t c = leaves_then
    (c.in_ok-byte.ensures.leaves c.args.path.now) c.lay_kept_file.ensures.leaves

pub lay_kept_node-returns-in-76-clause-leaves : goal.lay_kept_node-returns-in-76-clause-leaves
lay_kept_node-returns-in-76-clause-leaves g t c = leaves_then
    (c.in_ok-byte.ensures.leaves c.args.path.now) c.lay_kept_link.ensures.leaves

pub lay_kept_node-returns-in_default-clause-leaves : goal.lay_kept_node-returns-in_default-clause-leaves
lay_kept_node-returns-in_default-clause-leaves g t c = rw c.broken.ensures
    (leaves_broken c.args.path.now _ _ _ _ c.in_ok-byte.field-0 _ _ _
    (c.in_ok-byte.ensures.leaves c.args.path.now))

pub lay_kept_node-returns-in-68-clause-lays : goal.lay_kept_node-returns-in-68-clause-lays
lay_kept_node-returns-in-68-clause-lays g t c = λ node rest fit. node_lays node rest c.args.path.now c.args.depth
    (way_to c.args.path.now) c.in_ok-byte.field-0 _ _ _ _ _ _ _ fit
    (λ byte behind. c.in_ok-byte.ensures.reads byte behind (way_to c.args.path.now))
    (λ all tag fit. c.lay_kept_folder.ensures.lays all rest fit)
    (λ exec bytes tag. lays_never (omega (arith, tag, c.in-68.is)))
    (λ target tag is. lays_never (omega (arith, tag, c.in-68.is)))

pub lay_kept_node-returns-in-70-clause-lays : goal.lay_kept_node-returns-in-70-clause-lays
lay_kept_node-returns-in-70-clause-lays g t c = λ node rest fit. node_lays node rest c.args.path.now c.args.depth
    (way_to c.args.path.now) c.in_ok-byte.field-0 _ _ _ _ _ _ _ fit
    (λ byte behind. c.in_ok-byte.ensures.reads byte behind (way_to c.args.path.now))
    (λ all tag fit. lays_never (omega (arith, tag, c.in-70.is)))
    (λ exec bytes tag. c.lay_kept_file.ensures.lays exec bytes rest)
    (λ target tag is. lays_never (omega (arith, tag, c.in-70.is)))

pub lay_kept_node-returns-in-76-clause-lays : goal.lay_kept_node-returns-in-76-clause-lays
lay_kept_node-returns-in-76-clause-lays g t c = λ node rest fit. node_lays node rest c.args.path.now c.args.depth
    (way_to c.args.path.now) c.in_ok-byte.field-0 _ _ _ _ _ _ _ fit
    (λ byte behind. c.in_ok-byte.ensures.reads byte behind (way_to c.args.path.now))
    (λ all tag fit. lays_never (omega (arith, tag, c.in-76.is)))
    (λ exec bytes tag. lays_never (omega (arith, tag, c.in-76.is)))
    (λ target tag is. c.lay_kept_link.ensures.lays target rest is)

pub lay_kept_node-returns-in_default-clause-lays : goal.lay_kept_node-returns-in_default-clause-lays
lay_kept_node-returns-in_default-clause-lays g t c = λ node rest fit. node_lays node rest c.args.path.now
    c.args.depth (way_to c.args.path.now) c.in_ok-byte.field-0 _ _ _ _ _ _ _ fit
    (λ byte behind. c.in_ok-byte.ensures.reads byte behind (way_to c.args.path.now))
    (λ all tag fit. lays_never (omega (arith, tag)))
    (λ exec bytes tag. lays_never (omega (arith, tag)))
    (λ target tag is. lays_never (omega (arith, tag)))

pub lay_kept_node-returns-in-68-clause-takes : goal.lay_kept_node-returns-in-68-clause-takes
lay_kept_node-returns-in-68-clause-takes g t c = done_then _ _ c.lay_kept_folder.result
    (node_folder c.args.path.now c.args.depth c.in_ok-byte.field-0 _ _ _ _ _ _ (omega (arith, c.in-68.is))
    c.in_ok-byte.ensures.takes) c.lay_kept_folder.ensures.takes

pub lay_kept_node-returns-in-70-clause-takes : goal.lay_kept_node-returns-in-70-clause-takes
lay_kept_node-returns-in-70-clause-takes g t c = done_then _ _ c.lay_kept_file.result
    (node_file c.args.path.now c.args.depth c.in_ok-byte.field-0 _ _ _ _ _ _ c.requires.deep
    (omega (arith, c.in-70.is)) c.in_ok-byte.ensures.takes) c.lay_kept_file.ensures.takes

pub lay_kept_node-returns-in-76-clause-takes : goal.lay_kept_node-returns-in-76-clause-takes
lay_kept_node-returns-in-76-clause-takes g t c = done_then _ _ c.lay_kept_link.result
    (node_link c.args.path.now c.args.depth c.in_ok-byte.field-0 _ _ _ _ _ _ c.requires.deep
    (omega (arith, c.in-76.is)) c.in_ok-byte.ensures.takes) c.lay_kept_link.ensures.takes

-- ---- what stands where it was cut off

pub lay_kept_entries-returns-in_err-name-clause-partly : goal.lay_kept_entries-returns-in_err-name-clause-partly
lay_kept_entries-returns-in_err-name-clause-partly g t c = λ all rest count fit.
    let h = c.loop-left.invariant.begun all rest count fit in
    let n = next_of c.args.depth h.more c.loop-left.left h.count c.loop-left-test.true h.fit in
    begun_part c.args.path.now c.args.depth all rest c.loop-left.left c.loop-left.last _ _ _ _ h n _
    (λ form. c.in_err-name.ensures.partly n.entry (entries_bytes n.others ++ rest) form n.node)

pub lay_kept_entries-returns-clause-partly : goal.lay_kept_entries-returns-clause-partly
lay_kept_entries-returns-clause-partly g t c = λ all rest count fit. let h = c.loop-left.invariant.begun all rest
    count fit in h.partly

pub lay_kept_entry-returns-then-depth-gt-MAX_DEPTH-clause-partly :
    goal.lay_kept_entry-returns-then-depth-gt-MAX_DEPTH-clause-partly
lay_kept_entry-returns-then-depth-gt-MAX_DEPTH-clause-partly g t c = λ entry rest name fit. record
    { so = λ ahead are. partly_itself _ _ _ _ refl }

pub lay_kept_entry-returns-in_err-name-clause-partly : goal.lay_kept_entry-returns-in_err-name-clause-partly
lay_kept_entry-returns-in_err-name-clause-partly g t c = λ entry rest name fit. record
    { so = λ ahead are. partly_unread _ _ _ _ (λ p. (c.in_err-name.ensures.leaves p).around.files) }

pub lay_kept_entry-returns-in_err-path-clause-partly : goal.lay_kept_entry-returns-in_err-path-clause-partly
lay_kept_entry-returns-in_err-path-clause-partly g t c = λ entry rest name fit. record
    { so = λ ahead are. partly_unread _ _ _ _ (λ p. (c.in_ok-name.ensures.leaves p).around.files) }

pub lay_kept_entry-returns-then-not-follows-clause-partly :
    goal.lay_kept_entry-returns-then-not-follows-clause-partly
lay_kept_entry-returns-then-not-follows-clause-partly g t c = λ entry rest form fit. record
    { so = λ ahead are. partly_unread _ _ _ _ (λ p. (c.in_ok-name.ensures.leaves p).around.files) }

pub lay_kept_entry-returns-in_err-lay_kept_node-clause-partly :
    goal.lay_kept_entry-returns-in_err-lay_kept_node-clause-partly
lay_kept_entry-returns-in_err-lay_kept_node-clause-partly g t c = λ entry rest form fit.
    let name = form_name c.args.last.now entry.name form in
    part_bytes (entry_ahead entry rest) (part_behind (λ read. read ≡ entry.name)
    (c.in_ok-name.ensures.reads entry.name (node_bytes entry.node ++ rest) (way_into c.args.folder.now) name)
    (λ same. entry_parts c.args.folder.now _ entry (node_bytes entry.node ++ rest) _ _ _
    (c.in_ok-path.ensures.0 ∙ ap (joined c.args.folder.now) (c.as_str.ensures ∙ same))
    c.as_str-folder.ensures.is_path name c.in_err-lay_kept_node.ensures.leaves.around
    (c.in_err-lay_kept_node.ensures.partly entry.node rest fit)))

pub lay_kept_entry-returns-clause-partly : goal.lay_kept_entry-returns-clause-partly
lay_kept_entry-returns-clause-partly g t c = λ entry rest form fit.
    let name = form_name c.args.last.now entry.name form in
    part_bytes (entry_ahead entry rest) (part_behind (λ read. read ≡ entry.name)
    (c.in_ok-name.ensures.reads entry.name (node_bytes entry.node ++ rest) (way_into c.args.folder.now) name)
    (λ same. entry_parts c.args.folder.now _ entry (node_bytes entry.node ++ rest) _ _ _
    (c.in_ok-path.ensures.0 ∙ ap (joined c.args.folder.now) (c.as_str.ensures ∙ same))
    c.as_str-folder.ensures.is_path name c.in_ok-lay_kept_node.ensures.leaves.around
    (c.in_ok-lay_kept_node.ensures.partly entry.node rest fit)))

pub lay_kept_folder-returns-in_err-head-clause-partly : goal.lay_kept_folder-returns-in_err-head-clause-partly
lay_kept_folder-returns-in_err-head-clause-partly g t c = λ all rest fit. record
    { so = λ ahead are. partly_unread _ _ _ _ (λ p. (c.in_err-head.ensures.leaves p).around.files) }

pub lay_kept_folder-returns-in_err-or_blame-clause-partly : goal.lay_kept_folder-returns-in_err-or_blame-clause-partly
lay_kept_folder-returns-in_err-or_blame-clause-partly g t c = λ all rest fit. record {
  so = λ ahead are. partly_then _ _ _ _ _ (partly_unread _ _ _ _
      (λ p. (c.in_ok-head.ensures.leaves p).around.files))
      (folder_partly all c.args.path.now _ _ c.lay_folder.ensures.partly);
}

pub lay_kept_folder-returns-clause-partly : goal.lay_kept_folder-returns-clause-partly
lay_kept_folder-returns-clause-partly g t c = λ all rest fit.
    part_behind (λ read. read ≡ to_be_bytes w32 (length all))
    (c.in_ok-head.ensures.reads (to_be_bytes w32 (length all)) (entries_bytes all ++ rest)
    (way_to c.args.path.now) refl)
    (λ size. part_after
    (does_called c.args.path.now (entries_bytes all ++ rest) _ (folder_laid c.args.path.now)
    (way_to c.args.path.now) (way_into c.args.path.now) c.lay_folder.result (Ok tt) _ _
    (ap (is_within c.args.path.now) (c.in_ok-head.ensures.leaves c.args.path.now).stays ∙ c.requires.apart)
    c.lay_folder.ensures.ok c.in_ok-or_blame.ensures.ok tt c.lay_folder.ensures.around
    c.lay_folder.ensures.right
    (λ is are. inside_laid c.args.path.now _ _ is c.lay_folder.ensures.around.files are))
    (c.lay_kept_entries.ensures.partly all rest (count_is all c.args.depth c.in_ok-head.head c.as_slice.result.now
    c.u32_of-count.result fit c.as_slice.ensures size c.u32_of-count.ensures.value)
    (folder_entries all c.args.depth fit))
    (λ h. partly_then _ _ _ _ _ (folder_partly all c.args.path.now _ _ c.lay_folder.ensures.partly) h))

pub lay_kept_node-returns-in_err-byte-clause-partly : goal.lay_kept_node-returns-in_err-byte-clause-partly
lay_kept_node-returns-in_err-byte-clause-partly g t c = λ node rest fit. record
    { so = λ ahead are. partly_unread _ _ _ _ (λ p. (c.in_err-byte.ensures.leaves p).around.files) }

pub lay_kept_node-returns-in_default-clause-partly : goal.lay_kept_node-returns-in_default-clause-partly
lay_kept_node-returns-in_default-clause-partly g t c = λ node rest fit. record
    { so = λ ahead are. partly_unread _ _ _ _ (λ p. (c.in_ok-byte.ensures.leaves p).around.files) }

pub lay_kept_node-returns-in-68-clause-partly : goal.lay_kept_node-returns-in-68-clause-partly
lay_kept_node-returns-in-68-clause-partly g t c = λ node rest fit. node_parts node rest c.args.path.now
    c.args.depth (way_to c.args.path.now) c.in_ok-byte.field-0 _ _ _ _ _ fit
    (λ byte behind. c.in_ok-byte.ensures.reads byte behind (way_to c.args.path.now))
    (λ all tag fit. c.lay_kept_folder.ensures.partly all rest fit)
    (λ exec bytes tag. absurd (omega (arith, tag, c.in-68.is)))
    (λ target tag is. absurd (omega (arith, tag, c.in-68.is)))

pub lay_kept_node-returns-in-70-clause-partly : goal.lay_kept_node-returns-in-70-clause-partly
lay_kept_node-returns-in-70-clause-partly g t c = λ node rest fit. node_parts node rest c.args.path.now
    c.args.depth (way_to c.args.path.now) c.in_ok-byte.field-0 _ _ _ _ _ fit
    (λ byte behind. c.in_ok-byte.ensures.reads byte behind (way_to c.args.path.now))
    (λ all tag fit. absurd (omega (arith, tag, c.in-70.is)))
    (λ exec bytes tag. c.lay_kept_file.ensures.partly exec bytes rest)
    (λ target tag is. absurd (omega (arith, tag, c.in-70.is)))

pub lay_kept_node-returns-in-76-clause-partly : goal.lay_kept_node-returns-in-76-clause-partly
lay_kept_node-returns-in-76-clause-partly g t c = λ node rest fit. node_parts node rest c.args.path.now
    c.args.depth (way_to c.args.path.now) c.in_ok-byte.field-0 _ _ _ _ _ fit
    (λ byte behind. c.in_ok-byte.ensures.reads byte behind (way_to c.args.path.now))
    (λ all tag fit. absurd (omega (arith, tag, c.in-76.is)))
    (λ exec bytes tag. absurd (omega (arith, tag, c.in-76.is)))
    (λ target tag is. c.lay_kept_link.ensures.partly target rest is)
