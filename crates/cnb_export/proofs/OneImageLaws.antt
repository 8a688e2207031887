-- The files alone decide what an export makes: each of its steps is decided by them.
use Rattle.std.proofs.Common.{◌≡◌, ◌∙◌, refl, sym, ap, subst, ℕ, Bool, List, [], ◌∷◌, map, Option, Some, None}
use Rattle.std.proofs.Common.{Result, Ok, Err, inl, inr}
use Rattle.app_slices.specs.Slots.{Slices}
use Rattle.cnb_toml.specs.declared.process.Process.{Process}
use Rattle.cnb_world.specs.Tree.{Tree}
use Rattle.image_docs.specs.declared.analyzed.Analyzed.{Analyzed}
use Rattle.image_files.specs.Faults as images
use Rattle.image_files.specs.Images.{reads_image, reads_run_image}
use Rattle.image_files.specs.declared.fault.ImageFault.{ImageFault}
use Rattle.image_files.specs.declared.fault.ImageFault.TheVariants as image
use Rattle.image_docs.specs.declared.layer_row.LayerRow.{LayerRow}
use Rattle.run_docs.specs.declared.group.GroupRow.{GroupRow}
use Rattle.shelf_set.specs.Caches.{Caches, WorldAndCaches, in_world}
use Rattle.shelf_set.specs.Caching.{StoresRead, reads_trees, stores_folders}
use Rattle.steps.specs.Outside.{Seen}
use Rattle.steps.specs.Steps.{◌>>=◌, gives, map_err, yields}
use Rattle.tree_canon.specs.declared.node.Node.{Node}
use Rattle.tree_store.specs.Answers as stored
use Rattle.tree_store.specs.declared.fault.StoreFault.{StoreFault}
use Rattle.cnb_export.specs.Exports.{exports, folder_of, gains}
use Rattle.cnb_export.specs.Images.{reads_layers, reads_previous}
use Rattle.cnb_export.specs.OneImage.{AreOneImage, IsOneImage}
use Rattle.cnb_layers.specs.Refusals.{cause_of, of_image_fault}
use Rattle.cnb_export.specs.Trees.{cuts_app, puts_app, puts_links, puts_part, puts_parts, puts_process, puts_trees}
use Rattle.cnb_export.specs.Trees.{puts_whole}
use Rattle.cnb_export.specs.declared.exported.Exported.{Exported}
use Rattle.cnb_layers.specs.declared.frame.ExportFrame.{ExportFrame}
use Rattle.cnb_export.specs.declared.exporting.Gained.{Gained}
use Rattle.cnb_layers.specs.declared.fault.ExportFault.{ExportFault}
use Rattle.cnb_layers.specs.declared.fault.ExportFault.TheVariants.{Store}
use Rattle.cnb_layers.proofs.DecidedLaws.{AreDecided, decided_bind, decided_each, decided_gives, decided_puts}
use Rattle.cnb_layers.proofs.DecidedLaws.{decided_puts_folder, decided_reads, decided_reads_tree, decided_told}
use Rattle.cnb_layers.proofs.DecidedLaws.{decided_yields}
use Rattle.cnb_layers.proofs.GroupLaws.{of_store, one_group}

-- ---- refusals that are told as an export's

image_cause : (fault : ImageFault) → cause_of (of_image_fault fault) ≡ images.cause_of fault
image_cause (image.NoImage name) = refl
image_cause (image.Document path fault) = refl
image_cause (image.Limit kind) = refl
image_cause (image.File path) = refl
image_cause image.Memory = refl

of_image : {A : Type 0} (step : Seen → Result A ImageFault → Seen → Type 0) → AreDecided images.cause_of step
    → AreDecided cause_of (map_err of_image_fault step)
of_image step h = decided_told images.cause_of cause_of of_image_fault step image_cause h

-- ---- what only reads

one_run : (store name : List ℕ) → AreDecided images.cause_of (reads_run_image store name)
unfolding reads_run_image
one_run store name = decided_reads images.cause_of _ _ _

one_document : (store name : List ℕ) → AreDecided images.cause_of (reads_image store name)
unfolding reads_image
one_document store name = decided_reads images.cause_of _ _ _

one_rows : (store name : List ℕ) → AreDecided cause_of (reads_layers store name)
unfolding reads_layers
one_rows store name = decided_bind cause_of _ _ (of_image _ (one_document store name))
    (λ image. decided_yields cause_of image.layers)

one_previous : (store : List ℕ) (name : Option (List ℕ)) → AreDecided cause_of (reads_previous store name)
one_previous store None = decided_yields cause_of _
one_previous store (Some name) = one_rows store name

one_cut : (app : List ℕ) (slices : Slices) → AreDecided cause_of (cuts_app app slices)
unfolding cuts_app
one_cut app slices = decided_bind cause_of _ _ (of_store _ (decided_reads_tree app)) (λ tree. decided_gives cause_of _)

-- ---- what puts trees too

module _ (store : List ℕ) where
  one_links : (processes : List Process) → AreDecided cause_of (puts_links store processes)
  unfolding puts_links
  one_links processes = decided_bind cause_of _ _ (decided_gives cause_of _)
      (λ tree. decided_bind cause_of _ _ (of_store _ (decided_puts store tree))
      (λ digest. decided_yields cause_of (Some digest)))

  one_whole : (app : List ℕ) → AreDecided cause_of (puts_whole store app)
  unfolding puts_whole
  one_whole app = decided_bind cause_of _ _ (of_store _ (decided_puts_folder store app))
      (λ digest. decided_gives cause_of _)

  one_part : (tree : Node) (digests : List (List ℕ)) → AreDecided cause_of (puts_part store tree digests)
  unfolding puts_part
  one_part tree digests = decided_bind cause_of _ _ (of_store _ (decided_puts store tree))
      (λ digest. decided_gives cause_of _)

  one_app : (app : List ℕ) (slices : Slices) → AreDecided cause_of (puts_app store app slices)
  unfolding puts_parts
  one_app app [] = one_whole app
  one_app app (slice ∷ slices) =
      decided_bind cause_of _ _ (one_cut app (slice ∷ slices))
      (λ parts. decided_each cause_of (puts_part store) parts [] (λ tree digests. one_part tree digests))

  one_process : (processes : List Process) → AreDecided cause_of (puts_process store processes)
  one_process [] = decided_yields cause_of None
  one_process (process ∷ processes) = one_links (process ∷ processes)

module _ (frame : ExportFrame) where
  one_trees : (slices : Slices) (processes : List Process) → AreDecided cause_of (puts_trees frame slices processes)
  unfolding puts_trees
  one_trees slices processes =
      decided_bind cause_of _ _ (one_app frame.store frame.app slices)
      (λ app. decided_bind cause_of _ _ (of_store _ (decided_puts_folder frame.store frame.launcher))
      (λ launcher. decided_bind cause_of _ _ (decided_gives cause_of _)
      (λ last. decided_bind cause_of _ _ (one_process frame.store last) (λ process. decided_yields cause_of _))))

  one_gain : (group : List GroupRow) (analyzed : Analyzed) → AreDecided cause_of (gains frame group analyzed)
  unfolding gains
  one_gain group analyzed =
      decided_bind cause_of _ _ (of_image _ (one_run frame.store analyzed.run))
      (λ run. decided_bind cause_of _ _ (one_previous frame.store analyzed.previous)
      (λ previous. decided_bind cause_of _ _ (one_group frame previous group)
      (λ gathered. decided_bind cause_of _ _ (one_trees _ _)
      (λ digests. decided_bind cause_of _ _ (decided_gives cause_of _)
      (λ image. decided_bind cause_of _ _ (decided_gives cause_of _) (λ rows. decided_yields cause_of _))))))

-- ---- the folders that are walked for the caches

module _ (rows : List LayerRow) (folders : List (List ℕ)) where
  one_walk : AreDecided stored.cause_of (reads_trees rows folders)
  unfolding reads_trees
  one_walk = decided_reads stored.cause_of _ _ _

  walked : (readable : Bool) (read : Result (List Node) StoreFault) (gone : List ℕ) (old new : Caches)
      (before after : Seen) → reads_trees rows folders before read after
      → StoresRead readable rows read (Ok gone) old new
      → (trees : List Node) × reads_trees rows folders before (Ok trees) after
  walked readable (Ok trees) gone old new before after h stored = (trees, h)
  walked readable (Err refusal) gone old new before after h stored = absurd stored

  walk_refused : (readable : Bool) (read : Result (List Node) StoreFault) (fault : StoreFault) (old new : Caches)
      (before after : Seen) → reads_trees rows folders before read after
      → StoresRead readable rows read (Err fault) old new → reads_trees rows folders before (Err fault) after
  walk_refused readable (Ok trees) fault old new before after h stored = absurd stored
  walk_refused readable (Err refusal) fault old new before after h stored = subst
      (λ f. reads_trees rows folders before (Err f) after) stored.0 h

-- ---- the whole export, in which caches have no say

module _ (frame : ExportFrame) (group : List GroupRow) (analyzed : Analyzed) where
  -- what is gained, where the folders of the cached layers can be walked then
  abbrev gains_and_walks : Seen → Result Gained ExportFault → Seen → Type 0
  gains_and_walks = do
    gained ← gains frame group analyzed
    folders ← gives cause_of (Ok (map (folder_of frame.layers) gained.cached))
    trees ← map_err Store (reads_trees gained.cached folders)
    yields gained

  one_end : AreDecided cause_of gains_and_walks
  one_end =
      decided_bind cause_of _ _ (one_gain frame group analyzed)
      (λ gained. decided_bind cause_of _ _ (decided_gives cause_of _)
      (λ folders. decided_bind cause_of _ _ (of_store _ (one_walk gained.cached folders))
      (λ trees. decided_yields cause_of gained)))

  -- it came to this end
  abbrev Came : WorldAndCaches → Result Exported ExportFault → Type 0
  Came old (Ok exported) = (gained : Gained) × (mid : Seen) × gains_and_walks old.world (Ok gained) mid
      × (exported.image ≡ gained.image) × (exported.rows ≡ gained.rows)
  Came old (Err fault) = (mid : Seen) × gains_and_walks old.world (Err fault) mid

  came : (readable : Bool) (old new : WorldAndCaches) (result : Result Exported ExportFault)
      → exports readable frame group analyzed old result new → Came old result
  unfolding exports ◌>>=◌ in_world gives map_err stores_folders yields
  came readable old new (Ok exported)
      (gained, m1, h, (folders, m2, (same, is, cause), (gone, m3, stored, made))) =
      let (trees, reads) = walked gained.cached folders readable stored.read gone m2.caches m3.caches m2.world m3.world
      stored.reads stored.stores in (
        gained,
        m3.world,
        (
          gained,
          m1.world,
          h.0,
          (
            folders,
            m2.world,
            (ap (λ s. s.world) same, is, cause),
            (trees, m3.world, reads, (refl, refl)),
          ),
        ),
        ap (λ e. e.image) made.0,
        ap (λ e. e.rows) made.0,
      )
  came readable old new (Err fault) (inl h) = (new.world, inl h.0)
  came readable old new (Err fault) (inr (gained, m1, h, inl (same, is, cause))) =
      (new.world, inr (gained, m1.world, h.0, inl (ap (λ s. s.world) same, is, cause)))
  came readable old new (Err fault)
      (inr (gained, m1, h, inr (folders, m2, (same, is, cause), inl (refusal, told, stored)))) = (
        new.world,
        inr (
          gained,
          m1.world,
          h.0,
          inr (
            folders,
            m2.world,
            (ap (λ s. s.world) same, is, cause),
            inl (
              refusal,
              told,
              walk_refused gained.cached folders readable stored.read refusal m2.caches new.caches m2.world new.world
                  stored.reads stored.stores,
            ),
          ),
        ),
      )
  came readable old new (Err fault) (inr (gained, m1, h, inr (folders, m2, given, inr (gone, m3, stored, never)))) =
      absurd never

  alike : (tree : Tree) (old old' : WorldAndCaches) (result other : Result Exported ExportFault)
      → old.world.files ≡ Some tree → old'.world.files ≡ Some tree → Came old result → Came old' other
      → AreOneImage result other
  alike tree old old' (Ok one) (Ok other) is is' (gained, mid, h, image, rows) (gained', mid', h', image', rows') =
      let same : gained' ≡ gained = (one_end tree old.world mid old'.world mid' (Ok gained) (Ok gained') is is' h
      h').0 in
      (image' ∙ ap (λ g. g.image) same ∙ sym image, rows' ∙ ap (λ g. g.rows) same ∙ sym rows)
  alike tree old old' (Ok one) (Err fault) is is' (gained, mid, h, image, rows) (mid', h') =
      one_end tree old.world mid old'.world mid' (Ok gained) (Err fault) is is' h h'
  alike tree old old' (Err fault) (Ok other) is is' (mid, h) (gained', mid', h', image', rows') =
      one_end tree old.world mid old'.world mid' (Err fault) (Ok gained') is is' h h'
  alike tree old old' (Err fault) (Err other) is is' (mid, h) (mid', h') =
      one_end tree old.world mid old'.world mid' (Err fault) (Err other) is is' h h'

  pub one_image : (readable : Bool) (old new : WorldAndCaches) (result : Result Exported ExportFault)
      → exports readable frame group analyzed old result new → IsOneImage readable frame group analyzed
      old.world.files result
  one_image readable old new result h = by old.world.files refl
    where
      by : (files : Option Tree) → old.world.files ≡ files → IsOneImage readable frame group analyzed files result
      by None is = tt
      by (Some tree) is = λ old' new' other is' h'. alike tree old old' result other is is'
          (came readable old new result h) (came readable old' new' other h')
