-- The small detection's documents are sound.
use Rattle.std.proofs.Common.{◌≡◌, ◌∙◌, refl, sym, ap, subst, arith, ℕ, true, false, cond, List, [], ◌∷◌}
use Rattle.std.proofs.Common.{nat_cmp, Some, None, Result, Ok, inl, inr}
use Rattle.std.specs.Cmp.Lexicographic.{slice_cmp}
use Rattle.std.specs.List.{AllByRecursion, filter_map}
use Rattle.std.specs.Prelude.{codes}
use Rattle.std.specs.FinMap.{entries-from_sorted, find, get, get-from_sorted}
use Rattle.std.specs.Str.{chars, is_utf8}
use Rattle.semver.specs.Parse.{digits_from}
use Rattle.toml.proofs.OnLiterals.{toml_on_literals}
use Rattle.bp_docs.specs.Descriptor.{descriptor_in}
use Rattle.bp_docs.specs.Order.{order_in}
use Rattle.bp_docs.specs.declared.descriptor.Descriptor.{Descriptor}
use Rattle.cnb_env.specs.Files.{platform_env}
use Rattle.cnb_world.specs.Listing.{name_below, names_in}
use Rattle.cnb_world.specs.Path.{joined}
use Rattle.cnb_world.specs.Tree.{is_folder, is_root, item_at}
use Rattle.cnb_world.specs.Whole.{can_write}
use Rattle.cnb_world.specs.declared.world.Item.{Item}
use Rattle.cnb_world.specs.declared.world.Item.TheVariants.{Folder}
use Rattle.doc_files.specs.Reading.{read_at}
use Rattle.doc_files.specs.declared.fault.ReadFault.{ReadFault}
use Rattle.order_expand.specs.Groups.{listed_groups, raw_groups}
use Rattle.order_files.specs.Catalog.{buildpack_in, buildpacks_in, catalog_in, followed_by, listed, version_in}
use Rattle.order_files.specs.Catalog.{versions_in}
use Rattle.order_files.specs.Descriptor.{described, descriptor_at, with_folder_names}
use Rattle.steps.specs.Results.{and_then}
use Rattle.detect_laws.specs.Buildpacks.{AreSoundBuildpacks, IsSoundId, IsSoundVersion}
use Rattle.detect_laws.specs.Documents.{IsDocument}
use Rattle.detect_laws.specs.Orders.{IsSoundOrder}
use Rattle.detect_laws.specs.Small.{small_buildpack, small_descriptor, small_files, small_items}
use Rattle.detect_laws.specs.Small.{small_order, small_order_file}
use Rattle.detect_laws.specs.Variables.{AreSoundVariables}
use Rattle.detect_laws.proofs.BuildpackLemmas.{names_there}
use Rattle.detect_laws.proofs.DocumentLemmas.{then_bytes}

order_reads : order_in small_order_file ≡ Ok small_order
unfolding order_in is_utf8 chars toml_on_literals
order_reads = refl

descriptor_reads : descriptor_in small_descriptor ≡ Ok small_buildpack
unfolding descriptor_in is_utf8 chars toml_on_literals digits_from
descriptor_reads = refl

-- ---- what stands where

stands : (path : List ℕ) → item_at small_files path
    ≡ cond (is_root path) (Some Folder) (find (slice_cmp nat_cmp) path small_items)
stands path = ap (cond (is_root path) (Some Folder)) (get-from_sorted (slice_cmp nat_cmp) small_items path tt)

names : (folder : List ℕ) → names_in small_files folder
    ≡ filter_map (λ (entry : List ℕ × Item). name_below folder entry.0) small_items
names folder = ap (filter_map (λ (entry : List ℕ × Item). name_below folder entry.0))
    (entries-from_sorted (slice_cmp nat_cmp) small_items tt)

abbrev buildpacks : List ℕ
buildpacks = codes "/b"

abbrev id : List ℕ
id = codes "a"

abbrev version : List ℕ
version = codes "1.0.0"

ids_are : names_in small_files buildpacks ≡ id ∷ []
ids_are = names buildpacks

versions_are : names_in small_files (joined buildpacks id) ≡ version ∷ []
versions_are = names (joined buildpacks id)

pub order_there : IsDocument order_in small_files (codes "/o") small_order
order_there = record {
  exec = false;
  bytes = small_order_file;
  stands = stands (codes "/o");
  small = omega arith;
  valid = order_reads;
}

descriptor_there : IsDocument descriptor_in small_files (codes "/b/a/1.0.0/buildpack.toml") small_buildpack
descriptor_there = record {
  exec = false;
  bytes = small_descriptor;
  stands = stands (codes "/b/a/1.0.0/buildpack.toml");
  small = omega arith;
  valid = descriptor_reads;
}

pub buildpacks_there : AreSoundBuildpacks small_files buildpacks
buildpacks_there = record {
  folder = ap is_folder (stands buildpacks);
  ids = subst (AllByRecursion (IsSoundId small_files buildpacks)) (sym ids_are) (
    λ is. subst (AllByRecursion (IsSoundVersion small_files (joined buildpacks id) id)) (sym versions_are)
        (λ there. inr (small_buildpack, descriptor_there, (refl, refl)), tt),
    tt,
  );
}

-- ---- what they are read as

got : (path : List ℕ) → get small_files path ≡ find (slice_cmp nat_cmp) path small_items
got path = get-from_sorted (slice_cmp nat_cmp) small_items path tt

version_reads : version_in small_files (joined buildpacks id) id version ≡ Ok (small_buildpack ∷ [])
unfolding version_in descriptor_at
version_reads =
    let path = codes "/b/a/1.0.0/buildpack.toml" in
    ap (λ found. cond (is_folder found) (listed (descriptor_at small_files (codes "/b/a/1.0.0") id version)) (Ok []))
    (stands (codes "/b/a/1.0.0"))
    ∙ ap listed (then_bytes small_files path (described path id version) descriptor_in small_buildpack descriptor_there
    ∙ ap (λ r. and_then (read_at path r) (λ d. and_then (with_folder_names path id version d) (λ e. Ok (Some e))))
    descriptor_there.valid)

id_reads : buildpack_in small_files buildpacks id ≡ Ok (small_buildpack ∷ [])
unfolding buildpack_in
id_reads =
    ap (λ found. cond (is_folder found) (versions_in small_files (codes "/b/a") id
    (names_in small_files (codes "/b/a")))
    (Ok [])) (stands (codes "/b/a"))
    ∙ ap (versions_in small_files (codes "/b/a") id) versions_are
    ∙ ap (λ r. followed_by r (Ok [])) version_reads

pub catalog_reads : catalog_in buildpacks small_files ≡ Ok (small_buildpack ∷ [])
unfolding catalog_in
catalog_reads =
    ap (λ r. and_then r (buildpacks_in small_files buildpacks))
    (names_there small_files buildpacks (ap is_folder (stands buildpacks)) ∙ ap Ok ids_are)
    ∙ ap (λ r. followed_by r (Ok [])) id_reads

pub small_is_sound : IsSoundOrder (small_buildpack ∷ []) small_order
unfolding listed_groups raw_groups
small_is_sound = record {
  entries = ((small_buildpack, refl, tt), tt);
  nesting = (refl, tt);
  groups = omega arith;
  short = (omega arith, tt);
}

same_catalog : (one other : List Descriptor) → (let read : Result (List Descriptor) ReadFault = Ok one in read)
    ≡ Ok other
    → one ≡ other
same_catalog one other e = cc

pub entries_there : (catalog : List Descriptor) → catalog_in buildpacks small_files ≡ Ok catalog
    → IsSoundOrder catalog small_order
entries_there catalog e = subst (λ c. IsSoundOrder c small_order)
    (same_catalog (small_buildpack ∷ []) catalog (sym catalog_reads ∙ e)) small_is_sound

pub target_absent : item_at small_files (codes "/w/analyzed.toml") ≡ None
target_absent = stands (codes "/w/analyzed.toml")

pub platform_absent : item_at small_files (codes "/p/env") ≡ None
platform_absent = stands (codes "/p/env")

pub variables_absent : AreSoundVariables small_files (platform_env (codes "/p"))
variables_absent = inl platform_absent

pub group_writable : can_write (codes "/w/group.toml") small_files ≡ true
group_writable = simp got refl

pub plan_writable : can_write (codes "/w/plan.toml") small_files ≡ true
plan_writable = simp got refl
