-- Checking a tree's file: what is hashed and scanned as it comes, and what that says of getting the tree.
use Rattle.std.proofs.Common.{◌≡◌, ℕ, ◌*◌, ◌≤◌, ◌∙◌, List, [], ◌++◌, length, take, refl, sym, ap, subst, Option, Some}
use Rattle.std.proofs.Common.{None, Bool, true, false, Result, Ok, Err}
use Rattle.std.specs.Prelude.{IfErr, IfSome, IsTrue, OnOk, ◌↔◌}
use Rattle.std.specs.Option.{option_map}
use Rattle.std.proofs.lemmas.List.{take_all}
use Rattle.sha2.specs.Sha256.{sha256}
use Rattle.sha2.specs.Hashers.{Holds256}
use Rattle.cnb_world.specs.Calls.{MayMisuse}
use Rattle.cnb_world.specs.Tree.{Tree, item_at, is_file, is_file_or_absent, bytes_of}
use Rattle.cnb_world.specs.declared.world.Item.{Item}
use Rattle.cnb_world.specs.declared.world.Item.TheVariants as item
use Rattle.cnb_world.specs.declared.world.World as world
use Rattle.steps.specs.Outside.{seen}
use Rattle.steps.specs.Reading.{LeavesUnchanged}
use Rattle.steps.specs.Steps.{yields}
use Rattle.steps.proofs.StepLemmas.{ended, went, yielded}
use Rattle.tree_canon.specs.declared.fault.DecodeFault.{DecodeFault}
use Rattle.tree_canon.specs.declared.fault.DecodeFault.TheVariants as faults
use Rattle.tree_canon.specs.declared.fault.Reason.{Reason}
use Rattle.tree_canon.specs.declared.node.Node.{Node}
use Rattle.tree_canon.specs.declared.node.Node.TheVariants.{Link}
use Rattle.tree_canon.specs.Division.{Spells}
use Rattle.tree_canon.specs.Feeding.{Fed, Ends}
use Rattle.tree_canon.specs.Scans.{Scans, ScanFeeds, ScanEnds}
use Rattle.tree_store.specs.declared.checking.TreeCheck.{TreeCheck}
use Rattle.tree_store.specs.declared.fault.StoreFault.{StoreFault}
use Rattle.tree_store.specs.declared.fault.StoreFault.TheVariants.{Damaged}
use Rattle.tree_store.specs.Answers.{BlamesAt, cause_of}
use Rattle.tree_store.specs.Checking.{Checks, ChecksOf, HasChecked}
use Rattle.tree_canon.specs.Judging.{IsFed}
use Rattle.tree_store.specs.Steps.{checks_tree, gets_tree}
use Rattle.tree_store.specs.Digests.{HasTree}
use Rattle.tree_store.specs.Store.{tree_path, Gets}
use Rattle.tree_store.proofs.CallSteps.{got}
use Rattle.tree_store.proofs.CountLaws.{counted}
use Rattle.tree_canon.proofs.Feeding.{fed_on, fed_broken, ended_badly}
use Rattle.tree_store.proofs.Kept.{Taken, contents}

-- ---- one piece

pub checked_on : (old new : TreeCheck) (bytes piece : List ℕ)
    → (Holds256 old.hasher bytes → Holds256 new.hasher (bytes ++ piece))
    → ((fed : Fed) → Scans old.scan fed → ScanFeeds fed piece (Ok tt) new.scan)
    → HasChecked old bytes → HasChecked new (bytes ++ piece)
checked_on old new bytes piece hash feeds h =
    let f = feeds h.fed h.scanned in
    record {
      hashed = hash h.hashed;
      fed = f.next;
      scanned = f.scans;
      is = fed_on h.fed f.next bytes piece f.feeds
          h.is;
    }

pub checked_broken : (old new : TreeCheck) (bytes piece : List ℕ) (at : ℕ) (reason : Reason)
    → (Holds256 old.hasher bytes → Holds256 new.hasher (bytes ++ piece))
    → ((fed : Fed) → Scans old.scan fed → ScanFeeds fed piece (Err (faults.Bad at reason)) new.scan)
    → HasChecked old bytes → HasChecked new (bytes ++ piece)
checked_broken old new bytes piece at reason hash feeds h =
    let f = feeds h.fed h.scanned in
    record {
      hashed = hash h.hashed;
      fed = f.next;
      scanned = f.scans;
      is = fed_broken h.fed f.next bytes piece at
          reason f.feeds h.is;
    }

-- ---- the end

spelled : (fed : Fed) (bytes : List ℕ) → IsFed bytes fed → ScanEnds fed (Ok tt) → (root : Node) × Spells root bytes
spelled (Ok fed) bytes is h = (h.0, subst (Spells h.0) is h.1)
spelled (Err fault) bytes is h = absurd cc

-- a scan refuses as a decoder does
refused : (fed : Fed) (fault : DecodeFault) → ScanEnds fed (Err fault) → Ends fed (Err fault)
refused (Ok fed) fault h = h
refused (Err other) fault h = let same : fault ≡ other = cc in ap Err same

pub ends_well : (checking : TreeCheck) (digest bytes found : List ℕ) → HasChecked checking bytes
    → found ≡ sha256 bytes → IsTrue true ↔ (found ≡ digest)
    → ((fed : Fed) → Scans checking.scan fed → ScanEnds fed (Ok tt)) → ChecksOf digest bytes (Ok tt)
ends_well checking digest bytes found h is same ends =
    let s = spelled h.fed bytes h.is (ends h.fed h.scanned) in
    (s.0, (sym is ∙ same.0 refl, s.1))

pub ends_badly : (checking : TreeCheck) (digest bytes found : List ℕ) (at : ℕ) (reason : Reason)
    → HasChecked checking bytes → found ≡ sha256 bytes → IsTrue true ↔ (found ≡ digest)
    → ((fed : Fed) → Scans checking.scan fed → ScanEnds fed (Err (faults.Bad at reason)))
    → ChecksOf digest bytes (Err (Damaged digest found (Some reason)))
ends_badly checking digest bytes found at reason h is same ends =
    let bad = ended_badly h.fed bytes at reason h.is (refused h.fed (faults.Bad at reason) (ends h.fed h.scanned)) in
    (refl, is, (sym is ∙ same.0 refl, bad.0, bad.1))

pub ends_other : (digest bytes found : List ℕ) → found ≡ sha256 bytes → IsTrue false ↔ (found ≡ digest)
    → ChecksOf digest bytes (Err (Damaged digest found None))
ends_other digest bytes found is other = (refl, is, (λ e. absurd (let no : false ≡ true = other.1 (is ∙ e) in cc)))

-- ---- the file

in_file : (digest bytes : List ℕ) (exec : Bool) (result : Result Unit StoreFault) → ChecksOf digest bytes result
    → Checks digest (Some (item.File exec bytes)) result
in_file digest bytes exec (Ok done) h = h
in_file digest bytes exec (Err fault) h = h

pub kept_checks : (o : Option Tree) (path digest : List ℕ) (number : ℕ) (checking : TreeCheck)
    (result : Result Unit StoreFault) → IfSome o (λ files. length (contents files path) ≤ number * 65536)
    → IfSome o (λ files. IsTrue (is_file (item_at files path)))
    → Taken o path number (HasChecked checking) → ((bytes : List ℕ) → HasChecked checking bytes
    → ChecksOf digest bytes result) → IfSome o (λ files. Checks digest (item_at files path) result)
kept_checks o path digest number checking result few file t ends = by o few file t.told
  where
    one : (found : Option Item) → IsTrue (is_file found) → length (bytes_of found) ≤ number * 65536
        → t.bytes ≡ take (number * 65536) (bytes_of found) → Checks digest found result
    one None f s told = absurd (cc)
    one (Some item.Folder) f s told = absurd (cc)
    one (Some (item.Link target)) f s told = absurd (cc)
    one (Some item.Odd) f s told = absurd (cc)
    one (Some (item.File exec bytes)) f s told = in_file digest bytes exec result
        (ends bytes (subst (HasChecked checking) (told ∙ take_all (number * 65536) bytes s) t.taken))

    by : (o : Option Tree) → IfSome o (λ files. length (contents files path) ≤ number * 65536)
        → IfSome o (λ files. IsTrue (is_file (item_at files path)))
        → IfSome o (λ files. t.bytes ≡ take (number * 65536) (contents files path))
        → IfSome o (λ files. Checks digest (item_at files path) result)
    by None few file told = tt
    by (Some files) few file told = one (item_at files path) file few told

-- a tree whose spelling was taken
pub checked_digest : (o : Option Tree) (path digest : List ℕ) (number : ℕ) (checking : TreeCheck)
    (result : Result Unit StoreFault) → Taken o path number (HasChecked checking)
    → ((bytes : List ℕ) → HasChecked checking bytes → ChecksOf digest bytes result) → OnOk result (HasTree digest)
checked_digest o path digest number checking (Ok done) t ends = by (ends t.bytes t.taken)
  where
    by : (root : Node) × ((sha256 t.bytes ≡ digest) × Spells root t.bytes) → HasTree digest
    by (root, h) = record { tree = root; digest_is = ap sha256 (sym h.1.is) ∙ h.0 }
checked_digest o path digest number checking (Err fault) t ends = tt

-- ---- the step

pub got_some : (o : Option Tree) (path digest : List ℕ)
    → IfSome o (λ files. Checks digest (item_at files path) (Ok tt)) → (root : Node)
    × IfSome o (λ files. Gets digest (item_at files path) (Ok root))
got_some None path digest h = (Link [], tt)
got_some (Some files) path digest h = (h.0, h.1)

pub checked_so : {W : Type 0} (ghosts : world.Ghosts W) (store digest : List ℕ)
    (result : Result (Unit {0}) StoreFault) (old new : W)
    → IfSome (ghosts.tree old) (λ files. Checks digest (item_at files (tree_path store digest)) result)
    → IfErr result (BlamesAt (tree_path store digest)) → LeavesUnchanged cause_of result (seen ghosts old)
    (seen ghosts new)
    → MayMisuse (option_map (λ files. is_file_or_absent (item_at files (tree_path store digest)))
    (ghosts.tree old)) (ghosts.misused old) (ghosts.misused new)
    → checks_tree store digest (seen ghosts old) result (seen ghosts new)
unfolding checks_tree
checked_so ghosts store digest (Ok done) old new answer blames left allows =
    let root = got_some (ghosts.tree old) (tree_path store digest) digest answer in
    went (gets_tree store digest) (λ tree. yields tt) (seen ghosts old) (seen ghosts new) (seen ghosts new) root.0
    (Ok done) (got ghosts store digest (Ok root.0) old new root.1 tt tt left.files left.runs allows
    (counted (Ok root.0) (seen ghosts old) (seen ghosts new) left.counts left.children))
    (yielded StoreFault tt (seen ghosts new))
checked_so ghosts store digest (Err fault) old new answer blames left allows =
    ended (gets_tree store digest) (λ tree. yields tt) (seen ghosts old) (seen ghosts new) fault
    (got ghosts store digest (Err fault) old new answer left.cause blames left.files left.runs allows
    (counted {A = Node} (Err fault) (seen ghosts old) (seen ghosts new) left.counts left.children))
