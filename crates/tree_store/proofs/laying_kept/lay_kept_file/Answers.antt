use Rattle.std.proofs.Common.{◌≡◌, ◌≤◌, ◌∙◌, refl, ap, subst, arith, ℕ, Bool, true, false, if◌then◌else◌, ◌++◌, length}
use Rattle.std.proofs.Common.{nat_eq}
use Rattle.std.specs.Int.{to_be_bytes, w64}
use Rattle.std.proofs.lemmas.Result.{err_from_is_err_and}
use Rattle.cnb_world.specs.Tree.{is_within}
use Rattle.tree_canon.specs.declared.node.Node.TheVariants.{File}
use Rattle.tree_store.specs.Laying.{node_laid}
use Rattle.tree_store.specs.Right.{way_to}
use Rattle.tree_store.proofs.Ahead.{lays_as, lays_behind, leaves_broken, leaves_stop, leaves_then, reads_stop}
use Rattle.tree_store.proofs.Cases.{file_size, lays_few}
use Rattle.tree_store.specs.Partly.{LaidPartly}
use Rattle.tree_store.specs.Overlay.{items_of}
use Rattle.tree_store.proofs.Partly.{partly_then}
use Rattle.tree_store.proofs.KeptPartly.{part_behind, part_few, partly_unread}
use Rattle.tree_store.proofs.Takes.{done_then, takes_file}
use Rattle.tree_store.proofs.laying_kept.lay_kept_file.Goals as goal

small : (exec : Bool) (b : ℕ) → b ≡ (if exec then 1 else 0) → b ≤ 1
small true b is = omega (arith, is)
small false b is = omega (arith, is)

exec_is : (exec : Bool) (b : ℕ) → b ≡ (if exec then 1 else 0) → nat_eq b 1 ≡ exec
exec_is true b is = ap (λ n. nat_eq n 1) is
exec_is false b is = ap (λ n. nat_eq n 1) is

pub returns-in_err-bit-clause-leaves : goal.returns-in_err-bit-clause-leaves
returns-in_err-bit-clause-leaves g c =
    let exit = err_from_is_err_and c.from_residual.result c.from_residual.ensures.1 in
    rw (exit.1, exit.2) (leaves_stop c.args.path.now _ _ _ _ _ (c.in_err-bit.ensures.leaves c.args.path.now))

pub returns-in_err-bit-clause-lays : goal.returns-in_err-bit-clause-lays
returns-in_err-bit-clause-lays g c = λ exec bytes rest.
    let exit = err_from_is_err_and c.from_residual.result c.from_residual.ensures.1 in
    rw (exit.1, exit.2) (reads_stop (λ read. read ≡ (if exec then 1 else 0)) (λ done. Unit {0})
    (c.in_err-bit.ensures.reads (if exec then 1 else 0) (to_be_bytes w64 (length bytes) ++ (bytes ++ rest))
    (way_to c.args.path.now)))

pub returns-then-bit-gt1-clause-leaves : goal.returns-then-bit-gt1-clause-leaves
returns-then-bit-gt1-clause-leaves g c = rw c.broken.ensures
    (leaves_broken c.args.path.now _ _ _ _ c.in_ok-bit.bit _ _ _ (c.in_ok-bit.ensures.leaves c.args.path.now))

pub returns-then-bit-gt1-clause-lays : goal.returns-then-bit-gt1-clause-lays
returns-then-bit-gt1-clause-lays g c = λ exec bytes rest.
    lays_behind (λ read. read ≡ (if exec then 1 else 0))
    (c.in_ok-bit.ensures.reads (if exec then 1 else 0) (to_be_bytes w64 (length bytes) ++ (bytes ++ rest))
    (way_to c.args.path.now))
    (λ value. let few : c.in_ok-bit.bit ≤ 1 = small exec c.in_ok-bit.bit value in absurd (omega (arith, few)))

pub returns-in_err-head-clause-leaves : goal.returns-in_err-head-clause-leaves
returns-in_err-head-clause-leaves g c =
    let exit = err_from_is_err_and c.from_residual-in_err-head.result c.from_residual-in_err-head.ensures.1 in
    rw (exit.1, exit.2) (leaves_then (c.in_ok-bit.ensures.leaves c.args.path.now)
    (leaves_stop c.args.path.now _ _ _ _ _ (c.in_err-head.ensures.leaves c.args.path.now)))

pub returns-in_err-head-clause-lays : goal.returns-in_err-head-clause-lays
returns-in_err-head-clause-lays g c = λ exec bytes rest.
    let exit = err_from_is_err_and c.from_residual-in_err-head.result c.from_residual-in_err-head.ensures.1 in
    rw (exit.1, exit.2) (lays_behind (λ read. read ≡ (if exec then 1 else 0))
    (c.in_ok-bit.ensures.reads (if exec then 1 else 0) (to_be_bytes w64 (length bytes) ++ (bytes ++ rest))
    (way_to c.args.path.now))
    (λ value. reads_stop (λ read. read ≡ to_be_bytes w64 (length bytes)) (λ done. Unit {0})
    (c.in_err-head.ensures.reads (to_be_bytes w64 (length bytes)) (bytes ++ rest)
    (way_to c.args.path.now) refl)))

pub lay_kept_contents-requires : goal.lay_kept_contents-requires
lay_kept_contents-requires g c = record {
  apart = ap (is_within c.args.path.now)
      ((c.in_ok-head.ensures.leaves c.args.path.now).stays ∙ (c.in_ok-bit.ensures.leaves c.args.path.now).stays)
      ∙ c.requires.apart;
}

pub returns-clause-leaves : goal.returns-clause-leaves
returns-clause-leaves g c = leaves_then (c.in_ok-bit.ensures.leaves c.args.path.now)
    (leaves_then (c.in_ok-head.ensures.leaves c.args.path.now) c.lay_kept_contents.ensures.leaves)

pub returns-clause-lays : goal.returns-clause-lays
returns-clause-lays g c = λ exec bytes rest. lays_few (λ few.
    lays_behind (λ read. read ≡ (if exec then 1 else 0))
    (c.in_ok-bit.ensures.reads (if exec then 1 else 0) (to_be_bytes w64 (length bytes) ++ (bytes ++ rest))
    (way_to c.args.path.now))
    (λ value. lays_behind (λ read. read ≡ to_be_bytes w64 (length bytes))
    (c.in_ok-head.ensures.reads (to_be_bytes w64 (length bytes)) (bytes ++ rest)
    (way_to c.args.path.now) refl)
    (λ size. lays_as (λ files. ap (λ e. node_laid (File e bytes) c.args.path.now files)
    (exec_is exec c.in_ok-bit.bit value))
    (c.lay_kept_contents.ensures.lays bytes rest (file_size exec bytes rest c.in_ok-head.head
    c.as_slice.result.now c.u64_of-len.result few c.as_slice.ensures size c.u64_of-len.ensures.value)))))

pub returns-in_err-bit-clause-partly : goal.returns-in_err-bit-clause-partly
returns-in_err-bit-clause-partly g c = λ exec bytes rest. record
    { so = λ ahead are. partly_unread _ _ _ _ (λ p. (c.in_err-bit.ensures.leaves p).around.files) }

pub returns-then-bit-gt1-clause-partly : goal.returns-then-bit-gt1-clause-partly
returns-then-bit-gt1-clause-partly g c = λ exec bytes rest. record
    { so = λ ahead are. partly_unread _ _ _ _ (λ p. (c.in_ok-bit.ensures.leaves p).around.files) }

pub returns-in_err-head-clause-partly : goal.returns-in_err-head-clause-partly
returns-in_err-head-clause-partly g c = λ exec bytes rest. record {
  so = λ ahead are. partly_then _ _ _ _ _ (partly_unread _ _ _ _
      (λ p. (c.in_ok-bit.ensures.leaves p).around.files))
      (partly_unread _ _ _ _ (λ p. (c.in_err-head.ensures.leaves p).around.files));
}

pub returns-clause-partly : goal.returns-clause-partly
returns-clause-partly g c = λ exec bytes rest. part_few (λ few.
    part_behind (λ read. read ≡ (if exec then 1 else 0))
    (c.in_ok-bit.ensures.reads (if exec then 1 else 0) (to_be_bytes w64 (length bytes) ++ (bytes ++ rest))
    (way_to c.args.path.now))
    (λ value. part_behind (λ read. read ≡ to_be_bytes w64 (length bytes))
    (c.in_ok-head.ensures.reads (to_be_bytes w64 (length bytes)) (bytes ++ rest)
    (way_to c.args.path.now) refl)
    (λ size. record {
      so = λ ahead are. subst (λ e. LaidPartly c.args.path.now (items_of (File e bytes) c.args.path.now)
          (g.W.World.tree c.field.new.world) (g.W.World.tree c.lay_kept_contents.new.world))
          (exec_is exec c.in_ok-bit.bit value)
          ((c.lay_kept_contents.ensures.partly bytes rest
          (file_size exec bytes rest c.in_ok-head.head c.as_slice.result.now c.u64_of-len.result few
          c.as_slice.ensures size c.u64_of-len.ensures.value)).so ahead are);
    })))

pub returns-clause-takes : goal.returns-clause-takes
returns-clause-takes g c = done_then _ _ c.lay_kept_contents.result
    (takes_file c.args.path.now c.in_ok-head.head c.as_slice.result.now c.in_ok-bit.bit c.u64_of-len.result
    _ _ _ _ _ _ _ _ (omega arith) c.in_ok-bit.ensures.takes c.in_ok-head.ensures.takes c.in_ok-head.ensures.length
    c.as_slice.ensures c.u64_of-len.ensures.bytes) c.lay_kept_contents.ensures.takes
