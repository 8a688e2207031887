use Rattle.std.proofs.Common.{◌≡◌, ◌<◌, ◌∙◌, arith, length, get_or, ap}
use Rattle.std.proofs.lemmas.List.Sums.{sum-map, sum_by_more_le}
use Rattle.tree_canon.specs.declared.next_field.ScannedFolder.{ScannedFolder}
use Rattle.tree_canon.proofs.Held.{few_held}
use Rattle.tree_canon.proofs.scanner.Scanner.held.Goals as goal

pub overflow_add-held-in-loop-folder : goal.overflow_add-held-in-loop-folder
overflow_add-held-in-loop-folder c =
    let items = c.args.self.now.folders.items in
    let place = c.loop-folder.folder-index in
    let last : ScannedFolder = c.folder-item.result in
    let within : place < length items = omega (
      arith,
      c.loop-folder-test.true,
      ap length
          c.deref-folder-items.ensures.value,
    ) in
    let name : length c.as_slice.result.now ≡ length (get_or items place last).name
    = ap length c.as_slice.ensures ∙ ap (λ f. length f.name)
    (c.folder-item.is ∙ ap (λ fs. get_or fs place last) c.deref-folder-items.ensures.value) in
    let most = sum_by_more_le (λ f. length f.name) items place last within in
    omega (
      arith,
      name,
      most,
      sum-map (λ f. length f.name) items,
      c.loop-folder.invariant,
      few_held
          c.args.self.now c.requires.small c.requires.partial,
    )
