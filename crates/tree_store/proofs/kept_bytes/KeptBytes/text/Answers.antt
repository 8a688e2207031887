use Rattle.std.proofs.Common.{refl, ◌≡◌, ◌≤◌, ◌<◌, ◌^◌, ◌∙◌, ◌++◌, ap, sym, arith, true, ℕ, List, length}
use Rattle.std.specs.Int.{from_be_bytes, to_be_bytes, w16}
use Rattle.std.specs.Str.{is_utf8}
use Rattle.std.proofs.lemmas.Bool.{and_parts}
use Rattle.std.proofs.lemmas.Nat.{from_be_bytes-to_be_bytes_2}
use Rattle.std.proofs.lemmas.Result.{err_from_is_err_and}
use Rattle.std.proofs.lemmas.Str.{IsUtf8-from_is_utf8}
use Rattle.std.specs.Prelude.{nat_le, nat_lt, ◌&&◌}
use Rattle.tree_canon.specs.Names.{is_text}
use Rattle.tree_canon.proofs.Texts.{text_sizes}
use Rattle.tree_store.proofs.Ahead.{does_memory, does_value, leaves_broken, leaves_short, leaves_stop, leaves_then}
use Rattle.tree_store.proofs.Ahead.{leaves_value, reads_on, reads_stop}
use Rattle.tree_store.proofs.Takes.{takes_so, takes_then, text_bytes}
use Rattle.tree_store.proofs.kept_bytes.KeptBytes.text.Goals as goal

-- the length that was read
size_is : (most size : ℕ) (head slice text : List ℕ) → most ≤ 4096 → is_text most text ≡ true → slice ≡ head
    → head ≡ to_be_bytes w16 (length text) → (length slice ≡ 2 → size ≡ from_be_bytes w16 slice)
    → size ≡ length text
size_is most size head slice text few is same value read =
    let sizes : length text ≤ most = (text_sizes most text is).1 in
    let short : length text < 2 ^ 16 = omega arith in
    read (ap length (same ∙ value)) ∙ ap (from_be_bytes w16) (same ∙ value)
    ∙ from_be_bytes-to_be_bytes_2 (length text) short

utf8_of : (most : ℕ) (text : List ℕ) → is_text most text ≡ true → is_utf8 text ≡ true
utf8_of most text is = (and_parts (nat_lt 0 (length text) && nat_le (length text) most) (is_utf8 text) is).1

pub returns-in_err-head-clause-leaves : goal.returns-in_err-head-clause-leaves
returns-in_err-head-clause-leaves g c = λ path.
    let exit = err_from_is_err_and c.from_residual.result c.from_residual.ensures.1 in
    rw (exit.1, exit.2) (leaves_stop path _ _ _ _ _ (c.in_err-head.ensures.leaves path))

pub returns-in_err-head-clause-reads : goal.returns-in_err-head-clause-reads
returns-in_err-head-clause-reads g c = λ text rest folders is.
    let exit = err_from_is_err_and c.from_residual.result c.from_residual.ensures.1 in
    rw (exit.1, exit.2) (reads_stop (λ read. read ≡ to_be_bytes w16 (length text)) (λ read. read ≡ text)
    (c.in_err-head.ensures.reads (to_be_bytes w16 (length text)) (text ++ rest) folders refl))

pub returns-then-size-most-clause-leaves : goal.returns-then-size-most-clause-leaves
returns-then-size-most-clause-leaves g c = λ path. rw c.broken.ensures
    (leaves_broken path _ _ _ _ c.in_ok-head.head _ _ _ (c.in_ok-head.ensures.leaves path))

pub returns-then-size-most-clause-reads : goal.returns-then-size-most-clause-reads
returns-then-size-most-clause-reads g c = λ text rest folders is.
    reads_on (λ read. read ≡ to_be_bytes w16 (length text)) (λ read. read ≡ text)
    (c.in_ok-head.ensures.reads (to_be_bytes w16 (length text)) (text ++ rest) folders refl)
    (λ value.
    let size : c.u16_of-size.result ≡ length text = size_is c.args.most _ _ _ text c.requires is
    c.as_slice.ensures value c.u16_of-size.ensures.value in
    let sizes : length text ≤ c.args.most = (text_sizes c.args.most text is).1 in
    absurd (omega (arith, size, sizes)))

pub returns-in_err-bytes-clause-leaves : goal.returns-in_err-bytes-clause-leaves
returns-in_err-bytes-clause-leaves g c = λ path.
    let exit = err_from_is_err_and c.from_residual-in_err-bytes.result c.from_residual-in_err-bytes.ensures.1 in
    rw (exit.1, exit.2) (leaves_then (c.in_ok-head.ensures.leaves path)
    (leaves_stop path _ _ _ _ _ (c.in_err-bytes.ensures.leaves path)))

pub returns-in_err-bytes-clause-reads : goal.returns-in_err-bytes-clause-reads
returns-in_err-bytes-clause-reads g c = λ text rest folders is.
    let exit = err_from_is_err_and c.from_residual-in_err-bytes.result c.from_residual-in_err-bytes.ensures.1 in
    rw (exit.1, exit.2) (reads_on (λ read. read ≡ to_be_bytes w16 (length text)) (λ read. read ≡ text)
    (c.in_ok-head.ensures.reads (to_be_bytes w16 (length text)) (text ++ rest) folders refl)
    (λ value. reads_stop (λ read. read ≡ text) (λ read. read ≡ text)
    (c.in_err-bytes.ensures.reads text rest folders
    (sym (size_is c.args.most _ _ _ text c.requires is c.as_slice.ensures value c.u16_of-size.ensures.value)))))

pub returns-in_err-of-in-Ok-clause-leaves : goal.returns-in_err-of-in-Ok-clause-leaves
returns-in_err-of-in-Ok-clause-leaves g c = λ path.
    let exit = err_from_is_err_and c.from_residual-in_err-of-in-Ok.result c.from_residual-in_err-of-in-Ok.ensures.1 in
    rw (exit.1, exit.2) (leaves_then (c.in_ok-head.ensures.leaves path)
    (leaves_short path _ _ _ _ _ (c.in_ok-bytes.ensures.leaves path)))

pub returns-in_err-of-in-Ok-clause-reads : goal.returns-in_err-of-in-Ok-clause-reads
returns-in_err-of-in-Ok-clause-reads g c = λ text rest folders is.
    let exit = err_from_is_err_and c.from_residual-in_err-of-in-Ok.result c.from_residual-in_err-of-in-Ok.ensures.1 in
    rw (exit.1, exit.2) (reads_on (λ read. read ≡ to_be_bytes w16 (length text)) (λ read. read ≡ text)
    (c.in_ok-head.ensures.reads (to_be_bytes w16 (length text)) (text ++ rest) folders refl)
    (λ value. reads_on (λ read. read ≡ text) (λ read. read ≡ text)
    (c.in_ok-bytes.ensures.reads text rest folders
    (sym (size_is c.args.most _ _ _ text c.requires is c.as_slice.ensures value c.u16_of-size.ensures.value)))
    (λ same. does_memory _ _ _ _ _ _ _ _)))

pub returns-in-Ok-clause-leaves : goal.returns-in-Ok-clause-leaves
returns-in-Ok-clause-leaves g c = λ path. leaves_then (c.in_ok-head.ensures.leaves path)
    (leaves_value path _ _ _ _ _ _ (c.in_ok-bytes.ensures.leaves path))

pub returns-in-Ok-clause-reads : goal.returns-in-Ok-clause-reads
returns-in-Ok-clause-reads g c = λ text rest folders is.
    reads_on (λ read. read ≡ to_be_bytes w16 (length text)) (λ read. read ≡ text)
    (c.in_ok-head.ensures.reads (to_be_bytes w16 (length text)) (text ++ rest) folders refl)
    (λ value. does_value (λ read. read ≡ text) (λ read. read ≡ text) _ _ _ _ _ _ _ _ _ _ _
    (λ same. c.in_ok-of-in-Ok.ensures ∙ c.in-Ok.ensures.cases.0 ∙ c.as_slice-2.ensures ∙ same)
    (c.in_ok-bytes.ensures.reads text rest folders
    (sym (size_is c.args.most _ _ _ text c.requires is c.as_slice.ensures value c.u16_of-size.ensures.value))))

pub returns-clause-leaves : goal.returns-clause-leaves
returns-clause-leaves g c = λ path. rw c.broken-in-Err.ensures
    (leaves_then (c.in_ok-head.ensures.leaves path)
    (leaves_broken path _ _ _ _ c.in_ok-bytes.bytes _ _ _ (c.in_ok-bytes.ensures.leaves path)))

pub returns-clause-reads : goal.returns-clause-reads
returns-clause-reads g c = λ text rest folders is.
    reads_on (λ read. read ≡ to_be_bytes w16 (length text)) (λ read. read ≡ text)
    (c.in_ok-head.ensures.reads (to_be_bytes w16 (length text)) (text ++ rest) folders refl)
    (λ value. reads_on (λ read. read ≡ text) (λ read. read ≡ text)
    (c.in_ok-bytes.ensures.reads text rest folders
    (sym (size_is c.args.most _ _ _ text c.requires is c.as_slice.ensures value c.u16_of-size.ensures.value)))
    (λ same. absurd (c.in-Err.ensures.cases.0 (IsUtf8-from_is_utf8 _
    (ap is_utf8 (c.as_slice-2.ensures ∙ same) ∙ utf8_of c.args.most text is)))))

pub returns-in-Ok-clause-takes : goal.returns-in-Ok-clause-takes
returns-in-Ok-clause-takes g c = takes_so (text_bytes c.in_ok-head.head c.as_slice.result.now _ c.in_ok-bytes.bytes
    c.u16_of-size.result c.in_ok-head.ensures.length c.as_slice.ensures c.u16_of-size.ensures.bytes
    c.in_ok-bytes.ensures.length (c.in_ok-of-in-Ok.ensures ∙ c.in-Ok.ensures.cases.0 ∙ c.as_slice-2.ensures))
    (takes_then c.in_ok-head.ensures.takes c.in_ok-bytes.ensures.takes)
