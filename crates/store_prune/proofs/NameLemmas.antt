-- The names of documents and of tree files.
use Rattle.std.proofs.Common.{◌≡◌, ◌≢◌, ◌∙◌, cond, ap, sym, ℕ, ◌-◌, true, false, List, [], ◌++◌, length, take, codes}
use Rattle.std.proofs.Common.{Some, None, Err, refl}
use Rattle.std.specs.Prelude.{◌&&◌, nat_eq}
use Rattle.std.specs.List.{ends_with}
use Rattle.std.specs.Result.{result_ok}
use Rattle.std.proofs.lemmas.Bool.{false_from_ne_true}
use Rattle.std.proofs.lemmas.Bool.Decides.{Decides-eqb}
use Rattle.std.proofs.lemmas.Slice.Eq.{ends_is}
use Rattle.cnb_toml.specs.Names.{is_image_name}
use Rattle.cnb_toml.specs.declared.fault.DocFault.TheVariants.{Wrong}
use Rattle.hex.specs.Hex.{decode_of, encode_lower}
use Rattle.image_docs.specs.DigestText.{decoded, is_digest}
use Rattle.image_docs.specs.DigestTextLaws.{digest_read}
use Rattle.tree_canon.specs.Digest.{is_digest_text}
use Rattle.store_prune.specs.Digests.{tree_digest}
use Rattle.store_prune.specs.Named.{is_document_name}

abbrev toml : List ℕ
toml = codes ".toml"

-- what stands before the ending
pub ends_so : (name front : List ℕ) (n : ℕ) → n ≡ 5 → name ≡ take (length name - n) name ++ toml
    → front ≡ take (length name - n) name → is_image_name front ≡ is_document_name name
ends_so name front n five whole is =
    let at : take (length name - n) name ≡ take (length name - 5) name = ap (λ k. take (length name - k) name) five in
    let ends : ends_with nat_eq name toml ≡ true = (ends_is Decides-eqb name toml
    (ends_with nat_eq name toml) refl).1 (take (length name - n) name) whole in
    ap is_image_name (is ∙ at) ∙ ap (λ b. b && is_image_name (take (length name - 5) name)) (sym ends)

pub ends_not : (name : List ℕ) → ((front : List ℕ) → name ≢ front ++ toml) → false ≡ is_document_name name
ends_not name lacks =
    let ends : ends_with nat_eq name toml ≡ false = false_from_ne_true (ends_with nat_eq name toml)
    (λ h. lacks (take (length name - 5) name) ((ends_is Decides-eqb name toml
    (ends_with nat_eq name toml) refl).0 h)) in
    ap (λ b. b && is_image_name (take (length name - 5) name)) (sym ends)

pub digest_named : (name digest : List ℕ) → encode_lower digest ≡ name → is_digest digest ≡ true
    → Some digest ≡ tree_digest name
digest_named name digest is sized = ap result_ok (sym (digest_read digest sized)) ∙ ap tree_digest is

pub no_digest : (name : List ℕ) → is_digest_text name ≡ false → None ≡ tree_digest name
no_digest name h = ap (λ b. result_ok (cond b (decoded (decode_of name)) (Err (Wrong [])))) (sym h)
