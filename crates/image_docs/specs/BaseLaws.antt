-- A base reads back.
use Rattle.std.specs.Prelude.{◌≡◌, true, Ok}
use Rattle.std.proofs.lemmas.Bool.{and_parts}
use Rattle.cnb_toml.specs.Names.{is_image_name, is_target_name}
use Rattle.cnb_toml.specs.WrittenLaws.{name_read}
use Rattle.image_docs.specs.declared.base.Base.{Base}
use Rattle.image_docs.specs.Base.{base_in, has_base_names, is_base, base_members}
use Rattle.image_docs.specs.DigestText.{is_digest}
use Rattle.image_docs.specs.DigestTextLaws.{digest_read}

pub base_read : (base : Base) → has_base_names base ≡ true → is_base base ≡ true → base_in (base_members base) ≡ Ok base
base_read base typed sound =
    let names = and_parts (is_image_name base.name) (is_digest base.top) typed in
    let target = and_parts (is_target_name base.os) (is_target_name base.arch) sound in
    rw (
      name_read is_image_name base.name names.0,
      digest_read base.top names.1,
      name_read is_target_name base.os target.0,
      name_read is_target_name base.arch target.1,
    )
