use Rattle.std.proofs.Common.{inl, inr, refl}
use Rattle.rpki_resources.specs.Address.{width}
use Rattle.rpki_contents.specs.RoaAddress.{roa_address}
use Rattle.rpki_contents.proofs.RoaAddressLaws.{address-never}
use Rattle.rpki_c.proofs.StatusLaws.{front-refused}
use Rattle.rpki_c.proofs.roa.rpki_roa_address.Goals as goal

pub returns-in-Err : goal.returns-in-Err
returns-in-Err c =
    let w = width c.in-Some.named in
    let h = rw c.from_slice-cursor.ensures at c.in-Err.ensures in
    inl (
      c.in-Some.named,
      c.in-Some.ensures.some,
      inr (front-refused (roa_address w) (address-never w _) h c.number.ensures, refl, refl),
    )
