use Rattle.std.proofs.Common.{rules}
use Rattle.rpki_der.proofs.EachLaws.{read-each-itself}
use Rattle.rpki_resources.specs.Address.{width}
use Rattle.rpki_contents.specs.RoaAddress.{roa_address}
use Rattle.rpki_contents.proofs.RoaAddressLaws.{address-some}
use Rattle.rpki_contents.proofs.roa_family.take_each_address.Goals as goal

pub returns : goal.returns
returns c =
    let w = width c.args.family in
    read-each-itself (roa_address w).spells (roa_address w).fault _ (λ b a x h. search rules) (address-some w)
    (λ v. v.items) _ _ _ c.take_each.ensures
