use Rattle.std.proofs.Common.{refl}
use Rattle.std.proofs.lemmas.Bool.{iff_false}
use Rattle.rpki_der.specs.Prelude.{sequence, around}
use Rattle.rpki_der.proofs.ChoiceLaws.{such-read, such-refused, such-nothing}
use Rattle.rpki_der.proofs.TriedLaws.{tried-refused}
use Rattle.rpki_resources.specs.Address.{width}
use Rattle.rpki_contents.specs.RoaAddress.{address_parts, IsRoaAddress, roa_address}
use Rattle.rpki_resources.proofs.ThenByLaws.{stayed}
use Rattle.rpki_contents.proofs.RoaAddressLaws.{only-address, no-address}
use Rattle.rpki_contents.proofs.roa_address.RoaIpAddress.take_from.Goals as goal

pub returns-in_err-found : goal.returns-in_err-found
returns-in_err-found c =
    let w = width c.args.family in
    tried-refused (λ x. x) (roa_address w).spells (roa_address w).fault _ _ _ _ c.from_residual.ensures
    (stayed (such-refused (IsRoaAddress w) (around sequence (address_parts w)) c.in_err-found.ensures))

pub returns-then-not-is_max_length : goal.returns-then-not-is_max_length
returns-then-not-is_max_length c =
    let w = width c.args.family in
    let none = no-address w c.in_ok-found.found (iff_false c.is_max_length.ensures c.if-not-is_max_length.true) in
    rw c.content.ensures
    (such-nothing (IsRoaAddress w) (around sequence (address_parts w)) _ refl c.in_ok-found.ensures none)

pub returns : goal.returns
returns c =
    let w = width c.args.family in
    let x = c.in_ok-found.found in
    such-read (IsRoaAddress w) (around sequence (address_parts w)) x c.in_ok-found.ensures
    (record { same = refl; within = c.is_max_length.ensures.0 c.if-not-is_max_length.false }) (only-address w x)
