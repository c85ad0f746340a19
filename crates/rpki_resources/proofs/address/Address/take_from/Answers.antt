use Rattle.std.proofs.Common.{false, refl}
use Rattle.rpki_der.specs.TagName.{bit_string}
use Rattle.rpki_der.proofs.LeavesLaws.{leaf-refused, leaf-accepted, leaf-malformed}
use Rattle.rpki_der.proofs.TriedLaws.{tried-refused}
use Rattle.rpki_resources.specs.Address.{width, IsAddress, address}
use Rattle.rpki_resources.proofs.AddressLaws.{one-address}
use Rattle.rpki_resources.proofs.address.Address.take_from.Goals as goal

pub returns-in_err-contents : goal.returns-in_err-contents
returns-in_err-contents c =
    let w = width c.args.family in
    let e = c.in_err-contents.field-0.0 in
    tried-refused (λ x. x) (address w).spells (address w).fault _ _ e _ c.from_residual.ensures
    (leaf-refused bit_string false (IsAddress w) _ _ _ e refl c.in_err-contents.ensures)

pub returns-in-Some : goal.returns-in-Some
returns-in-Some c =
    let w = width c.args.family in
    let is = rw c.width.ensures at c.in-Some.ensures.some in
    leaf-accepted bit_string false (IsAddress w) _ c.in_ok-contents.contents.now _ c.in-Some.address
    c.in_ok-contents.ensures is (λ v h. one-address w v c.in-Some.address c.in_ok-contents.contents.now h is)

pub returns-in-None : goal.returns-in-None
returns-in-None c =
    let w = width c.args.family in
    leaf-malformed bit_string false (IsAddress w) _ c.in_ok-contents.contents.now _ _ _ _ c.content.ensures refl
    c.in_ok-contents.ensures (rw c.width.ensures at c.in-None.ensures.none)
