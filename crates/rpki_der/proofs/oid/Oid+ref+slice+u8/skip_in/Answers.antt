use Rattle.std.proofs.Common.{false, refl}
use Rattle.rpki_der.specs.Leaves.{IsOidOf, IsAnyOid}
use Rattle.rpki_der.specs.TagName.{oid}
use Rattle.rpki_der.proofs.LeavesLaws.{dropped-accepted, dropped-refused}
use Rattle.rpki_der.proofs.TriedLaws.{tried-refused}
use Rattle.rpki_der.proofs.oid.Oid+ref+slice+u8.skip_in.Goals as goal

pub returns : goal.returns
returns c =
    dropped-accepted oid false IsOidOf IsAnyOid _ _ _ (λ w d h. h.1) (λ d h. (d, (refl, h))) c.in_ok-take_oid.ensures

pub returns-in_err-take_oid : goal.returns-in_err-take_oid
returns-in_err-take_oid c = tried-refused _ _ _ _ _ _ _ c.from_residual.ensures
    (dropped-refused oid false IsOidOf IsAnyOid _ _ _ (λ d h. (d, (refl, h))) c.in_err-take_oid.ensures)
