use Rattle.std.proofs.Common.{arith}
use Rattle.rpki_contents.proofs.RoaWritingLaws.{fits-yes, fits-no}
use Rattle.rpki_contents.proofs.roa_encoder.PrefixesEncoderValues.fits.Goals as goal

pub returns-in-Some : goal.returns-in-Some
returns-in-Some c =
    let few = c.in-Some.ensures.some in
    rw (← c.self.view_is) (fits-yes c.self.inside.addresses.now c.self.invariant (omega (arith, few.0, few.1)))

pub returns-in-None : goal.returns-in-None
returns-in-None c = rw (← c.self.view_is) (fits-no c.self.inside.addresses.now c.in-None.ensures.none)
