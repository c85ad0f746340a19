use Rattle.std.proofs.Common.{◌≡◌, length}
use Rattle.rpkivalid.specs.Moment.{fits}
use Rattle.rpkivalid.proofs.moment.fits.Given as goal

abbrev pub invariant-octets : goal.invariant-octets
invariant-octets l = fits l.shape l.text ≡ fits l.initial.shape l.initial.text

abbrev pub decreases-octets : goal.decreases-octets
decreases-octets l = length l.shape
