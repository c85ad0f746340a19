use Rattle.std.proofs.Common.{ap, arith, ◌-◌, length}
use Rattle.std.specs.Prelude.{slice_range}
use Rattle.std.proofs.lemmas.Bool.Decides.{Decides-eqb}
use Rattle.std.proofs.lemmas.Slice.Eq.{slice_eq-Decides}
use Rattle.rpki_der.proofs.KeepLaws.{all-stands, part-is-there}
use Rattle.rpki_der.proofs.keep.SharedKeep.can_keep.Goals as goal

pub returns : goal.returns
returns c =
    let self = c.args.self.now in
    let source = self.bytes.now in
    let octets = c.args.octets.now in
    let same = slice_eq-Decides Decides-eqb (slice_range source (self.end - length octets) self.end) octets c.eq.result
    (rw c.as_slice-all.ensures at c.eq.ensures) in (
      λ h. part-is-there source self.end octets (omega (arith, c.if-octets-self.false))
          (omega (arith, c.if-self-all.false, ap length c.as_slice-all.ensures)) (same.0 h),
      λ h. same.1 (all-stands source self.end octets h),
    )
