use Rattle.std.proofs.Common.{false, inr, refl}
use Rattle.rpki_der.specs.declared.error.DecodeError.TheVariants.{OutOfMemory}
use Rattle.rpki_der.specs.Format.{leaf}
use Rattle.rpki_der.specs.Leaves.{IsBits}
use Rattle.rpki_der.specs.TagName.{bit_string}
use Rattle.rpki_der.proofs.LeavesLaws.{leaf-no-memory}
use Rattle.rpki_c.proofs.StatusLaws.{front-refused}
use Rattle.rpki_c.proofs.front_values.rpki_bit_string.Goals as goal

pub returns-in-Err : goal.returns-in-Err
returns-in-Err c =
    let h = rw c.from_slice-cursor.ensures at c.in-Err.ensures in
    let s = c.args.rest.now.octets.now in
    inr (
      front-refused (leaf bit_string IsBits) (λ k. leaf-no-memory bit_string false IsBits s OutOfMemory k refl) h
          c.number.ensures,
      refl,
      refl,
    )
