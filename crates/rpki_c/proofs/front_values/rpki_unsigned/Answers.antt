use Rattle.std.proofs.Common.{false, inr, refl}
use Rattle.rpki_der.specs.declared.error.DecodeError.TheVariants.{OutOfMemory}
use Rattle.rpki_der.specs.Format.{leaf}
use Rattle.rpki_der.specs.Integer.{IsUnsigned}
use Rattle.rpki_der.specs.TagName.{integer}
use Rattle.rpki_der.proofs.LeavesLaws.{leaf-no-memory}
use Rattle.rpki_c.proofs.StatusLaws.{front-refused}
use Rattle.rpki_c.proofs.front_values.rpki_unsigned.Goals as goal

pub returns-in-Err : goal.returns-in-Err
returns-in-Err c =
    let h = rw c.from_slice-cursor.ensures at c.in-Err.ensures in
    let s = c.args.rest.now.octets.now in
    inr (
      front-refused (leaf integer IsUnsigned) (λ k. leaf-no-memory integer false IsUnsigned s OutOfMemory k refl) h
          c.number.ensures,
      refl,
      refl,
    )
