use Rattle.std.proofs.Common.{refl}
use Rattle.rpki_der.specs.declared.error.DecodeError.TheVariants.{OutOfMemory}
use Rattle.rpki_der.proofs.ReadingLaws.{Refusal-or-memory-where}
use Rattle.rpki_der.proofs.TriedLaws.{tried-refused}
use Rattle.rpki.specs.NameValue.{HasNameValue}
use Rattle.rpki.specs.NameFault.{name, borrowed_name}
use Rattle.rpki.proofs.NameLaws.{name-stands, name-found, octets-any}
use Rattle.rpki.proofs.NameFaultLaws.{name-never}
use Rattle.rpki.proofs.repository.x509.name.octets.NameOctets.take_from.Goals as goal

pub returns-in_err-name : goal.returns-in_err-name
returns-in_err-name g c =
    tried-refused _ _ _ _ _ _ _ c.from_residual.ensures
    (Refusal-or-memory-where HasNameValue borrowed_name.fault _ _ _ (λ k. absurd (name-never _ k))
    (record { unchanged = refl; refuses = c.in_err-name.ensures.refuses; kind = c.in_err-name.ensures.kind }))

pub keep_part-requires-clause-stands : goal.keep_part-requires-clause-stands
keep_part-requires-clause-stands g c = rw c.octets.ensures.octets (name-stands c.in_ok-name.ensures.spells)

pub returns-in_err-octets : goal.returns-in_err-octets
returns-in_err-octets g c =
    tried-refused _ name.spells name.fault _ _ OutOfMemory _ c.from_residual-in_err-octets.ensures
    (record {
      unchanged = refl;
      refuses = tt;
      kind = name-found _ _ (octets-any _ _ _ c.in_ok-name.ensures.spells);
    })
