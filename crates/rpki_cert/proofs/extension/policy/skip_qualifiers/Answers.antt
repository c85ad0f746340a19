use Rattle.std.proofs.Common.{◌≢◌, ℕ, List, [], Result, Ok, Err, inl, inr, refl}
use Rattle.std.proofs.lemmas.Bool.{iff_false}
use Rattle.rpki_der.specs.declared.error.DecodeError.{DecodeError}
use Rattle.rpki_der.specs.Cursor.{left}
use Rattle.rpki_der.specs.Reading.{SpellsNothing}
use Rattle.rpki_der.specs.FirstFault.{FirstFault, IsEndFault, ReadsParts}
use Rattle.rpki_der.proofs.ReadingLaws.{UnlessMemory-weaker}
use Rattle.rpki_der.proofs.FirstFaultLaws.{reads-one-part}
use Rattle.rpki_cert.specs.ExtensionContent.{SpellsQualifiers, AreQualifiers}
use Rattle.rpki_cert.proofs.extension.policy.skip_qualifiers.Goals as goal
use Rattle.rpki_cert.specs.ExtensionContent.{optional_qualifiers, qualifiers_value}

none-there : (s : List ℕ) → s ≢ [] → SpellsNothing SpellsQualifiers s → SpellsNothing AreQualifiers s
none-there s some none v (inl nil) = some nil
none-there s some none v (inr k) = none (tt, tt) k

there : (s r : List ℕ) (x : Result (Unit {0}) DecodeError) → s ≢ []
    → ReadsParts (λ _. (tt, tt)) SpellsQualifiers (FirstFault SpellsQualifiers qualifiers_value.fault (λ v. IsEndFault))
    s r x
    → ReadsParts (λ _. tt) AreQualifiers optional_qualifiers.fault s r x
there s r (Ok v) some h = (
  λ end. (inr (h.0 end).0, λ w k. refl),
  λ more. (none-there s some (h.1 more).0, (some, (h.1 more).1)),
)
there s r (Err e) some h = (UnlessMemory-weaker e (none-there s some) h.0, (some, h.1))

pub returns : goal.returns
returns c =
    let some = iff_false c.is_empty.ensures c.if-is_empty.false in
    there _ _ _ some (reads-one-part (λ _. (tt, tt)) SpellsQualifiers qualifiers_value.fault (left c.args.contents.now)
    _ _ c.skip_one_qualifier.ensures)
