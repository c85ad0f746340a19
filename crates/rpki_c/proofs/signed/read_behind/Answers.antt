use Rattle.std.proofs.Common.{◌∙◌, refl, sym}
use Rattle.std.proofs.lemmas.Bool.{iff_false}
use Rattle.rpki_der.specs.Reading.{Spells, Refuses, UnlessMemory}
use Rattle.rpki_der.specs.FirstFault.FirstFault.{AtPart, Later}
use Rattle.rpki_der.proofs.ReadingLaws.{UnlessMemory-weaker, UnlessMemory-from}
use Rattle.rpki_der.proofs.ComposedLaws.{nothing-whole, nothing-after, all-read}
use Rattle.rpki_der.proofs.InsideLaws.{unless-memory}
use Rattle.rpki.specs.Oids.{sha256_with_rsa_encryption}
use Rattle.rpki.specs.SignedData.{SpellsSignature}
use Rattle.rpki.proofs.AlgorithmFaultLaws.{algorithm-outer}
use Rattle.rpki.proofs.SigningLaws.{no-algorithm, no-signature, contents-accepted, signature-accepted}
use Rattle.rpki.proofs.SigningLaws.{signature-refused}
use Rattle.rpki_c.specs.Identifier.{IsOther}
use Rattle.rpki_c.specs.Signed.{SpellsRpkiAlgorithm, AreRpkiParts}
use Rattle.rpki_c.proofs.SignedLaws.{in-contents, front-of, follows, not-other}
use Rattle.rpki_c.proofs.signed.read_behind.Goals as goal

pub returns-in-Err-clause-reads : goal.returns-in-Err-clause-reads
returns-in-Err-clause-reads c = λ s one.
    let e = c.in-Err.e in
    let h = rw c.from_slice-rest.ensures at c.in-Err.ensures in
    let none : UnlessMemory e (Refuses AreRpkiParts s) =
    UnlessMemory-weaker e (no-algorithm SpellsRpkiAlgorithm s _ _ one) h.refuses in
    let unnamed = iff_false c.begins_with_identifier.ensures c.if-begins_with_identifier.false in (
      UnlessMemory-from e (λ f. unnamed (follows (IsOther SpellsRpkiAlgorithm) s _ _ one f).some),
      (
        UnlessMemory-weaker e (nothing-whole AreRpkiParts s) none,
        AtPart none (Later _ _ one (AtPart h.refuses h.kind)),
      ),
    )

pub returns-then-begins_with_identifier-clause-reads : goal.returns-then-begins_with_identifier-clause-reads
returns-then-begins_with_identifier-clause-reads c = λ s one.
    let e = c.in-Err.e in
    let h = rw c.from_slice-rest.ensures at c.in-Err.ensures in
    record {
      value = c.args.«data».now;
      rest = c.args.following.now;
      begins = one.spells;
      follows = record {
        some = c.begins_with_identifier.ensures.0 c.if-begins_with_identifier.true;
        none = unless-memory e (algorithm-outer sha256_with_rsa_encryption _ e h.kind).other h.refuses;
      };
    }

pub returns-in-Err-take_bits-clause-reads : goal.returns-in-Err-take_bits-clause-reads
returns-in-Err-take_bits-clause-reads c = λ s one.
    let e = c.in-Err-take_bits.e in
    let two = rw c.from_slice-rest.ensures at c.in-Ok.ensures in
    let h = signature-refused _ _ _ e c.in-Err-take_bits.ensures in
    let none : UnlessMemory e (Refuses AreRpkiParts s) =
    UnlessMemory-weaker e (no-signature SpellsRpkiAlgorithm s _ _ _ _ one two) h.refuses in (
      UnlessMemory-from e (not-other s _ _ _ _ one two),
      (
        UnlessMemory-weaker e (nothing-whole AreRpkiParts s) none,
        AtPart none (Later _ _ one (Later _ _ two h.kind)),
      ),
    )

pub returns-in-Err-finish-clause-reads : goal.returns-in-Err-finish-clause-reads
returns-in-Err-finish-clause-reads c = λ s one.
    let e = c.in-Err-finish.e in
    let h = c.in-Err-finish.ensures in
    let two = rw c.from_slice-rest.ensures at c.in-Ok.ensures in
    let all = contents-accepted SpellsRpkiAlgorithm s _ _ _ _ _ _ one two
    (signature-accepted _ c.in-Ok-take_bits.bits _ _ refl c.in-Ok-take_bits.ensures) in (
      UnlessMemory-from e (not-other s _ _ _ _ one two),
      (UnlessMemory-from e (nothing-after AreRpkiParts s _ _ all h.1), Later _ _ all (h.1, h.0)),
    )

pub returns-in-Ok-finish-clause-reads : goal.returns-in-Ok-finish-clause-reads
returns-in-Ok-finish-clause-reads c = λ s one.
    let two = rw c.from_slice-rest.ensures at c.in-Ok.ensures in
    let all = contents-accepted SpellsRpkiAlgorithm s _ _ _ _ _ _ one two
    (signature-accepted _ c.in-Ok-take_bits.bits _ _ c.octet_slice.ensures c.in-Ok-take_bits.ensures) in (
      not-other s _ _ _ _ one two,
      rw c.has_parameters.ensures (all-read AreRpkiParts s _ _ all c.in-Ok-finish.ensures),
    )

pub returns-in-Ok-finish-clause-parts : goal.returns-in-Ok-finish-clause-parts
returns-in-Ok-finish-clause-parts c = λ s one.
    let two = rw c.from_slice-rest.ensures at c.in-Ok.ensures in
    let bits = c.in-Ok-take_bits.bits in
    let a = c.in-Ok-take_bits.ensures in
    let three : Spells SpellsSignature _ bits.octets _ =
    record {
      front = a.spells.front;
      parts = a.spells.parts;
      spelled = record { unused = bits.unused; string = a.spells.spelled };
    } in
    let k = in-contents s _ _ _ _ _ _ one two three c.in-Ok-finish.ensures in
    let text = front-of c.args.following.now c.rest-behind.result.now two.spells.front _ two.spells.parts
    c.rest-behind.ensures in
    rw (c.has_parameters.ensures, c.octet_slice.ensures)
    (record { spelled = k.0; algorithm = text ∙ sym k.1; unused = c.unused.ensures.value ∙ sym k.2 })
