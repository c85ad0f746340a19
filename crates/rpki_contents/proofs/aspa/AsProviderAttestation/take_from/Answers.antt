use Rattle.std.proofs.Common.{refl}
use Rattle.std.proofs.lemmas.Bool.{iff_false}
use Rattle.rpki_der.specs.Prelude.{sequence, around}
use Rattle.rpki_der.proofs.ChoiceLaws.{such-read, such-refused, such-nothing}
use Rattle.rpki_der.proofs.TriedLaws.{tried-refused}
use Rattle.rpki_contents.specs.Aspa.{IsAspa, aspa, aspa_parts, fields}
use Rattle.rpki_resources.proofs.ThenByLaws.{stayed}
use Rattle.rpki_contents.proofs.AspaLaws.{only-aspa, no-aspa, is-attestation}
use Rattle.rpki_contents.proofs.aspa.AsProviderAttestation.take_from.Goals as goal

pub returns-in_err-listed : goal.returns-in_err-listed
returns-in_err-listed c =
    tried-refused (λ x. x) aspa.spells aspa.fault _ _ _ _ c.from_residual.ensures
    (stayed (such-refused IsAspa (around sequence fields) c.in_err-listed.ensures))

pub returns-then-not-are_providers : goal.returns-then-not-are_providers
returns-then-not-are_providers c =
    let x = c.in_ok-listed.listed in
    let tested = rw c.as_slice.ensures.value at c.are_providers.ensures.answer in
    let none = no-aspa x.customer x.providers.items (iff_false tested c.if-not-are_providers.true) in
    rw c.content.ensures (such-nothing IsAspa (around sequence fields) _ refl c.in_ok-listed.ensures none)

pub invariant_of-result : goal.invariant_of-result
invariant_of-result c =
    let x = c.in_ok-listed.listed in
    let tested = rw c.as_slice.ensures.value at c.are_providers.ensures.answer in
    let a = c.in_ok-listed.ensures.spells in
    is-attestation x.customer x.providers.items a.front a.spelled (tested.0 c.if-not-are_providers.false)

pub returns : goal.returns
returns c =
    let x = c.in_ok-listed.listed in
    let tested = rw c.as_slice.ensures.value at c.are_providers.ensures.answer in
    such-read IsAspa (around sequence fields) (aspa_parts x.customer x.providers.items) c.in_ok-listed.ensures
    (record { same = refl; providers = tested.0 c.if-not-are_providers.false })
    (only-aspa x.customer x.providers.items)
