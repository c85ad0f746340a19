use Rattle.std.proofs.Common.{refl}
use Rattle.rpki_contents.specs.Aspa.{IsAttestation, aspa_parts}
use Rattle.rpki_contents.proofs.aspa.AsProviderAttestation.new.Goals as goal

pub invariant_of-result : goal.invariant_of-result
invariant_of-result c =
    let tested = rw c.as_slice.ensures.value at c.are_providers.ensures.answer in
    record {
      providers = tested.0 c.if-not-are_providers.false;
      customer = c.ranges.customer.fits;
      numbers = rw c.as_slice.ensures.value at c.are_providers.ensures.numbers;
    }

pub returns-clause-some : goal.returns-clause-some
returns-clause-some c =
    let tested = rw c.as_slice.ensures.value at c.are_providers.ensures.answer in
    let is : IsAttestation (aspa_parts c.args.customer c.args.providers.items) = record {
      providers = tested.0 c.if-not-are_providers.false;
      customer = c.ranges.customer.fits;
      numbers = rw c.as_slice.ensures.value at c.are_providers.ensures.numbers;
    } in
    (λ z. is, λ z. refl)
