use Rattle.rpki_der.proofs.FormatLaws.{tried, given-as, first, after, and, perhaps, past-and}
use Rattle.rpki_resources.specs.Address.{width}
use Rattle.rpki_contents.specs.RoaAddress.{parts_of, address_parts}
use Rattle.rpki_contents.proofs.RoaAddressLaws.{length-apart, end-given, same-parts}
use Rattle.rpki_contents.proofs.roa_address.fn.take_parts.in_sequence.Goals as goal

pub returns-in_err-prefix : goal.returns-in_err-prefix
returns-in_err-prefix c =
    tried parts_of (address_parts (width c.captures.family)) _ _ c.from_residual.ensures (first c.in_err-prefix.ensures)

pub returns-in_err-max_length : goal.returns-in_err-max_length
returns-in_err-max_length c =
    tried parts_of (address_parts (width c.captures.family)) _ _ c.from_residual-in_err-max_length.ensures
    (after c.in_ok-prefix.ensures (perhaps length-apart c.in_err-max_length.ensures))

pub returns : goal.returns
returns c =
    let read = c.in_ok-max_length.max_length in
    given-as (same-parts c.in_ok-prefix.prefix read)
    (and c.in_ok-prefix.ensures (past-and length-apart (λ n. n) read c.in_ok-max_length.ensures end-given))
