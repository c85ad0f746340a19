use Rattle.std.proofs.Common.{◌≡◌, true, ap, arith}
use Rattle.rpki_der.specs.Prelude.{sequence, tlv}
use Rattle.rpki_der.proofs.EncodeLaws.{tlv-at-least}
use Rattle.rpki_der.specs.Listed.{listed_octets}
use Rattle.rpki_crl.specs.Crl.{entry_of, entries_in}
use Rattle.rpki_crl.specs.EncodedCrl.{entry_octets, entries_octets, written_entry}
use Rattle.rpki_x509.proofs.WrittenLaws.{listed-map, all-units}
use Rattle.rpki_crl.proofs.encode.encode_entries.Goals as goal

pub returns-in-Some-clause-octets : goal.returns-in-Some-clause-octets
returns-in-Some-clause-octets c =
    let xs = c.in-Some.entries.items in
    let same : listed_octets written_entry xs ≡ entries_octets (entries_in xs) = listed-map entry_of entry_octets xs in
    rw (c.in-Some.is, c.new-in-Some.ensures, c.new.ensures, c.as_slice.ensures.value)
    (ap (tlv sequence true) same)

pub returns-in-Some-clause-short : goal.returns-in-Some-clause-short
returns-in-Some-clause-short c = λ few.
    let xs = c.in-Some.entries.items in
    let same : listed_octets written_entry xs ≡ entries_octets (entries_in xs) = listed-map entry_of entry_octets xs in
    let short = rw c.in-Some.is at few in
    rw (c.new-in-Some.ensures, c.new.ensures, c.as_slice.ensures.value)
    (all-units xs, rw same (omega (arith, short, tlv-at-least sequence true (entries_octets (entries_in xs)))))
