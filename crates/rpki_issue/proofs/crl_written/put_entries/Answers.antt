use Rattle.std.proofs.Common.{◌≡◌, ◌∙◌, true, refl, arith}
use Rattle.rpki_der.specs.Prelude.{sequence}
use Rattle.rpki_der.specs.Listed.{listed_octets}
use Rattle.rpki_der.proofs.EncodeLaws.{tlv-at-least}
use Rattle.rpki_x509.proofs.WrittenLaws.{listed-map, all-units}
use Rattle.rpki_crl.specs.Crl.{entry_of, entries_in}
use Rattle.rpki_crl.specs.EncodedCrl.{entry_octets, entries_octets, written_entry}
use Rattle.rpki_issue.proofs.crl_written.put_entries.Goals as goal

pub returns-in-Ok-clause-more : goal.returns-in-Ok-clause-more
returns-in-Ok-clause-more c =
    let xs = c.args.entries.now in
    let same : listed_octets written_entry xs ≡ entries_octets (entries_in xs) = listed-map entry_of entry_octets xs in
    c.in-Ok.ensures ∙ rw (c.new-listed.ensures, c.new.ensures, same) refl

pub returns-then-not-fits-clause-err : goal.returns-then-not-fits-clause-err
returns-then-not-fits-clause-err c = λ few.
    let xs = c.args.entries.now in
    let same : listed_octets written_entry xs ≡ entries_octets (entries_in xs) = listed-map entry_of entry_octets xs in
    let all = tlv-at-least sequence true (entries_octets (entries_in xs)) in
    let fits = c.fits.ensures.1
    (rw (c.new-listed.ensures, c.new.ensures)
    ((all-units xs, rw same (omega (arith, few, all))), rw same (omega (arith, few)))) in
    let none : ⊥ = cc in
    none
