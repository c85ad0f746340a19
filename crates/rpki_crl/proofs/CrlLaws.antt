-- A list of entries that may be left out, in front of the extensions.
use Rattle.std.proofs.Common.{◌≡◌, ap, arith}
use Rattle.rpki_der.specs.TagName.{TagName, sequence}
use Rattle.rpki_der.specs.Format.{only}
use Rattle.rpki_der.proofs.FormatLaws.{Apart, around-apart}
use Rattle.rpki_crl.specs.Crl.{each_entry, entries, extensions_tag, known_extensions, extensions}

other-tag : sequence ≡ extensions_tag → ⊥
other-tag e = let n = ap (λ (t : TagName). t.number) e in omega (arith, n)

pub apart : Apart sequence entries (only extensions)
apart = around-apart sequence extensions_tag each_entry (only known_extensions) other-tag
