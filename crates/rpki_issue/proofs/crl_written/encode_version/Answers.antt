use Rattle.std.proofs.Common.{false, ap, ◌∙◌}
use Rattle.rpki_der.specs.Prelude.{integer, tlv}
use Rattle.rpki_time.specs.Serial.{serial_octets}
use Rattle.rpki_x509.specs.TagLaws.{number-few}
use Rattle.rpki_crl.proofs.ListReadLaws.{one-octet}
use Rattle.rpki_issue.proofs.crl_written.encode_version.Goals as goal

pub returns-clause-octets : goal.returns-clause-octets
returns-clause-octets c =
    c.encode.ensures.encoded ∙ ap (λ n. serial_octets n) c.from.ensures ∙ ap (λ w. tlv integer false w) one-octet

pub returns-clause-short : goal.returns-clause-short
returns-clause-short c = c.encode.ensures.short.1 (number-few c.from.result)
