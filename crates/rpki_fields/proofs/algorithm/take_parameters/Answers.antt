use Rattle.rpki_der.proofs.CursorLaws.{at-end, not-at-end}
use Rattle.rpki_der.proofs.FormatLaws.{tried, given}
use Rattle.rpki_fields.specs.OtherCert.{any_octets, if_any}
use Rattle.rpki_fields.specs.OtherView.{octets_if}
use Rattle.rpki_fields.proofs.OtherCertLaws.{none-left, some-left, bad-left, octets-some}
use Rattle.rpki_fields.proofs.algorithm.take_parameters.Goals as goal

pub returns-then-is_empty : goal.returns-then-is_empty
returns-then-is_empty c = given (none-left any_octets octets-some (at-end _ _ c.if-is_empty.true c.is_empty.ensures))

pub returns-in_err-value : goal.returns-in_err-value
returns-in_err-value c =
    tried octets_if (if_any any_octets) _ _ c.from_residual.ensures
    (bad-left any_octets (not-at-end _ _ c.if-is_empty.false c.is_empty.ensures) c.in_err-value.ensures.reads)

pub returns : goal.returns
returns c =
    given (some-left any_octets (not-at-end _ _ c.if-is_empty.false c.is_empty.ensures) c.in_ok-value.ensures.reads)
