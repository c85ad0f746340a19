use Rattle.rpki_der.proofs.FormatLaws.{tried, given, perhaps, past, past-and}
use Rattle.rpki_fields.specs.OtherCert.{optional_of, optional_fields, issuer_id_tag, subject_id_tag}
use Rattle.rpki_fields.proofs.OtherPartsLaws.{issuer-apart, subject-apart, extensions-apart}
use Rattle.rpki_fields.proofs.OtherCertLaws.{ended, same-tag}
use Rattle.rpki_fields.proofs.other_cert.take_optional.Goals as goal

pub returns-in_err-issuer_id : goal.returns-in_err-issuer_id
returns-in_err-issuer_id c =
    tried optional_of optional_fields _ _ c.from_residual.ensures
    (perhaps issuer-apart (rw c.new.ensures at c.in_err-issuer_id.ensures))

pub returns-in_err-subject_id : goal.returns-in_err-subject_id
returns-in_err-subject_id c =
    tried optional_of optional_fields _ _ c.from_residual-in_err-subject_id.ensures
    (past issuer-apart (λ b. b) c.in_ok-issuer_id.issuer_id
    (same-tag _ issuer_id_tag _ _ c.in_ok-issuer_id.issuer_id c.new.ensures c.in_ok-issuer_id.ensures)
    (perhaps subject-apart (rw c.new-2.ensures at c.in_err-subject_id.ensures)))

pub returns-in_err-extensions : goal.returns-in_err-extensions
returns-in_err-extensions c =
    tried optional_of optional_fields _ _ c.from_residual-in_err-extensions.ensures
    (past issuer-apart (λ b. b) c.in_ok-issuer_id.issuer_id
    (same-tag _ issuer_id_tag _ _ c.in_ok-issuer_id.issuer_id c.new.ensures c.in_ok-issuer_id.ensures)
    (past subject-apart (λ b. b) c.in_ok-subject_id.subject_id
    (same-tag _ subject_id_tag _ _ c.in_ok-subject_id.subject_id c.new-2.ensures c.in_ok-subject_id.ensures)
    (perhaps extensions-apart c.in_err-extensions.ensures)))

pub returns : goal.returns
returns c =
    given (past-and issuer-apart (λ b. b) c.in_ok-issuer_id.issuer_id
    (same-tag _ issuer_id_tag _ _ c.in_ok-issuer_id.issuer_id c.new.ensures c.in_ok-issuer_id.ensures)
    (past-and subject-apart (λ b. b) c.in_ok-subject_id.subject_id
    (same-tag _ subject_id_tag _ _ c.in_ok-subject_id.subject_id c.new-2.ensures c.in_ok-subject_id.ensures)
    (past-and extensions-apart (λ v. v.items) c.in_ok-extensions.extensions c.in_ok-extensions.ensures ended)))
