use Rattle.rpki_der.specs.Prelude.{AtPart, Later}
use Rattle.rpki_der.proofs.TriedLaws.{tried-refused}
use Rattle.rpki.proofs.SigningLaws.{part-refused, no-value, no-algorithm, no-signature, contents-accepted}
use Rattle.rpki.proofs.repository.x509.signed_data.SignedData.from_constructed.Goals as goal

pub returns-in_err-signed : goal.returns-in_err-signed
returns-in_err-signed g c =
    let h = c.in_err-signed.ensures.reads in
    tried-refused _ _ _ _ _ _ _ c.from_residual.ensures
    (part-refused g.Alg.SignatureAlgorithm.spells _ _ _ _ _ _ _ (no-value g.Alg.SignatureAlgorithm.spells _)
    (AtPart h.refuses h.kind) h)

pub returns-in_err-algorithm : goal.returns-in_err-algorithm
returns-in_err-algorithm g c =
    let h = c.in_err-algorithm.ensures in
    let signed = c.in_ok-signed.ensures.reads in
    tried-refused _ _ _ _ _ _ _ c.from_residual-in_err-algorithm.ensures
    (part-refused g.Alg.SignatureAlgorithm.spells _ _ _ _ _ _ _
    (no-algorithm g.Alg.SignatureAlgorithm.spells _ _ _ signed) (Later _ _ signed (AtPart h.refuses h.kind)) h)

pub returns-in_err-value : goal.returns-in_err-value
returns-in_err-value g c =
    let h = c.in_err-value.ensures in
    let signed = c.in_ok-signed.ensures.reads in
    let algorithm = c.in_ok-algorithm.ensures in
    tried-refused _ _ _ _ _ _ _ c.from_residual-in_err-value.ensures
    (part-refused g.Alg.SignatureAlgorithm.spells _ _ _ _ _ _ _
    (no-signature g.Alg.SignatureAlgorithm.spells _ _ _ _ _ signed algorithm)
    (Later _ _ signed (Later _ _ algorithm h.kind)) h)

pub returns : goal.returns
returns g c =
    rw (c.new-2.ensures, c.new.ensures)
    (contents-accepted g.Alg.SignatureAlgorithm.spells _ _ _ _ _ _ _ c.in_ok-signed.ensures.reads
    c.in_ok-algorithm.ensures c.in_ok-value.ensures)
