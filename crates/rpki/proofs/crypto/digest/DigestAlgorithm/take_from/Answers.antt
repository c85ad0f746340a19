use Rattle.std.proofs.Common.{true}
use Rattle.rpki_der.specs.TagName.{sequence}
use Rattle.rpki_der.proofs.ReadingLaws.{Refusal-weaker}
use Rattle.rpki_der.proofs.LeavesLaws.{dropped-accepted}
use Rattle.rpki_der.proofs.TriedLaws.{tried-refused}
use Rattle.rpki.specs.Oids.{sha256}
use Rattle.rpki.specs.Algorithm.{IsIdentified}
use Rattle.rpki.specs.Digest.{IsDigestContents}
use Rattle.rpki.proofs.PartLaws.{dropped-none}
use Rattle.rpki.proofs.crypto.digest.DigestAlgorithm.take_from.Goals as goal

pub returns-in_err-take_algorithm : goal.returns-in_err-take_algorithm
returns-in_err-take_algorithm c =
    tried-refused _ _ _ _ _ _ _ c.from_residual.ensures
    (Refusal-weaker (dropped-none sequence true (IsIdentified sha256) IsDigestContents _ (λ w d h. h)) (λ k. k)
    c.in_err-take_algorithm.ensures)

pub returns : goal.returns
returns c = dropped-accepted sequence true (IsIdentified sha256) IsDigestContents _ _ _ (λ b d h. (b, h)) (λ d h. h)
    c.in_ok-take_algorithm.ensures
