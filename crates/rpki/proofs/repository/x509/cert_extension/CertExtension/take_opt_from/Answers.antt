use Rattle.std.proofs.Common.{rules}
use Rattle.rpki_der.specs.Prelude.{left, sequence, HasTag}
use Rattle.rpki_der.proofs.FirstFaultLaws.{tried-where}
use Rattle.rpki.proofs.repository.x509.cert_extension.CertExtension.take_opt_from.Goals as goal

pub returns-in_err-extension : goal.returns-in_err-extension
returns-in_err-extension g c =
    let has : HasTag sequence (left c.args.cons.now) = search rules in
    tried-where (HasTag sequence) _ _ _ _ _ _ _ c.from_residual.ensures has c.in_err-extension.ensures
