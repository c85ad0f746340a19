use Rattle.std.proofs.Common.{rules}
use Rattle.rpki_der.specs.Prelude.{left, HasTag}
use Rattle.rpki_der.proofs.FormatLaws.{tried-where}
use Rattle.rpki_cert.specs.Cert.{extensions_tag}
use Rattle.rpki_fields.specs.OtherCert.{any_extensions}
use Rattle.rpki_fields.proofs.other_cert.take_extensions.Goals as goal

pub returns-in_err-all : goal.returns-in_err-all
returns-in_err-all c =
    let has : HasTag extensions_tag (left c.args.cons.now) = search rules in
    tried-where extensions_tag (λ v. v.items) any_extensions _ c.from_residual.ensures has c.in_err-all.ensures
