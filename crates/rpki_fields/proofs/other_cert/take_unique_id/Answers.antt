use Rattle.std.proofs.Common.{rules}
use Rattle.rpki_der.specs.Prelude.{left, HasTag}
use Rattle.rpki_der.proofs.FormatLaws.{tried-where}
use Rattle.rpki_fields.specs.OtherCert.{unique_id}
use Rattle.rpki_fields.proofs.other_cert.take_unique_id.Goals as goal

pub returns-in_err-octets : goal.returns-in_err-octets
returns-in_err-octets c =
    let has : HasTag c.args.tag (left c.args.cons.now) = search rules in
    tried-where c.args.tag (λ b. b) (unique_id c.args.tag) _ c.from_residual.ensures has c.in_err-octets.ensures
