use Rattle.std.specs.Prelude.{codes}
use Rattle.rpki_fields.proofs.SaysLaws.{said-ok}
use Rattle.rpki_fields.proofs.uri_text.notify.Goals as goal

pub returns : goal.returns
returns c = said-ok (codes "RFC 6487 4.8.8") _ _ (λ uri. uri) _ c.https_text.result c.rpki_notify.ensures
    c.https_text.ensures
