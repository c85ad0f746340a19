use Rattle.std.specs.Prelude.{codes}
use Rattle.rpki_fields.proofs.SaysLaws.{said-ok}
use Rattle.rpki_fields.proofs.uri_text.repository.Goals as goal

pub returns : goal.returns
returns c = said-ok (codes "RFC 6487 4.8.8") _ _ (λ uri. uri) _ c.rsync_text.result c.ca_repository.ensures
    c.rsync_text.ensures
