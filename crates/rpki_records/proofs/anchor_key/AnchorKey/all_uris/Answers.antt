use Rattle.rpki_records.specs.AnchorKeys.{given_uri_at}
use Rattle.rpki_records.proofs.FirstsLaws.{next_first}
use Rattle.rpki_records.proofs.anchor_key.AnchorKey.all_uris.Goals as goal

pub uris-preserved : goal.uris-preserved
uris-preserved c =
    next_first given_uri_at c.uris.number c.args.self.uris.now _ _ _ _ _ c.uris.invariant.0 c.uris.invariant.1
    c.next_uri.ensures.given c.in_ok-push_uri.ensures
