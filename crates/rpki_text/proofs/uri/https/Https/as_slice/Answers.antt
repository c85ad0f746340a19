use Rattle.rpki_text.proofs.HttpsPartLaws.{https-spelled, https-uri-parts}
use Rattle.rpki_text.proofs.uri.https.Https.as_slice.Goals as goal

pub returns-clause-spelled : goal.returns-clause-spelled
returns-clause-spelled c = rw (← c.self.view_is) (https-spelled _ _ c.self.invariant)

pub returns-clause-uri : goal.returns-clause-uri
returns-clause-uri c = rw (← c.self.view_is) (https-uri-parts _ _ c.self.invariant)
