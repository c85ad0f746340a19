use Rattle.rpki_text.proofs.HttpsPartLaws.{https-halves, https-at-path, eq_https_bytes-uri}
use Rattle.rpki_text.proofs.uri.https.Https.eq_bytes.Goals as goal

pub same_but_case-requires : goal.same_but_case-requires
same_but_case-requires c = let h = https-halves _ _ c.self.invariant in rw c.as_slice.ensures h.fits

pub returns-clause-text : goal.returns-clause-text
returns-clause-text c = rw (c.same_but_case.ensures, c.as_slice.ensures, ← c.self.view_is)
    (https-at-path c.self.inside.bytes _ c.self.invariant c.args.other.now)

pub returns-clause-uri : goal.returns-clause-uri
returns-clause-uri c h = rw (c.same_but_case.ensures, c.as_slice.ensures, ← c.self.view_is)
    (eq_https_bytes-uri c.self.inside.bytes c.args.other.now _ c.self.invariant h)
