use Rattle.std.proofs.Common.{◌∙◌, sym, subst}
use Rattle.rpki.specs.Name.{IsName}
use Rattle.rpki_cert.proofs.KeptLaws.{issuer-stands, subject-stands, bits-stand, list-ends, extensions-listed, tbs-is}
use Rattle.rpki_cert.proofs.tbs.TbsCert.keep.Goals as goal

pub keep_name-requires-clause-stands : goal.keep_name-requires-clause-stands
keep_name-requires-clause-stands g c = let (t, h) = c.requires.stands in issuer-stands _ _ t h

pub keep_name-requires-2-clause-stands : goal.keep_name-requires-2-clause-stands
keep_name-requires-2-clause-stands g c = let (t, h) = c.requires.stands in subject-stands _ _ t h

pub keep_name-requires-2-clause-named : goal.keep_name-requires-2-clause-named
keep_name-requires-2-clause-named g c =
    let (t, h) = c.requires.stands in
    subst IsName (sym h.1.named.subject.octets) h.0.spelled.two.two.two.two.two.one.named

pub keep_key-requires-clause-stands : goal.keep_key-requires-clause-stands
keep_key-requires-clause-stands g c = let (t, h) = c.requires.stands in bits-stand _ _ t h

pub keep_extensions-requires-clause-held : goal.keep_extensions-requires-clause-held
keep_extensions-requires-clause-held g c =
    let (t, h) = c.requires.stands in
    let (front, e) = list-ends _ _ t h in
    g.met.K.Keep.rest_held c.args.keep front _ (subst (g.K.Keep.holds c.args.keep) e c.requires.held)

pub returns-clause-ok : goal.returns-clause-ok
returns-clause-ok g c = λ t h.
    let n = h.1.named in
    tbs-is t _ _ _ _ _ _ _ h.1.serial h.1.algorithm (c.in_ok-issuer.ensures ∙ n.issuer.octets) n.validity
    (c.in_ok-subject.ensures ∙ n.subject.octets) (c.in_ok-subject_public_key_info.ensures ∙ n.keyed.same)
    (c.in_ok-extensions.ensures.ok t.extensions (extensions-listed _ _ t h))
