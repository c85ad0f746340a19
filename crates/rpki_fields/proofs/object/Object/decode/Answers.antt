use Rattle.rpki_fields.proofs.object.Object.decode.Goals as goal

pub returns-in-Certificate : goal.returns-in-Certificate
returns-in-Certificate c = rw c.in-Certificate.is c.certificate.ensures

pub returns-in-Checklist : goal.returns-in-Checklist
returns-in-Checklist c = rw c.in-Checklist.is c.checklist.ensures

pub returns-in-TrustAnchorKey : goal.returns-in-TrustAnchorKey
returns-in-TrustAnchorKey c = rw c.in-TrustAnchorKey.is c.anchor_keys.ensures

pub returns-in-Ghostbusters : goal.returns-in-Ghostbusters
returns-in-Ghostbusters c = rw c.in-Ghostbusters.is c.contact.ensures
