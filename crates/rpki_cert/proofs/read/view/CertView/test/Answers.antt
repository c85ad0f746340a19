use Rattle.rpki_cert.proofs.read.view.CertView.test.Goals as goal

pub returns : goal.returns
returns c = λ s x h. c.test.ensures x.tbs (c.inspected.ensures s x h)
