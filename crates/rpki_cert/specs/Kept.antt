-- What was read in place of a certificate, and is kept.
use Rattle.std.specs.Prelude.{ℕ, true, List}
use Rattle.rpki_der.specs.Prelude.{sequence, SpellsContents}
use Rattle.rpki_cert.specs.declared.read.fields.TbsView.{TbsView}
use Rattle.rpki_cert.specs.declared.read.view.CertView.{CertView}
use Rattle.rpki_cert.specs.Cert.{TbsParts, CertParts, SpellsTbs}
use Rattle.rpki_cert.specs.View.{IsTbsIn, IsCertAt}

-- all of s is a TBSCertificate, and the sections are those of its parts
abbrev pub IsTbsAt : List ℕ → TbsView → TbsParts → Type 0
IsTbsAt s v t = (h : SpellsTbs t s) × IsTbsIn t h.contents h.spelled v

-- a SEQUENCE of these contents is a certificate, and the sections are those of its parts
abbrev pub IsCertOf : List ℕ → CertView → CertParts → Type 0
IsCertOf c v x = (s : List ℕ) × SpellsContents sequence true c s × IsCertAt s v x
