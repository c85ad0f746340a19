-- Certificates that are read in place.
use Rattle.std.proofs.Common.{◌≡◌, ◌∙◌, ◌<◌, ℕ, Bool, true, List, length, sym}
use Rattle.std.proofs.Common.{subst, Result, Ok, Err}
use Rattle.std.specs.Prelude.{codes, IfOk, IfErr}
use Rattle.rpki_der.specs.TagName.{sequence}
use Rattle.rpki_der.specs.Values.{SpellsContents}
use Rattle.rpki.specs.SignedData.{SignedParts, IsSignedContents}
use Rattle.rpki.specs.UnknownAlgorithm.{IsContentWith}
use Rattle.rpki_cert.specs.declared.read.cert_part.CertPart.{CertPart}
use Rattle.rpki_cert.specs.declared.read.cert_error.CertError.{CertError}
use Rattle.rpki_cert.specs.declared.read.fields.TbsView.{TbsView}
use Rattle.rpki_x509.specs.declared.signed_parts.Parts.{Parts}
use Rattle.rpki_cert.specs.declared.read.view.CertView.{CertView}
use Rattle.rpki_cert.specs.Cert.{TbsParts, CertParts, cert_parts, SpellsTbs, SpellsCert}
use Rattle.rpki_x509.specs.Signed.{SpellsRpkiAlgorithm}
use Rattle.rpki_cert.specs.View.{HasOne, IsTbsIn, IsCertAt, IsTbsWrong}
use Rattle.rpki_x509.specs.SignedParts.{ArePartsIn}
use Rattle.rpki_cert.specs.View.{AreContentsOf, AreContentsWrong, IsCertErrorOf, most_extensions}
use Rattle.rpki_cert.specs.View.AreContentsWrong.{InSigned, Differ}
use Rattle.rpki_cert.specs.View.WholeWrong.{InFrame}
use Rattle.rpki_cert.proofs.OneLaws.{cert-one}
use Rattle.rpki_cert.proofs.WrongLaws.{cert-wrong}

-- ---- a certificate

abbrev IsTbsAt : TbsView → TbsParts → List ℕ → Type 0
IsTbsAt v t d = (h : SpellsTbs t d) × IsTbsIn t h.contents h.spelled v

pub cert-read : (s c d : List ℕ) (v : CertView) → SpellsContents sequence true c s
    → (k : (x : SignedParts Bool) × (h : IsSignedContents SpellsRpkiAlgorithm x c) × ArePartsIn x c h v.parts)
    → d ≡ v.parts.signed.octets.now → ((t : TbsParts) × (h : SpellsTbs t d) × IsTbsIn t h.contents h.spelled v.tbs)
    → HasOne SpellsTbs d → v.tbs.signature ≡ v.parts.signature_algorithm
    → ((x : CertParts) × IsCertAt s v x) × HasOne SpellsCert s
cert-read s c d v h k is l one same =
    let (x, spelled, stand) = k in
    let (t, tbs, there) = l in
    let signed : IsTbsAt v.tbs t x.signed = subst (IsTbsAt v.tbs t) (is ∙ stand.signed.octets) (tbs, there) in (
      (
        cert_parts x t,
        record {
          spelled = record {
            signed = record { contents = c; value = h; spelled = spelled };
            used = stand.used;
            tbs =
                signed.0;
            same = sym there.algorithm ∙ same ∙ stand.same;
          };
          parts = stand;
          tbs = signed.1;
        },
      ),
      cert-one s c d x h spelled (is ∙ stand.signed.octets) one,
    )

-- ---- what is wrong with it

module _ (allocates : Bool) (c d : List ℕ) (v : Parts) (q : CertError)
    (k : (x : SignedParts Bool) × (h : IsSignedContents SpellsRpkiAlgorithm x c) × ArePartsIn x c h v)
    (is : d ≡ v.signed.octets.now) where
  pub in-signed : IsTbsWrong allocates d q → AreContentsWrong allocates c q
  in-signed wrong =
      let (x, spelled, stand) = k in
      InSigned x spelled stand.used
      (subst (λ (y : List ℕ). IsTbsWrong allocates y q) (is ∙ stand.signed.octets) wrong)

  pub differ : (u : TbsView) → (t : TbsParts) × (h : SpellsTbs t d) × IsTbsIn t h.contents h.spelled u
      → (u.signature ≡ v.signature_algorithm → ⊥) → q.part ≡ CertPart.SameAlgorithm
      → IsContentWith (codes "signature algorithms differ") q.error → AreContentsWrong allocates c q
  differ u l other part text =
      let (x, spelled, stand) = k in
      let (t, tbs, there) = l in
      Differ x t spelled stand.used (subst (SpellsTbs t) (is ∙ stand.signed.octets) tbs)
      (λ e. other (there.algorithm ∙ e ∙ sym stand.same)) part text

-- the reader of the contents, whose result is handed on
pub contents-handed : (s c : List ℕ) (x : Result CertView CertError) → SpellsContents sequence true c s
    → IfOk x (λ v. AreContentsOf c v) → IfOk x (λ v. (y : CertParts) × IsCertAt s v y)
contents-handed s c (Ok v) h k = (k s h).0
contents-handed s c (Err q) h k = k

pub contents-handed-wrong : (allocates : Bool) (s c : List ℕ) (x : Result CertView CertError)
    → SpellsContents sequence true c s → IfErr x (λ q. AreContentsWrong allocates c q)
    → IfErr x (λ q. IsCertErrorOf allocates s q)
contents-handed-wrong allocates s c (Ok v) h k = k
contents-handed-wrong allocates s c (Err q) h k = InFrame c h k

pub wrong-handed : (allocates : Bool) (s : List ℕ) (x : Result CertView CertError)
    → IfErr x (λ q. IsCertErrorOf allocates s q)
    → IfErr x (λ q. (y : CertParts) → SpellsCert y s → most_extensions < length y.tbs.extensions)
wrong-handed allocates s (Ok v) k = k
wrong-handed allocates s (Err q) k = λ y h. (cert-wrong allocates q s k y h).many
