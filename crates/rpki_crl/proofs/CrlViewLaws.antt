-- Revocation lists that are read in place.
use Rattle.std.proofs.Common.{◌≡◌, ◌∙◌, ℕ, true, List, refl, sym, subst}
use Rattle.std.specs.Prelude.{codes}
use Rattle.rpki_der.specs.declared.error.DecodeError.{DecodeError}
use Rattle.rpki_der.specs.TagName.{sequence}
use Rattle.rpki_der.specs.Values.{SpellsContents}
use Rattle.rpki.specs.UnknownAlgorithm.{IsContentWith}
use Rattle.rpki_x509.specs.declared.signed_parts.Parts.{Parts}
use Rattle.rpki_x509.specs.SignedParts.{ArePartsAt}
use Rattle.rpki_crl.specs.declared.crl_part.CrlPart.{CrlPart}
use Rattle.rpki_crl.specs.declared.crl_view.CrlView.{CrlView}
use Rattle.rpki_crl.specs.declared.list_view.TbsCertListView.{TbsCertListView}
use Rattle.rpki_crl.specs.Crl.{fields_of, tbs_cert_list, CrlParts, crl_parts}
use Rattle.rpki_crl.specs.CrlView.{CrlError, crl_error, IsTbsWrong, IsCrlAt, IsCrlError, signed_in}
use Rattle.rpki_crl.specs.CrlView.IsCrlError.{InSigned, Differ}
use Rattle.rpki_crl.proofs.ListViewLaws.{IsTbsAt}

pub list-read : (s c d : List ℕ) (v : CrlView) → SpellsContents sequence true c s → ArePartsAt c (signed_in v)
    → d ≡ v.signed.octets.now → IsTbsAt d v.tbs → v.tbs.signature ≡ v.signature_algorithm
    → (x : CrlParts) × IsCrlAt s v x
list-read s c d v h k is l same =
    let (x, spelled, stand) = k in
    let signed : IsTbsAt x.signed v.tbs = subst (λ (y : List ℕ). IsTbsAt y v.tbs) (is ∙ stand.signed.octets) l in (
      crl_parts x signed.0,
      record {
        spelled = record {
          value = x;
          spelled = record { signed = record { contents = c; value = h; spelled = spelled }; used = stand.used };
          stands = record {
            same = refl;
            list = signed.1;
            algorithm = sym signed.2.algorithm ∙ same ∙ stand.same;
          };
        };
        parts = stand;
        tbs = signed.2;
      },
    )

-- ---- what is wrong with it

pub in-signed : (s c d : List ℕ) (v : Parts) (q : CrlError) → SpellsContents sequence true c s → ArePartsAt c v
    → d ≡ v.signed.octets.now → IsTbsWrong d q → IsCrlError s q
in-signed s c d v q h k is wrong =
    let (x, spelled, stand) = k in
    InSigned c x h spelled stand.used (subst (λ (y : List ℕ). IsTbsWrong y q) (is ∙ stand.signed.octets) wrong)

pub differ : (s c d : List ℕ) (v : Parts) (f : TbsCertListView) → SpellsContents sequence true c s → ArePartsAt c v
    → d ≡ v.signed.octets.now → IsTbsAt d f → (f.signature ≡ v.signature_algorithm → ⊥)
    → (e : DecodeError) → IsContentWith (codes "signature algorithms differ") e
    → IsCrlError s (crl_error CrlPart.SameAlgorithm e)
differ s c d v f h k is l other e text =
    let (x, spelled, stand) = k in
    let (t, tbs, there) = l in
    Differ c x t h spelled stand.used (subst (tbs_cert_list.spells (fields_of t)) (is ∙ stand.signed.octets) tbs)
    (λ same. other (there.algorithm ∙ same ∙ sym stand.same)) refl text
