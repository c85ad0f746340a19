-- A certificate that was read in place and kept; and one that wasn't read.
use Rattle.std.proofs.Common.{◌≡◌, ◌≢◌, ◌∙◌, ℕ, true, List, [], ◌++◌, refl, sym, ap, subst}
use Rattle.std.proofs.Common.{◌⊎◌, inl, inr}
use Rattle.rpki_der.specs.declared.error.DecodeError.{DecodeError}
use Rattle.rpki_der.specs.declared.error.DecodeError.TheVariants.{OutOfMemory}
use Rattle.rpki_der.specs.TagName.{sequence}
use Rattle.rpki_der.specs.Header.{tlv}
use Rattle.rpki_der.specs.Reading.{Spells, Accepts, Refuses, Refusal, Finds}
use Rattle.rpki_der.specs.Standing.{StandsBefore}
use Rattle.rpki_der.specs.Values.{SpellsContents, IsContentsFault}
use Rattle.rpki_der.proofs.ReadingLaws.{unless-memory, unless-other, at-memory}
use Rattle.rpki_der.proofs.LeavesLaws.{contents-no-memory}
use Rattle.rpki_cert.specs.declared.read.cert_part.CertPart.{CertPart}
use Rattle.rpki_cert.specs.declared.read.cert_error.CertError.{CertError}
use Rattle.rpki_cert.specs.declared.read.fields.TbsView.{TbsView}
use Rattle.rpki_cert.specs.declared.read.view.CertView.{CertView}
use Rattle.rpki_cert.specs.Cert.{TbsParts, CertParts, AreFields, fields_of, SpellsTbs, SpellsCert}
use Rattle.rpki_cert.specs.CertError.{cert_error}
use Rattle.rpki_cert.specs.Kept.{IsTbsAt, IsCertOf}
use Rattle.rpki_x509.specs.Frame.{frame}
use Rattle.rpki_cert.specs.View.{FirstWrong, HasOne, AreContentsOf, IsTbsIn}
use Rattle.rpki_cert.specs.View.FirstWrong.{AtPart}

-- ---- the SEQUENCE around all

abbrev Frame : List ℕ → List ℕ → Type 0
Frame = SpellsContents sequence true

-- it isn't there
pub unframed : (part : CertPart) (L : List ℕ → List ℕ → CertError → Type 0) (s r : List ℕ) (e : DecodeError)
    → Refusal Frame (IsContentsFault sequence true) s r e → FirstWrong (frame sequence) part L s (cert_error part e)
unframed part L s r e h =
    AtPart (unless-memory e (λ z. contents-no-memory sequence true s e h.kind z) h.refuses) h.kind refl

-- values whose contents are in a SEQUENCE
module _ {V : Type 0} (G : V → List ℕ → Type 0) (around : (v : V) (p : List ℕ) → G v p → (c : List ℕ) × Frame c p) where
  -- the octets in front are a value, and no other
  pub framed-accepted : (s c r : List ℕ) (v : V) (a : Accepts Frame s c r) → G v a.spells.front
      → HasOne G a.spells.front → Accepts G s v r
  framed-accepted s c r v a here one = record {
    spells = record { front = a.spells.front; parts = a.spells.parts; spelled = here };
    only = λ w q h.
        let (d, k) = around w h.front h.spelled in
        let e = a.only d q (record { front = h.front; parts = h.parts; spelled = k }) in
        let same : h.front ≡ a.spells.front =
        k.octets ∙ ap (λ (x : List ℕ). tlv sequence true x) e.0 ∙ sym a.spells.spelled.octets in
        (one w v (subst (G w) same h.spelled) here, e.1);
  }

-- ---- errors

module _ {V : Type 0} (G : V → List ℕ → Type 0) (F : List ℕ → CertError → Type 0)
    (wrong : (s : List ℕ) (q : CertError) → q.error ≢ OutOfMemory → F s q → Refuses G s) where
  abbrev Fault : List ℕ → DecodeError → Type 0
  Fault s e = ((part : CertPart) × F s (cert_error part e)) ⊎ ((e ≡ OutOfMemory) × Finds G s)

  pub refused-front : (s : List ℕ) (q : CertError) → F s q → Refusal G Fault s s q.error
  refused-front s q h = record {
    unchanged = refl;
    refuses = unless-other q.error (λ other. wrong s q other h);
    kind = inl (q.part, h);
  }

  pub unkept-front : (s r : List ℕ) (v : V) (e : DecodeError) → Spells G s v r → e ≡ OutOfMemory
      → Refusal G Fault s s e
  unkept-front s r v e h out = record {
    unchanged = refl;
    refuses = at-memory e (Refuses G s) out;
    kind = inr (out, (v, r, h));
  }

-- ---- what was read and kept

tbs-framed : (t : TbsParts) (p : List ℕ) → SpellsTbs t p → (c : List ℕ) × Frame c p
tbs-framed t p h = (h.contents, h.value)

cert-framed : (x : CertParts) (p : List ℕ) → SpellsCert x p → (c : List ℕ) × Frame c p
cert-framed x p h = (h.signed.contents, h.signed.value)

pub tbs-accepted : (s c r : List ℕ) (t : TbsParts) (a : Accepts Frame s c r) → AreFields (fields_of t) c
    → HasOne SpellsTbs a.spells.front → Accepts SpellsTbs s t r
tbs-accepted s c r t a h one = framed-accepted SpellsTbs tbs-framed s c r t a
    (record { contents = c; value = a.spells.spelled; spelled = h }) one

module _ (s c r : List ℕ) (v : TbsView) (t : TbsParts) (a : Accepts Frame s c r) (h : AreFields (fields_of t) c)
    (k : IsTbsIn t c h v) (w : List ℕ) (is : w ≡ a.spells.front) where
  pub tbs-at : IsTbsAt w v t
  tbs-at = subst (λ (d : List ℕ). IsTbsAt d v t) (sym is)
      (record { contents = c; value = a.spells.spelled; spelled = h }, k)

pub tbs-found : (s c r : List ℕ) (t : TbsParts) (a : Accepts Frame s c r) → AreFields (fields_of t) c
    → Spells SpellsTbs s t r
tbs-found s c r t a h = record {
  front = a.spells.front;
  parts = a.spells.parts;
  spelled = record { contents = c; value = a.spells.spelled; spelled = h };
}

pub front-alone : (s p r o q w : List ℕ) → s ≡ p ++ r → o ≡ s → q ≡ r → w ≡ p → StandsBefore o w q
front-alone s p r o q w parts a b is = record {
  before = [];
  parts = a ∙ parts ∙ ap (λ (x : List ℕ). x ++ r) (sym is) ∙ ap (λ (x : List ℕ). w ++ x) (sym b);
}

pub cert-of : (s c r : List ℕ) (v : CertView) → Accepts Frame s c r → AreContentsOf c v
    → (x : CertParts) × IsCertOf c v x
cert-of s c r v a h = let k = (h a.spells.front a.spells.spelled).0 in (k.0, (a.spells.front, a.spells.spelled, k.1))

pub cert-accepted : (s c r : List ℕ) (v : CertView) (x : CertParts) → (a : Accepts Frame s c r) → AreContentsOf c v
    → ((y : CertParts) → IsCertOf c v y → x ≡ y) → Accepts SpellsCert s x r
cert-accepted s c r v x a h kept =
    let k = h a.spells.front a.spells.spelled in
    let same : x ≡ k.0.0 = kept k.0.0 (a.spells.front, a.spells.spelled, k.0.1) in
    framed-accepted SpellsCert cert-framed s c r x a
    (subst (λ (y : CertParts). SpellsCert y a.spells.front) (sym same) k.0.1.spelled) k.1

pub cert-found : (s c r : List ℕ) (v : CertView) (a : Accepts Frame s c r) → AreContentsOf c v
    → (x : CertParts) × Spells SpellsCert s x r
cert-found s c r v a h =
    let k = h a.spells.front a.spells.spelled in
    (k.0.0, record { front = a.spells.front; parts = a.spells.parts; spelled = k.0.1.spelled })
