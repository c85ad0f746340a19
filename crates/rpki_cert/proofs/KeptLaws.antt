-- Parts that were read in place, where they are; and keeping them.
use Rattle.std.proofs.Common.{◌≡◌, ◌∙◌, ℕ, Bool, true, false, List, [], ◌∷◌, ◌++◌, length, refl, sym, ap}
use Rattle.std.proofs.Common.{subst, append_assoc, append-nil}
use Rattle.rpki_der.specs.TagName.{TagName, sequence, bit_string}
use Rattle.rpki_der.specs.Header.{identifier_octets, length_octets}
use Rattle.rpki_der.specs.Values.{SpellsLeaf}
use Rattle.rpki_der.specs.Leaves.{IsBits}
use Rattle.rpki_der.specs.Each.{SpellsEach}
use Rattle.rpki_der.specs.declared.section.Section.{Section}
use Rattle.rpki_der.specs.Section.{IsSection, IsSectionOf}
use Rattle.rpki.specs.PublicKey.{KeyParts, SpellsKey}
use Rattle.rpki_time.specs.Validity.{Period}
use Rattle.rpki.specs.ExtensionValue.{ExtensionParts, SpellsExtension}
use Rattle.rpki.specs.SignedData.{SignedParts, parts_of, IsSignedContents}
use Rattle.rpki_cert.specs.declared.read.fields.TbsView.{TbsView}
use Rattle.rpki_x509.specs.declared.signed_parts.Parts.{Parts}
use Rattle.rpki_cert.specs.declared.read.view.CertView.{CertView}
use Rattle.rpki_cert.specs.Cert.{TbsParts, CertParts, cert_parts, SpellsTbs}
use Rattle.rpki_x509.specs.Signed.{SpellsRpkiAlgorithm}
use Rattle.rpki_x509.specs.SignedParts.{ArePartsIn}
use Rattle.rpki_cert.specs.Kept.{IsTbsAt, IsCertOf}
use Rattle.rpki_cert.proofs.OneLaws.{contents-same}

-- ---- octets at the end of others

record Ends (s r : List ℕ) : Type 0 where
  front : List ℕ
  parts : s ≡ front ++ r

ends-all : (s : List ℕ) → Ends s s
ends-all s = record { front = []; parts = refl }

ends-on : (s r a b : List ℕ) → Ends s r → r ≡ a ++ b → Ends s b
ends-on s r a b h e = record {
  front = h.front ++ a;
  parts = h.parts ∙ ap (λ (x : List ℕ). h.front ++ x) e ∙ sym (append_assoc h.front a b);
}

ends-contents : {V : Type 0} (t : TagName) (f : Bool) (C : V → List ℕ → Type 0) (v : V) (s r : List ℕ) → Ends s r
    → (k : SpellsLeaf t f C v r) → Ends s k.contents
ends-contents t f C v s r h k =
    ends-on s r (identifier_octets t f ++ length_octets (length k.contents)) k.contents h k.value.octets

-- the section that ends them, but for what follows it
section-at : (s r a b : List ℕ) (p : Section) → Ends s r → r ≡ a ++ b → IsSection p a b
    → IsSectionOf s p.octets.now p.following
section-at s r a b p h e is = record {
  front = h.front;
  behind = b;
  parts = h.parts ∙ ap (λ (x : List ℕ). h.front ++ x) (e ∙ ap (λ (x : List ℕ). x ++ b) (sym is.octets));
  size = is.following;
}

-- ---- the fields

module _ (s : List ℕ) (v : TbsView) (t : TbsParts) (h : IsTbsAt s v t) where
  fields : Ends s h.0.contents
  fields = ends-contents sequence true _ _ s s (ends-all s) h.0

  issuers : Ends s h.0.spelled.two.two.second
  issuers =
      let f = h.0.spelled in
      ends-on s _ f.two.two.first f.two.two.second
      (ends-on s _ f.two.first f.two.second (ends-on s _ f.first f.second fields f.parts) f.two.parts) f.two.two.parts

  subjects : Ends s h.0.spelled.two.two.two.two.second
  subjects =
      let f = h.0.spelled.two.two.two in
      ends-on s _ f.two.first f.two.second (ends-on s _ f.first f.second issuers f.parts) f.two.parts

  keys : Ends s h.0.spelled.two.two.two.two.two.second
  keys =
      let f = h.0.spelled.two.two.two.two.two in
      ends-on s _ f.first f.second subjects f.parts

  pub issuer-stands : IsSectionOf s v.named.issuer.octets.now v.named.issuer.following
  issuer-stands =
      let f = h.0.spelled.two.two.two in
      section-at s _ t.issuer f.second v.named.issuer issuers
      (f.parts ∙ ap (λ (x : List ℕ). x ++ f.second) f.one.same) h.1.named.issuer

  pub subject-stands : IsSectionOf s v.named.subject.octets.now v.named.subject.following
  subject-stands =
      let f = h.0.spelled.two.two.two.two.two in
      section-at s _ t.subject f.second v.named.subject subjects
      (f.parts ∙ ap (λ (x : List ℕ). x ++ f.second) f.one.same) h.1.named.subject

  -- the last octets of a key are its bits
  bits-in : (k : KeyParts) (p : List ℕ) → SpellsKey k p → (front : List ℕ) × (p ≡ front ++ k.bits.octets)
  bits-in k p g =
      let string = g.spelled.two in
      let a = ends-on p _ g.spelled.first g.spelled.second
      (ends-contents sequence true _ k p p (ends-all p) g) g.spelled.parts in
      let b = ends-contents bit_string false IsBits k.bits p _ a string in
      let last = ends-on p _ (k.bits.unused ∷ []) k.bits.octets b string.spelled.contents in
      (last.front, last.parts)

  pub bits-stand : IsSectionOf s v.named.keyed.key.bits.octets v.named.keyed.octets.following
  bits-stand =
      let f = h.0.spelled.two.two.two.two.two.two in
      let i = h.1.named.keyed in
      let (front, e) = bits-in t.key f.first f.one in
      let whole = ends-on s _ front (t.key.bits.octets ++ f.second) keys
      (f.parts ∙ ap (λ (x : List ℕ). x ++ f.second) e ∙ append_assoc front t.key.bits.octets f.second) in
      subst (λ (k : KeyParts). IsSectionOf s k.bits.octets v.named.keyed.octets.following) (sym i.same)
      (record { front = whole.front; behind = f.second; parts = whole.parts; size = i.key_at.following })

  pub extensions-listed : SpellsEach SpellsExtension t.extensions v.named.keyed.extensions
  extensions-listed = subst (SpellsEach SpellsExtension t.extensions) (sym h.1.named.keyed.list_at)
      h.0.spelled.two.two.two.two.two.two.two.spelled.spelled.some.each

  pub list-ends : (front : List ℕ) × (s ≡ front ++ v.named.keyed.extensions)
  list-ends =
      let f = h.0.spelled.two.two.two.two.two.two in
      let a = ends-on s _ f.first f.second keys f.parts in
      let b = ends-contents _ true _ t.extensions s _ a f.two in
      let c = ends-contents sequence true _ t.extensions s _ b f.two.spelled in
      (c.front, c.parts ∙ ap (λ (x : List ℕ). c.front ++ x) (sym h.1.named.keyed.list_at))

abbrev record_of : ℕ → Bool → List ℕ → Period → List ℕ → KeyParts → List ExtensionParts → TbsParts
record_of n b i p s k xs =
    record { serial = n; algorithm = b; issuer = i; validity = p; subject = s; key = k; extensions = xs }

-- ---- signed data

module _ (c : List ℕ) (v : Parts) (x : SignedParts Bool) (h : IsSignedContents SpellsRpkiAlgorithm x c)
    (p : ArePartsIn x c h v) where
  pub data-stands : IsSectionOf c v.signed.octets.now v.signed.following
  data-stands =
      section-at c c x.signed (h.text ++ h.bits) v.signed (ends-all c)
      (h.parts ∙ append_assoc x.signed h.text h.bits) p.signed

  pub signature-stands : IsSectionOf c v.signature.octets.now v.signature.following
  signature-stands =
      let string = h.signature.string in
      let a = ends-on c c (x.signed ++ h.text) h.bits (ends-all c) h.parts in
      let b = ends-contents bit_string false IsBits _ c h.bits a string in
      let last = ends-on c _ (h.signature.unused ∷ []) x.value b string.spelled.contents in
      section-at c _ x.value [] v.signature last (sym (append-nil x.value)) p.signature

-- it is kept as it was read
pub signed-is : (x : SignedParts Bool) (d v : List ℕ) (b : Bool) → d ≡ x.signed → b ≡ x.algorithm → v ≡ x.value
    → parts_of d b v ≡ x
signed-is x d v b e f h = λ i. record { signed = e i; algorithm = f i; value = h i }

-- ---- a certificate

pub tbs-is : (t : TbsParts) (n : ℕ) (b : Bool) (i s : List ℕ) (p : Period) (k : KeyParts) (xs : List ExtensionParts)
    → n ≡ t.serial → b ≡ t.algorithm → i ≡ t.issuer → p ≡ t.validity → s ≡ t.subject → k ≡ t.key
    → xs ≡ t.extensions
    → record_of n b i p s k xs ≡ t
tbs-is t n b i s p k xs e f g h j l m = λ x.
    record { serial = e x; algorithm = f x; issuer = g x; validity = h x; subject = j x; key = l x; extensions = m x }

pub cert-is : (x : CertParts) (d : SignedParts Bool) (t : TbsParts) → d ≡ x.signed → t ≡ x.tbs → cert_parts d t ≡ x
cert-is x d t e f = λ i. record { signed = e i; tbs = f i }

pub well-formed : (x : CertParts) (d : SignedParts Bool) (t : TbsParts) → d ≡ x.signed → t ≡ x.tbs
    → SpellsTbs x.tbs x.signed.signed × (x.tbs.algorithm ≡ x.signed.algorithm)
    → SpellsTbs t d.signed × (t.algorithm ≡ d.algorithm)
well-formed x d t e f h =
    subst (λ (u : TbsParts). SpellsTbs u d.signed × (u.algorithm ≡ d.algorithm)) (sym f)
    (subst (λ (y : SignedParts Bool). SpellsTbs x.tbs y.signed × (x.tbs.algorithm ≡ y.algorithm)) (sym e) h)

abbrev PartsOf : List ℕ → Parts → SignedParts Bool → Type 0
PartsOf c v x = (h : IsSignedContents SpellsRpkiAlgorithm x c) × ArePartsIn x c h v

pub parts-of : (c : List ℕ) (v : CertView) (x : CertParts) → IsCertOf c v x → PartsOf c v.parts x.signed
parts-of c v x (s, g, h) =
    subst (λ (d : List ℕ). PartsOf d v.parts x.signed)
    (contents-same sequence true h.spelled.signed.contents c s h.spelled.signed.value g)
    (h.spelled.signed.spelled, h.parts)

pub tbs-of : (c d : List ℕ) (v : CertView) (x : CertParts) → IsCertOf c v x → d ≡ x.signed.signed
    → IsTbsAt d v.tbs x.tbs
tbs-of c d v x (s, g, h) is = subst (λ (p : List ℕ). IsTbsAt p v.tbs x.tbs) (sym is) (h.spelled.tbs, h.tbs)

pub same-of : (c : List ℕ) (v : CertView) (x : CertParts) → IsCertOf c v x
    → SpellsTbs x.tbs x.signed.signed × (x.tbs.algorithm ≡ x.signed.algorithm)
same-of c v x (s, g, h) = (h.spelled.tbs, h.spelled.same)
