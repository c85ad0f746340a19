-- What is wrong is no certificate.
use Rattle.std.proofs.Common.{◌≡◌, ◌≢◌, ◌∙◌, ◌<◌, ℕ, Bool, true, false, List, ◌++◌, length, refl, sym, ap, subst}
use Rattle.std.proofs.Common.{append_assoc}
use Rattle.std.specs.Prelude.{IsTrue}
use Rattle.std.proofs.lemmas.Bool.{false≢true}
use Rattle.rpki_der.specs.declared.error.DecodeError.TheVariants.{OutOfMemory}
use Rattle.rpki_der.specs.TagName.{sequence, bit_string}
use Rattle.rpki_der.specs.Reading.{Spells, Refuses}
use Rattle.rpki_der.specs.Values.{SpellsContents, SpellsLeaf}
use Rattle.rpki_der.specs.Leaves.{IsBits, bits_of}
use Rattle.rpki_der.specs.Members.{SpellsValue}
use Rattle.rpki_der.specs.Format.{Format}
use Rattle.rpki_der.proofs.PartsLaws.{first-of}
use Rattle.rpki.specs.SignedData.{SignedParts}
use Rattle.rpki.specs.ExtensionValue.{ExtensionParts}
use Rattle.rpki_cert.specs.declared.read.cert_part.CertPart.{CertPart}
use Rattle.rpki_cert.specs.declared.read.cert_error.CertError.{CertError}
use Rattle.rpki_cert.specs.Cert.{TbsParts, CertParts, are_unique, extensions_tag, AreExtensions}
use Rattle.rpki_cert.specs.Cert.{SpellsExtensions, AreFields, fields_of, SpellsTbs, SpellsCert}
use Rattle.rpki_cert.specs.CertFault.{IsFrontError, IsFrontTbsError}
use Rattle.rpki_cert.specs.View.{most_extensions, FirstWrong, IsListWrong, AreExtensionsWrong}
use Rattle.rpki_x509.specs.Signed.{SpellsUsed}
use Rattle.rpki_cert.specs.View.{AreFieldsWrong, IsTbsWrong, ArePartsWrong, AreBehindWrong, AreContentsWrong}
use Rattle.rpki_cert.specs.View.{IsCertErrorOf}
use Rattle.rpki_cert.specs.View.FirstWrong.{AtPart, Later}
use Rattle.rpki_cert.specs.View.WholeWrong.{NoFrame, InFrame}
use Rattle.rpki_cert.specs.View.IsListWrong.{NotListed, TooMany, Repeated, NoRoom}
use Rattle.rpki_cert.specs.View.AreBehindWrong.{Behind}
use Rattle.rpki_x509.specs.SignedParts.AreMalformed.{AtAlgorithm, AtSignature}
use Rattle.rpki_cert.specs.View.AreContentsWrong.{InParts, InSigned, Differ}
use Rattle.rpki_cert.proofs.OneLaws.{contents-same, each-same, contents-one, Contents, tbs-algorithm}

-- what is wrong with extensions that are well is their number; where allocation is possible, that it failed
pub record Exceeds (allocates : Bool) (xs : List ExtensionParts) (q : CertError) : Type 0 where
  pub many : most_extensions < length xs
  pub memory : allocates ≡ true → q.error ≡ OutOfMemory

module _ (allocates : Bool) (q : CertError) where
  -- ---- extensions

  more-of : (xs ys : List ExtensionParts) → ys ≡ xs → most_extensions < length ys
      → (allocates ≡ true → q.error ≡ OutOfMemory) → Exceeds allocates xs q
  more-of xs ys same many memory = record {
    many = subst (λ (zs : List ExtensionParts). most_extensions < length zs) same many;
    memory = memory;
  }

  list-wrong : (xs : List ExtensionParts) (s : List ℕ) → IsListWrong allocates s q → AreExtensions xs s
      → Exceeds allocates xs q
  list-wrong xs s (NotListed none part) h = absurd (none.0 xs h.some)
  list-wrong xs s (TooMany ys k other many part text) h =
      more-of xs ys (each-same ys xs s k.each h.some.each) many (λ z. absurd (false≢true (sym other ∙ z)))
  list-wrong xs s (Repeated ys k few twice part text) h = absurd (twice
      (subst (λ (zs : List ExtensionParts). IsTrue (are_unique zs)) (each-same xs ys s h.some.each k.each) h.unique))
  list-wrong xs s (NoRoom ys k is many part out) h =
      more-of xs ys (each-same ys xs s k.each h.some.each) many (λ z. out)

  extensions-wrong : (xs : List ExtensionParts) (s : List ℕ) → AreExtensionsWrong allocates s q
      → SpellsExtensions xs s → Exceeds allocates xs q
  extensions-wrong xs s (NoFrame none fault part) h = absurd (none h.contents h.value)
  extensions-wrong xs s (InFrame c k (NoFrame none fault part)) h =
      let same = contents-same extensions_tag true h.contents c s h.value k in
      absurd (none h.spelled.contents (subst (SpellsContents sequence true h.spelled.contents) same h.spelled.value))
  extensions-wrong xs s (InFrame c k (InFrame l m wrong)) h =
      let same = contents-same extensions_tag true h.contents c s h.value k in
      let list = contents-same sequence true h.spelled.contents l c
      (subst (SpellsContents sequence true h.spelled.contents) same h.spelled.value) m in
      list-wrong xs l wrong (subst (AreExtensions xs) list h.spelled.spelled)

  -- ---- the fields

  -- where a value begins the octets, what is wrong is wrong after it
  behind : {V : Type 0} (F : Format V) (part : CertPart) (L : List ℕ → CertError → Type 0) (s r : List ℕ) (v : V)
      → FirstWrong F part (λ u. L) s q → Spells F.spells s v r → L r q
  behind F part L s r v (AtPart none fault is) k = absurd (none v r k)
  behind F part L s r v (Later u m a l) k = subst (λ (z : List ℕ). L z q) (sym (a.only v r k).1) l

  fields-wrong : (t : TbsParts) (s : List ℕ) → AreFieldsWrong allocates s q → AreFields (fields_of t) s
      → Exceeds allocates t.extensions q
  fields-wrong t s w h =
      let serial = behind _ _ _ _ _ tt w (first-of h) in
      let algorithm = behind _ _ _ _ _ t.serial serial (first-of h.two) in
      let issuer = behind _ _ _ _ _ t.algorithm algorithm (first-of h.two.two) in
      let validity = behind _ _ _ _ _ t.issuer issuer (first-of h.two.two.two) in
      let subject = behind _ _ _ _ _ t.validity validity (first-of h.two.two.two.two) in
      let key = behind _ _ _ _ _ t.subject subject (first-of h.two.two.two.two.two) in
      let extensions = behind _ _ _ _ _ t.key key (first-of h.two.two.two.two.two.two) in
      extensions-wrong t.extensions _ extensions h.two.two.two.two.two.two.two

  tbs-wrong : (t : TbsParts) (d : List ℕ) → IsTbsWrong allocates d q → SpellsTbs t d → Exceeds allocates t.extensions q
  tbs-wrong t d (NoFrame none fault part) h = absurd (none h.contents h.value)
  tbs-wrong t d (InFrame c k w) h = fields-wrong t c w
      (subst (AreFields (fields_of t)) (contents-same sequence true h.contents c d h.value k) h.spelled)

  -- ---- signed data

  abbrev Used : SignedParts Bool → List ℕ → Type 0
  Used x c = (h : Contents x c) × (h.signature.unused ≡ 0)

  -- what is malformed isn't an algorithm and a signature
  malformed : (x : SignedParts Bool) (c : List ℕ) (h : Contents x c) → AreBehindWrong (h.text ++ h.bits) q
      → SpellsUsed x.value h.bits → ⊥
  malformed x c h (Behind p (AtAlgorithm none fault part) is) used =
      none x.algorithm h.bits (record { front = h.text; parts = refl; spelled = h.named })
  malformed x c h (Behind p (AtSignature b r a none fault part) is) used =
      let e = a.only x.algorithm h.bits (record { front = h.text; parts = refl; spelled = h.named }) in
      none x.value (subst (SpellsUsed x.value) e.1 used)

  parts-wrong : (x : SignedParts Bool) (c : List ℕ) → ArePartsWrong c q → Used x c → ⊥
  parts-wrong x c w (h, used) =
      let value : Spells SpellsValue c x.signed (h.text ++ h.bits) =
      record {
        front = x.signed;
        parts = h.parts ∙ append_assoc x.signed h.text h.bits;
        spelled =
            record { same = refl; value = h.one };
      } in
      malformed x c h (behind _ _ _ _ _ x.signed w value) (subst
      (λ (u : ℕ). SpellsLeaf bit_string false IsBits (bits_of u x.value) h.bits) used h.signature.string)

  -- ---- a certificate

  pub contents-wrong : (c s : List ℕ) → SpellsContents sequence true c s → AreContentsWrong allocates c q
      → (x : CertParts) → SpellsCert x s → Exceeds allocates x.tbs.extensions q
  contents-wrong c s k w x h = go w (subst (Used x.signed) (contents-same sequence true h.signed.contents c s
      h.signed.value k) (h.signed.spelled, h.used)) where
        go : AreContentsWrong allocates c q → Used x.signed c → Exceeds allocates x.tbs.extensions q
        go (InParts wrong) u = absurd (parts-wrong x.signed c wrong u)
        go (InSigned y g used wrong) u =
            let same = contents-one y x.signed c g u.0 in
            tbs-wrong x.tbs y.signed wrong
            (subst (SpellsTbs x.tbs) (sym (ap (λ (z : SignedParts Bool). z.signed) same)) h.tbs)
        go (Differ y t g used tbs other part text) u =
            let same = contents-one y x.signed c g u.0 in
            absurd (other (tbs-algorithm t x.tbs y.signed tbs
            (subst (SpellsTbs x.tbs) (sym (ap (λ (z : SignedParts Bool). z.signed) same)) h.tbs) ∙ h.same
            ∙ sym (ap (λ (z : SignedParts Bool). z.algorithm) same)))

  -- no certificate of few extensions is wrong
  pub cert-wrong : (s : List ℕ) → IsCertErrorOf allocates s q → (x : CertParts) → SpellsCert x s
      → Exceeds allocates x.tbs.extensions q
  cert-wrong s (NoFrame none fault part) x h = absurd (none h.signed.contents h.signed.value)
  cert-wrong s (InFrame c k w) x h = contents-wrong c s k w x h

-- no certificate begins what is wrong from the left, but where allocation fails
pub front-wrong : (s : List ℕ) (q : CertError) → q.error ≢ OutOfMemory → IsFrontError s q → Refuses SpellsCert s
front-wrong s q other (AtPart none fault part) x r h =
    none h.spelled.signed.contents r
    (record { front = h.front; parts = h.parts; spelled = h.spelled.signed.value })
front-wrong s q other (Later c m a w) x r h =
    let e = a.only h.spelled.signed.contents r
    (record { front = h.front; parts = h.parts; spelled = h.spelled.signed.value }) in
    other ((contents-wrong true q c h.front (subst (λ (d : List ℕ). SpellsContents sequence true d h.front) e.0
    h.spelled.signed.value) w x h.spelled).memory refl)

pub front-tbs-wrong : (s : List ℕ) (q : CertError) → q.error ≢ OutOfMemory → IsFrontTbsError s q → Refuses SpellsTbs s
front-tbs-wrong s q other (AtPart none fault part) t r h =
    none h.spelled.contents r (record { front = h.front; parts = h.parts; spelled = h.spelled.value })
front-tbs-wrong s q other (Later c m a w) t r h =
    let e = a.only h.spelled.contents r
    (record { front = h.front; parts = h.parts; spelled = h.spelled.value }) in
    other ((fields-wrong true q t c w (subst (AreFields (fields_of t)) e.0 h.spelled.spelled)).memory refl)
