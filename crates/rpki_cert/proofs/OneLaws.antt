-- What is spelled has one value.
use Rattle.std.proofs.Common.{◌≡◌, ◌∙◌, ℕ, Bool, true, false, List, [], ◌∷◌, ◌++◌, length, drop, refl, sym, ap}
use Rattle.std.proofs.Common.{subst, arith, append_assoc}
use Rattle.std.proofs.lemmas.List.{drop_at, append-nil}
use Rattle.rpki_der.specs.TagName.{TagName, sequence, integer, oid, null, bit_string}
use Rattle.rpki_der.specs.Reading.{Accepts}
use Rattle.rpki_der.specs.Values.{SpellsContents, SpellsLeaf}
use Rattle.rpki_der.specs.Leaves.{IsOnly, IsNull, IsBits, Bits, bits_of}
use Rattle.rpki_der.specs.Parts.{Then}
use Rattle.rpki_der.specs.Each.{SpellsEach}
use Rattle.rpki_der.proofs.EncodeLaws.{tlv-same-then, tlv-same}
use Rattle.rpki_der.proofs.MembersLaws.{one-beginning}
use Rattle.rpki_der.proofs.LeafValueLaws.{leaf-shorter}
use Rattle.rpki_der.proofs.LeavesLaws.{bits-one}
use Rattle.rpki_der.proofs.PartsLaws.{first-of, pair-is}
use Rattle.rpki.specs.Oids.{sha256_with_rsa_encryption}
use Rattle.rpki.specs.Algorithm.{IsParameters, IsIdentified}
use Rattle.rpki.specs.SignedData.{SignedParts, parts_of, IsSignedContents}
use Rattle.rpki.specs.ExtensionValue.{ExtensionParts, SpellsExtension, IsExtensionContents}
use Rattle.rpki.proofs.ExtensionLaws.{one-contents}
use Rattle.rpki_cert.specs.Cert.{TbsParts, CertParts, cert_parts, version_tag, SpellsTwo, extensions_tag, Fields}
use Rattle.rpki_cert.specs.Cert.{SpellsExtensions}
use Rattle.rpki_x509.specs.Signed.{SpellsRpkiAlgorithm}
use Rattle.rpki_cert.specs.Cert.{AreFields, fields_of, SpellsTbs, SpellsCert}
use Rattle.rpki_cert.specs.View.{HasOne}

-- ---- parts

-- a part of one reading, and others that have one value
pub has-then : {A B : Type 0} (G : A → List ℕ → Type 0) (H : B → List ℕ → Type 0) (s m : List ℕ) (a : A)
    → Accepts G s a m → HasOne H m → HasOne (Then G H) s
has-then G H s m a one two v w h k =
    let e = one.only v.0 h.second (first-of h) in
    let f = one.only w.0 k.second (first-of k) in
    pair-is v w.0 w.1 (e.0 ∙ sym f.0)
    (two v.1 w.1 (subst (H v.1) e.1 h.two) (subst (H w.1) f.1 k.two))

-- values of one tag and form that begin the same octets have the same contents, and the same follows them
pub leaf-first : {V W : Type 0} (t : TagName) (f : Bool) (C : V → List ℕ → Type 0) (D : W → List ℕ → Type 0) (v : V)
    (w : W)
    (a b x y : List ℕ) (h : SpellsLeaf t f C v a) (k : SpellsLeaf t f D w b) → a ++ x ≡ b ++ y
    → (h.contents ≡ k.contents) × (x ≡ y)
leaf-first t f C D v w a b x y h k e =
    tlv-same-then t f h.contents k.contents x y h.value.fits k.value.fits
    (ap (λ (z : List ℕ). z ++ x) (sym h.value.octets) ∙ e ∙ ap (λ (z : List ℕ). z ++ y) k.value.octets)

pub contents-same : (t : TagName) (f : Bool) (c d s : List ℕ) → SpellsContents t f c s → SpellsContents t f d s → c ≡ d
contents-same t f c d s h k = tlv-same t f c d h.fits k.fits (sym h.octets ∙ k.octets)

-- ---- extensions

pub each-same : (xs ys : List ExtensionParts) (s : List ℕ) → SpellsEach SpellsExtension xs s
    → SpellsEach SpellsExtension ys s → xs ≡ ys
each-same [] [] s h k = refl
each-same [] (y ∷ ys) s h (q, k, more) = absurd
    (omega (arith, ap length h, leaf-shorter sequence true IsExtensionContents s y q k))
each-same (x ∷ xs) [] s (r, h, more) k = absurd
    (omega (arith, ap length k, leaf-shorter sequence true IsExtensionContents s x r h))
each-same (x ∷ xs) (y ∷ ys) s (r, h, more) (q, k, rest) =
    let e = leaf-first sequence true IsExtensionContents IsExtensionContents x y h.front k.front r q h.spelled k.spelled
    (sym h.parts ∙ k.parts) in
    let one : x ≡ y = sym (one-contents x y h.spelled.contents h.spelled.spelled
    (subst (IsExtensionContents y) (sym e.0) k.spelled.spelled)) in
    let tail = each-same xs ys r more (subst (SpellsEach SpellsExtension ys) (sym e.1) rest) in
    ap (λ (z : ExtensionParts). z ∷ xs) one ∙ ap (λ (zs : List ExtensionParts). y ∷ zs) tail

pub extensions-one : (s : List ℕ) → HasOne SpellsExtensions s
extensions-one s xs ys h k =
    let outer = contents-same extensions_tag true h.contents k.contents s h.value k.value in
    let inner = contents-same sequence true h.spelled.contents k.spelled.contents h.contents h.spelled.value
    (subst (SpellsContents sequence true k.spelled.contents) (sym outer) k.spelled.value) in
    each-same xs ys h.spelled.contents h.spelled.spelled.some.each
    (subst (SpellsEach SpellsExtension ys) (sym inner) k.spelled.spelled.some.each)

-- ---- TBSCertificate

abbrev tbs_of : Fields → TbsParts
tbs_of f =
    record {
      serial = f.1.0;
      algorithm = f.1.1.0;
      issuer = f.1.1.1.0;
      validity = f.1.1.1.1.0;
      subject = f.1.1.1.1.1.0;
      key = f.1.1.1.1.1.1.0;
      extensions = f.1.1.1.1.1.1.1;
    }

pub tbs-one : (s c : List ℕ) → SpellsContents sequence true c s → HasOne AreFields c → HasOne SpellsTbs s
tbs-one s c g one t u h k =
    ap tbs_of (one (fields_of t) (fields_of u)
    (subst (AreFields (fields_of t)) (contents-same sequence true h.contents c s h.value g) h.spelled)
    (subst (AreFields (fields_of u)) (contents-same sequence true k.contents c s k.value g) k.spelled))

-- ---- signed data

parameters-same : (b d : Bool) (p : List ℕ) → IsParameters b p → IsParameters d p → b ≡ d
parameters-same true true p h k = refl
parameters-same false false p h k = refl
parameters-same true false p h k = absurd (omega (
  arith,
  ap length k,
  leaf-shorter null false IsNull p tt []
      (record { front = p; parts = sym (append-nil p); spelled = h }),
))
parameters-same false true p h k = absurd (omega (
  arith,
  ap length h,
  leaf-shorter null false IsNull p tt []
      (record { front = p; parts = sym (append-nil p); spelled = k }),
))

identified-same : (o : List ℕ) (b d : Bool) (c : List ℕ) → IsIdentified o b c → IsIdentified o d c → b ≡ d
identified-same o b d c h k =
    let e = leaf-first oid false (IsOnly o) (IsOnly o) tt tt h.first k.first h.second k.second h.identifier k.identifier
    (sym h.parts ∙ k.parts) in
    parameters-same b d h.second h.parameters (subst (IsParameters d) (sym e.1) k.parameters)

algorithm-same : (b d : Bool) (s t x y : List ℕ) → SpellsRpkiAlgorithm b s → SpellsRpkiAlgorithm d t → s ++ x ≡ t ++ y
    → b ≡ d
algorithm-same b d s t x y h k e =
    let o = sha256_with_rsa_encryption in
    let same = leaf-first sequence true (IsIdentified o) (IsIdentified o) b d s t x y h k e in
    identified-same o b d h.contents h.spelled (subst (IsIdentified o d) (sym same.0) k.spelled)

-- the algorithm in what is signed
pub tbs-algorithm : (t u : TbsParts) (d : List ℕ) → SpellsTbs t d → SpellsTbs u d → t.algorithm ≡ u.algorithm
tbs-algorithm t u d h k =
    let whole = contents-same sequence true h.contents k.contents d h.value k.value in
    let f = h.spelled in
    let g = k.spelled in
    let version = leaf-first version_tag true SpellsTwo SpellsTwo tt tt f.first g.first f.second g.second f.one g.one
    (sym f.parts ∙ whole ∙ g.parts) in
    let serial = leaf-first integer false _ _ t.serial u.serial f.two.first g.two.first f.two.second g.two.second
    f.two.one g.two.one (sym f.two.parts ∙ version.1 ∙ g.two.parts) in
    algorithm-same t.algorithm u.algorithm f.two.two.first g.two.two.first f.two.two.second g.two.two.second
    f.two.two.one g.two.two.one (sym f.two.two.parts ∙ serial.1 ∙ g.two.two.parts)

abbrev pub Contents : SignedParts Bool → List ℕ → Type 0
Contents = IsSignedContents SpellsRpkiAlgorithm

pub contents-one : (x y : SignedParts Bool) (c : List ℕ) → Contents x c → Contents y c → x ≡ y
contents-one x y c h k =
    let o = sha256_with_rsa_encryption in
    let first : x.signed ++ (h.text ++ h.bits) ≡ y.signed ++ (k.text ++ k.bits) =
    sym (append_assoc x.signed h.text h.bits) ∙ sym h.parts ∙ k.parts ∙ append_assoc y.signed k.text k.bits in
    let same = (one-beginning x.signed y.signed (h.text ++ h.bits) (k.text ++ k.bits) h.one k.one first).0 in
    let rest : h.text ++ h.bits ≡ k.text ++ k.bits =
    sym (drop_at x.signed (h.text ++ h.bits) (length x.signed) refl) ∙ ap (drop (length x.signed)) first
    ∙ drop_at y.signed (k.text ++ k.bits) (length x.signed) (sym (ap length same)) in
    let named = leaf-first sequence true (IsIdentified o) (IsIdentified o) x.algorithm y.algorithm h.text k.text h.bits
    k.bits h.named k.named rest in
    let algorithm : x.algorithm ≡ y.algorithm =
    identified-same o x.algorithm y.algorithm h.named.contents h.named.spelled
    (subst (IsIdentified o y.algorithm) (sym named.0) k.named.spelled) in
    let ends = contents-same bit_string false h.signature.string.contents k.signature.string.contents h.bits
    h.signature.string.value
    (subst (SpellsContents bit_string false k.signature.string.contents) (sym named.1) k.signature.string.value) in
    let bits = bits-one (bits_of k.signature.unused y.value) h.signature.string.contents
    (bits_of h.signature.unused x.value)
    (subst (IsBits (bits_of k.signature.unused y.value)) (sym ends) k.signature.string.spelled)
    h.signature.string.spelled in
    let value : x.value ≡ y.value = ap (λ (b : Bits). b.octets) bits in
    ap (λ (d : List ℕ). parts_of d x.algorithm x.value) same
    ∙ ap (λ (b : Bool). parts_of y.signed b x.value) algorithm
    ∙ ap (λ (v : List ℕ). parts_of y.signed y.algorithm v) value

-- ---- a certificate

pub cert-one : (s c d : List ℕ) (x : SignedParts Bool) → SpellsContents sequence true c s → Contents x c → d ≡ x.signed
    → HasOne SpellsTbs d → HasOne SpellsCert s
cert-one s c d x g h is one v w m n =
    let in-c : (y : CertParts) → SpellsCert y s → Contents y.signed c = λ y k. subst (Contents y.signed)
    (contents-same sequence true k.signed.contents c s k.signed.value g) k.signed.spelled in
    let of-d : (y : CertParts) (k : SpellsCert y s) → SpellsTbs y.tbs d = λ y k. subst (SpellsTbs y.tbs)
    (sym (is ∙ ap (λ (z : SignedParts Bool). z.signed) (contents-one x y.signed c h (in-c y k)))) k.tbs in
    ap (λ (z : SignedParts Bool). cert_parts z v.tbs) (contents-one v.signed w.signed c (in-c v m) (in-c w n))
    ∙ ap (λ (t : TbsParts). cert_parts w.signed t) (one v.tbs w.tbs (of-d v m) (of-d w n))
