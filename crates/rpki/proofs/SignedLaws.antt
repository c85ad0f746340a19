-- Signed data that is written, and inputs of one value.
use Rattle.std.proofs.Common.{◌≡◌, ◌↔◌, ℕ, ◌+◌, ◌<◌, ◌^◌, true, false, List, ◌∷◌, ◌++◌, length, refl, sym, ap, subst}
use Rattle.std.proofs.Common.{◌∙◌, arith, append_assoc, length-append}
use Rattle.std.proofs.lemmas.List.{append_cancel_left}
use Rattle.rpki_der.specs.Prelude.{IsTag, sequence, bit_string, tlv, AreBits, IsBits, bits_of, bits_contents, IsValue}
use Rattle.rpki_der.specs.Prelude.{sequence_legal}
use Rattle.rpki_der.proofs.MembersLaws.{one-beginning}
use Rattle.rpki_der.proofs.EncodeLaws.{leaf-legal, tlv-same, tlv-same-one, tlv-at-least, tlv-front, bits-spelled}
use Rattle.rpki.specs.SignedData.{SignedParts, parts_of, IsSignedContents, SpellsSigned, signature_octets}
use Rattle.rpki.specs.SignedData.{signed_octets, written_contents, written_signed, normal_parts, DifferInCount}

-- values that two equal lists begin with are equal, and the same follows
pub value-first : (a b x y : List ℕ) → IsValue a → IsValue b → a ++ x ≡ b ++ y → (a ≡ b) × (x ≡ y)
value-first a b x y v w e =
    let one = (one-beginning a b x y v w e).0 in
    (one, append_cancel_left a x y (e ∙ ap (λ (p : List ℕ). p ++ y) (sym one)))

-- a signature within contents whose length can be announced
signature-short : (d text value : List ℕ) (unused : ℕ) → length (d ++ text ++ signature_octets unused value) < 2 ^ 32
    → length (bits_contents (bits_of unused value)) < 2 ^ 32
signature-short d text value unused short =
    omega (
      arith,
      length-append (d ++ text) (signature_octets unused value),
      tlv-at-least bit_string false
          (bits_contents (bits_of unused value)),
    )

count-same : (u w : ℕ) (v : List ℕ) → bits_contents (bits_of u v) ≡ bits_contents (bits_of w v) → u ≡ w
count-same u w v e = cc

-- ---- the octets that an input of a value is

pub record Spelled {A : Type 0} (spells : A → List ℕ → Type 0) (x : SignedParts A) (octets : List ℕ) : Type 0 where
  pub text : List ℕ
  pub unused : ℕ
  pub named : spells x.algorithm text
  pub is : octets ≡ signed_octets x.signed text unused x.value
  pub short : length (x.signed ++ text ++ signature_octets unused x.value) < 2 ^ 32

pub spelled-of : {A : Type 0} (spells : A → List ℕ → Type 0) (x : SignedParts A) (octets : List ℕ)
    → SpellsSigned spells x octets → Spelled spells x octets
spelled-of spells x octets h =
    let i = h.spelled in
    let bits : i.bits ≡ signature_octets i.signature.unused x.value =
    i.signature.string.value.octets ∙ ap (λ (c : List ℕ). tlv bit_string false c) i.signature.string.spelled.contents in
    let inside : h.contents ≡ x.signed ++ i.text ++ signature_octets i.signature.unused x.value =
    i.parts ∙ ap (λ (p : List ℕ). (x.signed ++ i.text) ++ p) bits in
    record {
      text = i.text;
      unused = i.signature.unused;
      named = i.named;
      is = h.value.octets ∙ ap (λ (c : List ℕ). tlv sequence true c) inside;
      short = subst (λ (c : List ℕ). length c < 2 ^ 32) inside h.value.fits;
    }

-- ---- what is written of it

pub again-iff : {A : Type 0} (spells : A → List ℕ → Type 0) (written : A → List ℕ) (x : SignedParts A)
    (text octets : List ℕ) (unused : ℕ)
    → IsValue x.signed → IsValue text → IsValue (written x.algorithm) → SpellsSigned spells x octets
    → octets ≡ signed_octets x.signed text unused x.value
    → (written_signed written x ≡ octets) ↔ ((text ≡ written x.algorithm) × (unused ≡ 0))
again-iff spells written x text octets unused hd ht hw h is =
    let d = x.signed in let w = written x.algorithm in let v = x.value in
    let zero : List ℕ = signature_octets 0 v in let bits : List ℕ = signature_octets unused v in
    let k = spelled-of spells x octets h in
    let same : d ++ text ++ bits ≡ d ++ k.text ++ signature_octets k.unused v = tlv-same-one sequence true
    (d ++ text ++ bits) (d ++ k.text ++ signature_octets k.unused v) k.short (sym is ∙ k.is) in
    let short : length (d ++ text ++ bits) < 2 ^ 32 = subst (λ (c : List ℕ). length c < 2 ^ 32) (sym same) k.short in (
      λ e.
          let c : (d ++ w) ++ zero ≡ (d ++ text) ++ bits = tlv-same-one sequence true (d ++ w ++ zero)
          (d ++ text ++ bits) short (e ∙ is) in
          let r = (value-first d d (w ++ zero) (text ++ bits) hd hd
          (sym (append_assoc d w zero) ∙ c ∙ append_assoc d text bits)).1 in
          let q = value-first w text zero bits hw ht r in
          let counts = tlv-same-one bit_string false (bits_contents (bits_of 0 v)) (bits_contents (bits_of unused v))
          (signature-short d text v unused short) q.1 in
          (sym q.0, sym (count-same 0 unused v counts)),
      λ e. ap (λ (t : List ℕ). signed_octets d t 0 v) (sym e.0) ∙ ap (λ (u : ℕ). signed_octets d text u v) (sym e.1) ∙
          sym is,
    )

-- what is written stands for the normal form
pub reads-back : {A : Type 0} (spells : A → List ℕ → Type 0) (written : A → List ℕ) (norm : A → A) (x : SignedParts A)
    → IsValue x.signed
    → spells (norm x.algorithm) (written x.algorithm) → length (written_contents written x) < 2 ^ 32
    → SpellsSigned spells (normal_parts norm x) (written_signed written x)
reads-back spells written norm x hd hs short =
    let bits = bits_of 0 x.value in
    let legal : AreBits bits = record { few = omega arith; none = λ e. refl; zero = omega arith } in
    let tag : IsTag bit_string = record { below = omega arith; named = λ u. omega arith } in
    leaf-legal sequence true (IsSignedContents spells) (normal_parts norm x) (written_contents written x) sequence_legal
    short (record {
      text = written x.algorithm;
      bits = signature_octets 0 x.value;
      parts = refl;
      one = hd;
      named = hs;
      signature = record {
        unused = 0;
        string = leaf-legal bit_string false IsBits bits (bits_contents bits) tag
            (signature-short x.signed (written x.algorithm) x.value 0 short) (bits-spelled bits legal);
      };
    })

value-same : (v w : List ℕ) → bits_contents (bits_of 0 v) ≡ bits_contents (bits_of 0 w) → v ≡ w
value-same v w e = cc

same-parts : {A : Type 0} (a b : A) (d e v w : List ℕ) → d ≡ e → a ≡ b → v ≡ w → parts_of d a v ≡ parts_of e b w
same-parts a b d e v w p q r = rw (p, q, r) refl

-- two values are written as the same octets exactly where their normal forms are equal
pub same-iff : {A : Type 0} (spells : A → List ℕ → Type 0) (written : A → List ℕ) (norm : A → A) (x y : SignedParts A)
    → ((a : A) → spells (norm a) (written a)) → ((a b : A) (s : List ℕ) → spells a s → spells b s → a ≡ b)
    → ((a : A) (s : List ℕ) → spells a s → IsValue s) → ((a : A) → written (norm a) ≡ written a)
    → IsValue x.signed → IsValue y.signed → length (written_contents written x) < 2 ^ 32
    → length (written_contents written y) < 2 ^ 32
    → (written_signed written x ≡ written_signed written y) ↔ (normal_parts norm x ≡ normal_parts norm y)
same-iff {A} spells written norm x y spelled one value stays hx hy short short' =
    let wx = written x.algorithm in let wy = written y.algorithm in
    let zx : List ℕ = signature_octets 0 x.value in let zy : List ℕ = signature_octets 0 y.value in (
      λ e.
          let c : (x.signed ++ wx) ++ zx ≡ (y.signed ++ wy) ++ zy = tlv-same sequence true (written_contents written x)
          (written_contents written y) short short' e in
          let r = value-first x.signed y.signed (wx ++ zx) (wy ++ zy) hx hy
          (sym (append_assoc x.signed wx zx) ∙ c ∙ append_assoc y.signed wy zy) in
          let hw : IsValue wx = value (norm x.algorithm) wx (spelled x.algorithm) in
          let hw' : IsValue wy = value (norm y.algorithm) wy (spelled y.algorithm) in
          let q = value-first wx wy zx zy hw hw' r.1 in
          let values = tlv-same bit_string false (bits_contents (bits_of 0 x.value)) (bits_contents (bits_of 0 y.value))
          (signature-short x.signed wx x.value 0 short) (signature-short y.signed wy y.value 0 short') q.1 in
          let norms : norm x.algorithm ≡ norm y.algorithm = one (norm x.algorithm) (norm y.algorithm) wy
          (subst (λ (s : List ℕ). spells (norm x.algorithm) s) q.0 (spelled x.algorithm)) (spelled y.algorithm) in
          same-parts (norm x.algorithm) (norm y.algorithm) x.signed y.signed x.value y.value r.0 norms
          (value-same x.value y.value values),
      λ e.
          let signed : x.signed ≡ y.signed = ap (λ (p : SignedParts A). p.signed) e in
          let norms : norm x.algorithm ≡ norm y.algorithm = ap (λ (p : SignedParts A). p.algorithm) e in
          let values : x.value ≡ y.value = ap (λ (p : SignedParts A). p.value) e in
          let texts : wx ≡ wy = sym (stays x.algorithm) ∙ ap written norms ∙ stays y.algorithm in
          ap (λ (d : List ℕ). signed_octets d wx 0 x.value) signed ∙ ap
          (λ (t : List ℕ). signed_octets y.signed t 0 x.value) texts ∙ ap
          (λ (v : List ℕ). signed_octets y.signed wy 0 v) values,
    )

-- ---- inputs of one value, whose algorithm has one spelling

regroup : (a b c e : List ℕ) → a ++ (b ++ (c ++ e)) ≡ (a ++ (b ++ c)) ++ e
regroup a b c e = simp append_assoc

pub differ-in-count : {A : Type 0} (spells : A → List ℕ → Type 0) (x : SignedParts A) (a b : List ℕ)
    → SpellsSigned spells x a → SpellsSigned spells x b
    → ((s t : List ℕ) → spells x.algorithm s → spells x.algorithm t → s ≡ t) → DifferInCount x.value a b
differ-in-count spells x a b p q one =
    let f = spelled-of spells x a p in let g = spelled-of spells x b q in
    let d = x.signed in let v = x.value in let s = f.text in
    let inner = tlv-front bit_string false (length v + 1) in
    let bits : (u : ℕ) → signature_octets u v ≡ inner.0 ++ u ∷ v = λ u. inner.1 (u ∷ v) (omega arith) in
    let outer = tlv-front sequence true (length (d ++ s) + (length (inner.0) + (length v + 1))) in
    let size : (u : ℕ)
    → length (d ++ s ++ signature_octets u v) ≡ length (d ++ s) + (length (inner.0) + (length v + 1)) = λ u.
    omega (arith, length-append (d ++ s) (signature_octets u v), ap length (bits u), length-append (inner.0) (u ∷ v)) in
    let spread : (u : ℕ) → signed_octets d s u v ≡ (outer.0 ++ ((d ++ s) ++ inner.0)) ++ u ∷ v = λ u.
    outer.1 (d ++ s ++ signature_octets u v) (size u) ∙ ap (λ (w : List ℕ). outer.0 ++ ((d ++ s) ++ w)) (bits u) ∙
    regroup (outer.0) (d ++ s) (inner.0) (u ∷ v) in
    record {
      front = outer.0 ++ ((d ++ s) ++ inner.0);
      first = f.unused;
      second = g.unused;
      one = f.is ∙ spread f.unused;
      other = g.is ∙ ap (λ (t : List ℕ). signed_octets d t g.unused v) (one g.text s g.named f.named) ∙ spread g.unused;
    }
