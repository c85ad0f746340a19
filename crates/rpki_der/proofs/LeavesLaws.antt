-- A leaf reader over the reader of contents.
use Rattle.std.proofs.Common.{true, false, ◌≡◌, append_assoc, ℕ, ◌<◌, ◌≤◌, ◌-◌, length, get_or, take, drop, arith, Bool}
use Rattle.std.proofs.Common.{List, ◌∷◌, ◌++◌, refl, sym, ap, subst, ◌∙◌}
use Rattle.std.proofs.lemmas.List.{take_rest}
use Rattle.std.proofs.lemmas.Slice.{first_rest}
use Rattle.rpki_der.specs.declared.error.DecodeError.{DecodeError}
use Rattle.rpki_der.specs.declared.error.DecodeError.TheVariants.{Truncated, BadTag, BadLength, Unexpected, Content}
use Rattle.rpki_der.specs.declared.error.DecodeError.TheVariants.{Trailing, OutOfMemory}
use Rattle.rpki_der.specs.declared.error.ContentError.{ContentError}
use denote.Bor.{Bor}
use Rattle.rpki_der.specs.ErrorText.{content_error}
use Rattle.rpki_der.specs.TagName.{TagName}
use Rattle.rpki_der.specs.Leaves.{Bits, AreBits, IsBits, bits_of, boolean_contents}
use Rattle.rpki_der.specs.Reading.{Spells, Accepts, Refusal, OrMemoryWhere}
use Rattle.rpki_der.specs.Values.{SpellsContents, SpellsLeaf, HasTag, IsContentsFault, IsLeafFault}
use Rattle.rpki_der.specs.Header.{identifier_octets, length_octets}
use Rattle.rpki_der.proofs.ReadingLaws.{UnlessMemory-weaker, Refusal-weaker, or-memory-kind}

-- a leaf is a value
pub leaf-value : {V : Type 0} (t : TagName) (f : Bool) (C : V → List ℕ → Type 0) (s : List ℕ) (v : V) (r : List ℕ)
    → Spells (SpellsLeaf t f C) s v r → (c : List ℕ) × Spells (SpellsContents t f) s c r × C v c
leaf-value t f C s v r h =
    (h.spelled.contents, record { front = h.front; parts = h.parts; spelled = h.spelled.value }, h.spelled.spelled)

pub leaf-kind : {V : Type 0} (t : TagName) (f : Bool) (C : V → List ℕ → Type 0) (s : List ℕ) (e : DecodeError)
    → IsContentsFault t f s e → IsLeafFault t f C s e
leaf-kind t f C s Truncated h = h
leaf-kind t f C s BadTag h = h
leaf-kind t f C s BadLength h = h
leaf-kind t f C s Unexpected h = h
leaf-kind t f C s (Content x) h = absurd h
leaf-kind t f C s Trailing h = h
leaf-kind t f C s OutOfMemory h = h

-- no value of the tag and form
pub leaf-refused : {V : Type 0} (t : TagName) (f : Bool) (C : V → List ℕ → Type 0) (s q r : List ℕ) (e : DecodeError)
    → r ≡ s
    → Refusal (SpellsContents t f) (IsContentsFault t f) s q e → Refusal (SpellsLeaf t f C) (IsLeafFault t f C) s r e
leaf-refused t f C s q r e same h = record {
  unchanged = same;
  refuses = (Refusal-weaker {H = SpellsLeaf t f C} {L = IsLeafFault t f C}
      (λ none v p l. let k = leaf-value t f C s v p l in none k.0 p k.1) (leaf-kind t f C s e) h).refuses;
  kind = leaf-kind t f C s e h.kind;
}

-- the same where a value's contents are shared before they are validated
pub shared-refused : {V : Type 0} (P : List ℕ → Type 0) (t : TagName) (f : Bool) (C : V → List ℕ → Type 0)
    (s q r : List ℕ) (e : DecodeError) → r ≡ s
    → Refusal (SpellsContents t f) (OrMemoryWhere P (IsContentsFault t f)) s q e
    → Refusal (SpellsLeaf t f C) (OrMemoryWhere P (IsLeafFault t f C)) s r e
shared-refused P t f C s q r e same h = record {
  unchanged = same;
  refuses = UnlessMemory-weaker e (λ none v p l. let k = leaf-value t f C s v p l in none k.0 p k.1) h.refuses;
  kind = or-memory-kind P (IsContentsFault t f) (IsLeafFault t f C) s e (leaf-kind t f C s) h.kind;
}

-- contents that spell a value, and no other
pub leaf-accepted : {V : Type 0} (t : TagName) (f : Bool) (C : V → List ℕ → Type 0) (s c r : List ℕ) (v : V)
    → Accepts (SpellsContents t f) s c r → C v c → ((w : V) → C w c → w ≡ v) → Accepts (SpellsLeaf t f C) s v r
leaf-accepted {V} t f C s c r v a is one = record {
  spells = record {
    front = a.spells.front;
    parts = a.spells.parts;
    spelled = record
        { contents = c; value = a.spells.spelled; spelled = is };
  };
  only = λ w q h.
      let k = leaf-value t f C s w q h in
      let e = a.only k.0 q k.1 in
      (one w (subst (λ (d : List ℕ). C w d) e.0 k.2), e.1);
}

-- contents that spell nothing
pub leaf-bad : {V : Type 0} (t : TagName) (f : Bool) (C : V → List ℕ → Type 0) (s c q r : List ℕ) (x : ContentError)
    → r ≡ s
    → Accepts (SpellsContents t f) s c q → ((v : V) → C v c → ⊥)
    → Refusal (SpellsLeaf t f C) (IsLeafFault t f C) s r (Content x)
leaf-bad {V} t f C s c q r x same a none = record {
  unchanged = same;
  refuses = λ v p h.
      let k = leaf-value t f C s v p h in
      let e = a.only k.0 p k.1 in
      none v (subst (λ (d : List ℕ). C v d) e.0 k.2);
  kind = (c, q, a.spells, none);
}

-- the same with an error of this text
pub leaf-malformed : {V : Type 0} (t : TagName) (f : Bool) (C : V → List ℕ → Type 0) (s c q r : List ℕ)
    (e : DecodeError) (text : Bor (List ℕ)) → e ≡ content_error text → r ≡ s
    → Accepts (SpellsContents t f) s c q → ((v : V) → C v c → ⊥) → Refusal (SpellsLeaf t f C) (IsLeafFault t f C) s r e
leaf-malformed t f C s c q r e text is same a none = rw is (leaf-bad t f C s c q r _ same a none)

-- ---- bit strings

bits-same : (u v : ℕ) (o p : List ℕ) → u ≡ v → o ≡ p → bits_of u o ≡ bits_of v p
bits-same u v o p e f = cc

-- contents that say what the bits are say nothing else
pub bits-one : (b : Bits) (c : List ℕ) (w : Bits) → IsBits b c → IsBits w c → w ≡ b
bits-one b c w p q =
    let e : w.unused ∷ w.octets ≡ b.unused ∷ b.octets = sym q.contents ∙ p.contents in
    let u : w.unused ≡ b.unused = cc in
    let o : w.octets ≡ b.octets = cc in
    bits-same w.unused b.unused w.octets b.octets u o

-- no contents at all
pub bits-empty : (c : List ℕ) → length c < 1 → (b : Bits) → IsBits b c → ⊥
bits-empty c lt b p = let size = ap length p.contents in omega arith

-- a count that isn't legal
pub bits-bad : (c : List ℕ) (u : ℕ) (o : List ℕ) → c ≡ u ∷ o → (AreBits (bits_of u o) → ⊥) → (b : Bits) → IsBits b c → ⊥
bits-bad c u o e bad b p =
    let both : b.unused ∷ b.octets ≡ u ∷ o = sym p.contents ∙ e in
    let v : b.unused ≡ u = cc in
    let w : b.octets ≡ o = cc in
    bad (subst AreBits (bits-same b.unused u b.octets o v w) p.legal)

-- the first octet, and the others
first-is : (s c : List ℕ) → s ≡ c → 1 ≤ length s → c ≡ get_or s 0 0 ∷ take (length s - 1) (drop 1 s)
first-is s c e le = sym e ∙ first_rest s 0 le

pub bits-unread : (s c : List ℕ) → s ≡ c → 1 ≤ length s
    → (AreBits (bits_of (get_or s 0 0) (take (length s - 1) (drop 1 s))) → ⊥) → (b : Bits) → IsBits b c → ⊥
bits-unread s c e le bad b p = bits-bad c (get_or s 0 0) (take (length s - 1) (drop 1 s)) (first-is s c e le) bad b p

pub bits-read : (s c octets : List ℕ) (b : Bits) → s ≡ c → 1 ≤ length s
    → AreBits (bits_of (get_or s 0 0) (take (length s - 1) (drop 1 s))) → octets ≡ drop 1 c
    → b ≡ bits_of (get_or s 0 0) octets → IsBits b c
bits-read s c octets b e le legal o is =
    let same : octets ≡ take (length s - 1) (drop 1 s) = o ∙ ap (λ (x : List ℕ). drop 1 x) (sym e) ∙ sym (take_rest s 1)
    in
    let whole : b ≡ bits_of (get_or s 0 0) (take (length s - 1) (drop 1 s)) = is ∙ ap
    (λ (x : List ℕ). bits_of (get_or s 0 0) x) same in
    subst (λ (w : Bits). IsBits w c) (sym whole) (record { legal = legal; contents = first-is s c e le })

-- ---- composed readers of one value, over a reader of its contents

pub contents-no-memory : (t : TagName) (f : Bool) (s : List ℕ) (e : DecodeError) → IsContentsFault t f s e
    → e ≡ OutOfMemory → ⊥
contents-no-memory t f s Truncated h z = cc
contents-no-memory t f s BadTag h z = cc
contents-no-memory t f s BadLength h z = cc
contents-no-memory t f s Unexpected h z = cc
contents-no-memory t f s (Content x) h z = h
contents-no-memory t f s Trailing h z = h
contents-no-memory t f s OutOfMemory h z = h

pub leaf-no-memory : {V : Type 0} (t : TagName) (f : Bool) (C : V → List ℕ → Type 0) (s : List ℕ) (e : DecodeError)
    → IsLeafFault t f C s e → e ≡ OutOfMemory → ⊥
leaf-no-memory t f C s Truncated h z = cc
leaf-no-memory t f C s BadTag h z = cc
leaf-no-memory t f C s BadLength h z = cc
leaf-no-memory t f C s Unexpected h z = cc
leaf-no-memory t f C s (Content x) h z = cc
leaf-no-memory t f C s Trailing h z = h
leaf-no-memory t f C s OutOfMemory h z = h

-- a value begins with its tag
pub leaf-tag : {V : Type 0} (t : TagName) (f : Bool) (C : V → List ℕ → Type 0) (s : List ℕ) (v : V) (r : List ℕ)
    → Spells (SpellsLeaf t f C) s v r → HasTag t s
leaf-tag t f C s v r h =
    let k = h.spelled.value in
    let c = h.spelled.contents in (
      f,
      length_octets (length c) ++ (c ++ r),
      record {
        front = identifier_octets t f;
        parts = h.parts ∙ ap (λ (p : List ℕ). p ++ r) k.octets ∙ append_assoc
            (identifier_octets t f ++ length_octets (length c)) c r ∙ append_assoc (identifier_octets t f)
            (length_octets (length c)) (c ++ r);
        spelled = record { legal = k.tag; octets = refl };
      },
    )

-- ---- truth values

pub boolean-one : (a b : Bool) → boolean_contents a ≡ boolean_contents b → a ≡ b
boolean-one true true e = refl
boolean-one true false e = absurd (cc)
boolean-one false true e = absurd (cc)
boolean-one false false e = refl

-- ---- a leaf whose value is dropped

pub dropped-accepted : {V : Type 0} (t : TagName) (f : Bool) (C : V → List ℕ → Type 0) (D : Unit {0} → List ℕ → Type 0)
    (s : List ℕ) (v : V) (r : List ℕ)
    → ((w : V) (c : List ℕ) → C w c → D tt c) → ((c : List ℕ) → D tt c → (w : V) × C w c)
    → Accepts (SpellsLeaf t f C) s v r → Accepts (SpellsLeaf t f D) s tt r
dropped-accepted {V} t f C D s v r there back a = record {
  spells = record {
    front = a.spells.front;
    parts = a.spells.parts;
    spelled = record {
      contents = a.spells.spelled.contents;
      value = a.spells.spelled.value;
      spelled = there v
          a.spells.spelled.contents a.spells.spelled.spelled;
    };
  };
  only = λ w q h.
      let k = back h.spelled.contents h.spelled.spelled in (
        refl,
        (a.only k.0 q
            (record {
              front = h.front;
              parts = h.parts;
              spelled = record
                  { contents = h.spelled.contents; value = h.spelled.value; spelled = k.1 };
            })).1,
      );
}

-- the error of a leaf of other contents, where each of these is one of those
pub other-contents : {V W : Type 0} (t : TagName) (f : Bool) (C : V → List ℕ → Type 0) (D : W → List ℕ → Type 0)
    (s : List ℕ) (e : DecodeError)
    → ((w : W) (c : List ℕ) → D w c → (v : V) × C v c) → IsLeafFault t f C s e → IsLeafFault t f D s e
other-contents t f C D s Truncated back h = h
other-contents t f C D s BadTag back h = h
other-contents t f C D s BadLength back h = h
other-contents t f C D s Unexpected back h = h
other-contents t f C D s (Content x) back h = (h.0, h.1, h.2, λ w d. let k = back w h.0 d in h.3 k.0 k.1)
other-contents t f C D s Trailing back h = h
other-contents t f C D s OutOfMemory back h = h

pub dropped-refused : {V : Type 0} (t : TagName) (f : Bool) (C : V → List ℕ → Type 0) (D : Unit {0} → List ℕ → Type 0)
    (s r : List ℕ) (e : DecodeError)
    → ((c : List ℕ) → D tt c → (w : V) × C w c) → Refusal (SpellsLeaf t f C) (IsLeafFault t f C) s r e
    → Refusal (SpellsLeaf t f D) (IsLeafFault t f D) s r e
dropped-refused {V} t f C D s r e back h = record {
  unchanged = h.unchanged;
  refuses = UnlessMemory-weaker e (λ none v q l.
      let k = back l.spelled.contents l.spelled.spelled in
      none k.0 q
      (record {
        front = l.front;
        parts = l.parts;
        spelled = record
            { contents = l.spelled.contents; value = l.spelled.value; spelled = k.1 };
      })) h.refuses;
  kind = other-contents t f C D s e (λ w c. back c) h.kind;
}
