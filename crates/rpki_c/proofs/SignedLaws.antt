-- Signed data read in place, and algorithm identifiers of any algorithm.
use Rattle.std.proofs.Common.{◌≡◌, ◌∙◌, ◌-◌, ◌++◌, ℕ, Bool, true, List, [], length, take, drop, refl, sym, ap, subst}
use Rattle.std.proofs.Common.{arith, append-nil, append_assoc, length-append, inl, inr, false, IsTrue, ◌↔◌}
use Rattle.std.proofs.Math.Seq.{take-append_seam}
use Rattle.rpki_der.specs.declared.error.DecodeError.{DecodeError}
use Rattle.rpki_der.specs.declared.tag.Header.{Header}
use Rattle.rpki_der.specs.TagName.{sequence, TagName, oid}
use Rattle.rpki_der.specs.Reading.{Spells, Accepts, Refusal, UnlessMemory, SpellsNothing, Refuses, Finds, IsCut}
use Rattle.rpki_der.specs.Values.{SpellsContents, IsContentsFault, IsValueFault, SpellsLeaf, IsLeafFault}
use Rattle.rpki_der.specs.FirstFault.FirstFault.{AtPart, Later}
use Rattle.rpki_der.proofs.ComposedLaws.{outer-refused, inner-refused, all-read, nothing-whole, spelled-whole}
use Rattle.rpki.specs.SignedData.{parts_of, SpellsSignature}
use Rattle.rpki_der.specs.Members.{SpellsValue}
use Rattle.rpki_c.specs.declared.signed.SignedView.{SignedView}
use Rattle.rpki_c.specs.Signed.{SpellsRpkiAlgorithm, SpellsRpki, AreRpkiParts, IsAllPartsFault, IsSignedFault}
use Rattle.rpki_c.specs.Signed.{AreInContents, AreInSigned, AreOtherParts}
use Rattle.rpki_der.specs.WantedValue.{SpellsWanted, IsAnyTag, IsWantedFault}
use Rattle.rpki_der.specs.Leaves.{IsOidOf}
use Rattle.rpki_der.proofs.InsideLaws.{unless-memory}
use Rattle.rpki_der.proofs.LeavesLaws.{contents-no-memory, leaf-no-memory}
use Rattle.rpki_c.specs.Identifier.{AreParameters, IsNamed, SpellsIdentifier, IsOther, HoldsFirst, FollowsValue}

-- ---- Reading the parts of signed data in place

-- ---- errors that are not allocation failure

pub value-no-memory : (W : Header → Type 0) (Cut : List ℕ → Type 0) (s : List ℕ) (e : DecodeError)
    → IsValueFault W Cut s e → e ≡ DecodeError.OutOfMemory → ⊥
value-no-memory W Cut s e h z = subst (IsValueFault W Cut s) z h

-- ---- signed data, over the reader of its contents

-- there is no SEQUENCE
pub sequence-refused : (s q : List ℕ) (e : DecodeError)
    → Refusal (SpellsContents sequence true) (IsContentsFault sequence true) s q e
    → Refusal SpellsRpki IsSignedFault s s e
sequence-refused s q e h =
    let k = outer-refused sequence true AreRpkiParts s q s e refl h in
    record { unchanged = refl; refuses = k.refuses; kind = AtPart h.refuses h.kind }

-- its contents are not the parts, or allocation failed
pub parts-refused : (s c q : List ℕ) (e : DecodeError) → Accepts (SpellsContents sequence true) s c q
    → UnlessMemory e (SpellsNothing AreRpkiParts c) × IsAllPartsFault c e → Refusal SpellsRpki IsSignedFault s s e
parts-refused s c q e a h =
    let k = inner-refused sequence true AreRpkiParts s c q s e refl a h.0 in
    record { unchanged = refl; refuses = k.refuses; kind = Later c q a h.1 }

-- ---- what was read

-- the value at the front, as the octets are split
pub split-value : {s d m : List ℕ} (n : ℕ) → d ≡ take n s → m ≡ drop n s
    → Accepts SpellsValue s (take n s) (drop n s) → Accepts SpellsValue s d m
split-value n p q a = rw (p, q) a

-- the octets in front of the rest
pub front-of : (w b f q : List ℕ) → w ≡ f ++ q → b ≡ q → take (length w - length b) w ≡ f
front-of w b f q e i =
    rw (i, e) (
    let n : length (f ++ q) - length q ≡ length f = omega (arith, length-append f q) in rw n (take-append_seam f q)
    )

-- the parts were read in sequence, and nothing remains
pub in-contents : (s d m q r : List ℕ) (a : Bool) (v : List ℕ) → Accepts SpellsValue s d m
    → (two : Accepts SpellsRpkiAlgorithm m a q) → (three : Spells SpellsSignature q v r)
    → r ≡ []
    → (h : AreRpkiParts (parts_of d a v) s) × (h.text ≡ two.spells.front) × (h.signature.unused ≡ three.spelled.unused)
in-contents s d m q r a v one two three e = (
  record {
    text = two.spells.front;
    bits = three.front;
    parts =
        one.spells.parts ∙ ap (λ (p : List ℕ). p ++ m) one.spells.spelled.same
        ∙ ap (λ (p : List ℕ). d ++ p) (two.spells.parts
        ∙ ap (λ (p : List ℕ). two.spells.front ++ p) (three.parts
        ∙ ap (λ (p : List ℕ). three.front ++ p) e ∙ append-nil three.front))
        ∙ sym (append_assoc d two.spells.front three.front);
    one = one.spells.spelled.value;
    named = two.spells.spelled;
    signature = three.spelled;
  },
  refl,
  refl,
)

-- the same in a SEQUENCE
pub in-signed : (s c q : List ℕ) (v : SignedView) → Spells (SpellsContents sequence true) s c q → q ≡ []
    → AreInContents c v → AreInSigned s v
in-signed s c q v h e k = record {
  spelled = record {
    contents = c;
    value = subst (SpellsContents sequence true c)
        (sym (h.parts ∙ ap (λ (p : List ℕ). h.front ++ p) e ∙ append-nil h.front)) h.spelled;
    spelled = k.spelled;
  };
  algorithm = k.algorithm;
  unused = k.unused;
}

-- ---- Whether octets are an algorithm identifier, and what that says of a reader of one algorithm

-- no test succeeds where nothing is there
never : {P : Type 0} → (P → ⊥) → IsTrue false ↔ P
never none = (λ z. absurd (let w = z in cc), λ p. absurd (none p))

-- ---- parameters

none-left : (s r : List ℕ) (x : TagName × Bool × List ℕ) → (s ≡ [] → ⊥) → Accepts (SpellsWanted IsAnyTag) s x r
    → AreParameters s → r ≡ []
none-left s r x some a (inl e) = absurd (some e)
none-left s r x some a (inr h) = sym (a.only h.0 [] (spelled-whole (SpellsWanted IsAnyTag) s h.0 h.1)).1

pub parameters-read : (s r : List ℕ) (x : TagName × Bool × List ℕ) (b : Bool) → (s ≡ [] → ⊥)
    → Accepts (SpellsWanted IsAnyTag) s x r → IsTrue b ↔ (r ≡ []) → IsTrue b ↔ AreParameters s
parameters-read s r x b some a h = (
  λ e. inr (x, (all-read (SpellsWanted IsAnyTag) s x r a (h.0 e)).0),
  λ p. h.1 (none-left s r x some a p),
)

no-parameters : (s : List ℕ) → (s ≡ [] → ⊥) → Refuses (SpellsWanted IsAnyTag) s → AreParameters s → ⊥
no-parameters s some none (inl e) = some e
no-parameters s some none (inr h) = nothing-whole (SpellsWanted IsAnyTag) s none h.0 h.1

pub parameters-unread : (s r : List ℕ) (e : DecodeError) → (s ≡ [] → ⊥)
    → Refusal (SpellsWanted IsAnyTag) (IsWantedFault IsAnyTag) s r e → IsTrue false ↔ AreParameters s
parameters-unread s r e some h = never (no-parameters s some
    (unless-memory e (value-no-memory (λ h. IsAnyTag h.tag h.constructed) (IsCut (SpellsWanted IsAnyTag)) s e h.kind)
    h.refuses))

-- ---- an object identifier, and then parameters

pub named-read : (s r o : List ℕ) (b : Bool) → Accepts (SpellsLeaf oid false IsOidOf) s o r → IsTrue b ↔ AreParameters r
    → IsTrue b ↔ ((x : List ℕ) × IsNamed x s)
named-read s r o b a h = (
  λ e. (
    o,
    record {
      first = a.spells.front;
      second = r;
      parts = a.spells.parts;
      identifier =
          a.spells.spelled;
      parameters = h.0 e;
    },
  ),
  λ n.
      let k = a.only n.0 n.1.second (record { front = n.1.first; parts = n.1.parts; spelled = n.1.identifier }) in
      h.1 (subst (λ (l : List ℕ). AreParameters l) k.1 n.1.parameters),
)

pub named-unread : (s r : List ℕ) (e : DecodeError)
    → Refusal (SpellsLeaf oid false IsOidOf) (IsLeafFault oid false IsOidOf) s r e
    → IsTrue false ↔ ((x : List ℕ) × IsNamed x s)
named-unread s r e h =
    let none : Refuses (SpellsLeaf oid false IsOidOf) s =
    unless-memory e (leaf-no-memory oid false IsOidOf s e h.kind) h.refuses in
    never (λ n. none n.0 n.1.second (record { front = n.1.first; parts = n.1.parts; spelled = n.1.identifier }))

-- ---- a SEQUENCE of them

pub identifier-read : (s c r : List ℕ) (b : Bool) → Accepts (SpellsContents sequence true) s c r
    → IsTrue b ↔ ((x : List ℕ) × IsNamed x c) → IsTrue b ↔ Finds SpellsIdentifier s
identifier-read s c r b a h = (
  λ e.
      let n = h.0 e in (
        n.0,
        r,
        record {
          front = a.spells.front;
          parts = a.spells.parts;
          spelled =
              record { contents = c; value = a.spells.spelled; spelled = n.1 };
        },
      ),
  λ f.
      let g = f.2 in
      let k = a.only g.spelled.contents f.1 (record { front = g.front; parts = g.parts; spelled = g.spelled.value }) in
      h.1 (f.0, subst (λ (l : List ℕ). IsNamed f.0 l) k.0 g.spelled.spelled),
)

pub no-sequence : (s r : List ℕ) (e : DecodeError)
    → Refusal (SpellsContents sequence true) (IsContentsFault sequence true) s r e
    → Refuses (SpellsContents sequence true) s
no-sequence s r e h = unless-memory e (contents-no-memory sequence true s e h.kind) h.refuses

pub identifier-unread : (s r : List ℕ) (e : DecodeError)
    → Refusal (SpellsContents sequence true) (IsContentsFault sequence true) s r e
    → IsTrue false ↔ Finds SpellsIdentifier s
identifier-unread s r e h = never (λ f. no-sequence s r e h f.2.spelled.contents f.1
    (record { front = f.2.front; parts = f.2.parts; spelled = f.2.spelled.value }))

-- ---- another algorithm

pub other-read : {A : Type 0} (G : A → List ℕ → Type 0) (s r : List ℕ) (v : A) → Accepts G s v r
    → IsTrue false ↔ IsOther G s
other-read G s r v a = never (λ o. o.none v r a.spells)

pub other-unread : {A : Type 0} (G : A → List ℕ → Type 0) (s : List ℕ) (b : Bool) → Refuses G s
    → IsTrue b ↔ Finds SpellsIdentifier s → IsTrue b ↔ IsOther G s
other-unread G s b none h = (λ e. record { some = h.0 e; none = none }, λ o. h.1 o.some)

-- ---- at the front of a SEQUENCE

pub first-read : (P : List ℕ → Type 0) (s c r : List ℕ) (b : Bool) → Accepts (SpellsContents sequence true) s c r
    → IsTrue b ↔ P c → IsTrue b ↔ HoldsFirst P s
first-read P s c r b a h = (
  λ e. record { contents = c; rest = r; begins = a.spells; inner = h.0 e },
  λ f. h.1 (subst P (a.only f.contents f.rest f.begins).0 f.inner),
)

pub first-unread : (P : List ℕ → Type 0) (s r : List ℕ) (e : DecodeError)
    → Refusal (SpellsContents sequence true) (IsContentsFault sequence true) s r e → IsTrue false ↔ HoldsFirst P s
first-unread P s r e h = never (λ f. no-sequence s r e h f.contents f.rest f.begins)

-- ---- Signed data of another algorithm

-- ---- after a value

-- no value is there
pub no-front : (P : List ℕ → Type 0) (s : List ℕ) → Refuses SpellsValue s → FollowsValue P s → ⊥
no-front P s none f = none f.value f.rest f.begins

-- what follows the value
pub follows : (P : List ℕ → Type 0) (s d m : List ℕ) → Accepts SpellsValue s d m → FollowsValue P s → P m
follows P s d m a f = subst P (a.only f.value f.rest f.begins).1 f.follows

-- the algorithm is there
pub not-other : (s d m r : List ℕ) (b : Bool) → Accepts SpellsValue s d m
    → Accepts SpellsRpkiAlgorithm m b r → AreOtherParts s → ⊥
not-other s d m r b a g f = (follows (IsOther SpellsRpkiAlgorithm) s d m a f).none b r g.spells

-- ---- inside a SEQUENCE

pub no-first : (P : List ℕ → Type 0) (s : List ℕ) → Refuses (SpellsContents sequence true) s → HoldsFirst P s → ⊥
no-first P s none f = none f.contents f.rest f.begins

pub inside : (P : List ℕ → Type 0) (s c r : List ℕ) → Accepts (SpellsContents sequence true) s c r → (P c → ⊥)
    → HoldsFirst P s → ⊥
inside P s c r a none f = none (subst P (a.only f.contents f.rest f.begins).0 f.inner)
