-- Reading the three parts of signed data.
use Rattle.std.proofs.Common.{◌≡◌, ℕ, false, List, ◌++◌, refl, sym, ap, subst, ◌∙◌, append_assoc}
use Rattle.rpki_der.specs.declared.error.DecodeError.{DecodeError}
use Rattle.rpki_der.specs.Prelude.{bit_string, Spells, Accepts, Refuses, Refusal, SpellsLeaf, Bits, IsBits, bits_of}
use Rattle.rpki_der.specs.Prelude.{SpellsValue}
use Rattle.rpki_der.proofs.ReadingLaws.{UnlessMemory-weaker}
use Rattle.rpki.specs.SignedData.{SignedParts, parts_of, SpellsSignature, IsSignedContents}

-- ---- the signature, of a bit string

as-bits : (s v r : List ℕ) → (h : Spells SpellsSignature s v r)
    → Spells (SpellsLeaf bit_string false IsBits) s (bits_of h.spelled.unused v) r
as-bits s v r h = record { front = h.front; parts = h.parts; spelled = h.spelled.string }

pub signature-accepted : (s : List ℕ) (b : Bits) (r v : List ℕ) → v ≡ b.octets
    → Accepts (SpellsLeaf bit_string false IsBits) s b r → Accepts SpellsSignature s v r
signature-accepted s b r v is a = record {
  spells = record {
    front = a.spells.front;
    parts = a.spells.parts;
    spelled = record
        { unused = b.unused; string = rw is a.spells.spelled };
  };
  only = λ w q h.
      let one = a.only (bits_of h.spelled.unused w) q (as-bits s w q h) in
      (ap (λ (x : Bits). x.octets) one.0 ∙ sym is, one.1);
}

pub signature-refused : (K : List ℕ → DecodeError → Type 0) (s r : List ℕ) (e : DecodeError)
    → Refusal (SpellsLeaf bit_string false IsBits) K s r e → Refusal SpellsSignature K s r e
signature-refused K s r e h = record {
  unchanged = h.unchanged;
  refuses = UnlessMemory-weaker e (λ none v q k. none (bits_of k.spelled.unused v) q (as-bits s v q k)) h.refuses;
  kind = h.kind;
}

-- ---- the parts, one after the other

record Steps {A : Type 0} (G : A → List ℕ → Type 0) (s : List ℕ) (x : SignedParts A) (r : List ℕ) : Type 0 where
  m : List ℕ
  q : List ℕ
  one : Spells SpellsValue s x.signed m
  two : Spells G m x.algorithm q
  three : Spells SpellsSignature q x.value r

steps-of : {A : Type 0} (G : A → List ℕ → Type 0) (s : List ℕ) (x : SignedParts A) (r : List ℕ)
    → Spells (IsSignedContents G) s x r → Steps G s x r
steps-of G s x r h =
    let i = h.spelled in
    record {
      m = i.text ++ (i.bits ++ r);
      q = i.bits ++ r;
      one = record {
        front = x.signed;
        parts = h.parts ∙ ap (λ (p : List ℕ). p ++ r) i.parts ∙ append_assoc (x.signed ++ i.text) i.bits r ∙
            append_assoc x.signed i.text (i.bits ++ r);
        spelled = record { same = refl; value = i.one };
      };
      two = record { front = i.text; parts = refl; spelled = i.named };
      three = record { front = i.bits; parts = refl; spelled = i.signature };
    }

same-parts : {A : Type 0} (x : SignedParts A) (d : List ℕ) (a : A) (v : List ℕ) → x.signed ≡ d → x.algorithm ≡ a
    → x.value ≡ v → x ≡ parts_of d a v
same-parts {A} x d a v e f g = let p : parts_of x.signed x.algorithm x.value ≡ parts_of d a v = rw (e, f, g) refl in p

pub contents-accepted : {A : Type 0} (G : A → List ℕ → Type 0) (s m q r d : List ℕ) (a : A) (v : List ℕ)
    → Accepts SpellsValue s d m → Accepts G m a q → Accepts SpellsSignature q v r
    → Accepts (IsSignedContents G) s (parts_of d a v) r
contents-accepted {A} G s m q r d a v one two three = record {
  spells = record {
    front = one.spells.front ++ (two.spells.front ++ three.spells.front);
    parts = one.spells.parts ∙ ap (λ (p : List ℕ). one.spells.front ++ p)
        (two.spells.parts ∙ ap (λ (p : List ℕ). two.spells.front ++ p) three.spells.parts ∙ sym
        (append_assoc two.spells.front three.spells.front r)) ∙ sym
        (append_assoc one.spells.front (two.spells.front ++ three.spells.front) r);
    spelled = record {
      text = two.spells.front;
      bits = three.spells.front;
      parts = ap (λ (p : List ℕ). p ++ (two.spells.front ++ three.spells.front)) one.spells.spelled.same ∙ sym
          (append_assoc d two.spells.front three.spells.front);
      one = one.spells.spelled.value;
      named = two.spells.spelled;
      signature = three.spells.spelled;
    };
  };
  only = λ x t h.
      let w = steps-of G s x t h in
      let e = one.only x.signed w.m w.one in
      let f = two.only x.algorithm w.q (subst (λ (l : List ℕ). Spells G l x.algorithm w.q) e.1 w.two) in
      let g = three.only x.value t (subst (λ (l : List ℕ). Spells SpellsSignature l x.value t) f.1 w.three) in
      (same-parts x d a v e.0 f.0 g.0, g.1);
}

pub no-value : {A : Type 0} (G : A → List ℕ → Type 0) (s : List ℕ) → Refuses SpellsValue s
    → Refuses (IsSignedContents G) s
no-value G s none x r h = let w = steps-of G s x r h in none x.signed w.m w.one

pub no-algorithm : {A : Type 0} (G : A → List ℕ → Type 0) (s m d : List ℕ) → Accepts SpellsValue s d m → Refuses G m
    → Refuses (IsSignedContents G) s
no-algorithm {A} G s m d one none x r h =
    let w = steps-of G s x r h in
    let e = one.only x.signed w.m w.one in
    none x.algorithm w.q (subst (λ (l : List ℕ). Spells G l x.algorithm w.q) e.1 w.two)

pub no-signature : {A : Type 0} (G : A → List ℕ → Type 0) (s m q d : List ℕ) (a : A) → Accepts SpellsValue s d m
    → Accepts G m a q → Refuses SpellsSignature q → Refuses (IsSignedContents G) s
no-signature {A} G s m q d a one two none x r h =
    let w = steps-of G s x r h in
    let e = one.only x.signed w.m w.one in
    let f = two.only x.algorithm w.q (subst (λ (l : List ℕ). Spells G l x.algorithm w.q) e.1 w.two) in
    none x.value r (subst (λ (l : List ℕ). Spells SpellsSignature l x.value r) f.1 w.three)

-- an error of one of the parts
pub part-refused : {A V : Type 0} (G : A → List ℕ → Type 0) (H : V → List ℕ → Type 0)
    (K L : List ℕ → DecodeError → Type 0) (s m q : List ℕ) (e : DecodeError)
    → (Refuses H m → Refuses (IsSignedContents G) s) → L s e → Refusal H K m q e → Refusal (IsSignedContents G) L s s e
part-refused G H K L s m q e f kind h =
    record { unchanged = refl; refuses = UnlessMemory-weaker e f h.refuses; kind = kind }
