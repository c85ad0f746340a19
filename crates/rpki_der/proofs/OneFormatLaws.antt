-- Formats have at most one value at the front of octets, one error, and none where a value is.
use Rattle.std.proofs.Common.{◌≡◌, ◌≢◌, ◌++◌, ℕ, Bool, true, false, List, [], length, arith, ap, sym, subst, ◌∙◌}
use Rattle.std.proofs.Common.{length-append}
use Rattle.rpki_der.specs.declared.error.DecodeError.{DecodeError}
use Rattle.rpki_der.specs.declared.error.DecodeError.TheVariants.{Truncated, BadTag, BadLength, Unexpected, Content}
use Rattle.rpki_der.specs.declared.error.DecodeError.TheVariants.{Trailing, OutOfMemory}
use Rattle.rpki_der.specs.declared.tag.Header.{Header}
use Rattle.rpki_der.specs.Error.{error_number}
use Rattle.rpki_der.specs.TagName.{TagName}
use Rattle.rpki_der.specs.Reading.{Spells}
use Rattle.rpki_der.specs.Values.{SpellsContents, SpellsLeaf}
use Rattle.rpki_der.specs.FirstFault.FirstFault.{AtPart, Later}
use Rattle.rpki_der.specs.Format.{Format, leaf, around, then, only}
use Rattle.rpki_der.proofs.CaptureLaws.{same-ends}
use Rattle.rpki_der.proofs.ComposedLaws.{spelled-whole}
use Rattle.rpki_der.proofs.FaultKindLaws.{one-contents-fault, one-leaf-fault, no-fault-at-value}
use Rattle.rpki_der.proofs.FirstFaultLaws.{IsOne}
use Rattle.rpki_der.proofs.HeaderReadingLaws.{one-header}
use Rattle.rpki_der.proofs.InsideLaws.{unless-memory}
use Rattle.rpki_der.proofs.PartsLaws.{pair-is, first-of}
use Rattle.rpki_der.proofs.ValuesLaws.{value-header}

-- a format of one value, at the front of octets
pub record IsLawful {V : Type 0} (F : Format V) : Type 0 where
  pub one : (s : List ℕ) (v w : V) (r q : List ℕ) → Spells F.spells s v r → Spells F.spells s w q → (v ≡ w) × (r ≡ q)
  pub sound : (s : List ℕ) (v : V) (r : List ℕ) (e : DecodeError) → e ≢ OutOfMemory → Spells F.spells s v r
      → F.fault s e → ⊥
  pub same : (s : List ℕ) → IsOne F.fault s

-- a format of contents, which are all of the octets
pub record IsLawfulWhole {V : Type 0} (P : Format V) : Type 0 where
  pub one : (s : List ℕ) (v w : V) → P.spells v s → P.spells w s → v ≡ w
  pub sound : (s : List ℕ) (v : V) (e : DecodeError) → e ≢ OutOfMemory → P.spells v s → P.fault s e → ⊥
  pub same : (s : List ℕ) → IsOne P.fault s

-- ---- parts, in sequence

module _ {V : Type 0} (F : Format V) (l : IsLawful F) where
  only-sound : (s : List ℕ) (v : V) (e : DecodeError) → e ≢ OutOfMemory → F.spells v s → (only F).fault s e → ⊥
  only-sound s v e n g (AtPart none k) = unless-memory e n none v [] (spelled-whole F.spells s v g)
  only-sound s v e n g (Later w r a k) = k.0 (sym (a.only v [] (spelled-whole F.spells s v g)).1)

  only-same : (s : List ℕ) → IsOne (only F).fault s
  only-same s d e m n (AtPart none k) (AtPart not j) = l.same s d e m n k j
  only-same s d e m n (AtPart none k) (Later w q b j) = absurd (unless-memory d m none w q b.spells)
  only-same s d e m n (Later v r a k) (AtPart none j) = absurd (unless-memory e n none v r a.spells)
  only-same s d e m n (Later v r a k) (Later w q b j) = ap error_number (k.1 ∙ sym j.1)

  pub only-lawful : IsLawfulWhole (only F)
  only-lawful = record {
    one = λ s v w g h. (l.one s v w [] [] (spelled-whole F.spells s v g) (spelled-whole F.spells s w h)).0;
    sound = only-sound;
    same = only-same;
  }

module _ {A B : Type 0} (F : Format A) (P : Format B) (l : IsLawful F) (p : IsLawfulWhole P) where
  then-one : (s : List ℕ) (x y : A × B) → (then F P).spells x s → (then F P).spells y s → x ≡ y
  then-one s x y g h =
      let e = l.one s x.0 y.0 g.second h.second (first-of g) (first-of h) in
      pair-is x y.0 y.1 e.0 (p.one g.second x.1 y.1 g.two (subst (λ (z : List ℕ). P.spells y.1 z) (sym e.1) h.two))

  then-sound : (s : List ℕ) (x : A × B) (e : DecodeError) → e ≢ OutOfMemory → (then F P).spells x s
      → (then F P).fault s e → ⊥
  then-sound s x e n g (AtPart none k) = unless-memory e n none x.0 g.second (first-of g)
  then-sound s x e n g (Later v r a k) =
      let i = a.only x.0 g.second (first-of g) in
      p.sound r x.1 e n (subst (λ (z : List ℕ). P.spells x.1 z) i.1 g.two) k

  then-same : (s : List ℕ) → IsOne (then F P).fault s
  then-same s d e m n (AtPart none k) (AtPart not j) = l.same s d e m n k j
  then-same s d e m n (AtPart none k) (Later w q b j) = absurd (unless-memory d m none w q b.spells)
  then-same s d e m n (Later v r a k) (AtPart none j) = absurd (unless-memory e n none v r a.spells)
  then-same s d e m n (Later v r a k) (Later w q b j) =
      let i = a.only w q b.spells in
      p.same r d e m n k (subst (λ (z : List ℕ). P.fault z e) i.1 j)

  pub then-lawful : IsLawfulWhole (then F P)
  then-lawful = record { one = then-one; sound = then-sound; same = then-same }

-- ---- values

-- a value of a tag and form has one header, and so one end
pub contents-one : (t : TagName) (f : Bool) (s c d r q : List ℕ) → Spells (SpellsContents t f) s c r
    → Spells (SpellsContents t f) s d q → (c ≡ d) × (r ≡ q)
contents-one t f s c d r q g h =
    let i = one-header s _ _ (c ++ r) (d ++ q) (value-header t f s c r g) (value-header t f s d q h) in
    let sizes : length c ≡ length d = ap (λ (x : Header). x.length) i.0 in
    let all : length (c ++ r) ≡ length (d ++ q) = ap length i.1 in
    same-ends c d r q i.1 (omega (arith, length-append c r, length-append d q))

contents-of : {V : Type 0} (t : TagName) (f : Bool) (C : V → List ℕ → Type 0) (s : List ℕ) (v : V) (r : List ℕ)
    (h : Spells (SpellsLeaf t f C) s v r) → Spells (SpellsContents t f) s h.spelled.contents r
contents-of t f C s v r h = record { front = h.front; parts = h.parts; spelled = h.spelled.value }

leaf-one : {V : Type 0} (t : TagName) (f : Bool) (C : V → List ℕ → Type 0)
    → ((c : List ℕ) (v w : V) → C v c → C w c → v ≡ w) → (s : List ℕ) (v w : V) (r q : List ℕ)
    → Spells (SpellsLeaf t f C) s v r → Spells (SpellsLeaf t f C) s w q → (v ≡ w) × (r ≡ q)
leaf-one t f C one s v w r q g h =
    let i = contents-one t f s _ _ r q (contents-of t f C s v r g) (contents-of t f C s w q h) in
    (one _ v w g.spelled.spelled (subst (C w) (sym i.0) h.spelled.spelled), i.1)

module _ {V : Type 0} (t : TagName) (C : V → List ℕ → Type 0) (one : (c : List ℕ) (v w : V) → C v c → C w c → v ≡ w)
  where
    leaf-sound : (s : List ℕ) (v : V) (r : List ℕ) (e : DecodeError) → e ≢ OutOfMemory
        → Spells (SpellsLeaf t false C) s v r → (leaf t C).fault s e → ⊥
    leaf-sound s v r Truncated n g p = no-fault-at-value t false s _ r Truncated p (contents-of t false C s v r g)
    leaf-sound s v r BadTag n g p = no-fault-at-value t false s _ r BadTag p (contents-of t false C s v r g)
    leaf-sound s v r BadLength n g p = no-fault-at-value t false s _ r BadLength p (contents-of t false C s v r g)
    leaf-sound s v r Unexpected n g p = no-fault-at-value t false s _ r Unexpected p (contents-of t false C s v r g)
    leaf-sound s v r (Content x) n g (c, q, h, none) =
        let i = contents-one t false s _ c r q (contents-of t false C s v r g) h in
        none v (subst (C v) i.0 g.spelled.spelled)
    leaf-sound s v r Trailing n g p = p
    leaf-sound s v r OutOfMemory n g p = p

    pub leaf-lawful : IsLawful (leaf t C)
    leaf-lawful = record {
      one = leaf-one t false C one;
      sound = leaf-sound;
      same = λ s d e m n p q. one-leaf-fault t false C s d e p q;
    }

module _ {V : Type 0} (t : TagName) (P : Format V) (p : IsLawfulWhole P) where
  around-sound : (s : List ℕ) (v : V) (r : List ℕ) (e : DecodeError) → e ≢ OutOfMemory
      → Spells (around t P).spells s v r → (around t P).fault s e → ⊥
  around-sound s v r e n g (AtPart none k) = unless-memory e n none _ r (contents-of t true P.spells s v r g)
  around-sound s v r e n g (Later c q a k) =
      let i = a.only _ r (contents-of t true P.spells s v r g) in
      p.sound c v e n (subst (P.spells v) i.0 g.spelled.spelled) k

  around-same : (s : List ℕ) → IsOne (around t P).fault s
  around-same s d e m n (AtPart none k) (AtPart not j) = ap error_number (one-contents-fault t true s d e k j)
  around-same s d e m n (AtPart none k) (Later w q b j) = absurd (unless-memory d m none w q b.spells)
  around-same s d e m n (Later v r a k) (AtPart none j) = absurd (unless-memory e n none v r a.spells)
  around-same s d e m n (Later c r a k) (Later w q b j) =
      let i = a.only w q b.spells in
      p.same c d e m n k (subst (λ (z : List ℕ). P.fault z e) i.0 j)

  pub around-lawful : IsLawful (around t P)
  around-lawful = record { one = leaf-one t true P.spells p.one; sound = around-sound; same = around-same }
