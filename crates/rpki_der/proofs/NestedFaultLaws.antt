-- Laws of the fault of nested values: it is one, no value begins where it is, and a cut value has it.
use Rattle.std.proofs.Common.{◌≡◌, ◌≢◌, ◌⊎◌, ℕ, ◌+◌, ◌<◌, Bool, true, false, List, [], ◌∷◌, ◌++◌, length, refl, sym, ap}
use Rattle.std.proofs.Common.{◌∙◌, subst, arith, append_assoc, append-nil, length-append, inl, inr}
use Rattle.std.proofs.lemmas.List.{nil_from_length}
use Rattle.rpki_der.specs.declared.error.DecodeError.{DecodeError}
use Rattle.rpki_der.specs.declared.error.DecodeError.TheVariants.{Truncated, BadTag, BadLength, Unexpected, Content}
use Rattle.rpki_der.specs.declared.error.DecodeError.TheVariants.{Trailing, OutOfMemory}
use Rattle.rpki_der.specs.declared.tag.Header.{Header}
use Rattle.rpki_der.specs.TagName.{TagName}
use Rattle.rpki_der.specs.Header.{tlv}
use Rattle.rpki_der.specs.Reading.{Spells}
use Rattle.rpki_der.specs.Values.{SpellsHeader, IsHeaderFault}
use Rattle.rpki_der.specs.Members.{Members, Empty, Primitive, Constructed, spell, HaveHeaders, count, IsValue}
use Rattle.rpki_der.specs.NestedFault.{IsNestedFault, AtHeader, AtContents, Inside}
use Rattle.rpki_der.proofs.HeaderReadingLaws.{one-header}
use Rattle.rpki_der.proofs.HeaderFaultLaws.{no-fault-at-header, one-fault-of-lists, beginnings}
use Rattle.rpki_der.proofs.MembersLaws.{header, header_of, HasHeader, spells-header, two-octets, same-value}
use Rattle.rpki_der.proofs.MembersLaws.{not-nothing, no-fault-at-named-header, none-left}

-- no value begins these octets
abbrev pub IsFree : List ℕ → Type 0
IsFree s = (ws : Members) (z : List ℕ) → HaveHeaders ws → 0 < count ws → s ≡ spell ws ++ z → ⊥

-- The same octets as members and then no value, and as members and a rest: the second members are among the first.
strip : (ms ms' : Members) (r y : List ℕ) → HaveHeaders ms → HaveHeaders ms' → IsFree r → spell ms ++ r ≡ spell ms' ++ y
    → (ws : Members) × HaveHeaders ws × (y ≡ spell ws ++ r)
strip Empty Empty r y h h' free e = (Empty, tt, sym e)
strip Empty (Primitive t' c' rest') r y h h' free e = absurd (free (Primitive t' c' rest') y h' (omega arith) e)
strip Empty (Constructed t' ms' rest') r y h h' free e = absurd (free (Constructed t' ms' rest') y h' (omega arith) e)
strip (Primitive t c rest) Empty r y h h' free e = (Primitive t c rest, h, sym e)
strip (Constructed t ms rest) Empty r y h h' free e = (Constructed t ms rest, h, sym e)
strip (Primitive t c rest) (Primitive t' c' rest') r y h h' free e =
    let e' = sym (append_assoc (tlv t false c) (spell rest) r) ∙ e ∙ append_assoc (tlv t' false c') (spell rest') y in
    let same = same-value t t' false false c c' (spell rest ++ r) (spell rest' ++ y) h.0 h'.0 e' in
    strip rest rest' r y h.1 h'.1 free same.rest
strip (Primitive t c rest) (Constructed t' ms' rest') r y h h' free e =
    let e' = sym (append_assoc (tlv t false c) (spell rest) r) ∙ e ∙ append_assoc (tlv t' true (spell ms'))
    (spell rest') y in
    let same = same-value t t' false true c (spell ms') (spell rest ++ r) (spell rest' ++ y) h.0 h'.0 e' in
    absurd (cc (same.form))
strip (Constructed t ms rest) (Primitive t' c' rest') r y h h' free e =
    let e' = sym (append_assoc (tlv t true (spell ms)) (spell rest) r) ∙ e ∙ append_assoc (tlv t' false c')
    (spell rest') y in
    let same = same-value t t' true false (spell ms) c' (spell rest ++ r) (spell rest' ++ y) h.0 h'.0 e' in
    absurd (cc (same.form))
strip (Constructed t ms rest) (Constructed t' ms' rest') r y h h' free e =
    let e' = sym (append_assoc (tlv t true (spell ms)) (spell rest) r) ∙ e ∙ append_assoc (tlv t' true (spell ms'))
    (spell rest') y in
    let same = same-value t t' true true (spell ms) (spell ms') (spell rest ++ r) (spell rest' ++ y) h.0 h'.0 e' in
    strip rest rest' r y h.2 h'.2 free same.rest

-- a header and then its contents and more
pub flat : (t : TagName) (f : Bool) (c x : List ℕ) → tlv t f c ++ x ≡ header t f (length c) ++ (c ++ x)
flat t f c x = append_assoc (header t f (length c)) c x

-- a value, others after it, and more
flat-front : (t : TagName) (f : Bool) (c x y : List ℕ)
    → (tlv t f c ++ x) ++ y ≡ header t f (length c) ++ (c ++ (x ++ y))
flat-front t f c x y = append_assoc (tlv t f c) x y ∙ flat t f c (x ++ y)

-- contents that are not all there are no contents
pub short-contents : (s : List ℕ) (h : Header) (r : List ℕ) (t : TagName) (f : Bool) (c x : List ℕ)
    → Spells SpellsHeader s h r → length r < h.length → HasHeader t (length c) → s ≡ header t f (length c) ++ (c ++ x)
    → ⊥
short-contents s h r t f c x sp l k is =
    let same = one-header s h (header_of t f (length c)) r (c ++ x) sp (spells-header t f (length c) (c ++ x) s k is) in
    omega (arith, ap (λ (y : Header). y.length) same.0, ap length same.1, length-append c x)

some-header : (s : List ℕ) (h : Header) (r : List ℕ) → Spells SpellsHeader s h r → s ≡ [] → ⊥
some-header s h r sp z = omega (
  arith,
  two-octets h.tag h.constructed h.length,
  ap length sp.spelled.octets,
  ap length
      (sym z ∙ sp.parts),
  length-append sp.front r,
)

pub fault-not-empty : {s : List ℕ} {e : DecodeError} → IsNestedFault s e → s ≡ [] → ⊥
fault-not-empty (AtHeader ne h) z = ne z
fault-not-empty (AtContents {s} h r sp l) z = some-header s h r sp z
fault-not-empty (Inside t ms r after tag fits hs is fault) z = not-nothing t true (spell ms ++ r) after (sym z ∙ is)

-- octets with a fault begin with no value
pub no-value-at-fault : {s : List ℕ} {e : DecodeError} → IsNestedFault s e → IsFree s
no-value-at-fault fault Empty z h l is = omega arith
no-value-at-fault (AtHeader {s} {e} ne hf) (Primitive t c rest) z h l is = no-fault-at-named-header s e t false
    (length c) (c ++ (spell rest ++ z)) hf h.0 (is ∙ flat-front t false c (spell rest) z)
no-value-at-fault (AtHeader {s} {e} ne hf) (Constructed t ms rest) z h l is = no-fault-at-named-header s e t true
    (length (spell ms)) (spell ms ++ (spell rest ++ z)) hf h.0 (is ∙ flat-front t true (spell ms) (spell rest) z)
no-value-at-fault (AtContents {s} k r sp short) (Primitive t c rest) z h l is =
    short-contents s k r t false c (spell rest ++ z) sp short h.0 (is ∙ flat-front t false c (spell rest) z)
no-value-at-fault (AtContents {s} k r sp short) (Constructed t ms rest) z h l is = short-contents s k r t true
    (spell ms) (spell rest ++ z) sp short h.0 (is ∙ flat-front t true (spell ms) (spell rest) z)
no-value-at-fault (Inside t' ms' r after tag fits hs is' fault) (Primitive t c rest) z h l is =
    let same = same-value t' t true false (spell ms' ++ r) c after (spell rest ++ z) (tag, fits) h.0
    (sym is' ∙ is ∙ append_assoc (tlv t false c) (spell rest) z) in
    cc (same.form)
no-value-at-fault (Inside t' ms' r after tag fits hs is' fault) (Constructed t ms rest) z h l is =
    let same = same-value t' t true true (spell ms' ++ r) (spell ms) after (spell rest ++ z) (tag, fits) h.0
    (sym is' ∙ is ∙ append_assoc (tlv t true (spell ms)) (spell rest) z) in
    let whole : spell ms' ++ r ≡ spell ms ++ [] = same.contents ∙ sym (append-nil (spell ms)) in
    let more = strip ms' ms r [] hs h.1 (no-value-at-fault fault) whole in
    let n : length r ≡ 0 = omega (arith, ap length more.2, length-append (spell more.0) r) in
    fault-not-empty fault (nil_from_length r n)

-- the fault is a function of the octets
pub one-fault : {s : List ℕ} {e : DecodeError} → IsNestedFault s e → {s' : List ℕ} {e' : DecodeError}
    → IsNestedFault s' e' → s ≡ s' → e ≡ e'
one-fault (AtHeader {s} {e} ne hf) (AtHeader {s = s'} {e = e'} ne' hf') same =
    one-fault-of-lists s e e' hf (subst (λ (x : List ℕ). IsHeaderFault x e') (sym same) hf')
one-fault (AtHeader {s} {e} ne hf) (AtContents {s = s'} h r sp l) same =
    absurd (no-fault-at-header s' e h r (subst (λ (x : List ℕ). IsHeaderFault x e) same hf) sp)
one-fault (AtHeader {s} {e} ne hf) (Inside t ms r after tag fits hs is fault) same = absurd
    (no-fault-at-named-header s e t true (length (spell ms ++ r)) ((spell ms ++ r) ++ after) hf (tag, fits)
    (same ∙ is ∙ flat t true (spell ms ++ r) after))
one-fault (AtContents {s} h r sp l) (AtHeader {s = s'} {e = e'} ne' hf') same =
    absurd (no-fault-at-header s e' h r (subst (λ (x : List ℕ). IsHeaderFault x e') (sym same) hf') sp)
one-fault (AtContents h r sp l) (AtContents h' r' sp' l') same = refl
one-fault (AtContents {s} h r sp l) (Inside t ms r' after tag fits hs is fault) same = absurd
    (short-contents s h r t true (spell ms ++ r') after sp l (tag, fits)
    (same ∙ is ∙ flat t true (spell ms ++ r') after))
one-fault (Inside t ms r after tag fits hs is fault) (AtHeader {s = s'} {e = e'} ne' hf') same = absurd
    (no-fault-at-named-header s' e' t true (length (spell ms ++ r)) ((spell ms ++ r) ++ after) hf' (tag, fits)
    (sym same ∙ is ∙ flat t true (spell ms ++ r) after))
one-fault (Inside t ms r after tag fits hs is fault) (AtContents {s = s'} h r' sp l) same = absurd
    (short-contents s' h r' t true (spell ms ++ r) after sp l (tag, fits)
    (sym same ∙ is ∙ flat t true (spell ms ++ r) after))
one-fault (Inside t ms r after tag fits hs is fault) (Inside t' ms' r' after' tag' fits' hs' is' fault') same =
    let v = same-value t t' true true (spell ms ++ r) (spell ms' ++ r') after after' (tag, fits) (tag', fits')
    (sym is ∙ same ∙ is') in
    let more = strip ms ms' r r' hs hs' (no-value-at-fault fault) v.contents in
    one-fault fault fault' (none_between more.0 r r' more.1 (no-value-at-fault fault') more.2)
  where
    none_between : (ws : Members) (r r' : List ℕ) → HaveHeaders ws → IsFree r' → r' ≡ spell ws ++ r → r ≡ r'
    none_between Empty r r' h free e = sym e
    none_between (Primitive t c rest) r r' h free e = absurd (free (Primitive t c rest) r h (omega arith) e)
    none_between (Constructed t ms rest) r r' h free e = absurd (free (Constructed t ms rest) r h (omega arith) e)

-- where a fault is, no value begins
pub fault-or-value : {s a : List ℕ} (x : List ℕ) {e : DecodeError} → IsNestedFault s e → IsValue a → s ≡ a ++ x → ⊥
fault-or-value {s} {a} x {e} fault v is =
    no-value-at-fault fault v.members x v.legal (omega (arith, v.counted)) (is ∙ ap (λ (z : List ℕ). z ++ x) v.spelled)

-- ---- a cut value

-- octets that a header begins, and not all of its contents, or that are cut in the header
pub cut-at : (s more : List ℕ) (b : ℕ) (t : TagName) (f : Bool) (c : List ℕ) → s ≢ [] → HasHeader t (length c)
    → s ++ b ∷ more ≡ header t f (length c) ++ c → IsNestedFault s Truncated
cut-at s more b t f c some h e =
    elim (beginnings s (b ∷ more) (header t f (length c)) c e) [
      | inl ([], is) ↦ AtContents (header_of t f (length c)) []
          (spells-header t f (length c) [] s h (sym (append-nil s) ∙ sym is ∙ sym (append-nil (header t f (length c)))))
          (whole_header is)
      | inl (x ∷ xs, is) ↦ AtHeader some
          (header_of t f (length c), x, xs, record { legal = record { tag = h.0; length = h.1 }; octets = sym is })
      | inr (x, is) ↦ AtContents (header_of t f (length c)) x (spells-header t f (length c) x s h is) (rest_short x is)
    ]
  where
    rest_short : (x : List ℕ) → s ≡ header t f (length c) ++ x → length x < length c
    rest_short x is = omega (
      arith,
      ap length is,
      ap length e,
      length-append (header t f (length c)) x,
      length-append
          (header t f (length c)) c,
      length-append s (b ∷ more),
    )

    whole_header : header t f (length c) ≡ s ++ [] → 0 < length c
    whole_header is = omega (
      arith,
      ap length is,
      ap length e,
      length-append s [],
      length-append (header t f (length c))
          c,
      length-append s (b ∷ more),
    )

-- a value and none after it
alone : (x : List ℕ) (rest : Members) → 1 + count rest ≡ 1 → x ++ spell rest ≡ x
alone x rest n = ap (λ (ws : Members). x ++ spell ws) (none-left rest (omega arith)) ∙ append-nil x

-- every proper beginning of a value is truncated, the empty one aside
pub cut-value : (s more : List ℕ) (b : ℕ) → s ≢ [] → IsValue (s ++ b ∷ more) → IsNestedFault s Truncated
cut-value s more b some v = go v.members v.legal v.counted v.spelled
  where
    go : (vs : Members) → HaveHeaders vs → count vs ≡ 1 → s ++ b ∷ more ≡ spell vs → IsNestedFault s Truncated
    go Empty h n e = absurd (omega arith)
    go (Primitive t c rest) h n e = cut-at s more b t false c some h.0 (e ∙ alone (tlv t false c) rest n)
    go (Constructed t ms rest) h n e =
        cut-at s more b t true (spell ms) some h.0 (e ∙ alone (tlv t true (spell ms)) rest n)

-- ---- kinds

header-kinds : (s : List ℕ) (e : DecodeError) → IsHeaderFault s e → (e ≡ Truncated) ⊎ (e ≡ BadTag) ⊎ (e ≡ BadLength)
header-kinds s Truncated h = inl refl
header-kinds s BadTag h = inr (inl refl)
header-kinds s BadLength h = inr (inr refl)
header-kinds s Unexpected h = absurd h
header-kinds s (Content x) h = absurd h
header-kinds s Trailing h = absurd h
header-kinds s OutOfMemory h = absurd h

pub fault-kinds : {s : List ℕ} {e : DecodeError} → IsNestedFault s e → (e ≡ Truncated) ⊎ (e ≡ BadTag) ⊎ (e ≡ BadLength)
fault-kinds (AtHeader {s} {e} ne h) = header-kinds s e h
fault-kinds (AtContents h r sp l) = inl refl
fault-kinds (Inside t ms r after tag fits hs is fault) = fault-kinds fault
