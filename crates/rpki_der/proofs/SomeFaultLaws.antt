-- Octets begin with a value, or they have a fault.
use Rattle.std.proofs.Common.{◌≡◌, ◌≢◌, ◌⊎◌, ℕ, zero, suc, ◌<◌, ◌≤◌, Bool, true, false, List, [], ◌∷◌, ◌++◌, length}
use Rattle.std.proofs.Common.{take, drop, Result, Ok, Err, refl, sym, ap, ◌∙◌, subst, arith, inl, inr, append_assoc}
use Rattle.std.proofs.Common.{length-append, take-append-drop}
use Rattle.std.proofs.lemmas.Bool.{cases_lt}
use Rattle.std.proofs.lemmas.List.{length-take-le}
use Rattle.rpki_der.specs.declared.error.DecodeError.{DecodeError}
use Rattle.rpki_der.specs.declared.error.DecodeError.TheVariants.{Truncated}
use Rattle.rpki_der.specs.declared.tag.Header.{Header}
use Rattle.rpki_der.specs.TagName.{TagName}
use Rattle.rpki_der.specs.Header.{tlv}
use Rattle.rpki_der.specs.HeaderReading.{header_at}
use Rattle.rpki_der.specs.Number.{AreOctets}
use Rattle.rpki_der.specs.Reading.{Spells}
use Rattle.rpki_der.specs.Values.{SpellsHeader}
use Rattle.rpki_der.specs.Members.{Members, Empty, Primitive, Constructed, spell, HaveHeaders, IsValue}
use Rattle.rpki_der.specs.NestedFault.{IsNestedFault, AtHeader, AtContents, Inside}
use Rattle.rpki_der.specs.ValueListLaws.{primitive_value, constructed_value}
use Rattle.rpki_der.proofs.StepLaws.{IsBytes, IsBytes-rest}
use Rattle.rpki_der.proofs.HeaderLaws.{IsBytes-following}
use Rattle.rpki_der.proofs.HeaderReadingLaws.{spelled-from, header-fault}
use Rattle.rpki_der.proofs.MembersLaws.{header, HasHeader, two-octets}

bytes-of : (s : List ℕ) → AreOctets s → IsBytes s
bytes-of [] o i = omega arith
bytes-of (x ∷ s) o zero = o.0
bytes-of (x ∷ s) o (suc i) = bytes-of s o.1 i

bytes-before : (p q : List ℕ) → IsBytes (p ++ q) → IsBytes p
bytes-before [] q h i = omega arith
bytes-before (b ∷ p) q h zero = h 0
bytes-before (b ∷ p) q h (suc i) = bytes-before p q (IsBytes-rest b (p ++ q) h) i

-- octets are values, or values and then a fault
abbrev IsScanned : List ℕ → Type 0
IsScanned s = ((vs : Members) × HaveHeaders vs × (s ≡ spell vs))
    ⊎ ((vs : Members) × (r : List ℕ) × (e : DecodeError) × HaveHeaders vs × (s ≡ spell vs ++ r) × IsNestedFault r e)

-- octets begin with a primitive value, or with a constructed one, or have a fault
abbrev BeginsOrFails : List ℕ → Type 0
BeginsOrFails s = ((t : TagName) × (c : List ℕ) × (r : List ℕ) × HasHeader t (length c) × (s ≡ tlv t false c ++ r))
    ⊎ (((t : TagName) × (ms : Members) × (r : List ℕ) × HasHeader t (length (spell ms)) × HaveHeaders ms ×
    (s ≡ tlv t true (spell ms) ++ r))
    ⊎ ((e : DecodeError) × IsNestedFault s e))

-- a header with all of its contents
with-contents : (s : List ℕ) (h : Header) (r : List ℕ) → Spells SpellsHeader s h r → h.length ≤ length r
    → (length (take h.length r) ≡ h.length) × (s ≡ tlv h.tag h.constructed (take h.length r) ++ drop h.length r)
with-contents s h r sp le =
    let n = h.length in
    let c = take n r in
    let size : length c ≡ n = length-take-le n r le in
    let front : sp.front ≡ header h.tag h.constructed (length c) = sp.spelled.octets ∙ ap
    (λ (m : ℕ). header h.tag h.constructed m) (sym size) in
    let cut : r ≡ c ++ drop n r = sym (take-append-drop n r) in (
      size,
      sp.parts ∙ ap (λ (x : List ℕ). sp.front ++ x) cut ∙ ap (λ (x : List ℕ). x ++ (c ++ drop n r)) front
          ∙ sym (append_assoc (header h.tag h.constructed (length c)) c (drop n r)),
    )

first : (s : List ℕ) → IsBytes s → s ≢ [] → ((c : List ℕ) → length c < length s → IsBytes c → IsScanned c)
    → BeginsOrFails s
first s bytes some inside = go (header_at s) refl
  where
    sized : (h : Header) (r : List ℕ) → Spells SpellsHeader s h r → (length r < h.length) ⊎ (h.length ≤ length r)
        → BeginsOrFails s
    sized h r sp (inl short) = inr (inr (Truncated, AtContents h r sp short))
    sized h r sp (inr le) = formed h.constructed refl
      where
        c : List ℕ
        c = take h.length r

        after : List ℕ
        after = drop h.length r

        legal : HasHeader h.tag (length c)
        legal = (sp.spelled.legal.tag, rw (with-contents s h r sp le).0 sp.spelled.legal.length)

        bytes-after : IsBytes r
        bytes-after = IsBytes-following sp.front r (subst IsBytes sp.parts bytes)

        bytes-inside : IsBytes c
        bytes-inside = bytes-before c after (subst IsBytes (sym (take-append-drop h.length r)) bytes-after)

        smaller : length c < length s
        smaller = omega (
          arith,
          two-octets h.tag h.constructed h.length,
          ap length sp.spelled.octets,
          ap length
              sp.parts,
          length-append sp.front r,
          (with-contents s h r sp le).0,
        )

        formed : (f : Bool) → h.constructed ≡ f → BeginsOrFails s
        formed false is =
            inl (h.tag, c, after, legal, (with-contents s h r sp le).1 ∙ ap (λ (f : Bool). tlv h.tag f c ++ after) is)
        formed true is =
            let octets : s ≡ tlv h.tag true c ++ after = (with-contents s h r sp le).1 ∙ ap
            (λ (f : Bool). tlv h.tag f c ++ after) is in
            elim (inside c smaller bytes-inside) [
              | inl (ms, hs, same) ↦ inr
                  (inl (
                    h.tag,
                    ms,
                    after,
                    (legal.0, rw (← same) legal.1),
                    hs,
                    octets ∙ ap
                        (λ (x : List ℕ). tlv h.tag true x ++ after) same,
                  ))
              | inr (ms, q, e, hs, same, fault) ↦
                  inr (inr (
                    e,
                    Inside h.tag ms q after legal.0 (rw (← same) legal.1) hs
                        (octets ∙ ap (λ (x : List ℕ). tlv h.tag true x ++ after) same) fault,
                  ))
            ]

    go : (x : Result (Header × List ℕ) DecodeError) → header_at s ≡ x → BeginsOrFails s
    go (Err e) is = inr (inr (e, AtHeader some (header-fault s e bytes is)))
    go (Ok (h, r)) is = sized h r (spelled-from s h r bytes is) (cases_lt (length r) h.length)

-- what follows a value is shorter
following : (t : TagName) (f : Bool) (c r s : List ℕ) → s ≡ tlv t f c ++ r → length r < length s
following t f c r s is = omega (
  arith,
  ap length is,
  two-octets t f (length c),
  length-append (tlv t f c) r,
  length-append (header t f (length c)) c,
)

bytes-following : (p r s : List ℕ) → s ≡ p ++ r → IsBytes s → IsBytes r
bytes-following p r s is bytes = IsBytes-following p r (subst IsBytes is bytes)

-- a value, and then what is scanned
then-scanned : (p r s : List ℕ) (one : Members → Members) → ((vs : Members) → HaveHeaders vs → HaveHeaders (one vs))
    → ((vs : Members) → spell (one vs) ≡ p ++ spell vs)
    → s ≡ p ++ r → IsScanned r → IsScanned s
then-scanned p r s one headers spelled is scanned =
    elim scanned [
      | inl (vs, hs, same) ↦ inl (one vs, headers vs hs, is ∙ ap (λ (x : List ℕ). p ++ x) same ∙ sym (spelled vs))
      | inr (vs, q, e, hs, same, fault) ↦
          inr (
            one vs,
            q,
            e,
            headers vs hs,
            is ∙ ap (λ (x : List ℕ). p ++ x) same ∙ sym (append_assoc p (spell vs) q) ∙
                ap (λ (x : List ℕ). x ++ q) (sym (spelled vs)),
            fault,
          )
    ]

scan : (k : ℕ) (s : List ℕ) → length s ≤ k → IsBytes s → IsScanned s
scan k [] le bytes = inl (Empty, tt, refl)
scan zero (b ∷ s) le bytes = absurd (omega arith)
scan (suc k) (b ∷ s) le bytes =
    elim (first (b ∷ s) bytes (λ e. cc) (λ c lt by. scan k c (omega arith) by)) [
      | inl (t, c, r, h, is) ↦
          then-scanned (tlv t false c) r (b ∷ s) (λ vs. Primitive t c vs) (λ vs hs. (h, hs)) (λ vs. refl) is
          (scan k r (omega (arith, following t false c r (b ∷ s) is))
          (bytes-following (tlv t false c) r (b ∷ s) is bytes))
      | inr (inl (t, ms, r, h, hm, is)) ↦
          then-scanned (tlv t true (spell ms)) r (b ∷ s) (λ vs. Constructed t ms vs) (λ vs hs. (h, hm, hs)) (λ vs. refl)
          is
          (scan k r (omega (arith, following t true (spell ms) r (b ∷ s) is))
          (bytes-following (tlv t true (spell ms)) r (b ∷ s) is bytes))
      | inr (inr (e, fault)) ↦ inr (Empty, b ∷ s, e, tt, refl, fault)
    ]

-- octets that no value begins have a fault
pub some-fault : (s : List ℕ) → AreOctets s → s ≢ [] → ((value rest : List ℕ) → IsValue value → s ≡ value ++ rest → ⊥)
    → (e : DecodeError) × IsNestedFault s e
some-fault s octets some none =
    elim (first s (bytes-of s octets) some (λ c lt by. scan (length c) c (omega arith) by)) [
      | inl (t, c, r, h, is) ↦ absurd (none (tlv t false c) r (primitive_value t c h.0 h.1) is)
      | inr (inl (t, ms, r, h, hm, is)) ↦
          absurd (none (tlv t true (spell ms)) r
          (constructed_value t (spell ms) h.0 h.1
          (_, record { members = ms; legal = hm; spelled = refl; counted = refl })) is)
      | inr (inr fault) ↦ fault
    ]
