-- What the reading of a header says in the terms of its grammar.
use Rattle.std.proofs.Common.{◌≡◌, ℕ, ◌⊎◌, Bool, List, [], ◌∷◌, ◌++◌, Result, Ok, Err, refl, sym, ap, ◌∙◌, subst, inl}
use Rattle.std.proofs.Common.{inr, append_assoc}
use Rattle.std.proofs.lemmas.List.{append-nil}
use Rattle.rpki_der.specs.declared.error.DecodeError.{DecodeError}
use Rattle.rpki_der.specs.declared.error.DecodeError.TheVariants.{Truncated, BadTag, BadLength, Unexpected, Content}
use Rattle.rpki_der.specs.declared.error.DecodeError.TheVariants.{Trailing, OutOfMemory}
use Rattle.rpki_der.specs.declared.tag.Header.{Header}
use Rattle.rpki_der.specs.TagName.{TagName}
use Rattle.rpki_der.specs.Header.{identifier_octets, length_octets, header_octets}
use Rattle.rpki_der.specs.HeaderReading.{identifier_at, length_at, header_at}
use Rattle.rpki_der.specs.Reading.{Spells, Accepts, Refuses, IsCut}
use Rattle.rpki_der.specs.HeaderParts.{SpellsLength, IsPartFault}
use Rattle.rpki_der.specs.Values.{SpellsIdentifier, SpellsHeader, HasTag, HasIdentifier, IsHeaderFault}
use Rattle.rpki_der.proofs.StepLaws.{IsBytes, IsBytes-append, pair-is}
use Rattle.rpki_der.proofs.IdentifierLaws.{identifier-empty, identifier-takes, identifier-again, identifier-stays}
use Rattle.rpki_der.proofs.IdentifierLaws.{identifier-completes, identifier-errors}
use Rattle.rpki_der.proofs.LengthLaws.{length-errors, length-stays}
use Rattle.rpki_der.proofs.PartReadingLaws.{part-read, part-failed, identifier-part, length-part}
use Rattle.rpki_der.proofs.HeaderLaws.{IsBytes-following, header-again, header-takes, header-cases, header-completes}
use Rattle.rpki_der.proofs.HeaderLaws.{header-from, header-bad, identifier-grows}

-- a header at the front is read
pub read-from : (s : List ℕ) (h : Header) (r : List ℕ) → Spells SpellsHeader s h r → header_at s ≡ Ok (h, r)
read-from s h r f = rw (f.parts, f.spelled.octets) (header-again h r f.spelled.legal)

pub spelled-from : (s : List ℕ) (h : Header) (r : List ℕ) → IsBytes s → header_at s ≡ Ok (h, r)
    → Spells SpellsHeader s h r
spelled-from s h r bytes e =
    let t = header-takes s h r bytes e in
    record { front = header_octets h; parts = t.octets; spelled = record { legal = t.legal; octets = refl } }

-- what is read is the one header at the front
pub header-accepts : (s : List ℕ) (h : Header) (r : List ℕ) → IsBytes s → header_at s ≡ Ok (h, r)
    → Accepts SpellsHeader s h r
header-accepts s h r bytes e = record {
  spells = spelled-from s h r bytes e;
  only = λ w q f. pair-is w h q r (sym (read-from s w q f) ∙ e);
}

-- where nothing is read there is none
pub header-refuses : (s : List ℕ) (e : DecodeError) → header_at s ≡ Err e → Refuses SpellsHeader s
header-refuses s e failed h r f = let g = read-from s h r f in absurd cc

pub identifier-from : (s : List ℕ) (i : TagName × Bool) (r : List ℕ) → Spells SpellsIdentifier s i r
    → identifier_at s ≡ Ok (i, r)
identifier-from s i r f = rw (f.parts, f.spelled.octets) (identifier-again i.0 i.1 r f.spelled.legal)

-- a spelling that is all of a list
whole-header : (p : List ℕ) (h : Header) → SpellsHeader h p → header_at p ≡ Ok (h, [])
whole-header p h f = read-from p h [] (record { front = p; parts = sym (append-nil p); spelled = f })

whole-ident : (p : List ℕ) (i : TagName × Bool) → SpellsIdentifier i p → identifier_at p ≡ Ok (i, [])
whole-ident p i f = identifier-from p i [] (record { front = p; parts = sym (append-nil p); spelled = f })

-- a list that isn't read is a proper beginning of one that is
cut-from : (s : List ℕ) (h : Header) (t : List ℕ) → IsBytes (s ++ t) → header_at s ≡ Err Truncated
    → header_at (s ++ t) ≡ Ok (h, []) → IsCut SpellsHeader s
cut-from s h [] bytes failed e = absurd (let g = rw append-nil at e in cc)
cut-from s h (b ∷ more) bytes failed e =
    let f = header-takes (s ++ b ∷ more) h [] bytes e in
    (h, b, more, record { legal = f.legal; octets = f.octets ∙ append-nil (header_octets h) })

-- no other faults of the two parts
other : (s : List ℕ) (e : DecodeError) → header_at s ≡ Err e → (e ≡ Truncated) ⊎ ((e ≡ BadTag) ⊎ (e ≡ BadLength))
other s e failed =
    elim (header-cases s e failed) [
      | inl g ↦ elim (identifier-errors s e g) [ inl t ↦ inl t | inr b ↦ inr (inl b) ]
      | inr g ↦ elim (length-errors g.1 e g.3) [ inl t ↦ inl t | inr b ↦ inr (inr b) ]
    ]

bad-tag : (s : List ℕ) → header_at s ≡ Err BadTag → identifier_at s ≡ Err BadTag
bad-tag s failed =
    elim (header-cases s BadTag failed) [
      | inl g ↦ g
      | inr g ↦ absurd (elim (length-errors g.1 BadTag g.3) [ inl t ↦ cc | inr b ↦ cc ])
    ]

bad-length : (s : List ℕ) → header_at s ≡ Err BadLength
    → (i : TagName × Bool) × (q : List ℕ) × (identifier_at s ≡ Ok (i, q)) × (length_at q ≡ Err BadLength)
bad-length s failed =
    elim (header-cases s BadLength failed) [
      | inl g ↦ absurd (elim (identifier-errors s BadLength g) [ inl t ↦ cc | inr b ↦ cc ])
      | inr g ↦ g
    ]

-- it stays bad before more
long-stays : (s t : List ℕ) (i : TagName × Bool) (q : List ℕ) → IsBytes s → identifier_at s ≡ Ok (i, q)
    → length_at q ≡ Err BadLength → header_at (s ++ t) ≡ Err BadLength
long-stays s t i q bytes e f =
    header-from (s ++ t) (q ++ t) i (identifier-grows s t i q bytes e) ∙ rw (length-stays q t f) refl

pub header-fault : (s : List ℕ) (e : DecodeError) → IsBytes s → header_at s ≡ Err e → IsHeaderFault s e
header-fault s Truncated bytes failed =
    let c = header-completes s bytes failed in
    cut-from s c.0 c.1 (IsBytes-append s c.1 bytes c.2) failed c.3
header-fault s BadTag bytes failed =
    let g = bad-tag s failed in (
      λ (i, r, f). let h = identifier-from s i r f in absurd cc,
      λ (i, b, more, f). let h =
          whole-ident (s ++ b ∷ more) i f in let k = identifier-stays s (b ∷ more) g in absurd cc,
    )
header-fault s BadLength bytes failed =
    let g = bad-length s failed in
    let t = identifier-takes s g.0 g.1 bytes g.2 in (
      (
        g.0,
        g.1,
        record {
          front = identifier_octets g.0.0 g.0.1;
          parts = t.octets;
          spelled = record
              { legal = t.legal; octets = refl };
        },
      ),
      header-refuses s BadLength failed,
      λ (h, b, more, f). let k =
          whole-header (s ++ b ∷ more) h f in let l = long-stays s (b ∷ more) g.0 g.1 bytes g.2 g.3 in absurd cc,
    )
header-fault s Unexpected bytes failed =
    elim (other s Unexpected failed) [ inl t ↦ cc | inr (inl b) ↦ cc | inr (inr b) ↦ cc ]
header-fault s (Content x) bytes failed =
    elim (other s (Content x) failed) [ inl t ↦ cc | inr (inl b) ↦ cc | inr (inr b) ↦ cc ]
header-fault s Trailing bytes failed =
    elim (other s Trailing failed) [ inl t ↦ cc | inr (inl b) ↦ cc | inr (inr b) ↦ cc ]
header-fault s OutOfMemory bytes failed =
    elim (other s OutOfMemory failed) [ inl t ↦ cc | inr (inl b) ↦ cc | inr (inr b) ↦ cc ]

-- ---- of its two parts

-- what remains after what was read
rest-bytes : {V : Type 0} {G : V → List ℕ → Type 0} (s : List ℕ) (v : V) (r : List ℕ) → IsBytes s → Spells G s v r
    → IsBytes r
rest-bytes s v r bytes sp = IsBytes-following sp.front r (subst IsBytes sp.parts bytes)

pub header-of-parts : (s q r : List ℕ) (t : TagName) (f : Bool) (n : ℕ) → IsBytes s
    → Accepts SpellsIdentifier s (t, f) q → Accepts SpellsLength q n r
    → Accepts SpellsHeader s (record { tag = t; constructed = f; length = n }) r
header-of-parts s q r t f n bytes a b =
    header-accepts s (record { tag = t; constructed = f; length = n }) r bytes
    (header-from s q (t, f) (part-read identifier-part s (t, f) q a.spells) ∙ rw (part-read length-part q n r b.spells)
    refl)

pub header-stops : (s : List ℕ) (e : DecodeError) → IsBytes s
    → Refuses SpellsIdentifier s × IsPartFault SpellsIdentifier BadTag s e → Refuses SpellsHeader s × IsHeaderFault s e
header-stops s e bytes h =
    let failed = header-bad s e (part-failed identifier-part s e bytes h) in
    (header-refuses s e failed, header-fault s e bytes failed)

pub header-stops-later : (s q : List ℕ) (i : TagName × Bool) (e : DecodeError) → IsBytes s
    → Accepts SpellsIdentifier s i q → Refuses SpellsLength q × IsPartFault SpellsLength BadLength q e
    → Refuses SpellsHeader s × IsHeaderFault s e
header-stops-later s q i e bytes a h =
    let failed : header_at s ≡ Err e =
    header-from s q i (part-read identifier-part s i q a.spells) ∙ rw
    (part-failed length-part q e (rest-bytes s i q bytes a.spells) h) refl in
    (header-refuses s e failed, header-fault s e bytes failed)

-- whether the tag begins s
pub tag-found : (s : List ℕ) (t u : TagName) (f : Bool) (r : List ℕ) → Accepts SpellsIdentifier s (u, f) r
    → (HasTag t s → u ≡ t) × (u ≡ t → HasTag t s)
tag-found s t u f r a = (
  λ (g, q, h). ap (λ (i : TagName × Bool). i.0) (sym (a.only (t, g) q h).0),
  λ same. rw (← same) (f, r, a.spells),
)

-- nothing begins with a tag where nothing is
pub tag-empty : (t : TagName) → HasTag t [] → ⊥
tag-empty t (g, q, h) = let k = identifier-from [] (t, g) q h in let e = identifier-empty in absurd cc

-- ---- the fault is one: a list has at most one kind of header fault, the one that is read

header-grows : (s t : List ℕ) (h : Header) (q : List ℕ) → IsBytes s → header_at s ≡ Ok (h, q)
    → header_at (s ++ t) ≡ Ok (h, q ++ t)
header-grows s t h q bytes e =
    let f = header-takes s h q bytes e in
    rw (f.octets, append_assoc) (header-again h (q ++ t) f.legal)

not-nil : (q : List ℕ) (b : ℕ) (more : List ℕ) → q ++ b ∷ more ≡ [] → ⊥
not-nil [] b more e = cc
not-nil (x ∷ q) b more e = cc

cut-identifier-from : (s : List ℕ) (i : TagName × Bool) (t : List ℕ) → IsBytes (s ++ t)
    → identifier_at s ≡ Err Truncated → identifier_at (s ++ t) ≡ Ok (i, []) → IsCut SpellsIdentifier s
cut-identifier-from s i [] bytes failed e = absurd (let g = rw append-nil at e in cc)
cut-identifier-from s i (b ∷ more) bytes failed e =
    let f = identifier-takes (s ++ b ∷ more) i [] bytes e in
    (i, b, more, record { legal = f.legal; octets = f.octets ∙ append-nil (identifier_octets i.0 i.1) })

stays-bad : (s t : List ℕ) → identifier_at s ≡ Err BadTag → header_at (s ++ t) ≡ Err BadTag
stays-bad s t e = header-bad (s ++ t) BadTag (identifier-stays s t e)

front-ident : (s : List ℕ) (k : Header) (q : List ℕ) → IsBytes s → header_at s ≡ Ok (k, q) → HasIdentifier s
front-ident s k q bytes e =
    let f = header-takes s k q bytes e in (
      (k.tag, k.constructed),
      length_octets k.length ++ q,
      record {
        front = identifier_octets k.tag k.constructed;
        parts = f.octets ∙ append_assoc
            (identifier_octets k.tag k.constructed) (length_octets k.length) q;
        spelled = record
            { legal = f.legal.tag; octets = refl };
      },
    )

-- a list read as Truncated has its identifier octets, or a proper beginning of some
cut-identifier : (s : List ℕ) → IsBytes s → header_at s ≡ Err Truncated → HasIdentifier s ⊎ IsCut SpellsIdentifier s
cut-identifier s bytes e =
    elim (header-cases s Truncated e) [
      | inl g ↦ let c =
          identifier-completes s g in inr (cut-identifier-from s c.0 c.1 (IsBytes-append s c.1 bytes c.2) g c.3)
      | inr g ↦ let t = identifier-takes s g.0 g.1 bytes g.2 in inl (
        g.0,
        g.1,
        record {
          front = identifier_octets g.0.0 g.0.1;
          parts = t.octets;
          spelled = record
              { legal = t.legal; octets = refl };
        },
      )
    ]

-- a cut header is read as Truncated
pub cut-is : (s : List ℕ) → IsBytes s → IsCut SpellsHeader s → header_at s ≡ Err Truncated
cut-is s bytes (h, b, more, f) = go (header_at s) refl
  where
    whole : header_at (s ++ b ∷ more) ≡ Ok (h, [])
    whole = whole-header (s ++ b ∷ more) h f

    go : (r : Result (Header × List ℕ) DecodeError) → header_at s ≡ r → header_at s ≡ Err Truncated
    go (Ok (k, q)) e = absurd (not-nil q b more
        (let g = header-grows s (b ∷ more) k q bytes e in (pair-is k h (q ++ b ∷ more) [] (sym g ∙ whole)).1))
    go (Err d) e =
        elim (other s d e) [
          | inl t ↦ e ∙ ap (λ (x : DecodeError). Err x) t
          | inr (inl t) ↦
              let g = bad-tag s (e ∙ ap (λ (x : DecodeError). Err x) t) in
              absurd (let k = stays-bad s (b ∷ more) g in let w = whole in cc)
          | inr (inr t) ↦
              let g = bad-length s (e ∙ ap (λ (x : DecodeError). Err x) t) in
              absurd (let k = long-stays s (b ∷ more) g.0 g.1 bytes g.2 g.3 in let w = whole in cc)
        ]

pub fault-is : (s : List ℕ) (d : DecodeError) → IsBytes s → IsHeaderFault s d → header_at s ≡ Err d
fault-is s Truncated bytes h = cut-is s bytes h
fault-is s BadTag bytes h = go (header_at s) refl
  where
    go : (r : Result (Header × List ℕ) DecodeError) → header_at s ≡ r → header_at s ≡ Err BadTag
    go (Ok (k, q)) e = absurd (h.0 (front-ident s k q bytes e))
    go (Err d) e =
        elim (other s d e) [
          | inl t ↦ absurd (elim (cut-identifier s bytes (e ∙ ap (λ (x : DecodeError). Err x) t))
              [ inl k ↦ h.0 k | inr k ↦ h.1 k ])
          | inr (inl t) ↦ e ∙ ap (λ (x : DecodeError). Err x) t
          | inr (inr t) ↦ absurd (h.0 (header-fault s BadLength bytes (e ∙ ap (λ (x : DecodeError). Err x) t)).0)
        ]
fault-is s BadLength bytes h = go (header_at s) refl
  where
    go : (r : Result (Header × List ℕ) DecodeError) → header_at s ≡ r → header_at s ≡ Err BadLength
    go (Ok (k, q)) e = absurd (h.1 k q (spelled-from s k q bytes e))
    go (Err d) e =
        elim (other s d e) [
          | inl t ↦ absurd (h.2 (header-fault s Truncated bytes (e ∙ ap (λ (x : DecodeError). Err x) t)))
          | inr (inl t) ↦ absurd ((header-fault s BadTag bytes (e ∙ ap (λ (x : DecodeError). Err x) t)).0 h.0)
          | inr (inr t) ↦ e ∙ ap (λ (x : DecodeError). Err x) t
        ]
fault-is s Unexpected bytes h = absurd h
fault-is s (Content x) bytes h = absurd h
fault-is s Trailing bytes h = absurd h
fault-is s OutOfMemory bytes h = absurd h

-- a list has one fault at most
pub one-fault : (s : List ℕ) (d e : DecodeError) → IsBytes s → IsHeaderFault s d → IsHeaderFault s e → d ≡ e
one-fault s d e bytes h k = let p = fault-is s d bytes h in let q = fault-is s e bytes k in cc

pub one-header : (s : List ℕ) (h k : Header) (r q : List ℕ) → Spells SpellsHeader s h r → Spells SpellsHeader s k q
    → (h ≡ k) × (r ≡ q)
one-header s h k r q a b = pair-is h k r q (sym (read-from s h r a) ∙ read-from s k q b)
