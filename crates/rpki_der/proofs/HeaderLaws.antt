-- Headers.
use Rattle.std.proofs.Common.{◌≡◌, ℕ, suc, ◌⊎◌, Bool, List, [], ◌∷◌, ◌++◌, Result, Ok, Err, refl, sym, ◌∙◌, arith, inl}
use Rattle.std.proofs.Common.{inr, append_assoc}
use Rattle.rpki_der.specs.declared.error.DecodeError.{DecodeError}
use Rattle.rpki_der.specs.declared.error.DecodeError.TheVariants.{Truncated}
use Rattle.rpki_der.specs.declared.tag.Header.{Header}
use Rattle.rpki_der.specs.TagName.{TagName}
use Rattle.rpki_der.specs.Header.{identifier_octets, length_octets, header_octets, IsHeader}
use Rattle.rpki_der.specs.HeaderReading.{◌>>=◌, identifier_at, length_at, header_at}
use Rattle.rpki_der.proofs.StepLaws.{IsBytes, IsBytes-append, IsBytes-cons, pair-is, bind-ok, bind-err}
use Rattle.rpki_der.proofs.IdentifierLaws.{IsIdentifier, identifier-takes, identifier-again, identifier-completes}
use Rattle.rpki_der.proofs.LengthLaws.{IsLength, length-takes, length-again, length-completes}

-- the header of its parts
abbrev made : (TagName × Bool) → ℕ → Header
made i n = record { tag = i.0; constructed = i.1; length = n }

abbrev after : TagName × Bool → ℕ × List ℕ → Result (Header × List ℕ) DecodeError
after i l = Ok (made i l.0, l.1)

abbrev following : (TagName × Bool) × List ℕ → Result (Header × List ℕ) DecodeError
following i = length_at i.1 >>= λ l. after i.0 l

header-is : (s : List ℕ) → header_at s ≡ (identifier_at s >>= following)
unfolding header_at
header-is s = refl

-- from the identifier octets on
pub header-from : (s q : List ℕ) (i : TagName × Bool) → identifier_at s ≡ Ok (i, q)
    → header_at s ≡ (length_at q >>= λ l. after i l)
header-from s q i e = header-is s ∙ rw e refl

-- what a header that was read is
pub record IsRead (h : Header) (s r : List ℕ) : Type 0 where
  pub legal : IsHeader h
  pub octets : s ≡ header_octets h ++ r

pub header-again : (h : Header) (s : List ℕ) → IsHeader h → header_at (header_octets h ++ s) ≡ Ok (h, s)
header-again h s legal =
    let one = identifier-again h.tag h.constructed (length_octets h.length ++ s) legal.tag in
    let two = length-again h.length s legal.length in
    rw append_assoc (header-from _ (length_octets h.length ++ s) (h.tag, h.constructed) one ∙ rw two refl)

takes-so : (s q : List ℕ) (i : TagName × Bool) (n : ℕ) (h : Header) (r r' : List ℕ) → IsIdentifier i s q
    → IsLength n q r' → after i (n, r') ≡ Ok (h, r) → IsRead h s r
takes-so s q i n h r r' a b e =
    let is = pair-is (made i n) h r' r e in
    let octets : s ≡ header_octets (made i n) ++ r' = rw (a.octets, b.octets)
    (sym (append_assoc (identifier_octets i.0 i.1) (length_octets n) r')) in
    rw (← is.0, ← is.1) (record { legal = record { tag = a.legal; length = b.high }; octets = octets })

-- bytes stay bytes after a front
pub IsBytes-following : (p q : List ℕ) → IsBytes (p ++ q) → IsBytes q
IsBytes-following [] q h = h
IsBytes-following (b ∷ p) q h = IsBytes-following p q (λ i. h (suc i))

pub header-takes : (s : List ℕ) (h : Header) (r : List ℕ) → IsBytes s → header_at s ≡ Ok (h, r) → IsRead h s r
header-takes s h r bytes e =
    let a = bind-ok (identifier_at s) following (h, r) (sym (header-is s) ∙ e) in
    let b = bind-ok (length_at a.0.1) (λ l. after a.0.0 l) (h, r) a.2 in
    let i = identifier-takes s a.0.0 a.0.1 bytes a.1 in
    let rest : IsBytes a.0.1 = IsBytes-following (identifier_octets a.0.0.0 a.0.0.1) a.0.1 (rw i.octets at bytes) in
    takes-so s a.0.1 a.0.0 b.0.0 h r b.0.1 i (length-takes a.0.1 b.0.0 b.0.1 rest b.1) b.2

-- ---- faults

-- identifier octets that were read are read again before more
pub identifier-grows : (s t : List ℕ) (i : TagName × Bool) (q : List ℕ) → IsBytes s → identifier_at s ≡ Ok (i, q)
    → identifier_at (s ++ t) ≡ Ok (i, q ++ t)
identifier-grows s t i q bytes e =
    let h = identifier-takes s i q bytes e in
    rw (h.octets, append_assoc) (identifier-again i.0 i.1 (q ++ t) h.legal)

-- where a fault comes from: the identifier octets, or the length octets after them
pub header-cases : (s : List ℕ) (e : DecodeError) → header_at s ≡ Err e
    → (identifier_at s ≡ Err e) ⊎ ((i : TagName × Bool) × (q : List ℕ) × (identifier_at s ≡ Ok (i, q)) ×
    (length_at q ≡ Err e))
header-cases s e h =
    elim (bind-err (identifier_at s) following e (sym (header-is s) ∙ h)) [
      | inl g ↦ inl g
      | inr g ↦
          elim (bind-err (length_at g.0.1) (λ l. after g.0.0 l) e g.2) [
            | inl k ↦ inr (g.0.0, g.0.1, g.1, k)
            | inr k ↦ absurd (let l = k.2 in cc)
          ]
    ]

zero-length : length_at (0 ∷ []) ≡ Ok (0, [])
unfolding length_at
zero-length = refl

nought : IsBytes (0 ∷ [])
nought = IsBytes-cons 0 [] (omega arith) (λ i. omega arith)

-- identifier octets, completed, and a length of 0
completed : (s : List ℕ) (i : TagName × Bool) (t : List ℕ) → IsBytes (s ++ t) → identifier_at (s ++ t) ≡ Ok (i, [])
    → header_at (s ++ (t ++ 0 ∷ [])) ≡ Ok (made i 0, [])
completed s i t bytes e =
    let g = identifier-grows (s ++ t) (0 ∷ []) i [] bytes e in
    let whole : identifier_at (s ++ (t ++ 0 ∷ [])) ≡ Ok (i, 0 ∷ []) = rw append_assoc at g in
    header-from (s ++ (t ++ 0 ∷ [])) (0 ∷ []) i whole ∙ rw zero-length refl

pub header-completes : (s : List ℕ) → IsBytes s → header_at s ≡ Err Truncated
    → (h : Header) × (t : List ℕ) × IsBytes t × (header_at (s ++ t) ≡ Ok (h, []))
header-completes s bytes e =
    elim (header-cases s Truncated e) [
      | inl g ↦
          let c = identifier-completes s g in (
            made c.0 0,
            c.1 ++ 0 ∷ [],
            IsBytes-append c.1 (0 ∷ []) c.2 nought,
            completed s c.0 c.1
                (IsBytes-append s c.1 bytes c.2) c.3,
          )
      | inr g ↦
          let c = length-completes g.1 g.3 in (
            made g.0 c.0,
            c.1,
            c.2,
            header-from (s ++ c.1) (g.1 ++ c.1) g.0 (identifier-grows s c.1 g.0 g.1 bytes g.2) ∙
                rw c.3 refl,
          )
    ]

-- bad identifier octets are a bad header
pub header-bad : (s : List ℕ) (e : DecodeError) → identifier_at s ≡ Err e → header_at s ≡ Err e
header-bad s e failed = header-is s ∙ rw failed refl
