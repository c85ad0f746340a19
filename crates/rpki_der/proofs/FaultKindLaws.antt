-- The kinds of errors of readers of values and leaves exclude one another.
use Rattle.std.proofs.Common.{◌≡◌, ℕ, ◌⊎◌, ◌<◌, Bool, List, [], ◌∷◌, ◌++◌, length, refl, sym, ap, ◌∙◌, inl, inr, arith}
use Rattle.std.proofs.Common.{length-append}
use Rattle.std.proofs.lemmas.List.{append-nil}
use Rattle.rpki_der.specs.declared.error.ContentError.{ContentError}
use Rattle.rpki_der.specs.declared.error.DecodeError.{DecodeError}
use Rattle.rpki_der.specs.declared.error.DecodeError.TheVariants.{Truncated, BadTag, BadLength, Unexpected, Content}
use Rattle.rpki_der.specs.declared.error.DecodeError.TheVariants.{Trailing, OutOfMemory}
use Rattle.rpki_der.specs.declared.tag.Header.{Header}
use Rattle.rpki_der.specs.Error.{error_number}
use Rattle.rpki_der.specs.TagName.{TagName}
use Rattle.rpki_der.specs.Header.{IsHeader, header_octets}
use Rattle.rpki_der.specs.Reading.{Spells, IsCut}
use Rattle.rpki_der.specs.Values.{SpellsHeader, SpellsContents, IsHeaderFault, IsContentsFault, IsLeafFault}
use Rattle.rpki_der.specs.WantedValue.{IsWantedFault}
use Rattle.rpki_der.proofs.HeaderReadingLaws.{one-header}
use Rattle.rpki_der.proofs.ValuesLaws.{value-header}
use Rattle.rpki_der.proofs.HeaderFaultLaws.{beginnings, no-fault-at-header, one-fault-of-lists}

abbrev pub head-of : TagName → Bool → ℕ → Header
head-of t f n = record { tag = t; constructed = f; length = n }

-- what the kind says of the header in front, and of what follows it
abbrev pub Says : (Header → Type 0) → Header → List ℕ → DecodeError → Type 0
Says P h r e = ((e ≡ Truncated) × P h × (length r < h.length)) ⊎ ((e ≡ Unexpected) × (P h → ⊥))

abbrev pub AtHeader : (Header → Type 0) → List ℕ → DecodeError → Type 0
AtHeader P s e = (h : Header) × (r : List ℕ) × Spells SpellsHeader s h r × Says P h r e

-- a cut value is a cut header, or begins with the value's header and lacks contents
cut-parts : (t : TagName) (f : Bool) (s c : List ℕ) (b : ℕ) (more : List ℕ) → SpellsContents t f c (s ++ b ∷ more)
    → IsCut SpellsHeader s ⊎ ((r : List ℕ) × Spells SpellsHeader s (head-of t f (length c)) r × (length r < length c))
cut-parts t f s c b more g =
    let h = head-of t f (length c) in
    let legal : IsHeader h = record { tag = g.tag; length = g.fits } in
    let whole : s ++ b ∷ more ≡ header_octets h ++ c = g.octets in
    let sizes : length (s ++ b ∷ more) ≡ length (header_octets h ++ c) = ap length whole in
    let left = length-append s (b ∷ more) in
    let right = length-append (header_octets h) c in
    elim (beginnings s (b ∷ more) (header_octets h) c whole) [
      | inl (x ∷ xs, is) ↦ inl (h, x, xs, record { legal = legal; octets = sym is })
      | inl ([], is) ↦
          let same : s ≡ header_octets h = sym (append-nil s) ∙ sym is in
          let long : length s ≡ length (header_octets h) = ap length same in
          inr (
            [],
            record { front = s; parts = sym (append-nil s); spelled = record { legal = legal; octets = same } },
            omega arith,
          )
      | inr (x, is) ↦
          let long : length s ≡ length (header_octets h ++ x) = ap length is in
          let following = length-append (header_octets h) x in
          inr (
            x,
            record { front = header_octets h; parts = is; spelled = record { legal = legal; octets = refl } },
            omega arith,
          )
    ]

said : (P : Header → Type 0) (h k : Header) (r q : List ℕ) (d e : DecodeError) → h ≡ k → Says P h r d → Says P k q e
    → d ≡ e
said P h k r q d e same p w =
    elim p [
      | inl (a, n, y) ↦ elim w [
        | inl (b, m, z) ↦ a ∙ sym b
        | inr (b, m) ↦ let n' : P k = rw same at n in absurd (m n')
      ]
      | inr (a, n) ↦ elim w [
        | inl (b, m, z) ↦ let m' : P h = rw (← same) at m in absurd (n m')
        | inr (b, m) ↦ a ∙ sym b
      ]
    ]

meet : (P : Header → Type 0) (s : List ℕ) (d e : DecodeError) → IsHeaderFault s d ⊎ AtHeader P s d
    → IsHeaderFault s e ⊎ AtHeader P s e → d ≡ e
meet P s d e p q =
    elim p [
      | inl x ↦ elim q [
        | inl y ↦ one-fault-of-lists s d e x y
        | inr (h, r, sp, k) ↦ absurd (no-fault-at-header s d h r x sp)
      ]
      | inr (h, r, sp, k) ↦ elim q [
        | inl y ↦ absurd (no-fault-at-header s e h r y sp)
        | inr (g, w, sq, l) ↦ said P h g r w d e (one-header s h g r w sp sq).0 k l
      ]
    ]

-- ---- values of one tag and form

abbrev pub Named : TagName → Bool → Header → Type 0
Named t f h = (h.tag ≡ t) × (h.constructed ≡ f)

pub sort-out : (t : TagName) (f : Bool) (s : List ℕ) (e : DecodeError) → IsContentsFault t f s e
    → IsHeaderFault s e ⊎ AtHeader (Named t f) s e
sort-out t f s Truncated p =
    elim p [
      | inl cut ↦ inl cut
      | inr (c, b, more, g) ↦ elim (cut-parts t f s c b more g) [
        | inl cut ↦ inl cut
        | inr (r, sp, short) ↦ inr (head-of t f (length c), r, sp, inl (refl, (refl, refl), short))
      ]
    ]
sort-out t f s BadTag p = inl p
sort-out t f s BadLength p = inl p
sort-out t f s Unexpected (h, r, sp, ne) = inr (h, r, sp, inr (refl, ne))
sort-out t f s (Content x) p = absurd p
sort-out t f s Trailing p = absurd p
sort-out t f s OutOfMemory p = absurd p

pub one-contents-fault : (t : TagName) (f : Bool) (s : List ℕ) (d e : DecodeError) → IsContentsFault t f s d
    → IsContentsFault t f s e → d ≡ e
one-contents-fault t f s d e p q = meet (Named t f) s d e (sort-out t f s d p) (sort-out t f s e q)

-- ---- values of a tag and form that is wanted

abbrev IsWantedIn : (TagName → Bool → Type 0) → Header → Type 0
IsWantedIn W h = W h.tag h.constructed

sort-flat : (W : TagName → Bool → Type 0) (s : List ℕ) (e : DecodeError) → IsWantedFault W s e
    → IsHeaderFault s e ⊎ AtHeader (IsWantedIn W) s e
sort-flat W s Truncated p =
    elim p [
      | inl cut ↦ inl cut
      | inr ((t, f, c), b, more, g) ↦ elim (cut-parts t f s c b more g.value) [
        | inl cut ↦ inl cut
        | inr (r, sp, short) ↦ inr (head-of t f (length c), r, sp, inl (refl, g.wanted, short))
      ]
    ]
sort-flat W s BadTag p = inl p
sort-flat W s BadLength p = inl p
sort-flat W s Unexpected (h, r, sp, ne) = inr (h, r, sp, inr (refl, ne))
sort-flat W s (Content x) p = absurd p
sort-flat W s Trailing p = absurd p
sort-flat W s OutOfMemory p = absurd p

pub one-flat-fault : (W : TagName → Bool → Type 0) (s : List ℕ) (d e : DecodeError) → IsWantedFault W s d
    → IsWantedFault W s e → d ≡ e
one-flat-fault W s d e p q = meet (IsWantedIn W) s d e (sort-flat W s d p) (sort-flat W s e q)

-- ---- leaves

-- where a value of the tag and form is, there is no fault but of its contents
pub no-fault-at-value : (t : TagName) (f : Bool) (s c r : List ℕ) (e : DecodeError) → IsContentsFault t f s e
    → Spells (SpellsContents t f) s c r → ⊥
no-fault-at-value t f s c r e p v =
    let sq = value-header t f s c r v in
    let k = head-of t f (length c) in
    elim (sort-out t f s e p) [
      | inl x ↦ no-fault-at-header s e k (c ++ r) x sq
      | inr (h, q, sp, says) ↦
          let one = one-header s h k q (c ++ r) sp sq in
          let size = length-append c r in
          elim says [
            | inl (a, n, short) ↦
                let tall : h.length ≡ length c = ap (λ (x : Header). x.length) one.0 in
                let long : length q ≡ length (c ++ r) = ap length one.1 in
                omega arith
            | inr (a, ne) ↦ ne (ap (λ (x : Header). x.tag) one.0, ap (λ (x : Header). x.constructed) one.0)
          ]
    ]

abbrev pub IsBad : TagName → Bool → List ℕ → DecodeError → Type 0
IsBad t f s e = (x : ContentError) × (e ≡ Content x) × ((c : List ℕ) × (r : List ℕ) × Spells (SpellsContents t f) s c r)

-- the fault of a leaf is that of a value, or one of its contents
pub leaf-parts : {V : Type 0} (t : TagName) (f : Bool) (C : V → List ℕ → Type 0) (s : List ℕ) (e : DecodeError)
    → IsLeafFault t f C s e → IsContentsFault t f s e ⊎ IsBad t f s e
leaf-parts t f C s Truncated p = inl p
leaf-parts t f C s BadTag p = inl p
leaf-parts t f C s BadLength p = inl p
leaf-parts t f C s Unexpected p = inl p
leaf-parts t f C s (Content x) (c, r, sp, none) = inr (x, refl, (c, r, sp))
leaf-parts t f C s Trailing p = absurd p
leaf-parts t f C s OutOfMemory p = absurd p

pub one-leaf-fault : {V : Type 0} (t : TagName) (f : Bool) (C : V → List ℕ → Type 0) (s : List ℕ) (d e : DecodeError)
    → IsLeafFault t f C s d → IsLeafFault t f C s e → error_number d ≡ error_number e
one-leaf-fault t f C s d e p q =
    elim (leaf-parts t f C s d p) [
      | inl a ↦ elim (leaf-parts t f C s e q) [
        | inl b ↦ ap error_number (one-contents-fault t f s d e a b)
        | inr (y, is, (c, r, sp)) ↦ absurd (no-fault-at-value t f s c r d a sp)
      ]
      | inr (x, is, (c, r, sp)) ↦ elim (leaf-parts t f C s e q) [
        | inl b ↦ absurd (no-fault-at-value t f s c r e b sp)
        | inr (y, so, z) ↦ ap error_number is ∙ sym (ap error_number so)
      ]
    ]
