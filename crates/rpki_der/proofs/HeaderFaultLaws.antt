-- The faults of a header exclude one another, and a header, over all lists.
use Rattle.std.proofs.Common.{◌≡◌, ℕ, ◌⊎◌, List, [], ◌∷◌, ◌++◌, refl, sym, ap, ◌∙◌, inl, inr, append_assoc}
use Rattle.std.proofs.lemmas.List.{append-nil}
use Rattle.rpki_der.specs.declared.error.DecodeError.{DecodeError}
use Rattle.rpki_der.specs.declared.error.DecodeError.TheVariants.{Truncated, BadTag, BadLength, Unexpected, Content}
use Rattle.rpki_der.specs.declared.error.DecodeError.TheVariants.{Trailing, OutOfMemory}
use Rattle.rpki_der.specs.declared.tag.Header.{Header}
use Rattle.rpki_der.specs.Header.{identifier_octets, length_octets}
use Rattle.rpki_der.specs.Reading.{Spells, IsCut}
use Rattle.rpki_der.specs.Values.{SpellsIdentifier, SpellsHeader, HasIdentifier, IsHeaderFault}
use Rattle.rpki_der.proofs.HeaderReadingLaws.{one-header}

-- of two beginnings of one list one begins the other
pub beginnings : (a b c d : List ℕ) → a ++ b ≡ c ++ d → ((x : List ℕ) × (c ≡ a ++ x)) ⊎ ((x : List ℕ) × (a ≡ c ++ x))
beginnings [] b c d e = inl (c, refl)
beginnings (x ∷ a) b [] d e = inr (x ∷ a, refl)
beginnings (x ∷ a) b (y ∷ c) d e =
    let tail : a ++ b ≡ c ++ d = cc in
    let same : x ≡ y = cc in
    elim (beginnings a b c d tail) [
      | inl h ↦ let is = h.1 in inl (h.0, cc)
      | inr h ↦ let is = h.1 in inr (h.0, cc)
    ]

-- a cut header begins with an identifier, or is a cut one
cut-identifier : (s : List ℕ) → IsCut SpellsHeader s → (HasIdentifier s → ⊥) → (IsCut SpellsIdentifier s → ⊥) → ⊥
cut-identifier s (h, b, more, g) none uncut =
    elim (beginnings s (b ∷ more) (identifier_octets h.tag h.constructed) (length_octets h.length) g.octets) [
      | inl ([], is) ↦ none (
        (h.tag, h.constructed),
        [],
        record {
          front = s;
          parts = sym (append-nil s);
          spelled = record
              { legal = g.legal.tag; octets = sym (append-nil s) ∙ sym is };
        },
      )
      | inl (x ∷ xs, is) ↦ uncut ((h.tag, h.constructed), x, xs, record { legal = g.legal.tag; octets = sym is })
      | inr (x, is) ↦ none (
        (h.tag, h.constructed),
        x,
        record {
          front = identifier_octets h.tag h.constructed;
          parts = is;
          spelled = record
              { legal = g.legal.tag; octets = refl };
        },
      )
    ]

-- octets that a header begins have no fault
pub no-fault-at-header : (s : List ℕ) (e : DecodeError) (h : Header) (r : List ℕ) → IsHeaderFault s e
    → Spells SpellsHeader s h r → ⊥
no-fault-at-header s Truncated h r (k, b, more, g) sp =
    let grown : Spells SpellsHeader (s ++ b ∷ more) h (r ++ b ∷ more) = record {
      front = sp.front;
      parts = ap (λ (l : List ℕ). l ++ b ∷ more) sp.parts ∙ append_assoc sp.front r (b ∷ more);
      spelled = sp.spelled;
    } in
    let whole : Spells SpellsHeader (s ++ b ∷ more) k [] = record
    { front = s ++ b ∷ more; parts = sym (append-nil (s ++ b ∷ more)); spelled = g } in
    no-more r (one-header (s ++ b ∷ more) h k (r ++ b ∷ more) [] grown whole).1
  where
    no-more : (r : List ℕ) → r ++ b ∷ more ≡ [] → ⊥
    no-more [] e = cc
    no-more (x ∷ r) e = cc
no-fault-at-header s BadTag h r f sp =
    f.0 (
      (h.tag, h.constructed),
      length_octets h.length ++ r,
      record {
        front = identifier_octets h.tag h.constructed;
        parts = sp.parts ∙ ap (λ (l : List ℕ). l ++ r)
            sp.spelled.octets ∙ append_assoc (identifier_octets h.tag h.constructed) (length_octets h.length) r;
        spelled =
            record { legal = sp.spelled.legal.tag; octets = refl };
      },
    )
no-fault-at-header s BadLength h r f sp = f.1 h r sp
no-fault-at-header s Unexpected h r f sp = f
no-fault-at-header s (Content x) h r f sp = f
no-fault-at-header s Trailing h r f sp = f
no-fault-at-header s OutOfMemory h r f sp = f

pub one-fault-of-lists : (s : List ℕ) (d e : DecodeError) → IsHeaderFault s d → IsHeaderFault s e → d ≡ e
one-fault-of-lists s Truncated Truncated f g = refl
one-fault-of-lists s Truncated BadTag f g = absurd (cut-identifier s f g.0 g.1)
one-fault-of-lists s Truncated BadLength f g = absurd (g.2 f)
one-fault-of-lists s BadTag Truncated f g = absurd (cut-identifier s g f.0 f.1)
one-fault-of-lists s BadTag BadTag f g = refl
one-fault-of-lists s BadTag BadLength f g = absurd (f.0 g.0)
one-fault-of-lists s BadLength Truncated f g = absurd (f.2 g)
one-fault-of-lists s BadLength BadTag f g = absurd (g.0 f.0)
one-fault-of-lists s BadLength BadLength f g = refl
one-fault-of-lists s Unexpected e f g = absurd f
one-fault-of-lists s (Content x) e f g = absurd f
one-fault-of-lists s Trailing e f g = absurd f
one-fault-of-lists s OutOfMemory e f g = absurd f
one-fault-of-lists s Truncated Unexpected f g = absurd g
one-fault-of-lists s Truncated (Content x) f g = absurd g
one-fault-of-lists s Truncated Trailing f g = absurd g
one-fault-of-lists s Truncated OutOfMemory f g = absurd g
one-fault-of-lists s BadTag Unexpected f g = absurd g
one-fault-of-lists s BadTag (Content x) f g = absurd g
one-fault-of-lists s BadTag Trailing f g = absurd g
one-fault-of-lists s BadTag OutOfMemory f g = absurd g
one-fault-of-lists s BadLength Unexpected f g = absurd g
one-fault-of-lists s BadLength (Content x) f g = absurd g
one-fault-of-lists s BadLength Trailing f g = absurd g
one-fault-of-lists s BadLength OutOfMemory f g = absurd g
