-- The subject of a request: a name, or none.
use Rattle.std.proofs.Common.{◌≡◌, ◌∙◌, ℕ, List, [], ◌∷◌, ◌++◌, Option, None, Some, refl, sym, ap, subst, true}
use Rattle.rpki_der.specs.declared.error.DecodeError.{DecodeError}
use Rattle.rpki_der.specs.Prelude.{sequence, set, Spells, Accepts, Refuses, SpellsSome, end}
use Rattle.rpki_der.specs.Reading.{Refusal}
use Rattle.rpki_der.proofs.MembersLaws.{same-value}
use Rattle.rpki_der.proofs.LeafValueLaws.{leaf-nowhere}
use Rattle.rpki_der.proofs.ReadingLaws.{UnlessMemory-weaker}
use Rattle.rpki_der.proofs.FirstFaultLaws.{end-no-memory}
use Rattle.rpki_resources.proofs.ComposingLaws.{NeverFails, around-never}
use Rattle.rpki.specs.Name.{Attribute, SpellsNameOctets, SpellsRelative, SpellsAttribute}
use Rattle.rpki.specs.NameFault.{name}
use Rattle.rpki_request.specs.Request.{nameless, subject, SpellsSubject}

pub nameless-never : NeverFails nameless
nameless-never = around-never sequence end end-no-memory

-- there are no relative distinguished names in nothing
none-in : (xs : List (List Attribute)) → SpellsSome SpellsRelative xs [] → ⊥
none-in [] h = h.some refl
none-in (x ∷ xs) h = leaf-nowhere set true (SpellsSome SpellsAttribute) [] x h.each.0 refl h.each.1

-- a SEQUENCE of nothing is no name
no-both : (s r q n : List ℕ) → Spells nameless.spells s tt r → Spells SpellsNameOctets s n q → ⊥
no-both s r q n h k =
    let l = k.spelled.named.1 in
    let left = ap (λ (w : List ℕ). w ++ r) h.spelled.value.octets in
    let right = ap (λ (w : List ℕ). w ++ q) (k.spelled.same ∙ l.value.octets) in
    let same = same-value sequence sequence true true h.spelled.contents l.contents r q
    (h.spelled.value.tag, h.spelled.value.fits) (l.value.tag, l.value.fits)
    (sym left ∙ sym h.parts ∙ k.parts ∙ right) in
    none-in k.spelled.named.0
    (subst (λ (c : List ℕ). SpellsSome SpellsRelative k.spelled.named.0 c) (sym same.contents ∙ h.spelled.spelled)
    l.spelled)

module _ (s r : List ℕ) where
  none-only : Accepts nameless.spells s tt r → (w : Option (List ℕ)) (q : List ℕ) → Spells SpellsSubject s w q
      → (w ≡ None) × (q ≡ r)
  none-only a None q h = (
    refl,
    (a.only tt q (record { front = h.front; parts = h.parts; spelled = h.spelled })).1,
  )
  none-only a (Some n) q h =
      absurd (no-both s r q n a.spells (record { front = h.front; parts = h.parts; spelled = h.spelled }))

  pub none-accepted : Accepts nameless.spells s tt r → Accepts SpellsSubject s None r
  none-accepted a = record {
    spells = record { front = a.spells.front; parts = a.spells.parts; spelled = a.spells.spelled };
    only = none-only a;
  }

  name-only : (n : List ℕ) → Accepts SpellsNameOctets s n r → (w : Option (List ℕ)) (q : List ℕ)
      → Spells SpellsSubject s w q → (w ≡ Some n) × (q ≡ r)
  name-only n a None q h =
      absurd (no-both s q r n (record { front = h.front; parts = h.parts; spelled = h.spelled }) a.spells)
  name-only n a (Some m) q h =
      let e = a.only m q (record { front = h.front; parts = h.parts; spelled = h.spelled }) in
      (ap (λ (x : List ℕ). Some x) e.0, e.1)

  pub name-accepted : (n : List ℕ) → Accepts SpellsNameOctets s n r → Accepts SpellsSubject s (Some n) r
  name-accepted n a = record {
    spells = record { front = a.spells.front; parts = a.spells.parts; spelled = a.spells.spelled };
    only = name-only n a;
  }

  neither : Refuses nameless.spells s → Refuses SpellsNameOctets s → (w : Option (List ℕ)) (q : List ℕ)
      → Spells SpellsSubject s w q → ⊥
  neither none unnamed None q h = none tt q (record { front = h.front; parts = h.parts; spelled = h.spelled })
  neither none unnamed (Some n) q h = unnamed n q (record { front = h.front; parts = h.parts; spelled = h.spelled })

  pub subject-refused : (e : DecodeError) → Refuses nameless.spells s → Refusal name.spells name.fault s r e
      → Refusal subject.spells subject.fault s r e
  subject-refused e none h = record {
    unchanged = h.unchanged;
    refuses = UnlessMemory-weaker e (λ named. neither none named) h.refuses;
    kind = h.kind;
  }
