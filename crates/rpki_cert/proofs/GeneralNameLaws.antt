-- General names: their forms, and how one is read.
use Rattle.std.proofs.Common.{arith, ◌≡◌, ◌≢◌, ℕ, Bool, true, false, List, [], Option, Some, None, inl, inr, refl, sym}
use Rattle.std.proofs.Common.{ap, subst}
use Rattle.std.specs.Prelude.{◌⊎◌, codes}
use Rattle.rpki_der.specs.declared.error.DecodeError.{DecodeError}
use Rattle.rpki_der.specs.declared.error.DecodeError.TheVariants.{Content, OutOfMemory}
use Rattle.rpki_der.specs.declared.error.ContentError.{ContentError}
use Rattle.rpki_der.specs.ErrorText.{text_of}
use Rattle.rpki_der.specs.TagName.{TagName, context_6}
use Rattle.rpki_der.specs.Reading.{Spells, Accepts, Refuses, Refusal}
use Rattle.rpki_der.specs.Values.{SpellsLeaf, HasTag}
use Rattle.rpki_der.specs.WantedValue.{SpellsWanted, IsAnyTag, IsWantedFault}
use Rattle.rpki_der.specs.Text.{IsIa5Text}
use Rattle.rpki_der.proofs.LeavesLaws.{leaf-tag, leaf-no-memory}
use Rattle.rpki_der.proofs.PartsLaws.{tags-apart}
use Rattle.rpki_der.proofs.ComposedLaws.{all-read, spelled-whole, nothing-whole}
use Rattle.rpki_der.proofs.InsideLaws.{unless-memory}
use Rattle.rpki_der.proofs.ReadingLaws.{UnlessMemory-weaker}
use Rattle.rpki.specs.Name.{IsName, SpellsNameOctets}
use Rattle.rpki_cert.specs.GeneralName.{SpellsText, IsTextFault, IsPlainName, IsBuiltName, IsFormOf, IsOtherName}
use Rattle.rpki_cert.specs.GeneralName.{SpellsName, IsNameFault}

-- ---- which form has the number of a tag

pub plain-six : (n : ℕ) (c : List ℕ) → n ≡ 6 → IsPlainName n c → ⊥
plain-six n c e (inl k) = one-or-two k.tag where
  one-or-two : (n ≡ 1) ⊎ (n ≡ 2) → ⊥
  one-or-two (inl o) = omega (arith, e, o)
  one-or-two (inr o) = omega (arith, e, o)
plain-six n c e (inr (inl k)) = let o = k.tag in omega (arith, e, o)
plain-six n c e (inr (inr k)) = let o = k.tag in omega (arith, e, o)

pub built-six : (n : ℕ) (c : List ℕ) → n ≡ 6 → IsBuiltName n c → ⊥
built-six n c e (inl k) = nested k.tag where
  nested : (n ≡ 0) ⊎ (n ≡ 3) ⊎ (n ≡ 5) → ⊥
  nested (inl o) = omega (arith, e, o)
  nested (inr (inl o)) = omega (arith, e, o)
  nested (inr (inr o)) = omega (arith, e, o)
built-six n c e (inr k) = let o = k.tag in omega (arith, e, o)

form-six : (f : Bool) (n : ℕ) (c : List ℕ) → n ≡ 6 → IsFormOf f n c → ⊥
form-six false = plain-six
form-six true = built-six

other-not-uri : (x : TagName × Bool × List ℕ) → IsOtherName x → x.0 ≢ context_6
other-not-uri x h e = form-six x.1 x.0.number x.2 (ap (λ (t : TagName). t.number) e) h.form

-- ---- a name of the directory

pub directory-there : (s v r : List ℕ) → Accepts SpellsNameOctets s v r → r ≡ [] → IsName s
directory-there s v r a end = let h = (all-read SpellsNameOctets s v r a end).0 in subst IsName (sym h.same) h.named

pub directory-end : (s v r : List ℕ) → Accepts SpellsNameOctets s v r → IsName s → r ≡ []
directory-end s v r a h = sym (a.only s [] (spelled-whole SpellsNameOctets s s (record { same = refl; named = h }))).1

pub directory-none : (s : List ℕ) → Refuses SpellsNameOctets s → IsName s → ⊥
directory-none s none h = nothing-whole SpellsNameOctets s none s (record { same = refl; named = h })

-- ---- a general name

abbrev Any : TagName × Bool × List ℕ → List ℕ → Type 0
Any = SpellsWanted IsAnyTag

-- any contents
abbrev Whatever : Unit {0} → List ℕ → Type 0
Whatever w c = Unit {0}

any-tag : (s : List ℕ) (x : TagName × Bool × List ℕ) (r : List ℕ) → Spells Any s x r
    → Spells (SpellsLeaf x.0 x.1 Whatever) s tt r
any-tag s x r h = record {
  front = h.front;
  parts = h.parts;
  spelled =
      record { contents = x.2; value = h.spelled.value; spelled = tt };
}

other-tag : (s : List ℕ) (x : TagName × Bool × List ℕ) (r : List ℕ) → Spells Any s x r → (x.0 ≢ context_6)
    → HasTag context_6 s → ⊥
other-tag s x r h other there =
    tags-apart {B = Unit {0}} {H = λ b q. Spells Any q x r} context_6 x.0 x.1 Whatever (λ e. other (sym e))
    (λ b q k. (tt, r, any-tag q x r k)) tt s h there

as-text : (s text r : List ℕ) → Spells SpellsName s (Some text) r → Spells SpellsText s text r
as-text s text r h = record { front = h.front; parts = h.parts; spelled = h.spelled }

as-any : (s r : List ℕ) → Spells SpellsName s None r → (x : TagName × Bool × List ℕ) × Spells Any s x r × IsOtherName x
as-any s r h = (h.spelled.0, record { front = h.front; parts = h.parts; spelled = h.spelled.1 }, h.spelled.2)

pub name-uri : (s text r : List ℕ) → HasTag context_6 s → Accepts SpellsText s text r
    → Accepts SpellsName s (Some text) r
name-uri s text r there a = record {
  spells =
      record { front = a.spells.front; parts = a.spells.parts; spelled = a.spells.spelled };
  only = only;
}
  where
    only : (w : Option (List ℕ)) (q : List ℕ) → Spells SpellsName s w q → (w ≡ Some text) × (q ≡ r)
    only (Some other) q h = let e = a.only other q (as-text s other q h) in (ap (λ (t : List ℕ). Some t) e.0, e.1)
    only None q h = let k = as-any s q h in absurd (other-tag s k.0 q k.1 (other-not-uri k.0 k.2) there)

pub no-uri : (s : List ℕ) → HasTag context_6 s → Refuses SpellsText s → Refuses SpellsName s
no-uri s there none (Some text) r h = none text r (as-text s text r h)
no-uri s there none None r h = let k = as-any s r h in other-tag s k.0 r k.1 (other-not-uri k.0 k.2) there

module _ (s : List ℕ) (without : HasTag context_6 s → ⊥) where
  no-text : (text r : List ℕ) → Spells SpellsName s (Some text) r → ⊥
  no-text text r h = without (leaf-tag context_6 false IsIa5Text s text r (as-text s text r h))

  pub name-other : (r : List ℕ) (x : TagName × Bool × List ℕ) → Accepts Any s x r → IsOtherName x
      → Accepts SpellsName s None r
  name-other r x a is =
      record {
        spells = record { front = a.spells.front; parts = a.spells.parts; spelled = (x, a.spells.spelled, is) };
        only = only;
      }
    where
      only : (w : Option (List ℕ)) (q : List ℕ) → Spells SpellsName s w q → (w ≡ None) × (q ≡ r)
      only (Some text) q h = absurd (no-text text q h)
      only None q h = let k = as-any s q h in (refl, (a.only k.0 q k.1).1)

  pub no-value : Refuses Any s → Refuses SpellsName s
  no-value none (Some text) r h = no-text text r h
  no-value none None r h = let k = as-any s r h in none k.0 r k.1

  pub no-other : (r : List ℕ) (x : TagName × Bool × List ℕ) → Accepts Any s x r → (IsOtherName x → ⊥)
      → Refuses SpellsName s
  no-other r x a isnt (Some text) q h = no-text text q h
  no-other r x a isnt None q h = let k = as-any s q h in isnt (subst IsOtherName (a.only k.0 q k.1).0 k.2)

-- ---- its errors

pub text-refused : (s r q : List ℕ) (e : DecodeError) → q ≡ s → HasTag context_6 s
    → Refusal SpellsText IsTextFault s r e → Refusal SpellsName IsNameFault s q e
text-refused s r q e same there h = record {
  unchanged = same;
  refuses =
      UnlessMemory-weaker e (no-uri s there) h.refuses;
  kind = inl (there, h.kind);
}

pub value-refused : (s r q : List ℕ) (e : DecodeError) → q ≡ s → (HasTag context_6 s → ⊥)
    → Refusal Any (IsWantedFault IsAnyTag) s r e → Refusal SpellsName IsNameFault s q e
value-refused s r q e same without h = record {
  unchanged = same;
  refuses =
      UnlessMemory-weaker e (no-value s without) h.refuses;
  kind = inr (without, inl h.kind);
}

pub other-refused : (s : List ℕ) → (HasTag context_6 s → ⊥) → (r : List ℕ) (x : TagName × Bool × List ℕ)
    → Accepts Any s x r → (IsOtherName x → ⊥) → (e : ContentError) → text_of e ≡ codes "malformed general name"
    → Refusal SpellsName IsNameFault s s (Content e)
other-refused s without r x a isnt e text = record {
  unchanged = refl;
  refuses = no-other s without r x a isnt;
  kind = inr (without, inr (record { value = x; rest = r; begins = a.spells; other = isnt; text = text }));
}

wanted-no-memory : (s : List ℕ) → IsWantedFault IsAnyTag s OutOfMemory → ⊥
wanted-no-memory s k = k

pub name-no-memory : (s : List ℕ) → IsNameFault s OutOfMemory → ⊥
name-no-memory s (inl h) = leaf-no-memory context_6 false IsIa5Text s OutOfMemory h.1 refl
name-no-memory s (inr (without, inl k)) = wanted-no-memory s k
name-no-memory s (inr (without, inr k)) = let t = k.text in t

pub name-refused : (s r : List ℕ) (e : DecodeError) → Refusal SpellsName IsNameFault s r e → Refuses SpellsName s
name-refused s r e h = unless-memory e (λ z. name-no-memory s (subst (λ (d : DecodeError). IsNameFault s d) z h.kind))
    h.refuses
