-- What is made of values that are spelled: names and access descriptions.
use Rattle.std.proofs.Common.{◌≡◌, ◌≢◌, ◌<◌, ◌∙◌, ℕ, length, Bool, true, false, List, [], ◌∷◌, Option, Some, None, refl}
use Rattle.std.proofs.Common.{ap, subst}
use Rattle.std.specs.Prelude.{◌||◌, if◌then◌else◌}
use Rattle.std.specs.Option.{is_some, option_or, option_copied}
use denote.Ref.{Bor}
use Rattle.rpki_der.specs.declared.error.DecodeError.{DecodeError}
use Rattle.rpki_der.specs.declared.error.DecodeError.TheVariants.{OutOfMemory}
use Rattle.rpki_der.specs.TagName.{context_6, oid}
use Rattle.rpki_der.specs.Reading.{Spells, Accepts, Refuses, Refusal, SpellsNothing}
use Rattle.rpki_der.specs.Parts.{Then}
use Rattle.rpki_der.proofs.ComposedLaws.{all-read, nothing-after, nothing-whole}
use Rattle.rpki_der.specs.Text.{IsIa5Text}
use Rattle.rpki_der.specs.Each.{SpellsSome}
use Rattle.rpki_der.proofs.LeavesLaws.{leaf-no-memory}
use Rattle.rpki_der.proofs.EachLaws.{leaf-some}
use Rattle.rpki_der.proofs.LeafValueLaws.{leaf-shorter}
use Rattle.rpki_text.specs.RsyncText.{rsync_refusal}
use Rattle.rpki_text.specs.HttpsText.{https_refusal}
use Rattle.rpki_cert.specs.GeneralName.{SpellsText, IsTextFault}
use Rattle.rpki_cert.specs.Access.{Through, SpellsUri, IsOidAs, SpellsOidAs, IsOidAsFault, first_rsync, first_https}
use Rattle.rpki_cert.specs.ExtensionContent.{SpellsPurpose, has_router, ArePurposes}
use Rattle.rpki_x509.proofs.FrameLaws.{refused}

-- ---- through a function

pub accepts-through : {V W : Type 0} (f : W → V) (G : W → List ℕ → Type 0) (s r : List ℕ) (w : W) → Accepts G s w r
    → Accepts (Through f G) s (f w) r
accepts-through f G s r w a = record {
  spells = record { front = a.spells.front; parts = a.spells.parts; spelled = (w, a.spells.spelled, refl) };
  only = λ v q h. let e = a.only h.spelled.0 q (record { front = h.front; parts = h.parts; spelled = h.spelled.1 }) in
      (h.spelled.2 ∙ ap f e.0, e.1);
}

-- ---- URIs

pub uri-some : (v : Option (List ℕ)) → SpellsUri v [] → ⊥
uri-some v h = leaf-some context_6 false IsIa5Text h.0 h.1

pub uri-shorter : (s r : List ℕ) (v : Option (List ℕ)) → Spells SpellsUri s v r → length r < length s
uri-shorter s r v h = leaf-shorter context_6 false IsIa5Text s h.spelled.0 r
    (record { front = h.front; parts = h.parts; spelled = h.spelled.1 })

-- ---- read in place

pub oid-refused : (expected s r : List ℕ) (e : DecodeError)
    → Refusal (SpellsOidAs expected) (IsOidAsFault expected) s r e → Refuses (SpellsOidAs expected) s
oid-refused expected s r e h = refused (SpellsOidAs expected) (IsOidAsFault expected) s r e
    (λ k. leaf-no-memory oid false (IsOidAs expected) s OutOfMemory k refl) h

pub uri-refused : (s : List ℕ) → Refuses SpellsText s → Refuses SpellsUri s
uri-refused s none v q k = none k.spelled.0 q (record { front = k.front; parts = k.parts; spelled = k.spelled.1 })

pub text-refused : (s r : List ℕ) (e : DecodeError) → Refusal SpellsText IsTextFault s r e → Refuses SpellsText s
text-refused s r e h = refused SpellsText IsTextFault s r e
    (λ k. leaf-no-memory context_6 false IsIa5Text s OutOfMemory k refl) h

-- whether a router's purpose is among some

or-assoc : (a b x : Bool) → (a || (b || x)) ≡ ((a || b) || x)
or-assoc true b x = refl
or-assoc false b x = refl

pub or-joined : (a b both x : Bool) → both ≡ (a || b) → (a || (b || x)) ≡ (both || x)
or-joined a b both x e = rw e (or-assoc a b x)

abbrev Some-purposes : Bool → List ℕ → Type 0
Some-purposes = Through has_router (SpellsSome SpellsPurpose)

pub as-purposes : (s : List ℕ) (b : Bool) → Some-purposes b s × ((w : Bool) → Some-purposes w s → w ≡ b)
    → ArePurposes b s × ((w : Bool) → ArePurposes w s → w ≡ b)
as-purposes s b h = (record { purposes = h.0.0; some = h.0.1; same = h.0.2 }, λ w k. h.1 w (k.purposes, k.some, k.same))

pub no-purposes : (s : List ℕ) → SpellsNothing Some-purposes s → SpellsNothing ArePurposes s
no-purposes s none b k = none b (k.purposes, k.some, k.same)

-- the first of two, each perhaps a URI

pub copied-or : {T : Type 0} (a b : Option (Bor T))
    → option_copied (option_or a b) ≡ option_or (option_copied a) (option_copied b)
copied-or None b = refl
copied-or (Some x) b = refl

pub or-none : (a : Option (List ℕ)) → option_or a None ≡ a
or-none None = refl
or-none (Some x) = refl

either-first : (b : Bool) (text : List ℕ) (x : Option (List ℕ))
    → (if b then x else Some text) ≡ option_or (if b then None else Some text) x
either-first true text x = refl
either-first false text x = refl

pub or-first : (a v : Option (List ℕ)) (zs : List (Option (List ℕ)))
    → option_or a (first_rsync (v ∷ zs)) ≡ option_or (option_or a (first_rsync (v ∷ []))) (first_rsync zs)
or-first (Some x) v zs = refl
or-first None None zs = refl
or-first None (Some text) zs = either-first (is_some (rsync_refusal text)) text (first_rsync zs)

-- a is what was found, v the next name, u what is made of it, and b what is kept
pub next-rsync : (a v u b : Option (List ℕ)) → b ≡ option_or a u → u ≡ first_rsync (v ∷ [])
    → (zs : List (Option (List ℕ))) → option_or a (first_rsync (v ∷ zs)) ≡ option_or b (first_rsync zs)
next-rsync a v u b e f zs = rw (e, f) (or-first a v zs)

-- the same of https URIs

pub or-first-https : (a v : Option (List ℕ)) (zs : List (Option (List ℕ)))
    → option_or a (first_https (v ∷ zs)) ≡ option_or (option_or a (first_https (v ∷ []))) (first_https zs)
or-first-https (Some x) v zs = refl
or-first-https None None zs = refl
or-first-https None (Some text) zs = either-first (is_some (https_refusal text)) text (first_https zs)

-- parts, in sequence, that are all there is

module _ {A B : Type 0} (G : A → List ℕ → Type 0) (H : B → List ℕ → Type 0) (s : List ℕ) where
  abbrev Pair : A × B → List ℕ → Type 0
  Pair = Then G H

  first-part : (w : A × B) (k : Pair w s) → Spells G s w.0 k.second
  first-part w k = record { front = k.first; parts = k.parts; spelled = k.one }

  pub pair-first : Refuses G s → SpellsNothing Pair s
  pair-first none w k = none w.0 k.second (first-part w k)

  module _ (m : List ℕ) (a : A) (one : Accepts G s a m) where
    second-part : (w : A × B) (k : Pair w s) → (w.0 ≡ a) × H w.1 m
    second-part w k = let e = one.only w.0 k.second (first-part w k) in (e.0, subst (H w.1) e.1 k.two)

    pub pair-second : Refuses H m → SpellsNothing Pair s
    pair-second none w k = nothing-whole H m none w.1 (second-part w k).1

    pub pair-more : (r : List ℕ) (b : B) → Accepts H m b r → (r ≢ []) → SpellsNothing Pair s
    pair-more r b two some w k = nothing-after H m r b two some w.1 (second-part w k).1

    pub pair-all : (r : List ℕ) (b : B) → Accepts H m b r → r ≡ []
        → Pair (a, b) s × ((w : A × B) → Pair w s → w ≡ (a, b))
    pair-all r b two end =
        let all = all-read H m b r two end in (
          record {
            first = one.spells.front;
            second = m;
            parts = one.spells.parts;
            one = one.spells.spelled;
            two =
                all.0;
          },
          λ w k.
              let e = second-part w k in
              ap (λ (x : A). (x, w.1)) e.0 ∙ ap (λ (y : B). (a, y)) (all.1 w.1 e.1),
        )
