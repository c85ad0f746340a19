-- One answer is due to an input.
use Rattle.std.proofs.Common.{◌≡◌, ℕ, ◌≤◌, ◌^◌, List, [], ◌∷◌, ◌++◌, length, inl, inr, refl, sym, ap, ◌∙◌, subst, arith}
use Rattle.std.specs.Prelude.{◌⊎◌, ◌↔◌, Bool, true, false, IsTrue, Option, Some, Ok, Err, codes}
use Rattle.rpki_der.specs.Reading.{SpellsNothing}
use Rattle.rpki.specs.SignedData.{written_contents, written_signed}
use Rattle.rpki.specs.PublicKey.{SpellsKey}
use Rattle.rpki.specs.KeyFault.{key}
use Rattle.rpki.specs.Name.{SpellsNameOctets}
use Rattle.rpki.specs.NameFault.{IsNameFault}
use Rattle.rpki_text.specs.HexText.{hex_text}
use Rattle.rpki_text.specs.declared.uri.error.Error.{Error}
use Rattle.sha1.specs.Sha1.{sha1}
use Rattle.rpkibasic.specs.UriLines.{without_last_line_feed, uri_refusal_of}
use Rattle.rpkibasic.specs.NameLines.{AreNameLines}
use Rattle.rpkibasic.specs.Fault.{text_of}
use Rattle.rpki_der.specs.declared.error.DecodeError.{DecodeError}
use Rattle.rpkibasic.specs.Run.{SpellsExtensions, written_extensions, IsExtensionFault, Signed, SpellsRpki, IsRpkiFault}
use Rattle.rpkibasic.specs.Run.{SpellsOnly, written_algorithm, IsTooLong, IsFaultOf, IsRefusedText, IsDue}
use Rattle.rpkibasic.specs.declared.command.Command.{Command}
use Rattle.rpkibasic.specs.declared.command.Command.TheVariants.{Again, Data, Key, Uri, Ext, Name}
use Rattle.rpkibasic.specs.declared.fault.Fault.{Fault}
use Rattle.rpkibasic.specs.declared.fault.Fault.TheVariants.{Usage, Refused, RefusedUri, TooLong, OutOfMemory, Input}
use Rattle.rpkibasic.specs.declared.fault.Fault.TheVariants.{Output}

-- what is made of the one value
of-one : {V X : Type 0} (G : V → List ℕ → Type 0) (make : V → X) (input : List ℕ) (v w : V) (s t : X)
    → SpellsOnly G v input → SpellsOnly G w input → s ≡ make v → t ≡ make w → s ≡ t
of-one G make input v w s t a b e f = e ∙ ap make (b.1 v a.0) ∙ sym f

same-answer : (b c : Bool) {P : Type 0} → IsTrue b ↔ P → IsTrue c ↔ P → b ≡ c
same-answer true true h k = refl
same-answer true false h k = sym (k.1 (h.0 refl))
same-answer false true h k = h.1 (k.0 refl)
same-answer false false h k = refl

same-lines : (octets s t : List ℕ) → AreNameLines octets s → AreNameLines octets t → s ≡ t
same-lines octets s t a b =
    let rpki = same-answer a.rpki b.rpki a.is_rpki b.is_rpki in
    let router = same-answer a.router b.router a.is_router b.is_router in
    a.lines ∙ rw (rpki, router) (sym b.lines)

one-inspection : (input s t : List ℕ) → IsDue Name input (Ok s) → IsDue Name input (Ok t) → s ≡ t
one-inspection input s t a b = same-lines a.0 s t a.2 (subst (λ (n : List ℕ). AreNameLines n t) (a.1.1 b.0 b.1.0) b.2)

pub one-text : (command : Command) (input s t : List ℕ) → IsDue command input (Ok s) → IsDue command input (Ok t)
    → s ≡ t
one-text Again input s t a b = of-one SpellsRpki (written_signed written_algorithm) input a.0 b.0 s t a.1 b.1 a.3 b.3
one-text Data input s t a b = of-one SpellsRpki (λ x. x.signed) input a.0 b.0 s t a.1 b.1 a.2 b.2
one-text Key input s t a b = of-one SpellsKey (λ k. hex_text (sha1 k.bits.octets) ++ 10 ∷ []) input a.0 b.0 s t a.1 b.1
    a.2 b.2
one-text Uri input s t a b = a.1 ∙ sym b.1
one-text Ext input s t a b = of-one SpellsExtensions written_extensions input a.0 b.0 s t a.1 b.1 a.2 b.2
one-text Name input s t a b = one-inspection input s t a b

-- a fault of an input is T, or the input is in no grammar
two-faults : {V : Type 0} (G : V → List ℕ → Type 0) (K : List ℕ → DecodeError → Type 0) (T : Type 0) (input : List ℕ)
    (f : Fault) → IsFaultOf G K T input f → (T × (text_of f ≡ text_of TooLong))
    ⊎ (SpellsNothing G input × (text_of f ≡ codes "refused "))
two-faults G K T input (Refused e) h = inr (h.1, refl)
two-faults G K T input (RefusedUri e) h = absurd h
two-faults G K T input TooLong h = inl (h, refl)
two-faults G K T input OutOfMemory h = absurd h
two-faults G K T input Input h = absurd h
two-faults G K T input Usage h = absurd h
two-faults G K T input Output h = absurd h

-- a text has no lines for what is wrong with it first
one-wrong : (wrong : Option Error) (f : Fault) → IsRefusedText wrong f
    → (e : Error) × (f ≡ RefusedUri e) × (wrong ≡ Some e)
one-wrong wrong (Refused e) h = absurd h
one-wrong wrong (RefusedUri e) h = (e, refl, h)
one-wrong wrong TooLong h = absurd h
one-wrong wrong OutOfMemory h = absurd h
one-wrong wrong Input h = absurd h
one-wrong wrong Usage h = absurd h
one-wrong wrong Output h = absurd h

-- why an input isn't extensions
not-extensions : (input : List ℕ) (f : Fault) → IsExtensionFault input f
    → (e : DecodeError) × (f ≡ Refused e) × SpellsNothing SpellsExtensions input
not-extensions input (Refused e) h = (e, refl, h.none)
not-extensions input (RefusedUri e) h = absurd h
not-extensions input TooLong h = absurd h
not-extensions input OutOfMemory h = absurd h
not-extensions input Input h = absurd h
not-extensions input Usage h = absurd h
not-extensions input Output h = absurd h

-- what fits is not too long
not-too-long : (input s : List ℕ) → IsDue Again input (Ok s) → IsTooLong input → ⊥
not-too-long input s a b =
    let long = subst (λ (x : Signed). 2 ^ 32 ≤ length (written_contents written_algorithm x)) (a.1.1 b.0 b.1.0) b.2 in
    absurd (omega (arith, long, a.2))

no-fault : {V : Type 0} (G : V → List ℕ → Type 0) (K : List ℕ → DecodeError → Type 0) (T : Type 0) (input : List ℕ)
    (v : V) (f : Fault) → G v input → (T → ⊥) → IsFaultOf G K T input f → ⊥
no-fault G K T input v f g never h = elim (two-faults G K T input f h) [
  | inl p ↦ never p.0
  | inr p ↦ p.0 v g
]

pub text-or-fault : (command : Command) (input s : List ℕ) (e : Fault) → IsDue command input (Ok s)
    → IsDue command input (Err e) → ⊥
text-or-fault Again input s e a b = no-fault SpellsRpki IsRpkiFault (IsTooLong input) input a.0 e a.1.0
    (not-too-long input s a) b
text-or-fault Data input s e a b = no-fault SpellsRpki IsRpkiFault ⊥ input a.0 e a.1.0 (λ z. z) b
text-or-fault Key input s e a b = no-fault SpellsKey key.fault ⊥ input a.0 e a.1.0 (λ z. z) b
text-or-fault Name input s e a b = no-fault SpellsNameOctets IsNameFault ⊥ input a.0 e a.1.0 (λ z. z) b
text-or-fault Ext input s e a b = (not-extensions input e b).2 a.0 a.1.0
text-or-fault Uri input s e a b = let w = one-wrong (uri_refusal_of (without_last_line_feed input)) e b in let x =
    sym a.0 ∙ w.2 in cc

one-kind : {V : Type 0} (G : V → List ℕ → Type 0) (K : List ℕ → DecodeError → Type 0) (T : Type 0) (input : List ℕ)
    (e f : Fault) → (T → SpellsNothing G input → ⊥) → IsFaultOf G K T input e → IsFaultOf G K T input f
    → text_of e ≡ text_of f
one-kind G K T input e f never h k = elim (two-faults G K T input e h) [
  | inl p ↦ elim (two-faults G K T input f k) [
    | inl q ↦ p.1 ∙ sym q.1
    | inr q ↦ absurd (never p.0 q.0)
  ]
  | inr p ↦ elim (two-faults G K T input f k) [
    | inl q ↦ absurd (never q.0 p.0)
    | inr q ↦ p.1 ∙ sym q.1
  ]
]

pub one-uri-fault : (input : List ℕ) (e f : Fault) → IsDue Uri input (Err e) → IsDue Uri input (Err f) → e ≡ f
one-uri-fault input e f a b =
    let wrong = uri_refusal_of (without_last_line_feed input) in
    let p = one-wrong wrong e a in
    let q = one-wrong wrong f b in
    let same = sym p.2 ∙ q.2 in
    let error : p.0 ≡ q.0 = cc in
    p.1 ∙ ap RefusedUri error ∙ sym q.1

pub one-fault : (command : Command) (input : List ℕ) (e f : Fault) → IsDue command input (Err e)
    → IsDue command input (Err f) → text_of e ≡ text_of f
one-fault Again input e f a b = one-kind SpellsRpki IsRpkiFault (IsTooLong input) input e f
    (λ long none. none long.0 long.1.0) a b
one-fault Data input e f a b = one-kind SpellsRpki IsRpkiFault ⊥ input e f (λ z none. z) a b
one-fault Key input e f a b = one-kind SpellsKey key.fault ⊥ input e f (λ z none. z) a b
one-fault Name input e f a b = one-kind SpellsNameOctets IsNameFault ⊥ input e f (λ z none. z) a b
one-fault Uri input e f a b = ap text_of (one-uri-fault input e f a b)
one-fault Ext input e f a b = ap text_of (not-extensions input e a).1 ∙ sym (ap text_of (not-extensions input f b).1)
