-- What is found of a file.
use Rattle.std.proofs.Common.{◌≡◌, ℕ, false, List, inl, inr, refl, subst, sym}
use Rattle.std.specs.Prelude.{◌⊎◌, Option, Some, None, Result, Ok, Err, IfSome, IsErrAnd, MatchResult}
use Rattle.rpki_der.specs.declared.error.DecodeError.{DecodeError}
use Rattle.rpki_der.specs.declared.error.DecodeError.TheVariants.{Truncated, BadTag, BadLength, Unexpected, Content}
use Rattle.rpki_der.specs.declared.error.DecodeError.TheVariants.{Trailing}
use Rattle.rpki_der.specs.declared.error.DecodeError.TheVariants as der
use Rattle.rpki_fields.specs.ObjectType.{kind_of}
use Rattle.rpki_fields.specs.Object.{IsNone, cert_of}
use Rattle.rpki_fields.specs.Part.{IsMalformedPart}
use Rattle.rpki_fields.specs.declared.object.Object.{Object}
use Rattle.rpki_fields.specs.declared.part.Part.{Part}
use Rattle.rpkicert.specs.declared.profile.Inspection.{Inspection}
use Rattle.rpkicert.specs.declared.fault.Fault.{Fault}
use Rattle.rpkicert.specs.declared.outcome.Outcome.{Outcome}
use Rattle.rpkicert.specs.OutcomeView.{finding_of, wrong_finding}
use Rattle.rpkicert.specs.declared.fault.Fault.TheVariants.{Unreadable, TooLarge, OutOfMemory, Malformed, Refused}
use Rattle.rpkicert.specs.declared.fault.Fault.TheVariants.{OtherText}
use Rattle.rpkicert.specs.declared.fault.Fault.TheVariants.{Empty, Neither, NoLocator}
use Rattle.rpkicert.specs.declared.fault.Fault.TheVariants.{Violated, Unverified, NoCertificate, NoList, OtherAlgorithm}
use Rattle.rpkicert.specs.Fault.{refusal}
use Rattle.rpkicert.specs.Requirements.{TermParts, IsVerified, IsUnverifiedBy}
use Rattle.rpkicert.specs.Outcome.{Finding, IsObject, IsRefusal, IsHeld, IsWrong, HoldsTo, FindsIn, Finds, IsRead}
use Rattle.rpkicert.specs.Profiled.{Meets, IsUnmet, asked_inspection, own_inspection, IsProfiled, IsUnprofiled}
use Rattle.rpkicert.specs.Outcome.{is_outside, form_fault, FindsBy}

-- why octets are no object
pub refusal-of : (octets : List ℕ) (place : Option Part) (e : DecodeError) → IsNone (kind_of octets) octets e
    → IsMalformedPart (kind_of octets) octets place
    → IsRefusal octets (refusal (kind_of octets) place e)
refusal-of octets place Truncated h k =
    record { told = refl; memory = λ (z : Truncated ≡ der.OutOfMemory). cc; none = h; placed = k }
refusal-of octets place BadTag h k =
    record { told = refl; memory = λ (z : BadTag ≡ der.OutOfMemory). cc; none = h; placed = k }
refusal-of octets place BadLength h k =
    record { told = refl; memory = λ (z : BadLength ≡ der.OutOfMemory). cc; none = h; placed = k }
refusal-of octets place Unexpected h k =
    record { told = refl; memory = λ (z : Unexpected ≡ der.OutOfMemory). cc; none = h; placed = k }
refusal-of octets place (Content x) h k =
    record { told = refl; memory = λ (z : Content x ≡ der.OutOfMemory). cc; none = h; placed = k }
refusal-of octets place Trailing h k =
    record { told = refl; memory = λ (z : Trailing ≡ der.OutOfMemory). cc; none = h; placed = k }
refusal-of octets place der.OutOfMemory h k = tt

-- an object in memory of its own
pub boxed-is : {B : Type 0} (r : Result B Fault) (value : B → Object) (octets : List ℕ) (x : Object)
    → MatchResult r (λ b. value b ≡ x) (λ f. f ≡ OutOfMemory) → IsObject octets x
    → MatchResult r (λ b. IsObject octets (value b)) (IsRefusal octets)
boxed-is (Ok b) value octets x h k = subst (λ (y : Object). IsObject octets y) (sym h) k
boxed-is (Err f) value octets x h k = subst (λ (g : Fault). IsRefusal octets g) (sym h) tt

-- a fault that is handed on
pub given-up : (terms : TermParts) (octets : List ℕ) (r : Result Outcome Fault) (f : Fault)
    → IsErrAnd r (λ g. g ≡ f) → IsRefusal octets f → HoldsTo terms octets (finding_of r)
given-up terms octets (Ok x) f h k = absurd h
given-up terms octets (Err g) f h k = subst (λ (g : Fault). IsRefusal octets g) (sym h) k

-- an object that holds, unless it is unverified
pub verified-held : (terms : TermParts) (x : Object) (r : Result (Unit {0}) Fault) → IsProfiled terms.inspection x
    → is_outside terms x ≡ false → MatchResult r (λ _. IsVerified terms x) (IsUnverifiedBy terms x)
    → MatchResult r (λ _. IsHeld terms x) (λ f. (f ≡ OutOfMemory) ⊎ IsWrong terms x f)
verified-held terms x (Ok u) h o v = record { profiled = h; verified = v; inside = o }
verified-held terms x (Err f) h o (inl m) = inl m
verified-held terms x (Err f) h o (inr u) =
    inr (subst (λ (g : Fault). IsWrong terms x g) (sym u.2) (h, u.3))

-- an object whose certificate has another profile
unmet-wrong : (terms : TermParts) (x : Object) (f : Fault) (inspection : Option Inspection)
    → IsUnmet inspection (cert_of x) f → IsUnprofiled terms.inspection x f → IsWrong terms x f
unmet-wrong terms x f inspection (inl m) u =
    subst (λ (g : Fault). IsUnprofiled terms.inspection x g → IsWrong terms x g) (sym m.0)
    (λ (k : IsUnprofiled terms.inspection x NoCertificate). k) u
unmet-wrong terms x f inspection (inr m) u =
    subst (λ (g : Fault). IsUnprofiled terms.inspection x g → IsWrong terms x g) (sym m.1)
    (λ (k : IsUnprofiled terms.inspection x (Violated m.0)). k) u

unprofiled-by : (terms : TermParts) (x : Object) (f : Fault)
    → ((Meets (asked_inspection terms.inspection x) (cert_of x) → ⊥)
    × IsUnmet (asked_inspection terms.inspection x) (cert_of x) f)
    ⊎ (Meets (asked_inspection terms.inspection x) (cert_of x)
    × IsUnmet (own_inspection terms.inspection x) (cert_of x) f)
    → IsUnprofiled terms.inspection x f → IsWrong terms x f
unprofiled-by terms x f (inl m) u = unmet-wrong terms x f (asked_inspection terms.inspection x) m.1 u
unprofiled-by terms x f (inr m) u = unmet-wrong terms x f (own_inspection terms.inspection x) m.1 u

pub unprofiled-wrong : (terms : TermParts) (x : Object) (f : Fault) → IsUnprofiled terms.inspection x f
    → IsWrong terms x f
unprofiled-wrong terms x f u = unprofiled-by terms x f u.1 u

-- an object that doesn't hold
pub wrong-holds : (terms : TermParts) (octets : List ℕ) (x : Object) (f : Fault) → IsObject octets x
    → (f ≡ OutOfMemory) ⊎ IsWrong terms x f → HoldsTo terms octets (wrong_finding octets x f)
wrong-holds terms octets x OutOfMemory h w = tt
wrong-holds terms octets x (Violated v) h (inl e) = absurd cc
wrong-holds terms octets x (Violated v) h (inr w) = (refl, h, w)
wrong-holds terms octets x (Unverified clause e) h (inl m) = absurd cc
wrong-holds terms octets x (Unverified clause e) h (inr w) = (refl, h, w)
wrong-holds terms octets x NoCertificate h (inl e) = absurd cc
wrong-holds terms octets x NoCertificate h (inr w) = (refl, h, w)
wrong-holds terms octets x OtherAlgorithm h (inl e) = absurd cc
wrong-holds terms octets x OtherAlgorithm h (inr w) = (refl, h, w)
wrong-holds terms octets x (Refused kind place e) h (inl m) = absurd cc
wrong-holds terms octets x (Refused kind place e) h (inr w) = absurd w
wrong-holds terms octets x (Unreadable cause) h (inl e) = absurd cc
wrong-holds terms octets x (Unreadable cause) h (inr w) = absurd w
wrong-holds terms octets x TooLarge h (inl e) = absurd cc
wrong-holds terms octets x TooLarge h (inr w) = absurd w
wrong-holds terms octets x Empty h (inl e) = absurd cc
wrong-holds terms octets x Neither h (inl e) = absurd cc
wrong-holds terms octets x (NoLocator y) h (inl e) = absurd cc
wrong-holds terms octets x Malformed h (inl e) = absurd cc
wrong-holds terms octets x (OtherText kind) h (inl e) = absurd cc
wrong-holds terms octets x Empty h (inr w) = absurd w
wrong-holds terms octets x Neither h (inr w) = absurd w
wrong-holds terms octets x (NoLocator e) h (inr w) = absurd w
wrong-holds terms octets x Malformed h (inr w) = absurd w
wrong-holds terms octets x (OtherText kind) h (inr w) = absurd w
wrong-holds terms octets x NoList h (inl e) = absurd cc
wrong-holds terms octets x NoList h (inr w) = absurd w

-- a file that was not read
pub not-read : (terms : TermParts) (source : Option (List ℕ)) (f : Fault) → IsRead source (Err f)
    → Finds terms source (Err f)
not-read terms (Some octets) (Unreadable cause) h = absurd h
not-read terms (Some octets) TooLarge h = inr (inl (h, refl))
not-read terms (Some octets) OutOfMemory h = inr (inr refl)
not-read terms (Some octets) Empty h = absurd h
not-read terms (Some octets) Neither h = absurd h
not-read terms (Some octets) (NoLocator e) h = absurd h
not-read terms (Some octets) Malformed h = absurd h
not-read terms (Some octets) (OtherText kind) h = absurd h
not-read terms (Some octets) (Refused kind place e) h = absurd h
not-read terms (Some octets) (Violated v) h = absurd h
not-read terms (Some octets) (Unverified clause e) h = absurd h
not-read terms (Some octets) NoCertificate h = absurd h
not-read terms (Some octets) NoList h = absurd h
not-read terms (Some octets) OtherAlgorithm h = absurd h
not-read terms None (Unreadable cause) h = inl (cause, refl)
not-read terms None TooLarge h = absurd h
not-read terms None OutOfMemory h = inr refl
not-read terms None Empty h = absurd h
not-read terms None Neither h = absurd h
not-read terms None (NoLocator e) h = absurd h
not-read terms None Malformed h = absurd h
not-read terms None (OtherText kind) h = absurd h
not-read terms None (Refused kind place e) h = absurd h
not-read terms None (Violated v) h = absurd h
not-read terms None (Unverified clause e) h = absurd h
not-read terms None NoCertificate h = absurd h
not-read terms None NoList h = absurd h
not-read terms None OtherAlgorithm h = absurd h

-- a file that was read
was-read : (terms : TermParts) (source : Option (List ℕ)) (input : List ℕ) (finding : Finding)
    → IsRead source (Ok input) → FindsIn terms input finding → Finds terms source finding
was-read terms (Some octets) input finding h k =
    inl (h.1, subst (λ (w : List ℕ). FindsIn terms w finding) h.0 k)
was-read terms None input finding h k = absurd h

pub was-read-of : (terms : TermParts) (held : Option (Option (List ℕ))) (input : List ℕ)
    (finding : Finding) → IfSome held (λ source. IsRead source (Ok input)) → FindsIn terms input finding
    → IfSome held (λ source. Finds terms source finding)
was-read-of terms None input finding h k = tt
was-read-of terms (Some source) input finding h k = was-read terms source input finding h k

-- by what is wrong with the form
pub by-form : (terms : TermParts) (input : List ℕ) (wrong : Option Fault) (f : Finding) → wrong ≡ form_fault input
    → FindsBy wrong terms input f → FindsIn terms input f
by-form terms input wrong f e h = subst (λ (w : Option Fault). FindsBy w terms input f) e h

-- the same finding, or that allocation failed
pub or-memory : (terms : TermParts) (held : Option (Option (List ℕ))) (f g : Finding)
    → IfSome held (λ source. Finds terms source f) → (g ≡ f) ⊎ (g ≡ Err OutOfMemory)
    → IfSome held (λ source. Finds terms source g)
or-memory terms None f g h e = tt
or-memory terms (Some source) f g h (inl e) = subst (λ (w : Finding). Finds terms source w) (sym e) h
or-memory terms (Some None) f g h (inr e) = inr e
or-memory terms (Some (Some input)) f g h (inr e) = inr (inr e)
