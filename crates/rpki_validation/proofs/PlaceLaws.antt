-- A certificate says one URI at most of where its subject publishes; and no certificate is of an authority and of a
-- router.
use Rattle.std.proofs.Common.{◌≡◌, ◌∙◌, ◌++◌, ℕ, suc, Bool, true, false, List, [], ◌∷◌, Option, Some, None, sym, ap}
use Rattle.std.proofs.Common.{refl, arith, subst}
use Rattle.std.specs.Bool.{MatchBool}
use Rattle.std.specs.Prelude.{All}
use Rattle.rpki_der.specs.declared.error.DecodeError.{DecodeError}
use Rattle.rpki_der.specs.declared.error.DecodeError.TheVariants.{Truncated, BadTag, BadLength, Unexpected, Content}
use Rattle.rpki_der.specs.declared.error.DecodeError.TheVariants.{Trailing}
use Rattle.rpki_der.specs.declared.error.DecodeError.TheVariants as der
use Rattle.rpki.specs.declared.repository.error.ValidationError.{ValidationError}
use Rattle.rpki.specs.declared.repository.error.ValidationError.TheVariants.{Decoding, Inspection, Verification}
use Rattle.rpki.specs.ExtensionValue.{ExtensionParts}
use Rattle.rpki_cert.specs.declared.profile.Profile.TheVariants.{Ca, Router}
use Rattle.rpki_cert.specs.declared.profile.rule.CertRule.{CertRule}
use Rattle.rpki_cert.specs.declared.profile.rule.CertRule.TheVariants.{BasicConstraints, NoBasicConstraints, EndUsage}
use Rattle.rpki_cert.specs.declared.profile.rule.CertRule.TheVariants.{AuthorityUsage, RouterSubject, SubjectSize}
use Rattle.rpki_cert.specs.declared.profile.rule.CertRule.TheVariants.{RouterSerialNumber, RouterKey, RouterNumbers}
use Rattle.rpki_cert.specs.declared.profile.rule.CertRule.TheVariants.{OwnResources, NoSubjectAccess, RouterPurpose}
use Rattle.rpki_cert.specs.Access.{HasUri, flat}
use Rattle.rpki_cert.specs.Cert.{TbsParts, find}
use Rattle.rpki_cert.specs.ExtensionContent.{SpellsConstraints, constraints_content}
use Rattle.rpki_x509.specs.Authority.{WholeFault}
use Rattle.rpki_cert.specs.Known.{subject_info_access, basic_constraints, present, IsFoundWrong, SaysNone, SaysOnly}
use Rattle.rpki_cert.specs.Profile.{HasProfile, common_rules, subject_rules, repository_rules, issuer_rules}
use Rattle.rpki_cert.specs.Rule.{Obeys}
use Rattle.rpki_validation.specs.declared.reason.Reason.{Reason}
use Rattle.rpki_validation.specs.Finding.{IsCertReason, IsNone, IsRejected, IsSole, invalid_stop_of}
use Rattle.rpki_validation.specs.Met.{IsPlace}
use Rattle.rpki_validation.specs.Publication.{IsAt, SaysOther, place_text}

module _ (G : Option (List ℕ) → List ℕ → Type 0) (t : TbsParts) where
  abbrev Says' : Option (List ℕ) → Type 0
  Says' uri = HasUri subject_info_access G t.extensions uri

  one-uri : (a b : Option (List ℕ)) → Says' a → Says' b → b ≡ a
  one-uri a b h k = k.2 ∙ ap flat (h.1.1 k.0 k.1.0) ∙ sym h.2

  abbrev pub IsUri : List ℕ → Type 0
  IsUri uri = Says' (Some uri)

  pub uri-other : SaysOther G t → IsNone IsUri
  uri-other h uri k = h k.0 k.1.0

-- ---- basic constraints

module _ (strict : Bool) (t : TbsParts) where
  -- a rule of a profile, by the rules in front of it and those after
  one-of : (xs ys : List CertRule) (rule : CertRule) → All (Obeys strict t) (xs ++ rule ∷ ys) → Obeys strict t rule
  one-of [] ys rule h = h 0 rule (omega arith)
  one-of (x ∷ xs) ys rule h = one-of xs ys rule (λ k d lt. h (suc k) d (omega (arith, lt)))

  of-authority : HasProfile Ca strict t → Obeys strict t BasicConstraints
  of-authority h = one-of (common_rules ++ subject_rules) (AuthorityUsage ∷ (repository_rules ++ issuer_rules))
      BasicConstraints h

  of-router : HasProfile Router strict t → Obeys strict t NoBasicConstraints
  of-router h = one-of (common_rules ++ (RouterSubject ∷ SubjectSize ∷ RouterSerialNumber ∷ RouterKey ∷ []))
      (EndUsage ∷ (RouterNumbers ∷ OwnResources ∷ NoSubjectAccess ∷ RouterPurpose ∷ issuer_rules)) NoBasicConstraints h

  abbrev Found : Option ExtensionParts
  Found = find basic_constraints t.extensions

  -- what is read of them tells which of the two it may be
  pub said-there : (b : Bool) → SaysOnly true SpellsConstraints Found (present b)
      → MatchBool b (HasProfile Router strict t → ⊥) (HasProfile Ca strict t → ⊥)
  said-there true h = λ k.
      let e : ◌≡◌ {A = Option ExtensionParts} None (Some h.0.0) = sym (of-router k) ∙ h.0.1 in absurd (cc)
  said-there false h = λ k.
      let o = of-authority k in
      let e : ◌≡◌ {A = Option ExtensionParts} None (Some o.0) = sym h.0 ∙ o.1 in absurd (cc)

  pub none-said : SaysNone true SpellsConstraints Found
      → (HasProfile Router strict t → ⊥) × (HasProfile Ca strict t → ⊥)
  none-said none = (λ k. none None (of-router k), λ k. none (Some tt) (of-authority k))

abbrev pub IsOther : TbsParts → ValidationError → Type 0
IsOther t = IsFoundWrong true SpellsConstraints (WholeFault constraints_content) (find basic_constraints t.extensions)

abbrev pub OtherReason : TbsParts → Reason → Type 0
OtherReason t = IsCertReason (λ q. ⊥) (IsOther t)

decoded-wrong : (t : TbsParts) (e : DecodeError) → IsOther t (Decoding e)
    → IsRejected (OtherReason t) (invalid_stop_of (Decoding e))
decoded-wrong t Truncated h = h
decoded-wrong t BadTag h = h
decoded-wrong t BadLength h = h
decoded-wrong t Unexpected h = h
decoded-wrong t (Content x) h = h
decoded-wrong t Trailing h = h
decoded-wrong t der.OutOfMemory h = h.1.3.other refl

pub rejected-wrong : (t : TbsParts) (e : ValidationError) → IsOther t e
    → IsRejected (OtherReason t) (invalid_stop_of e)
rejected-wrong t (Decoding e) h = decoded-wrong t e h
rejected-wrong t (Inspection e) h = h
rejected-wrong t (Verification e) h = h

-- ---- places

-- the one that was found
pub place-found : (Has : List ℕ → Type 0) (uri : List ℕ) → IsSole Has uri → IsPlace Has (Some uri)
place-found Has uri h other = (
  λ s. ap (λ (u : List ℕ). Some u) (sym (h.sole other s)),
  λ k. subst Has (some-is uri other k) h.holds,
) where
  some-is : (a b : List ℕ) → Some a ≡ Some b → a ≡ b
  some-is a b e = cc

-- none
pub place-none : (Has : List ℕ → Type 0) → IsNone Has → IsPlace Has None
place-none Has none uri = (λ s. absurd (none uri s), λ k. absurd (none-is uri k)) where
  none-is : (a : List ℕ) → None ≡ Some a → ⊥
  none-is a e = absurd (cc)

-- and as places
pub placed-found : (Has : List ℕ → Type 0) (uri : List ℕ) → IsSole Has uri → IsPlace (IsAt Has) (Some (place_text uri))
placed-found Has uri h = place-found (IsAt Has) (place_text uri) (record {
  holds = (uri, h.holds, refl);
  sole = λ place s. sym s.2 ∙ ap place_text (h.sole s.0 s.1);
})

pub placed-none : (Has : List ℕ → Type 0) → IsNone Has → IsPlace (IsAt Has) None
placed-none Has none = place-none (IsAt Has) (λ place s. none s.0 s.1)
