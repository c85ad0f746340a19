-- What is asked of an object by its certificate alone, and what it is accepted by.
use Rattle.std.proofs.Common.{◌≡◌, ◌⊎◌, ℕ, true, List, inl, inr, subst}
use Rattle.rpki_der.specs.Prelude.{Format}
use Rattle.rpki.specs.Provider.{Checkers}
use Rattle.rpki.specs.declared.repository.error.ValidationError.{ValidationError}
use Rattle.rpki_cert.specs.declared.profile.Profile.TheVariants.{Ee}
use Rattle.rpki_cert.specs.Cert.{TbsParts}
use Rattle.rpki_cert.specs.Profile.{rules_of, HasProfile}
use Rattle.rpki_cert.specs.RuleError.{IsFirstError}
use Rattle.rpki_objects.specs.SignedObject.{ObjectParts}
use Rattle.rpki_objects.specs.TypedObject.{TypedParts}
use Rattle.rpki_valid.specs.ObjectVerified.{IsSignedObject, IsUnsignedObject}
use Rattle.rpki_valid.specs.ResourceSet.{IsOut}
use Rattle.rpki_checked.specs.Checked.{AreOnly, IsUnfound}
use Rattle.rpki_checked.specs.Objects.{IsSignedAlone, IsNotAlone, IsObject, IsNoObject, IsOwn, IsNotOwn}

-- ---- by the certificate alone

module _ (by : Checkers) (x : ObjectParts) (tbs : TbsParts) (same : tbs ≡ x.cert.tbs)
  where
    pub no-profile : (e : ValidationError)
        → (HasProfile Ee true tbs → ⊥) × IsFirstError true tbs (rules_of Ee) e
        → (IsSignedAlone by x → ⊥) × IsNotAlone by x e
    no-profile e h =
        let there = subst
        (λ (t : TbsParts). (HasProfile Ee true t → ⊥) × IsFirstError true t (rules_of Ee) e) same h in
        (λ k. there.0 k.profiled, inl there)

    pub no-signature : (e : ValidationError) → HasProfile Ee true tbs
        → (IsSignedObject by x → ⊥) × IsUnsignedObject by x e
        → (IsSignedAlone by x → ⊥) × IsNotAlone by x e
    no-signature e profiled h =
        (λ k. h.0 k.signed, inr (subst (λ (t : TbsParts). HasProfile Ee true t) same profiled, h.1))

    pub alone : HasProfile Ee true tbs → IsSignedObject by x → IsSignedAlone by x
    alone profiled h = record {
      profiled = subst (λ (t : TbsParts). HasProfile Ee true t) same profiled;
      signed = h;
    }

-- ---- and by the rules of its type

module _ {C : Type 0} (F : Format (TypedParts C)) (by : Checkers)
    (Rules : TypedParts C → Type 0) (Broken : TypedParts C → ValidationError → Type 0) (whole : List ℕ)
    (x : TypedParts C) (one : AreOnly F.spells whole x) (object : ObjectParts) (same : object ≡ x.object) where
  abbrev pub NoOwn : ValidationError → Type 0
  NoOwn = IsNoObject F (λ v. IsNotOwn by (Rules v) (Broken v) v.object) whole

  pub not-alone : (e : ValidationError)
      → (IsSignedAlone by object → ⊥) × IsNotAlone by object e → NoOwn e
  not-alone e h =
      let there = subst
      (λ (o : ObjectParts). (IsSignedAlone by o → ⊥) × IsNotAlone by o e) same h in
      IsUnfound.OfRules x e one (inl there)

  pub not-own : (e : ValidationError) → IsSignedAlone by object
      → IsOut e ⊎ ((Rules x → ⊥) × Broken x e) → NoOwn e
  not-own e h k =
      let there = subst (λ (o : ObjectParts). IsSignedAlone by o) same h in
      IsUnfound.OfRules x e one (inr (there, k))

  pub own : IsSignedAlone by object → Rules x
      → IsObject F (λ v. IsOwn by (Rules v) v.object) whole
  own h k = record {
    value = x;
    one = one;
    valid = record { alone = subst (λ (o : ObjectParts). IsSignedAlone by o) same h; rules = k };
  }
