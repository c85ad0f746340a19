-- What an object is checked against: each check by its clause, and the first that isn't so.
use Rattle.std.proofs.Common.{◌≡◌, ◌∙◌, refl, sym, subst, inl, inr}
use Rattle.std.proofs.lemmas.Bool.{false≢true}
use Rattle.std.specs.Prelude.{◌⊎◌, Bool, true, false, if◌then◌else◌, Option, Result, Ok, Err, IsErr, IsErrAnd}
use Rattle.std.specs.Prelude.{MatchResult}
use Rattle.rpkicert.specs.Fault.{bad_text}
use Rattle.rpki_valid.specs.ErrorTexts.{not_inherited_text}
use Rattle.rpki.specs.declared.repository.error.ValidationError.{ValidationError}
use Rattle.rpki_cert.specs.Known.{is_memory}
use Rattle.rpki_valid.specs.ResourceSet.{IsOut}
use Rattle.rpki_cert.specs.RuleError.{ChecksBy}
use Rattle.rpki_valid.specs.Valid.{HasReason, IsPeriodError}
use Rattle.rpki_contents.specs.Aspa.{AspaParts}
use Rattle.rpki_contents.specs.Manifest.{ManifestParts}
use Rattle.rpki_contents.specs.Roa.{AttestationParts}
use Rattle.rpki_valid.specs.ObjectResources.{AreInherited}
use Rattle.rpki_valid.specs.Processed.{ChecksOwnRules, KeepsOwnOriginRules, IsOwnOriginError, KeepsOwnAspaRules}
use Rattle.rpki_valid.specs.Processed.{IsOwnAspaError}
use Rattle.rpki_objects.specs.TypedObject.{TypedParts}
use Rattle.rpki_fields.specs.declared.object.Object.{Object}
use Rattle.rpki_fields.specs.declared.object.Object.TheVariants.{Manifest, Roa, Aspa}
use Rattle.rpkicert.specs.declared.fault.Clause.{Clause}
use Rattle.rpkicert.specs.declared.fault.Clause.TheVariants as C
use Rattle.rpkicert.specs.declared.fault.Fault.{Fault}
use Rattle.rpkicert.specs.declared.fault.Fault.TheVariants.{Unverified, OutOfMemory}
use Rattle.rpkicert.specs.Requirements.{TermParts, signer_of, list_of, signed_of, anchor_of, signer_period, list_period}
use Rattle.rpkicert.specs.Requirements.{manifest_period, IsSignedWrong, IsCertUnissued}
use Rattle.rpkicert.specs.Requirements.{IsListUnissued, IsUpdateError, WhereSome, HasSome, WhereBoth, HasBoth}
use Rattle.rpkicert.specs.Requirements.{HoldsCertAt}
use Rattle.rpkicert.specs.Requirements.{HoldsListAt, HoldsManifestAt, IsSigned, KeepsResources, IsAnchored}
use Rattle.rpkicert.specs.Requirements.{HasIssuedCert, IsNotRevoked, IsRevokedError, BreaksListed}
use Rattle.rpkicert.specs.Requirements.{HasIssuedList, Both, AreUpdatesHeld, ArePeriodsHeld, HoldsAlone, IsIssuedBy}
use Rattle.rpkicert.specs.Requirements.{HasIssuer}
use Rattle.rpkicert.specs.Requirements.{IsVerified, Wrong, Else, SaysBy, SaysOf, BreaksResources, BreaksUpdates}
use Rattle.rpkicert.specs.Requirements.{BreaksPeriods}
use Rattle.rpkicert.specs.Requirements.{BreaksAlone, BreaksIssued, BreaksIssuer, IsFirstWrong, IsUnverifiedBy}
use Rattle.rpkicert.specs.RequirementsView.{by_clause, judged_by, ChecksClause, IsFaultOf, Judges}

-- ---- one check, by its clause

pub by-clause : (clause : Clause) (P : Type 0) (E : ValidationError → Type 0)
    (checked : Result (Unit {0}) ValidationError) (r : Result (Unit {0}) Fault)
    → ChecksBy P E checked → r ≡ by_clause clause checked → ChecksClause clause P E r
by-clause clause P E (Ok x) r h e = subst (λ (w : Result (Unit {0}) Fault). ChecksClause clause P E w) (sym e) h
by-clause clause P E (Err d) r h e =
    subst (λ (w : Result (Unit {0}) Fault). ChecksClause clause P E w) (sym e) (d, refl, h.0, h.1)

-- the same of one that may be there, which is seen in another way
pub by-one : {A : Type 0} (clause : Clause) (P : A → Type 0) (E : A → ValidationError → Type 0) (a x : Option A)
    (checked : Result (Unit {0}) ValidationError) (r : Result (Unit {0}) Fault) → a ≡ x
    → ChecksBy (WhereSome P a) (λ e. HasSome (λ s. E s e) a) checked → r ≡ by_clause clause checked
    → ChecksClause clause (WhereSome P x) (λ e. HasSome (λ s. E s e) x) r
by-one clause P E a x checked r p h e =
    let k = by-clause clause (WhereSome P a) (λ e. HasSome (λ s. E s e) a) checked r h e in
    rw p at k

-- the same of two
pub by-both : {A B : Type 0} (clause : Clause) (P : A → B → Type 0) (E : A → B → ValidationError → Type 0)
    (a x : Option A) (b y : Option B) (checked : Result (Unit {0}) ValidationError) (r : Result (Unit {0}) Fault)
    → a ≡ x → b ≡ y
    → ChecksBy (WhereBoth P a b) (λ e. HasBoth (λ s t. E s t e) a b) checked → r ≡ by_clause clause checked
    → ChecksClause clause (WhereBoth P x y) (λ e. HasBoth (λ s t. E s t e) x y) r
by-both clause P E a x b y checked r p q h e =
    let k = by-clause clause (WhereBoth P a b) (λ e. HasBoth (λ s t. E s t e) a b) checked r h e in
    rw (p, q) at k

-- ---- checks, in sequence

-- a fault that was handed on
abbrev IsTried : Result (Unit {0}) Fault → Fault → Type 0
IsTried r fault = IsErr r × IsErrAnd r (λ f. f ≡ fault)

abbrev Broken : Clause → Type 0 → (ValidationError → Type 0) → Fault → Type 0
Broken clause P E fault = (e : ValidationError) × (fault ≡ Unverified clause e) × (P → ⊥) × E e

handed : (P : Type 0) (W : Wrong) (r : Result (Unit {0}) Fault) (fault : Fault) → IsTried r fault
    → IsFaultOf P W fault → Judges P W r
handed P W (Ok u) fault h k = absurd h.1
handed P W (Err f) fault h k = subst (λ (g : Fault). IsFaultOf P W g) (sym h.1) k

broken : (clause : Clause) (P : Type 0) (E : ValidationError → Type 0) (fault : Fault) → Broken clause P E fault
    → IsFaultOf P (λ c e. (c ≡ clause) × E e) fault
broken clause P E fault h = inr (clause, h.0, h.1, h.2, (refl, h.3))

judged : (clause : Clause) (P : Type 0) (E : ValidationError → Type 0) (r : Result (Unit {0}) Fault)
    → ChecksClause clause P E r → Judges P (λ c e. (c ≡ clause) × E e) r
judged clause P E (Ok x) h = h
judged clause P E (Err f) h = broken clause P E f h

module _ (P Q : Type 0) (V W : Wrong) where
  -- the first is broken
  fault-first : (f : Fault) → IsFaultOf P V f → IsFaultOf (Both P Q) (Else P V W) f
  fault-first f (inl m) = inl m
  fault-first f (inr h) = inr (h.0, h.1, h.2, (λ k. h.3 k.0), inl (h.3, h.4))

  -- the first holds
  fault-next : (f : Fault) → P → IsFaultOf Q W f → IsFaultOf (Both P Q) (Else P V W) f
  fault-next f p (inl m) = inl m
  fault-next f p (inr h) = inr (h.0, h.1, h.2, (λ k. h.3 k.1), inr (p, h.4))

  and-next : (r : Result (Unit {0}) Fault) → P → Judges Q W r → Judges (Both P Q) (Else P V W) r
  and-next (Ok u) p h = (p, h)
  and-next (Err f) p h = fault-next f p h

-- ---- the periods

module _ (terms : TermParts) (x : Object) where
  abbrev CertAtError : ValidationError → Type 0
  CertAtError e = HasBoth (λ p t. IsPeriodError p t e) (signer_period x) terms.moment

  abbrev ListAtError : ValidationError → Type 0
  ListAtError e = HasBoth (λ p t. IsUpdateError p t e) (list_period x) terms.moment

  abbrev ManifestAtError : ValidationError → Type 0
  ManifestAtError e = HasBoth (λ p t. IsUpdateError p t e) (manifest_period x) terms.moment

  pub periods-cert : (r : Result (Unit {0}) Fault) (fault : Fault) → IsTried r fault
      → Broken C.Period (HoldsCertAt terms x) CertAtError fault
      → Judges (ArePeriodsHeld terms x) (BreaksPeriods terms x) r
  periods-cert r fault h b =
      handed (ArePeriodsHeld terms x) (BreaksPeriods terms x) r fault h
      (fault-first (HoldsCertAt terms x) (AreUpdatesHeld terms x)
      (SaysBy IsPeriodError (signer_period x) terms.moment C.Period) (BreaksUpdates terms x) fault
      (broken C.Period (HoldsCertAt terms x) CertAtError fault b))

  pub periods-list : (r : Result (Unit {0}) Fault) (fault : Fault) → IsTried r fault → HoldsCertAt terms x
      → Broken C.Updates (HoldsListAt terms x) ListAtError fault
      → Judges (ArePeriodsHeld terms x) (BreaksPeriods terms x) r
  periods-list r fault h cert b =
      handed (ArePeriodsHeld terms x) (BreaksPeriods terms x) r fault h
      (fault-next (HoldsCertAt terms x) (AreUpdatesHeld terms x)
      (SaysBy IsPeriodError (signer_period x) terms.moment C.Period) (BreaksUpdates terms x) fault cert
      (fault-first (HoldsListAt terms x) (HoldsManifestAt terms x)
      (SaysBy IsUpdateError (list_period x) terms.moment C.Updates)
      (SaysBy IsUpdateError (manifest_period x) terms.moment C.Manifest) fault
      (broken C.Updates (HoldsListAt terms x) ListAtError fault b)))

  pub periods-last : (r : Result (Unit {0}) Fault) → HoldsCertAt terms x → HoldsListAt terms x
      → ChecksClause C.Manifest (HoldsManifestAt terms x) ManifestAtError r
      → Judges (ArePeriodsHeld terms x) (BreaksPeriods terms x) r
  periods-last r cert list h =
      and-next (HoldsCertAt terms x) (AreUpdatesHeld terms x)
      (SaysBy IsPeriodError (signer_period x) terms.moment C.Period) (BreaksUpdates terms x) r cert
      (and-next (HoldsListAt terms x) (HoldsManifestAt terms x)
      (SaysBy IsUpdateError (list_period x) terms.moment C.Updates)
      (SaysBy IsUpdateError (manifest_period x) terms.moment C.Manifest) r list
      (judged C.Manifest (HoldsManifestAt terms x) ManifestAtError r h))

-- ---- the object by itself

pub inherited : (m : TypedParts ManifestParts) (checked : Result (Unit {0}) ValidationError)
    (r : Result (Unit {0}) Fault)
    → ChecksBy (AreInherited m.object.cert.tbs.extensions) (HasReason not_inherited_text)
    checked
    → r ≡ by_clause C.Inherited checked → Judges (KeepsResources (Manifest m)) (BreaksResources (Manifest m)) r
inherited m checked r h e =
    judged C.Inherited (AreInherited m.object.cert.tbs.extensions)
    (HasReason not_inherited_text) r
    (by-clause C.Inherited (AreInherited m.object.cert.tbs.extensions)
    (HasReason not_inherited_text) checked r h e)

module _ (clause : Clause) (P : Type 0) (E : ValidationError → Type 0) where
  own-error : (e : ValidationError) (b : Bool) → is_memory e ≡ b → IsOut e ⊎ ((P → ⊥) × E e)
      → Judges P (λ c d. (c ≡ clause) × E d) (if b then Err OutOfMemory else Err (Unverified clause e))
  own-error e true same h = inl refl
  own-error e false same (inl out) = absurd (false≢true (sym same ∙ out))
  own-error e false same (inr h) = inr (clause, e, refl, h.0, (refl, h.1))

  own-rules : (checked : Result (Unit {0}) ValidationError) (r : Result (Unit {0}) Fault)
      → ChecksOwnRules P E checked → r ≡ judged_by clause checked → Judges P (λ c d. (c ≡ clause) × E d) r
  own-rules (Ok u) r h e =
      subst (λ (w : Result (Unit {0}) Fault). Judges P (λ c d. (c ≡ clause) × E d) w) (sym e) h
  own-rules (Err d) r h e =
      subst (λ (w : Result (Unit {0}) Fault). Judges P (λ c d. (c ≡ clause) × E d) w) (sym e)
      (own-error d (is_memory d) refl h)

pub origins : (o : TypedParts AttestationParts) (checked : Result (Unit {0}) ValidationError)
    (r : Result (Unit {0}) Fault) → ChecksOwnRules (KeepsOwnOriginRules o) (IsOwnOriginError o) checked
    → r ≡ judged_by C.Origins checked → Judges (KeepsResources (Roa o)) (BreaksResources (Roa o)) r
origins o = own-rules C.Origins (KeepsOwnOriginRules o) (IsOwnOriginError o)

pub customer : (a : TypedParts AspaParts) (checked : Result (Unit {0}) ValidationError)
    (r : Result (Unit {0}) Fault) → ChecksOwnRules (KeepsOwnAspaRules a) (IsOwnAspaError a) checked
    → r ≡ judged_by C.Customer checked → Judges (KeepsResources (Aspa a)) (BreaksResources (Aspa a)) r
customer a = own-rules C.Customer (KeepsOwnAspaRules a) (IsOwnAspaError a)

module _ (x : Object) where
  pub alone-signed : (r : Result (Unit {0}) Fault) (fault : Fault) → IsTried r fault
      → Broken C.Object (IsSigned x) (λ e. HasSome (λ o. IsSignedWrong o e) (signed_of x)) fault
      → Judges (HoldsAlone x) (BreaksAlone x) r
  alone-signed r fault h b =
      handed (HoldsAlone x) (BreaksAlone x) r fault h
      (fault-first (IsSigned x) (KeepsResources x) (SaysOf IsSignedWrong (signed_of x) C.Object) (BreaksResources x)
      fault (broken C.Object (IsSigned x) (λ e. HasSome (λ o. IsSignedWrong o e) (signed_of x)) fault b))

  pub alone-last : (r : Result (Unit {0}) Fault) → IsSigned x → Judges (KeepsResources x) (BreaksResources x) r
      → Judges (HoldsAlone x) (BreaksAlone x) r
  alone-last r signed h =
      and-next (IsSigned x) (KeepsResources x) (SaysOf IsSignedWrong (signed_of x) C.Object) (BreaksResources x) r
      signed h

-- ---- the issuer

module _ (terms : TermParts) (x : Object) where
  abbrev AnchorError : ValidationError → Type 0
  AnchorError e = HasSome (λ c. HasReason bad_text e) (anchor_of terms.issuer x)

  abbrev CertError : ValidationError → Type 0
  CertError e = HasBoth (λ t c. IsCertUnissued t c e) terms.issuer (signer_of x)

  abbrev ListError : ValidationError → Type 0
  ListError e = HasBoth (λ t l. IsListUnissued t l e) terms.issuer (list_of x)

  abbrev SaysAnchor : Wrong
  SaysAnchor = SaysOf (λ c. HasReason bad_text) (anchor_of terms.issuer x) C.Anchor

  abbrev SaysCert : Wrong
  SaysCert = SaysBy IsCertUnissued terms.issuer (signer_of x) C.Certificate

  abbrev SaysList : Wrong
  SaysList = SaysBy IsListUnissued terms.issuer (list_of x) C.List

  abbrev SaysRevoked : Wrong
  SaysRevoked = SaysBy IsRevokedError terms.revocations (signer_of x) C.Revoked

  abbrev RevokedError : ValidationError → Type 0
  RevokedError e = HasBoth (λ l c. IsRevokedError l c e) terms.revocations (signer_of x)

  abbrev IsListed : Type 0
  IsListed = Both (HasIssuedList terms x) (IsNotRevoked terms x)

  pub issuer-anchor : (r : Result (Unit {0}) Fault) (fault : Fault) → IsTried r fault
      → Broken C.Anchor (IsAnchored terms x) AnchorError fault → Judges (HasIssuer terms x) (BreaksIssuer terms x) r
  issuer-anchor r fault h b =
      handed (HasIssuer terms x) (BreaksIssuer terms x) r fault h
      (fault-first (IsAnchored terms x) (IsIssuedBy terms x) SaysAnchor (BreaksIssued terms x) fault
      (broken C.Anchor (IsAnchored terms x) AnchorError fault b))

  pub issuer-cert : (r : Result (Unit {0}) Fault) (fault : Fault) → IsTried r fault → IsAnchored terms x
      → Broken C.Certificate (HasIssuedCert terms x) CertError fault
      → Judges (HasIssuer terms x) (BreaksIssuer terms x) r
  issuer-cert r fault h anchored b =
      handed (HasIssuer terms x) (BreaksIssuer terms x) r fault h
      (fault-next (IsAnchored terms x) (IsIssuedBy terms x) SaysAnchor (BreaksIssued terms x) fault anchored
      (fault-first (HasIssuedCert terms x) IsListed SaysCert (BreaksListed terms x) fault
      (broken C.Certificate (HasIssuedCert terms x) CertError fault b)))

  pub issuer-list : (r : Result (Unit {0}) Fault) (fault : Fault) → IsTried r fault → IsAnchored terms x
      → HasIssuedCert terms x → Broken C.List (HasIssuedList terms x) ListError fault
      → Judges (HasIssuer terms x) (BreaksIssuer terms x) r
  issuer-list r fault h anchored cert b =
      handed (HasIssuer terms x) (BreaksIssuer terms x) r fault h
      (fault-next (IsAnchored terms x) (IsIssuedBy terms x) SaysAnchor (BreaksIssued terms x) fault anchored
      (fault-next (HasIssuedCert terms x) IsListed SaysCert (BreaksListed terms x) fault cert
      (fault-first (HasIssuedList terms x) (IsNotRevoked terms x) SaysList SaysRevoked fault
      (broken C.List (HasIssuedList terms x) ListError fault b))))

  pub issuer-last : (r : Result (Unit {0}) Fault) → IsAnchored terms x → HasIssuedCert terms x
      → HasIssuedList terms x → ChecksClause C.Revoked (IsNotRevoked terms x) RevokedError r
      → Judges (HasIssuer terms x) (BreaksIssuer terms x) r
  issuer-last r anchored cert list h =
      and-next (IsAnchored terms x) (IsIssuedBy terms x) SaysAnchor (BreaksIssued terms x) r anchored
      (and-next (HasIssuedCert terms x) IsListed SaysCert (BreaksListed terms x) r cert
      (and-next (HasIssuedList terms x) (IsNotRevoked terms x) SaysList SaysRevoked r list
      (judged C.Revoked (IsNotRevoked terms x) RevokedError r h)))

-- ---- all of it

module _ (terms : TermParts) (x : Object) where
  abbrev Answers : Result (Unit {0}) Fault → Type 0
  Answers r = MatchResult r (λ u. IsVerified terms x) (IsUnverifiedBy terms x)

  abbrev Rest : Type 0
  Rest = Both (HoldsAlone x) (HasIssuer terms x)

  abbrev RestWrong : Wrong
  RestWrong = Else (HoldsAlone x) (BreaksAlone x) (BreaksIssuer terms x)

  unverified : (f : Fault) → IsFaultOf (IsVerified terms x) (IsFirstWrong terms x) f → IsUnverifiedBy terms x f
  unverified f (inl m) = inl m
  unverified f (inr h) = inr (h.0, h.1, h.2, record { not_all = h.3; first = h.4 })

  answered : (r : Result (Unit {0}) Fault) → Judges (IsVerified terms x) (IsFirstWrong terms x) r → Answers r
  answered (Ok u) h = h
  answered (Err f) h = unverified f h

  pub first-periods : (r : Result (Unit {0}) Fault) (fault : Fault) → IsTried r fault
      → IsFaultOf (ArePeriodsHeld terms x) (BreaksPeriods terms x) fault → Answers r
  first-periods r fault h b =
      answered r (handed (IsVerified terms x) (IsFirstWrong terms x) r fault h
      (fault-first (ArePeriodsHeld terms x) Rest (BreaksPeriods terms x) RestWrong fault b))

  pub first-alone : (r : Result (Unit {0}) Fault) (fault : Fault) → IsTried r fault → ArePeriodsHeld terms x
      → IsFaultOf (HoldsAlone x) (BreaksAlone x) fault → Answers r
  first-alone r fault h periods b =
      answered r (handed (IsVerified terms x) (IsFirstWrong terms x) r fault h
      (fault-next (ArePeriodsHeld terms x) Rest (BreaksPeriods terms x) RestWrong fault periods
      (fault-first (HoldsAlone x) (HasIssuer terms x) (BreaksAlone x) (BreaksIssuer terms x) fault b)))

  pub the-last : (r : Result (Unit {0}) Fault) → ArePeriodsHeld terms x → HoldsAlone x
      → Judges (HasIssuer terms x) (BreaksIssuer terms x) r → Answers r
  the-last r periods alone h =
      answered r (and-next (ArePeriodsHeld terms x) Rest (BreaksPeriods terms x) RestWrong r periods
      (and-next (HoldsAlone x) (HasIssuer terms x) (BreaksAlone x) (BreaksIssuer terms x) r alone h))
