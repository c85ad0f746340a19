-- A certificate of which each status is 0 is issued, as the layer says it.
use Rattle.std.proofs.Common.{◌≡◌, ℕ, true, false, Some, inl, inr, refl, sym, subst, arith, List}
use Rattle.jiff.specs.Types.{DateTime}
use Rattle.rpki.specs.declared.crypto.keys.PublicKeyFormat.{PublicKeyFormat}
use Rattle.rpki.specs.Provider.{check_of}
use Rattle.rpki.specs.PublicKey.{KeyParts}
use Rattle.rpki_cert.specs.Cert.{CertParts, find}
use Rattle.rpki_cert.specs.Known.{Says, subject_key_identifier}
use Rattle.rpki_cert.specs.KnownView.{AreKnown}
use Rattle.rpki_cert.specs.Profile.{HasProfile}
use Rattle.rpki_cert.specs.declared.profile.Profile.{Profile}
use Rattle.rpki_cert.specs.declared.profile.rule.CertRule.TheVariants.{CriticalExtensions, SelfIssued}
use Rattle.rpki_cert.specs.declared.profile.Profile.TheVariants.{Ta}
use Rattle.rpki_cert.specs.declared.extension.known_view.KnownView.{KnownView}
use Rattle.rpki_time.specs.Validity.{Period, HoldsAt}
use Rattle.rpki.specs.KeyIdentifier.{SpellsKeyIdentifier}
use Rattle.rpki_x509.specs.Authority.{SpellsAuthority, authority_key_identifier}
use Rattle.rpki_crl.specs.Crl.{CrlParts, Entry, each_entry, is_revoked}
use Rattle.rpki_der.specs.declared.error.DecodeError.{DecodeError}
use Rattle.rpki_der.specs.Error.{error_number}
use Rattle.rpki_c.specs.declared.authority.Authority.{Authority}
use Rattle.rpki_valid.specs.declared.staleness.Staleness.TheVariants.{Refused}
use Rattle.rpki_valid.specs.Revocation.{IsListOf}
use Rattle.rpki_valid.specs.Valid.{IsSigned}
use Rattle.rpki_valid.specs.ObjectVerified.{IsSignedObject}
use Rattle.rpki_objects.specs.SignedObject.{ObjectParts}
use Rattle.rpki_c.specs.SignedObject.{HasSignedContent}
use Rattle.rpki_c.specs.Authority.{IsRootTold}
use Rattle.rpki_c.specs.Below.{checkers, IsIssued, IsIssuedTold, Then, IsListedBy, IsBelowTold, IsBelow}
use Rattle.rpki_c.specs.declared.times.Moment.{Moment}
use Rattle.rpki_c.specs.Issued.{IsToldSigned, NamesIssuer, NamesOwnKey, IsListTold, period_of}
use Rattle.rpki_c.specs.Key.{HasSigned, IsVerifiedBy}
use Rattle.rpki_c.specs.Made.{IsTimeOf}
use Rattle.rpki_c.specs.Moments.{IsToldOf}
use Rattle.rpki_c.proofs.VerificationLaws.{verified-signed}

-- the second of two statuses of which both are 0
pub both-zero : (P Q : ℕ → Type 0) → Then P Q 0 → P 0 × Q 0
both-zero P Q (inl h) = absurd (h.0 refl)
both-zero P Q (inr h) = h

signed-by : (k : KeyParts) (message signature : List ℕ) → HasSigned k message signature
    → (k.format ≡ PublicKeyFormat.Rsa) × check_of checkers k.format k.bits.octets message signature
signed-by k message signature h = (
  h.format,
  subst (λ (f : PublicKeyFormat). check_of checkers f k.bits.octets message signature) (sym h.format)
      h.signed,
)

pub holds : (q : Period) (at : DateTime) → IsToldOf q at 0 → HoldsAt q at
holds q at (inl h) = h.1
holds q at (inr (inl h)) = absurd (omega (arith, h.0))
holds q at (inr (inr h)) = absurd (omega (arith, h.0))

-- the status of a period from the one moment to the other
pub told-between : (q : Period) (from until at : DateTime) (status : ℕ) → q.not_before ≡ from → q.not_after ≡ until
    → IsToldOf q at status → IsToldOf (record { not_before = from; not_after = until }) at status
told-between q from until at status this next told =
    let first = subst (λ (t : DateTime). IsToldOf (record { not_before = t; not_after = q.not_after }) at status) this
    told in
    subst (λ (t : DateTime). IsToldOf (record { not_before = from; not_after = t }) at status) next first

pub holds-between : (from until at : DateTime) → IsToldOf (record { not_before = from; not_after = until }) at 0
    → HoldsAt (record { not_before = from; not_after = until }) at
holds-between from until at told = holds (record { not_before = from; not_after = until }) at told

pub signed-told : (x issuer : CertParts) (known : KnownView) → IsToldSigned x issuer known 0
    → NamesOwnKey x known × HasSigned issuer.tbs.key x.signed.signed x.signed.value
signed-told x issuer known (inl h) = absurd (omega (arith, h.0))
signed-told x issuer known (inr h) = (h.0, verified-signed _ _ _ h.1)

pub named-told : (x issuer : CertParts) (known : KnownView) (at : DateTime) → IsIssuedTold x known issuer at 0
    → NamesIssuer x issuer known × (IsToldSigned x issuer known 0 × IsToldOf x.tbs.validity at 0)
named-told x issuer known at (inl (inl h)) = absurd (omega (arith, h.0))
named-told x issuer known at (inl (inr h)) = absurd (omega (arith, h.0))
named-told x issuer known at (inr h) = (h.0, both-zero (IsToldSigned x issuer known) (IsToldOf x.tbs.validity at) h.1)

pub issued-told : (profile : Profile) (x issuer : CertParts) (known : KnownView) (at : DateTime)
    → AreKnown x.tbs.extensions known → HasProfile profile true x.tbs → IsIssuedTold x known issuer at 0
    → IsIssued issuer at x
issued-told profile x issuer known at says has told =
    let (names, both) = named-told x issuer known at told in
    let (own, by) = signed-told x issuer known both.0 in
    record {
      signed = record {
        signature = signed-by issuer.tbs.key x.signed.signed x.signed.value by;
        period = holds x.tbs.validity at both.1;
        issuer = names.name;
        understood = has 1 CriticalExtensions (omega arith);
        subject = subst (Says false SpellsKeyIdentifier (find subject_key_identifier x.tbs.extensions)) own
            says.subject.0;
      };
      authority = subst (Says false SpellsAuthority (find authority_key_identifier x.tbs.extensions)) names.authority
          says.authority.0;
    }

-- a list that an authority has issued, and that is in force
pub list-told : (x : CrlParts) (y : CertParts) (m : Moment) → IsListTold x y m 0
    → (at : DateTime) × IsTimeOf m at × IsListOf checkers Refused y.tbs at x
list-told x y m (inl h) = absurd (omega (arith, h.0))
list-told x y m (inr (inl h)) = absurd (omega (arith, h.0))
list-told x y m (inr (inr (inl h))) = absurd (h.0 refl)
list-told x y m (inr (inr (inr (issued, inl (at, is, told))))) =
    let now = holds (period_of x) at told in (
      at,
      is,
      record {
        signature = signed-by y.tbs.key x.signed.signed x.signed.value issued.signed;
        name = issued.name;
        authority = issued.authority;
        out = now.0;
        fresh = now.1;
      },
    )
list-told x y m (inr (inr (inr (issued, inr h)))) = absurd (omega (arith, h.1))

-- no entry of the list has the number
pub listed-by : (by : Authority) (n : ℕ) → IsListedBy by n 0
    → (by.has_list ≡ true)
    × ((xs : List Entry) × each_entry.spells xs by.revoked_certs.octets.now × (is_revoked n xs ≡ false))
listed-by by n (inl h) = absurd (omega (arith, h.1))
listed-by by n (inr (has, inl h)) = absurd (number-positive h.error h.number)
  where
    number-positive : (e : DecodeError) → 0 ≡ error_number e → ⊥
    number-positive DecodeError.Truncated is = omega (arith, is)
    number-positive DecodeError.BadTag is = omega (arith, is)
    number-positive DecodeError.BadLength is = omega (arith, is)
    number-positive DecodeError.Unexpected is = omega (arith, is)
    number-positive (DecodeError.Content t) is = omega (arith, is)
    number-positive DecodeError.Trailing is = omega (arith, is)
    number-positive DecodeError.OutOfMemory is = omega (arith, is)
listed-by by n (inr (has, inr (xs, spelled, inl h))) = (has, (xs, spelled, h.1))
listed-by by n (inr (has, inr (xs, spelled, inr h))) = absurd (omega (arith, h.0))

pub below-of : (profile : Profile) (by : Authority) (x : CertParts) (known : KnownView)
    → AreKnown x.tbs.extensions known → HasProfile profile true x.tbs → IsBelowTold by x known 0
    → IsBelow profile by x
below-of profile by x known says has (inl h) = absurd (omega (arith, h.0))
below-of profile by x known says has (inr (y, above, inl h)) = absurd (omega (arith, h.0))
below-of profile by x known says has (inr (y, above, inr (at, is, told))) =
    let (issued, unlisted) = both-zero (IsIssuedTold x known y at) (IsListedBy by x.tbs.serial) told in
    let (list, entries) = listed-by by x.tbs.serial unlisted in
    let (xs, spelled, free) = entries in
    record {
      profiled = has;
      issuer = y;
      above = above;
      at = at;
      moment = is;
      issued = issued-told profile x y known at says has issued;
      has_list = list;
      entries = xs;
      listed = spelled;
      unrevoked = free;
    }

-- the certificate of a trust anchor is signed by its own key
pub root-told : (x : CertParts) (known : KnownView) (own key : List ℕ) (m : Moment) → AreKnown x.tbs.extensions known
    → HasProfile Ta true x.tbs → IsRootTold x known own key m 0
    → (key ≡ own) × ((at : DateTime) × IsTimeOf m at × IsSigned checkers x.tbs.subject x.tbs.key at x)
root-told x known own key m says has (inl h) = absurd (omega (arith, h.0))
root-told x known own key m says has (inr (same, inl h)) = absurd (omega (arith, h.0))
root-told x known own key m says has (inr (same, inr (at, is, told))) =
    let (signed, period) = both-zero (IsToldSigned x x known) (IsToldOf x.tbs.validity at) told in
    let (named, by) = signed-told x x known signed in (
      same,
      (
        at,
        is,
        record {
          signature = signed-by x.tbs.key x.signed.signed x.signed.value by;
          period = holds x.tbs.validity at period;
          issuer = has 22 SelfIssued (omega arith);
          understood = has 1 CriticalExtensions (omega arith);
          subject = subst (Says false SpellsKeyIdentifier (find subject_key_identifier x.tbs.extensions)) named
              says.subject.0;
        },
      ),
    )

-- an object of which each status is 0 is signed, as the layer says it
pub object-signed : (x : ObjectParts) (known : KnownView) → AreKnown x.cert.tbs.extensions known → HasSignedContent x
    → known.subject_key_identifier ≡ Some x.signer.identifier
    → IsVerifiedBy x.cert.tbs.key x.signer.attributes.message x.signer.signature.value 0
    → IsSignedObject checkers x
object-signed x known says content identifier told = record {
  type = sym content.0;
  digest = content.1;
  identifier =
      subst (Says false SpellsKeyIdentifier (find subject_key_identifier x.cert.tbs.extensions)) identifier
      says.subject.0;
  signature = signed-by x.cert.tbs.key x.signer.attributes.message x.signer.signature.value
      (verified-signed _ _ _ told);
}
