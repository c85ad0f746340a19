-- Whether an authority has issued a list: what is asked, in sequence.
use Rattle.std.proofs.Common.{◌≡◌, Result, Ok, Err, inl, inr}
use Rattle.jiff.specs.Types.{DateTime}
use Rattle.rpki.specs.declared.repository.error.ValidationError.{ValidationError}
use Rattle.rpki_time.specs.Validity.{HoldsAt}
use Rattle.rpki_cert.specs.RuleError.{ChecksBy}
use Rattle.rpki_valid.specs.Valid.{HasReason, IsPeriodError, IsSignedBy}
use Rattle.rpki_valid.specs.Verified.{Verified}
use Rattle.rpki_crl.specs.Crl.{CrlParts}
use Rattle.rpki_valid.specs.declared.staleness.Staleness.{Staleness}
use Rattle.rpki_valid.specs.Revocation.{IsOutAt, IsFreshAt}
use Rattle.rpki_valid.specs.CrlIssued.{IsIssuedBy, IsNotIssued, ChecksList}
use Rattle.rpki_valid.specs.ErrorTexts.{unsigned_list_text, list_issuer_text, list_authority_text, later_list_text}
use Rattle.rpki_valid.specs.ErrorTexts.{stale_list_text}

module _ (staleness : Staleness) (v : Verified) (at : DateTime) (x : CrlParts) where
  abbrev pub Refused : ValidationError → Type 0
  Refused e = (IsIssuedBy staleness v at x → ⊥) × IsNotIssued v at x e

  pub off-period : (e : ValidationError) → (HoldsAt v.period at → ⊥) × IsPeriodError v.period at e → Refused e
  off-period e h = (λ k. h.0 k.period, inl h)

  module _ (period : HoldsAt v.period at) where
    pub unsigned : (e : ValidationError)
        → (IsSignedBy v.by v.cert.tbs.key x.signed → ⊥) × HasReason unsigned_list_text e → Refused e
    unsigned e h = (λ k. h.0 k.list.signature, inr (period, inl h))

    module _ (signature : IsSignedBy v.by v.cert.tbs.key x.signed) where
      pub other-name : (e : ValidationError)
          → (x.list.issuer ≡ v.cert.tbs.subject → ⊥) × HasReason list_issuer_text e → Refused e
      other-name e h = (λ k. h.0 k.list.name, inr (period, inr (signature, inl h)))

      module _ (name : x.list.issuer ≡ v.cert.tbs.subject) where
        pub other-key : (e : ValidationError)
            → (x.list.extensions.authority ≡ v.by.sha1 v.cert.tbs.key.bits.octets → ⊥)
            × HasReason list_authority_text e
            → Refused e
        other-key e h = (λ k. h.0 k.list.authority, inr (period, inr (signature, inr (name, inl h))))

        module _ (authority : x.list.extensions.authority ≡ v.by.sha1 v.cert.tbs.key.bits.octets) where
          pub not-out : (e : ValidationError) → (IsOutAt at x → ⊥) × HasReason later_list_text e → Refused e
          not-out e h =
              (λ k. h.0 k.list.out, inr (period, inr (signature, inr (name, inr (authority, inl h)))))

          pub asked-last : (r : Result (Unit {0}) ValidationError) → IsOutAt at x
              → ChecksBy (IsFreshAt staleness at x) (HasReason stale_list_text) r
              → ChecksList staleness v at x r
          asked-last (Ok u) out h = record {
            period = period;
            list = record { signature = signature; name = name; authority = authority; out = out; fresh = h };
          }
          asked-last (Err e) out h =
              (λ k. h.0 k.list.fresh, inr (period, inr (signature, inr (name, inr (authority, inr (out, h.1))))))
