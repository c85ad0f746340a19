-- Certificates that are verified: checks of several things, paths to a trust anchor, and resources down a path.
use Rattle.std.proofs.Common.{◌≡◌, ◌+◌, ◌≤◌, ℕ, Bool, Option, Some, None, inl, inr, Result, Ok, Err}
use Rattle.std.specs.Prelude.{IfOk}
use Rattle.jiff.specs.Types.{DateTime}
use Rattle.rpki_time.specs.Validity.{HoldsAt}
use Rattle.rpki.specs.Provider.{Checkers}
use Rattle.rpki.specs.declared.repository.error.ValidationError.{ValidationError}
use Rattle.rpki_valid.specs.declared.resource.set.ResourceSet.{ResourceSet}
use Rattle.rpki_cert.specs.declared.profile.Profile.{Profile}
use Rattle.rpki_cert.specs.declared.profile.Profile.TheVariants.{Ta, Ca}
use Rattle.rpki_cert.specs.Cert.{CertParts, TbsParts}
use Rattle.rpki_cert.specs.Known.{UnlessNoMemory}
use Rattle.rpki_cert.specs.Profile.{rules_of, HasProfile}
use Rattle.rpki_cert.specs.RuleError.{IsFirstError}
use Rattle.rpki_crl.specs.Crl.{CrlParts}
use Rattle.rpki_valid.specs.declared.staleness.Staleness.{Staleness}
use Rattle.rpki_valid.specs.declared.staleness.Staleness.TheVariants.{Refused, Accepted}
use Rattle.rpki_valid.specs.CrlIssued.{IsIssuedBy}
use Rattle.rpki_valid.specs.Revocation.{IsCurrentAt, IsListOf, IsUnrevoked, IsUnrevokedBy}
use Rattle.rpki_valid.specs.Revocation.{least_asked}
use Rattle.rpki_valid.specs.Valid.{HasReason, IsIssued, IsUnissued, IsPeriodError, IsAnchor, IsNoAnchor}
use Rattle.rpki_valid.specs.ResourceSet.{HasNoResources, SettlesUnder, SettlesOwn, AreWithin}
use Rattle.rpki_valid.specs.Verified.{Verified, Holder, holder, IsRoot, IsAuthorityAt, IsVerified, IsOnPath}
use Rattle.rpki_valid.specs.Verified.{IsOffPath, IsVerifiedBy, HasPath, ChecksPath, ChecksLink, ChecksRoot}
use Rattle.rpki_valid.specs.Verified.{Terms, IsLink, IsRefusedWith, IsRefusedLink, IsRefusedRoot}
use Rattle.rpki_valid.specs.Verified.{DescendsFrom}
use Rattle.rpki_valid.specs.Verified.IsAuthorityAt.{Root, Issued}
use Rattle.rpki_valid.specs.Verified.DescendsFrom.{Itself, Below}
use Rattle.rpki_cert.proofs.KnownLaws.{unless-from, unless-weaker}
use Rattle.rpki_valid.proofs.ResourceSetLaws.{out-unless, resources-within, within-itself, within-through}
use Rattle.rpki_valid.specs.ErrorTexts.{revoked_text, other_key_text}

-- ---- what is not on a path

module _ (list : Option CrlParts) (v : Verified) (at : DateTime) (x : CertParts) where
  pub off-period : (e : ValidationError) → (HoldsAt v.period at → ⊥) × IsPeriodError v.period at e
      → IsRefusedWith (IsOnPath list v at x) (IsOffPath list v at x) e
  off-period e h = (unless-from e (λ r k. h.0 k.period), inl h)

  pub off-issued : (e : ValidationError) → HoldsAt v.period at
      → (IsIssued v.by v.cert.tbs at x → ⊥)
      × IsUnissued v.by v.cert.tbs at x e
      → IsRefusedWith (IsOnPath list v at x) (IsOffPath list v at x) e
  off-issued e p h = (unless-from e (λ r k. h.0 k.issued), inr (p, inl h))

  pub off-revoked : (e : ValidationError) → HoldsAt v.period at
      → IsIssued v.by v.cert.tbs at x
      → (IsUnrevoked list x → ⊥) × HasReason revoked_text e
      → IsRefusedWith (IsOnPath list v at x) (IsOffPath list v at x) e
  off-revoked e p i h = (unless-from e (λ r k. h.0 k.unrevoked), inr (p, inr (i, inl h)))

  no-resources : (e : ValidationError) → HasNoResources x.tbs.extensions v.resources e
      → UnlessNoMemory e ((r : ResourceSet) → IsOnPath list v at x r → ⊥)
  no-resources e (inl out) = out-unless e _ out
  no-resources e (inr h) = unless-from e (λ r k. h.0 r k.resources)

  pub path-settles : (r : Result ResourceSet ValidationError) → HoldsAt v.period at
      → IsIssued v.by v.cert.tbs at x → IsUnrevoked list x
      → SettlesUnder x.tbs.extensions v.resources r → ChecksPath list v at x r
  path-settles (Ok r) p h u k = record { period = p; issued = h; unrevoked = u; resources = k }
  path-settles (Err e) p h u k = (no-resources e k, inr (p, inr (h, inr (u, k))))

-- ---- a certificate of a profile on a path

module _ (profile : Profile) (list : Option CrlParts) (v : Verified) (at : DateTime) (x : CertParts) where
  pub profile-then : (r : Result ResourceSet ValidationError) → HasProfile profile v.terms.strictness.names x.tbs
      → ChecksPath list v at x r → ChecksLink profile list v at x r
  profile-then (Ok r) p h = record { profiled = p; path = h }
  profile-then (Err e) p h = (unless-weaker e (λ none r k. none r k.path) h.0, inr (p, h.1))

  pub profile-else : (e : ValidationError)
      → (HasProfile profile v.terms.strictness.names x.tbs → ⊥)
      × IsFirstError v.terms.strictness.names x.tbs (rules_of profile) e
      → IsRefusedLink profile list v at x e
  profile-else e h = (unless-from e (λ r k. h.0 k.profiled), inl h)

  pub within-then : (r : Result ResourceSet ValidationError) → ChecksPath list v at x r
      → IfOk r (λ y. AreWithin y v.resources)
  within-then (Ok r) h = resources-within x.tbs.extensions v.resources r h.resources
  within-then (Err e) h = tt

module _ (profile : Profile) (v : Verified) (at : DateTime) (x : CertParts) (all : IsVerified v) where
  -- no list was asked for
  unlisted-path : (r : ResourceSet) → IsVerifiedBy profile None v at x r
      → HasPath profile v.terms v.asked None v.by at (holder x r)
  unlisted-path r h = record {
    depth = v.depth;
    issuer = holder v.cert v.resources;
    authority = all at h.path.period;
    link =
        record { profiled = h.profiled; issued = h.path.issued; unrevoked = tt; resources = h.path.resources };
  }

  -- a list of the authority, which counts at the moment, was
  module _ (staleness : Staleness) (list : CrlParts) (current : IsIssuedBy staleness v at list) where
    listed-path : (r : ResourceSet) → IsVerifiedBy profile (Some list) v at x r
        → HasPath profile v.terms v.asked (Some staleness) v.by at (holder x r)
    listed-path r h = record {
      depth = v.depth;
      issuer = holder v.cert v.resources;
      authority = all at h.path.period;
      link =
          record {
            profiled = h.profiled;
            issued = h.path.issued;
            unrevoked =
                (list, current.list, h.path.unrevoked);
            resources = h.path.resources;
          };
    }

-- the same, where the authority is known to be verified only if something comes out
pub unlisted-of : (profile : Profile) (v : Verified) (at : DateTime) (x : CertParts)
    (r : Result ResourceSet ValidationError)
    → IfOk r (λ _. IsVerified v) → ChecksLink profile None v at x r
    → IfOk r (λ y. HasPath profile v.terms v.asked None v.by at (holder x y))
unlisted-of profile v at x (Ok r) all h = unlisted-path profile v at x all r h
unlisted-of profile v at x (Err e) all h = tt

pub listed-of : (profile : Profile) (v : Verified) (at : DateTime) (x : CertParts) (staleness : Staleness)
    (list : CrlParts)
    → IsIssuedBy staleness v at list → (r : Result ResourceSet ValidationError) → IfOk r (λ _. IsVerified v)
    → ChecksLink profile (Some list) v at x r
    → IfOk r (λ y. HasPath profile v.terms v.asked (Some staleness) v.by at (holder x y))
listed-of profile v at x staleness list current (Ok r) all h = listed-path profile v at x all staleness list current r h
listed-of profile v at x staleness list current (Err e) all h = tt

-- ---- a trust anchor

module _ (terms : Terms) (by : Checkers) (at : DateTime) (x : CertParts) where
  pub root-settles : (r : Result ResourceSet ValidationError) → HasProfile Ta terms.strictness.names x.tbs
      → IsAnchor by at x → x.tbs.key ≡ terms.key → SettlesOwn x.tbs.extensions r
      → ChecksRoot terms by at x r
  root-settles (Ok r) p h key k = record { profiled = p; anchor = h; key = key; resources = k }
  root-settles (Err e) p h key k = (out-unless e _ k, inr (p, inr (h, inr (key, k))))

  pub root-else : (e : ValidationError)
      → (HasProfile Ta terms.strictness.names x.tbs → ⊥) × IsFirstError terms.strictness.names x.tbs (rules_of Ta) e
      → IsRefusedRoot terms by at x e
  root-else e h = (unless-from e (λ r k. h.0 k.profiled), inl h)

  pub root-off : (e : ValidationError) → HasProfile Ta terms.strictness.names x.tbs
      → (IsAnchor by at x → ⊥) × IsNoAnchor by at x e
      → IsRefusedRoot terms by at x e
  root-off e p h = (unless-from e (λ r k. h.0 k.anchor), inr (p, inl h))

  pub root-other-key : (e : ValidationError) → HasProfile Ta terms.strictness.names x.tbs
      → IsAnchor by at x
      → (x.tbs.key ≡ terms.key → ⊥) × HasReason other_key_text e → IsRefusedRoot terms by at x e
  root-other-key e p h k = (unless-from e (λ r i. k.0 i.key), inr (p, inr (h, inl k)))

-- ---- of lists less is asked

-- a list that counts although it may be stale
accepted-list : (by : Checkers) (issuer : TbsParts) (at : DateTime) (list : CrlParts) (staleness : Staleness)
    → IsListOf by staleness issuer at list
    → IsListOf by Accepted issuer at list
accepted-list by issuer at list staleness h =
    record { signature = h.signature; name = h.name; authority = h.authority; out = h.out; fresh = tt }

module _ (by : Checkers) (issuer : TbsParts) (at : DateTime) (x : CertParts) where
  abbrev Unrevoked : Option Staleness → Type 0
  Unrevoked asked = IsUnrevokedBy by asked issuer at x

  less-left : (one other : Option Staleness) → Unrevoked one → Unrevoked (least_asked one other)
  less-left None other h = tt
  less-left (Some Refused) None h = tt
  less-left (Some Refused) (Some Refused) h = h
  less-left (Some Refused) (Some Accepted) h = (h.0, accepted-list by issuer at h.0 Refused h.1, h.2)
  less-left (Some Accepted) None h = tt
  less-left (Some Accepted) (Some s) h = h

  less-right : (one other : Option Staleness) → Unrevoked other → Unrevoked (least_asked one other)
  less-right None other h = tt
  less-right (Some Refused) other h = h
  less-right (Some Accepted) None h = tt
  less-right (Some Accepted) (Some Refused) h = (h.0, accepted-list by issuer at h.0 Refused h.1, h.2)
  less-right (Some Accepted) (Some Accepted) h = h

link-less : (profile : Profile) (strict : Bool) (one other : Option Staleness) (by : Checkers) (at : DateTime)
    (issuer x : Holder)
    → IsLink profile strict one by at issuer x → IsLink profile strict (least_asked one other) by at issuer x
link-less profile strict one other by at issuer x h = record {
  profiled = h.profiled;
  issued = h.issued;
  unrevoked = less-left by issuer.cert.tbs at x.cert one other h.unrevoked;
  resources = h.resources;
}

authority-less : (terms : Terms) (one other : Option Staleness) (by : Checkers) (at : DateTime) (n : ℕ) (x : Holder)
    → IsAuthorityAt terms one by at n x → IsAuthorityAt terms (least_asked one other) by at n x
authority-less terms one other by at n x (Root y h) = Root y h
authority-less terms one other by at n x (Issued k m issuer y h next bound link) =
    Issued k m issuer y (authority-less terms one other by at k issuer h) next bound
    (link-less Ca terms.strictness.names one other by at issuer y link)

-- ---- at each moment of a period

pub root-at : (terms : Terms) (asked : Option Staleness) (by : Checkers) (at m : DateTime) (x : Holder)
    → IsRoot terms by at x → HoldsAt x.cert.tbs.validity m → IsAuthorityAt terms asked by m 0 x
root-at terms asked by at m x h holds =
    let s = h.anchor.signed in
    Root x (record {
      profiled = h.profiled;
      anchor = record {
        signed = record {
          signature = s.signature;
          period = holds;
          issuer = s.issuer;
          understood =
              s.understood;
          subject = s.subject;
        };
        authority = h.anchor.authority;
      };
      key = h.key;
      resources = h.resources;
    })

module _ (v : Verified) (at m : DateTime) (x : CertParts) (list : Option CrlParts) (r : ResourceSet)
    (all : IsVerified v) (h : IsVerifiedBy Ca list v at x r) (above : HoldsAt v.period m)
    (holds : HoldsAt x.tbs.validity m)
  where
    issued-link : (asked : Option Staleness) → IsUnrevokedBy v.by asked v.cert.tbs m x
        → IsLink Ca v.terms.strictness.names asked v.by m (holder v.cert v.resources) (holder x r)
    issued-link asked unrevoked =
        let s = h.path.issued.signed in
        record {
          profiled = h.profiled;
          issued = record {
            signed = record {
              signature = s.signature;
              period = holds;
              issuer = s.issuer;
              understood =
                  s.understood;
              subject = s.subject;
            };
            authority = h.path.issued.authority;
          };
          unrevoked = unrevoked;
          resources = h.path.resources;
        }

    less-above : (other : Option Staleness)
        → IsAuthorityAt v.terms (least_asked v.asked other) v.by m v.depth (holder v.cert v.resources)
    less-above other = authority-less v.terms v.asked other v.by m v.depth (holder v.cert v.resources) (all m above)

    -- by a list that counts at the moment too
    pub listed-at : (depth : ℕ) → depth ≡ v.depth + 1 → depth ≤ v.terms.deepest
        → (staleness : Staleness) (current : CrlParts) → IsIssuedBy staleness v at current
        → IsCurrentAt staleness m current → IsUnrevoked (Some current) x
        → IsAuthorityAt v.terms (least_asked v.asked (Some staleness)) v.by m depth (holder x r)
    listed-at depth next bound staleness current issued now unrevoked =
        let of : IsListOf v.by staleness v.cert.tbs m current = record {
          signature = issued.list.signature;
          name = issued.list.name;
          authority = issued.list.authority;
          out = now.0;
          fresh = now.1;
        } in
        Issued v.depth depth (holder v.cert v.resources) (holder x r) (less-above (Some staleness)) next bound
        (issued-link (least_asked v.asked (Some staleness))
        (less-right v.by v.cert.tbs m x v.asked (Some staleness) (current, of, unrevoked)))

    none-asked : (asked : Option Staleness) (n : ℕ) (y : Holder) → IsAuthorityAt v.terms asked v.by m n y
        → IsAuthorityAt v.terms None v.by m n y
    none-asked None n y k = k
    none-asked (Some Refused) n y k = authority-less v.terms (Some Refused) None v.by m n y k
    none-asked (Some Accepted) n y k = authority-less v.terms (Some Accepted) None v.by m n y k

    -- without a list
    pub unlisted-at : (depth : ℕ) → depth ≡ v.depth + 1 → depth ≤ v.terms.deepest
        → IsAuthorityAt v.terms None v.by m depth (holder x r)
    unlisted-at depth next bound =
        Issued v.depth depth (holder v.cert v.resources) (holder x r)
        (none-asked v.asked v.depth (holder v.cert v.resources) (all m above)) next bound (issued-link None tt)

-- ---- down a path

pub path-within : (strict : Bool) (asked : Option Staleness) (by : Checkers) (at : DateTime) (top x : Holder)
    → DescendsFrom strict asked by at top x → AreWithin x.resources top.resources
path-within strict asked by at top x Itself = within-itself top.resources
path-within strict asked by at top x (Below issuer y d link) =
    within-through x.resources issuer.resources top.resources
    (resources-within x.cert.tbs.extensions issuer.resources x.resources link.resources)
    (path-within strict asked by at top issuer d)
