-- What the calls on authorities make and test is on a path, where the authority that they were given is.
use Rattle.std.proofs.Common.{◌≡◌, ◌∙◌, ◌⊎◌, ℕ, Bool, true, false, List, Some, None, inl, inr, refl, sym}
use Rattle.std.proofs.Common.{subst, arith}
use Rattle.sha1.specs.Sha1.{sha1}
use Rattle.jiff.specs.Types.{DateTime}
use Rattle.jiff.specs.Words.{time_nanos}
use Rattle.jiff.proofs.Family.{epoch_day_same, same_datetime, civil_nanos-parts}
use Rattle.rpki.specs.KeyIdentifier.{SpellsKeyIdentifier}
use Rattle.rpki.specs.PublicKey.{KeyParts, SpellsKey}
use Rattle.rpki_cert.specs.declared.extension.known_view.KnownView.{KnownView}
use Rattle.rpki_cert.specs.declared.profile.Profile.{Profile}
use Rattle.rpki_cert.specs.declared.profile.Profile.TheVariants.{Ca}
use Rattle.rpki_cert.specs.declared.profile.rule.CertRule.TheVariants.{OwnAuthority}
use Rattle.rpki_cert.specs.Cert.{CertParts, SpellsCert, find}
use Rattle.rpki_cert.specs.Known.{Says, subject_key_identifier}
use Rattle.rpki_cert.specs.KnownView.{AreKnown}
use Rattle.rpki_cert.specs.RuleWords.{SaysOwn}
use Rattle.rpki_crl.specs.Crl.{Entry, is_revoked, listed}
use Rattle.rpki_valid.specs.declared.resource.set.ResourceSet.{ResourceSet}
use Rattle.rpki_valid.specs.declared.staleness.Staleness.TheVariants.{Refused}
use Rattle.rpki_valid.specs.ResourceSet.{HasResources}
use Rattle.rpki_valid.specs.Revocation.{IsListOf, IsUnrevokedBy}
use Rattle.rpki_valid.specs.Valid.{HasAuthority}
use Rattle.rpki_valid.specs.Verified.{IsAuthorityAt, IsLink, holder}
use Rattle.rpki_valid.specs.Verified.IsAuthorityAt.{Root, Issued}
use Rattle.rpki_x509.specs.Authority.{SpellsAuthority, authority_key_identifier}
use Rattle.rpki_c.specs.declared.authority.Authority.{Authority}
use Rattle.rpki_c.specs.declared.span.Span.{Span}
use Rattle.rpki_c.specs.declared.times.Moment.{Moment}
use Rattle.rpki_c.specs.Authority.{HasOwn, IsMadeOf, IsMadeUnder, IsMadeWith, Own, set_of, with_list}
use Rattle.rpki_c.specs.AuthorityManifest.{IsManifestBelow, with_manifest}
use Rattle.rpki_c.specs.Below.{checkers, IsBelow, IsIssued}
use Rattle.rpki_c.specs.Made.{IsTimeOf}
use Rattle.rpki_c.specs.Path.{BeginsPath, HasPathBy, IsOfPath, KeepsPath, terms_under}
use Rattle.rpki_c.proofs.HeldLaws.{anchored-own, authority-sound, has-resources}
use Rattle.rpki_c.proofs.OneCertLaws.{one-cert}
use Rattle.rpki_c.proofs.RevokedLaws.{entries-one}

-- ---- one moment

-- two times with the same date and clock are one
pub one-moment : (m : Moment) (t u : DateTime) → IsTimeOf m t → IsTimeOf m u → t ≡ u
one-moment m t u h k =
    let days = epoch_day_same t.date u.date (h.year ∙ sym k.year) (h.month ∙ sym k.month) (h.day ∙ sym k.day) in
    let clock : time_nanos t.time ≡ time_nanos u.time =
    rw (h.hour ∙ sym k.hour, h.minute ∙ sym k.minute, h.second ∙ sym k.second, h.subsec ∙ sym k.subsec) refl in
    same_datetime t u (civil_nanos-parts t ∙ rw (days, clock) (sym (civil_nanos-parts u)))

-- ---- a certificate below an authority of a path

module _ (key : KeyParts) (by : Authority) (p : IsOfPath key by) (profile : Profile) (x : CertParts)
    (below : IsBelow profile by x) where
  issuer-is : below.issuer ≡ p.cert
  issuer-is = one-cert by.certificate.octets.now below.issuer p.cert below.above p.spelled

  at-is : below.at ≡ p.at
  at-is = one-moment by.moment below.at p.at below.moment p.moment

  issued-there : IsIssued p.cert p.at x
  issued-there =
      subst (λ (y : CertParts). IsIssued y p.at x) issuer-is
      (subst (λ (t : DateTime). IsIssued below.issuer t x) at-is below.issued)

  unrevoked-there : IsUnrevokedBy checkers (Some Refused) p.cert.tbs p.at x
  unrevoked-there =
      let list = p.list below.has_list in
      let same : below.entries ≡ listed list.list.list.revoked =
      entries-one below.entries (listed list.list.list.revoked) by.revoked_certs.octets.now below.listed list.revoked
      in (
        list.list,
        list.of,
        subst (λ (xs : List Entry). is_revoked x.tbs.serial xs ≡ false) same below.unrevoked,
      )

  pub link-there : (held : ResourceSet) → HasResources x.tbs.extensions p.held held
      → IsLink profile true (Some Refused) checkers p.at (holder p.cert p.held) (holder x held)
  link-there held resources = record {
    profiled = below.profiled;
    issued = issued-there;
    unrevoked = unrevoked-there;
    resources = resources;
  }

pub resources-there : (key : KeyParts) (by : Authority) (p : IsOfPath key by) (x : CertParts) (known : KnownView)
    (own : Own) → AreKnown x.tbs.extensions known → HasOwn by x known own
    → HasResources x.tbs.extensions p.held (set_of own)
resources-there key by p x known own says has =
    has-resources p.held
    (authority-sound (terms_under key) (Some Refused) checkers p.at by.depth (holder p.cert p.held) p.path)
    by.ip_blocks.now by.as_blocks.now p.passed x known own says has.addresses has.numbers

pub end-path : (profile : Profile) (by : Authority) (x : CertParts) (known : KnownView) (own : Own)
    → AreKnown x.tbs.extensions known → IsBelow profile by x → HasOwn by x known own
    → HasPathBy profile by x (set_of own)
end-path profile by x known own says below has key p = record {
  depth = by.depth;
  issuer = holder p.cert p.held;
  authority = p.path;
  link = link-there key by p profile x below (set_of own) (resources-there key by p x known own says has);
}

-- ---- the authority of a certificate below

pub under-path : (by : Authority) (s : List ℕ) (new : Authority) → IsMadeUnder by s new → KeepsPath by new
under-path by s new m key p = record {
  cert = m.x;
  spelled = subst (SpellsCert m.x) (sym m.certificate) m.spelled;
  held = set_of m.own;
  passed = record { addresses = m.ip_blocks; numbers = m.as_blocks };
  at = p.at;
  moment = subst (λ (t : Moment). IsTimeOf t p.at) (sym m.moment) p.moment;
  path =
      Issued by.depth new.depth (holder p.cert p.held) (holder m.x (set_of m.own)) p.path m.depth
      (omega (arith, m.depth, m.next.deep))
      (link-there key by p Ca m.x m.below (set_of m.own)
      (resources-there key by p m.x m.known m.own m.says m.has));
  list = λ has. absurd (no-list (sym m.unlisted ∙ has));
  manifest = λ has. absurd (no-list (sym m.bare ∙ has));
}
  where
    no-list : false ≡ true → ⊥
    no-list is = absurd (cc)

-- ---- the authority with its list

with-list : (by new : Authority) (s : List ℕ) → IsMadeWith by s new → KeepsPath by (with_list by new)
with-list by new s m key p = record {
  cert = p.cert;
  spelled = p.spelled;
  held = p.held;
  passed = p.passed;
  at = p.at;
  moment = p.moment;
  path = p.path;
  list = λ has. record {
    list = m.list;
    of = subst (λ (y : CertParts). IsListOf checkers Refused y.tbs p.at m.list)
        (one-cert by.certificate.octets.now m.issuer p.cert m.above p.spelled)
        (subst (λ (t : DateTime). IsListOf checkers Refused m.issuer.tbs t m.list)
        (one-moment by.moment m.at p.at m.moment p.moment) m.of);
    revoked = m.revoked;
    octets = s;
    spelled = m.spelled;
    digest = m.digest;
  };
  manifest = λ has. absurd (no-manifest has);
}
  where
    no-manifest : false ≡ true → ⊥
    no-manifest is = absurd (cc)

pub list-path : (by : Authority) (s : List ℕ) (new : Authority) → IsMadeWith by s new → KeepsPath by new
list-path by s new m key p = subst (IsOfPath key) (sym m.same) (with-list by new s m key p)

-- ---- the authority with its manifest

same-manifest : (strict : Bool) (by : Authority) (s : List ℕ) (files : Span) → IsManifestBelow strict by s
    → IsManifestBelow strict (with_manifest by files) s
same-manifest strict by s files m =
    let b = m.signed.below in
    record {
      x = m.x;
      spelled = m.spelled;
      type = m.type;
      known = m.known;
      signed = record {
        signed = m.signed.signed;
        says = m.signed.says;
        below = record {
          profiled = b.profiled;
          issuer = b.issuer;
          above = b.above;
          at = b.at;
          moment = b.moment;
          issued = b.issued;
          has_list = b.has_list;
          entries = b.entries;
          listed = b.listed;
          unrevoked = b.unrevoked;
        };
      };
      inherited = m.inherited;
      held = record {
        content = m.held.content;
        listing = m.held.listing;
        distinct = m.held.distinct;
        list = m.held.list;
        at = m.held.at;
        moment = m.held.moment;
        now = m.held.now;
      };
      named = record {
        issuer = m.named.issuer;
        above = m.named.above;
        folder = m.named.folder;
        publishes = m.named.publishes;
        place = m.named.place;
        names = m.named.names;
        is = m.named.is;
      };
    }

pub manifest-path : (strict : Bool) (by : Authority) (s : List ℕ) (files : Span) → IsManifestBelow strict by s
    → KeepsPath by (with_manifest by files)
manifest-path strict by s files m key p = record {
  cert = p.cert;
  spelled = p.spelled;
  held = p.held;
  passed = p.passed;
  at = p.at;
  moment = p.moment;
  path = p.path;
  list = λ has. let l = p.list has in record {
    list = l.list;
    of = l.of;
    revoked = l.revoked;
    octets = l.octets;
    spelled = l.spelled;
    digest = l.digest;
  };
  manifest = λ has. record { strict = strict; octets = s; below = same-manifest strict by s files m };
}

-- ---- the authority of a trust anchor

-- the authority key identifier of a trust anchor is left out, or is that of its key
own-authority : (x : CertParts) (known : KnownView) (identifier : List ℕ) → AreKnown x.tbs.extensions known
    → Says false SpellsKeyIdentifier (find subject_key_identifier x.tbs.extensions) (Some identifier)
    → SaysOwn (find authority_key_identifier x.tbs.extensions) (find subject_key_identifier x.tbs.extensions)
    → (find authority_key_identifier x.tbs.extensions ≡ None) ⊎ HasAuthority identifier x.tbs
own-authority x known identifier says subject (inl none) = inl none
own-authority x known identifier says subject (inr (other, authority, own)) =
    let same : Some other ≡ Some identifier =
    says.subject.1 (Some other) own ∙ sym (says.subject.1 (Some identifier) subject) in
    let one : other ≡ identifier = cc in
    let found = find authority_key_identifier x.tbs.extensions in
    inr (subst (λ (i : List ℕ). Says false SpellsAuthority found (Some i)) one authority)

pub anchor-path : (octets : List ℕ) (m : Moment) (s : List ℕ) (new : Authority) → IsMadeOf octets m s new
    → BeginsPath octets new
anchor-path octets m s new h = record {
  key = h.x.tbs.key;
  spelled = subst (SpellsKey h.x.tbs.key) (sym h.locator) h.spelled.tbs.spelled.two.two.two.two.two.two.one;
  path = record {
    cert = h.x;
    spelled = subst (SpellsCert h.x) (sym h.certificate) h.spelled;
    held = set_of h.own;
    passed = record { addresses = h.ip_blocks; numbers = h.as_blocks };
    at = h.at;
    moment = subst (λ (t : Moment). IsTimeOf t h.at) (sym h.moment) h.time;
    path = subst
        (λ (n : ℕ). IsAuthorityAt (terms_under h.x.tbs.key) (Some Refused) checkers h.at n (holder h.x (set_of h.own)))
        (sym h.depth)
        (Root (holder h.x (set_of h.own)) (record {
          profiled = h.profiled;
          anchor = record {
            signed = h.signed;
            authority = own-authority h.x h.known (sha1 h.x.tbs.key.bits.octets) h.says h.signed.subject
                (h.profiled 23 OwnAuthority (omega arith));
          };
          key = refl;
          resources = anchored-own h.x h.own h.has;
        }));
    list = λ has. absurd (no-list (sym h.unlisted ∙ has));
    manifest = λ has. absurd (no-list (sym h.bare ∙ has));
  };
}
  where
    no-list : false ≡ true → ⊥
    no-list is = absurd (cc)
