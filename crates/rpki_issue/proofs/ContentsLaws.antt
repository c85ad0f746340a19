-- The contents of extensions that are written: how many octets they have, and that they are read back.
use Rattle.std.proofs.Common.{◌≡◌, ◌≤◌, ◌<◌, ◌^◌, ℕ, true, false, List, [], ◌∷◌, ◌++◌, length, refl, sym}
use Rattle.std.proofs.Common.{arith, lit<, inl, inr, length-append, None, Some, Option, map, append-nil}
use Rattle.std.specs.Str.{IsAscii}
use Rattle.rpki_der.specs.Prelude.{sequence, boolean, bit_string, oid, octet_string, ia5_string, context_6, tlv}
use Rattle.rpki_der.specs.Prelude.{boolean_contents, IsTag, IsOnly, IsOid, IsOidOf, SpellsLeaf, SpellsSome, SpellsEach}
use Rattle.rpki_der.specs.Prelude.{Then, sequence_legal, octet_string_legal, leaf, only}
use Rattle.rpki_der.specs.Listed.{EachHas}
use Rattle.rpki_der.specs.OptionalPart.{optional_octets, OfPart}
use Rattle.rpki_der.proofs.EncodeLaws.{leaf-legal, tlv_at_most}
use Rattle.rpki_text.specs.RsyncText.{rsync_refusal}
use Rattle.rpki.specs.AlgorithmOctetsLaws.{oid-legal}
use Rattle.rpki.specs.KeyIdentifier.{IsKeyIdentifier, SpellsKeyIdentifier}
use Rattle.rpki.proofs.NamedLaws.{plain-oid}
use Rattle.rpki_x509.specs.Tag.{zero_tag}
use Rattle.rpki_x509.specs.TagLaws.{zero_legal}
use Rattle.rpki_x509.specs.Authority.{SpellsTagged, SpellsAuthority}
use Rattle.rpki_cert.specs.declared.extension.key_usage.KeyUsage.{KeyUsage}
use Rattle.rpki_cert.specs.declared.extension.key_usage.KeyUsage.TheVariants.{Ca, Ee}
use Rattle.rpki_cert.specs.declared.extension.policy.Overclaim.TheVariants.{Refuse}
use Rattle.rpki_cert.specs.GeneralName.{SpellsText, SpellsName}
use Rattle.rpki_cert.specs.Access.{Through, SpellsUri, SpellsFullName, SpellsPointName, SpellsPoint, SpellsPoints}
use Rattle.rpki_cert.specs.Access.{SpellsDescription, IsOidAs, first_rsync}
use Rattle.rpki_cert.specs.Access.{ca_repository, rpki_manifest, rpki_notify}
use Rattle.rpki_cert.specs.ExtensionContent.{SpellsConstraints, SpellsUsage, IsUsage, SpellsPolicies}
use Rattle.rpki_cert.specs.ExtensionContent.{ArePolicyParts, AreQualifiers, IsPolicyName, policy_value}
use Rattle.rpki_cert.specs.ExtensionContent.{SpellsQualifiers, SpellsQualifier, AreQualifierParts, IsAnyIa5}
use Rattle.rpki_cert.specs.ExtensionContent.{router_purpose, statement_name, SpellsPurposes, ArePurposes}
use Rattle.rpki_issue.specs.declared.kind.Repository.{Repository}
use Rattle.rpki_issue.specs.Contents.{constraints_octets, usage_contents, usage_octets, purposes_octets}
use Rattle.rpki_issue.specs.Contents.{subject_octets, authority_octets, rpki_policy, qualifier_contents}
use Rattle.rpki_issue.specs.Contents.{qualifiers_octets, policy_contents, policies_octets, uri_octets, points_octets}
use Rattle.rpki_issue.specs.Contents.{description_contents, description_octets, described_octets, access_octets}
use Rattle.rpki_issue.specs.Contents.{as_read, notification_access, notification_of, repository_access}
use Rattle.rpki_issue.specs.Contents.{CanPoint, CanTell, CanState, CanPublish, SpellsListed}

boolean-legal : IsTag boolean
boolean-legal = record { below = lit< tt; named = λ _. lit< tt }

bits-legal : IsTag bit_string
bits-legal = record { below = lit< tt; named = λ _. lit< tt }

text-legal : IsTag ia5_string
text-legal = record { below = lit< tt; named = λ _. lit< tt }

uri-legal : IsTag context_6
uri-legal = record { below = lit< tt; named = λ e. absurd (cc) }

-- ---- constraints

pub constraints-few : length constraints_octets ≤ 40
constraints-few = omega (
  arith,
  tlv_at_most sequence true (tlv boolean false (boolean_contents true)),
  tlv_at_most boolean false (boolean_contents true),
)

pub constraints-spelled : SpellsConstraints tt constraints_octets
constraints-spelled =
    leaf-legal sequence true (leaf boolean (IsOnly (boolean_contents true))).spells tt
    (tlv boolean false (boolean_contents true)) sequence_legal
    (omega (arith, tlv_at_most boolean false (boolean_contents true)))
    (leaf-legal boolean false (IsOnly (boolean_contents true)) tt (boolean_contents true) boolean-legal (lit< tt) refl)

-- ---- a use

pub usage-two : (u : KeyUsage) → length (usage_contents u) ≡ 2
usage-two Ca = refl
usage-two Ee = refl

pub usage-few : (u : KeyUsage) → length (usage_octets u) ≤ 40
usage-few u = omega (arith, usage-two u, tlv_at_most bit_string false (usage_contents u))

is-usage : (u : KeyUsage) → IsUsage u (usage_contents u)
is-usage Ca = refl
is-usage Ee = refl

pub usage-spelled : (u : KeyUsage) → SpellsUsage u (usage_octets u)
usage-spelled u =
    leaf-legal bit_string false IsUsage u (usage_contents u) bits-legal (omega (arith, usage-two u)) (is-usage u)

-- ---- purposes

pub purpose-few : length (tlv oid false router_purpose) ≤ 18
purpose-few = tlv_at_most oid false router_purpose

pub purposes-few : length purposes_octets ≤ 40
purposes-few = omega (arith, purpose-few, tlv_at_most sequence true (tlv oid false router_purpose))

purpose-valid : IsOid router_purpose
purpose-valid = plain-oid router_purpose refl (lit< tt) (lit< tt)

purpose : ArePurposes true (tlv oid false router_purpose)
purpose = record {
  purposes = true ∷ [];
  some = record {
    some = λ e. absurd (cc);
    each = (
      [],
      record {
        front = tlv oid false router_purpose;
        parts = sym (append-nil (tlv oid false router_purpose));
        spelled = leaf-legal oid false (IsOidAs router_purpose) true router_purpose oid-legal (lit< tt)
            (purpose-valid, refl);
      },
      refl,
    );
  };
  same = refl;
}

pub purposes-spelled : SpellsPurposes true purposes_octets
purposes-spelled =
    leaf-legal sequence true ArePurposes true (tlv oid false router_purpose) sequence_legal (omega (arith, purpose-few))
    purpose

-- ---- identifiers of keys

module _ (k : List ℕ) (size : length k ≡ 20) where
  pub subject-few : length (subject_octets k) ≤ 40
  subject-few = omega (arith, size, tlv_at_most octet_string false k)

  pub subject-spelled : SpellsKeyIdentifier k (subject_octets k)
  subject-spelled =
      leaf-legal octet_string false IsKeyIdentifier k k octet_string_legal (omega (arith, size))
      (record { same = refl; size = size })

  pub authority-few : length (authority_octets k) ≤ 40
  authority-few =
      omega (arith, size, tlv_at_most sequence true (tlv zero_tag false k), tlv_at_most zero_tag false k)

  pub authority-spelled : SpellsAuthority k (authority_octets k)
  authority-spelled =
      leaf-legal sequence true SpellsTagged k (tlv zero_tag false k) sequence_legal
      (omega (arith, size, tlv_at_most zero_tag false k))
      (leaf-legal zero_tag false IsKeyIdentifier k k zero_legal (omega (arith, size))
      (record { same = refl; size = size }))

-- ---- policies

pub policy-name-few : length (tlv oid false rpki_policy) ≤ 18
policy-name-few = tlv_at_most oid false rpki_policy

pub statement-few : length (tlv oid false statement_name) ≤ 18
statement-few = tlv_at_most oid false statement_name

module _ (uri : List ℕ) (few : length uri < 3080) where
  pub qualifier-few : length (qualifier_contents uri) ≤ 3110
  qualifier-few = omega (
    arith,
    few,
    statement-few,
    tlv_at_most ia5_string false uri,
    length-append (tlv oid false statement_name) (tlv ia5_string false uri),
  )

  pub inner-few : length (tlv sequence true (qualifier_contents uri)) ≤ 3120
  inner-few = omega (arith, qualifier-few, tlv_at_most sequence true (qualifier_contents uri))

  pub qualifiers-few : length (qualifiers_octets uri) ≤ 3130
  qualifiers-few = omega (arith, inner-few, tlv_at_most sequence true (tlv sequence true (qualifier_contents uri)))

  pub qualifiers-spelled : IsAscii uri → SpellsQualifiers (tt, tt) (qualifiers_octets uri)
  qualifiers-spelled ascii =
      leaf-legal sequence true SpellsQualifier (tt, tt) (tlv sequence true (qualifier_contents uri)) sequence_legal
      (omega (arith, inner-few))
      (leaf-legal sequence true AreQualifierParts (tt, tt) (qualifier_contents uri) sequence_legal
      (omega (arith, qualifier-few))
      (record {
        first = tlv oid false statement_name;
        second = tlv ia5_string false uri;
        parts = refl;
        one = leaf-legal oid false (IsOnly statement_name) tt statement_name oid-legal (lit< tt) refl;
        two = leaf-legal ia5_string false IsAnyIa5 tt uri text-legal (omega (arith, few)) ascii;
      }))

pub optional-few : (practices : Option (List ℕ)) → CanState practices
    → length (optional_octets qualifiers_octets practices) ≤ 3130
optional-few None h = omega arith
optional-few (Some uri) h = qualifiers-few uri h.few

pub policy-few : (practices : Option (List ℕ)) → CanState practices → length (policy_contents practices) ≤ 3150
policy-few practices h = omega (
  arith,
  policy-name-few,
  optional-few practices h,
  length-append (tlv oid false rpki_policy) (optional_octets qualifiers_octets practices),
)

pub policies-inner : (practices : Option (List ℕ)) → CanState practices
    → length (tlv sequence true (policy_contents practices)) ≤ 3160
policies-inner practices h =
    omega (arith, policy-few practices h, tlv_at_most sequence true (policy_contents practices))

pub policies-few : (practices : Option (List ℕ)) → CanState practices → length (policies_octets practices) < 2 ^ 14
policies-few practices h = omega (
  arith,
  policies-inner practices h,
  tlv_at_most sequence true (tlv sequence true (policy_contents practices)),
)

are-qualifiers : (practices : Option (List ℕ)) → CanState practices
    → AreQualifiers tt (optional_octets qualifiers_octets practices)
are-qualifiers None h = inl refl
are-qualifiers (Some uri) h = inr (qualifiers-spelled uri h.few h.ascii)

pub policies-spelled : (practices : Option (List ℕ)) → CanState practices
    → SpellsPolicies Refuse (policies_octets practices)
policies-spelled practices h =
    leaf-legal sequence true (only policy_value).spells (Refuse, tt) (tlv sequence true (policy_contents practices))
    sequence_legal (let k = policies-inner practices h in omega (arith, k))
    (leaf-legal sequence true ArePolicyParts (Refuse, tt) (policy_contents practices) sequence_legal
    (let k = policy-few practices h in omega (arith, k))
    (record {
      first = tlv oid false rpki_policy;
      second = optional_octets qualifiers_octets practices;
      parts = refl;
      one = leaf-legal oid false IsPolicyName Refuse rpki_policy oid-legal (lit< tt) refl;
      two = are-qualifiers practices h;
    }))

-- ---- URIs: how many octets

module _ (uri : List ℕ) (few : length uri < 3080) where
  pub uri-few : length (uri_octets uri) ≤ 3100
  uri-few = omega (arith, few, tlv_at_most context_6 false uri)

  pub full-few : length (tlv zero_tag true (uri_octets uri)) ≤ 3120
  full-few = omega (arith, uri-few, tlv_at_most zero_tag true (uri_octets uri))

  pub point-name-few : length (tlv zero_tag true (tlv zero_tag true (uri_octets uri))) ≤ 3140
  point-name-few = omega (arith, full-few, tlv_at_most zero_tag true (tlv zero_tag true (uri_octets uri)))

  pub point-few : length (tlv sequence true (tlv zero_tag true (tlv zero_tag true (uri_octets uri)))) ≤ 3160
  point-few = omega (
    arith,
    point-name-few,
    tlv_at_most sequence true (tlv zero_tag true (tlv zero_tag true (uri_octets uri))),
  )

  pub points-few : length (points_octets uri) < 2 ^ 14
  points-few = omega (
    arith,
    point-few,
    tlv_at_most sequence true (tlv sequence true (tlv zero_tag true (tlv zero_tag true (uri_octets uri)))),
  )

  module _ (method : List ℕ) (short : length method ≤ 8) where
    pub inside-few : length (description_contents method uri) ≤ 3130
    inside-few = omega (
      arith,
      short,
      uri-few,
      tlv_at_most oid false method,
      length-append (tlv oid false method) (uri_octets uri),
    )

    pub description-few : length (description_octets method uri) ≤ 3140
    description-few = omega (arith, inside-few, tlv_at_most sequence true (description_contents method uri))

-- ---- and that they are read back

module _ (uri : List ℕ) (few : length uri < 3080) (ascii : IsAscii uri) where
  pub text-spelled : SpellsText uri (uri_octets uri)
  text-spelled = leaf-legal context_6 false _ uri uri uri-legal (omega (arith, few)) (refl, ascii)

  one-uri : SpellsSome SpellsUri (Some uri ∷ []) (uri_octets uri)
  one-uri = record {
    some = λ e. absurd (cc);
    each = (
      [],
      record {
        front = uri_octets uri;
        parts = sym (append-nil (uri_octets uri));
        spelled = (uri, text-spelled, refl);
      },
      refl,
    );
  }

  pub points-spelled : first_rsync (Some uri ∷ []) ≡ Some uri → SpellsPoints (Some uri) (points_octets uri)
  points-spelled first =
      let one = uri-few uri few in
      let full = full-few uri few in
      let name = point-name-few uri few in
      let point = point-few uri few in
      leaf-legal sequence true SpellsPoint (Some uri) _ sequence_legal (omega (arith, point))
      (leaf-legal sequence true SpellsPointName (Some uri) _ sequence_legal (omega (arith, name))
      (leaf-legal zero_tag true SpellsFullName (Some uri) _ zero_legal (omega (arith, full))
      (leaf-legal zero_tag true (Through first_rsync (SpellsSome SpellsUri)) (Some uri) _ zero_legal
      (omega (arith, one)) (Some uri ∷ [], one-uri, sym first))))

pub first-is : (uri : List ℕ) → rsync_refusal uri ≡ None → first_rsync (Some uri ∷ []) ≡ Some uri
first-is uri legal = rw legal refl

-- ---- access descriptions

-- a method, and a URI of few octets
pub record IsDescribed (d : List ℕ × List ℕ) : Type 0 where
  pub valid : IsOid d.0
  pub short : length d.0 ≤ 8
  pub ascii : IsAscii d.1
  pub few : length d.1 < 3080

pub described : (method uri : List ℕ) → IsOid method → length method ≤ 8 → CanPoint uri → IsDescribed (method, uri)
described method uri valid short can =
    record { valid = valid; short = short; ascii = can.ascii; few = can.few }

pub told : (method uri : List ℕ) → IsOid method → length method ≤ 8 → CanTell uri → IsDescribed (method, uri)
told method uri valid short can = record { valid = valid; short = short; ascii = can.ascii; few = can.few }

pub description-spelled : (d : List ℕ × List ℕ) → IsDescribed d
    → SpellsDescription (as_read d) (description_octets d.0 d.1)
description-spelled d h =
    let few = inside-few d.1 h.few d.0 h.short in
    leaf-legal sequence true (Then (SpellsLeaf oid false IsOidOf) SpellsName) (as_read d) _ sequence_legal
    (omega (arith, few))
    (record {
      first = tlv oid false d.0;
      second = uri_octets d.1;
      parts = refl;
      one = leaf-legal oid false IsOidOf d.0 d.0 oid-legal (let k = h.short in omega (arith, k)) (refl, h.valid);
      two = text-spelled d.1 h.few h.ascii;
    })

pub each-described : (ds : List (List ℕ × List ℕ)) → EachHas IsDescribed ds
    → SpellsEach SpellsDescription (map as_read ds) (described_octets ds)
each-described [] h = refl
each-described (d ∷ ds) h = (
  described_octets ds,
  record { front = description_octets d.0 d.1; parts = refl; spelled = description-spelled d h.0 },
  each-described ds h.1,
)

pub listed-spelled : (d : List ℕ × List ℕ) (ds : List (List ℕ × List ℕ)) → EachHas IsDescribed (d ∷ ds)
    → SpellsListed (d ∷ ds)
listed-spelled d ds h = record { some = λ e. absurd (cc); each = each-described (d ∷ ds) h }

-- descriptions of fewer than 2^13 octets each, of which there are three at most
pub described-few : (ds : List (List ℕ × List ℕ)) → EachHas IsDescribed ds → length ds ≤ 3
    → length (described_octets ds) ≤ 9420
described-few [] h n = omega arith
described-few (a ∷ []) h n =
    let k = description-few a.1 h.0.few a.0 h.0.short in
    omega (arith, k, length-append (description_octets a.0 a.1) [])
described-few (a ∷ b ∷ []) h n =
    let k = description-few a.1 h.0.few a.0 h.0.short in
    let l = description-few b.1 h.1.0.few b.0 h.1.0.short in
    omega (
      arith,
      k,
      l,
      length-append (description_octets a.0 a.1) (description_octets b.0 b.1 ++ []),
      length-append (description_octets b.0 b.1) [],
    )
described-few (a ∷ b ∷ c ∷ []) h n =
    let k = description-few a.1 h.0.few a.0 h.0.short in
    let l = description-few b.1 h.1.0.few b.0 h.1.0.short in
    let m = description-few c.1 h.1.1.0.few c.0 h.1.1.0.short in
    omega (
      arith,
      k,
      l,
      m,
      length-append (description_octets a.0 a.1) (description_octets b.0 b.1 ++ (description_octets c.0 c.1 ++ [])),
      length-append (description_octets b.0 b.1) (description_octets c.0 c.1 ++ []),
      length-append (description_octets c.0 c.1) [],
    )
described-few (a ∷ b ∷ c ∷ d ∷ ds) h n = absurd (omega (arith, n))

pub access-few : (ds : List (List ℕ × List ℕ)) → EachHas IsDescribed ds → length ds ≤ 3
    → length (access_octets ds) < 2 ^ 14
access-few ds h n =
    let k = described-few ds h n in
    omega (arith, k, tlv_at_most sequence true (described_octets ds))

-- where an authority publishes
repository-valid : IsOid ca_repository
repository-valid = plain-oid ca_repository refl (lit< tt) (lit< tt)

manifest-valid : IsOid rpki_manifest
manifest-valid = plain-oid rpki_manifest refl (lit< tt) (lit< tt)

notify-valid : IsOid rpki_notify
notify-valid = plain-oid rpki_notify refl (lit< tt) (lit< tt)

notification-described : (uri : Option (List ℕ)) → OfPart CanTell uri → EachHas IsDescribed (notification_access uri)
notification-described None h = tt
notification-described (Some uri) h = (told rpki_notify uri notify-valid (omega arith) h, tt)

pub repository-described : (x : Repository) → CanPublish x → EachHas IsDescribed (repository_access x)
repository-described x h = (
  described ca_repository x.base.now repository-valid (omega arith) h.base,
  (
    described rpki_manifest x.manifest.now manifest-valid (omega arith) h.manifest,
    notification-described (notification_of x) h.notification,
  ),
)

notification-one : (uri : Option (List ℕ)) → length (notification_access uri) ≤ 1
notification-one None = omega arith
notification-one (Some uri) = omega arith

pub repository-three : (x : Repository) → length (repository_access x) ≤ 3
repository-three x = let k = notification-one (notification_of x) in omega (arith, k)
