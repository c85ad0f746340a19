-- A request that is written is read as the request that was to be signed.
use Rattle.std.proofs.Common.{◌≡◌, ◌<◌, ◌≤◌, ◌^◌, ◌+◌, ℕ, Bool, true, false, List, [], ◌∷◌, ◌++◌, map, length, Option}
use Rattle.std.proofs.Common.{None, Some, refl, arith, lit<, length-append, sym, subst, Result, Ok, Err, IfOk}
use Rattle.rpki_der.specs.Prelude.{sequence, set, oid, octet_string, integer, bit_string, tlv, only, then}
use Rattle.rpki_der.specs.Prelude.{this_number, this_oid}
use Rattle.rpki_der.specs.Prelude.{IsNumber, IsOnly, IsBits, bits_of, bits_contents, IsValue, sequence_legal, set_legal}
use Rattle.rpki_der.specs.Prelude.{end}
use Rattle.rpki_der.specs.Listed.{EachHas}
use Rattle.rpki_der.specs.OptionalPart.{OfPart}
use Rattle.rpki_der.proofs.EncodeLaws.{leaf-legal, tlv-legal, tlv-at-least, bits-spelled, tlv_at_most}
use Rattle.rpki_time.specs.Serial.{serial_octets, serial_contents}
use Rattle.rpki_time.proofs.WritingLaws.{serial_contents-are}
use Rattle.rpki.specs.AlgorithmOctets.{algorithm_octets}
use Rattle.rpki.specs.AlgorithmOctetsLaws.{algorithm-spelled, oid-legal}
use Rattle.rpki.specs.Extension.{extension_contents, critical_octets}
use Rattle.rpki.specs.ExtensionValue.{ExtensionParts, extension_parts, CanBeWritten, written_extension}
use Rattle.rpki.specs.KeyFault.{key}
use Rattle.rpki.specs.Oids.{sha256_with_rsa_encryption}
use Rattle.rpki.specs.Provider.{Checkers}
use Rattle.rpki.specs.PublicKey.{key_octets}
use Rattle.rpki.specs.SignedData.{signature_octets, written_contents}
use Rattle.rpki_x509.specs.Tag.{zero_tag}
use Rattle.rpki_x509.specs.TagLaws.{zero_legal, integer-legal, number-few}
use Rattle.rpki_x509.proofs.WrittenLaws.{written-then, written-around, front-few, back-few}
use Rattle.rpki_cert.specs.Access.{first_https, named, ca_repository, rpki_manifest, rpki_notify}
use Rattle.rpki_cert.specs.declared.extension.key_usage.KeyUsage.TheVariants.{Ca}
use Rattle.rpki_cert.specs.Known.{basic_constraints, key_usage, subject_info_access}
use Rattle.rpki_request.specs.Request.{SpellsRepository, IsRepository, AreAsked, AskedParts, asked}
use Rattle.rpki_request.specs.Request.{each_description, one_more, attribute, attribute_parts, attribute_values}
use Rattle.rpki_request.specs.Request.{attributes, extension_request, each_extension, subject}
use Rattle.rpki_request.specs.Request.{fields, fields_of, request_info, request}
use Rattle.rpki_issue.specs.declared.csr_written.CsrBuilder.{CsrBuilder}
use Rattle.rpki_issue.specs.declared.error.IssueError.{IssueError}
use Rattle.rpki_issue.specs.declared.error.IssueError.TheVariants.{Uri, Period, Doubled, Resources, TooLong}
use Rattle.rpki_issue.specs.declared.error.IssueError.TheVariants.{Rule, ContentType, Certificate, BadSignature}
use Rattle.rpki_issue.specs.declared.error.IssueError.TheVariants.{OutOfMemory}
use Rattle.rpki_issue.specs.declared.kind.Repository.{Repository}
use Rattle.rpki_issue.specs.Contents.{CanPublish, CanTell, notification_of, notification_access, repository_access}
use Rattle.rpki_issue.specs.Contents.{access_octets, described_octets, as_read, constraints_octets, usage_octets}
use Rattle.rpki_issue.specs.Extensions.{extensions_listed}
use Rattle.rpki_issue.specs.Rows.{constraints_extension, usage_extension, repository_extension}
use Rattle.rpki_issue.specs.Requests.{usage_part, attribute_contents, attributes_octets, asker_octets}
use Rattle.rpki_issue.specs.Requests.{asker_of, info_contents, info_octets, IsShortInfo, asked_octets, asked_usage}
use Rattle.rpki_issue.specs.Requests.{repository_planned, info_planned, IsAsker, AreAskers, RequestToSign}
use Rattle.rpki_issue.specs.Requests.{IsRequestPlanRefused, IsMadeRequest, request_made}
use Rattle.rpki_issue.specs.Signing.{signed_parts, signed_whole, written_algorithm, IsShortWhole, AreSigned}
use Rattle.rpki_issue.specs.Written.{IsKeyedRefusal}
use Rattle.rpki_issue.proofs.CertLaws.{string-legal, string-short, all-used}
use Rattle.rpki_issue.proofs.ContentsLaws.{constraints-few, constraints-spelled, usage-few, usage-spelled, access-few}
use Rattle.rpki_issue.proofs.ContentsLaws.{each-described, repository-described, repository-three}
use Rattle.rpki_issue.proofs.PartsLaws.{each-read}
use Rattle.rpki_issue.proofs.RowsLaws.{constraints-legal, usage-legal, repository-legal, critical-few}
use Rattle.rpki_issue.proofs.WrittenTbsLaws.{weaker}

-- ---- where the authority publishes

told-first : (uri : Option (List ℕ)) (a b : List ℕ) → OfPart CanTell uri
    → first_https (named rpki_notify (map as_read ((ca_repository, a) ∷ (rpki_manifest, b) ∷ notification_access uri)))
    ≡ uri
told-first None a b h = refl
told-first (Some uri) a b h = rw (h.legal) refl

told-count : (uri : Option (List ℕ)) (a b : List ℕ)
    → length (map as_read ((ca_repository, a) ∷ (rpki_manifest, b) ∷ notification_access uri)) ≡ 2 + one_more uri
told-count None a b = refl
told-count (Some uri) a b = refl

repository-stands : (r : Repository) → CanPublish r
    → IsRepository (repository_planned r) (map as_read (repository_access r))
repository-stands r can = record {
  base = rw (can.base.legal) refl;
  manifest = rw (can.manifest.legal) refl;
  notification = told-first (notification_of r) r.base.now r.manifest.now can.notification;
  count = told-count (notification_of r) r.base.now r.manifest.now;
}

repository-few : (r : Repository) → CanPublish r → length (access_octets (repository_access r)) < 2 ^ 14
repository-few r can = access-few (repository_access r) (repository-described r can) (repository-three r)

repository-spelled : (r : Repository) → CanPublish r
    → SpellsRepository (repository_planned r) (access_octets (repository_access r))
repository-spelled r can =
    let few = repository-few r can in
    record {
      value = map as_read (repository_access r);
      spelled = written-around sequence each_description (map as_read (repository_access r))
          (described_octets (repository_access r)) sequence_legal
          (omega (arith, few, tlv-at-least sequence true (described_octets (repository_access r))))
          (each-described (repository_access r) (repository-described r can));
      stands = repository-stands r can;
    }

-- ---- the extensions that are asked for

abbrev asked_planned : Bool → Repository → AskedParts
asked_planned u r = record { usage = asked_usage u; repository = repository_planned r }

abbrev listed_planned : Bool → Repository → List ExtensionParts
listed_planned u r = constraints_extension ∷ (usage_part u ++ repository_extension r ∷ [])

asked-stand : (u : Bool) (r : Repository) → CanPublish r → AreAsked (asked_planned u r) (listed_planned u r)
asked-stand true r can = record {
  constraints = (constraints_extension, refl, refl, constraints-spelled);
  usage = record { has = (usage_extension Ca, refl, refl, usage-spelled Ca); authority = tt };
  access = (repository_extension r, refl, refl, repository-spelled r can);
  count = refl;
}
asked-stand false r can = record {
  constraints = (constraints_extension, refl, refl, constraints-spelled);
  usage = record { has = refl; authority = tt };
  access = (repository_extension r, refl, refl, repository-spelled r can);
  count = refl;
}

asked-have : (u : Bool) (r : Repository) → CanPublish r → EachHas CanBeWritten (listed_planned u r)
asked-have true r can = (constraints-legal, (usage-legal Ca, (repository-legal r can, tt)))
asked-have false r can = (constraints-legal, (repository-legal r can, tt))

extension-few : (identifier : List ℕ) (critical : Bool) (content : List ℕ) → length identifier ≤ 8
    → length content < 2 ^ 14 → length (written_extension (extension_parts identifier critical content)) < 2 ^ 15
extension-few identifier critical content one two = omega (
  arith,
  one,
  two,
  critical-few critical,
  tlv_at_most oid false identifier,
  tlv_at_most octet_string false content,
  tlv_at_most sequence true (extension_contents identifier critical content),
  length-append (tlv oid false identifier ++ critical_octets critical) (tlv octet_string false content),
  length-append (tlv oid false identifier) (critical_octets critical),
)

constraints-small : length (written_extension constraints_extension) < 2 ^ 15
constraints-small =
    extension-few basic_constraints true constraints_octets (omega arith) (omega (arith, constraints-few))

usage-small : length (written_extension (usage_extension Ca)) < 2 ^ 15
usage-small = extension-few key_usage true (usage_octets Ca) (omega arith) (omega (arith, usage-few Ca))

repository-small : (r : Repository) → CanPublish r → length (written_extension (repository_extension r)) < 2 ^ 15
repository-small r can =
    extension-few subject_info_access false (access_octets (repository_access r)) (omega arith) (repository-few r can)

planned-few : (u : Bool) (r : Repository) → CanPublish r → length (extensions_listed (listed_planned u r)) < 2 ^ 20
planned-few true r can =
    let last = written_extension (repository_extension r) in
    let usage = written_extension (usage_extension Ca) in
    omega (
      arith,
      constraints-small,
      usage-small,
      repository-small r can,
      length-append (written_extension constraints_extension) (usage ++ (last ++ [])),
      length-append usage (last ++ []),
      length-append last [],
    )
planned-few false r can =
    let last = written_extension (repository_extension r) in
    omega (
      arith,
      constraints-small,
      repository-small r can,
      length-append (written_extension constraints_extension) (last ++ []),
      length-append last [],
    )

pub asked-few : (x : CsrBuilder) → CanPublish x.repository → length (asked_octets x) < 2 ^ 20
asked-few x can = planned-few x.key_usage x.repository can

-- ---- the attribute

module _ (e : List ℕ) (few : length e < 2 ^ 20) where
  pub list-few : length (tlv sequence true e) < 2 ^ 21
  list-few = omega (arith, few, tlv_at_most sequence true e)

  pub values-few : length (tlv set true (tlv sequence true e)) < 2 ^ 22
  values-few = omega (arith, list-few, tlv_at_most set true (tlv sequence true e))

  pub attribute-few : length (attribute_contents e) < 2 ^ 23
  attribute-few = omega (
    arith,
    values-few,
    tlv_at_most oid false extension_request,
    length-append (tlv oid false extension_request) (tlv set true (tlv sequence true e)),
  )

  pub inner-few : length (tlv sequence true (attribute_contents e)) < 2 ^ 24
  inner-few = omega (arith, attribute-few, tlv_at_most sequence true (attribute_contents e))

  pub attributes-few : length (attributes_octets e) < 2 ^ 25
  attributes-few = omega (arith, inner-few, tlv_at_most zero_tag true (tlv sequence true (attribute_contents e)))

  attributes-spelled : (v : AskedParts) → asked.spells v (tlv sequence true e)
      → attributes.spells (tt, v) (attributes_octets e)
  attributes-spelled v h =
      written-around zero_tag (only attribute) (tt, v) (tlv sequence true (attribute_contents e)) zero_legal
      (omega (arith, inner-few))
      (written-around sequence attribute_parts (tt, v) (attribute_contents e) sequence_legal
      (omega (arith, attribute-few))
      (written-then (this_oid extension_request) (only attribute_values) tt v (tlv oid false extension_request)
      (tlv set true (tlv sequence true e))
      (leaf-legal oid false (IsOnly extension_request) tt extension_request oid-legal (lit< tt) refl)
      (written-around set (only asked) v (tlv sequence true e) set_legal (omega (arith, list-few)) h)))

asked-spelled : (u : Bool) (r : Repository) → CanPublish r
    → asked.spells (asked_planned u r) (tlv sequence true (extensions_listed (listed_planned u r)))
asked-spelled u r can =
    let few = planned-few u r can in
    let xs = listed_planned u r in
    record {
      value = xs;
      spelled = written-around sequence each_extension xs (extensions_listed xs) sequence_legal (omega (arith, few))
          (each-read xs (asked-have u r can));
      stands = asked-stand u r can;
    }

-- ---- what is signed

version-read : (this_number 0).spells tt (serial_octets 0)
version-read =
    leaf-legal integer false (IsNumber 0) tt (serial_contents 0) integer-legal (number-few 0)
    (serial_contents-are 0 (lit< tt))

asker-read : (o : Option (List ℕ)) → IsAsker o → subject.spells o (asker_octets o)
asker-read None h = written-around sequence end tt [] sequence_legal (lit< tt) refl
asker-read (Some name) h = h

pub info-read : (x : CsrBuilder) → CanPublish x.repository → AreAskers x → IsShortInfo x (asked_octets x)
    → request_info.spells (fields_of (info_planned x)) (info_octets x (asked_octets x))
info-read x can known short =
    let e = asked_octets x in
    let o = asker_of x in
    let v = asked_planned x.key_usage x.repository in
    let k = x.key.now in
    written-around sequence fields (fields_of (info_planned x)) (info_contents x e) sequence_legal short
    (written-then (this_number 0) (then subject (then key (only attributes))) tt (o, (k, (tt, v))) (serial_octets 0)
    (asker_octets o ++ (key_octets k ++ attributes_octets e)) version-read
    (written-then subject (then key (only attributes)) o (k, (tt, v)) (asker_octets o)
    (key_octets k ++ attributes_octets e) (asker-read o known.subject)
    (written-then key (only attributes) k (tt, v) (key_octets k) (attributes_octets e) known.key
    (attributes-spelled e (asked-few x can) v (asked-spelled x.key_usage x.repository can)))))

-- ---- what is refused

pub key-refused : (x : CsrBuilder) (e : List ℕ) (w : IssueError)
    → IsKeyedRefusal (length (key_octets x.key.now) < 2 ^ 32) w → IsKeyedRefusal (IsShortInfo x e) w
key-refused x e w h =
    weaker (length (key_octets x.key.now) < 2 ^ 32) (IsShortInfo x e) w
    (λ short. front-few (key_octets x.key.now) (attributes_octets e)
    (back-few (asker_octets (asker_of x)) (key_octets x.key.now ++ attributes_octets e)
    (back-few (serial_octets 0) (asker_octets (asker_of x) ++ (key_octets x.key.now ++ attributes_octets e))
    short))) h

pub plan-refused : (x : CsrBuilder) (w : IssueError) → IsKeyedRefusal (IsShortInfo x (asked_octets x)) w
    → IsRequestPlanRefused x w
plan-refused x Uri h = absurd h
plan-refused x Period h = h
plan-refused x Doubled h = h
plan-refused x Resources h = h
plan-refused x TooLong h = h
plan-refused x (Rule r) h = h
plan-refused x ContentType h = h
plan-refused x Certificate h = h
plan-refused x BadSignature h = h
plan-refused x OutOfMemory h = h

-- ---- a request

request-read : (made : RequestToSign) (value : List ℕ) → request_info.spells (fields_of made.info) made.octets
    → IsValue made.octets → IsShortWhole made.octets value
    → request.spells (request_made made value) (signed_whole made.octets value)
request-read made value read one short =
    let bits = bits_of 0 value in
    let signed = signed_parts made.octets value in
    let contents = written_contents written_algorithm signed in
    record {
      value = signed;
      spelled = record {
        signed = record {
          contents = contents;
          value = tlv-legal sequence true contents sequence_legal short;
          spelled = record {
            text = algorithm_octets sha256_with_rsa_encryption true;
            bits = signature_octets 0 value;
            parts = refl;
            one = one;
            named = algorithm-spelled sha256_with_rsa_encryption true (lit< tt);
            signature = record {
              unused = 0;
              string = leaf-legal bit_string false IsBits bits (bits_contents bits) string-legal
                  (string-short made.octets value short) (bits-spelled bits (all-used value));
            };
          };
        };
        used = refl;
      };
      stands = record { same = refl; info = read };
    }

pub made-request : (by : Checkers) (made : RequestToSign) (value : List ℕ) (r : Result (List ℕ) IssueError)
    → IsValue made.octets × request_info.spells (fields_of made.info) made.octets
    → IfOk r (λ w. AreSigned by made.info.key made.octets value w) → IfOk r (λ w. IsMadeRequest by made value w)
made-request by made value (Ok w) known h = record {
  signed = h;
  read_back = subst (λ (o : List ℕ). request.spells (request_made made value) o) (sym h.written)
      (request-read made value known.1 known.0 h.short);
  own = h.verified;
}
made-request by made value (Err e) known h = h
