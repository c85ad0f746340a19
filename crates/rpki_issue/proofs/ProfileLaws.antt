-- Certificates that are issued have the profile of their kind.
use Rattle.std.proofs.Common.{◌≡◌, ◌≤◌, ◌||◌, ◌&&◌, not, ℕ, true, false, List, [], ◌∷◌, length, refl}
use Rattle.std.proofs.Common.{arith, lit<}
use Rattle.std.proofs.Common.{Bor, Option, Some, None, IsTrue, option_map, map, inl}
use Rattle.std.specs.Prelude.{All}
use Rattle.std.specs.Option.{is_some}
use Rattle.std.specs.List.{list_all}
use Rattle.std.proofs.lemmas.List.Elements.{All-cons, All-nil}
use Rattle.rpki_der.specs.TagName.{sequence}
use Rattle.rpki_der.specs.Prelude.{SpellsSome, IsOid, sequence_legal}
use Rattle.rpki_der.specs.Listed.{EachHas}
use Rattle.rpki_der.specs.OptionalPart.{OfPart}
use Rattle.rpki_der.proofs.EncodeLaws.{leaf-legal}
use Rattle.rpki.proofs.NamedLaws.{plain-oid}
use Rattle.rpki_x509.specs.Authority.{authority_key_identifier}
use Rattle.rpki_resources.specs.declared.resources.IpResources.{IpResources}
use Rattle.rpki_resources.specs.declared.resources.AsResources.{AsResources}
use Rattle.rpki_resources.specs.EncodedResources.{ip_octets, as_identifiers_octets}
use Rattle.rpki_cert.specs.declared.extension.key_usage.KeyUsage.TheVariants as KeyUsage
use Rattle.rpki_cert.specs.declared.extension.policy.Overclaim.TheVariants.{Refuse}
use Rattle.rpki_cert.specs.declared.extension.access_rule.AccessRule.{AccessRule}
use Rattle.rpki_cert.specs.declared.extension.access_rule.AccessRule.TheVariants.{EndEntity, Notification}
use Rattle.rpki_cert.specs.declared.profile.Profile.TheVariants as Profile
use Rattle.rpki_cert.specs.Cert.{TbsParts}
use Rattle.rpki_cert.specs.Known.{crl_distribution_points, authority_info_access, subject_info_access}
use Rattle.rpki_cert.specs.Known.{basic_constraints, extended_key_usage}
use Rattle.rpki_cert.specs.RuleWords.{SaysSomeUri, SaysManifestBelow, SaysSome, has_numbers, has_addresses}
use Rattle.rpki_cert.specs.Access.{SpellsDescription, SpellsRsyncAccess, SpellsPoints, SpellsHeldAccess, allows}
use Rattle.rpki_cert.specs.Access.{SaysUri}
use Rattle.rpki_cert.specs.Access.{ca_issuers, ca_repository, rpki_manifest, signed_object}
use Rattle.rpki_cert.specs.Rule.{Obeys}
use Rattle.rpki_cert.specs.Profile.{HasProfile, rules_of}
use Rattle.rpki_issue.specs.declared.kind.Repository.{Repository}
use Rattle.rpki_issue.specs.declared.kind.CertKind.{CertKind}
use Rattle.rpki_issue.specs.declared.kind.CertKind.TheVariants.{Anchor, Authority, Object, Detached, Router}
use Rattle.rpki_issue.specs.declared.kind.CertExtensions.{CertExtensions}
use Rattle.rpki_issue.specs.Contents.{CanPoint, CanTell, CanPublish, access_octets, described_octets}
use Rattle.rpki_issue.specs.Contents.{as_read, notification_access, notification_of}
use Rattle.rpki_issue.specs.Rows.{points_extension, issuers_extension, repository_extension, object_extension}
use Rattle.rpki_issue.specs.Extensions.{profile_of, practices_of, addresses_of, numbers_of, extensions_of, HasUris}
use Rattle.rpki_issue.specs.Extensions.{CanHoldIp, CanHoldAs}
use Rattle.rpki_issue.specs.Tbs.{Issued, normal_tbs}
use Rattle.rpki_issue.specs.Issuing.{CanIssue, IsOfKind, OwnsAddresses, IsNotInherited, IsManifestBelow, OwnsResources}
use Rattle.rpki_issue.proofs.ContentsLaws.{subject-spelled, usage-spelled, policies-spelled, authority-spelled}
use Rattle.rpki_issue.proofs.ContentsLaws.{constraints-spelled, purposes-spelled, first-is, IsDescribed, described}
use Rattle.rpki_issue.proofs.ContentsLaws.{repository-described, repository-three, listed-spelled, described-few}
use Rattle.rpki_issue.proofs.UniqueLaws.{says-points, says-uri}
use Rattle.rpki_issue.proofs.PartsLaws.{list_of}
use Rattle.rpki_issue.proofs.ResourcesLaws.{absent, understood, there, version, ReadsIp, ReadsAs, reads-ip, reads-as}
use Rattle.rpki_issue.proofs.ResourcesLaws.{OwnsIp, OwnsAs, owns-ip, owns-as, addresses-formed, numbers-formed}
use Rattle.rpki_issue.proofs.ResourcesLaws.{addresses-own, numbers-own, resources}

-- rules, one by one
all-each : {T : Type 0} (P : T → Type 0) (xs : List T) → EachHas P xs → All P xs
all-each P [] h = All-nil P
all-each P (x ∷ xs) h = All-cons P x xs h.0 (all-each P xs h.1)

issuers-valid : IsOid ca_issuers
issuers-valid = plain-oid ca_issuers refl (lit< tt) (lit< tt)

object-valid : IsOid signed_object
object-valid = plain-oid signed_object refl (lit< tt) (lit< tt)

-- ---- what each extension says

says-list : (uri : List ℕ) → CanPoint uri → SaysSomeUri SpellsPoints (Some (points_extension uri))
says-list uri can =
    says-points uri can.few can.ascii (first-is uri can.legal) crl_distribution_points

says-issuer : (uri : List ℕ) → CanPoint uri → SaysSomeUri (SpellsRsyncAccess ca_issuers) (Some (issuers_extension uri))
says-issuer uri can = (
  uri,
  says-uri (ca_issuers, uri) [] (described ca_issuers uri issuers-valid (omega arith) can, tt) (omega arith) ca_issuers
      uri authority_info_access (first-is uri can.legal),
)

object-described : (uri : List ℕ) → CanPoint uri → EachHas IsDescribed ((signed_object, uri) ∷ [])
object-described uri can = (described signed_object uri object-valid (omega arith) can, tt)

says-object : (uri : List ℕ) → CanPoint uri
    → SaysSomeUri (SpellsRsyncAccess signed_object) (Some (object_extension uri))
says-object uri can = (
  uri,
  says-uri (signed_object, uri) [] (object-described uri can) (omega arith) signed_object uri subject_info_access
      (first-is uri can.legal),
)

-- descriptions that a rule allows
held : (rule : AccessRule) (d : List ℕ × List ℕ) (ds : List (List ℕ × List ℕ)) → EachHas IsDescribed (d ∷ ds)
    → length (d ∷ ds) ≤ 3 → IsTrue (list_all (allows rule) (map as_read (d ∷ ds)))
    → SpellsHeldAccess rule (map as_read (d ∷ ds)) (access_octets (d ∷ ds))
held rule d ds all three allowed =
    let few = described-few (d ∷ ds) all three in (
      leaf-legal sequence true (SpellsSome SpellsDescription) (map as_read (d ∷ ds)) (described_octets (d ∷ ds))
          sequence_legal (omega (arith, few)) (listed-spelled d ds all),
      allowed,
    )

object-held : (rule : AccessRule) (uri : List ℕ) → CanPoint uri
    → IsTrue (list_all (allows rule) (map as_read ((signed_object, uri) ∷ [])))
    → SaysSome false (SpellsHeldAccess rule) (Some (object_extension uri))
object-held rule uri can allowed =
    (_, (_, refl, refl, held rule (signed_object, uri) [] (object-described uri can) (omega arith) allowed))

module _ (r : Repository) (can : CanPublish r) where
  abbrev after_base : List (List ℕ × List ℕ)
  after_base = (rpki_manifest, r.manifest.now) ∷ notification_access (notification_of r)

  base-said : SaysUri (SpellsRsyncAccess ca_repository) (Some (repository_extension r)) (Some r.base.now)
  base-said =
      says-uri (ca_repository, r.base.now) after_base (repository-described r can) (repository-three r) ca_repository
      r.base.now subject_info_access (rw can.base.legal refl)

  says-base : SaysSomeUri (SpellsRsyncAccess ca_repository) (Some (repository_extension r))
  says-base = (r.base.now, base-said)

  manifest-said : SaysUri (SpellsRsyncAccess rpki_manifest) (Some (repository_extension r)) (Some r.manifest.now)
  manifest-said =
      says-uri (ca_repository, r.base.now) after_base (repository-described r can) (repository-three r) rpki_manifest
      r.manifest.now subject_info_access (rw can.manifest.legal refl)

  says-manifest : SaysSomeUri (SpellsRsyncAccess rpki_manifest) (Some (repository_extension r))
  says-manifest = (r.manifest.now, manifest-said)

  manifest-below : IsManifestBelow r → SaysManifestBelow (Some (repository_extension r))
  manifest-below below = record {
    base = r.base.now;
    text = r.manifest.now;
    repository = base-said;
    manifest = manifest-said;
    below = below;
  }

  told-by-https : (uri : Option (List ℕ)) → OfPart CanTell uri
      → IsTrue (list_all (allows Notification) (map as_read (notification_access uri)))
  told-by-https None h = refl
  told-by-https (Some uri) h = rw h.legal refl

  repository-held : SaysSome false (SpellsHeldAccess Notification) (Some (repository_extension r))
  repository-held = (
    _,
    (
      _,
      refl,
      refl,
      held Notification (ca_repository, r.base.now) after_base (repository-described r can) (repository-three r)
          (told-by-https (notification_of r) can.notification),
    ),
  )

-- ---- resources, as typed values have them

mapped-some : {A B : Type 0} (f : A → B) (o : Option A) → is_some (option_map f o) ≡ is_some o
mapped-some f None = refl
mapped-some f (Some a) = refl

module _ (x : Issued) (e : CertExtensions) (can : CanIssue x e) where
  abbrev ip : Option (List ℕ)
  ip = addresses_of e

  abbrev asn : Option (List ℕ)
  asn = numbers_of e

  abbrev parts : CertKind → TbsParts
  parts kind = normal_tbs x (list_of kind e.subject_key (practices_of e) ip asn)

  some : IsTrue (is_some ip || is_some asn)
  some = rw (mapped-some (λ r. ip_octets r.now) e.ip, mapped-some (λ r. as_identifiers_octets r.now) e.asn) can.some

  reads-addresses : OfPart ReadsIp ip
  reads-addresses = of e.ip can.resources.addresses
    where
      of : (o : Option (Bor IpResources)) → OfPart CanHoldIp (option_map (λ r. r.now) o)
          → OfPart ReadsIp (option_map (λ r. ip_octets r.now) o)
      of None h = tt
      of (Some r) h = reads-ip r.now h

  reads-numbers : OfPart ReadsAs asn
  reads-numbers = of e.asn can.resources.numbers
    where
      of : (o : Option (Bor AsResources)) → OfPart CanHoldAs (option_map (λ r. r.now) o)
          → OfPart ReadsAs (option_map (λ r. as_identifiers_octets r.now) o)
      of None h = tt
      of (Some r) h = reads-as r.now h

  owns-addresses : OwnsResources e → OfPart OwnsIp ip
  owns-addresses own = of e.ip can.resources.addresses own.addresses
    where
      of : (o : Option (Bor IpResources)) → OfPart CanHoldIp (option_map (λ r. r.now) o)
          → OfPart OwnsAddresses (option_map (λ r. r.now) o)
          → OfPart OwnsIp (option_map (λ r. ip_octets r.now) o)
      of None h k = tt
      of (Some r) h k = owns-ip r.now h k

  owns-numbers : OwnsResources e → OfPart OwnsAs asn
  owns-numbers own = of e.asn can.resources.numbers own.numbers
    where
      of : (o : Option (Bor AsResources)) → OfPart CanHoldAs (option_map (λ r. r.now) o)
          → OfPart (λ (v : AsResources). IsNotInherited v.numbers) (option_map (λ r. r.now) o)
          → OfPart OwnsAs (option_map (λ r. as_identifiers_octets r.now) o)
      of None h k = tt
      of (Some r) h k = owns-as r.now h k

  -- numbers without addresses
  alone : (i a : Option (List ℕ)) → i ≡ None → IsTrue (is_some i || is_some a)
      → IsTrue (has_numbers (resources i a) && not (has_addresses (resources i a)))
  alone None None e h = absurd (cc)
  alone None (Some a) e h = refl
  alone (Some i) a e h = absurd (cc)

  none-mapped : {A B : Type 0} (f : A → B) (o : Option A) → o ≡ None → option_map f o ≡ None
  none-mapped f None e = refl
  none-mapped f (Some a) e = absurd (cc)

  numbers-alone : e.ip ≡ None → IsTrue (has_numbers (resources ip asn) && not (has_addresses (resources ip asn)))
  numbers-alone none = alone ip asn (none-mapped (λ r. ip_octets r.now) e.ip none) some

  -- ---- the kinds

  of-kind : (kind : CertKind) → HasUris kind → IsOfKind x e kind → HasProfile (profile_of kind) true (parts kind)
  of-kind (Anchor r) u k = all-each (Obeys true (parts (Anchor r))) (rules_of Profile.Ta) (
    can.serial,
    (
      understood ip asn,
      (
        λ _. can.issuer,
        (
          λ _. can.issuer_size,
          (
            can.validity,
            (
              (e.subject_key, (_, refl, refl, subject-spelled e.subject_key can.key)),
              (
                (Refuse, (_, refl, refl, policies-spelled (practices_of e) can.uris.practices)),
                (
                  there ip asn some,
                  (
                    (Refuse, (_, refl, refl, policies-spelled (practices_of e) can.uris.practices), version ip asn),
                    (
                      record {
                        addresses = addresses-formed ip asn reads-addresses;
                        numbers = numbers-formed ip asn reads-numbers;
                      },
                      (
                        λ _. k.subject.name,
                        (
                          λ _. can.subject_size,
                          (
                            k.subject.key,
                            (
                              absent extended_key_usage ip asn refl refl,
                              (
                                (_, refl, refl, constraints-spelled),
                                (
                                  (_, refl, refl, usage-spelled KeyUsage.Ca),
                                  (
                                    absent crl_distribution_points ip asn refl refl,
                                    (
                                      absent authority_info_access ip asn refl refl,
                                      (
                                        says-base r u,
                                        (
                                          says-manifest r u,
                                          (
                                            manifest-below r u k.manifest,
                                            (
                                              repository-held r u,
                                              (
                                                k.same,
                                                (
                                                  inl (absent authority_key_identifier ip asn refl refl),
                                                  (
                                                    record {
                                                      addresses = addresses-own ip asn (owns-addresses k.own);
                                                      numbers = numbers-own ip asn (owns-numbers k.own);
                                                    },
                                                    tt,
                                                  ),
                                                ),
                                              ),
                                            ),
                                          ),
                                        ),
                                      ),
                                    ),
                                  ),
                                ),
                              ),
                            ),
                          ),
                        ),
                      ),
                    ),
                  ),
                ),
              ),
            ),
          ),
        ),
      ),
    ),
  )
  of-kind (Authority i r) u k = all-each (Obeys true (parts (Authority i r))) (rules_of Profile.Ca) (
    can.serial,
    (
      understood ip asn,
      (
        λ _. can.issuer,
        (
          λ _. can.issuer_size,
          (
            can.validity,
            (
              (e.subject_key, (_, refl, refl, subject-spelled e.subject_key can.key)),
              (
                (Refuse, (_, refl, refl, policies-spelled (practices_of e) can.uris.practices)),
                (
                  there ip asn some,
                  (
                    (Refuse, (_, refl, refl, policies-spelled (practices_of e) can.uris.practices), version ip asn),
                    (
                      record {
                        addresses = addresses-formed ip asn reads-addresses;
                        numbers = numbers-formed ip asn reads-numbers;
                      },
                      (
                        λ _. k.1.name,
                        (
                          λ _. can.subject_size,
                          (
                            k.1.key,
                            (
                              absent extended_key_usage ip asn refl refl,
                              (
                                (_, refl, refl, constraints-spelled),
                                (
                                  (_, refl, refl, usage-spelled KeyUsage.Ca),
                                  (
                                    says-base r u.1,
                                    (
                                      says-manifest r u.1,
                                      (
                                        manifest-below r u.1 k.2,
                                        (
                                          repository-held r u.1,
                                          (
                                            (i.key, (_, refl, refl, authority-spelled i.key k.0)),
                                            (
                                              says-list i.list.now u.0.0,
                                              (says-issuer i.certificate.now u.0.1, tt),
                                            ),
                                          ),
                                        ),
                                      ),
                                    ),
                                  ),
                                ),
                              ),
                            ),
                          ),
                        ),
                      ),
                    ),
                  ),
                ),
              ),
            ),
          ),
        ),
      ),
    ),
  )
  of-kind (Object i uri) u k = all-each (Obeys true (parts (Object i uri))) (rules_of Profile.Ee) (
    can.serial,
    (
      understood ip asn,
      (
        λ _. can.issuer,
        (
          λ _. can.issuer_size,
          (
            can.validity,
            (
              (e.subject_key, (_, refl, refl, subject-spelled e.subject_key can.key)),
              (
                (Refuse, (_, refl, refl, policies-spelled (practices_of e) can.uris.practices)),
                (
                  there ip asn some,
                  (
                    (Refuse, (_, refl, refl, policies-spelled (practices_of e) can.uris.practices), version ip asn),
                    (
                      record {
                        addresses = addresses-formed ip asn reads-addresses;
                        numbers = numbers-formed ip asn reads-numbers;
                      },
                      (
                        λ _. k.1.name,
                        (
                          λ _. can.subject_size,
                          (
                            k.1.key,
                            (
                              absent extended_key_usage ip asn refl refl,
                              (
                                absent basic_constraints ip asn refl refl,
                                (
                                  (_, refl, refl, usage-spelled KeyUsage.Ee),
                                  (
                                    says-object uri.now u.1,
                                    (
                                      object-held EndEntity uri.now u.1 refl,
                                      (
                                        object-held Notification uri.now u.1 refl,
                                        (
                                          (i.key, (_, refl, refl, authority-spelled i.key k.0)),
                                          (
                                            says-list i.list.now u.0.0,
                                            (says-issuer i.certificate.now u.0.1, tt),
                                          ),
                                        ),
                                      ),
                                    ),
                                  ),
                                ),
                              ),
                            ),
                          ),
                        ),
                      ),
                    ),
                  ),
                ),
              ),
            ),
          ),
        ),
      ),
    ),
  )
  of-kind (Detached i) u k = all-each (Obeys true (parts (Detached i))) (rules_of Profile.DetachedEe) (
    can.serial,
    (
      understood ip asn,
      (
        λ _. can.issuer,
        (
          λ _. can.issuer_size,
          (
            can.validity,
            (
              (e.subject_key, (_, refl, refl, subject-spelled e.subject_key can.key)),
              (
                (Refuse, (_, refl, refl, policies-spelled (practices_of e) can.uris.practices)),
                (
                  there ip asn some,
                  (
                    (Refuse, (_, refl, refl, policies-spelled (practices_of e) can.uris.practices), version ip asn),
                    (
                      record {
                        addresses = addresses-formed ip asn reads-addresses;
                        numbers = numbers-formed ip asn reads-numbers;
                      },
                      (
                        λ _. k.1.name,
                        (
                          λ _. can.subject_size,
                          (
                            k.1.key,
                            (
                              absent extended_key_usage ip asn refl refl,
                              (
                                absent basic_constraints ip asn refl refl,
                                (
                                  (_, refl, refl, usage-spelled KeyUsage.Ee),
                                  (
                                    absent subject_info_access ip asn refl refl,
                                    (
                                      (i.key, (_, refl, refl, authority-spelled i.key k.0)),
                                      (
                                        says-list i.list.now u.0,
                                        (says-issuer i.certificate.now u.1, tt),
                                      ),
                                    ),
                                  ),
                                ),
                              ),
                            ),
                          ),
                        ),
                      ),
                    ),
                  ),
                ),
              ),
            ),
          ),
        ),
      ),
    ),
  )
  of-kind (Router i) u k = all-each (Obeys true (parts (Router i))) (rules_of Profile.Router) (
    can.serial,
    (
      understood ip asn,
      (
        λ _. can.issuer,
        (
          λ _. can.issuer_size,
          (
            can.validity,
            (
              (e.subject_key, (_, refl, refl, subject-spelled e.subject_key can.key)),
              (
                (Refuse, (_, refl, refl, policies-spelled (practices_of e) can.uris.practices)),
                (
                  there ip asn some,
                  (
                    (Refuse, (_, refl, refl, policies-spelled (practices_of e) can.uris.practices), version ip asn),
                    (
                      record {
                        addresses = addresses-formed ip asn reads-addresses;
                        numbers = numbers-formed ip asn reads-numbers;
                      },
                      (
                        λ _. k.1.name,
                        (
                          λ _. can.subject_size,
                          (
                            λ _. k.1.serial,
                            (
                              k.1.key,
                              (
                                absent basic_constraints ip asn refl refl,
                                (
                                  (_, refl, refl, usage-spelled KeyUsage.Ee),
                                  (
                                    numbers-alone k.1.addresses,
                                    (
                                      record {
                                        addresses = addresses-own ip asn (owns-addresses k.1.own);
                                        numbers = numbers-own ip asn (owns-numbers k.1.own);
                                      },
                                      (
                                        absent subject_info_access ip asn refl refl,
                                        (
                                          (_, refl, refl, purposes-spelled),
                                          (
                                            (i.key, (_, refl, refl, authority-spelled i.key k.0)),
                                            (
                                              says-list i.list.now u.0,
                                              (says-issuer i.certificate.now u.1, tt),
                                            ),
                                          ),
                                        ),
                                      ),
                                    ),
                                  ),
                                ),
                              ),
                            ),
                          ),
                        ),
                      ),
                    ),
                  ),
                ),
              ),
            ),
          ),
        ),
      ),
    ),
  )

  pub has-profile : HasProfile (profile_of e.kind) true (normal_tbs x (extensions_of e))
  has-profile = of-kind e.kind can.uris.kind can.kind
