-- What access descriptions tell, gathered in one reading (RFC 5280 4.2.2, RFC 6487 4.8.7, 4.8.8, RFC 8182 3.2).
use Rattle.std.specs.Prelude.{◌&&◌, ℕ, Bool, false, List, Option, Result, MatchResult}
use Rattle.std.specs.Option.{option_or, option_map, option_copied}
use Rattle.std.specs.List.{list_all}
use Rattle.rpki_der.specs.Reading.{AnyFault}
use Rattle.rpki.specs.ExtensionValue.{ExtensionParts}
use Rattle.rpki.specs.declared.repository.error.ValidationError.{ValidationError}
use Rattle.rpki_cert.specs.declared.extension.access_information.AccessInformation.{AccessInformation}
use Rattle.rpki_cert.specs.declared.extension.access_method.AccessMethod.{AccessMethod}
use Rattle.rpki_cert.specs.declared.extension.access_method.AccessMethod.TheVariants.{CaIssuers, CaRepository}
use Rattle.rpki_cert.specs.declared.extension.access_method.AccessMethod.TheVariants.{RpkiManifest}
use Rattle.rpki_cert.specs.declared.extension.access_method.AccessMethod.TheVariants.{SignedObject, RpkiNotify}
use Rattle.rpki_cert.specs.declared.extension.access_rule.AccessRule.{AccessRule}
use Rattle.rpki_cert.specs.declared.extension.access_rule.AccessRule.TheVariants.{EndEntity, Notification}
use Rattle.rpki_cert.specs.Access.{named, allows, first_rsync, first_https, SpellsAccess, SpellsRsyncAccess}
use Rattle.rpki_cert.specs.Access.{SpellsHttpsAccess, ca_issuers, ca_repository, rpki_manifest, signed_object}
use Rattle.rpki_cert.specs.Access.{rpki_notify}
use Rattle.rpki_cert.specs.Known.{SaysOnly, IsFoundWrong}

-- of each method the first URI, of rsync but for notifications; and which rules all of the descriptions obey
pub record AccessParts : Type 0 where
  pub issuer : Option (List ℕ)
  pub repository : Option (List ℕ)
  pub manifest : Option (List ℕ)
  pub object : Option (List ℕ)
  pub notifications : Option (List ℕ)
  pub of_end_entity : Bool
  pub by_https : Bool

-- of these descriptions
abbrev pub access_parts : List (List ℕ × Option (List ℕ)) → AccessParts
access_parts xs = record {
  issuer = first_rsync (named ca_issuers xs);
  repository = first_rsync (named ca_repository xs);
  manifest = first_rsync (named rpki_manifest xs);
  object = first_rsync (named signed_object xs);
  notifications = first_https (named rpki_notify xs);
  of_end_entity = list_all (allows EndEntity) xs;
  by_https = list_all (allows Notification) xs;
}

-- as it is read
abbrev pub parts_of : AccessInformation → AccessParts
parts_of a = record {
  issuer = option_copied a.issuer;
  repository = option_copied a.repository;
  manifest = option_copied a.manifest;
  object = option_copied a.object;
  notifications = option_copied a.notifications;
  of_end_entity = a.of_end_entity;
  by_https = a.by_https;
}

-- of descriptions that are followed by others
abbrev pub joined : AccessParts → AccessParts → AccessParts
joined a b = record {
  issuer = option_or a.issuer b.issuer;
  repository = option_or a.repository b.repository;
  manifest = option_or a.manifest b.manifest;
  object = option_or a.object b.object;
  notifications = option_or a.notifications b.notifications;
  of_end_entity = a.of_end_entity && b.of_end_entity;
  by_https = a.by_https && b.by_https;
}

-- the URI of a method
abbrev pub uri_at : AccessMethod → AccessParts → Option (List ℕ)
uri_at CaIssuers p = p.issuer
uri_at CaRepository p = p.repository
uri_at RpkiManifest p = p.manifest
uri_at SignedObject p = p.object
uri_at RpkiNotify p = p.notifications

abbrev pub SpellsUriOf : AccessMethod → Option (List ℕ) → List ℕ → Type 0
SpellsUriOf CaIssuers = SpellsRsyncAccess ca_issuers
SpellsUriOf CaRepository = SpellsRsyncAccess ca_repository
SpellsUriOf RpkiManifest = SpellsRsyncAccess rpki_manifest
SpellsUriOf SignedObject = SpellsRsyncAccess signed_object
SpellsUriOf RpkiNotify = SpellsHttpsAccess rpki_notify

-- each description obeys the rule
abbrev pub obeyed : AccessRule → AccessParts → Bool
obeyed EndEntity p = p.of_end_entity
obeyed Notification p = p.by_https

-- what access information tells that is found of an extension; or the error of an extension that is another
abbrev pub IsTold : Option ExtensionParts → Result (Option AccessInformation) ValidationError → Type 0
IsTold found result =
    MatchResult result (λ o. SaysOnly false (SpellsAccess access_parts) found (option_map parts_of o))
    (IsFoundWrong false (SpellsAccess access_parts) AnyFault found)
