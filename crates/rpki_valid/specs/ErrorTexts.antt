-- Texts of what is not valid: each begins with the section of its rule.
use Rattle.std.specs.Prelude.{ℕ, List, codes}

-- ---- certificates

abbrev pub unsigned_text : List ℕ
unsigned_text = codes "RFC 6487 7.2: bad signature"

abbrev pub early_text : List ℕ
early_text = codes "RFC 6487 7.2: certificate is not yet valid"

abbrev pub late_text : List ℕ
late_text = codes "RFC 6487 7.2: certificate has expired"

abbrev pub issuer_text : List ℕ
issuer_text = codes "RFC 6487 7.2: issuer name mismatch"

abbrev pub critical_text : List ℕ
critical_text = codes "RFC 6487 7.2: unknown critical extension"

abbrev pub subject_text : List ℕ
subject_text = codes "RFC 6487 7.2: subject key identifier mismatch"

abbrev pub authority_text : List ℕ
authority_text = codes "RFC 6487 7.2: authority key identifier mismatch"

abbrev pub revoked_text : List ℕ
revoked_text = codes "RFC 6487 7.2: revoked certificate"

abbrev pub overclaim_text : List ℕ
overclaim_text = codes "RFC 6487 7.2: resources that the issuer does not have"

abbrev pub other_key_text : List ℕ
other_key_text = codes "RFC 8630 3: key is not that of the locator"

-- the bound on the steps of a path is one of its terms, and of no standard
abbrev pub too_long_text : List ℕ
too_long_text = codes "path is too long"

-- ---- revocation lists

abbrev pub unsigned_list_text : List ℕ
unsigned_list_text = codes "RFC 5280 6.3.3: bad signature"

abbrev pub list_issuer_text : List ℕ
list_issuer_text = codes "RFC 5280 6.3.3: issuer name mismatch"

abbrev pub list_authority_text : List ℕ
list_authority_text = codes "RFC 5280 6.3.3: authority key identifier mismatch"

abbrev pub later_list_text : List ℕ
later_list_text = codes "RFC 5280 6.3.3: issued later"

abbrev pub stale_list_text : List ℕ
stale_list_text = codes "RFC 5280 6.3.3: stale list"

-- ---- signed objects

abbrev pub content_type_text : List ℕ
content_type_text = codes "RFC 6488 3: content type mismatch"

abbrev pub digest_text : List ℕ
digest_text = codes "RFC 6488 3: message digest mismatch"

abbrev pub signer_text : List ℕ
signer_text = codes "RFC 6488 3: subject key identifier mismatch"

abbrev pub unsigned_object_text : List ℕ
unsigned_object_text = codes "RFC 6488 3: bad signature"

-- ---- manifests

abbrev pub not_inherited_text : List ℕ
not_inherited_text = codes "RFC 9286 5.1: resources that are not inherited"

abbrev pub later_manifest_text : List ℕ
later_manifest_text = codes "RFC 9286 6.3: manifest issued later"

abbrev pub stale_manifest_text : List ℕ
stale_manifest_text = codes "RFC 9286 6.3: stale manifest"

-- ---- route origin attestations

abbrev pub no_addresses_text : List ℕ
no_addresses_text = codes "RFC 9582 5: no addresses"

abbrev pub inherited_addresses_text : List ℕ
inherited_addresses_text = codes "RFC 9582 5: inherited addresses"

abbrev pub numbers_beside_text : List ℕ
numbers_beside_text = codes "RFC 9582 5: AS numbers beside prefixes"

abbrev pub prefix_outside_text : List ℕ
prefix_outside_text = codes "RFC 9582 5: prefix outside of the resources"

-- ---- attestations of providers

abbrev pub no_numbers_text : List ℕ
no_numbers_text = codes "draft-ietf-sidrops-aspa-profile 4: no AS numbers"

abbrev pub inherited_numbers_text : List ℕ
inherited_numbers_text = codes "draft-ietf-sidrops-aspa-profile 4: inherited AS numbers"

abbrev pub addresses_beside_text : List ℕ
addresses_beside_text = codes "draft-ietf-sidrops-aspa-profile 4: addresses beside AS numbers"

abbrev pub customer_outside_text : List ℕ
customer_outside_text = codes "draft-ietf-sidrops-aspa-profile 4: customer outside of the resources"
