-- What the rules of profiles say of the parts of a certificate (RFC 6487 4, RFC 8209 3.1, RFC 8360 4.2).
use Rattle.std.specs.Prelude.{◌≡◌, ◌≢◌, ◌≤ℤ◌, ◌⊎◌, ◌||◌, ◌&&◌, not, ℕ, Bool, true, false, List, [], Option, Some}
use Rattle.std.specs.Prelude.{None, IsTrue}
use Rattle.jiff.specs.Words.{civil_nanos}
use Rattle.rpki_time.specs.Validity.{Period}
use Rattle.rpki.specs.KeyIdentifier.{SpellsKeyIdentifier}
use Rattle.rpki.specs.ExtensionValue.{ExtensionParts}
use Rattle.rpki_text.specs.RsyncText.{rsync_refusal, uri_of, relative}
use Rattle.rpki_cert.specs.declared.extension.access_rule.AccessRule.{AccessRule}
use Rattle.rpki_cert.specs.declared.extension.policy.Overclaim.{Overclaim}
use Rattle.rpki_cert.specs.declared.extension.policy.Overclaim.TheVariants.{Refuse, Trim}
use Rattle.rpki_cert.specs.Cert.{find, is_there}
use Rattle.rpki_cert.specs.Known.{subject_key_identifier}
use Rattle.rpki_cert.specs.Known.{certificate_policies}
use Rattle.rpki_x509.specs.Authority.{authority_key_identifier}
use Rattle.rpki_cert.specs.Known.{subject_info_access, ip_addr_blocks, ip_addr_blocks_v2}
use Rattle.rpki_cert.specs.Known.{autonomous_sys_ids, autonomous_sys_ids_v2, Says, HasExtension}
use Rattle.rpki_x509.specs.Authority.{SpellsAuthority}
use Rattle.rpki_cert.specs.ExtensionContent.{SpellsPolicies}
use Rattle.rpki_cert.specs.Access.{SpellsRsyncAccess, SpellsHeldAccess, SaysUri}
use Rattle.rpki_cert.specs.Access.{ca_repository, rpki_manifest}

-- ---- what is there

-- something is found, in this form and as critical as it has to be
abbrev pub SaysSome : {V : Type 0} → Bool → (V → List ℕ → Type 0) → Option ExtensionParts → Type 0
SaysSome {V} critical G found = (v : V) × Says critical G found (Some v)

-- it has a URI of the scheme
abbrev pub SaysSomeUri : (Option (List ℕ) → List ℕ → Type 0) → Option ExtensionParts → Type 0
SaysSomeUri G found = (uri : List ℕ) × SaysUri G found (Some uri)

-- the same of the extension of this identifier
abbrev pub HasSome : {V : Type 0} → List ℕ → Bool → (V → List ℕ → Type 0) → List ExtensionParts → Type 0
HasSome id critical G xs = SaysSome critical G (find id xs)

abbrev pub HasSomeUri : List ℕ → (Option (List ℕ) → List ℕ → Type 0) → List ExtensionParts → Type 0
HasSomeUri id G xs = SaysSomeUri G (find id xs)

-- the subject information access is there, and each of its descriptions obeys the rule
abbrev pub HasHeldAccess : AccessRule → List ExtensionParts → Type 0
HasHeldAccess rule xs = HasSome subject_info_access false (SpellsHeldAccess rule) xs

-- these are two rsync URIs, the second below the first: a path leads to it, and that is not empty
pub record IsBelow (base text : List ℕ) : Type 0 where
  pub base_uri : rsync_refusal base ≡ None
  pub text_uri : rsync_refusal text ≡ None
  pub path : List ℕ
  pub leads : relative (uri_of text) (uri_of base) ≡ Some path
  pub some : path ≢ []

-- of the subject information access that is found, the URI of the manifest lies below that of the repository
pub record SaysManifestBelow (found : Option ExtensionParts) : Type 0 where
  pub base : List ℕ
  pub text : List ℕ
  pub repository : SaysUri (SpellsRsyncAccess ca_repository) found (Some base)
  pub manifest : SaysUri (SpellsRsyncAccess rpki_manifest) found (Some text)
  pub below : IsBelow base text

-- it isn't there
abbrev pub HasNot : List ℕ → List ExtensionParts → Type 0
HasNot id xs = find id xs ≡ None

-- ---- which resources are there (RFC 6487 4.8.10, 4.8.11, RFC 8360 4.2.2)

abbrev pub has_addresses : List ExtensionParts → Bool
has_addresses xs = is_there (find ip_addr_blocks xs) || is_there (find ip_addr_blocks_v2 xs)

abbrev pub has_numbers : List ExtensionParts → Bool
has_numbers xs = is_there (find autonomous_sys_ids xs) || is_there (find autonomous_sys_ids_v2 xs)

-- critical, or not there
abbrev pub is_critical : Option ExtensionParts → Bool
is_critical None = true
is_critical (Some x) = x.critical

-- addresses or numbers are there, and each extension that has them is critical
abbrev pub has_resources : List ExtensionParts → Bool
has_resources xs =
    (has_addresses xs || has_numbers xs) && is_critical (find ip_addr_blocks xs)
    && is_critical (find ip_addr_blocks_v2 xs) && is_critical (find autonomous_sys_ids xs)
    && is_critical (find autonomous_sys_ids_v2 xs)

-- the resources of the other version than the policy's are not there: with id-cp-ipAddr-asNumber only the extensions of
-- RFC 3779, with id-cp-ipAddr-asNumber-v2 only those of RFC 8360 (RFC 8360 4.2)
abbrev pub is_of_version : Overclaim → List ExtensionParts → Bool
is_of_version Refuse xs =
    not (is_there (find ip_addr_blocks_v2 xs)) && not (is_there (find autonomous_sys_ids_v2 xs))
is_of_version Trim xs = not (is_there (find ip_addr_blocks xs)) && not (is_there (find autonomous_sys_ids xs))

-- the policy is there, and all resources are of its version
abbrev pub HasOneVersion : List ExtensionParts → Type 0
HasOneVersion xs =
    (policy : Overclaim) × HasExtension certificate_policies true SpellsPolicies xs (Some policy)
    × IsTrue (is_of_version policy xs)

-- ---- what certificates have in common

-- the period ends no earlier than it begins (RFC 5280 4.1.2.5, RFC 6487 4.6)
abbrev pub IsOrdered : Period → Type 0
IsOrdered p = civil_nanos p.not_before ≤ℤ civil_nanos p.not_after

-- issued by itself: the authority key identifier is left out, or is the subject key identifier (RFC 6487 4.8.3)
abbrev pub SaysOwn : Option ExtensionParts → Option ExtensionParts → Type 0
SaysOwn authority subject =
    (authority ≡ None)
    ⊎ ((identifier : List ℕ) × Says false SpellsAuthority authority (Some identifier)
    × Says false SpellsKeyIdentifier subject (Some identifier))

abbrev pub HasOwnAuthority : List ExtensionParts → Type 0
HasOwnAuthority xs = SaysOwn (find authority_key_identifier xs) (find subject_key_identifier xs)
