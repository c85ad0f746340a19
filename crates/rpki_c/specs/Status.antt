-- The statuses of the library itself, beside 0 and the numbers of the layer's errors.
use Rattle.std.specs.Prelude.{ℕ}
use Rattle.rpki.specs.declared.repository.x509.name.rule.NameRule.{NameRule}

-- no identifier octets
abbrev pub bad_tag : ℕ
bad_tag = 2

-- the contents are not those of the type
abbrev pub content : ℕ
content = 5

-- allocation failed
abbrev pub out_of_memory : ℕ
out_of_memory = 7

-- the caller's array or buffer has no room
abbrev pub too_small : ℕ
too_small = 9

-- what is asked for doesn't exist
abbrev pub no_answer : ℕ
no_answer = 10

-- no profile has the number
abbrev pub no_profile : ℕ
no_profile = 12

-- an algorithm identifier is there, and not one of those that are read
abbrev pub other_algorithm : ℕ
other_algorithm = 13

-- the places are not laid out as those of the parts of a text are
abbrev pub other_parts : ℕ
other_parts = 14

-- contents would have 2^32 octets or more, or numbers have more octets than a key may have
abbrev pub too_long : ℕ
too_long = 15

-- a name breaks this rule of the profile
abbrev pub rule_number : NameRule → ℕ
rule_number NameRule.MissingCommonName = 32
rule_number NameRule.SecondCommonName = 33
rule_number NameRule.SecondSerialNumber = 34
rule_number NameRule.SecondOrganizationName = 35
rule_number NameRule.OtherString = 36
rule_number NameRule.OtherAttribute = 37

-- what is added to the number of an error of the second of two texts
abbrev pub second : ℕ
second = 16

-- what is handed in as an issuer is no certificate
abbrev pub no_issuer : ℕ
no_issuer = 152

-- the issuer of a certificate has another name than the subject of what is handed in as its issuer
abbrev pub other_issuer : ℕ
other_issuer = 153

-- the authority key identifier isn't there, or isn't that of the issuer's key
abbrev pub other_authority : ℕ
other_authority = 154

-- what is added to the number of an error of a URI, so that no status says two things
abbrev pub uri : ℕ
uri = 159

-- a period of validity begins after the moment
abbrev pub too_new : ℕ
too_new = 50

-- a period of validity ended before the moment
abbrev pub too_old : ℕ
too_old = 51

-- a public key is none that signatures are verified by
abbrev pub key_not_accepted : ℕ
key_not_accepted = 52

-- a signature is not one of the message by the key
abbrev pub bad_signature : ℕ
bad_signature = 53

-- the digest of octets is not the one that is said
abbrev pub other_digest : ℕ
other_digest = 54

-- the type of a content is not the one that is signed
abbrev pub other_type : ℕ
other_type = 55

-- the subject key identifier of a certificate isn't there, or isn't that of the signer
abbrev pub other_signer : ℕ
other_signer = 56

-- the subject key identifier of a certificate isn't there, or isn't that of its own key
abbrev pub other_key : ℕ
other_key = 57

-- resources are not within those of the issuer
abbrev pub other_resources : ℕ
other_resources = 58

-- a certificate has no policies: the number of that rule
abbrev pub no_policies : ℕ
no_policies = 108

-- a certificate has resources of the other version than its policy's: the number of that rule
abbrev pub other_version : ℕ
other_version = 115

-- the resources of a certificate are not critical, or not in canonical form: the number of that rule
abbrev pub wrong_resources : ℕ
wrong_resources = 116

-- the resources of a manifest's certificate are not those of its issuer
abbrev pub not_inherited : ℕ
not_inherited = 59

-- the key of a certificate is not that of the locator
abbrev pub other_anchor : ℕ
other_anchor = 60

-- a certificate lists other kinds of resources than one that signs an object of a type has to
abbrev pub other_kinds : ℕ
other_kinds = 61

-- an authority would be more steps below its trust anchor than a path may have
abbrev pub too_deep : ℕ
too_deep = 44

-- an authority has no revocation list yet
abbrev pub no_list : ℕ
no_list = 45

-- an authority has no manifest yet
abbrev pub no_manifest : ℕ
no_manifest = 48

-- a manifest names two of its files alike
abbrev pub same_names : ℕ
same_names = 46

-- a manifest lists another revocation list than the authority has, none, or more than one
abbrev pub other_list : ℕ
other_list = 47

-- the certificate of a manifest names another revocation list than the manifest lists
abbrev pub other_list_uri : ℕ
other_list_uri = 49

-- a certificate is on the revocation list of its issuer
abbrev pub revoked : ℕ
revoked = 62

-- an authority has the key of one that is on its path already
abbrev pub on_path : ℕ
on_path = 63

-- the octets end before the value does: the number of DecodeError.Truncated
abbrev pub truncated : ℕ
truncated = 1
