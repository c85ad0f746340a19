-- Algorithm identifiers as formats: their octets, and which error those have that are rejected (RFC 5280 4.1.1.2).
use Rattle.std.specs.Prelude.{◌≡◌, ◌⊎◌, ℕ, Bool, List, codes}
use Rattle.rpki_der.specs.declared.error.DecodeError.{DecodeError}
use Rattle.rpki_der.specs.Prelude.{null, sequence, set, FirstFault, Format, around, then, optional_then, only, end}
use Rattle.rpki_der.specs.Prelude.{said_by, null_value, any_oid, this_oid}
use Rattle.rpki.specs.declared.crypto.keys.PublicKeyFormat.{PublicKeyFormat}
use Rattle.rpki.specs.Oids.{sha256, rsa_encryption, ec_public_key, secp256r1}
use Rattle.rpki.specs.Algorithm.{IsParameters, IsIdentified}
use Rattle.rpki.specs.SignatureNames.{IsCmsName, IsCmsContents}
use Rattle.rpki.specs.Digest.{IsDigestContents}
use Rattle.rpki.specs.KeyFormat.{IsFormatName, IsFormatContents}
use Rattle.rpki.specs.UnknownAlgorithm.{IsContentWith}

-- a NULL or nothing, and nothing else
abbrev pub parameters : Format Bool
parameters = said_by IsParameters (optional_then null null_value end)

-- this object identifier, and then the parameters
abbrev pub identified : List ℕ → Format Bool
identified o = said_by (IsIdentified o) (then (this_oid o) parameters)

-- the algorithm identifier of this object identifier, with a NULL or without
abbrev pub algorithm : List ℕ → Format Bool
algorithm o = around sequence (identified o)

-- the same without a NULL
abbrev pub bare : List ℕ → Format (Unit {0})
bare o = around sequence (only (this_oid o))

-- that of SHA-256, and a SET of exactly one
abbrev pub digest : Format (Unit {0})
digest = around sequence (said_by IsDigestContents (identified sha256))

abbrev pub digest_set : Format (Unit {0})
digest_set = around set (only digest)

-- ---- identifiers of more than one algorithm: what follows is by the object identifier

-- what follows an object identifier in a signed object: the parameters; or the identifier isn't known
abbrev pub IsCmsRestFault : List ℕ → List ℕ → DecodeError → Type 0
IsCmsRestFault x r e = (IsCmsName x × parameters.fault r e)
    ⊎ ((IsCmsName x → ⊥) × IsContentWith (codes "invalid signature algorithm") e)

abbrev pub cms_parts : Format Bool
cms_parts = record { spells = IsCmsContents; fault = FirstFault any_oid.spells any_oid.fault IsCmsRestFault }

abbrev pub cms : Format Bool
cms = around sequence cms_parts

-- what follows the object identifier of a format of keys: the parameters of RSA; the curve; or it isn't known
abbrev pub IsFormatRestFault : List ℕ → List ℕ → DecodeError → Type 0
IsFormatRestFault x r e = ((x ≡ rsa_encryption) × parameters.fault r e)
    ⊎ (((x ≡ ec_public_key) × (only (this_oid secp256r1)).fault r e)
    ⊎ ((IsFormatName x → ⊥) × IsContentWith (codes "invalid public key format") e))

abbrev pub format_parts : Format PublicKeyFormat
format_parts = record { spells = IsFormatContents; fault = FirstFault any_oid.spells any_oid.fault IsFormatRestFault }

abbrev pub key_format : Format PublicKeyFormat
key_format = around sequence format_parts
