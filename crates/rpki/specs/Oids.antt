-- Object identifiers, by their contents octets (X.690 8.19): of each constant of the module `oid`, in its order.
use Rattle.std.specs.Prelude.{ℕ, List, [], ◌∷◌}

-- 2.16.840.1.101.3.4.2.1
abbrev pub sha256 : List ℕ
sha256 = 96 ∷ 134 ∷ 72 ∷ 1 ∷ 101 ∷ 3 ∷ 4 ∷ 2 ∷ 1 ∷ []

-- 1.2.840.113549.1.1.1
abbrev pub rsa_encryption : List ℕ
rsa_encryption = 42 ∷ 134 ∷ 72 ∷ 134 ∷ 247 ∷ 13 ∷ 1 ∷ 1 ∷ 1 ∷ []

-- 1.2.840.113549.1.1.11
abbrev pub sha256_with_rsa_encryption : List ℕ
sha256_with_rsa_encryption = 42 ∷ 134 ∷ 72 ∷ 134 ∷ 247 ∷ 13 ∷ 1 ∷ 1 ∷ 11 ∷ []

-- 1.2.840.10045.2.1
abbrev pub ec_public_key : List ℕ
ec_public_key = 42 ∷ 134 ∷ 72 ∷ 206 ∷ 61 ∷ 2 ∷ 1 ∷ []

-- 1.2.840.10045.4.3.2
abbrev pub ecdsa_with_sha256 : List ℕ
ecdsa_with_sha256 = 42 ∷ 134 ∷ 72 ∷ 206 ∷ 61 ∷ 4 ∷ 3 ∷ 2 ∷ []

-- 1.2.840.10045.3.1.7
abbrev pub secp256r1 : List ℕ
secp256r1 = 42 ∷ 134 ∷ 72 ∷ 206 ∷ 61 ∷ 3 ∷ 1 ∷ 7 ∷ []

-- 1.2.840.113549.1.7.2
abbrev pub signed_data : List ℕ
signed_data = 42 ∷ 134 ∷ 72 ∷ 134 ∷ 247 ∷ 13 ∷ 1 ∷ 7 ∷ 2 ∷ []

-- 2.5.4.3
abbrev pub common_name : List ℕ
common_name = 85 ∷ 4 ∷ 3 ∷ []

-- 2.5.4.5
abbrev pub serial_number : List ℕ
serial_number = 85 ∷ 4 ∷ 5 ∷ []

-- 2.5.4.10
abbrev pub organization_name : List ℕ
organization_name = 85 ∷ 4 ∷ 10 ∷ []
