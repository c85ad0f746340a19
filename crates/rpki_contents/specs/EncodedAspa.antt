-- What is written of an attestation of providers.
use Rattle.std.specs.Prelude.{◌<◌, ◌^◌, ℕ, true, false, List, [], ◌∷◌, ◌++◌, length}
use Rattle.rpki_der.specs.Prelude.{integer, sequence, tlv}
use Rattle.rpki_resources.specs.Encoded.{as_number_octets}
use Rattle.rpki_contents.specs.Aspa.{version_tag, AspaParts}

abbrev pub numbers_octets : List ℕ → List ℕ
numbers_octets [] = []
numbers_octets (n ∷ ns) = as_number_octets n ++ numbers_octets ns

-- version 1, under its tag
abbrev pub version_contents : List ℕ
version_contents = 1 ∷ []

abbrev pub version_octets : List ℕ
version_octets = tlv version_tag true (tlv integer false version_contents)

abbrev pub providers_octets : List ℕ → List ℕ
providers_octets ns = tlv sequence true (numbers_octets ns)

abbrev pub aspa_contents : AspaParts → List ℕ
aspa_contents x = version_octets ++ (as_number_octets x.customer ++ providers_octets x.providers)

abbrev pub aspa_octets : AspaParts → List ℕ
aspa_octets x = tlv sequence true (aspa_contents x)

-- the contents have fewer than 2^32 octets
abbrev pub IsShortAspa : AspaParts → Type 0
IsShortAspa x = length (aspa_contents x) < 2 ^ 32
