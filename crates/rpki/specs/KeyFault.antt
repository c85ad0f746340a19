-- Public keys as formats: their octets, and which error those have that are rejected (RFC 5280 4.1).
use Rattle.rpki_der.specs.Prelude.{sequence, Bits, Format, around, then, only, said_by, kept, bits_value}
use Rattle.rpki.specs.RsaPublicKey.{rsa_public_key}
use Rattle.rpki.specs.PublicKey.{KeyParts, IsKeyContents, IsRsaKey}
use Rattle.rpki.specs.AlgorithmFault.{key_format}

-- a BIT STRING that shares its octets: allocation may fail where it is there
abbrev pub shared_bits : Format Bits
shared_bits = kept bits_value

-- the format; then the bits, which are shared, or borrowed; then nothing
abbrev pub key_parts : Format KeyParts
key_parts = said_by IsKeyContents (then key_format (only shared_bits))

abbrev pub key_view_parts : Format KeyParts
key_view_parts = said_by IsKeyContents (then key_format (only bits_value))

-- a public key; one whose bits are borrowed, which allocates nothing
abbrev pub key : Format KeyParts
key = around sequence key_parts

abbrev pub key_view : Format KeyParts
key_view = around sequence key_view_parts

-- an RSA key, of its bits alone
abbrev pub rsa_key : Format KeyParts
rsa_key = said_by IsRsaKey rsa_public_key
