-- What is signed: the message's digest in its encoding, EMSA-PKCS1-v1_5 (RFC 8017 9.2).
use Rattle.std.specs.Prelude.{ℕ, ◌-◌, List, [], ◌∷◌, ◌++◌, length, replicate}

-- the octets of a DigestInfo before a digest by SHA-256, with NULL for the parameters (RFC 8017 9.2, note 1)
abbrev pub digest_prefix : List ℕ
digest_prefix = 48 ∷ 49 ∷ 48 ∷ 13 ∷ 6 ∷ 9 ∷ 96 ∷ 134 ∷ 72 ∷ 1 ∷ 101 ∷ 3 ∷ 4 ∷ 2 ∷ 1 ∷ 5 ∷ 0 ∷ 4 ∷ 32 ∷ []

-- a DigestInfo
abbrev pub digest_info : List ℕ → List ℕ
digest_info digest = digest_prefix ++ digest

-- the encoding of a digest by SHA-256 in so many octets: 0, 1, the padding, 0, and the DigestInfo
abbrev pub encoded_digest : List ℕ → ℕ → List ℕ
encoded_digest digest len =
    (0 ∷ 1 ∷ []) ++ replicate (len - length (digest_info digest) - 3) 255 ++ (0 ∷ []) ++ digest_info digest
