-- What a status says of a file that a manifest lists (RFC 9286 6.5).
use Rattle.std.specs.Prelude.{◌≡◌, ◌≢◌, ◌⊎◌, ℕ, List}
use Rattle.sha2.specs.Sha256.{sha256}
use Rattle.rpki_c.specs.Status.{other_digest}

-- Status 0: the digest that is said is that of the octets by SHA-256. 54: it is another one.
abbrev pub IsFileTold : List ℕ → List ℕ → ℕ → Type 0
IsFileTold digest s status =
    ((status ≡ 0) × (digest ≡ sha256 s)) ⊎ ((status ≡ other_digest) × (digest ≢ sha256 s))
