-- The types of contents (IANA, "SMI Security for S/MIME CMS Content Type"), by their contents octets (X.690 8.19).
use Rattle.std.specs.Prelude.{ℕ, List, [], ◌∷◌}

-- id-ct-rpkiGhostbusters, 1.2.840.113549.1.9.16.1.35 (RFC 6493 5)
abbrev pub card_type : List ℕ
card_type = 42 ∷ 134 ∷ 72 ∷ 134 ∷ 247 ∷ 13 ∷ 1 ∷ 9 ∷ 16 ∷ 1 ∷ 35 ∷ []

-- id-ct-signedChecklist, 1.2.840.113549.1.9.16.1.48 (RFC 9323 3)
abbrev pub checklist_type : List ℕ
checklist_type = 42 ∷ 134 ∷ 72 ∷ 134 ∷ 247 ∷ 13 ∷ 1 ∷ 9 ∷ 16 ∷ 1 ∷ 48 ∷ []

-- id-ct-signedTAL, 1.2.840.113549.1.9.16.1.50 (RFC 9691 3.1)
abbrev pub anchor_keys_type : List ℕ
anchor_keys_type = 42 ∷ 134 ∷ 72 ∷ 134 ∷ 247 ∷ 13 ∷ 1 ∷ 9 ∷ 16 ∷ 1 ∷ 50 ∷ []
