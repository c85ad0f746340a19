-- What a status says of the serial number of a certificate, and of the octets of a revocation list.
use Rattle.std.specs.Prelude.{◌≡◌, ◌⊎◌, ◌≤◌, ◌<◌, ℕ, true, false, List, slice_index}
use Rattle.rpki_der.specs.Prelude.{number_of}
use Rattle.rpki_crl.specs.declared.crl_part.CrlPart.{CrlPart}
use Rattle.rpki_crl.specs.Crl.{CrlParts, crl, listed, is_revoked}
use Rattle.rpki_crl.specs.CrlView.{IsCrlWrong}
use Rattle.rpki_c.specs.Crl.{crl_part_number}
use Rattle.rpki_c.specs.Status.{content, revoked}

-- Of a list, and of a serial number of twenty octets. 5: its first bit is set. 62: the list has it. 0: it doesn't.
abbrev pub IsToldOfList : CrlParts → List ℕ → ℕ → Type 0
IsToldOfList x twenty status =
    ((128 ≤ slice_index twenty 0) × (status ≡ content))
    ⊎ ((slice_index twenty 0 < 128)
    × (((status ≡ 0) × (is_revoked (number_of twenty) (listed x.list.revoked) ≡ false))
    ⊎ ((status ≡ revoked) × (is_revoked (number_of twenty) (listed x.list.revoked) ≡ true))))

-- 64 to 122: this part of the list is wrong. Else the octets are a list, and the status is as above.
abbrev pub IsRevokedTold : List ℕ → List ℕ → ℕ → Type 0
IsRevokedTold s twenty status =
    ((q : CrlPart) × (status ≡ crl_part_number q) × IsCrlWrong s q)
    ⊎ ((x : CrlParts) × crl.spells x s × IsToldOfList x twenty status)
