-- What a status says of an object beside the resources of its certificate (RFC 9582 5, RFC 9286 5.1).
use Rattle.std.specs.Prelude.{◌≡◌, ◌⊎◌, ℕ, Bool, true, List, Ok}
use Rattle.rpki_resources.specs.declared.block.Block.{Block}
use Rattle.rpki_resources.specs.Blocks.{IsAmong}
use Rattle.rpki_cert.specs.declared.extension.policy.Overclaim.{Overclaim}
use Rattle.rpki_cert.specs.Cert.{CertParts}
use Rattle.rpki_contents.specs.declared.aspa_view.AspaPart.{AspaPart}
use Rattle.rpki_contents.specs.declared.roa_view.RoaPart.{RoaPart}
use Rattle.rpki_contents.specs.AspaView.{FoundAspa, attestation}
use Rattle.rpki_contents.specs.Roa.{AttestationParts, fields_of, roa}
use Rattle.rpki_contents.specs.Within.{AreWithin}
use Rattle.rpki_valid.specs.ObjectResources.{AreInherited}
use Rattle.rpki_c.specs.declared.ip_blocks.IpEntry.{IpEntry}
use Rattle.rpki_c.specs.declared.as_blocks.AsEntry.{AsEntry}
use Rattle.rpki_c.specs.Aspa.{IsAspaWrong, aspa_part_number}
use Rattle.rpki_c.specs.Policy.{HasPolicy, HasNoPolicy}
use Rattle.rpki_c.specs.Settling.{are_untold, are_as_untold, as_blocks, AreHeld}
use Rattle.rpki_c.specs.Roa.{IsRoaWrong, roa_part_number}
use Rattle.rpki_c.specs.Status.{no_answer, not_inherited, other_resources, out_of_memory}

-- 10: a block says that addresses are those of an issuer. 145 to 147: this part of the attestation is wrong. Else it is
-- an attestation. 0: each address of each prefix is among the blocks. 58: one is not. 7: allocation failed.
abbrev pub IsRoaTold : Bool → List ℕ → List IpEntry → ℕ → Type 0
IsRoaTold strict s blocks status =
    ((are_untold blocks ≡ true) × (status ≡ no_answer))
    ⊎ ((q : RoaPart) × (status ≡ roa_part_number q) × IsRoaWrong strict s q)
    ⊎ ((x : AttestationParts) × (v4 v6 : List Block) × (roa strict).spells (fields_of x) s × AreHeld blocks v4 v6
    × (((status ≡ 0) × AreWithin x v4 v6) ⊎ ((status ≡ other_resources) × (AreWithin x v4 v6 → ⊥))))
    ⊎ (status ≡ out_of_memory)

-- 10: a block says that AS numbers are those of an issuer. 148 to 151: this part of the attestation is wrong. Else it
-- is an attestation. 0: the customer is among the blocks. 58: it is not.
abbrev pub IsAspaTold : List ℕ → List AsEntry → ℕ → Type 0
IsAspaTold s blocks status =
    ((are_as_untold blocks ≡ true) × (status ≡ no_answer))
    ⊎ ((q : AspaPart) × (status ≡ aspa_part_number q) × IsAspaWrong s q)
    ⊎ ((x : FoundAspa) × (attestation s ≡ Ok x)
    × (((status ≡ 0) × IsAmong x.customer (as_blocks blocks))
    ⊎ ((status ≡ other_resources) × (IsAmong x.customer (as_blocks blocks) → ⊥))))

-- 64 to 84, 108, 115: the certificate isn't read, has no policies, or has resources of the other version than its
-- policy's. Else it is one whose resources its policy's extensions alone say. 0: all that it names are those of its
-- issuer. 59: they are not.
abbrev pub IsManifestTold : List ℕ → ℕ → Type 0
IsManifestTold s status =
    HasNoPolicy s status
    ⊎ ((x : CertParts) × (policy : Overclaim) × HasPolicy s x policy
    × (((status ≡ 0) × AreInherited x.tbs.extensions)
    ⊎ ((status ≡ not_inherited) × (AreInherited x.tbs.extensions → ⊥))))
