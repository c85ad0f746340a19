-- Numbers of attestations of providers in place.
use Rattle.std.proofs.Common.{◌≡◌, ◌^◌, ℕ, List, Ok, sym}
use Rattle.rpki_der.specs.Prelude.{integer, Accepts, IsUnsignedBelow}
use Rattle.rpki_parse.specs.Leaf.{below_in}
use Rattle.rpki_parse.proofs.BackLaws.{leaf-read}
use Rattle.rpki_parse.proofs.DecisionLaws.{below_decides}
use Rattle.rpki_contents.specs.Aspa.{as_number}
use Rattle.rpki_contents.specs.AspaView.{number_at}

pub number_read : (s r : List ℕ) (n : ℕ) → Accepts as_number.spells s n r → Ok (n, r) ≡ number_at s
number_read s r n a =
    sym (leaf-read integer (IsUnsignedBelow (2 ^ 32)) (below_in (2 ^ 32)) (below_decides (2 ^ 32)) s n r a.spells)
