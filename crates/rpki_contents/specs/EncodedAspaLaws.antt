-- Lemmas: the tag of the version.
use Rattle.std.proofs.Common.{lit<}
use Rattle.rpki_der.specs.Prelude.{IsTag}
use Rattle.rpki_contents.specs.Aspa.{version_tag}

pub version_legal : IsTag version_tag
version_legal = record { below = lit< tt; named = λ e. absurd (cc) }
