-- Lemmas: the tag of AS numbers.
use Rattle.std.proofs.Common.{lit<}
use Rattle.rpki_der.specs.TagName.{IsTag}
use Rattle.rpki_resources.specs.Extension.{as_numbers}

pub as_numbers_legal : IsTag as_numbers
as_numbers_legal = record { below = lit< tt; named = λ e. absurd (cc) }
