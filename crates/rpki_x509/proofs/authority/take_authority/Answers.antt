use Rattle.std.proofs.Common.{rules}
use Rattle.rpki_der.specs.TagName.{sequence}
use Rattle.rpki_der.proofs.FormatLaws.{takes-around-one}
use Rattle.rpki_x509.specs.Authority.{tagged_identifier}
use Rattle.rpki_x509.proofs.authority.take_authority.Goals as goal

pub returns : goal.returns
returns c = takes-around-one (λ k. k) sequence tagged_identifier _ (λ b a x h. search rules) _ _ _ c.in_sequence.ensures
