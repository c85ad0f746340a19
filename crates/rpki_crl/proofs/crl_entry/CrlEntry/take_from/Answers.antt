use Rattle.std.proofs.Common.{rules}
use Rattle.rpki_der.specs.TagName.{sequence}
use Rattle.rpki_der.proofs.FormatLaws.{takes-around}
use Rattle.rpki_crl.specs.Crl.{entry_of, entry_parts}
use Rattle.rpki_crl.proofs.crl_entry.CrlEntry.take_from.Goals as goal

pub returns : goal.returns
returns c = takes-around entry_of sequence entry_parts _ (λ b a x h. search rules) _ _ _ c.in_sequence.ensures
