use Rattle.std.proofs.Common.{rules}
use Rattle.rpki_der.specs.TagName.{sequence}
use Rattle.rpki_der.proofs.FormatLaws.{takes-each-around}
use Rattle.rpki_crl.specs.Crl.{entry_of, entry_parts}
use Rattle.rpki_crl.proofs.tbs_cert_list.take_each_entry.Goals as goal

pub returns : goal.returns
returns c =
    takes-each-around entry_of sequence entry_parts _ (λ b a x h. search rules) (λ v. v.items) _ _ _
    c.take_each.ensures
