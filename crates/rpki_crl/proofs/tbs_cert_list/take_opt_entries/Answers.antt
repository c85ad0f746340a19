use Rattle.std.proofs.Common.{rules, Ok, Err}
use Rattle.rpki_der.specs.TagName.{sequence}
use Rattle.rpki_der.proofs.FormatLaws.{takes-around, tried-where}
use Rattle.rpki_crl.specs.Crl.{entries_of, each_entry, entries}
use Rattle.rpki_crl.proofs.tbs_cert_list.take_opt_entries.Goals as goal

pub returns : goal.returns
returns c = (
  c.has_tag.ensures.0 (search rules),
  takes-around entries_of sequence each_entry _ (λ b a x h. search rules) _ _ (Ok c.in_ok-found.found)
      c.in_ok-found.ensures,
)

pub returns-in_err-found : goal.returns-in_err-found
returns-in_err-found c =
    tried-where sequence entries_of entries _ c.from_residual.ensures (c.has_tag.ensures.0 (search rules))
    (takes-around entries_of sequence each_entry _ (λ b a x h. search rules) _ _ (Err c.in_err-found.field-0.0)
    c.in_err-found.ensures)
