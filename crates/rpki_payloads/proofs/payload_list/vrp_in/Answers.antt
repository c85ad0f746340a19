use Rattle.std.proofs.Common.{◌∙◌, sym}
use Rattle.csv.specs.Records.{fields_of}
use Rattle.rpki_payloads.specs.Listed.{IsRow}
use Rattle.rpki_payloads.proofs.FindsLaws.{finds-as, same-fields}
use Rattle.rpki_payloads.proofs.payload_list.vrp_in.Goals as goal

pub returns : goal.returns
returns c =
    let number = c.in_ok-number.ensures.value in
    let text = c.in_ok-text.ensures.value in
    let digits = c.in_ok-digits.ensures.value in
    finds-as c.vrp_of.result _ (IsRow (fields_of c.args.row.now))
    (λ v h. (
      c.in_ok-number.number.now,
      c.in_ok-text.text.now,
      c.in_ok-digits.digits.now,
      sym number,
      sym text,
      sym digits,
      h,
    ))
    (λ v h. same-fields v (number ∙ h.3) (text ∙ h.4) (digits ∙ h.5) h.6) c.vrp_of.ensures
