use Rattle.std.proofs.Common.{◌∙◌, ap}
use Rattle.std.proofs.lemmas.Result.{IfOk-weaker}
use Rattle.rpki_payloads.specs.Json.{json_text}
use Rattle.rpki_payloads.specs.StayRtr.{stay_text}
use Rattle.rpki_payloads.specs.Vap.{vaps}
use Rattle.rpki_payloads.proofs.form.Form.text_of.Goals as goal

pub returns-in_ok-vaps-in-Json : goal.returns-in_ok-vaps-in-Json
returns-in_ok-vaps-in-Json c =
    rw c.in-Json.is (IfOk-weaker c.json_text.result _ _
    (λ text h. (
      c.in_ok-pairs-in-Json.pairs.items,
      c.in_ok-pairs-in-Json.ensures,
      h ∙ ap (λ all. json_text c.args.all.now all c.args.made)
          (c.as_slice-in-Json.ensures.value ∙ c.in_ok-vaps-in-Json.ensures ∙ ap vaps c.as_slice.ensures.value),
    ))
    c.json_text.ensures)

pub returns-in_ok-vaps-in-StayRtr : goal.returns-in_ok-vaps-in-StayRtr
returns-in_ok-vaps-in-StayRtr c =
    rw c.in-StayRtr.is (IfOk-weaker c.stay_text.result _ _
    (λ text h. (
      c.in_ok-pairs-in-StayRtr.pairs.items,
      c.in_ok-pairs-in-StayRtr.ensures,
      h ∙ ap (λ all. stay_text c.args.all.now all c.args.made)
          (c.as_slice-in-StayRtr-2.ensures.value ∙ c.in_ok-vaps-in-StayRtr.ensures
          ∙ ap vaps c.as_slice-in-StayRtr.ensures.value),
    )) c.stay_text.ensures)
