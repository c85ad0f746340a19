use Rattle.std.proofs.Common.{false, refl}
use Rattle.rpki_der.specs.TagName.{generalized_time}
use Rattle.rpki_der.proofs.LeavesLaws.{leaf-refused, leaf-accepted, leaf-malformed}
use Rattle.rpki_time.specs.TimeText.{ReadsAsGeneralized}
use Rattle.rpki_time.proofs.TextLaws.{generalized-unique}
use Rattle.rpki_time.proofs.time.Time.take_generalized_from.Goals as goal

pub returns-in-Err : goal.returns-in-Err
returns-in-Err c =
    leaf-refused generalized_time false (λ t text. ReadsAsGeneralized text t) _ _ _ c.in-Err.e refl c.in-Err.ensures

pub returns : goal.returns
returns c =
    let is = c.in-Some.ensures.value in
    leaf-accepted generalized_time false (λ t text. ReadsAsGeneralized text t) _ c.in-Ok.text.now _ c.in-Some.time
    c.in-Ok.ensures is (λ w h. generalized-unique _ w c.in-Some.time h is)

pub returns-in_default : goal.returns-in_default
returns-in_default c =
    leaf-malformed generalized_time false (λ t text. ReadsAsGeneralized text t) _ c.in-Ok.text.now _ _ _ _
    c.content.ensures refl c.in-Ok.ensures c.in_default.ensures.none
