use Rattle.std.proofs.Common.{◌∙◌, ap, sym}
use Rattle.std.proofs.lemmas.Map.Views.{exact_unsigned_eq}
use Rattle.serde_json.specs.View.{members_view}
use Rattle.rpki_payloads.specs.ExceptionsText.{size}
use Rattle.rpki_payloads.proofs.FindsLaws.{same-number, the-same}
use Rattle.rpki_payloads.proofs.MemberLaws.{size-view}
use Rattle.rpki_payloads.proofs.members.has_size.Goals as goal

pub returns-in-Some : goal.returns-in-Some
returns-in-Some c =
    let entries = c.in-Some.members.now.entries in
    let there = rw c.in-Some.is at c.as_object.ensures in
    let long = size-view entries ∙ sym c.len.ensures.len in (
      (λ t. (members_view entries, sym there, long ∙ exact_unsigned_eq _ _ t)),
      (λ h. same-number _ _ (sym long ∙ ap size (the-same (there ∙ h.1)) ∙ h.2)),
    )
