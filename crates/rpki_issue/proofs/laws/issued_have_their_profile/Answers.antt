use Rattle.rpki_issue.proofs.ProfileLaws.{has-profile}
use Rattle.rpki_issue.proofs.laws.issued_have_their_profile.Goals as goal

pub returns : goal.returns
returns c = λ x e can. has-profile x e can
