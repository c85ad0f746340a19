use Rattle.std.proofs.Common.{sym}
use Rattle.rpki_text.proofs.HttpsPartLaws.{ends_in_slash-last}
use Rattle.rpki_text.proofs.uri.path.ends_in_slash.Goals as goal

pub returns-in-Some : goal.returns-in-Some
returns-in-Some c = sym (ends_in_slash-last _ _ c.in-Some.ensures.value)
