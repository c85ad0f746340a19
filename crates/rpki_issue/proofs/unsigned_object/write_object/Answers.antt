use Rattle.std.proofs.Common.{subst}
use Rattle.rpki_objects.specs.EncodedObject.{BuiltObject, IsObjectReadBack}
use Rattle.rpki_issue.proofs.unsigned_object.write_object.Goals as goal

pub returns-in-Ok-clause-read : goal.returns-in-Ok-clause-read
returns-in-Ok-clause-read c =
    subst (λ (x : BuiltObject). IsObjectReadBack x) c.in-Some.ensures.value c.encode.ensures.read_back
