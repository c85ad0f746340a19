use Rattle.std.proofs.Common.{lit<, subst, ◌∙◌}
use Rattle.rpki_objects.specs.EncodedObject.{built_of, IsObjectReadBack}
use Rattle.rpki_objects.proofs.ObjectWritingLaws.{data-fit, object-fit}
use Rattle.rpki_objects.proofs.ObjectReadLaws.{object-back}
use Rattle.rpki_objects.proofs.encode.SignedObjectBuilder.encode.Goals as goal

pub returns-clause-fits : goal.returns-clause-fits
returns-clause-fits c =
    let x = built_of c.self.inside.parts.now in
    let all = object-fit x c.self.invariant in
    rw (c.new-3.ensures, c.new-data.ensures ∙ (c.new-2.ensures ∙ c.new.ensures), ← c.self.view_is) (
      (
        (c.encode.ensures.short.1 (lit< tt), data-fit x c.self.invariant),
        rw c.encode.ensures.encoded all.0,
      ),
      all.1,
    )

pub returns-clause-read_back : goal.returns-clause-read_back
returns-clause-read_back c =
    subst IsObjectReadBack c.self.view_is (object-back (built_of c.self.inside.parts.now) c.self.invariant)
