use Rattle.rpki_objects.specs.EncodedObject.{built_of}
use Rattle.rpki_objects.proofs.ObjectWritingLaws.{parts-few, content-fits}
use Rattle.rpki_objects.proofs.encode.DataContents.encode_content.Goals as goal

pub returns-clause-short : goal.returns-clause-short
returns-clause-short c =
    let x = built_of c.self.inside.parts.now in
    let few = parts-few x c.self.invariant in
    let fits = content-fits x c.self.invariant in
    rw (c.new.ensures, c.new-content.ensures) (
      (
        c.encode-2.ensures.short.1 few.0,
        (c.encode.ensures.short.1 few.1.0, rw c.encode.ensures.encoded fits.0),
      ),
      rw (c.encode-2.ensures.encoded, c.encode.ensures.encoded) fits.1,
    )
