use Rattle.rpki_objects.proofs.aspa.content_of.Goals as goal

pub returns : goal.returns
returns c = rw c.as_slice.ensures at c.decode.ensures
