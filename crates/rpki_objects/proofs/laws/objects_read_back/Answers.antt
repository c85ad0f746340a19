use Rattle.rpki_objects.proofs.ObjectReadLaws.{decoded-back}
use Rattle.rpki_objects.proofs.laws.objects_read_back.Goals as goal

pub returns : goal.returns
returns c = λ x. decoded-back x c.args.strict c.args.bytes c.decode.result c.decode.ensures
