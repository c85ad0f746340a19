use Rattle.std.proofs.Common.{false}
use Rattle.std.proofs.lemmas.Bool.{iff_false}
use Rattle.rpki_der.specs.TagName.{octet_string}
use Rattle.rpki_der.specs.Values.{SpellsContents}
use Rattle.rpki_der.proofs.ComposedLaws.{all-read}
use Rattle.rpki_objects.specs.SignedObject.{kept_octets}
use Rattle.rpki_objects.proofs.ObjectFaultLaws.{none-after, octets-none}
use Rattle.rpki_objects.proofs.content_view.read_octets.Goals as goal

pub returns-then-is_empty : goal.returns-then-is_empty
returns-then-is_empty c =
    all-read (SpellsContents octet_string false) _ _ _ c.in-Ok.ensures (c.is_empty.ensures.0 c.if-is_empty.true)

pub returns-else-is_empty : goal.returns-else-is_empty
returns-else-is_empty c =
    none-after kept_octets _ _ _ c.in-Ok.ensures (iff_false c.is_empty.ensures c.if-is_empty.false)

pub returns-in-Err : goal.returns-in-Err
returns-in-Err c = octets-none _ _ c.in-Err.e c.in-Err.ensures
