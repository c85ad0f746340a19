use Rattle.rpki_der.specs.Cursor.{left}
use Rattle.rpki_der.specs.TagName.{sequence}
use Rattle.rpki_resources.specs.declared.kind.ResourceKind.TheVariants.{AsNumbers}
use Rattle.rpki_resources.specs.Extension.{as_numbers, SpellsChoice, asnum}
use Rattle.rpki_resources.specs.Kept.{AreAsResourcesOf}
use Rattle.rpki_resources.specs.Unread.{IsAround}
use Rattle.rpki_resources.proofs.UnreadLaws.{if-none, for-around}
use Rattle.rpki_resources.proofs.frames.find_as.Goals as goal

pub returns-clause-none : goal.returns-clause-none
returns-clause-none c =
    let one : IsAround sequence c.args.octets.now (left c.in-Some.contents) =
    rw c.from_slice.ensures at c.in-Some.ensures.some in
    let two : IsAround as_numbers (left c.in-Some.contents) (left c.in-Some-contents_of.numbers) =
    rw c.new.ensures at c.in-Some-contents_of.ensures.some in
    if-none c.find_choice.result
    (λ none v k.
    let l = (for-around sequence c.args.octets.now asnum.spells AreAsResourcesOf (left c.in-Some.contents) one v).0
    k in
    let m = (for-around as_numbers (left c.in-Some.contents) (SpellsChoice AsNumbers) AreAsResourcesOf
    (left c.in-Some-contents_of.numbers) two v).0 l in
    none AsNumbers v.numbers (record { value = m.value; spelled = m.spelled; stands = m.stands }))
    c.find_choice.ensures.none
