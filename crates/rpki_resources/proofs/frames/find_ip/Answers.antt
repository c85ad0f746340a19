use Rattle.rpki_der.specs.Cursor.{left}
use Rattle.rpki_der.specs.TagName.{sequence}
use Rattle.rpki_resources.specs.Extension.{AreFamilies}
use Rattle.rpki_resources.specs.Kept.{AreIpResourcesOf}
use Rattle.rpki_resources.proofs.BlocksLaws.{through}
use Rattle.rpki_resources.specs.Unread.{IsAround}
use Rattle.rpki_resources.proofs.UnreadLaws.{if-some, if-none, for-around}
use Rattle.rpki_resources.proofs.frames.find_ip.Goals as goal

pub returns-clause-some : goal.returns-clause-some
returns-clause-some c =
    let around : IsAround sequence c.args.octets.now (left c.in-Some.contents) =
    rw c.from_slice.ensures at c.in-Some.ensures.some in
    if-some c.find_families.result
    (λ x k v. through (for-around sequence c.args.octets.now AreFamilies AreIpResourcesOf (left c.in-Some.contents)
    around v) (k v))
    c.find_families.ensures.some

pub returns-clause-none : goal.returns-clause-none
returns-clause-none c =
    let around : IsAround sequence c.args.octets.now (left c.in-Some.contents) =
    rw c.from_slice.ensures at c.in-Some.ensures.some in
    if-none c.find_families.result
    (λ none v k. none v
    ((for-around sequence c.args.octets.now AreFamilies AreIpResourcesOf (left c.in-Some.contents) around v).0 k))
    c.find_families.ensures.none
