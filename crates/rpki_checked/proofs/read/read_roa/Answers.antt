use Rattle.rpki_objects.specs.Strictness.{all_strict}
use Rattle.rpki_objects.specs.TypedObject.{origin_object}
use Rattle.rpki_der.specs.Prelude.{IsWholeFault}
use Rattle.rpki_checked.proofs.ReadLaws.{no-memory, read, unread}
use Rattle.rpki_checked.proofs.read.read_roa.Goals as goal

pub returns-in-Err : goal.returns-in-Err
returns-in-Err c =
    let F = origin_object all_strict in
    no-memory F.spells (IsWholeFault F.spells F.fault) c.args.octets.now c.in-Err.e c.in-Err.ensures.err

pub returns-in-Ok-decode : goal.returns-in-Ok-decode
returns-in-Ok-decode c =
    let there = rw c.all.ensures at c.in-Ok-decode.ensures in
    read (origin_object all_strict).spells c.in-Ok.bytes c.args.octets.now _ c.in-Ok.ensures.ok there

pub returns-in-Err-decode : goal.returns-in-Err-decode
returns-in-Err-decode c =
    let F = origin_object all_strict in
    let there = rw c.all.ensures at c.in-Err-decode.ensures in
    unread F.spells (IsWholeFault F.spells F.fault) c.in-Ok.bytes c.args.octets.now c.in-Err-decode.e c.in-Ok.ensures.ok
    there
