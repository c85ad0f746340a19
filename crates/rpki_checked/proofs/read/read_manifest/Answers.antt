use Rattle.std.proofs.Common.{true}
use Rattle.rpki_objects.specs.TypedObject.{manifest_object}
use Rattle.rpki_der.specs.Prelude.{IsWholeFault}
use Rattle.rpki_checked.proofs.ReadLaws.{no-memory, read, unread}
use Rattle.rpki_checked.proofs.read.read_manifest.Goals as goal

pub returns-in-Err : goal.returns-in-Err
returns-in-Err c =
    let F = manifest_object true in
    no-memory F.spells (IsWholeFault F.spells F.fault) c.args.octets.now c.in-Err.e c.in-Err.ensures.err

pub returns-in-Ok-decode : goal.returns-in-Ok-decode
returns-in-Ok-decode c =
    let there = c.in-Ok-decode.ensures in
    read (manifest_object true).spells c.in-Ok.bytes c.args.octets.now _ c.in-Ok.ensures.ok there

pub returns-in-Err-decode : goal.returns-in-Err-decode
returns-in-Err-decode c =
    let F = manifest_object true in
    let there = c.in-Err-decode.ensures in
    unread F.spells (IsWholeFault F.spells F.fault) c.in-Ok.bytes c.args.octets.now c.in-Err-decode.e c.in-Ok.ensures.ok
    there
