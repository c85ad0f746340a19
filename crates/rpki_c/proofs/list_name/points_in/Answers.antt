use Rattle.std.specs.Option.{option_copied}
use Rattle.rpki_der.proofs.InsideLaws.{unless-memory}
use Rattle.rpki_c.proofs.ListNameLaws.{points-given, points-none}
use Rattle.rpki_c.proofs.list_name.points_in.Goals as goal

pub returns-in-Ok : goal.returns-in-Ok
returns-in-Ok c =
    points-given option_copied c.args.octets.now c.in-Ok.names.now c.in-Ok.ensures c.uris_in.result
    (rw c.from_slice.ensures at c.uris_in.ensures)

pub returns-in-Err : goal.returns-in-Err
returns-in-Err c =
    points-none c.args.octets.now (unless-memory c.in-Err.e c.in-Err.ensures.1.other c.in-Err.ensures.0)
