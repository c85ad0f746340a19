use Rattle.std.proofs.Common.{◌<◌, length, inl, inr, refl, arith}
use Rattle.rpki_contents.specs.ManifestView.{parts_in}
use Rattle.rpki_c.proofs.ObjectLaws.{is-listing, held}
use Rattle.rpki_c.proofs.manifest_names.rpki_manifest_names.Goals as goal

pub returns-then-room-count : goal.returns-then-room-count
returns-then-room-count c =
    let v = c.in-Ok.found in
    let found = c.in-Ok.ensures.ok in
    let few : length c.args.room.now < length found.0 =
    omega (arith, c.if-room-count.true, c.count.ensures, found.1.fields.count) in
    inr (inl (refl, (parts_in v found.0, is-listing c.args.octets.now v found.0 found.1, few), refl))

pub returns-else-room-count : goal.returns-else-room-count
returns-else-room-count c =
    let s = c.args.octets.now in
    let v = c.in-Ok.found in
    let found = c.in-Ok.ensures.ok in
    inl (
      refl,
      record {
        manifest = parts_in v found.0;
        listing = is-listing s v found.0 found.1;
        few = omega (arith, c.if-room-count.false, c.count.ensures, found.1.fields.count);
        answer = c.names_differ.ensures found.0 (held s v found.0 found.1);
      },
    )
