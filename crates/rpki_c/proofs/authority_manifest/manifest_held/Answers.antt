use Rattle.std.proofs.Common.{◌<◌, length, inl, inr, refl, sym, arith}
use Rattle.std.proofs.lemmas.Bool.{iff_false, false≢true}
use Rattle.rpki_contents.specs.ManifestView.{file_in, parts_in}
use Rattle.rpki_c.proofs.BelowLaws.{holds-between, told-between}
use Rattle.rpki_c.proofs.ListingLaws.{other-listed, unlisted}
use Rattle.rpki_c.proofs.ObjectLaws.{is-listing, held}
use Rattle.rpki_c.proofs.authority_manifest.manifest_held.Goals as goal

pub returns-then-room-count : goal.returns-then-room-count
returns-then-room-count c =
    let v = c.in-Ok.found in
    let found = c.in-Ok.ensures.ok in
    let few : length c.args.room.now < length found.0 =
    omega (arith, c.if-room-count.true, c.count.ensures, found.1.fields.count) in
    inr (parts_in v found.0, is-listing c.args.octets.now v found.0 found.1, inl (refl, few))

pub returns-then-not-names_differ : goal.returns-then-not-names_differ
returns-then-not-names_differ c =
    let s = c.args.octets.now in
    let v = c.in-Ok.found in
    let found = c.in-Ok.ensures.ok in
    let differ = c.names_differ.ensures found.0 (held s v found.0 found.1) in
    inr (
      parts_in v found.0,
      is-listing s v found.0 found.1,
      inr (inl (refl, iff_false differ c.if-not-names_differ.true)),
    )

pub returns-in_default : goal.returns-in_default
returns-in_default c =
    let s = c.args.octets.now in
    let v = c.in-Ok.found in
    let found = c.in-Ok.ensures.ok in
    let none = c.in_default.ensures found.0 (held s v found.0 found.1) in
    inr (
      parts_in v found.0,
      is-listing s v found.0 found.1,
      inr (inr (inl (refl, unlisted found.0 c.args.by.now.list_digest none))),
    )

pub returns-then-not-has_hash : goal.returns-then-not-has_hash
returns-then-not-has_hash c =
    let s = c.args.octets.now in
    let v = c.in-Ok.found in
    let found = c.in-Ok.ensures.ok in
    let list = c.in-Some.ensures found.0 (held s v found.0 found.1) in
    inr (
      parts_in v found.0,
      is-listing s v found.0 found.1,
      inr (inr (inl (
        refl,
        other-listed found.0 c.args.by.now.list_digest c.in-Some.list list
            (iff_false c.has_hash.ensures c.if-not-has_hash.true),
      ))),
    )

pub returns-in_default-time_of : goal.returns-in_default-time_of
returns-in_default-time_of c =
    let v = c.in-Ok.found in
    let found = c.in-Ok.ensures.ok in
    inr (
      parts_in v found.0,
      is-listing c.args.octets.now v found.0 found.1,
      inr (inr (inr (inl (refl, λ is. false≢true (c.in_default-time_of.ensures.succeeds.1 is))))),
    )

pub returns-then-told-ne0 : goal.returns-then-told-ne0
returns-then-told-ne0 c =
    let v = c.in-Ok.found in
    let found = c.in-Ok.ensures.ok in
    let told = told-between c.new-period.result v.this_update v.next_update c.in-Some-time_of.time c.told_of-told.result
    c.new-period.ensures.not_before c.new-period.ensures.not_after c.told_of-told.ensures in
    inr (
      parts_in v found.0,
      is-listing c.args.octets.now v found.0 found.1,
      inr (inr (inr (inr (c.in-Some-time_of.time, c.in-Some-time_of.ensures.value, c.if-told-ne0.true, told)))),
    )

pub returns : goal.returns
returns c =
    let s = c.args.octets.now in
    let v = c.in-Ok.found in
    let found = c.in-Ok.ensures.ok in
    let told = told-between c.new-period.result v.this_update v.next_update c.in-Some-time_of.time c.told_of-told.result
    c.new-period.ensures.not_before c.new-period.ensures.not_after c.told_of-told.ensures in
    let files = held s v found.0 found.1 in
    record {
      held = record {
        content = parts_in v found.0;
        listing = is-listing s v found.0 found.1;
        distinct = (c.names_differ.ensures found.0 files).0 c.if-not-names_differ.false;
        list = record {
          file = file_in c.in-Some.list;
          listed = sym (c.in-Some.ensures found.0 files);
          same = c.has_hash.ensures.0 c.if-not-has_hash.false;
        };
        at = c.in-Some-time_of.time;
        moment = c.in-Some-time_of.ensures.value;
        now = holds-between v.this_update v.next_update c.in-Some-time_of.time (rw c.if-told-ne0.false at told);
      };
      files = rw (c.of.ensures, c.octets.ensures) files.files;
      list = refl;
    }
