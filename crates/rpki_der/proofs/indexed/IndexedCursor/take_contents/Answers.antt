use Rattle.std.proofs.Common.{arith, refl, ◌≤◌, ◌<◌, length, inr}
use Rattle.std.proofs.lemmas.Bool.{iff_false}
use Rattle.rpki_der.specs.IndexedCursor.{indexed_left}
use Rattle.rpki_der.specs.WantedValue.{IsFormed}
use Rattle.rpki_der.proofs.ReadingLaws.{UnlessMemory-from}
use Rattle.rpki_der.proofs.WantedLaws.{flat-none, flat-kind, flat-unwanted, flat-too-long, flat-cut, is-flat}
use Rattle.rpki_der.proofs.WantedLaws.{formed-found, formed-refusal}
use Rattle.rpki_der.proofs.indexed.IndexedCursor.take_contents.Goals as goal

pub returns-in-Err : goal.returns-in-Err
returns-in-Err c =
    let h = c.in-Err.ensures.err in
    let s = indexed_left c.args.self.now in
    let W = IsFormed c.args.tag c.args.constructed in
    formed-refusal c.args.tag c.args.constructed s s c.in-Err.e (record {
      unchanged = refl;
      refuses = UnlessMemory-from c.in-Err.e (flat-none W s h.0);
      kind = flat-kind W s c.in-Err.e h.1;
    })

pub returns-then-not-names : goal.returns-then-not-names
returns-then-not-names c =
    let h = c.in-Ok.ensures.ok in
    let s = indexed_left c.args.self.now in
    let other = iff_false c.names.ensures c.if-not-names.true in
    formed-refusal c.args.tag c.args.constructed s s _ (record {
      unchanged = refl;
      refuses = flat-unwanted (IsFormed c.args.tag c.args.constructed) s c.in-Ok.found.0 (indexed_left c.in-Ok.found.1)
          h other;
      kind = (c.in-Ok.found.0, indexed_left c.in-Ok.found.1, h.spells, other);
    })

pub returns-then-len-length : goal.returns-then-len-length
returns-then-len-length c =
    let h = c.in-Ok.ensures.ok in
    let s = indexed_left c.args.self.now in
    let W = IsFormed c.args.tag c.args.constructed in
    let size = c.len.ensures in
    let short : length (indexed_left c.in-Ok.found.1) < c.in-Ok.found.0.length = omega arith in
    formed-refusal c.args.tag c.args.constructed s s _ (record {
      unchanged = refl;
      refuses = flat-too-long W s c.in-Ok.found.0 (indexed_left c.in-Ok.found.1) h short;
      kind = inr (flat-cut W s c.in-Ok.found.0 (indexed_left c.in-Ok.found.1) h.spells
          (c.names.ensures.0 c.if-not-names.false) short);
    })

pub returns : goal.returns
returns c =
    let h = c.in-Ok.ensures.ok in
    let W = IsFormed c.args.tag c.args.constructed in
    let size = c.len.ensures in
    let fits : c.in-Ok.found.0.length ≤ length (indexed_left c.in-Ok.found.1) = omega arith in
    let found = is-flat W (indexed_left c.args.self.now) c.in-Ok.found.0 (indexed_left c.in-Ok.found.1) h
    (c.names.ensures.0 c.if-not-names.false) fits in
    rw (c.split_at.ensures.front, c.split_at.ensures.following)
    (formed-found c.args.tag c.args.constructed (indexed_left c.args.self.now) _ _ found)
