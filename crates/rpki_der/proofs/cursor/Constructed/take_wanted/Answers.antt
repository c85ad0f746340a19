use Rattle.std.proofs.Common.{arith, refl, ◌≤◌, ◌<◌, length, inr}
use Rattle.std.proofs.lemmas.Bool.{iff_false}
use Rattle.rpki_der.specs.Cursor.{left}
use Rattle.rpki_der.specs.Wanted.{IsWanted}
use Rattle.rpki_der.proofs.ReadingLaws.{UnlessMemory-from}
use Rattle.rpki_der.proofs.TriedLaws.{tried-refused}
use Rattle.rpki_der.proofs.WantedLaws.{flat-none, flat-kind, flat-unwanted, flat-too-long, flat-cut, is-flat}
use Rattle.rpki_der.proofs.cursor.Constructed.take_wanted.Goals as goal

pub returns-in_err-header : goal.returns-in_err-header
returns-in_err-header c =
    let h = c.in_err-header.ensures.err in
    let e = c.in_err-header.field-0.0 in
    tried-refused _ _ _ _ _ _ _ c.from_residual.ensures (record {
      unchanged = refl;
      refuses = UnlessMemory-from e (flat-none (IsWanted c.args.wanted) (left c.args.self.now) h.0);
      kind = flat-kind (IsWanted c.args.wanted) (left c.args.self.now) e h.1;
    })

pub returns-then-not-is_wanted : goal.returns-then-not-is_wanted
returns-then-not-is_wanted c =
    let found = c.header.inside in
    let h = rw (← c.header.view_is) at c.in_ok-header.ensures.ok in
    let other = iff_false c.is_wanted.ensures c.if-not-is_wanted.true in
    record {
      unchanged = refl;
      refuses =
          flat-unwanted (IsWanted c.args.wanted) (left c.args.self.now) found.header (left found.following) h other;
      kind = (found.header, left found.following, h.spells, other);
    }

pub returns-then-len-length : goal.returns-then-len-length
returns-then-len-length c =
    let found = c.header.inside in
    let h = rw (← c.header.view_is) at c.in_ok-header.ensures.ok in
    let size = c.len.ensures in
    let short : length (left found.following) < found.header.length = omega arith in
    record {
      unchanged = refl;
      refuses =
          flat-too-long (IsWanted c.args.wanted) (left c.args.self.now) found.header (left found.following) h short;
      kind = inr (flat-cut (IsWanted c.args.wanted) (left c.args.self.now) found.header (left found.following) h.spells
          (c.is_wanted.ensures.0 c.if-not-is_wanted.false) short);
    }

pub returns : goal.returns
returns c =
    let found = c.header.inside in
    let h = rw (← c.header.view_is) at c.in_ok-header.ensures.ok in
    let size = c.len.ensures in
    let fits : found.header.length ≤ length (left found.following) = omega arith in
    rw (c.split_at.ensures.front, c.split_at.ensures.following)
    (is-flat (IsWanted c.args.wanted) (left c.args.self.now) found.header (left found.following) h
    (c.is_wanted.ensures.0 c.if-not-is_wanted.false) fits)
