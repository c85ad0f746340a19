use Rattle.std.proofs.Common.{[]}
use Rattle.std.proofs.lemmas.Bool.{iff_false}
use Rattle.rpki_der.specs.Cursor.{left}
use Rattle.rpki_der.specs.TagName.{sequence}
use Rattle.rpki_resources.proofs.UnreadLaws.{not-around, no-first-value, no-first-named, only-v6, behind-v6, only-v4}
use Rattle.rpki_resources.proofs.UnreadLaws.{both-families, no-second-family}
use Rattle.rpki_resources.proofs.frames.find_families.Goals as goal

pub returns-in_default-clause-none : goal.returns-in_default-clause-none
returns-in_default-clause-none c = no-first-value (left c.args.octets) [] []
    (not-around sequence (left c.args.octets) _ c.in_default.field-0 c.in_default.ensures)

pub returns-in_default-find_named-clause-none : goal.returns-in_default-find_named-clause-none
returns-in_default-find_named-clause-none c =
    no-first-named (left c.args.octets) (left c.in-Ok.first) (left c.take_sequence.new.self) c.in-Ok.ensures
    c.in_default-find_named.ensures.none

pub returns-then-is_empty-clause-some : goal.returns-then-is_empty-clause-some
returns-then-is_empty-clause-some c = only-v6 (left c.args.octets) (left c.in-Ok.first) (left c.take_sequence.new.self)
    c.in-Ok.ensures c.in-Some.family c.in-Some.choice c.in-Some.ensures.some c.in-Ipv6.is
    (c.is_empty.ensures.0 c.if-is_empty.true)

pub returns-else-is_empty-clause-none : goal.returns-else-is_empty-clause-none
returns-else-is_empty-clause-none c = behind-v6 (left c.args.octets) (left c.in-Ok.first)
    (left c.take_sequence.new.self) c.in-Ok.ensures c.in-Some.family c.in-Some.choice c.in-Some.ensures.some
    c.in-Ipv6.is (iff_false c.is_empty.ensures c.if-is_empty.false)

pub returns-then-is_empty-2-clause-some : goal.returns-then-is_empty-2-clause-some
returns-then-is_empty-2-clause-some c = only-v4 (left c.args.octets) (left c.in-Ok.first)
    (left c.take_sequence.new.self) c.in-Ok.ensures c.in-Some.family c.in-Some.choice c.in-Some.ensures.some
    c.in-Ipv4.is (c.is_empty-in-Ipv4.ensures.0 c.if-is_empty-2.true)

pub returns-in-Some-find_second-clause-some : goal.returns-in-Some-find_second-clause-some
returns-in-Some-find_second-clause-some c = both-families (left c.args.octets) (left c.in-Ok.first)
    (left c.take_sequence.new.self) c.in-Ok.ensures c.in-Some.family c.in-Some.choice c.in-Some.ensures.some
    c.in-Ipv4.is (iff_false c.is_empty-in-Ipv4.ensures c.if-is_empty-2.false) c.in-Some-find_second.second
    c.in-Some-find_second.ensures.some

pub returns-in-None-clause-none : goal.returns-in-None-clause-none
returns-in-None-clause-none c = no-second-family (left c.args.octets) (left c.in-Ok.first)
    (left c.take_sequence.new.self) c.in-Ok.ensures c.in-Some.family c.in-Some.choice c.in-Some.ensures.some
    (iff_false c.is_empty-in-Ipv4.ensures c.if-is_empty-2.false) c.in-None.ensures.none
