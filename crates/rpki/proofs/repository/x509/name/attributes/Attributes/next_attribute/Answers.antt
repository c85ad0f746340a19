use Rattle.std.proofs.Common.{◌≢◌, [], arith}
use Rattle.std.proofs.lemmas.Bool.{iff_false}
use Rattle.rpki_der.specs.Cursor.{left}
use Rattle.rpki.proofs.NameAttributeLaws.{next-within, gives-next, left-next, takes-octets, none-given}
use Rattle.rpki.proofs.repository.x509.name.attributes.Attributes.next_attribute.Goals as goal

pub invariant_of-self : goal.invariant_of-self
invariant_of-self c =
    let some : left c.self.inside.attributes ≢ [] = iff_false c.is_empty.ensures c.if-is_empty.false in
    let k = c.self.invariant in
    left-next _ (left c.self.inside.attributes) _ c.in-Some.attribute _ c.in-Some.ensures.some k.0
    (next-within (left c.self.inside.attributes) (left c.self.inside.relatives) k.0 some k.1)

pub returns-in-Some-clause-given : goal.returns-in-Some-clause-given
returns-in-Some-clause-given c =
    let some : left c.self.inside.attributes ≢ [] = iff_false c.is_empty.ensures c.if-is_empty.false in
    rw (← c.self.view_is) (λ xs h.
    gives-next _ (left c.self.inside.attributes) _ c.in-Some.attribute _ c.in-Some.ensures.some xs
    (next-within (left c.self.inside.attributes) (left c.self.inside.relatives) xs some h))

pub returns-in-Some-clause-shorter : goal.returns-in-Some-clause-shorter
returns-in-Some-clause-shorter c =
    let some : left c.self.inside.attributes ≢ [] = iff_false c.is_empty.ensures c.if-is_empty.false in
    let k = c.self.invariant in
    let less = takes-octets _ (left c.self.inside.attributes) (left c.self.inside.relatives) c.in-Some.attribute _
    c.in-Some.ensures.some k.0
    (next-within (left c.self.inside.attributes) (left c.self.inside.relatives) k.0 some k.1) in
    rw (← c.self.view_is) (omega (arith, less))

pub returns-in-None-clause-given : goal.returns-in-None-clause-given
returns-in-None-clause-given c =
    let some : left c.self.inside.attributes ≢ [] = iff_false c.is_empty.ensures c.if-is_empty.false in
    rw (← c.self.view_is) (λ xs h. absurd (
    none-given _ (left c.self.inside.attributes) _ xs c.in-None.ensures.none
    (next-within (left c.self.inside.attributes) (left c.self.inside.relatives) xs some h)))
