use Rattle.std.proofs.Common.{◌≡◌, [], arith}
use Rattle.rpki_der.specs.Cursor.{left}
use Rattle.rpki.proofs.NameAttributeLaws.{next-begins, next-none, gives-next, left-next, takes-octets, none-given}
use Rattle.rpki.proofs.NameAttributeLaws.{set-shorter}
use Rattle.rpki.proofs.repository.x509.name.attributes.Attributes.begin_relative.Goals as goal

pub returns-in-Err-clause-given : goal.returns-in-Err-clause-given
returns-in-Err-clause-given c =
    let end : left c.self.inside.attributes ≡ [] = rw (← c.self.view_is) at c.requires in
    rw (← c.self.view_is) (λ xs h.
    next-none (left c.self.inside.attributes) (left c.self.inside.relatives) _ _ xs end c.in-Err.ensures h)

pub invariant_of-self : goal.invariant_of-self
invariant_of-self c =
    let end : left c.self.inside.attributes ≡ [] = rw (← c.self.view_is) at c.requires in
    let k = c.self.invariant in
    left-next _ (left c.in-Ok.attributes) _ c.in-Some.attribute _ c.in-Some.ensures.some k.0
    (next-begins (left c.self.inside.attributes) (left c.self.inside.relatives) _ _ k.0 end c.in-Ok.ensures k.1)

pub returns-in-Some-clause-given : goal.returns-in-Some-clause-given
returns-in-Some-clause-given c =
    let end : left c.self.inside.attributes ≡ [] = rw (← c.self.view_is) at c.requires in
    rw (← c.self.view_is) (λ xs h.
    gives-next _ (left c.in-Ok.attributes) _ c.in-Some.attribute _ c.in-Some.ensures.some xs
    (next-begins (left c.self.inside.attributes) (left c.self.inside.relatives) _ _ xs end c.in-Ok.ensures h))

pub returns-in-Some-clause-shorter : goal.returns-in-Some-clause-shorter
returns-in-Some-clause-shorter c =
    let end : left c.self.inside.attributes ≡ [] = rw (← c.self.view_is) at c.requires in
    let k = c.self.invariant in
    let less = takes-octets _ (left c.in-Ok.attributes) _ c.in-Some.attribute _ c.in-Some.ensures.some k.0
    (next-begins (left c.self.inside.attributes) (left c.self.inside.relatives) _ _ k.0 end c.in-Ok.ensures k.1) in
    let set = set-shorter (left c.self.inside.relatives) _ _ c.in-Ok.ensures.spells in
    rw (← c.self.view_is) (omega (arith, less, set))

pub returns-in-None-clause-given : goal.returns-in-None-clause-given
returns-in-None-clause-given c =
    let end : left c.self.inside.attributes ≡ [] = rw (← c.self.view_is) at c.requires in
    rw (← c.self.view_is) (λ xs h. absurd (
    none-given _ (left c.in-Ok.attributes) _ xs c.in-None.ensures.none
    (next-begins (left c.self.inside.attributes) (left c.self.inside.relatives) _ _ xs end c.in-Ok.ensures h)))
