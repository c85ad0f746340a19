use Rattle.std.proofs.lemmas.Bool.{false≢true}
use Rattle.rpki_x509.proofs.NestedLaws.{nested-refuses, value-all, value-nothing, value-nowhere}
use Rattle.rpki_x509.proofs.nested.is_value.Goals as goal

pub returns-in-Ok-Some : goal.returns-in-Ok-Some
returns-in-Ok-Some c =
    let a = rw c.in-Ok-Some.field-0-is at c.in-Ok-Some.ensures in
    let h = value-all _ _ a.1 in
    let t = rw c.from_slice-rest.ensures at h in
    (λ z. t.0 (c.is_empty.ensures.0 z), λ one. c.is_empty.ensures.1 (t.1 one))

pub returns-in-Ok-None : goal.returns-in-Ok-None
returns-in-Ok-None c =
    let t = rw (c.in-Ok-None.field-0-is, c.from_slice-rest.ensures) at c.in-Ok-None.ensures in
    (λ z. absurd (false≢true z), λ one. absurd (value-nothing _ t.0 one))

pub returns-in-Err : goal.returns-in-Err
returns-in-Err c =
    let none = nested-refuses _ _ c.in-Err.field-0 c.in-Err.ensures.1 in
    let t = rw c.from_slice-rest.ensures at none in
    (λ z. absurd (false≢true z), λ one. absurd (value-nowhere _ t one))
