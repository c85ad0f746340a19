use Rattle.std.proofs.Common.{inl, inr, subst, ◌≡◌, ◌-◌, ℕ, List, refl, arith, take, drop, length, length-drop}
use Rattle.std.proofs.lemmas.Result.{err_from_is_err_and}
use Rattle.std.proofs.lemmas.List.{length-take-le, take_all}
use Rattle.rpki_der.specs.NestedFault.{IsNestedFault}
use Rattle.rpki_der.proofs.MembersLaws.{value-some}
use Rattle.rpki_der.proofs.IndexLaws.{indexed-rest}
use Rattle.rpki_der.proofs.ListFaultLaws.{no-list}
use Rattle.rpki_der.proofs.from_values.index_values.Goals as goal

pub values-smaller : goal.values-smaller
values-smaller c =
    let h = c.in_ok-size.ensures in
    let rest : List ℕ = take (length c.args.octets.now - c.values.place) (drop c.values.place c.args.octets.now) in
    omega (arith, c.values-test.true, value-some h.accepted.0, length-take-le c.in_ok-size.size rest h.within)

pub values-preserved : goal.values-preserved
values-preserved c =
    let h = c.in_ok-size.ensures in
    let rest : take (length c.args.octets.now - c.values.place) (drop c.values.place c.args.octets.now) ≡ drop
    c.values.place c.args.octets.now =
    take_all (length c.args.octets.now - c.values.place) (drop c.values.place c.args.octets.now)
    (omega (arith, length-drop c.values.place c.args.octets.now)) in
    indexed-rest c.in_ok-size.size _ rest c.values.invariant h.within (h.kept refl)

pub returns-in_err-size-clause-refused : goal.returns-in_err-size-clause-refused
returns-in_err-size-clause-refused c =
    let rest : take (length c.args.octets.now - c.values.place) (drop c.values.place c.args.octets.now) ≡ drop
    c.values.place c.args.octets.now =
    take_all (length c.args.octets.now - c.values.place) (drop c.values.place c.args.octets.now)
    (omega (arith, length-drop c.values.place c.args.octets.now)) in
    let p = err_from_is_err_and c.from_residual.result c.from_residual.ensures.1 in
    rw (p.1, p.2) (λ list.
    elim c.in_err-size.ensures.refused [
      | inl h ↦ h.0
      | inr f ↦ absurd (no-list c.args.octets.now c.values.place _ _ c.values.invariant c.values-test.true
          (subst (λ (o : List ℕ). IsNestedFault o c.in_err-size.field-0.0) rest f) list)
    ])
