use Rattle.std.proofs.Common.{inl, inr, refl}
use Rattle.rpki_der.specs.Prelude.{left, SpellsAnyValue, AtPart, Later}
use Rattle.rpki_der.proofs.ReadingLaws.{UnlessMemory-weaker}
use Rattle.rpki_der.proofs.ComposedLaws.{all-read, nothing-whole, nothing-after}
use Rattle.rpki_der.proofs.FirstFaultLaws.{tried-parts}
use Rattle.rpki.specs.Name.{IsAttribute}
use Rattle.rpki.specs.AnyValue.{SpellsAny}
use Rattle.rpki.specs.NameFault.{attribute_parts}
use Rattle.rpki.proofs.NameFaultLaws.{is-nothing}
use Rattle.rpki.proofs.NameLaws.{identified, unidentified, identified-value, no-value-where-nothing}
use Rattle.rpki.proofs.repository.x509.name.grammar.fn.skip_attribute.in_sequence.Goals as goal

pub returns-in_err-take_oid : goal.returns-in_err-take_oid
returns-in_err-take_oid c =
    let s = left c.args.contents.now in
    let e = c.in_err-take_oid.field-0.0 in
    let h = c.in_err-take_oid.ensures in
    tried-parts (λ u. tt) (SpellsAny IsAttribute) attribute_parts.fault s _ e _ c.from_residual.ensures (
      UnlessMemory-weaker e (λ none x k. unidentified s none k.0 k.1.identified) h.refuses,
      AtPart h.refuses h.kind,
    )

pub returns-in_err-skip_nested : goal.returns-in_err-skip_nested
returns-in_err-skip_nested c =
    let s = left c.args.contents.now in
    let m = left c.take_oid.new.self in
    let e = c.in_err-skip_nested.field-0.0 in
    let a = c.in_ok-take_oid.ensures in
    let h = c.in_err-skip_nested.ensures.1 in
    let f = c.from_residual-in_err-skip_nested.ensures in
    tried-parts (λ u. tt) (SpellsAny IsAttribute) attribute_parts.fault s _ e _ f (
      UnlessMemory-weaker e (λ none x k. nothing-whole SpellsAnyValue m none tt (identified-value s m _ a k.0 k.1))
          h.refuses,
      Later _ m a (inr (AtPart h.refuses h.kind)),
    )

pub returns-in-Some : goal.returns-in-Some
returns-in-Some c =
    let s = left c.args.contents.now in
    let m = left c.take_oid.new.self in
    let a = c.in_ok-take_oid.ensures in
    let h = rw c.in-Some.is at c.in_ok-skip_nested.ensures in (
      λ end. (
        (_, record { identified = (identified s m _ a).0; one = (all-read SpellsAnyValue m tt _ h.1 end).0 }),
        λ w
            k. refl,
      ),
      λ some. (
        λ x k. nothing-after SpellsAnyValue m _ tt h.1 some tt (identified-value s m _ a k.0 k.1),
        Later _ m a
            (inr (Later tt _ h.1 (some, refl))),
      ),
    )

pub returns-in-None : goal.returns-in-None
returns-in-None c =
    let s = left c.args.contents.now in
    let m = left c.take_oid.new.self in
    let h = rw c.in-None.is at c.in_ok-skip_nested.ensures in
    let a = c.in_ok-take_oid.ensures in
    rw c.content.ensures (
      λ x k. no-value-where-nothing m h.0 tt (identified-value s m _ a k.0 k.1),
      Later _ m a
          (inl (is-nothing m h.0, refl)),
    )
