use Rattle.std.proofs.Common.{refl}
use Rattle.std.proofs.lemmas.Bool.{iff_false}
use Rattle.rpki.specs.NameAttributes.{marked_attributes}
use Rattle.rpki_cert.specs.NameValues.{Permits}
use Rattle.rpki_cert.proofs.NameValueLaws.{none-yet, all-obeyed, one-more, is-one, of-parts, to-parts}
use Rattle.rpki_cert.proofs.profile.name_values.ValueRule.permits_name.Goals as goal

pub attributes-init : goal.attributes-init
attributes-init c =
    λ parts h. none-yet (Permits c.args.self) (marked_attributes parts) _ (c.attributes-rest.ensures.attributes parts h)

pub attributes-preserved : goal.attributes-preserved
attributes-preserved c =
    λ parts h.
    one-more (Permits c.args.self) (marked_attributes parts) c.attributes.rest (c.attributes.invariant parts h)
    c.in-Some.attribute c.next_attribute.new.self c.in-Some.ensures.given (c.permits.ensures.0 c.if-not-permits.false)

pub returns-then-not-permits : goal.returns-then-not-permits
returns-then-not-permits c = (
  λ z. absurd (let w = z in cc),
  λ g. absurd (iff_false c.permits.ensures c.if-not-permits.true
      (is-one (Permits c.args.self) (marked_attributes g.0) c.attributes.rest (c.attributes.invariant g.0 g.1)
      c.in-Some.attribute c.next_attribute.new.self c.in-Some.ensures.given
      (to-parts (Permits c.args.self) g.0 g.2))),
)

pub returns : goal.returns
returns c =
    let n = c.attributes-rest.ensures.named in (
      λ _. (
        n.0,
        n.1,
        of-parts (Permits c.args.self) n.0
            (all-obeyed (Permits c.args.self) (marked_attributes n.0) c.attributes.rest (c.attributes.invariant n.0 n.1)
            _ c.in_default.ensures.given),
      ),
      λ _. refl,
    )
