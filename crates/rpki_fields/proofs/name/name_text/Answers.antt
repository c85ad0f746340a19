use Rattle.std.proofs.Common.{drop, ap, ◌∙◌}
use Rattle.rpki.specs.NameAttributes.{marked_attributes}
use Rattle.rpki_fields.proofs.NameLaws.{none-written, more-written, all-written, contents-front, name-written}
use Rattle.rpki_fields.proofs.name.name_text.Goals as goal

pub attributes-init : goal.attributes-init
attributes-init c =
    λ parts h.
    none-written (marked_attributes parts) _ _ (c.attributes-rest.ensures.attributes parts (rw c.view.ensures h))
    c.new-text.ensures.items

pub push_attribute-requires : goal.push_attribute-requires
push_attribute-requires c =
    let n = c.attributes-rest.ensures.named in
    contents-front (marked_attributes n.0) c.attributes.rest c.attributes.text.items
    (c.attributes.invariant n.0 (rw c.view.ensures at n.1)) c.in-Some.attribute c.next_attribute.new.self
    c.in-Some.ensures.given

pub attributes-preserved : goal.attributes-preserved
attributes-preserved c =
    λ parts h.
    more-written (marked_attributes parts) c.attributes.rest c.attributes.text.items (c.attributes.invariant parts h)
    c.in-Some.attribute c.next_attribute.new.self c.in-Some.ensures.given c.push_attribute.new.text.items
    c.in_ok-push_attribute.ensures

pub returns : goal.returns
returns c =
    let n = rw c.view.ensures at c.attributes-rest.ensures.named in
    let all = all-written (marked_attributes n.0) c.attributes.rest c.attributes.text.items
    (c.attributes.invariant n.0 n.1) _ c.in_default.ensures.given in
    name-written c.args.name.now c.attributes.text.items _ n.0 n.1 all
    (c.in_ok-text.ensures.items ∙ c.after.ensures ∙ ap (drop 2) c.as_slice.ensures.value)
