use Rattle.std.proofs.Common.{◌++◌, [], ◌∷◌}
use Rattle.std.proofs.lemmas.Bool.{iff_false}
use Rattle.rpki_attributes.specs.SignedAttributes.{attribute_of}
use Rattle.rpki_attributes.proofs.AttributesFaultLaws.{list-at, list-nothing, list-whole, one-more}
use Rattle.rpki_attributes.proofs.TogetherLaws.Begins.{NoneYet}
use Rattle.rpki_attributes.proofs.fault.list_fault.Goals as goal

pub attributes-init : goal.attributes-init
attributes-init c = ([], NoneYet)

pub attributes-preserved : goal.attributes-preserved
attributes-preserved c = (
  c.attributes.invariant.0 ++ attribute_of c.in-Ok.field-0 ∷ [],
  one-more _ _ _ c.attributes.invariant.0 _ c.attributes.invariant.1 c.in-Ok.ensures,
)

pub returns-in-Err-clause-some : goal.returns-in-Err-clause-some
returns-in-Err-clause-some c =
    list-at _ _ _ _ _ c.attributes.invariant.1 (iff_false c.is_empty.ensures c.attributes-test.true) c.in-Err.ensures

pub returns-in-Err-clause-nothing : goal.returns-in-Err-clause-nothing
returns-in-Err-clause-nothing c =
    list-nothing _ _ _ _ _ c.attributes.invariant.1 (iff_false c.is_empty.ensures c.attributes-test.true)
    c.in-Err.ensures

pub returns-clause-none : goal.returns-clause-none
returns-clause-none c =
    list-whole _ _ _ c.attributes.invariant.1 (c.is_empty.ensures.0 c.attributes-test.false)
