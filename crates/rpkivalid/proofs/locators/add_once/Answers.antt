use Rattle.std.proofs.Common.{refl, sym, ◌∙◌}
use Rattle.rpkivalid.specs.LocatorsView.{OfOther}
use Rattle.rpkivalid.proofs.locators.add_once.Goals as goal

pub returns-clause-next : goal.returns-clause-next
returns-clause-next g c = λ _. (c.in_ok-named.named, c.in_ok-named.ensures.ok, c.in_ok-push.ensures.items)

pub returns-then-is_named-clause-err : goal.returns-then-is_named-clause-err
returns-then-is_named-clause-err g c =
    OfOther refl (sym c.is_among.ensures ∙ c.if-is_among.false)
    (rw (c.name_of.ensures, c.as_slice.ensures.value) at (sym c.is_named.ensures ∙ c.if-is_named.true))
