use Rattle.std.proofs.Common.{true}
use Rattle.std.specs.Option.{option_copied}
use Rattle.rpki_der.specs.TagName.{sequence}
use Rattle.rpki_cert.specs.Access.{SpellsPointName, SpellsPoint, SpellsPoints}
use Rattle.rpki_cert.proofs.GatherLaws.{leaf-all, leaf-none, leaf-nothing}
use Rattle.rpki_x509.proofs.TriedLaws.{tried-all}
use Rattle.rpki_cert.proofs.extension.access_view.read_points.Goals as goal

pub returns-in_err-points-clause-gives : goal.returns-in_err-points-clause-gives
returns-in_err-points-clause-gives c = tried-all option_copied SpellsPoints _ _ _ c.from_residual.ensures
    (leaf-none sequence true SpellsPoint _ c.in_err-points.ensures.gives)

pub returns-in_err-point-clause-gives : goal.returns-in_err-point-clause-gives
returns-in_err-point-clause-gives c =
    tried-all option_copied SpellsPoints _ _ _ c.from_residual-in_err-point.ensures
    (leaf-nothing sequence true SpellsPoint _ _ c.in_ok-points.ensures.gives
    (leaf-none sequence true SpellsPointName _ c.in_err-point.ensures.gives))

pub returns-clause-gives : goal.returns-clause-gives
returns-clause-gives c =
    leaf-all sequence true SpellsPoint _ option_copied _ c.point_name.result c.in_ok-points.ensures.gives
    (leaf-all sequence true SpellsPointName _ option_copied _ c.point_name.result c.in_ok-point.ensures.gives
    c.point_name.ensures.gives)
