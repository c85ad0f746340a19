use Rattle.std.proofs.Common.{true}
use Rattle.std.specs.Option.{option_copied}
use Rattle.rpki_der.specs.Each.{SpellsSome}
use Rattle.rpki_cert.specs.Access.{Through, first_rsync, SpellsUri, SpellsFullName, SpellsPointName, context_0}
use Rattle.rpki_cert.proofs.GatherLaws.{leaf-all, leaf-none, leaf-nothing}
use Rattle.rpki_x509.proofs.TriedLaws.{tried-all}
use Rattle.rpki_cert.proofs.extension.access_view.point_name.Goals as goal

pub returns-in_err-name-clause-gives : goal.returns-in_err-name-clause-gives
returns-in_err-name-clause-gives c =
    tried-all option_copied SpellsPointName _ _ _ c.from_residual.ensures
    (leaf-none context_0 true SpellsFullName _ (rw c.new-tag.ensures at c.in_err-name.ensures.gives))

pub returns-in_err-contents-clause-gives : goal.returns-in_err-contents-clause-gives
returns-in_err-contents-clause-gives c =
    tried-all option_copied SpellsPointName _ _ _ c.from_residual-in_err-contents.ensures
    (leaf-nothing context_0 true SpellsFullName _ _ (rw c.new-tag.ensures at c.in_ok-name.ensures.gives)
    (leaf-none context_0 true (Through first_rsync (SpellsSome SpellsUri)) _
    (rw c.new-tag.ensures at c.in_err-contents.ensures.gives)))

pub returns-clause-gives : goal.returns-clause-gives
returns-clause-gives c =
    leaf-all context_0 true SpellsFullName _ option_copied _ c.uris_in.result
    (rw c.new-tag.ensures at c.in_ok-name.ensures.gives)
    (leaf-all context_0 true (Through first_rsync (SpellsSome SpellsUri)) _ option_copied _ c.uris_in.result
    (rw c.new-tag.ensures at c.in_ok-contents.ensures.gives) c.uris_in.ensures.gives)
