use Rattle.std.proofs.Common.{false}
use Rattle.std.specs.Option.{option_copied}
use Rattle.rpki_der.specs.Cursor.{left}
use Rattle.rpki_der.specs.TagName.{oid}
use Rattle.rpki_der.specs.Leaves.{IsOidOf}
use Rattle.rpki_der.specs.Parts.{Then}
use Rattle.rpki_der.specs.Values.{SpellsLeaf}
use Rattle.rpki_cert.specs.GeneralName.{SpellsName}
use Rattle.rpki_cert.proofs.AccessLaws.{pair-first, pair-second, pair-more, pair-all}
use Rattle.rpki_cert.proofs.GeneralNameLaws.{name-refused}
use Rattle.rpki_cert.proofs.InformationLaws.{identifier-refused}
use Rattle.rpki_x509.proofs.TriedLaws.{tried-all}
use Rattle.rpki_cert.proofs.extension.access_information.description_in.Goals as goal

pub returns-in_err-method-clause-gives : goal.returns-in_err-method-clause-gives
returns-in_err-method-clause-gives c =
    let s = left c.args.contents in
    tried-all (λ d. (d.0.0.now, option_copied d.1)) (Then (SpellsLeaf oid false IsOidOf) SpellsName) _ s _
    c.from_residual.ensures
    (pair-first (SpellsLeaf oid false IsOidOf) SpellsName s
    (identifier-refused s _ c.in_err-method.field-0.0 c.in_err-method.ensures))

pub returns-in_err-name-clause-gives : goal.returns-in_err-name-clause-gives
returns-in_err-name-clause-gives c =
    let s = left c.args.contents in
    tried-all (λ d. (d.0.0.now, option_copied d.1)) (Then (SpellsLeaf oid false IsOidOf) SpellsName) _ s _
    c.from_residual-in_err-name.ensures
    (pair-second (SpellsLeaf oid false IsOidOf) SpellsName s _ _ c.in_ok-method.ensures
    (name-refused _ _ c.in_err-name.field-0.0 c.in_err-name.ensures))

pub returns-in_err-finish-clause-gives : goal.returns-in_err-finish-clause-gives
returns-in_err-finish-clause-gives c =
    let s = left c.args.contents in
    tried-all (λ d. (d.0.0.now, option_copied d.1)) (Then (SpellsLeaf oid false IsOidOf) SpellsName) _ s _
    c.from_residual-in_err-finish.ensures
    (pair-more (SpellsLeaf oid false IsOidOf) SpellsName s _ _ c.in_ok-method.ensures _ _ c.in_ok-name.ensures
    c.in_err-finish.ensures.1)

pub returns-clause-gives : goal.returns-clause-gives
returns-clause-gives c =
    pair-all (SpellsLeaf oid false IsOidOf) SpellsName (left c.args.contents) _ _ c.in_ok-method.ensures _ _
    c.in_ok-name.ensures c.in_ok-finish.ensures
