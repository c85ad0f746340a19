use Rattle.std.proofs.Common.{◌∙◌, sym}
use Rattle.rpki_text.proofs.EqualLaws.{same-from-parts, same-parts}
use Rattle.rpki_validation.specs.Point.{NamesItsList}
use Rattle.rpki_validation.proofs.ListNameLaws.{names-at, names-none, unlisted-names}
use Rattle.rpki_validation.proofs.NamedLaws.{not-so}
use Rattle.rpki_validation.proofs.list_name.names_its_list.Goals as goal

pub returns-in_default : goal.returns-in_default
returns-in_default c =
    not-so (NamesItsList c.args.publication.now)
    (unlisted-names c.args.publication.now c.in_ok-uri.field-0 c.in_ok-uri.ensures c.in_default.is)

pub returns-in-Some-2 : goal.returns-in-Some-2
returns-in-Some-2 c =
    let named = rw (c.tbs.ensures, c.cert.ensures, c.object.ensures, c.manifest.ensures) at c.in_ok-other.ensures in
    names-at c.args.publication.now c.in_ok-uri.field-0 c.in_ok-uri.ensures c.in_ok-other.field-0 named _ _
    c.in-Some.is c.in-Some-2.is c.eq.result (λ e. same-parts _ _ (sym c.eq.ensures ∙ e))
    (λ e. c.eq.ensures ∙ same-from-parts _ _ e)

pub returns : goal.returns
returns c =
    let named = rw (c.tbs.ensures, c.cert.ensures, c.object.ensures, c.manifest.ensures) at c.in_ok-other.ensures in
    not-so (NamesItsList c.args.publication.now)
    (names-none c.args.publication.now c.in_ok-uri.field-0 c.in_ok-uri.ensures c.in_ok-other.field-0 named
    c.in-None.is)
