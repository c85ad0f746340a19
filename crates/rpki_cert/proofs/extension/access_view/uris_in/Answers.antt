use Rattle.std.proofs.Common.{◌∙◌, None, refl, ap}
use Rattle.std.specs.Option.{option_or, option_copied}
use Rattle.std.proofs.lemmas.Bool.{iff_false}
use Rattle.rpki_der.specs.Cursor.{left}
use Rattle.rpki_der.specs.Each.{SpellsSome}
use Rattle.rpki_cert.specs.Access.{Through, SpellsUri, first_rsync}
use Rattle.rpki_cert.proofs.AccessLaws.{copied-or, or-none, next-rsync, uri-some, uri-shorter}
use Rattle.rpki_cert.proofs.GatherLaws.{gathers-all, gathers-on, gathers-none, gathers-end, gathers-nothing}
use Rattle.rpki_x509.proofs.TriedLaws.{tried-all}
use Rattle.rpki_cert.proofs.extension.access_view.uris_in.Goals as goal

pub returns-then-is_empty-clause-gives : goal.returns-then-is_empty-clause-gives
returns-then-is_empty-clause-gives c = gathers-nothing SpellsUri first_rsync (left c.args.contents) uri-some
    (c.is_empty.ensures.0 c.if-is_empty.true)

pub uris-init : goal.uris-init
uris-init c = gathers-all SpellsUri first_rsync (left c.args.contents) (λ u. option_or None u) (λ u. refl)

pub uris-smaller : goal.uris-smaller
uris-smaller c = uri-shorter _ _ _ c.in_ok-name.ensures.gives.spells

pub uris-preserved : goal.uris-preserved
uris-preserved c =
    let some = iff_false c.is_empty-in-uris.ensures c.uris-test.true in
    let a = option_copied c.uris.found in
    let v = option_copied c.in_ok-name.name in
    let b = option_copied c.or-found.result in
    let joined = ap option_copied c.or-found.ensures ∙ copied-or c.uris.found c.rsync_in.result in
    gathers-on SpellsUri first_rsync (left c.args.contents) (λ u. option_or a u) (λ u. option_or b u) _ _ v
    (next-rsync a v (option_copied c.rsync_in.result) b joined c.rsync_in.ensures) some c.uris.invariant
    c.in_ok-name.ensures.gives

pub returns-in_err-name-clause-gives : goal.returns-in_err-name-clause-gives
returns-in_err-name-clause-gives c =
    let some = iff_false c.is_empty-in-uris.ensures c.uris-test.true in
    tried-all option_copied (Through first_rsync (SpellsSome SpellsUri)) _ (left c.args.contents) _
    c.from_residual.ensures
    (gathers-none SpellsUri first_rsync (left c.args.contents) (λ u. option_or (option_copied c.uris.found) u) _ some
    c.uris.invariant c.in_err-name.ensures.gives)

pub returns-clause-gives : goal.returns-clause-gives
returns-clause-gives c =
    let a = option_copied c.uris.found in
    gathers-end SpellsUri first_rsync (left c.args.contents) uri-some (λ u. option_or a u) _ a
    (iff_false c.is_empty.ensures c.if-is_empty.false) (c.is_empty-in-uris.ensures.0 c.uris-test.false)
    c.uris.invariant (or-none a)
