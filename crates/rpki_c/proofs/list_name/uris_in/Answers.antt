use Rattle.std.proofs.Common.{None, [], ◌∷◌, refl}
use Rattle.std.proofs.lemmas.Bool.{iff_false}
use Rattle.std.specs.Option.{option_or, option_copied}
use Rattle.rpki_der.specs.Prelude.{left}
use Rattle.rpki_cert.specs.Access.{SpellsUri, first_rsync}
use Rattle.rpki_cert.proofs.AccessLaws.{or-none, next-rsync, uri-some, uri-shorter}
use Rattle.rpki_cert.proofs.GatherLaws.{gathers-all, gathers-on, gathers-none, gathers-end, gathers-nothing}
use Rattle.rpki_c.proofs.list_name.uris_in.Goals as goal

pub returns-then-is_empty : goal.returns-then-is_empty
returns-then-is_empty c =
    gathers-nothing SpellsUri first_rsync (left c.args.names) uri-some (c.is_empty.ensures.0 c.if-is_empty.true)

pub uris-init : goal.uris-init
uris-init c = gathers-all SpellsUri first_rsync (left c.args.names) (λ u. option_or None u) (λ u. refl)

pub uris-smaller : goal.uris-smaller
uris-smaller c = uri-shorter _ _ _ c.in-Ok.ensures.spells

pub uris-preserved : goal.uris-preserved
uris-preserved c =
    let some = iff_false c.is_empty-in-uris.ensures c.uris-test.true in
    let a = option_copied c.uris.found in
    let v = option_copied c.in-Ok.name in
    let b = option_copied c.rsync_or-found.result in
    gathers-on SpellsUri first_rsync (left c.args.names) (λ u. option_or a u) (λ u. option_or b u) _ _ v
    (next-rsync a v (first_rsync (v ∷ [])) b c.rsync_or-found.ensures refl) some c.uris.invariant c.in-Ok.ensures

pub returns-in-Err : goal.returns-in-Err
returns-in-Err c =
    let some = iff_false c.is_empty-in-uris.ensures c.uris-test.true in
    gathers-none SpellsUri first_rsync (left c.args.names) (λ u. option_or (option_copied c.uris.found) u) _ some
    c.uris.invariant c.in-Err.ensures

pub returns : goal.returns
returns c =
    let a = option_copied c.uris.found in
    gathers-end SpellsUri first_rsync (left c.args.names) uri-some (λ u. option_or a u) _ a
    (iff_false c.is_empty.ensures c.if-is_empty.false) (c.is_empty-in-uris.ensures.0 c.uris-test.false)
    c.uris.invariant (or-none a)
