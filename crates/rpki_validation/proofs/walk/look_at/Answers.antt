use Rattle.std.proofs.Common.{refl}
use Rattle.rpki_validation.specs.Basis.{basis_of}
use Rattle.rpki_validation.proofs.BelowLaws.{looks-one, waits-below}
use Rattle.rpki_validation.proofs.NamedLaws.{ok-map}
use Rattle.rpki_validation.proofs.walk.look_at.Goals as goal

pub returns-clause-looks : goal.returns-clause-looks
returns-clause-looks g c =
    let p = g.P.Provider in
    let issuer = c.args.issuer.now in
    let visit = c.in_ok-visit.ensures in
    ok-map _ _ c.add_all.result (λ x adds published known.
    let held = visit.held published known in
    looks-one published (basis_of p issuer c.args.at) c.args.is_named issuer
    c.args.at refl c.in_ok-place.place (c.in_ok-place.ensures published known) c.new-below.result.items
    c.visit.new.below.items c.new-below.ensures.items c.args.waiting.now c.add_all.new.waiting c.args.outcome.now
    c.visit.new.outcome (visit.origins published known) (visit.providers published known)
    (visit.routers published known)
    (record { origins = held.origins; providers = held.providers; routers = held.routers })
    (visit.rejected published known) (visit.below published known) (visit.children published known) visit.sisters
    (adds published known)) c.add_all.ensures.all

pub returns-clause-waiting : goal.returns-clause-waiting
returns-clause-waiting g c =
    ok-map _ _ c.add_all.result (λ x only.
    waits-below c.args.issuer.now c.args.at c.new-below.result.items c.visit.new.below.items c.new-below.ensures.items
    c.args.waiting.now c.add_all.new.waiting c.in_ok-visit.ensures.sisters only) c.add_all.ensures.waiting
