use Rattle.std.proofs.Common.{◌≡◌, Bool, true, false, refl}
use Rattle.std.specs.Prelude.{◌||◌}
use Rattle.std.proofs.lemmas.Bool.{iff_false}
use Rattle.rpki_der.specs.Cursor.{left}
use Rattle.rpki_der.specs.TagName.{oid}
use Rattle.rpki_der.proofs.EachLaws.{leaf-some}
use Rattle.rpki_der.proofs.LeafValueLaws.{leaf-shorter}
use Rattle.rpki_cert.specs.ExtensionContent.{router_purpose, SpellsPurpose, ArePurposes, has_router}
use Rattle.rpki_cert.specs.Access.{IsOidAs}
use Rattle.rpki_cert.proofs.GatherLaws.{gathers-all, gathers-on, gathers-none, gathers-end, gathers-nothing}
use Rattle.rpki_cert.proofs.AccessLaws.{oid-refused, or-joined, as-purposes, no-purposes}
use Rattle.rpki_x509.proofs.TriedLaws.{tried-all}
use Rattle.rpki_cert.proofs.extension.purposes.purposes_in.Goals as goal

pub returns-then-is_empty-clause-gives : goal.returns-then-is_empty-clause-gives
returns-then-is_empty-clause-gives c =
    no-purposes (left c.args.contents) (gathers-nothing SpellsPurpose has_router (left c.args.contents)
    (leaf-some oid false (IsOidAs router_purpose)) (c.is_empty.ensures.0 c.if-is_empty.true))

pub purposes-init : goal.purposes-init
purposes-init c = gathers-all SpellsPurpose has_router (left c.args.contents) (λ b. false || b) (λ b. refl)

pub purposes-smaller : goal.purposes-smaller
purposes-smaller c = leaf-shorter oid false (IsOidAs router_purpose) _ _ _ c.in_ok-found.ensures.spells

pub purposes-preserved : goal.purposes-preserved
purposes-preserved c =
    let some = iff_false c.is_empty-in-purposes.ensures c.purposes-test.true in
    gathers-on SpellsPurpose has_router (left c.args.contents) (λ b. c.purposes.router || b)
    (λ b. c.is_either-router.result || b) _ _ c.in_ok-found.found
    (λ zs. or-joined c.purposes.router c.in_ok-found.found c.is_either-router.result (has_router zs)
    c.is_either-router.ensures) some c.purposes.invariant c.in_ok-found.ensures

pub returns-in_err-found-clause-gives : goal.returns-in_err-found-clause-gives
returns-in_err-found-clause-gives c =
    let some = iff_false c.is_empty-in-purposes.ensures c.purposes-test.true in
    tried-all (λ b. b) ArePurposes _ (left c.args.contents) _ c.from_residual.ensures
    (no-purposes (left c.args.contents) (gathers-none SpellsPurpose has_router (left c.args.contents)
    (λ b. c.purposes.router || b) _ some c.purposes.invariant
    (oid-refused router_purpose _ _ c.in_err-found.field-0.0 c.in_err-found.ensures)))

pub returns-clause-gives : goal.returns-clause-gives
returns-clause-gives c =
    as-purposes (left c.args.contents) c.purposes.router
    (gathers-end SpellsPurpose has_router (left c.args.contents) (leaf-some oid false (IsOidAs router_purpose))
    (λ b. c.purposes.router || b) _ c.purposes.router (iff_false c.is_empty.ensures c.if-is_empty.false)
    (c.is_empty-in-purposes.ensures.0 c.purposes-test.false) c.purposes.invariant (or-false c.purposes.router))
  where
    or-false : (b : Bool) → (b || false) ≡ b
    or-false true = refl
    or-false false = refl
