use Rattle.std.proofs.Common.{ℕ, List, Option, true, false}
use Rattle.std.specs.Option.{option_copied}
use Rattle.std.proofs.lemmas.Bool.{iff_false}
use Rattle.rpki_der.specs.Cursor.{left}
use Rattle.rpki_der.specs.TagName.{oid, sequence}
use Rattle.rpki_der.specs.Leaves.{IsOidOf}
use Rattle.rpki_der.specs.Parts.{Then}
use Rattle.rpki_der.specs.Values.{SpellsLeaf}
use Rattle.rpki_der.specs.Each.{SpellsSome}
use Rattle.rpki_der.proofs.EachLaws.{leaf-some}
use Rattle.rpki_der.proofs.LeafValueLaws.{leaf-shorter}
use Rattle.rpki_cert.specs.GeneralName.{SpellsName}
use Rattle.rpki_cert.specs.Access.{Through, SpellsDescription}
use Rattle.rpki_cert.specs.AccessInformation.{access_parts, joined, parts_of}
use Rattle.rpki_cert.proofs.GatherLaws.{gathers-all, gathers-on, gathers-none, gathers-end, gathers-nothing}
use Rattle.rpki_cert.proofs.InformationLaws.{kept, next-told, none-told, all-told}
use Rattle.rpki_x509.proofs.TriedLaws.{tried-all}
use Rattle.rpki_cert.proofs.extension.access_information.gather.Goals as goal

pub returns-then-is_empty-clause-gives : goal.returns-then-is_empty-clause-gives
returns-then-is_empty-clause-gives c =
    gathers-nothing SpellsDescription access_parts (left c.args.contents)
    (leaf-some sequence true (Then (SpellsLeaf oid false IsOidOf) SpellsName))
    (c.is_empty.ensures.0 c.if-is_empty.true)

pub descriptions-init : goal.descriptions-init
descriptions-init c = gathers-all SpellsDescription access_parts (left c.args.contents)
    (λ u. joined (parts_of c.empty-found.result) u) (none-told (parts_of c.empty-found.result) c.empty-found.ensures)

pub descriptions-smaller : goal.descriptions-smaller
descriptions-smaller c = leaf-shorter sequence true (Then (SpellsLeaf oid false IsOidOf) SpellsName) _ _ _
    c.in_ok-description.ensures.gives.spells

pub descriptions-preserved : goal.descriptions-preserved
descriptions-preserved c =
    let a = (kept c.descriptions.found.0 c.descriptions.found.1.0 c.descriptions.found.1.1.0
    c.descriptions.found.1.1.1.0 c.descriptions.found.1.1.1.1.0 c.descriptions.found.1.1.1.1.1.0
    c.descriptions.found.1.1.1.1.1.1.0) in
    let b = parts_of c.with-found.result in
    let x : List ℕ × Option (List ℕ) = (
      c.in_ok-description.description.0.0.now,
      option_copied c.in_ok-description.description.1,
    ) in
    gathers-on SpellsDescription access_parts (left c.args.contents) (λ u. joined a u) (λ u. joined b u) _ _ x
    (next-told a b x c.with-found.ensures) (iff_false c.is_empty-in-descriptions.ensures c.descriptions-test.true)
    c.descriptions.invariant c.in_ok-description.ensures.gives

pub returns-in_err-description-clause-gives : goal.returns-in_err-description-clause-gives
returns-in_err-description-clause-gives c =
    tried-all parts_of (Through access_parts (SpellsSome SpellsDescription)) _ (left c.args.contents) _
    c.from_residual.ensures
    (gathers-none SpellsDescription access_parts (left c.args.contents)
    (λ u. joined (kept c.descriptions.found.0 c.descriptions.found.1.0 c.descriptions.found.1.1.0
    c.descriptions.found.1.1.1.0 c.descriptions.found.1.1.1.1.0 c.descriptions.found.1.1.1.1.1.0
    c.descriptions.found.1.1.1.1.1.1.0) u) _ (iff_false c.is_empty-in-descriptions.ensures c.descriptions-test.true)
    c.descriptions.invariant
    c.in_err-description.ensures.gives)

pub returns-clause-gives : goal.returns-clause-gives
returns-clause-gives c =
    let a = (kept c.descriptions.found.0 c.descriptions.found.1.0 c.descriptions.found.1.1.0
    c.descriptions.found.1.1.1.0 c.descriptions.found.1.1.1.1.0 c.descriptions.found.1.1.1.1.1.0
    c.descriptions.found.1.1.1.1.1.1.0) in
    gathers-end SpellsDescription access_parts (left c.args.contents)
    (leaf-some sequence true (Then (SpellsLeaf oid false IsOidOf) SpellsName)) (λ u. joined a u) _ a
    (iff_false c.is_empty.ensures c.if-is_empty.false)
    (c.is_empty-in-descriptions.ensures.0 c.descriptions-test.false) c.descriptions.invariant (all-told a)
