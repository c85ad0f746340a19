use Rattle.std.proofs.Common.{ℕ, List, Option, None, [], ◌∷◌, true, false, refl}
use Rattle.std.proofs.lemmas.Bool.{iff_false}
use Rattle.std.specs.Prelude.{bytes_eq}
use Rattle.std.specs.Option.{option_or, option_copied}
use Rattle.rpki_der.specs.Prelude.{left, oid, sequence, IsOidOf, SpellsLeaf, Then}
use Rattle.rpki_der.proofs.EachLaws.{leaf-some}
use Rattle.rpki_der.proofs.LeafValueLaws.{leaf-shorter}
use Rattle.rpki_x509.proofs.FrameLaws.{refused}
use Rattle.rpki_cert.specs.Access.{SpellsDescription, ca_repository, chosen, first_rsync, named}
use Rattle.rpki_cert.specs.AccessDescription.{description, description_of}
use Rattle.rpki_cert.specs.GeneralName.{SpellsName}
use Rattle.rpki_cert.proofs.AccessLaws.{or-none, next-rsync}
use Rattle.rpki_cert.proofs.GatherLaws.{gathers-all, gathers-on, gathers-none, gathers-end, gathers-nothing}
use Rattle.rpki_c.specs.ListName.{first_folder}
use Rattle.rpki_c.proofs.CertificateLaws.{description-no-memory}
use Rattle.rpki_c.proofs.list_name.folders_in.Goals as goal

pub returns-then-is_empty : goal.returns-then-is_empty
returns-then-is_empty c =
    gathers-nothing SpellsDescription first_folder (left c.args.descriptions)
    (leaf-some sequence true (Then (SpellsLeaf oid false IsOidOf) SpellsName))
    (c.is_empty.ensures.0 c.if-is_empty.true)

pub folders-init : goal.folders-init
folders-init c =
    gathers-all SpellsDescription first_folder (left c.args.descriptions) (λ u. option_or None u) (λ u. refl)

pub folders-smaller : goal.folders-smaller
folders-smaller c =
    leaf-shorter sequence true (Then (SpellsLeaf oid false IsOidOf) SpellsName) _ _ _ c.in-Ok.ensures.spells

pub folders-preserved : goal.folders-preserved
folders-preserved c =
    let some = iff_false c.is_empty-in-folders.ensures c.folders-test.true in
    let a = option_copied c.folders.found in
    let x = description_of c.in-Ok.description in
    let v : Option (List ℕ) = chosen (bytes_eq x.0 ca_repository, x.1) in
    let b = option_copied c.rsync_or-found.result in
    gathers-on SpellsDescription first_folder (left c.args.descriptions) (λ u. option_or a u) (λ u. option_or b u) _ _
    x
    (λ zs. next-rsync a v (first_rsync (v ∷ [])) b (rw c.folder_of.ensures at c.rsync_or-found.ensures) refl
    (named ca_repository zs)) some c.folders.invariant c.in-Ok.ensures

pub returns-in-Err : goal.returns-in-Err
returns-in-Err c =
    let some = iff_false c.is_empty-in-folders.ensures c.folders-test.true in
    gathers-none SpellsDescription first_folder (left c.args.descriptions)
    (λ u. option_or (option_copied c.folders.found) u) _ some c.folders.invariant
    (refused SpellsDescription description.fault _ _ c.in-Err.e (λ k. description-no-memory _ k) c.in-Err.ensures)

pub returns : goal.returns
returns c =
    let a = option_copied c.folders.found in
    gathers-end SpellsDescription first_folder (left c.args.descriptions)
    (leaf-some sequence true (Then (SpellsLeaf oid false IsOidOf) SpellsName)) (λ u. option_or a u) _ a
    (iff_false c.is_empty.ensures c.if-is_empty.false) (c.is_empty-in-folders.ensures.0 c.folders-test.false)
    c.folders.invariant (or-none a)
