use Rattle.std.proofs.Common.{[], refl}
use Rattle.std.proofs.lemmas.Result.{err_from_is_err_and}
use Rattle.rpki_der.specs.TagName.{sequence}
use Rattle.rpki_der.proofs.ComposedLaws.{spelled-whole}
use Rattle.rpki.specs.Name.{SpellsSome, SpellsRelative, SpellsName}
use Rattle.rpki.specs.StrictName.{attributes}
use Rattle.rpki.specs.NameTable.{name_table}
use Rattle.rpki.specs.InspectionView.{IsStringOf}
use Rattle.rpki.proofs.InspectionLaws.{no-contents, these-contents, first-rule, nothing-found, found-nameless}
use Rattle.rpki.proofs.InspectionLaws.{found-strict, has_seen, unseen, first-is-common}
use Rattle.rpki.proofs.repository.x509.name.inspection.Profile.inspect.Goals as goal

pub returns-in-Err : goal.returns-in-Err
returns-in-Err gen c =
    let n = c.requires in
    absurd (no-contents sequence (SpellsSome SpellsRelative) (gen.C.Cursor.octets_left c.args.name) _ _
    c.in-Err.ensures n.0 [] (spelled-whole SpellsName (gen.C.Cursor.octets_left c.args.name) n.0 n.1))

pub returns-in_err-found : goal.returns-in_err-found
unfolding has_seen
returns-in_err-found gen c =
    let p = err_from_is_err_and c.from_residual.result c.from_residual.ensures.1 in
    let n = c.requires in
    let k = these-contents sequence (SpellsSome SpellsRelative) (gen.C.Cursor.octets_left c.args.name) _ _
    c.in-Ok.ensures n.0 [] (spelled-whole SpellsName (gen.C.Cursor.octets_left c.args.name) n.0 n.1) in
    rw (p.1, p.2) (
      n.0,
      n.1,
      first-rule name_table (IsStringOf c.args.self) c.in_err-found.field-0.0 _ (attributes n.0) (unseen _ refl)
          (c.in_err-found.ensures n.0 k.1),
    )

pub returns-then-not-found : goal.returns-then-not-found
unfolding has_seen
returns-then-not-found gen c =
    let n = c.requires in
    let k = these-contents sequence (SpellsSome SpellsRelative) (gen.C.Cursor.octets_left c.args.name) _ _
    c.in-Ok.ensures n.0 [] (spelled-whole SpellsName (gen.C.Cursor.octets_left c.args.name) n.0 n.1) in
    let all =
    c.in_ok-found.ensures n.0 k.1 [] (nothing-found name_table (IsStringOf c.args.self) _ (unseen _ refl)) in (
      n.0,
      n.1,
      found-nameless name_table (IsStringOf c.args.self) c.in_ok-found.found (attributes n.0) 0 all first-is-common
          c.if-not-found.true,
    )

pub returns : goal.returns
unfolding has_seen
returns gen c =
    let n = c.requires in
    let k = these-contents sequence (SpellsSome SpellsRelative) (gen.C.Cursor.octets_left c.args.name) _ _
    c.in-Ok.ensures n.0 [] (spelled-whole SpellsName (gen.C.Cursor.octets_left c.args.name) n.0 n.1) in
    let all =
    c.in_ok-found.ensures n.0 k.1 [] (nothing-found name_table (IsStringOf c.args.self) _ (unseen _ refl)) in (
      n.0,
      n.1,
      found-strict name_table (IsStringOf c.args.self) c.in_ok-found.found (attributes n.0) 0 all first-is-common
          c.if-not-found.false,
    )
