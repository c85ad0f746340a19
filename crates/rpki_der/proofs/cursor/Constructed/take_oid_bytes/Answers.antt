use Rattle.std.proofs.Common.{false, refl, sym, []}
use Rattle.std.proofs.lemmas.Bool.{iff_false}
use Rattle.rpki_der.specs.Cursor.{left}
use Rattle.rpki_der.specs.Leaves.{IsOidOf}
use Rattle.rpki_der.specs.declared.error.DecodeError.TheVariants.{OutOfMemory}
use Rattle.rpki_der.specs.Format.{kept}
use Rattle.rpki_der.specs.LeafFormats.{any_oid}
use Rattle.rpki_der.specs.Reading.{Finds}
use Rattle.rpki_der.specs.TagName.{oid}
use Rattle.rpki_der.proofs.KeepLaws.{contents-stand}
use Rattle.rpki_der.proofs.LeavesLaws.{leaf-refused, leaf-accepted, leaf-malformed}
use Rattle.rpki_der.proofs.ReadingLaws.{Refusal-or-memory-where}
use Rattle.rpki_der.proofs.TriedLaws.{tried-refused}
use Rattle.rpki_der.proofs.cursor.Constructed.take_oid_bytes.Goals as goal

pub returns-in_err-contents : goal.returns-in_err-contents
returns-in_err-contents g c =
    let e = c.in_err-contents.field-0.0 in
    tried-refused _ _ _ _ _ _ _ c.from_residual.ensures
    (Refusal-or-memory-where (Finds any_oid.spells) any_oid.fault _ _ e (λ z. absurd z)
    (leaf-refused oid false IsOidOf _ _ _ e refl c.in_err-contents.ensures))

pub returns-then-not-is_oid : goal.returns-then-not-is_oid
returns-then-not-is_oid g c =
    let none = rw c.rest.ensures at (iff_false c.is_oid.ensures c.if-not-is_oid.true) in
    Refusal-or-memory-where (Finds any_oid.spells) any_oid.fault _ _ _ (λ z. absurd z)
    (leaf-malformed oid false IsOidOf _ (left c.in_ok-contents.contents) _ _ _ _ c.content.ensures refl
    c.in_ok-contents.ensures (λ v h. none h.1))

pub returns-in_err-bytes : goal.returns-in_err-bytes
returns-in_err-bytes g c =
    let is = rw c.rest.ensures at (c.is_oid.ensures.0 c.if-not-is_oid.false) in
    let a = leaf-accepted oid false IsOidOf _ (left c.in_ok-contents.contents) _ (left c.in_ok-contents.contents)
    c.in_ok-contents.ensures (refl, is) (λ w h. sym h.0) in
    tried-refused _ (kept any_oid).spells (kept any_oid).fault _ _ OutOfMemory _ c.from_residual-in_err-bytes.ensures
    (record { unchanged = refl; refuses = tt; kind = (_, _, a.spells) })

pub returns : goal.returns
returns g c =
    let is = rw c.rest.ensures at (c.is_oid.ensures.0 c.if-not-is_oid.false) in
    rw (c.in_ok-bytes.ensures, c.rest-2.ensures) (leaf-accepted oid false IsOidOf _ (left c.in_ok-contents.contents) _
    (left c.in_ok-contents.contents) c.in_ok-contents.ensures (refl, is) (λ w h. sym h.0))

pub keep_part-requires-clause-stands : goal.keep_part-requires-clause-stands
keep_part-requires-clause-stands g c =
    rw c.rest-2.ensures (contents-stand oid false _ _ _ [] _ c.in_ok-contents.ensures.spells refl)
