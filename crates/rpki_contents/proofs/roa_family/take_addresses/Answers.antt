use Rattle.std.proofs.Common.{refl}
use Rattle.std.proofs.lemmas.Bool.{iff_false}
use Rattle.rpki_der.specs.Prelude.{sequence, around}
use Rattle.rpki_der.proofs.ChoiceLaws.{such-read, such-refused, such-nothing}
use Rattle.rpki_der.proofs.TriedLaws.{tried-refused}
use Rattle.rpki_resources.specs.Address.{width}
use Rattle.rpki_contents.specs.RoaAddress.{IsSome, each_address, addresses}
use Rattle.rpki_resources.proofs.ThenByLaws.{stayed}
use Rattle.rpki_contents.proofs.roa_family.take_addresses.Goals as goal

pub returns-in_err-found : goal.returns-in_err-found
returns-in_err-found c =
    let w = width c.args.family in
    tried-refused (λ v. v.items) (addresses w).spells (addresses w).fault _ _ _ _ c.from_residual.ensures
    (stayed (such-refused IsSome (around sequence (each_address w)) c.in_err-found.ensures))

pub returns-then-are_none : goal.returns-then-are_none
returns-then-are_none c =
    let w = width c.args.family in
    let empty = (rw c.as_slice.ensures.value at c.are_none.ensures).0 c.if-are_none.true in
    rw c.content.ensures
    (such-nothing IsSome (around sequence (each_address w)) _ refl c.in_ok-found.ensures (λ v h. h.1 empty))

pub returns : goal.returns
returns c =
    let w = width c.args.family in
    let some = iff_false (rw c.as_slice.ensures.value at c.are_none.ensures) c.if-are_none.false in
    such-read IsSome (around sequence (each_address w)) c.in_ok-found.found.items c.in_ok-found.ensures (refl, some)
    (λ v h. h.0)
