use Rattle.std.proofs.Common.{◌≡◌, ◌==◌, ◌∙◌, true, false, length, sym}
use Rattle.rpkivalid.specs.Found.{basis_with}
use Rattle.rpkivalid.specs.RequestView.{asked_of}
use Rattle.rpkivalid.proofs.ComparedLaws.{why-none, why-told}
use Rattle.rpkivalid.proofs.compared.why.Goals as goal

pub returns-then-is_empty-clause-told : goal.returns-then-is_empty-clause-told
returns-then-is_empty-clause-told g c =
    let none : (length c.as_slice.result.now == 0) ≡ true = sym c.is_empty.ensures ∙ c.if-is_empty.true in
    why-none (basis_with g.P.Provider
    c.args.crypto.now c.args.request.now.strictness c.args.at c.args.depth) (g.S.Sources.holds c.args.host.now)
    (asked_of c.args.request.now) c.args.alone c.args.alone.items c.new.result.items
    (rw c.as_slice.ensures.value at none) c.new.ensures.items

pub returns-clause-told : goal.returns-clause-told
returns-clause-told g c =
    let some : (length c.as_slice.result.now == 0) ≡ false = sym c.is_empty.ensures ∙ c.if-is_empty.false in
    why-told (basis_with g.P.Provider
    c.args.crypto.now c.args.request.now.strictness c.args.at c.args.depth) (g.S.Sources.holds c.args.host.now)
    (asked_of c.args.request.now) c.args.alone c.args.alone.items c.in_ok-told.told.text.items
    c.in_ok-told.told.have_anchors (rw c.as_slice.ensures.value at some) c.in_ok-told.ensures.told
