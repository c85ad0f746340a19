use Rattle.std.proofs.Common.{Bool, None, refl, subst, sym}
use Rattle.std.specs.Prelude.{IfOk}
use Rattle.rpki_validation.specs.Named.{IsFrom}
use Rattle.rpki_validation.proofs.walk.place_of.Goals as goal

pub returns-then-is_named : goal.returns-then-is_named
returns-then-is_named g c = λ published known.
    let issuer = c.args.issuer.now in
    let h = rw (c.strictness-strict.ensures, c.tbs.ensures, c.cert.ensures.value) at
    (c.place_by_manifest.ensures published known) in
    subst (λ (b : Bool). IfOk c.place_by_manifest.result
    (IsFrom published issuer.terms.strictness.attributes b issuer.cert)) (sym c.if-is_named.true) h

pub returns : goal.returns
returns g c = λ published known.
    let issuer = c.args.issuer.now in
    subst (λ (b : Bool). IsFrom published issuer.terms.strictness.attributes b issuer.cert None)
    (sym c.if-is_named.false) refl
