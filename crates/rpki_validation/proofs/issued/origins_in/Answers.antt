use Rattle.rpki_x509.proofs.TriedLaws.{tried-fault}
use Rattle.rpki_objects.specs.TypedObject.{origin_object}
use Rattle.rpki_valid.specs.Processed.{KeepsOriginRules, BreaksOriginRules}
use Rattle.rpki_valid.specs.Verified.{verified_by}
use Rattle.rpki_validation.proofs.IssuedLaws.{origin-broken}
use Rattle.rpki_validation.proofs.StepLaws.{object-found, object-invalid, object-malformed}
use Rattle.rpki_validation.proofs.issued.origins_in.Goals as goal

pub returns-in_err-roa : goal.returns-in_err-roa
returns-in_err-roa g c =
    let s = c.args.list.now in
    let v = verified_by g.P.Provider s.issuer in
    let none = rw (c.strictness.ensures, c.issuer.ensures.value) at c.in_err-roa.ensures in
    tried-fault _ _ _ _ c.from_residual.ensures
    (object-malformed v s.at c.issuer.ensures.issued.period s.list
    (origin_object s.issuer.terms.strictness) KeepsOriginRules
    BreaksOriginRules origin-broken c.args.octets _ none)

pub returns-in_err-process_roa : goal.returns-in_err-process_roa
returns-in_err-process_roa g c =
    let s = c.args.list.now in
    let v = verified_by g.P.Provider s.issuer in
    let read = rw (c.strictness.ensures, c.issuer.ensures.value) at c.in_ok-roa.ensures in
    tried-fault _ _ _ _ c.from_residual-in_err-process_roa.ensures
    (object-invalid v s.at c.issuer.ensures.issued.period s.list
    (origin_object s.issuer.terms.strictness) KeepsOriginRules
    BreaksOriginRules origin-broken c.args.octets c.in_ok-roa.roa read _ c.in_err-process_roa.ensures.exactly)

pub returns : goal.returns
returns g c =
    let s = c.args.list.now in
    let v = verified_by g.P.Provider s.issuer in
    let read = rw (c.strictness.ensures, c.issuer.ensures.value) at c.in_ok-roa.ensures in
    object-found v s.at c.issuer.ensures.issued.period s.list
    (origin_object s.issuer.terms.strictness) KeepsOriginRules BreaksOriginRules
    origin-broken c.args.octets c.in_ok-roa.roa read _ c.in_ok-process_roa.ensures.exactly
