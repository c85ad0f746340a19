use Rattle.rpki_x509.proofs.TriedLaws.{tried-fault}
use Rattle.rpki_objects.specs.TypedObject.{aspa_object}
use Rattle.rpki_valid.specs.Processed.{KeepsAspaRules, BreaksAspaRules}
use Rattle.rpki_valid.specs.Verified.{verified_by}
use Rattle.rpki_validation.proofs.IssuedLaws.{aspa-broken}
use Rattle.rpki_validation.proofs.StepLaws.{object-found, object-invalid, object-malformed}
use Rattle.rpki_validation.proofs.issued.providers_in.Goals as goal

pub returns-in_err-aspa : goal.returns-in_err-aspa
returns-in_err-aspa g c =
    let s = c.args.list.now in
    let v = verified_by g.P.Provider s.issuer in
    let none = rw (c.strictness.ensures, c.issuer.ensures.value) at c.in_err-aspa.ensures in
    tried-fault _ _ _ _ c.from_residual.ensures
    (object-malformed v s.at c.issuer.ensures.issued.period s.list
    (aspa_object s.issuer.terms.strictness.attributes) KeepsAspaRules
    BreaksAspaRules aspa-broken c.args.octets _ none)

pub returns-in_err-process_aspa : goal.returns-in_err-process_aspa
returns-in_err-process_aspa g c =
    let s = c.args.list.now in
    let v = verified_by g.P.Provider s.issuer in
    let read = rw (c.strictness.ensures, c.issuer.ensures.value) at c.in_ok-aspa.ensures in
    tried-fault _ _ _ _ c.from_residual-in_err-process_aspa.ensures
    (object-invalid v s.at c.issuer.ensures.issued.period s.list
    (aspa_object s.issuer.terms.strictness.attributes) KeepsAspaRules
    BreaksAspaRules aspa-broken c.args.octets c.in_ok-aspa.aspa read _ c.in_err-process_aspa.ensures.exactly)

pub returns : goal.returns
returns g c =
    let s = c.args.list.now in
    let v = verified_by g.P.Provider s.issuer in
    let read = rw (c.strictness.ensures, c.issuer.ensures.value) at c.in_ok-aspa.ensures in
    object-found v s.at c.issuer.ensures.issued.period s.list
    (aspa_object s.issuer.terms.strictness.attributes) KeepsAspaRules BreaksAspaRules
    aspa-broken c.args.octets c.in_ok-aspa.aspa read _ c.in_ok-process_aspa.ensures.exactly
