use Rattle.std.proofs.Common.{◌∙◌, Bool, ap, sym}
use Rattle.rpki.specs.SignedData.{SignedParts}
use lib.Pointwise.{bytes_decides}
use Rattle.rpki_validation.specs.Named.{IsCertAt}
use Rattle.rpki_validation.proofs.NamedLaws.{cert-at, none-at, not-so, other-at}
use Rattle.rpki_validation.proofs.named.is_cert_at.Goals as goal

pub returns-in_default : goal.returns-in_default
returns-in_default g c = λ published known.
    not-so (IsCertAt published c.args.cert.now c.args.uri.now)
    (none-at published c.args.cert.now c.args.uri.now c.in_ok-octets.field-0 (c.in_ok-octets.ensures published known)
    c.in_default.is)

pub returns-in-Ok : goal.returns-in-Ok
returns-in-Ok g c = λ published known.
    let there = c.data.ensures.slice ∙ ap (λ (s : SignedParts Bool). s.signed) c.signed_data.ensures in
    let own = c.data-in-Ok.ensures.slice ∙ ap (λ (s : SignedParts Bool). s.signed) c.signed_data-in-Ok.ensures in
    cert-at published c.args.cert.now c.args.uri.now c.in_ok-octets.field-0 (c.in_ok-octets.ensures published known)
    c.in-Some.octets c.in-Some.is c.in-Ok.there c.in-Ok.ensures c.eq.result
    (λ e. sym there ∙ (bytes_decides _ _).0 (sym c.eq.ensures ∙ e) ∙ own)
    (λ e. c.eq.ensures ∙ (bytes_decides _ _).1 (there ∙ e ∙ sym own))

pub returns : goal.returns
returns g c = λ published known.
    let none = rw c.in-Err-Rejected.field-0-is at c.in-Err-Rejected.ensures in
    not-so (IsCertAt published c.args.cert.now c.args.uri.now)
    (other-at published c.args.cert.now c.args.uri.now c.in_ok-octets.field-0 (c.in_ok-octets.ensures published known)
    c.in-Some.octets c.in-Some.is none.0)
