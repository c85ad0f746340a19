use Rattle.std.proofs.Common.{◌∙◌, Bool, ap}
use Rattle.rpki.specs.Signature.{SignatureParts}
use Rattle.rpki.specs.SignedData.{parts_of}
use Rattle.rpki_cert.proofs.KeptLaws.{parts-of, data-stands, signature-stands, signed-is, tbs-of, same-of, well-formed}
use Rattle.rpki_cert.proofs.KeptLaws.{cert-is}
use Rattle.rpki_cert.proofs.cert.keep_cert.Goals as goal

pub kept-requires-clause-stands : goal.kept-requires-clause-stands
kept-requires-clause-stands g c =
    let (x, k) = c.requires.stands in
    let p = parts-of _ _ x k in
    rw c.rest-octets.ensures (data-stands _ _ x.signed p.0 p.1)

pub kept-requires-2-clause-stands : goal.kept-requires-2-clause-stands
kept-requires-2-clause-stands g c =
    let (x, k) = c.requires.stands in
    let p = parts-of _ _ x k in
    rw c.rest-octets.ensures (signature-stands _ _ x.signed p.0 p.1)

pub keep-requires-clause-stands : goal.keep-requires-clause-stands
keep-requires-clause-stands g c =
    let (x, k) = c.requires.stands in
    let p = parts-of _ _ x k in
    (x.tbs, tbs-of _ _ _ x k (c.as_slice.ensures ∙ c.in_ok-signed.ensures ∙ p.1.signed.octets))

pub invariant_of-result : goal.invariant_of-result
invariant_of-result g c =
    let (x, k) = c.requires.stands in
    let p = parts-of _ _ x k in
    let is = c.in_ok-signed.ensures ∙ p.1.signed.octets in
    let same = c.new-signed_data.ensures
    ∙ ap (λ (s : SignatureParts Bool). parts_of c.in_ok-signed.signed s.algorithm s.value) c.new.ensures
    ∙ signed-is x.signed _ _ _ is p.1.same (c.in_ok-value.ensures ∙ p.1.signature.octets) in
    well-formed x _ _ same (c.in_ok-tbs.ensures.ok x.tbs (tbs-of _ _ _ x k (c.as_slice.ensures ∙ is))) (same-of _ _ x k)

pub returns-clause-ok : goal.returns-clause-ok
returns-clause-ok g c = λ x k.
    let p = parts-of _ _ x k in
    let is = c.in_ok-signed.ensures ∙ p.1.signed.octets in
    let same = c.new-signed_data.ensures
    ∙ ap (λ (s : SignatureParts Bool). parts_of c.in_ok-signed.signed s.algorithm s.value) c.new.ensures
    ∙ signed-is x.signed _ _ _ is p.1.same (c.in_ok-value.ensures ∙ p.1.signature.octets) in
    cert-is x _ _ same (c.in_ok-tbs.ensures.ok x.tbs (tbs-of _ _ _ x k (c.as_slice.ensures ∙ is)))
