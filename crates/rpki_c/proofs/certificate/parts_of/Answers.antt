use Rattle.std.proofs.Common.{◌∙◌, ap}
use Rattle.rpki_c.specs.Key.{format_number}
use Rattle.rpki_c.proofs.MomentLaws.{moment}
use Rattle.rpki_c.proofs.CertificateLaws.{times}
use Rattle.rpki_c.proofs.certificate.parts_of.Goals as goal

pub returns : goal.returns
returns c =
    let x = c.requires.0 in
    let at = c.requires.1 in
    let p = at.parts in
    let n = at.tbs.named in
    let k = n.keyed in
    let period = times x c.args.octets.now at.spelled in
    let from = c.not_before.ensures ∙ ap (λ v. v.not_before) n.validity in
    let upto = c.not_after.ensures ∙ ap (λ v. v.not_after) n.validity in
    record {
      cert = x;
      spelled = at.spelled;
      signed = c.of.ensures ∙ p.signed.octets;
      algorithm = c.of-2.ensures ∙ p.algorithm.octets;
      parameters = c.has_parameters.ensures ∙ p.same;
      signature = c.of-3.ensures ∙ p.signature.octets;
      serial = c.into_array.ensures.value ∙ at.tbs.serial;
      not_before = moment c.moment_of.ensures from period.not_before;
      not_after = moment c.moment_of-2.ensures upto period.not_after;
      named = record {
        issuer = c.of-4.ensures ∙ n.issuer.octets;
        subject = c.of-5.ensures ∙ n.subject.octets;
        key = c.of-6.ensures ∙ k.key_at.octets;
        extensions = c.of-7.ensures ∙ c.octets.ensures ∙ k.list_at;
      };
      format = c.format_number.ensures ∙ ap format_number (c.algorithm.ensures ∙ ap (λ y. y.format) k.same);
      unused = c.unused.ensures.value ∙ ap (λ y. y.bits.unused) k.same;
    }
