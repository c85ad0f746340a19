use Rattle.std.proofs.Common.{refl}
use Rattle.rpki_c.proofs.certificate_extensions.extensions_of.Goals as goal

pub returns : goal.returns
returns c =
    let s = c.args.octets.now in
    let (x, h, known) = c.requires in
    record {
      cert = x;
      spelled = h.spelled;
      constraints = c.extension_of.ensures s x h;
      subject = c.extension_of-2.ensures s x h;
      authority = c.extension_of-3.ensures s x h;
      usage = c.extension_of-4.ensures s x h;
      purposes = c.extension_of-5.ensures s x h;
      points = c.extension_of-6.ensures s x h;
      issuer_access = c.extension_of-7.ensures s x h;
      subject_access = c.extension_of-8.ensures s x h;
      policies = c.extension_of-9.ensures s x h;
      addresses = c.extension_of-10.ensures s x h;
      addresses_v2 = c.extension_of-11.ensures s x h;
      numbers = c.extension_of-12.ensures s x h;
      numbers_v2 = c.extension_of-13.ensures s x h;
      said = c.args.known;
      known = known;
      ca = refl;
      purpose = c.usage_number.ensures;
      policy = c.policy_number.ensures;
      subject_key = c.octets_of.ensures;
      authority_key = c.octets_of-2.ensures;
    }
