use Rattle.std.proofs.Common.{◌∙◌, ap, sym, subst}
use Rattle.rpki.specs.SignedData.{SignedParts}
use Rattle.std.specs.Prelude.{Bool}
use Rattle.rpki_crl.specs.Crl.{each_entry, listed}
use Rattle.rpki_c.proofs.ObjectLaws.{entries-spelled}
use Rattle.rpki_c.proofs.MomentLaws.{moment}
use Rattle.rpki_c.proofs.crl.list_of.Goals as goal

pub returns : goal.returns
returns c =
    let x = c.requires.0 in
    let at = c.requires.1 in
    let h = at.spelled in
    let p = at.parts in
    let t = at.tbs in
    let same = sym h.stands.same in
    let f = h.stands.list.spelled.two.two in
    let o = f.two.two in
    record {
      list = x;
      spelled = h;
      signed = c.of.ensures ∙ p.signed.octets ∙ ap (λ (q : SignedParts Bool). q.signed) same;
      algorithm = c.of-2.ensures ∙ p.algorithm.octets;
      parameters = c.has_parameters.ensures ∙ p.same ∙ ap (λ (q : SignedParts Bool). q.algorithm) same;
      signature = c.of-3.ensures ∙ p.signature.octets ∙ ap (λ (q : SignedParts Bool). q.value) same;
      issuer = c.of-4.ensures ∙ t.issuer.octets;
      revoked =
          subst (each_entry.spells (listed x.list.revoked)) (sym (c.of-5.ensures ∙ t.revoked.octets))
          (entries-spelled x.list.revoked x.list.extensions o.second o.two);
      this_update = moment c.moment_of.ensures t.this_update f.two.one;
      next_update = moment c.moment_of-2.ensures t.next_update o.one;
      number = c.into_array.ensures.value ∙ ap (λ e. e.number) t.extensions;
      authority = c.from.ensures ∙ ap (λ e. e.authority) t.extensions;
    }
