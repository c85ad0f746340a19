use Rattle.std.proofs.Common.{◌∙◌, subst, sym}
use Rattle.rpki.specs.Name.{IsName}
use Rattle.rpki_der.specs.Each.{SpellsEach}
use Rattle.rpki.specs.ExtensionValue.{SpellsExtension}
use Rattle.rpki_cert.proofs.read.view.CertView.inspected.Goals as goal

pub new-requires : goal.new-requires
new-requires c =
    let (s, x, h) = c.requires in
    subst IsName (sym h.tbs.named.issuer.octets) h.spelled.tbs.spelled.two.two.two.one.named

pub new-requires-2 : goal.new-requires-2
new-requires-2 c =
    let (s, x, h) = c.requires in
    subst IsName (sym h.tbs.named.subject.octets) h.spelled.tbs.spelled.two.two.two.two.two.one.named

pub returns : goal.returns
returns c = λ s x h.
    let n = h.tbs.named in
    let f = h.spelled.tbs.spelled.two.two.two in
    let each = subst (SpellsEach SpellsExtension x.tbs.extensions) (sym n.keyed.list_at)
    f.two.two.two.two.spelled.spelled.some.each in
    record {
      serial = h.tbs.serial;
      issuer = c.new.ensures ∙ n.issuer.octets;
      subject = c.new-2.ensures ∙ n.subject.octets;
      validity = n.validity;
      key = c.read_key.ensures ∙ n.keyed.same;
      extensions = each;
      values = c.of.ensures x.tbs.extensions each;
      access = rw (c.find.ensures x.tbs.extensions each) at c.information_in.ensures;
    }
