use Rattle.std.proofs.Common.{inl, inr, refl, ◌∙◌, sym, subst, arith}
use Rattle.rpki_crl.specs.Crl.{each_entry, listed}
use Rattle.rpki_c.proofs.BelowLaws.{list-told}
use Rattle.rpki_c.specs.Authority.{IsMadeWith}
use Rattle.rpki_c.proofs.ObjectLaws.{entries-spelled}
use Rattle.rpki_c.proofs.PathLaws.{list-path}
use Rattle.rpki_c.proofs.authority_list.rpki_authority_list.Goals as goal

pub returns-in-Err-read : goal.returns-in-Err-read
returns-in-Err-read c =
    let (x, h) = c.in-Ok.ensures.ok in
    let q = c.in-Err-read.field-0 in
    inr (λ is. omega (arith, is), inr (x, h.spelled, inl (refl, q.part, (q.error, c.in-Err-read.ensures.err))), refl)

pub returns-then-status-ne0 : goal.returns-then-status-ne0
returns-then-status-ne0 c =
    let (x, h) = c.in-Ok.ensures.ok in
    let (y, k) = c.in-Ok-read.ensures.ok in
    let told = c.list_told-status.ensures c.args.octets.now c.args.by.now.certificate.octets.now x y h k in
    inr (c.if-status-ne0.true, inr (x, h.spelled, inr (y, k.spelled, told)), refl)

pub returns : goal.returns
returns c =
    let (x, h) = c.in-Ok.ensures.ok in
    let (y, k) = c.in-Ok-read.ensures.ok in
    let told = c.list_told-status.ensures c.args.octets.now c.args.by.now.certificate.octets.now x y h k in
    let (at, is, of) = list-told x y c.args.by.now.moment (rw c.if-status-ne0.false at told) in
    let o = h.spelled.stands.list.spelled.two.two.two.two in
    let made : IsMadeWith c.args.by.now c.args.octets.now _ =
    record {
      list = x;
      spelled = h.spelled;
      issuer = y;
      above = k.spelled;
      at = at;
      moment = is;
      of = of;
      revoked =
          subst (each_entry.spells (listed x.list.revoked)) (sym (c.of.ensures ∙ h.tbs.revoked.octets))
          (entries-spelled x.list.revoked x.list.extensions o.second o.two);
      digest = c.sha256.ensures;
      same = refl;
    } in
    inl (refl, made, list-path c.args.by.now c.args.octets.now _ made)
