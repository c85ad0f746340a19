use Rattle.std.proofs.Common.{◌∙◌, true, ap, refl, subst}
use Rattle.rpki_cert.specs.Cert.{CertParts, TbsParts}
use Rattle.rpki_validation.specs.Met.{IsPlace}
use Rattle.rpki_validation.specs.Publication.{HasManifest}
use Rattle.rpki_validation.proofs.visit.reject_point.Goals as goal

pub returns : goal.returns
returns g c =
    let tbs = c.tbs.ensures ∙ ap (λ (x : CertParts). x.tbs) c.cert.ensures.value in (
      record { uri = c.in_ok-uri.uri; is_point = true; reason = c.args.reason },
      c.in_ok-push.ensures.items,
      record {
        whole = refl;
        place = subst (λ (t : TbsParts). IsPlace (HasManifest t) c.in_ok-uri.uri) tbs c.in_ok-uri.ensures;
        why = refl;
      },
    )
