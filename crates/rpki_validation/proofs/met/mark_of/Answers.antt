use Rattle.std.proofs.Common.{◌∙◌, List, ℕ, Option, Ok, Err, Result, ap, sym, subst}
use Rattle.rpki_cert.specs.Cert.{CertParts, TbsParts}
use Rattle.rpki_validation.specs.declared.reason.Reason.{Reason}
use Rattle.rpki_validation.specs.declared.stop.Stop.{Stop}
use Rattle.rpki_validation.specs.declared.stop.Stop.TheVariants.{Rejected, OutOfMemory}
use Rattle.rpki_validation.specs.Finding.{Finds}
use Rattle.rpki_validation.specs.Met.{HasKeyMarks, IsPlace, IsUriIn, kinds_of}
use Rattle.rpki_validation.specs.Publication.{HasManifest, HasRepository, IsNoManifestPlace, IsNoRepository}
use Rattle.rpki_validation.proofs.PlaceLaws.{place-found, place-none}
use Rattle.rpki_validation.proofs.met.mark_of.Goals as goal

-- where a URI was found, it is that which is named
named : (Has : List ℕ → Type 0) (Why : Reason → Type 0) (r : Result (List ℕ) Stop) (place : Option (List ℕ))
    → Finds (λ x. x) Has Why r → IsUriIn r place → IsPlace Has place
named Has Why (Ok found) place h e = subst (IsPlace Has) (sym e) (place-found Has found h)
named Has Why (Err (Rejected reason)) place h e = subst (IsPlace Has) (sym e) (place-none Has h.0)
named Has Why (Err OutOfMemory) place h e = absurd e

pub returns-clause-mark : goal.returns-clause-mark
returns-clause-mark g c =
    let tbs = c.args.authority.now.cert.tbs in
    let is = c.tbs-tbs.ensures ∙ ap (λ (x : CertParts). x.tbs) c.cert.ensures.value in
    let own = subst (λ (t : TbsParts). HasKeyMarks t c.in_ok-name.name c.in_ok-name.bits c.in_ok-name.numbers.items) is
    c.in_ok-name.ensures in
    record {
      name = own.name;
      key = own.bits;
      folder = named (HasRepository tbs) (IsNoRepository tbs) c.repository_of.result c.in_ok-folder.folder
          (subst (λ (t : TbsParts). Finds (λ x. x) (HasRepository t) (IsNoRepository t) c.repository_of.result) is
          c.repository_of.ensures) c.in_ok-folder.ensures;
      manifest = named (HasManifest tbs) (IsNoManifestPlace tbs) c.manifest_place.result c.in_ok-manifest.manifest
          (subst (λ (t : TbsParts). Finds (λ x. x) (HasManifest t) (IsNoManifestPlace t) c.manifest_place.result) is
          c.manifest_place.ensures) c.in_ok-manifest.ensures;
      numbers = own.numbers;
      resources = c.in_ok-resources.ensures ∙ ap kinds_of c.resources.ensures;
    }
