use Rattle.std.proofs.Common.{List, [], ℕ, Option, Ok, Err, Result, ap, sym, subst, ◌∙◌}
use Rattle.rpki_cert.specs.Cert.{CertParts, TbsParts}
use Rattle.rpki_resources.specs.declared.block.Block.{Block}
use Rattle.rpki_validation.specs.declared.reason.Reason.{Reason}
use Rattle.rpki_validation.specs.declared.stop.Stop.{Stop}
use Rattle.rpki_validation.specs.declared.stop.Stop.TheVariants.{Rejected, OutOfMemory}
use Rattle.rpki_validation.specs.Finding.{Finds}
use Rattle.rpki_validation.specs.Met.{HasKeyMarks, IsPlace, IsPlaceIn}
use Rattle.rpki_validation.specs.Publication.{HasManifest, HasRepository, IsAt, IsNoManifestPlace, IsNoRepository}
use Rattle.rpki_validation.proofs.PlaceLaws.{placed-found, placed-none}
use Rattle.rpki_validation.proofs.met.place_mark_of.Goals as goal

-- where a URI was found, its place is that which is named
placed : (Has : List ℕ → Type 0) (Why : Reason → Type 0) (r : Result (List ℕ) Stop) (place : Option (List ℕ))
    → Finds (λ x. x) Has Why r → IsPlaceIn r place → IsPlace (IsAt Has) place
placed Has Why (Ok found) place h e = subst (IsPlace (IsAt Has)) (sym e) (placed-found Has found h)
placed Has Why (Err (Rejected reason)) place h e = subst (IsPlace (IsAt Has)) (sym e) (placed-none Has h.0)
placed Has Why (Err OutOfMemory) place h e = absurd e

pub returns : goal.returns
returns g c =
    let tbs = c.args.authority.now.cert.tbs in
    let is = c.tbs-tbs.ensures ∙ ap (λ (x : CertParts). x.tbs) c.cert.ensures.value in
    let own = subst (λ (t : TbsParts). HasKeyMarks t c.in_ok-name.name c.in_ok-name.bits c.in_ok-name.numbers.items) is
    c.in_ok-name.ensures in
    record {
      name = own.name;
      key = own.bits;
      folder = placed (HasRepository tbs) (IsNoRepository tbs) c.repository_of.result c.in_ok-folder.folder
          (subst (λ (t : TbsParts). Finds (λ x. x) (HasRepository t) (IsNoRepository t) c.repository_of.result) is
          c.repository_of.ensures) c.in_ok-folder.ensures;
      manifest = placed (HasManifest tbs) (IsNoManifestPlace tbs) c.manifest_place.result c.in_ok-manifest.manifest
          (subst (λ (t : TbsParts). Finds (λ x. x) (HasManifest t) (IsNoManifestPlace t) c.manifest_place.result) is
          c.manifest_place.ensures) c.in_ok-manifest.ensures;
      numbers = own.numbers;
      resources = ap (λ (l : List Block). (l, c.empty-2.result, c.empty-3.result)) c.empty.ensures
          ∙ ap (λ (l : List Block). ([], l, c.empty-3.result)) c.empty-2.ensures
          ∙ ap (λ (l : List Block). ([], [], l)) c.empty-3.ensures;
    }
