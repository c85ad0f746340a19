-- What is where an authority publishes is one thing.
use Rattle.std.proofs.Common.{◌≡◌, ◌∙◌, ℕ, Bool, List, Option, Some, None, sym, subst}
use Rattle.rpki_der.proofs.ReadingLaws.{UnlessMemory-weaker}
use Rattle.rpki_der.specs.declared.error.DecodeError.{DecodeError}
use Rattle.rpki_der.specs.Prelude.{Format, IsWholeFault, SpellsNothing, UnlessMemory}
use Rattle.rpki_text.specs.RsyncText.{RsyncUri, uri_of}
use Rattle.rpki_cert.specs.Cert.{TbsParts}
use Rattle.rpki_contents.specs.ListedFile.{ListedFile}
use Rattle.rpki_contents.specs.Manifest.{ManifestParts}
use Rattle.rpki_crl.specs.Crl.{CrlParts, crl}
use Rattle.rpki_objects.specs.TypedObject.{TypedParts, manifest_object}
use Rattle.rpki_validation.specs.declared.reason.Reason.{Reason}
use Rattle.rpki_validation.specs.declared.reason.Reason.TheVariants.{Missing, NoList}
use Rattle.rpki_validation.specs.declared.stop.Stop.{Stop}
use Rattle.rpki_validation.specs.declared.stop.Stop.TheVariants.{Rejected}
use Rattle.rpki_validation.specs.Finding.{IsSole, StopsAt, stop_of}
use Rattle.rpki_validation.specs.Publication.{HasManifest, HasRepository, IsListOn, IsNoFile}
use Rattle.rpki_validation.specs.Publication.{IsNoListOn, IsNoManifestPlace, IsNoPublication, IsNoRepository, IsNoValue}
use Rattle.rpki_validation.specs.Publication.{IsPublication, PublicationParts, StandsAs, ValueAt, list_file}
use Rattle.rpki_validation.specs.Publication.{publication}
use Rattle.rpki_validation.specs.Publication.IsNoListOn.{NoneListed, NotThere, NoListThere}
use Rattle.rpki_validation.specs.Publication.IsNoPublication.{OfFolder, OfPlace, OfManifest, OfList}
use Rattle.rpki_validation.specs.Snapshot.{Published}
use Rattle.rpki_validation.proofs.FindingLaws.{stops-later, stops-malformed}

one-some : {X : Type 0} (o : Option X) (a b : X) → o ≡ Some a → o ≡ Some b → b ≡ a
one-some {X} o a b e d = let s : ◌≡◌ {A = Option X} (Some b) (Some a) = sym d ∙ e in cc

some-none : {X : Type 0} (o : Option X) (a : X) → o ≡ Some a → o ≡ None → ⊥
some-none {X} o a e d = let s : ◌≡◌ {A = Option X} (Some a) None = sym e ∙ d in cc

-- ---- a value at a URI

module _ {V : Type 0} (published : Published) (F : Format V) (uri : RsyncUri) where
  abbrev Value : V → Type 0
  Value = ValueAt published F uri

  abbrev NoValue : Reason → Type 0
  NoValue = IsNoValue published F uri

  pub value-missing : published.objects uri ≡ None → StopsAt Value NoValue (Rejected Missing)
  value-missing none = (λ v k. some-none (published.objects uri) k.octets k.stands none, none)

  module _ (octets : List ℕ) (stands : published.objects uri ≡ Some octets) where
    spelled-there : (v : V) → Value v → F.spells v octets
    spelled-there v k =
        subst (λ (o : List ℕ). F.spells v o) (one-some (published.objects uri) octets k.octets stands k.stands) k.spells

    pub value-malformed : (e : DecodeError)
        → UnlessMemory e (SpellsNothing F.spells octets) × IsWholeFault F.spells F.fault octets e
        → StopsAt Value NoValue (stop_of e)
    value-malformed e h =
        stops-malformed Value NoValue e (UnlessMemory-weaker e (λ none v k. none v (spelled-there v k)) h.0)
        (octets, stands, h.1)

    pub value-found : (v : V) → F.spells v octets × ((w : V) → F.spells w octets → w ≡ v) → IsSole Value v
    value-found v read = record {
      holds = record { octets = octets; stands = stands; spells = read.0 };
      sole = λ w k. read.1 w (spelled-there w k);
    }

-- ---- the list of a manifest

module _ (published : Published) (sha256 : List ℕ → List ℕ) (folder : List ℕ) (files : List ListedFile) where
  abbrev On : CrlParts → Type 0
  On = IsListOn published sha256 folder files

  abbrev NotOn : Reason → Type 0
  NotOn = IsNoListOn published sha256 folder files

  pub none-listed : list_file files ≡ None → StopsAt On NotOn (Rejected NoList)
  none-listed none = (λ x k. some-none (list_file files) k.file k.listed none, NoneListed none)

  module _ (file : ListedFile) (listed : list_file files ≡ Some file) where
    stands-there : (x : CrlParts) (k : On x) → StandsAs published sha256 folder file k.octets
    stands-there x k = subst (λ (f : ListedFile). StandsAs published sha256 folder f k.octets)
        (one-some (list_file files) file k.file listed k.listed) k.stands

    pub not-there : (s : Stop)
        → StopsAt (StandsAs published sha256 folder file) (IsNoFile published sha256 folder file) s → StopsAt On NotOn s
    not-there s h =
        stops-later On NotOn (StandsAs published sha256 folder file) (IsNoFile published sha256 folder file) s h
        (λ none x k. none k.octets (stands-there x k)) (λ reason k. NotThere file listed k)

    module _ (octets : List ℕ) (stands : IsSole (StandsAs published sha256 folder file) octets) where
      spelled-on : (x : CrlParts) → On x → crl.spells x octets
      spelled-on x k =
          subst (λ (o : List ℕ). crl.spells x o) (stands.sole k.octets (stands-there x k)) k.spells

      pub no-list : (e : DecodeError)
          → UnlessMemory e (SpellsNothing crl.spells octets) × IsWholeFault crl.spells crl.fault octets e
          → StopsAt On NotOn (stop_of e)
      no-list e h =
          stops-malformed On NotOn e (UnlessMemory-weaker e (λ none x k. none x (spelled-on x k)) h.0)
          (NoListThere file octets listed stands.holds h.1)

      pub list-found : (x : CrlParts) → crl.spells x octets × ((w : CrlParts) → crl.spells w octets → w ≡ x)
          → IsSole On x
      list-found x read = record {
        holds =
            record { file = file; listed = listed; octets = octets; stands = stands.holds; spells = read.0 };
        sole = λ w k. read.1 w (spelled-on w k);
      }

-- ---- all of it

module _ (published : Published) (sha256 : List ℕ → List ℕ) (strict : Bool) (t : TbsParts) where
  abbrev There : PublicationParts → Type 0
  There = IsPublication published sha256 strict t

  abbrev NotThereFor : Reason → Type 0
  NotThereFor = IsNoPublication published sha256 strict t

  pub no-folder : (s : Stop) → StopsAt (HasRepository t) (IsNoRepository t) s → StopsAt There NotThereFor s
  no-folder s h =
      stops-later There NotThereFor (HasRepository t) (IsNoRepository t) s h
      (λ none p k. none p.folder k.repository) (λ reason k. OfFolder k)

  pub no-place : (folder : List ℕ) → HasRepository t folder → (s : Stop)
      → StopsAt (HasManifest t) (IsNoManifestPlace t) s → StopsAt There NotThereFor s
  no-place folder repository s h =
      stops-later There NotThereFor (HasManifest t) (IsNoManifestPlace t) s h
      (λ none p k. none k.place k.named) (λ reason k. OfPlace folder repository k)

  module _ (folder place : List ℕ) (repository : IsSole (HasRepository t) folder)
      (named : IsSole (HasManifest t) place) where
    abbrev M : Format (TypedParts ManifestParts)
    M = manifest_object strict

    manifest-there : (p : PublicationParts) → There p → ValueAt published M (uri_of place) p.manifest
    manifest-there p k = subst (λ (u : List ℕ). ValueAt published M (uri_of u) p.manifest)
        (named.sole k.place k.named) k.manifest

    pub no-manifest : (s : Stop)
        → StopsAt (ValueAt published M (uri_of place)) (IsNoValue published M (uri_of place)) s
        → StopsAt There NotThereFor s
    no-manifest s h =
        stops-later There NotThereFor (ValueAt published M (uri_of place)) (IsNoValue published M (uri_of place)) s h
        (λ none p k. none p.manifest (manifest-there p k))
        (λ reason k. OfManifest folder place repository.holds named.holds k)

    module _ (manifest : TypedParts ManifestParts)
        (there : IsSole (ValueAt published M (uri_of place)) manifest) where
      abbrev Files : List ListedFile
      Files = manifest.content.files

      list-there : (p : PublicationParts) → There p → IsListOn published sha256 folder Files p.list
      list-there p k =
          subst (λ (f : List ℕ). IsListOn published sha256 f Files p.list)
          (repository.sole p.folder k.repository)
          (subst (λ (m : TypedParts ManifestParts). IsListOn published sha256 p.folder m.content.files p.list)
          (there.sole p.manifest (manifest-there p k)) k.list)

      pub no-list-there : (s : Stop)
          → StopsAt (IsListOn published sha256 folder Files) (IsNoListOn published sha256 folder Files) s
          → StopsAt There NotThereFor s
      no-list-there s h =
          stops-later There NotThereFor (IsListOn published sha256 folder Files)
          (IsNoListOn published sha256 folder Files) s h (λ none p k. none p.list (list-there p k))
          (λ reason k. OfList folder place manifest repository.holds named.holds there.holds k)

      pub publication-found : (list : CrlParts) → IsSole (IsListOn published sha256 folder Files) list
          → IsSole There (publication folder manifest list)
      publication-found list found = record {
        holds = record {
          repository = repository.holds;
          place = place;
          named = named.holds;
          manifest = there.holds;
          list = found.holds;
        };
        sole = λ p k.
            let f = repository.sole p.folder k.repository in
            let m = there.sole p.manifest (manifest-there p k) in
            let l = found.sole p.list (list-there p k) in
            λ i. publication (f i) (m i) (l i);
      }
