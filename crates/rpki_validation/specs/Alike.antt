-- Authorities that publish at the same places, and issue the same.
use Rattle.std.specs.Prelude.{◌≡◌, ◌↔◌, ℕ, List}
use Rattle.rpki_valid.specs.Verified.{Holder}
use Rattle.rpki_validation.specs.Publication.{HasManifest, HasRepository, IsAt}

-- one name and one key, the same resources, and the same places
pub record AreAlike (x y : Holder) : Type 0 where
  pub subject : x.cert.tbs.subject ≡ y.cert.tbs.subject
  pub key : x.cert.tbs.key ≡ y.cert.tbs.key
  pub resources : x.resources ≡ y.resources
  pub folder : (uri : List ℕ) → HasRepository x.cert.tbs uri ↔ HasRepository y.cert.tbs uri
  pub manifest : (uri : List ℕ) → HasManifest x.cert.tbs uri ↔ HasManifest y.cert.tbs uri

-- one name and one key, and the same places, however their URIs are spelled, and whatever their resources
pub record PublishTheSame (x y : Holder) : Type 0 where
  pub subject : x.cert.tbs.subject ≡ y.cert.tbs.subject
  pub key : x.cert.tbs.key ≡ y.cert.tbs.key
  pub folder : (place : List ℕ) → IsAt (HasRepository x.cert.tbs) place ↔ IsAt (HasRepository y.cert.tbs) place
  pub manifest : (place : List ℕ) → IsAt (HasManifest x.cert.tbs) place ↔ IsAt (HasManifest y.cert.tbs) place

-- one that P is true of is alike
abbrev pub Alike : (Holder → Type 0) → Holder → Type 0
Alike P y = (x : Holder) × P x × AreAlike x y
