-- Authorities that were met, by what tells them apart.
use Rattle.std.specs.Prelude.{◌≡◌, ◌↔◌, ◌⊎◌, ℕ, Bool, List, [], ◌∷◌, map, Option, Some, None, Result, Ok, Err}
use Rattle.std.specs.BTreeSet.{BTreeSet}
use Rattle.std.specs.Bool.{OnFalse, OnTrue}
use Rattle.std.specs.List.{Contains}
use Rattle.rpki.specs.declared.crypto.keys.PublicKeyFormat.{PublicKeyFormat}
use Rattle.rpki.specs.declared.crypto.keys.PublicKeyFormat.TheVariants.{Rsa, EcdsaP256}
use Rattle.rpki_cert.specs.Cert.{TbsParts}
use Rattle.rpki_resources.specs.declared.block.Block.{Block}
use Rattle.rpki_valid.specs.declared.resource.set.ResourceSet.{ResourceSet}
use Rattle.rpki_valid.specs.Verified.{Holder}
use Rattle.rpki_validation.specs.declared.stop.Stop.{Stop}
use Rattle.rpki_validation.specs.declared.stop.Stop.TheVariants.{Rejected, OutOfMemory}
use Rattle.rpki_validation.specs.Publication.{HasManifest, HasRepository, IsAt, place_text}

-- ---- numbers and resources

-- resources of the three kinds
abbrev pub Kinds : Type 0
Kinds = List Block × List Block × List Block

abbrev pub kinds_of : ResourceSet → Kinds
kinds_of x = (x.ipv4, x.ipv6, x.asn)

-- an algorithm's number
abbrev pub format_number : PublicKeyFormat → ℕ
format_number Rsa = 0
format_number EcdsaP256 = 1

-- ---- marks

-- what tells an authority apart: its name, its key's bits, where it publishes, numbers of the key, and its resources
pub record Mark : Type 0 where
  pub name : List ℕ
  pub key : List ℕ
  pub folder : Option (List ℕ)
  pub manifest : Option (List ℕ)
  pub numbers : List ℕ
  pub resources : Kinds

abbrev pub mark : List ℕ → List ℕ → Option (List ℕ) → Option (List ℕ) → List ℕ → Kinds → Mark
mark name key folder manifest numbers resources = record {
  name = name;
  key = key;
  folder = folder;
  manifest = manifest;
  numbers = numbers;
  resources = resources;
}

-- the URI is that which is named, or none is
abbrev pub IsPlace : (List ℕ → Type 0) → Option (List ℕ) → Type 0
IsPlace Has place = (uri : List ℕ) → Has uri ↔ (place ≡ Some uri)

-- the mark of where an authority publishes, its places as text
pub record HasPlaceMark (x : Holder) (m : Mark) : Type 0 where
  pub name : m.name ≡ x.cert.tbs.subject
  pub key : m.key ≡ x.cert.tbs.key.bits.octets
  pub folder : IsPlace (IsAt (HasRepository x.cert.tbs)) m.folder
  pub manifest : IsPlace (IsAt (HasManifest x.cert.tbs)) m.manifest
  pub numbers : m.numbers ≡ format_number x.cert.tbs.key.format ∷ x.cert.tbs.key.bits.unused ∷ []
  pub resources : m.resources ≡ ([], [], [])

-- that of the authority itself
pub record HasMark (x : Holder) (m : Mark) : Type 0 where
  pub name : m.name ≡ x.cert.tbs.subject
  pub key : m.key ≡ x.cert.tbs.key.bits.octets
  pub folder : IsPlace (HasRepository x.cert.tbs) m.folder
  pub manifest : IsPlace (HasManifest x.cert.tbs) m.manifest
  pub numbers : m.numbers ≡ format_number x.cert.tbs.key.format ∷ x.cert.tbs.key.bits.unused ∷ []
  pub resources : m.resources ≡ kinds_of x.resources

-- the name, the key's bits, and numbers of the key
pub record HasKeyMarks (t : TbsParts) (subject octets counts : List ℕ) : Type 0 where
  pub name : subject ≡ t.subject
  pub bits : octets ≡ t.key.bits.octets
  pub numbers : counts ≡ format_number t.key.format ∷ t.key.bits.unused ∷ []

-- a URI that was found, or not
abbrev pub IsUriIn : Result (List ℕ) Stop → Option (List ℕ) → Type 0
IsUriIn (Ok uri) found = found ≡ Some uri
IsUriIn (Err (Rejected reason)) found = found ≡ None
IsUriIn (Err OutOfMemory) found = ⊥

-- its place
abbrev pub IsPlaceIn : Result (List ℕ) Stop → Option (List ℕ) → Type 0
IsPlaceIn (Ok uri) place = place ≡ Some (place_text uri)
IsPlaceIn (Err (Rejected reason)) place = place ≡ None
IsPlaceIn (Err OutOfMemory) place = ⊥

-- ---- sets of them

module _ {V : Type 0} (numbers : V → List ℕ) where
  -- what a key of a set is
  abbrev pub mark_in : List ℕ × List ℕ × Option (List ℕ) × Option (List ℕ) × V × Kinds → Mark
  mark_in k = mark k.0 k.1 k.2 k.3 (numbers k.4) k.5

  abbrev pub marks_of : BTreeSet (List ℕ × List ℕ × Option (List ℕ) × Option (List ℕ) × V × Kinds) → List Mark
  marks_of s = map mark_in s.keys

-- exactly the mark is added; or it was there, and nothing is
pub record Inserts (before after : List Mark) (mark : Mark) (is_new : Bool) : Type 0 where
  pub added : Contains after mark
  pub kept : (x : Mark) → Contains after x → Contains before x ⊎ (x ≡ mark)
  pub old : (x : Mark) → Contains before x → Contains after x
  pub same : OnFalse is_new (after ≡ before)
  pub fresh : OnTrue is_new (Contains before mark → ⊥)

-- the mark of an authority is so
abbrev pub InsertsMarkOf : List Mark → List Mark → Holder → Bool → Type 0
InsertsMarkOf before after x is_new = (m : Mark) × HasMark x m × Inserts before after m is_new

-- the mark of where an authority publishes is
abbrev pub InsertsPlaceOf : List Mark → List Mark → Holder → Bool → Type 0
InsertsPlaceOf before after x is_new = (m : Mark) × HasPlaceMark x m × Inserts before after m is_new
