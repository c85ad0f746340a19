-- The laws of the definitions, each a fact.
use Rattle.std.specs.Prelude.{ℕ, ◌≡◌, ◌↔◌, ◌&&◌, true, List, bytes_eq}
use Rattle.rpki_text.specs.HttpsText.{HttpsUri, IsHttpsUri, SpellsHttps, https_uri_of, same_https, https_parent_uri}
use Rattle.rpki_text.specs.RsyncText.{RsyncUri, IsRsyncUri, Spells, uri_of, same_uri, parent_uri, canonical_module_of}
use Rattle.rpki_text.specs.RsyncText.{path_of}

-- what a text stands for is what is read from it
abbrev pub OneMeaning : Type 0
OneMeaning = (text : List ℕ) (u : RsyncUri) → Spells text u → IsRsyncUri u → u ≡ uri_of text

-- the test of equality says that the four parts are equal
abbrev pub EqualParts : Type 0
EqualParts = (u v : RsyncUri) → (same_uri u v ≡ true) ↔ (u ≡ v)

abbrev pub EqualParents : Type 0
EqualParents = (u v : RsyncUri) → same_uri u v ≡ true → parent_uri u ≡ parent_uri v

abbrev pub EqualModuleAndPath : Type 0
EqualModuleAndPath =
    (a b : List ℕ) → same_uri (uri_of a) (uri_of b)
    ≡ (bytes_eq (canonical_module_of a) (canonical_module_of b) && bytes_eq (path_of a) (path_of b))

abbrev pub OneHttpsMeaning : Type 0
OneHttpsMeaning = (text : List ℕ) (u : HttpsUri) → SpellsHttps text u → IsHttpsUri u → u ≡ https_uri_of text

abbrev pub EqualHttpsParts : Type 0
EqualHttpsParts = (u v : HttpsUri) → (same_https u v ≡ true) ↔ (u ≡ v)

abbrev pub EqualHttpsParents : Type 0
EqualHttpsParents = (u v : HttpsUri) → same_https u v ≡ true → https_parent_uri u ≡ https_parent_uri v
