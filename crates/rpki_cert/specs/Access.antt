-- The URIs of certificates: CRL distribution points, and authority and subject information access (RFC 6487 4.8.6 to
-- 4.8.8, RFC 8182 3.2).
use Rattle.std.specs.Prelude.{map, ◌≡◌, ◌||◌, not, ℕ, Bool, true, false, List, [], ◌∷◌, Option, Some, None, IsTrue}
use Rattle.std.specs.Prelude.{Result, MatchResult, bytes_eq, if◌then◌else◌}
use Rattle.std.specs.Option.{is_some}
use Rattle.std.specs.List.{list_all}
use Rattle.rpki_der.specs.declared.error.DecodeError.{DecodeError}
use Rattle.rpki_der.specs.declared.tag.Class.TheVariants.{Context}
use Rattle.rpki_der.specs.TagName.{TagName, tag_of, oid, sequence}
use Rattle.rpki_der.specs.Reading.{AnyFault}
use Rattle.rpki_der.specs.Values.{SpellsLeaf, IsLeafFault}
use Rattle.rpki_der.specs.Leaves.{IsOid, IsOidOf}
use Rattle.rpki_der.specs.Parts.{Then}
use Rattle.rpki_der.specs.Each.{SpellsSome}
use Rattle.rpki_text.specs.RsyncText.{rsync_refusal}
use Rattle.rpki_text.specs.HttpsText.{https_refusal}
use Rattle.rpki.specs.ExtensionValue.{ExtensionParts}
use Rattle.rpki.specs.declared.repository.error.ValidationError.{ValidationError}
use Rattle.rpki_cert.specs.declared.extension.access_rule.AccessRule.{AccessRule}
use Rattle.rpki_cert.specs.declared.extension.access_rule.AccessRule.TheVariants.{EndEntity, Notification}
use Rattle.rpki_cert.specs.Cert.{find}
use Rattle.rpki_cert.specs.GeneralName.{SpellsText, SpellsName}
use Rattle.rpki_cert.specs.Known.{SaysOnly, IsFoundWrong, HasNone, UnlessNoMemory}

-- what f makes of some value that is spelled
abbrev pub Through : {V W : Type 0} → (W → V) → (W → List ℕ → Type 0) → V → List ℕ → Type 0
Through {V} {W} f G v p = (w : W) × G w p × (v ≡ f w)

-- ---- URIs

-- a URI
abbrev pub SpellsUri : Option (List ℕ) → List ℕ → Type 0
SpellsUri = Through (λ text. Some text) SpellsText

-- the first text that is an rsync URI; that is an https URI
abbrev pub first_rsync : List (Option (List ℕ)) → Option (List ℕ)
first_rsync [] = None
first_rsync (None ∷ xs) = first_rsync xs
first_rsync (Some text ∷ xs) = if is_some (rsync_refusal text) then first_rsync xs else Some text

abbrev pub first_https : List (Option (List ℕ)) → Option (List ℕ)
first_https [] = None
first_https (None ∷ xs) = first_https xs
first_https (Some text ∷ xs) = if is_some (https_refusal text) then first_https xs else Some text

-- an object identifier, and whether it is this one
abbrev pub IsOidAs : List ℕ → Bool → List ℕ → Type 0
IsOidAs expected same c = IsOid c × (same ≡ bytes_eq c expected)

abbrev pub SpellsOidAs : List ℕ → Bool → List ℕ → Type 0
SpellsOidAs expected = SpellsLeaf oid false (IsOidAs expected)

abbrev pub IsOidAsFault : List ℕ → List ℕ → DecodeError → Type 0
IsOidAsFault expected = IsLeafFault oid false (IsOidAs expected)

-- ---- access descriptions: a SEQUENCE of a method and of a general name (RFC 5280 4.2.2.1, 4.2.2.2)

-- by the contents octets of its method and by its name
abbrev pub SpellsDescription : List ℕ × Option (List ℕ) → List ℕ → Type 0
SpellsDescription = SpellsLeaf sequence true (Then (SpellsLeaf oid false IsOidOf) SpellsName)

-- a SEQUENCE of them, one at least: what f makes of all
abbrev pub SpellsAccess : {V : Type 0} → (List (List ℕ × Option (List ℕ)) → V) → V → List ℕ → Type 0
SpellsAccess f = SpellsLeaf sequence true (Through f (SpellsSome SpellsDescription))

-- the name of a description of this method; of another there is None
abbrev pub chosen : Bool × Option (List ℕ) → Option (List ℕ)
chosen (true, name) = name
chosen (false, name) = None

abbrev pub named : List ℕ → List (List ℕ × Option (List ℕ)) → List (Option (List ℕ))
named method = map (λ x. chosen (bytes_eq x.0 method, x.1))

-- the first rsync URI of this method; the first https URI
abbrev pub SpellsRsyncAccess : List ℕ → Option (List ℕ) → List ℕ → Type 0
SpellsRsyncAccess method = SpellsAccess (λ xs. first_rsync (named method xs))

abbrev pub SpellsHttpsAccess : List ℕ → Option (List ℕ) → List ℕ → Type 0
SpellsHttpsAccess method = SpellsAccess (λ xs. first_https (named method xs))

-- ---- CRL distribution points: exactly one, of which there is exactly a full name (RFC 5280 4.2.1.13)

abbrev pub context_0 : TagName
context_0 = tag_of Context 0

-- general names, each a URI: the first that is an rsync URI
abbrev pub SpellsFullName : Option (List ℕ) → List ℕ → Type 0
SpellsFullName = SpellsLeaf context_0 true (Through first_rsync (SpellsSome SpellsUri))

abbrev pub SpellsPointName : Option (List ℕ) → List ℕ → Type 0
SpellsPointName = SpellsLeaf context_0 true SpellsFullName

abbrev pub SpellsPoint : Option (List ℕ) → List ℕ → Type 0
SpellsPoint = SpellsLeaf sequence true SpellsPointName

abbrev pub SpellsPoints : Option (List ℕ) → List ℕ → Type 0
SpellsPoints = SpellsLeaf sequence true SpellsPoint

-- ---- the methods (RFC 5280 4.2.2.1, 4.2.2.2, RFC 6487 4.8.8, RFC 8182 3.2)

-- 1.3.6.1.5.5.7.48.2
abbrev pub ca_issuers : List ℕ
ca_issuers = 43 ∷ 6 ∷ 1 ∷ 5 ∷ 5 ∷ 7 ∷ 48 ∷ 2 ∷ []

-- 1.3.6.1.5.5.7.48.5
abbrev pub ca_repository : List ℕ
ca_repository = 43 ∷ 6 ∷ 1 ∷ 5 ∷ 5 ∷ 7 ∷ 48 ∷ 5 ∷ []

-- 1.3.6.1.5.5.7.48.10
abbrev pub rpki_manifest : List ℕ
rpki_manifest = 43 ∷ 6 ∷ 1 ∷ 5 ∷ 5 ∷ 7 ∷ 48 ∷ 10 ∷ []

-- 1.3.6.1.5.5.7.48.11
abbrev pub signed_object : List ℕ
signed_object = 43 ∷ 6 ∷ 1 ∷ 5 ∷ 5 ∷ 7 ∷ 48 ∷ 11 ∷ []

-- 1.3.6.1.5.5.7.48.13
abbrev pub rpki_notify : List ℕ
rpki_notify = 43 ∷ 6 ∷ 1 ∷ 5 ∷ 5 ∷ 7 ∷ 48 ∷ 13 ∷ []

-- ---- descriptions that are checked against a rule

-- the text is an https URI
abbrev pub is_https : Option (List ℕ) → Bool
is_https None = false
is_https (Some text) = not (is_some (https_refusal text))

-- What a rule says of a description, by the contents octets of its method and by its name: an end entity's tells where
-- the signed object is, or where changes of the repository are (RFC 6487 4.8.8.2, RFC 8182 3.2); and the latter is told
-- by an https URI (RFC 8182 3.2).
abbrev pub allows : AccessRule → List ℕ × Option (List ℕ) → Bool
allows EndEntity x = bytes_eq x.0 signed_object || bytes_eq x.0 rpki_notify
allows Notification x = not (bytes_eq x.0 rpki_notify) || is_https x.1

-- such descriptions, one at least, and no others
abbrev pub SpellsHeldAccess : AccessRule → List (List ℕ × Option (List ℕ)) → List ℕ → Type 0
SpellsHeldAccess rule xs s =
    SpellsLeaf sequence true (SpellsSome SpellsDescription) xs s × IsTrue (list_all (allows rule) xs)

-- ---- what a certificate says

abbrev pub flat : Option (Option (List ℕ)) → Option (List ℕ)
flat None = None
flat (Some uri) = uri

-- The URI of what is found of an extension, in G: none where nothing is found, or where it has no URI of the scheme.
abbrev pub SaysUri : (Option (List ℕ) → List ℕ → Type 0) → Option ExtensionParts → Option (List ℕ) → Type 0
SaysUri G found uri = (v : Option (Option (List ℕ))) × SaysOnly false G found v × (uri ≡ flat v)

-- the same, as it is read; or the error of an extension that is another
abbrev pub IsSaidUri : {X : Type 0} → (X → Option (List ℕ)) → (Option (List ℕ) → List ℕ → Type 0)
    → Option ExtensionParts → Result X ValidationError → Type 0
IsSaidUri view G found result =
    MatchResult result (λ x. SaysUri G found (view x)) (IsFoundWrong false G AnyFault found)

-- the same of the extension of this identifier
abbrev pub HasUri : List ℕ → (Option (List ℕ) → List ℕ → Type 0) → List ExtensionParts → Option (List ℕ) → Type 0
HasUri id G xs = SaysUri G (find id xs)

-- the same, as it is read; the error says that the extension is another, but where allocation fails
abbrev pub FindsUri : List ℕ → (Option (List ℕ) → List ℕ → Type 0) → List ExtensionParts
    → Result (Option (List ℕ)) ValidationError → Type 0
FindsUri id G xs result = MatchResult result (HasUri id G xs) (λ e. UnlessNoMemory e (HasNone id false G xs))
