-- Which kind of object octets are, by what is at their front. Whether they are such an object is for its grammar to
-- say.
use Rattle.std.specs.Prelude.{ℕ, nat_lt, nat_eq, ◌-◌, Bool, if◌then◌else◌, List, [], ◌∷◌, drop, codes}
use Rattle.std.specs.List.{starts_with}
use Rattle.rpki_fields.specs.declared.object_type.ObjectType.{ObjectType}
use Rattle.rpki_fields.specs.declared.object_type.ObjectType.TheVariants.{Certificate, Crl, Manifest, Roa}
use Rattle.rpki_fields.specs.declared.object_type.ObjectType.TheVariants.{Aspa, SignedObject}
use Rattle.rpki_fields.specs.declared.object_type.ObjectType.TheVariants.{Checklist, TrustAnchorKey, Ghostbusters}
use Rattle.rpki_objects.specs.TypedObject.{manifest_type, origin_type, aspa_type}
use Rattle.rpki_records.specs.Identifiers.{anchor_keys_type, card_type, checklist_type}

-- ---- values, by their first octets (X.690 8.1.2, 8.1.3)

-- what follows the identifier octet and the length octets of the value at the front
abbrev pub inside : List ℕ → List ℕ
inside [] = []
inside (identifier ∷ []) = []
inside (identifier ∷ length ∷ rest) = if nat_lt length 128 then rest else drop (length - 128) rest

-- what follows the value at the front, where its length is one octet
abbrev pub behind : List ℕ → List ℕ
behind [] = []
behind (identifier ∷ []) = []
behind (identifier ∷ length ∷ rest) = drop length rest

-- the front is these octets
abbrev pub begins : List ℕ → List ℕ → Bool
begins octets front = starts_with nat_eq octets front

-- ---- kinds

-- The identifier of the type of a content (RFC 5652 3, 5.1, 5.2), of what is in the SEQUENCE of a ContentInfo:
-- after the identifier of signed data, in the tag and the SEQUENCE around it, after the version and the digest
-- algorithms, in the SEQUENCE of the content.
abbrev pub content_type_in : List ℕ → List ℕ
content_type_in contents = inside (behind (behind (inside (inside (behind contents)))))

-- the kind of a signed object whose content has the type that is at the front, as an object identifier of eleven
-- octets
abbrev pub content_kind : List ℕ → ObjectType
content_kind front =
    if begins front (6 ∷ 11 ∷ manifest_type) then Manifest
    else if begins front (6 ∷ 11 ∷ origin_type) then Roa
    else if begins front (6 ∷ 11 ∷ aspa_type) then Aspa
    else if begins front (6 ∷ 11 ∷ checklist_type) then Checklist
    else if begins front (6 ∷ 11 ∷ anchor_keys_type) then TrustAnchorKey
    else if begins front (6 ∷ 11 ∷ card_type) then Ghostbusters
    else SignedObject

-- Of a signed value: what is signed of a revocation list begins with version 2, the INTEGER 1 (RFC 5280 5.1.2.1); of a
-- certificate with a tag, or with its serial number.
abbrev pub signed_kind : List ℕ → ObjectType
signed_kind signed = if begins signed (2 ∷ 1 ∷ 1 ∷ []) then Crl else Certificate

-- The kind by what is in the SEQUENCE around all: a signed object begins with an object identifier (RFC 5652 3), a
-- revocation list or a certificate with the SEQUENCE that is signed (RFC 5280 4.1, 5.1).
abbrev pub kind_inside : List ℕ → ObjectType
kind_inside contents =
    if begins contents (6 ∷ []) then content_kind (content_type_in contents)
    else if begins contents (48 ∷ []) then signed_kind (inside contents)
    else Certificate

-- the kind; that of a certificate where nothing tells
abbrev pub kind_of : List ℕ → ObjectType
kind_of octets = if begins octets (48 ∷ []) then kind_inside (inside octets) else Certificate

-- ---- their names, as a person reads them

abbrev pub kind_text : ObjectType → List ℕ
kind_text Certificate = codes "certificate"
kind_text Crl = codes "revocation list"
kind_text Manifest = codes "manifest"
kind_text Roa = codes "route origin attestation"
kind_text Aspa = codes "provider attestation"
kind_text Checklist = codes "signed checklist"
kind_text TrustAnchorKey = codes "trust anchor key"
kind_text Ghostbusters = codes "Ghostbusters record"
kind_text SignedObject = codes "signed object"
