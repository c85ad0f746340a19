-- What a status says of the text of a URI and of the places of its parts, which an earlier call gave.
use Rattle.std.specs.Prelude.{◌≡◌, ◌⊎◌, ◌≤◌, ℕ, Bool, List, take, length, Option, Some, None, ◌+◌, ◌-◌, ◌++◌, codes}
use Rattle.rpki_text.specs.declared.uri.error.Error.{Error}
use Rattle.rpki_c.specs.Status.{no_answer, other_parts}
use Rattle.rpki_c.specs.Stored.{IsStored}
use Rattle.rpki_c.specs.Uri.{IsTextFault, IsUnwritten, HasRsyncParts, IsRelativeAt, HasHttpsParts}
use Rattle.rpki_text.specs.RsyncText.{IsRsync, path_of, canonical_module_of, uri_of, relative}
use Rattle.rpki_c.specs.declared.rsync.RsyncParts.{RsyncParts}
use Rattle.rpki_c.specs.declared.place.Place.{Place}
use Rattle.rpki_text.specs.UriText.{lowercase}
use Rattle.rpki_text.specs.HttpsText.{https_refusal, https_authority, https_path}
use Rattle.rpki_c.specs.declared.https.HttpsParts.{HttpsParts}

-- ---- What a status says of the text of a URI and of the places of its parts, which an earlier call gave

-- places of parts: whether they are laid out as those of a text of this length, whether they are those of a text, and
-- the same places where the text ends elsewhere
pub record Places (P : Type 0) : Type 1 where
  pub laid_out : ℕ → P → Type 0
  pub are_of : List ℕ → P → Type 0
  pub ending : P → ℕ → P

-- Status 14: the places are not laid out, and this holds of what was written. Else they are; and where they are those
-- of the text, the answer holds.
abbrev pub ByParts : {P : Type 0} → Places P → List ℕ → P → ℕ → Type 0 → Type 0 → Type 0
ByParts F t p status kept answer =
    ((status ≡ other_parts) × (F.laid_out (length t) p → ⊥) × kept)
    ⊎ (F.laid_out (length t) p × (F.are_of t p → answer))

-- the same of two texts
abbrev pub ByTwoParts : {P : Type 0} → Places P → List ℕ → P → List ℕ → P → ℕ → Type 0 → Type 0 → Type 0
ByTwoParts F t p u q status kept answer =
    ((status ≡ other_parts) × (F.laid_out (length t) p → F.laid_out (length u) q → ⊥) × kept)
    ⊎ (F.laid_out (length t) p × F.laid_out (length u) q × (F.are_of t p → F.are_of u q → answer))

-- Of two parsed URIs. Status 0: this is the answer.
abbrev pub IsToldByParts : {P : Type 0} → Places P → List ℕ → P → List ℕ → P → ℕ → Bool → Bool → Bool → Type 0
IsToldByParts F t p u q status old new answer =
    ByTwoParts F t p u q status (new ≡ old) ((status ≡ 0) × (new ≡ answer))

-- Of a parsed URI. This text is stored.
abbrev pub IsStoredByParts : {P : Type 0} → Places P → List ℕ → P → List ℕ → ℕ → List ℕ → List ℕ → ℕ → ℕ → Type 0
IsStoredByParts F t p text status old new before after =
    ByParts F t p status (IsUnwritten old new before after) (IsStored text status old new after)

-- Of a parsed URI. This text is stored, and its parts are these with that end.
abbrev pub IsMadeByParts : {P : Type 0} → Places P → List ℕ → P → List ℕ → ℕ → List ℕ → List ℕ → ℕ → ℕ → Type 0
IsMadeByParts F t p text status old new before after =
    ByParts F t p status (IsUnwritten old new before after)
    (IsStored text status old new after × F.are_of text (F.ending p (length text)))

-- Of a parsed URI. Status 0 or 9: nothing is wrong with the path, the text is stored, and its parts are these with that
-- end. Else: the path's error, and nothing was written.
abbrev pub IsJoinedByParts : {P : Type 0} → Places P → List ℕ → P → Option Error → List ℕ → ℕ → List ℕ → List ℕ → ℕ → ℕ
    → Type 0
IsJoinedByParts F t p wrong text status old new before after =
    ByParts F t p status (IsUnwritten old new before after)
    (((wrong ≡ None) × IsStored text status old new after × F.are_of text (F.ending p (length text)))
    ⊎ (IsTextFault wrong status × IsUnwritten old new before after))

-- Of a parsed URI. Status 0: its parent is the first so many octets, and its parts are these with that end. 10: it has
-- none, and nothing was written.
abbrev pub IsParentByParts : {P : Type 0} → Places P → List ℕ → P → Option (List ℕ) → ℕ → ℕ → ℕ → Type 0
IsParentByParts F t p parent status old new =
    ByParts F t p status (new ≡ old)
    (((status ≡ 0) × (new ≤ length t) × (parent ≡ Some (take new t)) × F.are_of (take new t) (F.ending p new))
    ⊎ ((status ≡ no_answer) × (parent ≡ None) × (new ≡ old)))

-- ---- What a status says of the text of an rsync URI and of the places of its parts, which an earlier call gave

-- nothing is wrong with the text but perhaps its length, and these are its parts: `rpki_rsync_parse` gives them
pub record AreParts (text : List ℕ) (p : RsyncParts) : Type 0 where
  pub form : IsRsync text
  pub parts : HasRsyncParts text p

-- the places are laid out as those of a text of this length: the authority after `rsync://`, a slash and the name, a
-- slash and the path, to the end
pub record AreLaidOut (size : ℕ) (p : RsyncParts) : Type 0 where
  pub authority : p.authority.start ≡ 8
  pub module_name : p.module_name.start ≡ 9 + p.authority.length
  pub path : p.path.start ≡ p.module_name.start + p.module_name.length + 1
  pub last : p.path.start + p.path.length ≡ size

-- the same places but for the path, which ends with a text of this length
abbrev pub with_end : RsyncParts → ℕ → RsyncParts
with_end p size = record {
  authority = p.authority;
  module_name = p.module_name;
  path = record { start = p.path.start; length = size - p.path.start };
}

-- places of the parts of rsync URIs
abbrev pub rsync_places : Places RsyncParts
rsync_places = record { laid_out = AreLaidOut; are_of = AreParts; ending = with_end }

-- Of two parsed URIs. Status 0: the path from v to u is at this place. 10: there is no such path, and nothing was
-- written.
abbrev pub IsRelativeByParts : List ℕ → RsyncParts → List ℕ → RsyncParts → ℕ → Place → Place → Type 0
IsRelativeByParts u p v q status old new =
    ByTwoParts rsync_places u p v q status (new ≡ old)
    (((status ≡ 0) × IsRelativeAt u v new)
    ⊎ ((status ≡ no_answer) × (relative (uri_of u) (uri_of v) ≡ None) × (new ≡ old)))

-- the text with its scheme and its authority in lower case
abbrev pub canonical_of : List ℕ → List ℕ
canonical_of text = canonical_module_of text ++ path_of text

-- ---- What a status says of the text of an https URI and of the places of its parts, which an earlier call gave

-- the text is an https URI of these parts: `rpki_https_parse` gives them
pub record AreHttpsParts (text : List ℕ) (p : HttpsParts) : Type 0 where
  pub passes : https_refusal text ≡ None
  pub parts : HasHttpsParts text p

-- the places are laid out as those of a text of this length: the authority after `https://`, and the path, to the end
pub record AreHttpsLaidOut (size : ℕ) (p : HttpsParts) : Type 0 where
  pub authority : p.authority.start ≡ 8
  pub path : p.path.start ≡ 8 + p.authority.length
  pub last : p.path.start + p.path.length ≡ size

-- the same places but for the path, which ends with a text of this length
abbrev pub with_https_end : HttpsParts → ℕ → HttpsParts
with_https_end p size = record {
  authority = p.authority;
  path = record { start = p.path.start; length = size - p.path.start };
}

-- places of the parts of https URIs
abbrev pub https_places : Places HttpsParts
https_places = record { laid_out = AreHttpsLaidOut; are_of = AreHttpsParts; ending = with_https_end }

-- the text with its scheme and its authority in lower case
abbrev pub https_canonical_of : List ℕ → List ℕ
https_canonical_of text = (codes "https://" ++ lowercase (https_authority text)) ++ https_path text
