-- What a status says of the texts of URIs, and of the places of their parts.
use Rattle.std.specs.Prelude.{◌≡◌, ◌≤◌, ◌+◌, ℕ, List, take, drop, length, ◌≢◌, ◌⊎◌, ◌<◌, Option, Some, None}
use Rattle.rpki_c.specs.declared.place.Place.{Place}
use Rattle.rpki_text.specs.ErrorText.{error_number}
use Rattle.rpki_text.specs.Buffer.{IsWritten}
use Rattle.rpki_text.specs.RsyncText.{rsync_refusal, join_refusal, joined, relative, uri_of, parent_of, authority_of}
use Rattle.rpki_text.specs.RsyncText.{module_name_of, path_of}
use Rattle.rpki_text.specs.declared.uri.error.Error.{Error}
use Rattle.rpki_c.specs.declared.rsync.RsyncParts.{RsyncParts}
use Rattle.rpki_c.specs.Status.{too_small, no_answer, second, uri}
use Rattle.rpki_text.specs.HttpsText.{https_refusal, https_authority, https_path}
use Rattle.rpki_c.specs.declared.https.HttpsParts.{HttpsParts}

-- ---- Where a part of octets is

-- the part is at the place, which lies within s
pub record IsPlace (s : List ℕ) (p : Place) (part : List ℕ) : Type 0 where
  pub within : p.start + p.length ≤ length s
  pub octets : take p.length (drop p.start s) ≡ part

-- ---- What a status says of the texts of rsync URIs. No call here allocates, so no status is that of an allocation
-- failure.

-- there is an error, none of an allocation, and the status is its number as a status of URIs
pub record IsTextFault (refusal : Option Error) (status : ℕ) : Type 0 where
  pub error : Error
  pub is : refusal ≡ Some error
  pub number : status ≡ error_number error + uri
  pub memory : error ≢ Error.OutOfMemory

-- the same of the second of two texts: the status is that much more
pub record IsSecondFault (refusal : Option Error) (status : ℕ) : Type 0 where
  pub error : Error
  pub is : refusal ≡ Some error
  pub number : status ≡ error_number error + uri + second
  pub memory : error ≢ Error.OutOfMemory

-- of two texts the first has an error, or else the second
abbrev pub IsFaultOfTwo : Option Error → Option Error → ℕ → Type 0
IsFaultOfTwo first second status = IsTextFault first status ⊎ ((first ≡ None) × IsSecondFault second status)

-- the parts of the text are at these places: the authority after `rsync://`, the name after that and a slash, the
-- path at the end
pub record HasRsyncParts (text : List ℕ) (p : RsyncParts) : Type 0 where
  pub authority : IsPlace text p.authority (authority_of text)
  pub module_name : IsPlace text p.module_name (module_name_of text)
  pub path : IsPlace text p.path (path_of text)
  pub authority_first : p.authority.start ≡ 8
  pub module_name_first : p.module_name.start ≡ 9 + length (authority_of text)
  pub path_last : p.path.start + p.path.length ≡ length text

-- Status 0: the text is an rsync URI of these parts. Else: its first error, and nothing was written.
abbrev pub IsRsyncParsed : List ℕ → ℕ → RsyncParts → RsyncParts → Type 0
IsRsyncParsed text status old new =
    ((status ≡ 0) × (rsync_refusal text ≡ None) × HasRsyncParts text new)
    ⊎ (IsTextFault (rsync_refusal text) status × (new ≡ old))

-- both texts are rsync URIs
abbrev pub AreRsync : List ℕ → List ℕ → Type 0
AreRsync u v = (rsync_refusal u ≡ None) × (rsync_refusal v ≡ None)

-- the path from v to u is in the text of u at the place, which is the end of the text
pub record IsRelativeAt (u v : List ℕ) (p : Place) : Type 0 where
  pub path : List ℕ
  pub leads : relative (uri_of u) (uri_of v) ≡ Some path
  pub place : IsPlace u p path
  pub last : p.start + p.length ≡ length u

-- Status 0: both are rsync URIs, and the path from v to u is at this place. 10: both are, and there is no such
-- path. Else: the error of one of them. Unless the status is 0, nothing was written.
abbrev pub IsRelative : List ℕ → List ℕ → ℕ → Place → Place → Type 0
IsRelative u v status old new =
    ((status ≡ 0) × AreRsync u v × IsRelativeAt u v new)
    ⊎ ((status ≡ no_answer) × AreRsync u v × (relative (uri_of u) (uri_of v) ≡ None) × (new ≡ old))
    ⊎ (IsFaultOfTwo (rsync_refusal u) (rsync_refusal v) status × (new ≡ old))

-- the path can be joined to the base
abbrev pub AreJoinable : List ℕ → List ℕ → Type 0
AreJoinable base path = (rsync_refusal base ≡ None) × (join_refusal base path ≡ None)

-- nothing was written
pub record IsUnwritten (old new : List ℕ) (before after : ℕ) : Type 0 where
  pub buffer : new ≡ old
  pub size : after ≡ before

-- Status 0: both can be joined, and this was written. 9: both can be joined, and the buffer is shorter. Else: the error
-- of one of them. Unless the status is 0, nothing was written.
abbrev pub IsJoined : List ℕ → List ℕ → ℕ → List ℕ → List ℕ → ℕ → ℕ → Type 0
IsJoined base path status old new before after =
    ((status ≡ 0) × AreJoinable base path × IsWritten (joined base path) old new after)
    ⊎ ((status ≡ too_small) × AreJoinable base path × (length old < length (joined base path))
    × IsUnwritten old new before after)
    ⊎ (IsFaultOfTwo (rsync_refusal base) (join_refusal base path) status × IsUnwritten old new before after)

-- Status 0: the parent of the URI is the first so many octets of its text. 10: the text is an rsync URI without a
-- segment. Else: its first error. Unless the status is 0, nothing was written.
abbrev pub IsParent : List ℕ → ℕ → ℕ → ℕ → Type 0
IsParent text status old new =
    ((status ≡ 0) × (rsync_refusal text ≡ None) × (new ≤ length text) × (parent_of text ≡ Some (take new text)))
    ⊎ ((status ≡ no_answer) × (rsync_refusal text ≡ None) × (parent_of text ≡ None) × (new ≡ old))
    ⊎ (IsTextFault (rsync_refusal text) status × (new ≡ old))

-- ---- What a status says of the text of an https URI

-- the parts of the text are at these places: the authority after `https://`, the path at the end
pub record HasHttpsParts (text : List ℕ) (p : HttpsParts) : Type 0 where
  pub authority : IsPlace text p.authority (https_authority text)
  pub path : IsPlace text p.path (https_path text)
  pub authority_first : p.authority.start ≡ 8
  pub path_last : p.path.start + p.path.length ≡ length text

-- Status 0: the text is an https URI of these parts. Else: its first error, and nothing was written.
abbrev pub IsHttpsParsed : List ℕ → ℕ → HttpsParts → HttpsParts → Type 0
IsHttpsParsed text status old new =
    ((status ≡ 0) × (https_refusal text ≡ None) × HasHttpsParts text new)
    ⊎ (IsTextFault (https_refusal text) status × (new ≡ old))
