-- Extensions by their identifiers (RFC 6487 4.8).
use Rattle.std.specs.Prelude.{◌≡◌, ◌⊎◌, ℕ, Bool, true, false, not, ◌||◌, ◌&&◌, List, [], ◌∷◌, Option, Some, None}
use Rattle.std.specs.Prelude.{Result, MatchResult, bytes_eq, codes}
use Rattle.rpki.specs.ExtensionValue.{ExtensionParts}
use Rattle.rpki_der.specs.ErrorText.{text_of}
use Rattle.rpki_der.specs.Reading.{UnlessMemory, is_out, TakesNoMemory}
use Rattle.rpki.specs.ErrorContent.{content_of}
use Rattle.rpki_der.specs.declared.error.DecodeError.{DecodeError}
use Rattle.rpki.specs.declared.repository.error.InspectionError.{InspectionError}
use Rattle.rpki.specs.declared.repository.error.ValidationError.{ValidationError}
use Rattle.rpki.specs.declared.repository.error.ValidationError.TheVariants.{Decoding, Inspection, Verification}
use Rattle.rpki_cert.specs.Cert.{find}
use Rattle.rpki_x509.specs.Authority.{authority_key_identifier}

-- ---- their identifiers, by their contents octets (X.690 8.19)

-- 2.5.29.14 (RFC 5280 4.2.1.2)
abbrev pub subject_key_identifier : List ℕ
subject_key_identifier = 85 ∷ 29 ∷ 14 ∷ []

-- 2.5.29.15 (RFC 5280 4.2.1.3)
abbrev pub key_usage : List ℕ
key_usage = 85 ∷ 29 ∷ 15 ∷ []

-- 2.5.29.19 (RFC 5280 4.2.1.9)
abbrev pub basic_constraints : List ℕ
basic_constraints = 85 ∷ 29 ∷ 19 ∷ []

-- 2.5.29.31 (RFC 5280 4.2.1.13)
abbrev pub crl_distribution_points : List ℕ
crl_distribution_points = 85 ∷ 29 ∷ 31 ∷ []

-- 2.5.29.32 (RFC 5280 4.2.1.4)
abbrev pub certificate_policies : List ℕ
certificate_policies = 85 ∷ 29 ∷ 32 ∷ []

-- 2.5.29.37 (RFC 5280 4.2.1.12)
abbrev pub extended_key_usage : List ℕ
extended_key_usage = 85 ∷ 29 ∷ 37 ∷ []

-- 1.3.6.1.5.5.7.1.1 (RFC 5280 4.2.2.1)
abbrev pub authority_info_access : List ℕ
authority_info_access = 43 ∷ 6 ∷ 1 ∷ 5 ∷ 5 ∷ 7 ∷ 1 ∷ 1 ∷ []

-- 1.3.6.1.5.5.7.1.7 and, with validation reconsidered, 1.3.6.1.5.5.7.1.28 (RFC 3779 2.2.1, RFC 8360 4.2.2.1)
abbrev pub ip_addr_blocks : List ℕ
ip_addr_blocks = 43 ∷ 6 ∷ 1 ∷ 5 ∷ 5 ∷ 7 ∷ 1 ∷ 7 ∷ []

abbrev pub ip_addr_blocks_v2 : List ℕ
ip_addr_blocks_v2 = 43 ∷ 6 ∷ 1 ∷ 5 ∷ 5 ∷ 7 ∷ 1 ∷ 28 ∷ []

-- 1.3.6.1.5.5.7.1.8 and, with validation reconsidered, 1.3.6.1.5.5.7.1.29 (RFC 3779 3.2.1, RFC 8360 4.2.2.3)
abbrev pub autonomous_sys_ids : List ℕ
autonomous_sys_ids = 43 ∷ 6 ∷ 1 ∷ 5 ∷ 5 ∷ 7 ∷ 1 ∷ 8 ∷ []

abbrev pub autonomous_sys_ids_v2 : List ℕ
autonomous_sys_ids_v2 = 43 ∷ 6 ∷ 1 ∷ 5 ∷ 5 ∷ 7 ∷ 1 ∷ 29 ∷ []

-- 1.3.6.1.5.5.7.1.11 (RFC 5280 4.2.2.2)
abbrev pub subject_info_access : List ℕ
subject_info_access = 43 ∷ 6 ∷ 1 ∷ 5 ∷ 5 ∷ 7 ∷ 1 ∷ 11 ∷ []

-- ---- what an extension says

-- What is found of an extension is as critical as it has to be, and its octets spell the value in G; or nothing is
-- found.
abbrev pub Says : {V : Type 0} → Bool → (V → List ℕ → Type 0) → Option ExtensionParts → Option V → Type 0
Says critical G found None = found ≡ None
Says critical G found (Some v) = (x : ExtensionParts) × (found ≡ Some x) × (x.critical ≡ critical) × G v x.content

-- this value, and no other
abbrev pub SaysOnly : {V : Type 0} → Bool → (V → List ℕ → Type 0) → Option ExtensionParts → Option V → Type 0
SaysOnly {V} critical G found v = Says critical G found v × ((w : Option V) → Says critical G found w → w ≡ v)

-- something is found, and is another: malformed, or not as critical as it has to be
abbrev pub SaysNone : {V : Type 0} → Bool → (V → List ℕ → Type 0) → Option ExtensionParts → Type 0
SaysNone {V} critical G found = (v : Option V) → Says critical G found v → ⊥

-- the same of the extension of this identifier
abbrev pub HasExtension : {V : Type 0} → List ℕ → Bool → (V → List ℕ → Type 0) → List ExtensionParts → Option V
    → Type 0
HasExtension id critical G xs = Says critical G (find id xs)

abbrev pub HasOnly : {V : Type 0} → List ℕ → Bool → (V → List ℕ → Type 0) → List ExtensionParts → Option V → Type 0
HasOnly id critical G xs = SaysOnly critical G (find id xs)

abbrev pub HasNone : {V : Type 0} → List ℕ → Bool → (V → List ℕ → Type 0) → List ExtensionParts → Type 0
HasNone id critical G xs = SaysNone critical G (find id xs)

-- a fact for each error but allocation failure
abbrev pub UnlessNoMemory : ValidationError → Type 0 → Type 0
UnlessNoMemory (Decoding e) P = UnlessMemory e P
UnlessNoMemory (Inspection e) P = P
UnlessNoMemory (Verification e) P = P

-- the error is an allocation failure
abbrev pub is_memory : ValidationError → Bool
is_memory (Decoding e) = is_out e
is_memory (Inspection e) = false
is_memory (Verification e) = false

-- the value of an extension that says nothing but that it is there
abbrev pub present : Bool → Option (Unit {0})
present true = Some tt
present false = None

-- ---- what is read of an extension

-- the error of an inspection, of this text
abbrev pub HasText : List ℕ → ValidationError → Type 0
HasText text (Decoding e) = ⊥
HasText text (Inspection e) = text_of (content_of e) ≡ text
HasText text (Verification e) = ⊥

-- the text of an extension that isn't as critical as it has to be
abbrev pub critical_text : List ℕ
critical_text = codes "extension is not as critical as it has to be"

-- what is found isn't as critical as it has to be, and the text says so
abbrev pub IsOtherCritical : Bool → Option ExtensionParts → InspectionError → Type 0
IsOtherCritical critical found e =
    (text_of (content_of e) ≡ critical_text) × (x : ExtensionParts) × (found ≡ Some x) × (x.critical ≡ critical → ⊥)

-- what is found is as critical as it has to be, and K is the error of its octets; or it isn't, and the text says so
abbrev pub IsFoundFault : Bool → (List ℕ → DecodeError → Type 0) → Option ExtensionParts → ValidationError → Type 0
IsFoundFault critical K found (Decoding e) =
    (x : ExtensionParts) × (found ≡ Some x) × (x.critical ≡ critical) × TakesNoMemory K x.content e
IsFoundFault critical K found (Inspection e) = IsOtherCritical critical found e
IsFoundFault critical K found (Verification e) = ⊥

-- what is found is malformed, or not as critical as it has to be, and this is its error
abbrev pub IsFoundWrong : {V : Type 0} → Bool → (V → List ℕ → Type 0) → (List ℕ → DecodeError → Type 0)
    → Option ExtensionParts → ValidationError → Type 0
IsFoundWrong critical G K found e = SaysNone critical G found × IsFoundFault critical K found e

-- the error of what is found where that is wrong; and else, where it says something else, one of E
abbrev pub IsOtherwise : {V : Type 0} → Bool → (V → List ℕ → Type 0) → (List ℕ → DecodeError → Type 0)
    → Option ExtensionParts → (ValidationError → Type 0) → ValidationError → Type 0
IsOtherwise critical G K found E e = ((SaysNone critical G found → ⊥) × E e) ⊎ IsFoundFault critical K found e

-- the value of what is found; or the error of what is another
abbrev pub IsSaid : {V : Type 0} → Bool → (V → List ℕ → Type 0) → (List ℕ → DecodeError → Type 0)
    → Option ExtensionParts → Result (Option V) ValidationError → Type 0
IsSaid critical G K found result = MatchResult result (SaysOnly critical G found) (IsFoundWrong critical G K found)

-- that something is found; or the error of what is another
abbrev pub IsSaidThere : Bool → (Unit {0} → List ℕ → Type 0) → (List ℕ → DecodeError → Type 0)
    → Option ExtensionParts → Result Bool ValidationError → Type 0
IsSaidThere critical G K found result =
    MatchResult result (λ b. SaysOnly critical G found (present b)) (IsFoundWrong critical G K found)

-- the same of the extension of this identifier
abbrev pub FindsOnly : {V : Type 0} → List ℕ → Bool → (V → List ℕ → Type 0) → (List ℕ → DecodeError → Type 0)
    → List ExtensionParts → Result (Option V) ValidationError → Type 0
FindsOnly id critical G K xs = IsSaid critical G K (find id xs)

abbrev pub FindsThere : List ℕ → Bool → (Unit {0} → List ℕ → Type 0) → (List ℕ → DecodeError → Type 0)
    → List ExtensionParts → Result Bool ValidationError → Type 0
FindsThere id critical G K xs = IsSaidThere critical G K (find id xs)

-- ---- critical extensions

-- the extensions of certificates of the RPKI (RFC 6487 4.8, RFC 8360 4.2)
abbrev pub is_known : List ℕ → Bool
is_known id =
    bytes_eq id subject_key_identifier || bytes_eq id key_usage || bytes_eq id basic_constraints
    || bytes_eq id crl_distribution_points || bytes_eq id certificate_policies
    || bytes_eq id authority_key_identifier || bytes_eq id extended_key_usage || bytes_eq id authority_info_access
    || bytes_eq id ip_addr_blocks || bytes_eq id ip_addr_blocks_v2 || bytes_eq id autonomous_sys_ids
    || bytes_eq id autonomous_sys_ids_v2 || bytes_eq id subject_info_access

-- every critical extension is a known one (RFC 5280 4.2)
abbrev pub are_understood : List ExtensionParts → Bool
are_understood [] = true
are_understood (x ∷ xs) = (not x.critical || is_known x.identifier) && are_understood xs
