-- URIs as general names: primitive values under the context-specific tag 6 (RFC 5280 4.2.1.6).
use Rattle.std.specs.Prelude.{ℕ, ◌≡◌, false, List, None}
use Rattle.rpki_der.specs.declared.error.DecodeError.{DecodeError}
use Rattle.rpki_der.specs.Prelude.{context_6, OrMemoryWhere, Finds, SpellsContents, IsLeafFault}
use Rattle.rpki_text.specs.RsyncText.{rsync_refusal}
use Rattle.rpki_text.specs.HttpsText.{https_refusal}

-- the contents of the name of this rsync URI
abbrev pub IsRsyncText : List ℕ → List ℕ → Type 0
IsRsyncText text c = (text ≡ c) × (rsync_refusal c ≡ None)

-- the contents of the name of this https URI
abbrev pub IsHttpsText : List ℕ → List ℕ → Type 0
IsHttpsText text c = (text ≡ c) × (https_refusal c ≡ None)

-- The error of a reader of names with these texts. Allocation fails only where there is a name, whatever its text is:
-- the octets are shared first.
abbrev pub IsNameFault : (List ℕ → List ℕ → Type 0) → List ℕ → DecodeError → Type 0
IsNameFault IsText =
    OrMemoryWhere (Finds (SpellsContents context_6 false)) (IsLeafFault context_6 false IsText)
