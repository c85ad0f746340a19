-- What is wrong, from the left, with octets that no value begins.
use Rattle.std.specs.Prelude.{◌≡◌, ◌≢◌, ℕ, true, ◌<◌, ◌^◌, ◌⊎◌, List, [], ◌++◌, length}
use Rattle.rpki_der.specs.declared.error.DecodeError.{DecodeError}
use Rattle.rpki_der.specs.declared.error.DecodeError.TheVariants.{Truncated}
use Rattle.rpki_der.specs.declared.tag.Header.{Header}
use Rattle.rpki_der.specs.TagName.{TagName, IsTag}
use Rattle.rpki_der.specs.Header.{tlv}
use Rattle.rpki_der.specs.Reading.{Spells}
use Rattle.rpki_der.specs.Values.{SpellsHeader, IsHeaderFault}
use Rattle.rpki_der.specs.Members.{Members, spell, HaveHeaders}

-- The fault of octets that no value begins.
pub data IsNestedFault : List ℕ → DecodeError → Type 0 where
  -- no header begins them: the fault of the header
  AtHeader : {s : List ℕ} {e : DecodeError} → s ≢ [] → IsHeaderFault s e → IsNestedFault s e
  -- a header begins them, and the contents that it announces are not all there
  AtContents : {s : List ℕ} (h : Header) (r : List ℕ) → Spells SpellsHeader s h r → length r < h.length
      → IsNestedFault s Truncated
  -- the contents are members, and then octets that have this fault
  Inside : {s : List ℕ} {e : DecodeError} (t : TagName) (ms : Members) (r after : List ℕ) → IsTag t
      → length (spell ms ++ r) < 2 ^ 32 → HaveHeaders ms
      → s ≡ tlv t true (spell ms ++ r) ++ after → IsNestedFault r e → IsNestedFault s e

-- The fault where one value is required: Truncated where nothing remains.
abbrev pub IsCaptureFault : List ℕ → DecodeError → Type 0
IsCaptureFault s e = ((s ≡ []) × (e ≡ Truncated)) ⊎ IsNestedFault s e
