-- What is made and written to the caller's buffer.
use Rattle.std.specs.Prelude.{◌≡◌, ◌⊎◌, ◌≤◌, ◌<◌, ℕ, ℤ, List, slice_index, ◌+ℤ◌, ◌+◌, ◌^◌, [], length, Bool, true}
use Rattle.jiff.specs.Types.{DateTime}
use Rattle.rpki_der.specs.Number.{number_of}
use Rattle.rpki_time.specs.Serial.{serial_octets}
use Rattle.rpki_time.specs.Time.{IsTimeYear, HasParts, ArePossible, IsYearsOn}
use Rattle.rpki_time.specs.TimeValue.{time_octets}
use Rattle.rpki_c.specs.declared.times.Moment.{Moment}
use Rattle.rpki_c.specs.Status.{no_answer, content, out_of_memory, too_long, other_algorithm}
use Rattle.rpki_c.specs.Stored.{IsStored}
use Rattle.rpki_c.specs.Uri.{IsUnwritten}
use Rattle.rpki_c.specs.Time.{IsMoment}
use Rattle.sha1.specs.Sha1.{sha1}
use Rattle.rpki.specs.declared.crypto.keys.PublicKeyFormat.TheVariants.{Rsa}
use Rattle.rpki.specs.RsaPublicKey.{SpellsRsaNumbers, rsa_public_key}
use Rattle.rpki.specs.PublicKey.{KeyParts, SpellsKey, IsRsaKey, key_contents, key_octets}
use Rattle.rpki.specs.SubjectName.{subject_octets}
use Rattle.rpki_c.specs.Whole.{IsRefused, NeverMemory, IsRefusedElse}
use Rattle.rpki_c.specs.Key.{IsKeptKeyFault, IsNoKey}
use Rattle.rpki_der.specs.declared.error.DecodeError.{DecodeError}
use Rattle.rpki_der.specs.Members.{IsValue, SpellsValue}
use Rattle.rpki_der.specs.Reading.{IsWholeFault}
use Rattle.rpki.specs.Oids.{sha256_with_rsa_encryption}
use Rattle.rpki.specs.AlgorithmOctets.{algorithm_octets}
use Rattle.rpki.specs.SignedData.{SignedParts, parts_of, written_contents, written_signed}
use Rattle.rpki_c.specs.Signed.{SpellsRpki, IsOtherSigned, IsWalkedFault, IsWholeSignedFault}
use Rattle.rpki.specs.Extension.{extension_contents, extension_octets}

-- ---- What is made and written to the caller's buffer, of serial numbers, times and digits

-- Status 0 or 9: the octets are stored. 7: allocation failed, and nothing was written.
abbrev pub IsMade : List ℕ → ℕ → List ℕ → List ℕ → ℕ → ℕ → Type 0
IsMade octets status old new before after =
    IsStored octets status old new after ⊎ ((status ≡ out_of_memory) × IsUnwritten old new before after)

-- Where the first bit is zero, the INTEGER of the number is made. Else the status is 5, and nothing was written.
abbrev pub IsSerialWritten : List ℕ → ℕ → List ℕ → List ℕ → ℕ → ℕ → Type 0
IsSerialWritten twenty status old new before after =
    ((slice_index twenty 0 < 128) × IsMade (serial_octets (number_of twenty)) status old new before after)
    ⊎ ((128 ≤ slice_index twenty 0) × (status ≡ content) × IsUnwritten old new before after)

-- the calendar and a clock have these parts, in the years 0 to 9999
abbrev pub IsPossible : Moment → Type 0
IsPossible m = ArePossible m.year m.month m.day m.hour m.minute m.second

-- the time of these parts, with no part of a second
abbrev pub IsTimeOf : Moment → DateTime → Type 0
IsTimeOf m = HasParts m.year m.month m.day m.hour m.minute m.second

-- Where there is such a time, its value is made. Else the status is 5, and nothing was written.
abbrev pub IsTimeWritten : Moment → ℕ → List ℕ → List ℕ → ℕ → ℕ → Type 0
IsTimeWritten m status old new before after =
    ((t : DateTime) × IsTimeOf m t × IsMade (time_octets t) status old new before after)
    ⊎ ((IsPossible m → ⊥) × (status ≡ content) × IsUnwritten old new before after)

-- Status 0: this is the moment so many years on, on the same day, or on 28 February for 29 February. 5: there is no
-- such moment as the one that was given. 10: its year is not of 0 to 9999. Unless it is 0, nothing was written.
abbrev pub IsYearsLater : Moment → ℤ → ℕ → Moment → Moment → Type 0
IsYearsLater m years status old new =
    ((t : DateTime) × IsTimeOf m t
    × (((status ≡ 0) × ((u : DateTime) × IsYearsOn years t u × IsMoment u new))
    ⊎ ((status ≡ no_answer) × (IsTimeYear (m.year +ℤ years) → ⊥) × (new ≡ old))))
    ⊎ ((IsPossible m → ⊥) × (status ≡ content) × (new ≡ old))

-- ---- What is made of keys, names and signed data, and written to the caller's buffer

-- Where this condition holds, the octets are made. Else the status is 15, and nothing was written.
abbrev pub IsMadeIf : Type 0 → List ℕ → ℕ → List ℕ → List ℕ → ℕ → ℕ → Type 0
IsMadeIf fits octets status old new before after =
    (fits × IsMade octets status old new before after)
    ⊎ ((fits → ⊥) × (status ≡ too_long) × IsUnwritten old new before after)

-- the key's value has contents of fewer than 2^32 octets
abbrev pub IsShortKey : KeyParts → Type 0
IsShortKey k = (length (key_contents k) < 2 ^ 32) × (length (key_octets k) < 2 ^ 63)

-- The key that the octets are, as it is written, is made. 13: the identifier of its algorithm is another one. Else the
-- number of the error. Unless it is made, nothing was written.
abbrev pub IsKeyWritten : List ℕ → ℕ → List ℕ → List ℕ → ℕ → ℕ → Type 0
IsKeyWritten s status old new before after =
    ((k : KeyParts) × SpellsKey k s × IsMadeIf (IsShortKey k) (key_octets k) status old new before after)
    ⊎ (IsNoKey IsKeptKeyFault s status × IsUnwritten old new before after)

-- an RSA key of these two numbers
pub record IsRsaOf (modulus exponent : List ℕ) (k : KeyParts) : Type 0 where
  pub format : (k.format ≡ Rsa) × (k.bits.unused ≡ 0)
  pub bits : SpellsRsaNumbers (number_of modulus, number_of exponent) k.bits.octets

-- The key of the two numbers is made. 5: one of them has no octets. 15: they have more than 2^31 octets. 7: allocation
-- failed. Unless it is made, nothing was written.
abbrev pub IsRsaWritten : List ℕ → List ℕ → ℕ → List ℕ → List ℕ → ℕ → ℕ → Type 0
IsRsaWritten m e status old new before after =
    ((2 ^ 31 < length m + length e) × (status ≡ too_long) × IsUnwritten old new before after)
    ⊎ ((length m + length e ≤ 2 ^ 31)
    × (((k : KeyParts) × IsRsaOf m e k × IsMadeIf (IsShortKey k) (key_octets k) status old new before after)
    ⊎ (((m ≡ []) ⊎ (e ≡ [])) × (status ≡ content) × IsUnwritten old new before after)
    ⊎ (((m ≡ []) → ⊥) × ((e ≡ []) → ⊥) × (status ≡ 7) × IsUnwritten old new before after)))

-- Of bits that were not copied. 7: they are those of a key. Else the number of the error.
abbrev pub IsUncopied : List ℕ → ℕ → Type 0
IsUncopied bits status =
    ((k : KeyParts) × IsRsaKey k bits × (status ≡ out_of_memory))
    ⊎ IsRefused IsRsaKey (NeverMemory IsRsaKey rsa_public_key.fault) bits status

-- The key with these bits is made. 7: they are those of a key, and allocation failed. Else the number of the error.
-- Unless it is made, nothing was written.
abbrev pub IsBitsWritten : List ℕ → ℕ → List ℕ → List ℕ → ℕ → ℕ → Type 0
IsBitsWritten bits status old new before after =
    ((k : KeyParts) × IsRsaKey k bits × IsMadeIf (IsShortKey k) (key_octets k) status old new before after)
    ⊎ (IsUncopied bits status × IsUnwritten old new before after)

-- The name of the subject with the key that the octets are is made. 7: allocation failed. 13: the identifier of the
-- key's algorithm is another one. Else the number of the error. Unless it is made, nothing was written.
abbrev pub IsNameWritten : List ℕ → ℕ → List ℕ → List ℕ → ℕ → ℕ → Type 0
IsNameWritten s status old new before after =
    ((k : KeyParts) × SpellsKey k s × IsMade (subject_octets (sha1 k.bits.octets)) status old new before after)
    ⊎ (IsNoKey IsKeptKeyFault s status × IsUnwritten old new before after)

-- ---- What is made of signed data, and written to the caller's buffer

-- how the algorithm is written: with parameters
abbrev pub rpki_algorithm : Bool → List ℕ
rpki_algorithm has_parameters = algorithm_octets sha256_with_rsa_encryption true

-- the value has contents of fewer than 2^32 octets
abbrev pub IsShortSigned : SignedParts Bool → Type 0
IsShortSigned x =
    (length (written_contents rpki_algorithm x) < 2 ^ 32) × (length (written_signed rpki_algorithm x) < 2 ^ 63)

-- The signed data that the octets are, as it is written, is made. 13: the identifier of its algorithm is another one.
-- Else the number of the error. Unless it is made, nothing was written.
abbrev pub IsSignedWritten : List ℕ → ℕ → List ℕ → List ℕ → ℕ → ℕ → Type 0
IsSignedWritten s status old new before after =
    ((x : SignedParts Bool) × SpellsRpki x s
    × IsMadeIf (IsShortSigned x) (written_signed rpki_algorithm x) status old new before after)
    ⊎ ((status ≡ other_algorithm) × IsOtherSigned s × IsUnwritten old new before after)
    ⊎ (IsRefusedElse IsOtherSigned SpellsRpki IsWholeSignedFault s status × IsUnwritten old new before after)

-- the error of a reader of one value and of nothing else: allocation may fail where a constructed value begins
abbrev pub IsWholeValueFault : List ℕ → DecodeError → Type 0
IsWholeValueFault = IsWholeFault SpellsValue IsWalkedFault

-- signed data of a value and of a signature, and its contents
abbrev pub made_signed : List ℕ → List ℕ → List ℕ
made_signed d v = written_signed rpki_algorithm (parts_of d true v)

abbrev pub made_contents : List ℕ → List ℕ → List ℕ
made_contents d v = written_contents rpki_algorithm (parts_of d true v)

-- The octets are one value, and signed data of it and of the signature is made. Else the number of the error. Unless it
-- is made, nothing was written.
abbrev pub IsSignedMade : List ℕ → List ℕ → ℕ → List ℕ → List ℕ → ℕ → ℕ → Type 0
IsSignedMade d v status old new before after =
    (IsValue d × IsMadeIf (IsShortSigned (parts_of d true v)) (made_signed d v) status old new before after)
    ⊎ (IsRefused SpellsValue IsWholeValueFault d status × IsUnwritten old new before after)

-- ---- What is made of the parts of an extension, and written to the caller's buffer

-- the extension has contents of fewer than 2^32 octets
abbrev pub IsShortExtension : List ℕ → Bool → List ℕ → Type 0
IsShortExtension id critical octets =
    (length (extension_contents id critical octets) < 2 ^ 32) × (length (extension_octets id critical octets) < 2 ^ 63)

-- The extension of these parts is made.
abbrev pub IsExtensionWritten : List ℕ → Bool → List ℕ → ℕ → List ℕ → List ℕ → ℕ → ℕ → Type 0
IsExtensionWritten id critical octets status old new before after =
    IsMadeIf (IsShortExtension id critical octets) (extension_octets id critical octets) status old new before after
