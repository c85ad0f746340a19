-- What a status says of the octets of signed data.
use Rattle.std.specs.Prelude.{◌≡◌, ◌⊎◌, ℕ, Bool, List}
use Rattle.rpki_der.specs.declared.error.DecodeError.{DecodeError}
use Rattle.rpki_der.specs.Reading.{OrMemoryWhere, IsWholeFault}
use Rattle.rpki_der.specs.Members.{SpellsValue}
use Rattle.rpki_der.specs.Walk.{HasConstructed}
use Rattle.rpki_der.specs.NestedFault.{IsCaptureFault}
use Rattle.rpki_der.specs.Format.{Format, only}
use Rattle.rpki_der.specs.LeafFormats.{bits_value}
use Rattle.rpki.specs.Oids.{sha256_with_rsa_encryption}
use Rattle.rpki.specs.Algorithm.{SpellsAlgorithm}
use Rattle.rpki.specs.AlgorithmFault.{algorithm}
use Rattle.rpki.specs.SignedData.{SignedParts, parts_of, IsSignedContents, SpellsSigned}
use Rattle.rpki.specs.SignedFault.{three, around_three}
use Rattle.rpki_c.specs.declared.signed.SignedParts.{SignedParts as Parts}
use Rattle.rpki_c.specs.declared.signed.SignedView.{SignedView}
use Rattle.rpki_c.specs.Status.{other_algorithm}
use Rattle.rpki_c.specs.Identifier.{IsOther, HoldsFirst, FollowsValue}
use Rattle.rpki_c.specs.Whole.{IsRefusedElse}

-- the algorithm of the RPKI, of which it is said whether it has parameters
abbrev pub SpellsRpkiAlgorithm : Bool → List ℕ → Type 0
SpellsRpkiAlgorithm = SpellsAlgorithm sha256_with_rsa_encryption

-- signed data of the RPKI
abbrev pub SpellsRpki : SignedParts Bool → List ℕ → Type 0
SpellsRpki = SpellsSigned SpellsRpkiAlgorithm

-- the three parts of it, and nothing else
abbrev pub AreRpkiParts : SignedParts Bool → List ℕ → Type 0
AreRpkiParts = IsSignedContents SpellsRpkiAlgorithm

-- the error of a value that is walked: allocation may fail where a constructed value begins
abbrev pub IsWalkedFault : List ℕ → DecodeError → Type 0
IsWalkedFault = OrMemoryWhere HasConstructed IsCaptureFault

abbrev pub walked_value : Format (List ℕ)
walked_value = record { spells = SpellsValue; fault = IsWalkedFault }

-- the error of the three parts and nothing else
abbrev pub IsAllPartsFault : List ℕ → DecodeError → Type 0
IsAllPartsFault = (only (three walked_value (algorithm sha256_with_rsa_encryption) bits_value)).fault

-- the error of a reader of signed data, and of a reader of nothing else
abbrev pub IsSignedFault : List ℕ → DecodeError → Type 0
IsSignedFault = (around_three walked_value (algorithm sha256_with_rsa_encryption) bits_value).fault

abbrev pub IsWholeSignedFault : List ℕ → DecodeError → Type 0
IsWholeSignedFault = IsWholeFault SpellsRpki IsSignedFault

-- a value, and after it the identifier of another algorithm; whatever follows
abbrev pub AreOtherParts : List ℕ → Type 0
AreOtherParts = FollowsValue (IsOther SpellsRpkiAlgorithm)

-- the same in a SEQUENCE: signed data of another algorithm, as far as its identifier
abbrev pub IsOtherSigned : List ℕ → Type 0
IsOtherSigned = HoldsFirst AreOtherParts

-- the parts of a view
abbrev pub signed_in : SignedView → SignedParts Bool
signed_in v = parts_of v.«data».now v.has_parameters v.signature.now

-- The contents are these parts; the algorithm's octets, and the count of unused bits, are those of the view.
pub record AreInContents (c : List ℕ) (v : SignedView) : Type 0 where
  pub spelled : AreRpkiParts (signed_in v) c
  pub algorithm : v.algorithm.now ≡ spelled.text
  pub unused : v.unused ≡ spelled.signature.unused

-- the same of the SEQUENCE around them
pub record AreInSigned (s : List ℕ) (v : SignedView) : Type 0 where
  pub spelled : SpellsRpki (signed_in v) s
  pub algorithm : v.algorithm.now ≡ spelled.spelled.text
  pub unused : v.unused ≡ spelled.spelled.signature.unused

-- the octets are signed data, whose parts these are
pub record HasSigned (s : List ℕ) (p : Parts) : Type 0 where
  pub parts : SignedParts Bool
  pub spelled : SpellsRpki parts s
  pub signed : p.«data».octets.now ≡ parts.signed
  pub algorithm : p.algorithm.octets.now ≡ spelled.spelled.text
  pub signature : p.signature.octets.now ≡ parts.value
  pub unused : p.unused ≡ spelled.spelled.signature.unused
  pub parameters : p.has_parameters ≡ parts.algorithm

-- Status 0: the octets are signed data of these parts. 13: the identifier of its algorithm is another
-- one. Else the number of the error. Only with 0 is anything written.
abbrev pub IsSignedRead : List ℕ → ℕ → Parts → Parts → Type 0
IsSignedRead s status old new =
    ((status ≡ 0) × HasSigned s new)
    ⊎ ((status ≡ other_algorithm) × IsOtherSigned s × (new ≡ old))
    ⊎ (IsRefusedElse IsOtherSigned SpellsRpki IsWholeSignedFault s status × (new ≡ old))
