-- The parts of signed data that are read in place: what is where, and which part is malformed, and why.
use Rattle.std.specs.Prelude.{◌≡◌, ◌++◌, ℕ, Bool, List, []}
use Rattle.rpki_der.specs.Prelude.{Accepts, Refuses, SpellsNothing, IsSection, IsValue}
use Rattle.rpki.specs.SignedData.{SignedParts, IsSignedContents}
use Rattle.rpki_x509.specs.declared.signed_parts.Parts.{Parts}
use Rattle.rpki_x509.specs.declared.signed_parts.SignedError.{SignedError}
use Rattle.rpki_x509.specs.declared.signed_parts.SignedPart.TheVariants.{Algorithm, Signature}
use Rattle.rpki_x509.specs.Signed.{SpellsRpkiAlgorithm, rpki_algorithm, SpellsUsed, IsSignatureFault}

-- the sections are those of the three parts of signed data
pub record ArePartsIn (x : SignedParts Bool) (s : List ℕ) (h : IsSignedContents SpellsRpkiAlgorithm x s) (v : Parts)
    : Type 0 where
  pub signed : IsSection v.signed x.signed (h.text ++ h.bits)
  pub same : v.signature_algorithm ≡ x.algorithm
  pub algorithm : IsSection v.algorithm h.text h.bits
  pub signature : IsSection v.signature x.value []
  pub used : h.signature.unused ≡ 0

-- all of s is the three parts, of which these are the sections
abbrev pub ArePartsAt : List ℕ → Parts → Type 0
ArePartsAt s v =
    (x : SignedParts Bool) × (h : IsSignedContents SpellsRpkiAlgorithm x s) × ArePartsIn x s h v

-- where d is a value, and m follows it, these are the parts of signed data
abbrev pub ArePartsBehind : List ℕ → List ℕ → Parts → Type 0
ArePartsBehind d m v = IsValue d → ArePartsAt (d ++ m) v

-- All of s should be the algorithm and a signature without unused bits: no algorithm begins it; or no such signature
-- follows.
pub data AreMalformed (s : List ℕ) (q : SignedError) : Type 0 where
  AtAlgorithm : Refuses SpellsRpkiAlgorithm s → rpki_algorithm.fault s q.error → q.part ≡ Algorithm → AreMalformed s q
  AtSignature : (b : Bool) (r : List ℕ) → Accepts SpellsRpkiAlgorithm s b r → SpellsNothing SpellsUsed r
      → IsSignatureFault r q.error → q.part ≡ Signature → AreMalformed s q
