-- What a signature is.
use Rattle.std.specs.Prelude.{ℕ, List}

-- the algorithm and the octets
pub record SignatureParts (A : Type 0) : Type 0 where
  pub algorithm : A
  pub value : List ℕ

abbrev pub signature_of : {A : Type 0} → A → List ℕ → SignatureParts A
signature_of algorithm value = record { algorithm = algorithm; value = value }
