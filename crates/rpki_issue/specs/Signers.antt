-- What is issued by a signer: some signature is taken, as the second step takes it.
use Rattle.std.specs.Prelude.{ℕ, List}
use Rattle.rpki.specs.Provider.{Checkers}
use Rattle.rpki.specs.PublicKey.{KeyParts}
use Rattle.rpki_issue.specs.declared.signer.SigningError.{SigningError}
use Rattle.rpki_issue.specs.declared.signer.SigningError.TheVariants.{Signer, Refused}
use Rattle.rpki_issue.specs.Signing.{ToSign, IsIssuedCert, IsSigningRefusal}
use Rattle.rpki_issue.specs.SignedList.{ListToSign, IsIssuedList}
use Rattle.rpki_issue.specs.SignedObjects.{ObjectToSign, IsIssuedObject, IsObjectRefused}

abbrev pub IsSignedCert : Checkers → KeyParts → ToSign → List ℕ → Type 0
IsSignedCert by key made whole = (value : List ℕ) × IsIssuedCert by key made value whole

abbrev pub IsSignedList : Checkers → KeyParts → ListToSign → List ℕ → Type 0
IsSignedList by key made whole = (value : List ℕ) × IsIssuedList by key made value whole

abbrev pub IsSignedObject : Checkers → ObjectToSign → List ℕ → List ℕ → Type 0
IsSignedObject by made certificate whole = (value : List ℕ) × IsIssuedObject by made certificate value whole

-- the signer's error, or what the second step refuses of some signature
abbrev pub IsSignerRefusal : {E : Type 0} → Checkers → KeyParts → List ℕ → SigningError E → Type 0
IsSignerRefusal by key octets (Signer e) = Unit {0}
IsSignerRefusal by key octets (Refused w) = (value : List ℕ) × IsSigningRefusal by key octets value w

abbrev pub IsObjectSignerRefusal : {E : Type 0} → Checkers → ObjectToSign → List ℕ → SigningError E → Type 0
IsObjectSignerRefusal by made certificate (Signer e) = Unit {0}
IsObjectSignerRefusal by made certificate (Refused w) = (value : List ℕ) × IsObjectRefused by made certificate value w
