-- What is said of an object's signatures: what was checked of them.
use Rattle.std.specs.Prelude.{◌&&◌, not, ℕ, Bool, true, false, if◌then◌else◌, List, codes, Option, Some, None}
use Rattle.rpki_cert.specs.Cert.{CertParts}
use Rattle.rpki_fields.specs.declared.object.Object.{Object}
use Rattle.rpki_fields.specs.declared.object.Object.TheVariants.{Certificate, Crl, Manifest, Roa}
use Rattle.rpki_fields.specs.declared.object.Object.TheVariants.{Aspa, SignedObject, OtherCertificate}
use Rattle.rpki_fields.specs.declared.object.Object.TheVariants.{Checklist, TrustAnchorKey, Ghostbusters}
use Rattle.rpkicert.specs.declared.fault.Clause.{Clause}
use Rattle.rpkicert.specs.declared.fault.Clause.TheVariants as C
use Rattle.rpkicert.specs.declared.fault.Fault.{Fault}
use Rattle.rpkicert.specs.declared.fault.Fault.TheVariants.{Unreadable, TooLarge, OutOfMemory, Malformed, Refused}
use Rattle.rpkicert.specs.declared.fault.Fault.TheVariants.{OtherText}
use Rattle.rpkicert.specs.declared.fault.Fault.TheVariants.{Empty, Neither, NoLocator}
use Rattle.rpkicert.specs.declared.fault.Fault.TheVariants.{Violated, Unverified, NoCertificate, NoList, OtherAlgorithm}
use Rattle.rpkicert.specs.declared.signature.Signature.{Signature}
use Rattle.rpkicert.specs.declared.signature.Signature.TheVariants.{Good, Own, Bad, Unchecked}
use Rattle.rpkicert.specs.Fault.{is_bad_signature}
use Rattle.rpkicert.specs.Requirements.{is_self_issued}

-- ---- words

-- each signature is good, up to the issuer's; only the object's own, by the certificate in it; one isn't; none was
-- checked
abbrev pub signature_text : Signature → List ℕ
signature_text Good = codes "good"
signature_text Own = codes "good, issuer not checked"
signature_text Bad = codes "bad signature"
signature_text Unchecked = codes "not checked"

-- that all is well, as far as it was checked
abbrev pub good_text : Signature → List ℕ
good_text Good = codes "OK"
good_text Own = codes "OK, issuer not checked"
good_text Bad = codes "OK, issuer not checked"
good_text Unchecked = codes "OK, issuer not checked"

-- ---- which was checked

-- a self-issued certificate is its own issuer
abbrev pub of_certificate : CertParts → Signature
of_certificate c = if is_self_issued c then Good else Unchecked

-- of an object that holds by itself, without an issuer
abbrev pub signature_alone : Object → Signature
signature_alone (Certificate c) = of_certificate c
signature_alone (Crl l) = Unchecked
signature_alone (Manifest m) = Own
signature_alone (Roa r) = Own
signature_alone (Aspa a) = Own
signature_alone (Checklist o) = Own
signature_alone (TrustAnchorKey o) = Own
signature_alone (Ghostbusters o) = Own
signature_alone (SignedObject o) = Own
signature_alone (OtherCertificate c) = Unchecked

-- of an object that holds, and is of the issuer, if one is asked for
abbrev pub signature_of : (issued : Bool) → Object → Signature
signature_of true x = Good
signature_of false x = signature_alone x

-- the certificate that the object is, or that of its signer, can be revoked by its issuer
abbrev pub is_revocable : Object → Bool
is_revocable (Crl l) = false
is_revocable x = true

-- that all is well with an object that holds, and is of the issuer, and not on its revocation list, if these are asked
-- for
abbrev pub well_text : (issued listed : Bool) → Object → List ℕ
well_text issued listed x =
    if issued && is_revocable x && not listed then codes "OK, revocation not checked"
    else good_text (signature_of issued x)

-- what was checked before this clause was found broken, with this error
abbrev pub checked_at : Clause → Bool → Signature
checked_at C.Period bad = Unchecked
checked_at C.Updates bad = Unchecked
checked_at C.Manifest bad = Unchecked
checked_at C.Object bad = if bad then Bad else Unchecked
checked_at C.Inherited bad = Own
checked_at C.Origins bad = Own
checked_at C.Customer bad = Own
checked_at C.Anchor bad = Bad
checked_at C.Certificate bad = if bad then Bad else Good
checked_at C.List bad = if bad then Bad else Good
checked_at C.Revoked bad = Good

-- of a fault
abbrev pub signature_in : Fault → Signature
signature_in (Unverified clause e) = checked_at clause (is_bad_signature e)
signature_in (Unreadable cause) = Unchecked
signature_in TooLarge = Unchecked
signature_in OutOfMemory = Unchecked
signature_in Empty = Unchecked
signature_in Neither = Unchecked
signature_in (NoLocator e) = Unchecked
signature_in Malformed = Unchecked
signature_in (OtherText kind) = Unchecked
signature_in (Refused kind place e) = Unchecked
signature_in (Violated v) = Unchecked
signature_in NoCertificate = Unchecked
signature_in NoList = Unchecked
signature_in OtherAlgorithm = Unchecked

-- of an object that doesn't hold, for this fault; or that holds, and is of the issuer, if one is asked for
abbrev pub signature_found : (issued : Bool) → Object → Option Fault → Signature
signature_found issued x None = signature_of issued x
signature_found issued x (Some fault) = signature_in fault
