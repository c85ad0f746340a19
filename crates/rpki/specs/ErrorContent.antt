-- What the errors of the repository hold.
use Rattle.std.specs.Prelude.{◌≡◌, ℕ, Bool, List, Option, Some, IsTrue}
use Rattle.rpki_der.specs.declared.error.ContentError.{ContentError}
use Rattle.rpki_der.specs.declared.error.DecodeError.{DecodeError}
use Rattle.rpki_der.specs.Prelude.{text_of, error_text}
use Rattle.rpki.specs.declared.repository.error.InspectionError.{InspectionError}
use Rattle.rpki.specs.declared.repository.error.VerificationError.{VerificationError}
use Rattle.rpki.specs.declared.repository.error.ValidationError.{ValidationError}
use Rattle.rpki.specs.declared.repository.error.ValidationError.TheVariants.{Decoding, Inspection, Verification}

-- the error of contents inside
abbrev pub content_of : InspectionError → ContentError
content_of e = e.inner

abbrev pub verification_content : VerificationError → ContentError
verification_content e = e.inner

-- the text of what is inside
abbrev pub validation_text : ValidationError → Option (List ℕ)
validation_text (Decoding e) = Some (error_text e)
validation_text (Inspection e) = Some (text_of (content_of e))
validation_text (Verification e) = Some (text_of (verification_content e))

-- errors of one kind: equal decoding errors, or the same text
abbrev pub HaveSameContent : (DecodeError → DecodeError → Bool) → ValidationError → ValidationError → Type 0
HaveSameContent same (Decoding d) (Decoding e) = IsTrue (same d e)
HaveSameContent same (Inspection d) (Inspection e) = text_of (content_of d) ≡ text_of (content_of e)
HaveSameContent same (Verification d) (Verification e) =
    text_of (verification_content d) ≡ text_of (verification_content e)
HaveSameContent same (Decoding d) (Inspection e) = ⊥
HaveSameContent same (Decoding d) (Verification e) = ⊥
HaveSameContent same (Inspection d) (Decoding e) = ⊥
HaveSameContent same (Inspection d) (Verification e) = ⊥
HaveSameContent same (Verification d) (Decoding e) = ⊥
HaveSameContent same (Verification d) (Inspection e) = ⊥

-- errors of inspection, and of verification, with the same text
abbrev pub HaveSameText : InspectionError → InspectionError → Type 0
HaveSameText d e = text_of (content_of d) ≡ text_of (content_of e)

abbrev pub HaveSameReason : VerificationError → VerificationError → Type 0
HaveSameReason d e = text_of (verification_content d) ≡ text_of (verification_content e)
