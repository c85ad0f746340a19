-- Why objects are rejected, in words.
use Rattle.std.specs.Prelude.{ℕ, List, ◌++◌, codes}
use Rattle.rpki_der.specs.Prelude.{text_of, error_text}
use Rattle.rpki.specs.declared.repository.error.ValidationError.{ValidationError}
use Rattle.rpki.specs.declared.repository.error.ValidationError.TheVariants.{Decoding, Inspection, Verification}
use Rattle.rpki.specs.ErrorContent.{content_of, verification_content}
use Rattle.rpki_validation.specs.declared.reason.Reason.{Reason}
use Rattle.rpki_validation.specs.declared.reason.Reason.TheVariants.{MissingAnchor, NoRepository, NoManifest, Missing}
use Rattle.rpki_validation.specs.declared.reason.Reason.TheVariants.{NoList, MissingFile, OtherFile, LongUri}
use Rattle.rpki_validation.specs.declared.reason.Reason.TheVariants.{MalformedCert, Malformed, Invalid}

-- why an object is not valid: the text of the error, which begins with the section of the rule
abbrev pub invalid_text : ValidationError → List ℕ
invalid_text (Decoding e) = codes "invalid: " ++ error_text e
invalid_text (Inspection e) = codes "invalid: " ++ text_of (content_of e)
invalid_text (Verification e) = codes "invalid: " ++ text_of (verification_content e)

-- why it is rejected
abbrev pub reason_text : Reason → List ℕ
reason_text MissingAnchor = codes "RFC 8630 3: no trust anchor was fetched"
reason_text NoRepository = codes "RFC 6487 4.8.8.1: no repository is named"
reason_text NoManifest = codes "RFC 6487 4.8.8.1: no manifest is named"
reason_text Missing = codes "RFC 9286 6.2: no manifest"
reason_text NoList = codes "RFC 6481 2.2: not one revocation list"
reason_text (MissingFile uri) = codes "RFC 9286 6.4: no file at " ++ uri
reason_text (OtherFile uri) = codes "RFC 9286 6.5: another digest at " ++ uri
reason_text LongUri = codes "the URI of a file is too long"
reason_text (MalformedCert e) = codes "malformed: " ++ error_text e.error
reason_text (Malformed e) = codes "malformed: " ++ error_text e
reason_text (Invalid e) = invalid_text e
