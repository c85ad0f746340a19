-- What is counted under a locator, beside its payloads.
use Rattle.std.specs.Prelude.{◌≡◌, ◌+◌, ◌||◌, ℕ, Bool, true, false, List, [], ◌∷◌, Option, Some, if◌then◌else◌}
use Rattle.std.specs.Prelude.{bytes_eq}
use Rattle.std.specs.List.{Contains}
use Rattle.rpki_locator.specs.declared.anchor_uri.AnchorUri.{AnchorUri}
use Rattle.rpki.specs.declared.repository.error.ValidationError.{ValidationError}
use Rattle.rpki.specs.declared.repository.error.ValidationError.TheVariants as V
use Rattle.rpki.specs.ErrorContent.{verification_content}
use Rattle.rpki_der.specs.Prelude.{text_of}
use Rattle.rpki_payloads.specs.declared.tally.Reasons.{Reasons}
use Rattle.rpki_payloads.specs.declared.tally.Tally.{Tally}
use Rattle.rpki_valid.specs.ErrorTexts.{early_text, late_text, later_list_text, later_manifest_text, revoked_text}
use Rattle.rpki_valid.specs.ErrorTexts.{stale_list_text, stale_manifest_text}
use Rattle.rpki_valid.specs.Verified.{Holder}
use Rattle.rpki_validation.specs.declared.outcome.Rejection.{Rejection}
use Rattle.rpki_validation.specs.declared.reason.Reason.{Reason}
use Rattle.rpki_validation.specs.declared.reason.Reason.TheVariants as R
use Rattle.rpki_validation.specs.Basis.{Basis}
use Rattle.rpki_validation.specs.Counts.{Counts}
use Rattle.rpki_validation.specs.Rejected.{IsNotedUnder, IsRejection}
use Rattle.rpki_validation.specs.Snapshot.{Published, Where}
use Rattle.rpkivalid.specs.declared.counted.Kind.{Kind}
use Rattle.rpkivalid.specs.declared.counted.Kind.TheVariants.{Missing, Digest, Stale, Expired, Revoked}
use Rattle.rpkivalid.specs.declared.counted.Kind.TheVariants.{Malformed, Invalid}

-- how many of the rejections are of publication points, and how many of objects
abbrev pub points_in : List Rejection → ℕ
points_in [] = 0
points_in (r ∷ rs) = (if r.is_point then 1 else 0) + points_in rs

abbrev pub objects_in : List Rejection → ℕ
objects_in [] = 0
objects_in (r ∷ rs) = (if r.is_point then 0 else 1) + objects_in rs

-- ---- for which reasons

-- of an error of verification, by its text: of a manifest or a revocation list that is stale, or issued later
abbrev pub is_stale : (text : List ℕ) → Bool
is_stale text =
    bytes_eq text stale_manifest_text || (bytes_eq text later_manifest_text || (bytes_eq text stale_list_text
    || bytes_eq text later_list_text))

-- of a certificate that has expired, or is not yet valid
abbrev pub is_expired : (text : List ℕ) → Bool
is_expired text = bytes_eq text late_text || bytes_eq text early_text

abbrev pub verification_kind : (text : List ℕ) → Kind
verification_kind text =
    if is_stale text then Stale
    else if is_expired text then Expired
    else if bytes_eq text revoked_text then Revoked
    else Invalid

abbrev pub invalid_kind : ValidationError → Kind
invalid_kind (V.Decoding e) = Malformed
invalid_kind (V.Inspection e) = Malformed
invalid_kind (V.Verification e) = verification_kind (text_of (verification_content e))

abbrev pub kind_of : Reason → Kind
kind_of R.MissingAnchor = Missing
kind_of R.NoRepository = Missing
kind_of R.NoManifest = Missing
kind_of R.Missing = Missing
kind_of R.NoList = Missing
kind_of (R.MissingFile uri) = Missing
kind_of (R.OtherFile uri) = Digest
kind_of R.LongUri = Malformed
kind_of (R.MalformedCert e) = Malformed
kind_of (R.Malformed e) = Malformed
kind_of (R.Invalid e) = invalid_kind e

abbrev pub is_kind : Kind → Kind → Bool
is_kind Missing Missing = true
is_kind Digest Digest = true
is_kind Stale Stale = true
is_kind Expired Expired = true
is_kind Revoked Revoked = true
is_kind Malformed Malformed = true
is_kind Invalid Invalid = true
is_kind one other = false

-- how many of the rejections are for a reason of a kind
abbrev pub count_of : Kind → List Rejection → ℕ
count_of k [] = 0
count_of k (r ∷ rs) = (if is_kind k (kind_of r.reason) then 1 else 0) + count_of k rs

abbrev pub reasons_of : List Rejection → Reasons
reasons_of rs = record {
  missing = count_of Missing rs;
  digest = count_of Digest rs;
  stale = count_of Stale rs;
  expired = count_of Expired rs;
  revoked = count_of Revoked rs;
  malformed = count_of Malformed rs;
  invalid = count_of Invalid rs;
}

abbrev pub tally_of : Bool → List Rejection → Tally
tally_of anchored rs = record {
  is_anchored = anchored;
  points = points_in rs;
  objects = objects_in rs;
  reasons = reasons_of rs;
}

-- Counted are rejections under the locator, and each that there is under an authority that counts; and whether there is
-- a trust anchor.
pub record IsCounted (known : Option Published) (basis : Basis) (uris : List AnchorUri) (tally : Option Tally)
    (anchored : Bool) : Type 0 where
  pub rejections : List Rejection
  pub are : Where known (λ published. (r : Rejection) → Contains rejections r → IsRejection published basis uris r)
  pub all : Where known (λ published. (x : Holder) → Counts published basis uris x
      → IsNotedUnder published basis uris rejections x)
  pub tally_is : tally ≡ Some (tally_of anchored rejections)
