-- What is signed of a request, in signed data.
use Rattle.std.proofs.Common.{◌≡◌, ◌≢◌, ◌∙◌, ℕ, Bool, List, [], refl, ap}
use Rattle.rpki_der.specs.declared.error.DecodeError.{DecodeError}
use Rattle.rpki_der.specs.declared.error.DecodeError.TheVariants.{Trailing}
use Rattle.rpki_der.specs.Reading.{Accepts, Refusal, SpellsNothing}
use Rattle.rpki_der.specs.FirstFault.FirstFault.{AtPart, Later}
use Rattle.rpki_der.proofs.ReadingLaws.{UnlessMemory-weaker}
use Rattle.rpki_der.proofs.ComposedLaws.{all-read, nothing-whole, nothing-after}
use Rattle.rpki.specs.SignedData.{SignedParts}
use Rattle.rpki_x509.specs.Signed.{SpellsWhole, IsWholeSignedFault}
use Rattle.rpki_x509.proofs.StandingForLaws.{none-there, none-stands, one-stands}
use Rattle.rpki_request.specs.Request.{InfoParts, Fields, fields_of, request_info, RequestParts, request_parts}
use Rattle.rpki_request.specs.Request.{IsInfoIn, IsNoInfo, request}

abbrev info_from : Fields → InfoParts
info_from f = record { subject = f.1.0; key = f.1.1.0; asked = f.1.1.1.1 }

-- there is no signed data
pub unsigned : (s r : List ℕ) (e : DecodeError) → Refusal SpellsWhole IsWholeSignedFault s r e
    → Refusal request.spells request.fault s s e
unsigned s r e h = none-there IsInfoIn SpellsWhole IsWholeSignedFault IsNoInfo h

module _ (s r : List ℕ) (d : SignedParts Bool) (a : Accepts SpellsWhole s d r) where
  no-info : SpellsNothing request_info.spells d.signed → (x : RequestParts) → IsInfoIn x d → ⊥
  no-info none x h = none (fields_of x.info) h.info

  -- what is signed is none
  pub not-info : (q : List ℕ) (e : DecodeError) → Refusal request_info.spells request_info.fault d.signed q e
      → Refusal request.spells request.fault s s e
  not-info q e h =
      none-stands IsInfoIn SpellsWhole IsWholeSignedFault IsNoInfo a
      (UnlessMemory-weaker e (λ none. no-info (nothing-whole request_info.spells d.signed none)) h.refuses)
      (AtPart h.refuses h.kind)

  module _ (x : InfoParts) (q : List ℕ) (b : Accepts request_info.spells d.signed (fields_of x) q) where
    -- something follows it
    pub more-signed : q ≢ [] → Refusal request.spells request.fault s s Trailing
    more-signed some =
        none-stands IsInfoIn SpellsWhole IsWholeSignedFault IsNoInfo a
        (no-info (nothing-after request_info.spells d.signed q (fields_of x) b some))
        (Later (fields_of x) q b (some, refl))

    module _ (end : q ≡ []) where
      one : (y : RequestParts) → IsInfoIn y d → y.info ≡ x
      one y h =
          ap info_from ((all-read request_info.spells d.signed (fields_of x) q b end).1 (fields_of y.info) h.info)

      same-info : (y : RequestParts) → IsInfoIn y d → y ≡ request_parts d x
      same-info y h =
          ap (λ (t : SignedParts Bool). request_parts t y.info) h.same
          ∙ ap (λ (l : InfoParts). request_parts d l) (one y h)

      pub is-info : Accepts request.spells s (request_parts d x) r
      is-info =
          one-stands IsInfoIn SpellsWhole IsWholeSignedFault IsNoInfo (request_parts d x) a
          (record { same = refl; info = (all-read request_info.spells d.signed (fields_of x) q b end).0 })
          same-info
