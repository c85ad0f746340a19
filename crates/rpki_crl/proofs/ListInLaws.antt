-- A revocation list in signed data.
use Rattle.std.proofs.Common.{◌≡◌, ◌≢◌, ◌∙◌, ℕ, Bool, true, false, List, [], inl, inr, refl, sym, ap}
use Rattle.std.proofs.Math.Bool.{beq}
use Rattle.std.specs.Prelude.{codes, not}
use Rattle.rpki_der.specs.declared.error.DecodeError.{DecodeError}
use Rattle.rpki_der.specs.declared.error.DecodeError.TheVariants.{Trailing}
use Rattle.rpki_der.specs.Reading.{Accepts, Refusal, SpellsNothing}
use Rattle.rpki_der.specs.FirstFault.FirstFault.{AtPart, Later}
use Rattle.rpki_der.proofs.ReadingLaws.{UnlessMemory-weaker, UnlessMemory-from}
use Rattle.rpki_der.proofs.ComposedLaws.{all-read, nothing-whole, nothing-after}
use Rattle.rpki.specs.SignedData.{SignedParts}
use Rattle.rpki.specs.UnknownAlgorithm.{IsContentWith}
use Rattle.rpki_x509.specs.Signed.{SpellsWhole}
use Rattle.rpki_x509.specs.Signed.{IsWholeSignedFault}
use Rattle.rpki_crl.specs.Crl.{ListParts, Fields, fields_of, tbs_cert_list, CrlParts, crl_parts, IsListIn, IsNoList}
use Rattle.rpki_crl.specs.Crl.{crl}
use Rattle.rpki_x509.proofs.StandingForLaws.{none-there, none-stands, one-stands}

abbrev list_from : Fields → ListParts
list_from f = record {
  algorithm = f.1.0;
  issuer = f.1.1.0;
  this_update = f.1.1.1.0;
  next_update = f.1.1.1.1.0;
  revoked = f.1.1.1.1.1.0;
  extensions = f.1.1.1.1.1.1;
}

-- there is no signed data
pub unsigned : (s r : List ℕ) (e : DecodeError) → Refusal SpellsWhole IsWholeSignedFault s r e
    → Refusal crl.spells crl.fault s s e
unsigned s r e h = none-there IsListIn SpellsWhole IsWholeSignedFault IsNoList h

module _ (s r : List ℕ) (d : SignedParts Bool) (a : Accepts SpellsWhole s d r) where
  no-list : SpellsNothing tbs_cert_list.spells d.signed → (x : CrlParts) → IsListIn x d → ⊥
  no-list none x h = none (fields_of x.list) h.list

  -- what is signed is no list
  pub not-list : (q : List ℕ) (e : DecodeError) → Refusal tbs_cert_list.spells tbs_cert_list.fault d.signed q e
      → Refusal crl.spells crl.fault s s e
  not-list q e h =
      none-stands IsListIn SpellsWhole IsWholeSignedFault IsNoList a
      (UnlessMemory-weaker e (λ none. no-list (nothing-whole tbs_cert_list.spells d.signed none)) h.refuses)
      (AtPart h.refuses h.kind)

  module _ (x : ListParts) (q : List ℕ) (b : Accepts tbs_cert_list.spells d.signed (fields_of x) q) where
    -- something follows it
    pub more-signed : q ≢ [] → Refusal crl.spells crl.fault s s Trailing
    more-signed some =
        none-stands IsListIn SpellsWhole IsWholeSignedFault IsNoList a
        (no-list (nothing-after tbs_cert_list.spells d.signed q (fields_of x) b some))
        (Later (fields_of x) q b (inl (some, refl)))

    module _ (end : q ≡ []) where
      one : (y : CrlParts) → IsListIn y d → y.list ≡ x
      one y h = ap list_from ((all-read tbs_cert_list.spells d.signed (fields_of x) q b end).1 (fields_of y.list)
          h.list)

      -- the algorithms differ
      pub differ : (e : DecodeError) → (x.algorithm ≡ d.algorithm → ⊥)
          → IsContentWith (codes "signature algorithms differ") e → Refusal crl.spells crl.fault s s e
      differ e other text =
          none-stands IsListIn SpellsWhole IsWholeSignedFault IsNoList a
          (UnlessMemory-from e (λ y h. other (sym (ap (λ (l : ListParts). l.algorithm) (one y h)) ∙ h.algorithm)))
          (Later (fields_of x) q b (inr (other, text)))

      same-list : (y : CrlParts) → IsListIn y d → y ≡ crl_parts d x
      same-list y h =
          ap (λ (t : SignedParts Bool). crl_parts t y.list) h.same ∙ ap (λ (l : ListParts). crl_parts d l) (one y h)

      -- they are the same
      pub is-list : x.algorithm ≡ d.algorithm → Accepts crl.spells s (crl_parts d x) r
      is-list same =
          one-stands IsListIn SpellsWhole IsWholeSignedFault IsNoList (crl_parts d x) a
          (record {
            same = refl;
            list = (all-read tbs_cert_list.spells d.signed (fields_of x) q b end).0;
            algorithm = same;
          })
          same-list

-- two that are said to differ
pub no-difference : (a b : Bool) → a ≡ b → not (beq a b) ≡ true → ⊥
no-difference true true e d = cc
no-difference true false e d = cc
no-difference false true e d = cc
no-difference false false e d = cc
