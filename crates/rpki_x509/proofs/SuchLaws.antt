-- Readers of a value of which something has to hold, that move a copy of the cursor.
use Rattle.std.proofs.Common.{◌≡◌, ◌∙◌, ℕ, Bool, false, List, refl, sym}
use Rattle.std.specs.Prelude.{IsTrue}
use Rattle.std.proofs.lemmas.Bool.{false≢true}
use denote.Bor.{Bor}
use Rattle.rpki_der.specs.declared.error.DecodeError.{DecodeError}
use Rattle.rpki_der.specs.ErrorText.{content_error}
use Rattle.rpki_der.specs.Reading.{Accepts, Refusal}
use Rattle.rpki_der.specs.Format.{Format, such}
use Rattle.rpki_der.proofs.ChoiceLaws.{such-refused, such-nothing}

module _ {V O : Type 0} (R : V → O → Type 0) (F : Format O) {s r : List ℕ} where
  -- no value of F is there
  pub not-there : {e : DecodeError} → Refusal F.spells F.fault s r e → Refusal (such R F).spells (such R F).fault s s e
  not-there h = let k = such-refused R F h in record { unchanged = refl; refuses = k.refuses; kind = k.kind }

  -- nothing stands for it
  pub malformed : {o : O} {e : DecodeError} (text : Bor (List ℕ)) → e ≡ content_error text → Accepts F.spells s o r
      → ((v : V) → R v o → ⊥) → Refusal (such R F).spells (such R F).fault s s e
  malformed text is a none = rw is (such-nothing R F _ refl a none)

-- a test that is false, of what has to be true
pub not-so : (found wanted : Bool) → found ≡ false → found ≡ wanted → IsTrue wanted → ⊥
not-so found wanted not is so = false≢true (sym not ∙ is ∙ so)
