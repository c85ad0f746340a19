-- Rows of payloads, in sequence.
use Rattle.std.proofs.Common.{◌≡◌, ◌∙◌, ◌++◌, ℕ, Bool, true, false, List, [], ◌∷◌, append-nil, inl, inr, refl, sym}
use Rattle.std.proofs.Common.{subst}
use Rattle.std.proofs.lemmas.Bool.{false≢true}
use Rattle.std.proofs.lemmas.List.Elements.{All-append, All-cons, All-nil, filter-append}
use Rattle.std.specs.Bool.{MatchBool}
use Rattle.std.specs.List.{filter}
use Rattle.std.specs.Prelude.{Some, cond, not, Option}
use Rattle.csv.proofs.ReadFacts.{rows-more}
use Rattle.csv.specs.Reading.{ExplainsRead, Reached, TookRecord, default_config, source_of, strip_bom}
use Rattle.csv.specs.Records.{AllText}
use Rattle.csv.specs.declared.error.ErrorKind.{ErrorKind}
use Rattle.csv.specs.declared.error.ErrorKind.TheVariants as kind
use Rattle.csv.specs.declared.parser.State.{State}
use Rattle.csv.specs.declared.parser.State.TheVariants.{StartRecord}
use Rattle.csv.specs.declared.reader.Reader.{Reader}
use Rattle.rpki_payloads.specs.declared.payload_list.ListError.{ListError}
use Rattle.rpki_payloads.specs.declared.payload_list.ListError.TheVariants as E
use Rattle.rpki_payloads.specs.declared.vrp.Vrp.{Vrp}
use Rattle.rpki_payloads.specs.Exceptions.{AreEach}
use Rattle.rpki_payloads.specs.Listed.{AddsRow, AreRows, IsCsvFault, IsReadFault, IsRow, IsRowFault}
use Rattle.rpki_payloads.specs.Listed.{has_titles}
use Rattle.rpki_payloads.proofs.ExceptionLaws.{each-more}

-- one more
pub next-row : (rows : List (List (List ℕ))) (row : List (List ℕ)) (old new : List Vrp) → AreRows rows old
    → AllText row → AddsRow row old new → AreRows (rows ++ row ∷ []) new
next-row rows row old new h text adds = (
  All-append AllText rows _ h.0 (All-cons AllText row [] text (All-nil AllText)),
  subst (λ (rs : List (List (List ℕ))). AreEach IsRow rs new) (sym (filter-append (λ r. not (has_titles r)) rows _))
      (by (has_titles row) adds),
)
  where
    left : List (List (List ℕ))
    left = filter (λ r. not (has_titles r)) rows

    by : (b : Bool) → MatchBool b (new ≡ old) ((v : Vrp) × IsRow row v × (new ≡ old ++ v ∷ []))
        → AreEach IsRow (left ++ cond (not b) (row ∷ []) []) new
    by true e =
        subst (λ (rs : List (List (List ℕ))). AreEach IsRow rs new) (sym (append-nil left))
        (subst (λ (vs : List Vrp). AreEach IsRow left vs) (sym e) h.1)
    by false k =
        subst (λ (vs : List Vrp). AreEach IsRow (left ++ row ∷ []) vs) (sym k.2)
        (each-more IsRow left old row k.0 h.1 k.1)

-- ---- the row after those of payloads

module _ (octets : List ℕ) (rows : List (List (List ℕ))) (vrps : List Vrp) (are : AreRows rows vrps) where
  -- one that is read, and is that of no payload
  pub row-fault : (row : List (List ℕ)) (state : State) (rest : List ℕ)
      → Reached default_config StartRecord (strip_bom octets) (rows ++ row ∷ []) state rest
      → (e : ListError) → IsRowFault row e → IsCsvFault octets e
  row-fault row state rest reached (E.Line n) h = record {
    rows = rows;
    vrps = vrps;
    are = are;
    other = row;
    is_other = inr h;
    state = state;
    rest = rest;
    reached = reached;
  }
  row-fault row state rest reached E.OutOfMemory h = tt
  row-fault row state rest reached E.Json h = absurd h
  row-fault row state rest reached E.Roas h = absurd h
  row-fault row state rest reached (E.Element i) h = absurd h

  module _ {R : Type 0} (rem : R → Option (List ℕ)) (a b : Reader R) (y : List ℕ) (config : a.config ≡ default_config)
      (flexible : a.flexible ≡ true) (source : source_of rem a ≡ Some y)
      (reached : Reached default_config StartRecord (strip_bom octets) rows a.state y) where
    took : (f : List (List ℕ)) → TookRecord rem a b f
        → (state : State) × (rest : List ℕ)
        × Reached default_config StartRecord (strip_bom octets) (rows ++ f ∷ []) state rest
    took f r =
        let m = rows-more rem a
        (record b { bom_checked = true; config = a.config; trim = a.trim; has_headers = a.has_headers }) f
        default_config StartRecord (strip_bom octets) y rows config source reached
        (r, refl, refl, refl, refl, λ _ e. absurd (false≢true (sym e ∙ flexible))) in
        (b.state, m.0, m.2)

    other-text : (f : List (List ℕ)) → TookRecord rem a b f → (AllText f → ⊥) → (n : ℕ) → IsCsvFault octets (E.Line n)
    other-text f r none n =
        let t = took f r in record {
          rows = rows;
          vrps = vrps;
          are = are;
          other = f;
          is_other = inl none;
          state = t.0;
          rest = t.1;
          reached = t.2;
        }

    -- one that can't be read: it is no text
    pub read-fault : (k : ErrorKind) → ExplainsRead rem a b true k → (e : ListError) → IsReadFault k e
        → IsCsvFault octets e
    read-fault (kind.Io io) why e is = subst (IsCsvFault octets) (sym is) tt
    read-fault (kind.Utf8 pos err) why e is =
        subst (IsCsvFault octets) (sym is.1) (other-text why.1 why.2 why.3 is.0)
    read-fault (kind.UnequalLengths pos expected len) why e is = subst (IsCsvFault octets) (sym is) tt
    read-fault (kind.Serialize text) why e is = subst (IsCsvFault octets) (sym is) tt
    read-fault (kind.Deserialize pos err) why e is = subst (IsCsvFault octets) (sym is) tt
    read-fault kind.OutOfMemory why e is = subst (IsCsvFault octets) (sym is) tt
