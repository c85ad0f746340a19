-- The entries of a revocation list, read in place.
use Rattle.std.proofs.Common.{◌≡◌, ◌≢◌, ◌⊎◌, ◌∙◌, ◌++◌, ℕ, Bool, true, false, List, [], ◌∷◌, refl, sym, ap, subst}
use Rattle.std.proofs.Common.{Result, Ok, Err}
use Rattle.std.specs.Prelude.{◌||◌, nat_eq}
use Rattle.rpki_der.specs.declared.error.DecodeError.{DecodeError}
use Rattle.rpki_der.specs.declared.error.DecodeError.TheVariants.{OutOfMemory}
use Rattle.rpki_der.specs.TagName.{integer, sequence}
use Rattle.rpki_der.specs.Reading.{Accepts, Refuses, Refusal, Spells, SpellsNothing, OrMemoryWhere, Finds}
use Rattle.rpki_der.specs.Values.{SpellsContents, IsContentsFault}
use Rattle.rpki_der.specs.FirstFault.{RepeatedFault, IsEndFault}
use Rattle.rpki_der.specs.FirstFault.FirstFault.{AtPart, Later}
use Rattle.rpki_der.specs.FirstFault.RepeatedFault.{AtMember, AfterMember}
use Rattle.rpki_der.specs.Format.{Format, only, in_place}
use Rattle.rpki_der.specs.Fold.{Lead, FoldFault, TakesFold}
use Rattle.rpki_der.specs.Fold.FoldFault.{AtValue, LeadsNowhere, AfterValue}
use Rattle.rpki_der.proofs.EachLaws.{leaf-some}
use Rattle.rpki_der.proofs.FirstFaultLaws.{inside-no-memory, first-no-memory, end-no-memory}
use Rattle.rpki_der.proofs.InsideLaws.{unless-memory, no-memory}
use Rattle.rpki_der.proofs.LeavesLaws.{leaf-no-memory}
use Rattle.rpki_der.proofs.LeavesLaws.{contents-no-memory}
use Rattle.rpki_time.specs.Serial.{IsSerialContents, serial_number}
use Rattle.rpki_time.specs.TimeValue.{time}
use Rattle.rpki_crl.specs.Crl.{Entry, entry, entry_parts, each_entry, entries, is_revoked}
use Rattle.rpki_crl.specs.CrlView.{AreEntriesFault, FindsSerial, Keeps, Looks, ReadsEntries}

-- ---- values that lead on whatever they say

module _ {S V : Type 0} (step : S → V → S → Type 0) (F : Format V)
    (on : (from : S) (v : V) → (next : S) × step from v next) where
  pub each-fault : (from : S) (s : List ℕ) (e : DecodeError) → FoldFault step F from s e
      → RepeatedFault F.spells F.fault s e
  each-fault from s e (AtValue some none k) = AtMember some none k
  each-fault from s e (LeadsNowhere v r a nowhere k) = absurd (nowhere (on from v).0 (on from v).1)
  each-fault from s e (AfterValue v next r a st h) = AfterMember v r a (each-fault next r e h)

-- ---- values that aren't kept have the errors of those that are, but allocation failure

pub repeated-kind : {V : Type 0} (G : V → List ℕ → Type 0) (K L : List ℕ → DecodeError → Type 0)
    → ((s : List ℕ) (e : DecodeError) → e ≢ OutOfMemory → K s e → L s e) → (s : List ℕ) (e : DecodeError)
    → e ≢ OutOfMemory → RepeatedFault G K s e → RepeatedFault G L s e
repeated-kind G K L f s e n (AtMember some none k) = AtMember some none (f s e n k)
repeated-kind G K L f s e n (AfterMember v r a h) = AfterMember v r a (repeated-kind G K L f r e n h)

-- ---- entries take no memory

pub entry-no-memory : (s : List ℕ) → entry.fault s OutOfMemory → ⊥
entry-no-memory s h =
    inside-no-memory sequence true entry_parts.fault s
    (λ c k. first-no-memory serial_number.spells serial_number.fault (λ v. (only time).fault) c
    (λ m. leaf-no-memory integer false IsSerialContents c OutOfMemory m.0 refl)
    (λ v r l. first-no-memory time.spells time.fault (λ t. IsEndFault) r (λ m. m) (λ t q. end-no-memory q) l) k) h

entries-no-memory : (s : List ℕ) (e : DecodeError) → RepeatedFault entry.spells entry.fault s e → e ≢ OutOfMemory
entries-no-memory s e (AtMember some none k) z = entry-no-memory s (subst (entry.fault s) z k)
entries-no-memory s e (AfterMember v r a h) z = entries-no-memory r e h z

pub nowhere : (v : Entry) → entry.spells v [] → ⊥
nowhere = leaf-some sequence true entry_parts.spells

nothing-first : (p r : List ℕ) (v : Entry) → [] ≡ p ++ r → entry.spells v p → ⊥
nothing-first [] r v e h = nowhere v h
nothing-first (x ∷ xs) r v e h = absurd (cc)

entries-nothing : (s : List ℕ) (e : DecodeError) → RepeatedFault entry.spells entry.fault s e
    → SpellsNothing each_entry.spells s
entries-nothing s e (AtMember some none k) [] h = some h
entries-nothing s e (AtMember some none k) (x ∷ xs) h =
    unless-memory e (λ z. entry-no-memory s (subst (entry.fault s) z k)) none x h.0 h.1
entries-nothing s e (AfterMember v r a k) [] h =
    nothing-first a.spells.front r v (sym h ∙ a.spells.parts) a.spells.spelled
entries-nothing s e (AfterMember v r a k) (x ∷ xs) h =
    entries-nothing r e k xs (subst (each_entry.spells xs) (a.only x h.0 h.1).1 h.2)

pub entries-wrong : (s : List ℕ) (e : DecodeError) → RepeatedFault entry.spells entry.fault s e
    → SpellsNothing each_entry.spells s × AreEntriesFault s e
entries-wrong s e h = (entries-nothing s e h, record { other = entries-no-memory s e h; kind = h })

-- ---- what a search finds

or-false : (b : Bool) → (b || false) ≡ b
or-false true = refl
or-false false = refl

or-or : (a b c : Bool) → ((a || b) || c) ≡ (a || (b || c))
or-or true b c = refl
or-or false b c = refl

or-true : (b : Bool) → (b || true) ≡ true
or-true true = refl
or-true false = refl

pub looks-found : (n : ℕ) (from : Bool) (x : Entry) → nat_eq x.0 n ≡ true → Looks n from x true
looks-found n from x e = sym (ap (λ (b : Bool). from || b) e ∙ or-true from)

pub looks-not : (n : ℕ) (from : Bool) (x : Entry) → nat_eq x.0 n ≡ false → Looks n from x from
looks-not n from x e = sym (ap (λ (b : Bool). from || b) e ∙ or-false from)

found-among : (n : ℕ) (xs : List Entry) (from to : Bool) → Lead (Looks n) from xs to → to ≡ (from || is_revoked n xs)
found-among n [] from to h = h ∙ sym (or-false from)
found-among n (x ∷ xs) from to h =
    found-among n xs h.0 to h.2 ∙ ap (λ (b : Bool). b || is_revoked n xs) h.1
    ∙ or-or from (nat_eq x.0 n) (is_revoked n xs)

pub finds : (n : ℕ) (s r : List ℕ) (x : Result Bool DecodeError) → TakesFold (Looks n) entry false s r x
    → FindsSerial n s x
finds n s r (Ok found) h = (h.1, h.2, found-among n h.1 false found h.3)
finds n s r (Err e) h = entries-wrong s e (each-fault (Looks n) entry (λ from v. (_, refl)) false s e h.1)

-- ---- whether all of it is entries

pub all-entries : (s r : List ℕ) (x : Result (Unit {0}) DecodeError) → TakesFold Keeps entry tt s r x → ReadsEntries s x
all-entries s r (Ok u) h = (h.1, h.2)
all-entries s r (Err e) h = entries-wrong s e (each-fault Keeps entry (λ from v. (_, refl)) tt s e h.1)

-- ---- the list of them

module _ (s c r : List ℕ) (a : Accepts (SpellsContents sequence true) s c r) where
  pub no-entries : SpellsNothing each_entry.spells c → Refuses entries.spells s
  no-entries none xs q k =
      let here = a.only k.spelled.contents q (record { front = k.front; parts = k.parts; spelled = k.spelled.value }) in
      none xs (subst (each_entry.spells xs) here.0 k.spelled.spelled)

  pub entries-there : (xs : List Entry) → each_entry.spells xs c
      → (b : Spells entries.spells s xs r) × (b.spelled.contents ≡ c)
  entries-there xs h = (
    record {
      front = a.spells.front;
      parts = a.spells.parts;
      spelled = record { contents = c; value = a.spells.spelled; spelled = h };
    },
    refl,
  )

-- the error of the list where one of them is wrong, or its SEQUENCE isn't there
kept : (s : List ℕ) (e : DecodeError) → e ≢ OutOfMemory → entry.fault s e
    → OrMemoryWhere (λ r. entry.fault r OutOfMemory ⊎ Finds entry.spells r) entry.fault s e
kept s e n k = no-memory (λ r. entry.fault r OutOfMemory ⊎ Finds entry.spells r) entry.fault s e n k

pub entry-fault : (s c r : List ℕ) (e : DecodeError) → Accepts (SpellsContents sequence true) s c r
    → AreEntriesFault c e → (in_place entries).fault s e
entry-fault s c r e a h = record {
  other = h.other;
  kind = Later c r a
      (repeated-kind entry.spells entry.fault
      (OrMemoryWhere (λ r. entry.fault r OutOfMemory ⊎ Finds entry.spells r) entry.fault) kept c e h.other h.kind);
}

pub sequence-fault : (s r : List ℕ) (e : DecodeError)
    → Refusal (SpellsContents sequence true) (IsContentsFault sequence true) s r e → (in_place entries).fault s e
sequence-fault s r e h = record {
  other = contents-no-memory sequence true s e h.kind;
  kind = AtPart h.refuses h.kind;
}

pub no-sequence : (s r : List ℕ) (e : DecodeError)
    → Refusal (SpellsContents sequence true) (IsContentsFault sequence true) s r e → Refuses entries.spells s
no-sequence s r e h xs q k =
    unless-memory e (λ z. contents-no-memory sequence true s OutOfMemory
    (subst (IsContentsFault sequence true s) z h.kind) refl)
    h.refuses k.spelled.contents q (record { front = k.front; parts = k.parts; spelled = k.spelled.value })
