-- Signed checklists, trust anchor keys and Ghostbusters records: that no content is both well and not, and what is
-- shown of one.
use Rattle.std.proofs.Common.{◌≡◌, ◌∙◌, ℕ, Bool, List, sym, ap, subst, inl, inr}
use Rattle.std.specs.Prelude.{Option, Some, None, Result, Ok, Err, MatchResult, codes}
use Rattle.std.specs.Result.{is_ok}
use Rattle.std.proofs.lemmas.Bool.{false≢true}
use Rattle.rpki_der.specs.declared.error.DecodeError.{DecodeError}
use Rattle.rpki_der.specs.declared.error.DecodeError.TheVariants.{OutOfMemory}
use Rattle.rpki_objects.specs.SignedObject.{ObjectParts}
use Rattle.rpki_records.specs.declared.checklist.ChecklistPart.{ChecklistPart}
use Rattle.rpki_records.specs.declared.resources.ResourceBlock.{ResourceBlock}
use Rattle.rpki_records.specs.AnchorKeys.{tak}
use Rattle.rpki_records.specs.Card.{card_in}
use Rattle.rpki_records.specs.Checklist.{FoundChecklist, checklist}
use Rattle.rpki_records.specs.ChecklistResources.{AreNoResources, AreResources, IsNotUnder, IsUnder}
use Rattle.rpki_fields.specs.Field.{FieldParts}
use Rattle.rpki_fields.specs.Record.{AreAnchorKeys, AreNoAnchorKeys, HasContent, HasNoContent, IsChecklist}
use Rattle.rpki_fields.specs.Record.{IsCard, IsNoCard, IsNoChecklist, IsNoSound, IsSound}
use Rattle.rpki_fields.specs.Record.HasNoContent.{OtherContent, OtherType}
use Rattle.rpki_fields.specs.Record.IsNoChecklist.{Malformed, Unsound}
use Rattle.rpki_fields.specs.Record.IsNoSound.{Lacking, OtherResources, Repeated}
use Rattle.rpki_fields.specs.RecordText.{AreBlockResources, AreChecklistResources, ShowsChecklist}
use Rattle.rpki_fields.specs.Sheet.{SheetParts}
use Rattle.rpki_fields.proofs.ResourceItemLaws.{one-choice-items, one-family-items}

-- ---- what a reader found

abbrev value_or : {A E : Type 0} → A → Result A E → A
value_or d (Ok x) = x
value_or d (Err e) = d

pub one-value : {A E : Type 0} (r : Result A E) (x y : A) → r ≡ Ok x → r ≡ Ok y → x ≡ y
one-value r x y g h = ap (value_or x) (sym g ∙ h)

pub not-both : {A E : Type 0} (r : Result A E) (x : A) (e : E) → r ≡ Ok x → r ≡ Err e → ⊥
not-both r x e g h = false≢true (sym (ap is_ok h) ∙ ap is_ok g)

-- ---- resources

not-under : {V : Type 0} (G : V → List ℕ → Type 0) (inherited : V → Bool) (missing v : V) (s : Option (List ℕ))
    → IsUnder G inherited missing s v → IsNotUnder G inherited s → ⊥
not-under G inherited missing v None g h = h
not-under G inherited missing v (Some s) g h = false≢true (sym g.own ∙ h v g.spelled)

one-under : {V : Type 0} (G : V → List ℕ → Type 0) (inherited : V → Bool) (missing v w : V) (s : Option (List ℕ))
    → IsUnder G inherited missing s v → IsUnder G inherited missing s w → v ≡ w
one-under G inherited missing v w None g h = g ∙ sym h
one-under G inherited missing v w (Some s) g h = h.only v g.spelled

no-resources : (x : FoundChecklist) (b : ResourceBlock) → AreNoResources x → AreResources x b → ⊥
no-resources x b (inl n) g = not-under _ _ _ b.numbers x.numbers g.numbers n
no-resources x b (inr n) g = not-under _ _ _ b.addresses x.addresses g.addresses n

one-block-resources : (x : FoundChecklist) (b d : ResourceBlock) (xs ys : List (List FieldParts)) → AreResources x b
    → AreResources x d → AreBlockResources b xs → AreBlockResources d ys → xs ≡ ys
one-block-resources x b d xs ys p q g h =
    let n : b.numbers ≡ d.numbers = one-under _ _ _ b.numbers d.numbers x.numbers p.numbers q.numbers in
    let a : b.addresses ≡ d.addresses = one-under _ _ _ b.addresses d.addresses x.addresses p.addresses q.addresses in
    let numbers = one-choice-items (codes "ASID Inherit") d.numbers g.0 h.0 (rw n at g.2) h.2 in
    let addresses = one-family-items (Some d.addresses) g.1 h.1 (rw a at g.3) h.3 in
    (rw (numbers, addresses) at g.4) ∙ sym h.4

pub one-checklist-resources : (x : FoundChecklist) (xs ys : List (List FieldParts)) → AreChecklistResources x xs
    → AreChecklistResources x ys → xs ≡ ys
one-checklist-resources x xs ys (inl g) (inl h) = one-block-resources x g.0 h.0 xs ys g.1 h.1 g.2 h.2
one-checklist-resources x xs ys (inl g) (inr h) = absurd (no-resources x g.0 h.0 g.1)
one-checklist-resources x xs ys (inr g) (inl h) = absurd (no-resources x h.0 g.0 h.1)
one-checklist-resources x xs ys (inr g) (inr h) = g.1 ∙ sym h.1

pub one-shown : (fields : List FieldParts) (r : Result FoundChecklist (ChecklistPart × ℕ)) (a b : SheetParts)
    → ShowsChecklist fields r a → ShowsChecklist fields r b → a ≡ b
one-shown fields (Err e) a b g h = g ∙ sym h
one-shown fields (Ok x) a b g h =
    let resources = one-checklist-resources x g.0 h.0 g.1 h.1 in (rw resources at g.2) ∙ sym h.2

-- ---- no content is both

no-sound : (x : FoundChecklist) (e : DecodeError) → (e ≡ OutOfMemory → ⊥) → IsNoSound x e → IsSound x → ⊥
no-sound x e z (OtherResources n) g = no-resources x g.block n g.resources
no-sound x e z (Repeated n k) g = n g.unique
no-sound x e z (Lacking y) g = z y

pub no-checklist : (c : List ℕ) (e : DecodeError) → (e ≡ OutOfMemory → ⊥) → IsNoChecklist c e → IsChecklist c → ⊥
no-checklist c e z (Malformed p q) g = not-both (checklist c) g.0 _ g.1 q
no-checklist c e z (Unsound x q n) g =
    no-sound g.0 e z (subst (λ (w : FoundChecklist). IsNoSound w e) (one-value (checklist c) x g.0 q g.1) n) g.2

pub no-anchor-keys : (c : List ℕ) (e : DecodeError) → (e ≡ OutOfMemory → ⊥) → AreNoAnchorKeys c e → AreAnchorKeys c → ⊥
no-anchor-keys c e z n g = not-both (tak c) g.0 _ g.1 n.1

pub no-card : (c : List ℕ) (e : DecodeError) → (e ≡ OutOfMemory → ⊥) → IsNoCard c e → IsCard c → ⊥
no-card c e z n g = not-both (card_in c) g.0 _ g.1 n.1

pub no-content : (wanted : List ℕ) (C : List ℕ → Type 0) (W : List ℕ → DecodeError → Type 0)
    → ((c : List ℕ) (e : DecodeError) → (e ≡ OutOfMemory → ⊥) → W c e → C c → ⊥)
    → (o : ObjectParts) (e : DecodeError) → (e ≡ OutOfMemory → ⊥) → HasNoContent wanted W o e → HasContent wanted C o
    → ⊥
no-content wanted C W none o e z (OtherType n k) g = n g.type
no-content wanted C W none o e z (OtherContent w) g = none o.content.content e z w g.content

-- ---- what was checked

pub checked-content : (c : List ℕ) (x : FoundChecklist) (r : Result (Unit {0}) DecodeError) → checklist c ≡ Ok x
    → MatchResult r (λ _. IsSound x) (IsNoSound x) → MatchResult r (λ _. IsChecklist c) (IsNoChecklist c)
checked-content c x (Ok u) is h = (x, is, h)
checked-content c x (Err e) is h = Unsound x is h

pub checked-object : (wanted : List ℕ) (C : List ℕ → Type 0) (W : List ℕ → DecodeError → Type 0) (o : ObjectParts)
    (r : Result (Unit {0}) DecodeError) → o.content.content_type ≡ wanted
    → MatchResult r (λ _. C o.content.content) (W o.content.content)
    → MatchResult r (λ _. HasContent wanted C o) (HasNoContent wanted W o)
checked-object wanted C W o (Ok u) type h = record { type = type; content = h }
checked-object wanted C W o (Err e) type h = OtherContent h
