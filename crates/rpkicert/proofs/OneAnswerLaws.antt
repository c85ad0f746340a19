-- An input has one answer, and a run one output, where the status is 0.
use Rattle.std.proofs.Common.{◌≡◌, ℕ, suc, List, [], ◌∷◌, refl, sym, ap, subst, ◌∙◌, inl, inr, arith}
use Rattle.std.proofs.lemmas.Bool.{false≢true}
use Rattle.std.proofs.lemmas.List.Elements.{All-tail}
use Rattle.std.specs.Prelude.{◌⊎◌, codes, Bool, true, false, is_some, Option, Some, None, Result, Ok, Err, IsSome}
use Rattle.std.specs.Prelude.{IfSome}
use Rattle.rpki_fields.specs.ObjectType.{kind_of}
use Rattle.rpki_fields.specs.Field.{field_parts}
use Rattle.rpki_fields.specs.Sheet.{SheetParts, sheet_behind}
use Rattle.rpki_fields.specs.Object.{objection_to}
use Rattle.rpki_fields.specs.declared.object.Object.{Object}
use Rattle.rpkicert.specs.declared.fault.Fault.{Fault}
use Rattle.rpkicert.specs.declared.fault.Fault.TheVariants.{Unreadable, TooLarge, OutOfMemory, Malformed, Refused}
use Rattle.rpkicert.specs.declared.fault.Fault.TheVariants.{OtherText}
use Rattle.rpkicert.specs.declared.fault.Fault.TheVariants.{Empty, Neither, NoLocator}
use Rattle.rpkicert.specs.declared.fault.Fault.TheVariants.{Violated, Unverified, NoCertificate, NoList, OtherAlgorithm}
use Rattle.rpki_fields.specs.declared.rendering.Form.{Form}
use Rattle.rpkicert.specs.Fault.{status_of}
use Rattle.rpkicert.specs.Outcome.{OutcomeParts, found_parts, Finding, IsHeld, IsJudged, HoldsTo, FindsIn, Finds}
use Rattle.rpkicert.specs.Outcome.{is_other, form_fault, FindsFormed, FindsBy}
use Rattle.rpkicert.specs.declared.signature.Signature.{Signature}
use Rattle.rpkicert.specs.Signature.{signature_found}
use Rattle.rpkicert.specs.Request.{Asked}
use Rattle.rpkicert.specs.Requirements.{TermParts, term_parts, no_terms, list_terms}
use Rattle.rpkicert.specs.Output.{file_text, hashed, marked, record_text, IsTextOf, OutputParts, shown_parts, IsOutput}
use Rattle.rpkicert.specs.Output.{IsSeen}
use Rattle.rpkicert.specs.Output.{IsChecked, checked_other, fault_line, status_in}
use Rattle.rpkicert.specs.Output.{LacksMemory, AreSeen, outputs, faults, worst, IsRun}
use Rattle.rpkicert.specs.Locator.{name_of, ReadsLocator}
use Rattle.rpkicert.specs.Output.{locator_shown, IsLocatorOutput, IsLocatorSeen, IsSeenAs}
use Rattle.rpkicert.specs.Output.{joined, numbered, IsSeenIn, AreSeenFrom, IsSeenEach, IsSeenOf}
use Rattle.rpkicert.specs.Output.IsSeenOf.{OfAll, OfLocator, OfEach, OfNone}
use Rattle.rpkicert.specs.Output.IsRun.{Whole, Cut}
use Rattle.rpkicert.specs.Moment.{Clock, is_now, NamesBy, IsMoment}
use Rattle.rpkicert.specs.Run.{Holds, issuer_in, issuer_or, IsIssuerOf, AreRequirements, Sees, IsRunOf}
use Rattle.rpkicert.specs.Run.{list_in, list_or, IsListOf}
use Rattle.rpkicert.specs.Run.{AreKnown, IsClockKnown, IsKnown, EndsWellWith}
use Rattle.rpkicert.specs.Run.IsRunOf.{Held, Denied}
use Rattle.rpkicert.specs.Values.{ToldParts}
use Rattle.rpkicert.specs.Words.{Complains, Writes}
use Rattle.rpki_fields.proofs.OneObjectLaws.{one-of, none-of}
use Rattle.rpki_fields.proofs.OneSheetLaws.{one-sheet}
use Rattle.rpki_fields.proofs.LocatorLaws.{one-locator-sheet}
use Rattle.rpki_cert.specs.Cert.{TbsParts}
use Rattle.rpki_cli.specs.World.{World}
use Rattle.rpki_crl.specs.Crl.{CrlParts}
use Rattle.jiff.specs.Types.{DateTime}
use Rattle.jiff.specs.Words.{civil_nanos}
use Rattle.jiff.proofs.Family.{same_datetime}

-- ---- the text

pub one-text-of : (form : Form) (signature : Signature) (name octets : List ℕ) (x : Object) (text other : List ℕ)
    → IsTextOf form signature name octets x text → IsTextOf form signature name octets x other → text ≡ other
one-text-of form signature name octets x text other g h =
    g.2 ∙ ap (λ (s : SheetParts). record_text form
    (sheet_behind (field_parts (codes "File") (file_text form name))
    (hashed octets (marked signature s)))) (one-sheet octets x g.0 h.0 g.1 h.1) ∙ sym h.2

-- ---- what is found

abbrev IsAlone : OutcomeParts → Finding → Type 0
IsAlone found f = (f ≡ Ok found) ⊎ (f ≡ Err OutOfMemory)

same-found : (a b : OutcomeParts) → a.octets ≡ b.octets → a.object ≡ b.object → a.fault ≡ b.fault → a ≡ b
same-found a b p q r =
    let e : found_parts a.octets a.object a.fault ≡ found_parts b.octets b.object b.fault = rw (p, q, r) refl in e

-- where an object holds, there is no fault of it
held-alone : (terms : TermParts) (x : Object) (fault : Option Fault) → IsHeld terms x → IsJudged terms x fault
    → fault ≡ None
held-alone terms x None g h = refl
held-alone terms x (Some (Violated e)) g h = absurd (h.0 g.profiled)
held-alone terms x (Some NoCertificate) g h = absurd (h.0 g.profiled)
held-alone terms x (Some (Unverified clause e)) g h = absurd (h.1.not_all g.verified)
held-alone terms x (Some OtherAlgorithm) g h = absurd (false≢true (sym g.inside ∙ h))
held-alone terms x (Some (Refused kind place e)) g h = absurd h
held-alone terms x (Some OutOfMemory) g h = absurd h
held-alone terms x (Some NoList) g h = absurd h
held-alone terms x (Some (Unreadable cause)) g h = absurd h
held-alone terms x (Some TooLarge) g h = absurd h
held-alone terms x (Some Empty) g h = absurd h
held-alone terms x (Some Neither) g h = absurd h
held-alone terms x (Some (NoLocator e)) g h = absurd h
held-alone terms x (Some Malformed) g h = absurd h
held-alone terms x (Some (OtherText kind)) g h = absurd h

one-held : (terms : TermParts) (octets : List ℕ) (found : OutcomeParts) (f : Finding) → found.fault ≡ None
    → HoldsTo terms octets (Ok found) → HoldsTo terms octets f → IsAlone found f
one-held terms octets found (Ok other) n g h =
    let same = one-of (kind_of octets) octets other.object found.object h.1.is g.1.is in
    let held : IsHeld terms found.object = subst (λ (o : Option Fault). IsJudged terms found.object o) n g.2 in
    let none = held-alone terms other.object other.fault (subst (λ (x : Object). IsHeld terms x) (sym same) held) h.2 in
    inl (ap (λ (w : OutcomeParts). Ok w) (same-found other found (h.0 ∙ sym g.0) same (none ∙ sym n)))
one-held terms octets found (Err (Refused kind place e)) n g h =
    absurd (none-of (kind_of octets) octets e found.object h.memory h.none g.1.is)
one-held terms octets found (Err OutOfMemory) n g h = inr refl
one-held terms octets found (Err (Violated e)) n g h = absurd h
one-held terms octets found (Err NoCertificate) n g h = absurd h
one-held terms octets found (Err NoList) n g h = absurd h
one-held terms octets found (Err (Unverified clause e)) n g h = absurd h
one-held terms octets found (Err OtherAlgorithm) n g h = absurd h
one-held terms octets found (Err (Unreadable cause)) n g h = absurd h
one-held terms octets found (Err TooLarge) n g h = absurd h
one-held terms octets found (Err Empty) n g h = absurd h
one-held terms octets found (Err Neither) n g h = absurd h
one-held terms octets found (Err (NoLocator e)) n g h = absurd h
one-held terms octets found (Err Malformed) n g h = absurd h
one-held terms octets found (Err (OtherText kind)) n g h = absurd h

one-formed : (terms : TermParts) (input : List ℕ) (found : OutcomeParts) (f : Finding) → found.fault ≡ None
    → FindsFormed terms input (Ok found) → FindsFormed terms input f → IsAlone found f
one-formed terms input found f n (inl g) (inl h) =
    let same : h.0 ≡ g.0 = cc in
    one-held terms g.0 found f n g.2 (subst (λ (octets : List ℕ). HoldsTo terms octets f) same h.2)
one-formed terms input found f n (inl g) (inr (inl h)) = absurd (let a = g.1 in let b = h.0 in cc)
one-formed terms input found f n (inl g) (inr (inr h)) = inr h
one-formed terms input found f n (inr (inl g)) h = absurd (let a = g.1 in cc)
one-formed terms input found f n (inr (inr g)) h = absurd cc

one-by-form : (wrong : Option Fault) (terms : TermParts) (input : List ℕ) (found : OutcomeParts) (f : Finding)
    → found.fault ≡ None → FindsBy wrong terms input (Ok found) → FindsBy wrong terms input f → IsAlone found f
one-by-form None terms input found f n g h = one-formed terms input found f n g h
one-by-form (Some fault) terms input found f n g h = absurd cc

one-found-in : (terms : TermParts) (input : List ℕ) (found : OutcomeParts) (f : Finding) → found.fault ≡ None
    → FindsIn terms input (Ok found) → FindsIn terms input f → IsAlone found f
one-found-in terms input found f n g h = one-by-form (form_fault input) terms input found f n g h

pub one-finding : (terms : TermParts) (source : Option (List ℕ)) (found : OutcomeParts) → found.fault ≡ None
    → Finds terms source (Ok found) → (f : Finding) → Finds terms source f
    → (f ≡ Ok found) ⊎ (f ≡ Err OutOfMemory)
one-finding terms None found n (inl g) f h = absurd (let a = g.1 in cc)
one-finding terms None found n (inr g) f h = absurd cc
one-finding terms (Some input) found n (inl g) f (inl h) = one-found-in terms input found f n g.1 h.1
one-finding terms (Some input) found n (inl g) f (inr (inl h)) =
    absurd (let a = g.0 in let b = h.0 in omega arith)
one-finding terms (Some input) found n (inl g) f (inr (inr h)) = inr h
one-finding terms (Some input) found n (inr (inl g)) f h = absurd (let a = g.1 in cc)
one-finding terms (Some input) found n (inr (inr g)) f h = absurd cc

-- ---- what is seen

-- where there is no fault, no line is for it
no-line : (name : List ℕ) (fault : Option Fault) (t u : Option ToldParts) → fault ≡ None
    → fault_line name fault t ≡ fault_line name fault u
no-line name None t u n = refl
no-line name (Some fault) t u n = absurd cc

one-listed : (form : Form) (terms : TermParts) (name : List ℕ) (found : OutcomeParts) (s t : OutputParts)
    → found.fault ≡ None → IsOutput false form terms name (Ok found) s → IsOutput false form terms name (Ok found) t
    → t ≡ s
one-listed form terms name found s t n g h =
    h.4 ∙ ap (λ (text : List ℕ). shown_parts text (fault_line name found.fault h.2) (status_in found.fault))
    (one-text-of form (signature_found (is_some terms.issuer) found.object found.fault) name found.octets found.object
    h.0 g.0 h.1 g.1)
    ∙ ap (λ (line : List ℕ). shown_parts g.0 line (status_in found.fault)) (no-line name found.fault h.2 g.2 n)
    ∙ sym g.4

one-checked : (form : Form) (terms : TermParts) (name : List ℕ) (x : Object) (fault : Option Fault) (s t : OutputParts)
    → fault ≡ None → IsChecked form terms name x fault s → IsChecked form terms name x fault t → t ≡ s
one-checked form terms name x None s t n g h = h ∙ sym g
one-checked form terms name x (Some fault) s t n g h = absurd cc

one-shown : (check : Bool) (form : Form) (terms : TermParts) (name : List ℕ) (found : OutcomeParts) (s t : OutputParts)
    → found.fault ≡ None → IsOutput check form terms name (Ok found) s → IsOutput check form terms name (Ok found) t
    → t ≡ s
one-shown true form terms name found s t n g h =
    one-checked form terms name found.object found.fault s t n g h
one-shown false form terms name found s t n g h = one-listed form terms name found s t n g h

fault-status : (fault : Fault) → status_of fault ≡ 0 → ⊥
fault-status (Unreadable cause) e = omega arith
fault-status TooLarge e = omega arith
fault-status OutOfMemory e = omega arith
fault-status Empty e = omega arith
fault-status Neither e = omega arith
fault-status (NoLocator y) e = omega arith
fault-status Malformed e = omega arith
fault-status (OtherText kind) e = omega arith
fault-status (Refused kind place x) e = omega arith
fault-status (Violated x) e = omega arith
fault-status (Unverified clause x) e = omega arith
fault-status NoCertificate e = omega arith
fault-status NoList e = omega arith
fault-status OtherAlgorithm e = omega arith

shown-status : (check : Bool) (form : Form) (terms : TermParts) (name : List ℕ) (fault : Fault) (s : OutputParts)
    → IsOutput check form terms name (Err fault) s → s.status ≡ status_of fault
shown-status true form terms name fault s g = ap (λ (w : OutputParts). w.status) g
shown-status false form terms name fault s g = ap (λ (w : OutputParts). w.status) g

other-status : (form : Form) (name : List ℕ) (o : Option (List ℕ))
    → (checked_other form name o).status ≡ status_of OtherAlgorithm
other-status form name None = refl
other-status form name (Some said) = refl

-- with the status 0 there is no fault
some-status : (form : Form) (terms : TermParts) (name : List ℕ) (x : Object) (fault : Fault) (s : OutputParts)
    → IsChecked form terms name x (Some fault) s → s.status ≡ status_of fault
some-status form terms name x (Violated v) s g = ap (λ (w : OutputParts). w.status) g.2
some-status form terms name x (Unreadable cause) s g = ap (λ (w : OutputParts). w.status) g.2
some-status form terms name x TooLarge s g = ap (λ (w : OutputParts). w.status) g.2
some-status form terms name x OutOfMemory s g = ap (λ (w : OutputParts). w.status) g.2
some-status form terms name x Empty s g = ap (λ (w : OutputParts). w.status) g.2
some-status form terms name x Neither s g = ap (λ (w : OutputParts). w.status) g.2
some-status form terms name x (NoLocator e) s g = ap (λ (w : OutputParts). w.status) g.2
some-status form terms name x Malformed s g = ap (λ (w : OutputParts). w.status) g.2
some-status form terms name x (OtherText kind) s g = ap (λ (w : OutputParts). w.status) g.2
some-status form terms name x (Refused kind place e) s g = ap (λ (w : OutputParts). w.status) g.2
some-status form terms name x (Unverified clause e) s g = ap (λ (w : OutputParts). w.status) g.2
some-status form terms name x NoCertificate s g = ap (λ (w : OutputParts). w.status) g.2
some-status form terms name x NoList s g = ap (λ (w : OutputParts). w.status) g.2
some-status form terms name x OtherAlgorithm s g =
    ap (λ (w : OutputParts). w.status) g ∙ other-status form name (objection_to x)

checked-status : (form : Form) (terms : TermParts) (name : List ℕ) (x : Object) (fault : Option Fault) (s : OutputParts)
    → IsChecked form terms name x fault s → s.status ≡ 0 → fault ≡ None
checked-status form terms name x None s g z = refl
checked-status form terms name x (Some fault) s g z =
    absurd (fault-status fault (sym (some-status form terms name x fault s g) ∙ z))

listed-status : (fault : Option Fault) → status_in fault ≡ 0 → fault ≡ None
listed-status None z = refl
listed-status (Some fault) z = absurd (fault-status fault z)

well-shown : (check : Bool) (form : Form) (terms : TermParts) (name : List ℕ) (found : OutcomeParts) (s : OutputParts)
    → IsOutput check form terms name (Ok found) s → s.status ≡ 0 → found.fault ≡ None
well-shown true form terms name found s g z = checked-status form terms name found.object found.fault s g z
well-shown false form terms name found s g z =
    listed-status found.fault (sym (ap (λ (w : OutputParts). w.status) g.4) ∙ z)

-- another finding is shown
other-shown : (check : Bool) (form : Form) (terms : TermParts) (name : List ℕ) (found : OutcomeParts) (f : Finding)
    (s t : OutputParts) → found.fault ≡ None → IsAlone found f
    → IsOutput check form terms name (Ok found) s → IsOutput check form terms name f t
    → (t ≡ s) ⊎ LacksMemory check form terms name t
other-shown check form terms name found f s t n (inl e) g h =
    inl (one-shown check form terms name found s t n g
    (subst (λ (w : Finding). IsOutput check form terms name w t) e h))
other-shown check form terms name found f s t n (inr e) g h =
    inr (inl (subst (λ (w : Finding). IsOutput check form terms name w t) e h))

good-seen : (check : Bool) (form : Form) (terms : TermParts) (name : List ℕ) (source : Option (List ℕ))
    (f : Finding) (s t : OutputParts) → Finds terms source f → IsOutput check form terms name f s
    → s.status ≡ 0 → IsSeen check form terms name source t
    → (t ≡ s) ⊎ LacksMemory check form terms name t
good-seen check form terms name source (Err fault) s t g k z h =
    absurd (fault-status fault (sym (shown-status check form terms name fault s k) ∙ z))
good-seen check form terms name source (Ok found) s t g k z (inl h) =
    let none = well-shown check form terms name found s k z in
    other-shown check form terms name found h.0 s t none (one-finding terms source found none g h.0 h.1) k h.2
good-seen check form terms name source (Ok found) s t g k z (inr h) = inr (inr h)

pub one-seen : (check : Bool) (form : Form) (terms : TermParts) (name : List ℕ) (source : Option (List ℕ))
    (s t : OutputParts)
    → IsSeen check form terms name source s → s.status ≡ 0 → IsSeen check form terms name source t
    → (t ≡ s) ⊎ LacksMemory check form terms name t
one-seen check form terms name source s t (inl g) z h = good-seen check form terms name source g.0 s t g.1 g.2 z h
one-seen check form terms name source s t (inr g) z h =
    absurd (let e : s.status ≡ 2 = ap (λ (w : OutputParts). w.status) g in omega arith)

-- ---- files

lacking-status : (check : Bool) (form : Form) (terms : TermParts) (name : List ℕ) (s : OutputParts)
    → LacksMemory check form terms name s → s.status ≡ 2
lacking-status check form terms name s (inl g) = shown-status check form terms name OutOfMemory s g
lacking-status check form terms name s (inr g) = ap (λ (w : OutputParts). w.status) g

unless-lacking : (check : Bool) (form : Form) (terms : TermParts) (name : List ℕ) (s t : OutputParts)
    → (t ≡ s) ⊎ LacksMemory check form terms name t → t.status ≡ 0 → t ≡ s
unless-lacking check form terms name s t (inl e) z = e
unless-lacking check form terms name s t (inr g) z =
    absurd (let e = lacking-status check form terms name t g in omega arith)

-- ---- several certificates

one-inside : (check : Bool) (form : Form) (terms : TermParts) (name input : List ℕ) (f : Finding) (s t : OutputParts)
    → FindsIn terms input f → IsOutput check form terms name f s
    → IsSeenAs false check form terms name input t → s.status ≡ 0 → t.status ≡ 0 → t ≡ s
one-inside check form terms name input (Err fault) s t g k h y z =
    absurd (fault-status fault (sym (shown-status check form terms name fault s k) ∙ y))
one-inside check form terms name input (Ok found) s t g k h y z =
    let none = well-shown check form terms name found s k y in
    unless-lacking check form terms name s t
    (other-shown check form terms name found h.0 s t none (one-found-in terms input found h.0 none g h.1) k h.2) z

-- ---- a locator

locator-fault : {P : Type 0} (check : Bool) (form : Form) (terms : TermParts) (name text : List ℕ) (fault : Fault)
    (s : OutputParts) → IsLocatorOutput check form terms name text (Err fault) s → s.status ≡ 0 → P
locator-fault check form terms name text fault s g z =
    absurd (fault-status fault (sym (shown-status check form terms name fault s g) ∙ z))

one-read : (check : Bool) (form : Form) (terms : TermParts) (name text : List ℕ) (r q : Result SheetParts Fault)
    (s t : OutputParts) → ReadsLocator terms name text r → IsLocatorOutput check form terms name text r s
    → ReadsLocator terms name text q → IsLocatorOutput check form terms name text q t → s.status ≡ 0 → t.status ≡ 0
    → t ≡ s
one-read check form terms name text (Ok a) (Ok b) s t g k h l y z =
    l ∙ ap (λ (w : SheetParts). shown_parts (locator_shown check form name text w) [] 0)
    (one-locator-sheet (name_of name) text b a h.1 g.1) ∙ sym k
one-read check form terms name text (Ok a) (Err f) s t g k h l y z = locator-fault check form terms name text f t l z
one-read check form terms name text (Err f) q s t g k h l y z = locator-fault check form terms name text f s k y

one-locator-seen : (check : Bool) (form : Form) (terms : TermParts) (name text : List ℕ) (s t : OutputParts)
    → IsLocatorSeen check form terms name text s → IsLocatorSeen check form terms name text t → s.status ≡ 0
    → t.status ≡ 0 → t ≡ s
one-locator-seen check form terms name text s t g h y z =
    one-read check form terms name text g.0 h.0 s t g.1 g.2 h.1 h.2 y z

-- ---- an input

one-as : (other : Bool) (check : Bool) (form : Form) (terms : TermParts) (name input : List ℕ) (s t : OutputParts)
    → IsSeenAs other check form terms name input s → IsSeenAs other check form terms name input t → s.status ≡ 0
    → t.status ≡ 0 → t ≡ s
one-as true check form terms name input s t g h y z = one-locator-seen check form terms name input s t g h y z
one-as false check form terms name input s t g h y z =
    one-inside check form terms name input g.0 s t g.1 g.2 h y z

one-each : (check : Bool) (form : Form) (terms : TermParts) (name : List ℕ) (number : ℕ) (texts : List (List ℕ))
    (all others : List OutputParts) → AreSeenFrom (IsSeenIn check form terms) name number texts all
    → AreSeenFrom (IsSeenIn check form terms) name number texts others → worst all ≡ 0 → worst others ≡ 0 → others ≡ all
one-each check form terms name number [] [] [] g h y z = refl
one-each check form terms name number [] [] (t ∷ ts) g h y z = absurd h
one-each check form terms name number [] (s ∷ ss) others g h y z = absurd g
one-each check form terms name number (text ∷ texts) [] others g h y z = absurd g
one-each check form terms name number (text ∷ texts) (s ∷ ss) [] g h y z = absurd h
one-each check form terms name number (text ∷ texts) (s ∷ ss) (t ∷ ts) g h y z =
    let first = one-as (is_other text) check form terms (numbered name number) text s t g.0 h.0 (omega arith)
    (omega arith) in
    let rest = one-each check form terms name (suc number) texts ss ts g.1 h.1 (omega arith) (omega arith) in
    rw (first, rest) refl

one-joined : (check : Bool) (form : Form) (terms : TermParts) (name : List ℕ) (texts others : List (List ℕ))
    (s t : OutputParts) → others ≡ texts → IsSeenEach check form terms name texts s
    → IsSeenEach check form terms name others t → s.status ≡ 0 → t.status ≡ 0 → t ≡ s
one-joined check form terms name texts others s t e g h y z =
    let k = subst (λ (w : List (List ℕ)). IsSeenEach check form terms name w t) e h in
    k.2 ∙ ap joined (one-each check form terms name 1 texts g.0 k.0 g.1 k.1
    (sym (ap (λ (w : OutputParts). w.status) g.2) ∙ y) (sym (ap (λ (w : OutputParts). w.status) k.2) ∙ z)) ∙ sym g.2

lacks-none : {P : Type 0} (check : Bool) (form : Form) (terms : TermParts) (name : List ℕ) (s : OutputParts)
    → LacksMemory check form terms name s → s.status ≡ 0 → P
lacks-none check form terms name s g z = absurd (let e = lacking-status check form terms name s g in omega arith)

pub one-of-file : (check : Bool) (form : Form) (terms : TermParts) (name : List ℕ) (source : Option (List ℕ))
    (s t : OutputParts) → IsSeenOf check form terms name source s → s.status ≡ 0
    → IsSeenOf check form terms name source t → t.status ≡ 0 → t ≡ s
one-of-file check form terms name source s t (OfAll e o g) y (OfAll f p h) z =
    unless-lacking check form terms name s t (one-seen check form terms name source s t g y h) z
one-of-file check form terms name source s t (OfAll e o g) y (OfLocator text f p h) z = absurd cc
one-of-file check form terms name source s t (OfAll e o g) y (OfEach texts f h) z = absurd cc
one-of-file check form terms name source s t (OfLocator text e o g) y (OfAll f p h) z = absurd cc
one-of-file check form terms name source s t (OfLocator text e o g) y (OfLocator other f p h) z =
    let same : other ≡ text = cc in
    one-locator-seen check form terms name text s t g
    (subst (λ (w : List ℕ). IsLocatorSeen check form terms name w t) same h) y z
one-of-file check form terms name source s t (OfLocator text e o g) y (OfEach texts f h) z = absurd cc
one-of-file check form terms name source s t (OfEach texts e g) y (OfLocator text f p h) z = absurd cc
one-of-file check form terms name source s t (OfEach texts e g) y (OfAll f p h) z = absurd cc
one-of-file check form terms name source s t (OfEach texts e g) y (OfEach others f h) z =
    let same : others ≡ texts = cc in one-joined check form terms name texts others s t same g h y z
one-of-file check form terms name source s t (OfNone g) y h z =
    lacks-none check form terms name s g y
one-of-file check form terms name source s t (OfAll e o g) y (OfNone h) z =
    lacks-none check form terms name t h z
one-of-file check form terms name source s t (OfLocator text e o g) y (OfNone h) z =
    lacks-none check form terms name t h z
one-of-file check form terms name source s t (OfEach texts e g) y (OfNone h) z =
    lacks-none check form terms name t h z

one-sees : (held : Option (Option (List ℕ))) (check : Bool) (form : Form) (terms : TermParts) (name : List ℕ)
    (s t : OutputParts) → IsSome held
    → IfSome held (λ source. IsSeenOf check form terms name source s)
    → IfSome held (λ source. IsSeenOf check form terms name source t) → s.status ≡ 0 → t.status ≡ 0 → t ≡ s
one-sees None check form terms name s t known g h y z = absurd cc
one-sees (Some source) check form terms name s t known g h y z = one-of-file check form terms name source s t g y h z

one-all : (holds : Holds) (check : Bool) (form : Form) (terms : TermParts) (names : List (List ℕ))
    (all others : List OutputParts) → AreKnown holds names
    → AreSeen (Sees holds check form terms) names all → AreSeen (Sees holds check form terms) names others
    → worst all ≡ 0 → worst others ≡ 0 → others ≡ all
one-all holds check form terms [] [] [] known g h y z = refl
one-all holds check form terms [] [] (t ∷ ts) known g h y z = absurd h
one-all holds check form terms [] (s ∷ ss) others known g h y z = absurd g
one-all holds check form terms (name ∷ names) [] others known g h y z = absurd g
one-all holds check form terms (name ∷ names) (s ∷ ss) [] known g h y z = absurd h
one-all holds check form terms (name ∷ names) (s ∷ ss) (t ∷ ts) known g h y z =
    let first = one-sees (holds name) check form terms name s t (known 0 [] (omega arith)) g.0 h.0 (omega arith)
    (omega arith) in
    let rest = one-all holds check form terms names ss ts (All-tail (λ (n : List ℕ). IsSome (holds n)) name names known)
    g.1 h.1 (omega arith) (omega arith) in
    rw (first, rest) refl

-- ---- the terms

same-moment : (at : Option DateTime) (t u : DateTime) → at ≡ Some t → at ≡ Some u → t ≡ u
same-moment at t u g h = let e = sym g ∙ h in cc

one-named : (now : Bool) (clock : Clock) (word : List ℕ) (t u : DateTime) → (now ≡ true → IsSome clock)
    → NamesBy now clock word t → NamesBy now clock word u → t ≡ u
one-named true None word t u known g h = absurd (let k = known refl in cc)
one-named true (Some at) word t u known g h = same-moment at t u g h
one-named false clock word t u known g h =
    let e = sym g ∙ h in
    let same : civil_nanos t ≡ civil_nanos u = cc in
    same_datetime t u same

one-moment : (clock : Clock) (word : Option (List ℕ)) (t u : Option DateTime) → IfSome word (IsClockKnown clock)
    → IsMoment clock word t → IsMoment clock word u → t ≡ u
one-moment clock None None None known g h = refl
one-moment clock None None (Some u) known g h = absurd h
one-moment clock None (Some t) u known g h = absurd g
one-moment clock (Some word) None u known g h = absurd g
one-moment clock (Some word) (Some t) None known g h = absurd h
one-moment clock (Some word) (Some t) (Some u) known g h =
    ap Some (one-named (is_now word) clock word t u known g h)

issuer-held : (x : Object) (fault : Option Fault) (t : TbsParts) → issuer_or x fault ≡ Ok t → fault ≡ None
issuer-held x None t p = refl
issuer-held x (Some fault) t p = absurd (let r = p in cc)

other-issuer : (found : OutcomeParts) (k : Finding) (t u : TbsParts) → IsAlone found k
    → issuer_in (Ok found) ≡ Ok t → issuer_in k ≡ Ok u → t ≡ u
other-issuer found k t u (inl e) p q = let r = sym p ∙ sym (ap issuer_in e) ∙ q in cc
other-issuer found k t u (inr e) p q = absurd (let r = sym (ap issuer_in e) ∙ q in cc)

same-issuer : (source : Option (List ℕ)) (f k : Finding) (t u : TbsParts) → Finds no_terms source f
    → Finds no_terms source k → issuer_in f ≡ Ok t → issuer_in k ≡ Ok u → t ≡ u
same-issuer source (Err fault) k t u g h p q = absurd (let r = p in cc)
same-issuer source (Ok found) k t u g h p q =
    other-issuer found k t u
    (one-finding no_terms source found (issuer-held found.object found.fault t p) g k h) p q

held-issuer : (held : Option (Option (List ℕ))) (f k : Finding) (t u : TbsParts) → IsSome held
    → IfSome held (λ source. Finds no_terms source f) → IfSome held (λ source. Finds no_terms source k)
    → issuer_in f ≡ Ok t → issuer_in k ≡ Ok u → t ≡ u
held-issuer None f k t u known g h p q = absurd cc
held-issuer (Some source) f k t u known g h p q = same-issuer source f k t u g h p q

one-issuer : (holds : Holds) (name : Option (List ℕ)) (t u : Option TbsParts)
    → IfSome name (λ name. IsSome (holds name)) → IsIssuerOf holds name t → IsIssuerOf holds name u → t ≡ u
one-issuer holds None None None known g h = refl
one-issuer holds None None (Some u) known g h = absurd h
one-issuer holds None (Some t) u known g h = absurd g
one-issuer holds (Some name) None u known g h = absurd g
one-issuer holds (Some name) (Some t) None known g h = absurd h
one-issuer holds (Some name) (Some t) (Some u) known g h =
    ap Some (held-issuer (holds name) g.0 h.0 t u known g.1 h.1 g.2 h.2)

list-held : (x : Object) (fault : Option Fault) (l : CrlParts) → list_or x fault ≡ Ok l → fault ≡ None
list-held x None l p = refl
list-held x (Some fault) l p = absurd (let r = p in cc)

other-list : (found : OutcomeParts) (k : Finding) (l m : CrlParts) → IsAlone found k
    → list_in (Ok found) ≡ Ok l → list_in k ≡ Ok m → l ≡ m
other-list found k l m (inl e) p q = let r = sym p ∙ sym (ap list_in e) ∙ q in cc
other-list found k l m (inr e) p q = absurd (let r = sym (ap list_in e) ∙ q in cc)

same-list : (terms : TermParts) (source : Option (List ℕ)) (f k : Finding) (l m : CrlParts) → Finds terms source f
    → Finds terms source k → list_in f ≡ Ok l → list_in k ≡ Ok m → l ≡ m
same-list terms source (Err fault) k l m g h p q = absurd (let r = p in cc)
same-list terms source (Ok found) k l m g h p q =
    other-list found k l m
    (one-finding terms source found (list-held found.object found.fault l p) g k h) p q

held-list : (terms : TermParts) (held : Option (Option (List ℕ))) (f k : Finding) (l m : CrlParts) → IsSome held
    → IfSome held (λ source. Finds terms source f) → IfSome held (λ source. Finds terms source k)
    → list_in f ≡ Ok l → list_in k ≡ Ok m → l ≡ m
held-list terms None f k l m known g h p q = absurd cc
held-list terms (Some source) f k l m known g h p q = same-list terms source f k l m g h p q

one-list : (holds : Holds) (name : Option (List ℕ)) (t : Option TbsParts) (at : Option DateTime)
    (l m : Option CrlParts) → IfSome name (λ name. IsSome (holds name)) → IsListOf holds name t at l
    → IsListOf holds name t at m → l ≡ m
one-list holds name None at l m known g h = g ∙ sym h
one-list holds None (Some t) at l m known g h = g ∙ sym h
one-list holds (Some name) (Some t) at None m known g h = absurd g
one-list holds (Some name) (Some t) at (Some l) None known g h = absurd h
one-list holds (Some name) (Some t) at (Some l) (Some m) known g h =
    ap Some (held-list (list_terms t at) (holds name) g.0 h.0 l m known g.1 h.1 g.2 h.2)

same-terms : (t u : TermParts) → t.inspection ≡ u.inspection → t.issuer ≡ u.issuer → t.revocations ≡ u.revocations
    → t.moment ≡ u.moment → t ≡ u
same-terms t u p q l r =
    let e : term_parts t.inspection t.issuer t.revocations t.moment
    ≡ term_parts u.inspection u.issuer u.revocations u.moment = rw (p, q, l, r) refl in
    e

-- the same list of the same issuer, at the same moment
list-of-terms : (holds : Holds) (name : Option (List ℕ)) (t u : TermParts) → IfSome name (λ name. IsSome (holds name))
    → t.issuer ≡ u.issuer → t.moment ≡ u.moment → IsListOf holds name t.issuer t.moment t.revocations
    → IsListOf holds name u.issuer u.moment u.revocations → t.revocations ≡ u.revocations
list-of-terms holds name t u known p q g h =
    one-list holds name u.issuer u.moment t.revocations u.revocations known
    (subst (λ (at : Option DateTime). IsListOf holds name u.issuer at t.revocations) q
    (subst (λ (o : Option TbsParts). IsListOf holds name o t.moment t.revocations) p g)) h

one-terms : (holds : Holds) (clock : Clock) (a : Asked) (t u : TermParts) → IsKnown holds clock a
    → AreRequirements holds clock a t → AreRequirements holds clock a u → u ≡ t
one-terms holds clock a t u known g h =
    let issuer = one-issuer holds a.issuer u.issuer t.issuer known.issuer h.issuer g.issuer in
    let moment = one-moment clock a.moment u.moment t.moment known.moment h.moment g.moment in
    same-terms u t (h.inspection ∙ sym g.inspection) issuer
    (list-of-terms holds a.list u t known.list issuer moment h.revocations g.revocations) moment

-- ---- a run

the-same-files : (holds : Holds) (a : Asked) (terms : TermParts) (all : List OutputParts) → AreKnown holds a.files
    → AreSeen (Sees holds a.check a.form terms) a.files all → 0 ≡ worst all
    → (old new : World) → IsRun (Sees holds a.check a.form terms) a.files old new 0
    → Writes old new (outputs all) (faults all)
the-same-files holds a terms all known seen z old new (Whole others g w y) =
    let e = one-all holds a.check a.form terms a.files others all known g seen (sym y) (sym z) in
    subst (λ (x : List OutputParts). Writes old new (outputs x) (faults x)) (sym e) w
the-same-files holds a terms all known seen z old new (Cut front rest name others s mid parts g k w cut y) =
    absurd (let e = y in omega arith)

-- what is denied ends with the status 2
denied : {P : Type 0} (old new : World) (text : List ℕ) → Complains old new text 0 → P
denied old new text h = absurd (let e = h.1 in omega arith)

the-same : (holds : Holds) (clock : Clock) (a : Asked) (terms : TermParts) (all : List OutputParts)
    → IsKnown holds clock a → AreRequirements holds clock a terms
    → AreSeen (Sees holds a.check a.form terms) a.files all → 0 ≡ worst all
    → (old new : World) → IsRunOf holds clock old new 0 a → Writes old new (outputs all) (faults all)
the-same holds clock a terms all known are seen z old new (Held others h g) =
    the-same-files holds a terms all known.files seen z old new
    (subst (λ (t : TermParts). IsRun (Sees holds a.check a.form t) a.files old new 0)
    (one-terms holds clock a terms others known are h) g)
the-same holds clock a terms all known are seen z old new (Denied text h p) = denied old new text p

held-output : (holds : Holds) (clock : Clock) (a : Asked) (terms : TermParts) → IsKnown holds clock a
    → AreRequirements holds clock a terms
    → (old new : World) → IsRun (Sees holds a.check a.form terms) a.files old new 0
    → (output : List ℕ) × (said : List ℕ) × EndsWellWith holds clock a output said
held-output holds clock a terms known are old new (Whole all g w y) =
    (outputs all, faults all, the-same holds clock a terms all known are g y)
held-output holds clock a terms known are old new (Cut front rest name all s mid parts g k w cut y) =
    absurd (let e = y in omega arith)

pub one-output : (holds : Holds) (clock : Clock) (a : Asked) → IsKnown holds clock a
    → (old new : World) → IsRunOf holds clock old new 0 a
    → (output : List ℕ) × (said : List ℕ) × EndsWellWith holds clock a output said
one-output holds clock a known old new (Held terms h g) = held-output holds clock a terms known h old new g
one-output holds clock a known old new (Denied text h p) = denied old new text p
