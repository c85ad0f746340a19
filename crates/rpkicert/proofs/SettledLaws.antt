-- What is written where the terms of a run are none.
use Rattle.std.proofs.Common.{◌≡◌, ◌⊎◌, ℕ, Bool, true, false, List, refl, sym, subst, inl, inr}
use Rattle.std.specs.Prelude.{Option, Some, None, Result, Ok, Err, Vec, IfOk, IfSome, IfNone, IsOkAnd}
use Rattle.jiff.specs.Types.{DateTime}
use Rattle.jiff.specs.Words.{civil_nanos}
use Rattle.rpki_time.specs.Time.{IsTimeNanos}
use Rattle.rpki_cert.specs.Cert.{TbsParts}
use Rattle.rpki_cli.specs.World.{World}
use Rattle.rpki_crl.specs.Crl.{CrlParts}
use Rattle.rpkicert.specs.declared.fault.Fault.{Fault}
use Rattle.rpkicert.specs.Outcome.{Finding, Finds}
use Rattle.rpkicert.specs.Request.{Asked}
use Rattle.rpkicert.specs.Requirements.{term_parts, no_terms, list_terms}
use Rattle.rpkicert.specs.OutputView.{text_in}
use Rattle.rpkicert.specs.Words.{Complains, memory_text}
use Rattle.rpkicert.specs.Moment.{Clock, is_now, moment_of, NamesBy, NamesMoment, NamesNoneBy, NamesNoMoment, IsMoment}
use Rattle.rpkicert.specs.Run.{Holds, IsIssuer, IsIssuerOf, issuer_in, IsDenied, IsList, IsListOf, list_in}
use Rattle.rpkicert.specs.Run.{RunsAgainst, RunsListed}
use Rattle.rpkicert.specs.Run.{IsDeniedBy, RunsOver, RunsBy, IsRunOf, wrong_moment_text, wrong_issuer_text}
use Rattle.rpkicert.specs.Run.IsDenied.{WrongMoment, WrongIssuer, WrongList, NoMemory}
use Rattle.rpkicert.specs.Run.IsRunOf.{Held, Denied}

-- the moment of the clock, or that of another word
clock-some : (clock : Clock) (r : Option DateTime) (word : List ℕ) → IfSome clock (λ at. r ≡ at)
    → IfSome r (NamesBy true clock word)
clock-some clock None word h = tt
clock-some None (Some t) word h = tt
clock-some (Some at) (Some t) word h = sym h

clock-none : (clock : Clock) (r : Option DateTime) (word : List ℕ) → IfSome clock (λ at. r ≡ at)
    → IfNone r (NamesNoneBy true clock word)
clock-none None None word h = tt
clock-none (Some at) None word h = sym h
clock-none clock (Some t) word h = tt

pub now-some : (clock : Clock) (r : Option DateTime) (word : List ℕ) → is_now word ≡ true → IfSome clock (λ at. r ≡ at)
    → IfSome r (NamesMoment clock word)
now-some clock r word e h =
    subst (λ (now : Bool). IfSome r (NamesBy now clock word)) (sym e) (clock-some clock r word h)

pub now-none : (clock : Clock) (r : Option DateTime) (word : List ℕ) → is_now word ≡ true → IfSome clock (λ at. r ≡ at)
    → IfNone r (NamesNoMoment clock word)
now-none clock r word e h =
    subst (λ (now : Bool). IfNone r (NamesNoneBy now clock word)) (sym e) (clock-none clock r word h)

pub text-some : (clock : Clock) (r : Option DateTime) (word : List ℕ) → is_now word ≡ false
    → IfSome r (λ t. moment_of word ≡ Ok (civil_nanos t)) → IfSome r (NamesMoment clock word)
text-some clock r word e h = subst (λ (now : Bool). IfSome r (NamesBy now clock word)) (sym e) h

pub text-none : (clock : Clock) (r : Option DateTime) (word : List ℕ) → is_now word ≡ false
    → IfNone r (IsOkAnd (moment_of word) IsTimeNanos → ⊥) → IfNone r (NamesNoMoment clock word)
text-none clock r word e h = subst (λ (now : Bool). IfNone r (NamesNoneBy now clock word)) (sym e) h

-- the moment that is asked for
pub no-moment : (clock : Clock) (word : Option (List ℕ)) → word ≡ None → IsMoment clock word None
no-moment clock word e = subst (λ (w : Option (List ℕ)). IsMoment clock w None) (sym e) tt

pub the-moment : (clock : Clock) (word : Option (List ℕ)) (text : List ℕ) (t : DateTime) → word ≡ Some text
    → NamesMoment clock text t → IsMoment clock word (Some t)
the-moment clock word text t e h = subst (λ (w : Option (List ℕ)). IsMoment clock w (Some t)) (sym e) h

-- a text that was made, or wasn't
pub denied-by : {Z E : Type 0} (r : Result (Vec ℕ Z) E) (wanted : List ℕ) (old new : World) (status : ℕ)
    → IfOk r (λ text. text.items ≡ wanted) → Complains old new (text_in r) status → IsDeniedBy old new status wanted
denied-by (Ok text) wanted old new status h p = record { said = text.items; either = inl h; told = p }
denied-by (Err e) wanted old new status h p = record { said = memory_text; either = inr refl; told = p }

-- the moment is none
told-moment : (holds : Holds) (clock : Clock) (a : Asked) (word : List ℕ) (said : List ℕ) → a.moment ≡ Some word
    → NamesNoMoment clock word → (said ≡ wrong_moment_text word) ⊎ (said ≡ memory_text) → IsDenied holds clock a said
told-moment holds clock a word said m h (inl e) = WrongMoment word m h e
told-moment holds clock a word said m h (inr e) = NoMemory e

pub wrong-moment : (holds : Holds) (clock : Clock) (a : Asked) (word : List ℕ) (old new : World)
    (status : ℕ) → a.moment ≡ Some word → NamesNoMoment clock word
    → IsDeniedBy old new status (wrong_moment_text word) → IsRunOf holds clock old new status a
wrong-moment holds clock a word old new status m h d =
    Denied d.said (told-moment holds clock a word d.said m h d.either) d.told

-- the issuer is none
told-issuer : (holds : Holds) (clock : Clock) (a : Asked) (name : List ℕ) (fault : Fault) (moment : Option DateTime)
    (said : List ℕ) → a.issuer ≡ Some name → IsMoment clock a.moment moment → IsIssuer holds name (Err fault)
    → (said ≡ wrong_issuer_text name fault) ⊎ (said ≡ memory_text) → IsDenied holds clock a said
told-issuer holds clock a name fault moment said n m h (inl e) = WrongIssuer name fault moment n m h e
told-issuer holds clock a name fault moment said n m h (inr e) = NoMemory e

-- the list is none
told-list : (holds : Holds) (clock : Clock) (a : Asked) (name : List ℕ) (issuer : TbsParts) (fault : Fault)
    (moment : Option DateTime) (said : List ℕ) → a.list ≡ Some name → IsMoment clock a.moment moment
    → IsIssuerOf holds a.issuer (Some issuer) → IsList holds name issuer moment (Err fault)
    → (said ≡ wrong_issuer_text name fault) ⊎ (said ≡ memory_text) → IsDenied holds clock a said
told-list holds clock a name issuer fault moment said n m i h (inl e) = WrongList name issuer fault moment n m i h e
told-list holds clock a name issuer fault moment said n m i h (inr e) = NoMemory e

-- the list of a file
pub by-found : (holds : Holds) (name : List ℕ) (issuer : TbsParts) (moment : Option DateTime) (finding : Finding)
    (list : Result CrlParts Fault) (old new : World) (status : ℕ) (a : Asked)
    (asked : Option (List ℕ)) → asked ≡ Some name
    → IfSome (holds name) (λ source. Finds (list_terms issuer moment) source finding) → list_in finding ≡ list
    → RunsAgainst holds old new status a issuer moment name list
    → RunsListed holds old new status a issuer moment asked
by-found holds name issuer moment finding list old new status a asked n h e r =
    subst (λ (o : Option (List ℕ)). RunsListed holds old new status a issuer moment o) (sym n)
    (list, (finding, h, e), r)

-- without a list
pub by-no-list : (holds : Holds) (issuer : TbsParts) (moment : Option DateTime) (old new : World)
    (status : ℕ) (a : Asked) (asked : Option (List ℕ)) → asked ≡ None
    → RunsOver holds old new status a (term_parts a.inspection (Some issuer) None moment)
    → RunsListed holds old new status a issuer moment asked
by-no-list holds issuer moment old new status a asked n r =
    subst (λ (o : Option (List ℕ)). RunsListed holds old new status a issuer moment o) (sym n) r

-- with an issuer and its list
against : (holds : Holds) (clock : Clock) (a : Asked) (issuer : TbsParts) (moment : Option DateTime) (name : List ℕ)
    (list : Result CrlParts Fault) (old new : World) (status : ℕ)
    → IsIssuerOf holds a.issuer (Some issuer) → IsMoment clock a.moment moment → a.list ≡ Some name
    → IsList holds name issuer moment list → RunsAgainst holds old new status a issuer moment name list
    → IsRunOf holds clock old new status a
against holds clock a issuer moment name (Ok l) old new status i m n h r =
    Held (term_parts a.inspection (Some issuer) (Some l) moment) (record {
      inspection = refl;
      issuer = i;
      revocations = subst (λ (o : Option (List ℕ)). IsListOf holds o (Some issuer) moment (Some l)) (sym n) h;
      moment = m;
    }) r
against holds clock a issuer moment name (Err fault) old new status i m n h r =
    Denied r.said (told-list holds clock a name issuer fault moment r.said n m i h r.either) r.told

with-list : (holds : Holds) (clock : Clock) (a : Asked) (issuer : TbsParts) (moment : Option DateTime)
    (asked : Option (List ℕ)) (old new : World) (status : ℕ)
    → IsIssuerOf holds a.issuer (Some issuer) → IsMoment clock a.moment moment → a.list ≡ asked
    → RunsListed holds old new status a issuer moment asked → IsRunOf holds clock old new status a
with-list holds clock a issuer moment None old new status i m n r =
    Held (term_parts a.inspection (Some issuer) None moment) (record {
      inspection = refl;
      issuer = i;
      revocations = subst (λ (o : Option (List ℕ)). IsListOf holds o (Some issuer) moment None) (sym n) refl;
      moment = m;
    }) r
with-list holds clock a issuer moment (Some name) old new status i m n r =
    against holds clock a issuer moment name r.0 old new status i m n r.1 r.2

-- with an issuer, or none
pub by-issuer : (holds : Holds) (clock : Clock) (a : Asked) (name : List ℕ) (moment : Option DateTime)
    (finding : Finding) (issuer : Result TbsParts Fault) (old new : World) (status : ℕ)
    → a.issuer ≡ Some name → IsMoment clock a.moment moment
    → IfSome (holds name) (λ source. Finds no_terms source finding) → issuer_in finding ≡ issuer
    → RunsBy holds old new status a name moment issuer → IsRunOf holds clock old new status a
by-issuer holds clock a name moment finding (Ok t) old new status n m h e r =
    with-list holds clock a t moment a.list old new status
    (subst (λ (o : Option (List ℕ)). IsIssuerOf holds o (Some t)) (sym n) (finding, h, e)) m refl r
by-issuer holds clock a name moment finding (Err fault) old new status n m h e r =
    Denied r.said (told-issuer holds clock a name fault moment r.said n m (finding, h, e) r.either) r.told

-- without an issuer
pub by-none : (holds : Holds) (clock : Clock) (a : Asked) (moment : Option DateTime) (old new : World)
    (status : ℕ) → a.issuer ≡ None → IsMoment clock a.moment moment
    → RunsOver holds old new status a (term_parts a.inspection None None moment)
    → IsRunOf holds clock old new status a
by-none holds clock a moment old new status n m r =
    Held (term_parts a.inspection None None moment) (record {
      inspection = refl;
      issuer = subst (λ (o : Option (List ℕ)). IsIssuerOf holds o None) (sym n) tt;
      revocations = refl;
      moment = m;
    }) r
