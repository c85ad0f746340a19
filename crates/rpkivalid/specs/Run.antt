-- A run of what is asked for.
use Rattle.std.specs.Prelude.{◌≡◌, ◌≤◌, ◌<◌, ◌&&◌, ◌++◌, ⊤, ℕ, Bool, true, false, List, [], Option, Some, None, IfSome}
use Rattle.std.specs.Prelude.{if◌then◌else◌}
use Rattle.std.specs.List.{flat_map}
use Rattle.jiff.specs.Types.{DateTime}
use Rattle.rpki.specs.PublicKey.{KeyParts}
use Rattle.rpki_payloads.specs.Form.{IsTextIn}
use Rattle.rpki_payloads.specs.Made.{vrp_count}
use Rattle.rpki_payloads.specs.Metrics.{metrics_text}
use Rattle.rpki_payloads.specs.Payloads.{PayloadParts}
use Rattle.rpki_validation.specs.Basis.{Basis}
use Rattle.rpkivalid.specs.declared.denial.Denial.{Denial}
use Rattle.rpkivalid.specs.declared.denial.Denial.TheVariants as D
use Rattle.rpkivalid.specs.declared.question.Question.{Question}
use Rattle.rpkivalid.specs.Compared.{IsComparison}
use Rattle.rpkivalid.specs.Denied.{text_of}
use Rattle.rpkivalid.specs.Denying.{IsDenial}
use Rattle.rpkivalid.specs.Enough.{IsLeast, IsNoLeast}
use Rattle.rpkivalid.specs.Explained.{IsExplanation}
use Rattle.rpkivalid.specs.Locators.{Holds}
use Rattle.rpkivalid.specs.Moment.{IsDepth, IsMomentOf, IsNoMoment}
use Rattle.rpkivalid.specs.Question.{IsQuestion}
use Rattle.rpkivalid.specs.Reported.{count_line}
use Rattle.rpkivalid.specs.Request.{Asked}
use Rattle.rpkivalid.specs.Shown.{IsShown, ShownParts}
use Rattle.rpkivalid.specs.Words.{version_number}

-- the status where all is written: 1 where a locator has no trust anchor, or a file could not be read
abbrev pub status_of : (anchored read : Bool) → ℕ
status_of anchored read = if anchored && read then 0 else 1

-- the metrics of what is written, where a file of them is asked for: made at the clock's moment, after so many seconds;
-- of these nothing is known but what the host says
abbrev pub AreMetrics : Option (Option DateTime) → Option (List ℕ) → List PayloadParts → List ℕ → Type 0
AreMetrics clock None shown metrics = metrics ≡ []
AreMetrics clock (Some file) shown metrics =
    (made : DateTime) × IsMomentOf clock None made × (seconds : ℕ)
    × (metrics ≡ metrics_text version_number made seconds shown)

-- The text of payloads in the form that is asked for, made at the clock's moment: there are as many route origins as
-- are asked for.
pub record IsWritten (clock : Option (Option DateTime)) (a : Asked) (shown : List PayloadParts) (text : List ℕ)
    : Type 0 where
  pub least : ℕ
  pub fewest : IsLeast a.least least
  pub enough : least ≤ vrp_count shown
  pub made : DateTime
  pub dated : IsMomentOf clock None made
  pub lists : IsTextIn a.form shown made text

-- what a run gives: what goes to its output, to its metrics and to standard error, and the exit status
pub record RanParts : Type 0 where
  pub text : List ℕ
  pub metrics : List ℕ
  pub report : List ℕ
  pub status : ℕ

-- a text is given, with the status 0, and no other
pub record Gives (text : List ℕ) (r : RanParts) : Type 0 where
  pub text_is : r.text ≡ text
  pub metrics : r.metrics ≡ []
  pub report : r.report ≡ []
  pub status : r.status ≡ 0

-- this is told, with the status 2, and nothing is given
pub record Complains (report : List ℕ) (r : RanParts) : Type 0 where
  pub text : r.text ≡ []
  pub metrics : r.metrics ≡ []
  pub report_is : r.report ≡ report
  pub status : r.status ≡ 2

-- The text is that of the payloads under the locators that are asked for, at the moment that is asked for, with the
-- local exceptions that are asked for; and these are its metrics, and the status. One of the locators has a trust
-- anchor. What is found is told, and how many payloads there are.
pub record IsAnswer (basis : DateTime → ℕ → KeyParts → Basis) (holds : Holds) (clock : Option (Option DateTime))
    (a : Asked) (r : RanParts) : Type 0 where
  pub at : DateTime
  pub moment : IsMomentOf clock a.moment at
  pub depth : ℕ
  pub deep : IsDepth a.depth depth
  pub shown : ShownParts
  pub shows : IsShown (basis at depth) holds a shown
  pub some : shown.some ≡ true
  pub written : IsWritten clock a shown.payloads r.text
  pub metrics_are : AreMetrics clock a.metrics shown.payloads r.metrics
  pub report_is : r.report ≡ shown.lines ++ flat_map count_line shown.payloads
  pub read : Bool
  pub known : IfSome holds (λ files. read ≡ true)
  pub status_is : r.status ≡ status_of shown.all read

-- The text explains what is to be explained, by what is found under the locators that are asked for at that moment; and
-- this is the status.
pub record IsExplained (basis : DateTime → ℕ → KeyParts → Basis) (holds : Holds) (clock : Option (Option DateTime))
    (a : Asked) (r : RanParts) : Type 0 where
  pub at : DateTime
  pub moment : IsMomentOf clock a.moment at
  pub depth : ℕ
  pub deep : IsDepth a.depth depth
  pub question : Question
  pub asks : IsQuestion a.explain a.number (Some question)
  pub anchored : Bool
  pub told : IsExplanation (basis at depth) holds a question r.text r.report anchored
  pub metrics_are : r.metrics ≡ []
  pub read : Bool
  pub known : IfSome holds (λ files. read ≡ true)
  pub status_is : r.status ≡ status_of anchored read

-- The text compares what is found with what the file lists; and this is the status, 1 also where they differ.
pub record IsCompared (basis : DateTime → ℕ → KeyParts → Basis) (holds : Holds) (clock : Option (Option DateTime))
    (a : Asked) (file : List ℕ) (r : RanParts) : Type 0 where
  pub at : DateTime
  pub moment : IsMomentOf clock a.moment at
  pub depth : ℕ
  pub deep : IsDepth a.depth depth
  pub anchored : Bool
  pub same : Bool
  pub compares : IsComparison (basis at depth) holds a file r.text r.report anchored same
  pub metrics_are : r.metrics ≡ []
  pub read : Bool
  pub known : IfSome holds (λ files. read ≡ true)
  pub status_is : r.status ≡ status_of (anchored && same) read

-- these lines are told, and why nothing is written
abbrev pub SaysWhy : (lines : List ℕ) → Denial → Asked → RanParts → Type 0
SaysWhy lines d a r = Complains (lines ++ text_of d a) r

-- why there are no metrics
abbrev pub IsUndated : Option (Option DateTime) → Denial → Type 0
IsUndated clock D.NoMoment = IsNoMoment clock None
IsUndated clock D.OutOfMemory = ⊤
IsUndated clock d = ⊥

-- why there is no text of payloads
abbrev pub IsUnlisted : Option (Option DateTime) → Asked → List PayloadParts → Denial → Type 0
IsUnlisted clock a shown D.NoLeast = IsNoLeast a.least
IsUnlisted clock a shown D.NoMoment = IsNoMoment clock None
IsUnlisted clock a shown D.TooFew = (least : ℕ) × IsLeast a.least least × (vrp_count shown < least)
IsUnlisted clock a shown D.OutOfMemory = ⊤
IsUnlisted clock a shown d = ⊥

-- why what is found is not written: no locator has a trust anchor, or by the above
pub data IsUnwritten (clock : Option (Option DateTime)) (a : Asked) (shown : ShownParts) (d : Denial) : Type 0 where
  Unanchored : d ≡ D.NoAnchor → shown.some ≡ false → IsUnwritten clock a shown d
  Unlisted : IsUnlisted clock a shown.payloads d → IsUnwritten clock a shown d
  Undated : IsUndated clock d → IsUnwritten clock a shown d

-- what is found is told, and why it is not written
pub record IsKept (basis : DateTime → ℕ → KeyParts → Basis) (holds : Holds) (clock : Option (Option DateTime))
    (a : Asked) (r : RanParts) : Type 0 where
  pub at : DateTime
  pub moment : IsMomentOf clock a.moment at
  pub depth : ℕ
  pub deep : IsDepth a.depth depth
  pub shown : ShownParts
  pub shows : IsShown (basis at depth) holds a shown
  pub denial : Denial
  pub why : IsUnwritten clock a shown denial
  pub told : SaysWhy shown.lines denial a r

-- The run of what is asked for: the comparison, where a file is to be compared; else the explanation, where something
-- is to be explained; else the payloads. Or why nothing is written.
pub data IsRunOf (basis : DateTime → ℕ → KeyParts → Basis) (holds : Holds) (clock : Option (Option DateTime))
    (a : Asked) (r : RanParts) : Type 0 where
  OfComparison : (file : List ℕ) → a.compare ≡ Some file → IsCompared basis holds clock a file r
      → IsRunOf basis holds clock a r
  OfQuestion : a.compare ≡ None → IsExplained basis holds clock a r → IsRunOf basis holds clock a r
  OfPayloads : a.compare ≡ None → IsQuestion a.explain a.number None → IsAnswer basis holds clock a r
      → IsRunOf basis holds clock a r
  Kept : a.compare ≡ None → IsQuestion a.explain a.number None → IsKept basis holds clock a r
      → IsRunOf basis holds clock a r
  Denied : (d : Denial) → IsDenial holds clock a d → SaysWhy [] d a r → IsRunOf basis holds clock a r
