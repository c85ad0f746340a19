-- What is handed out of what was made: its octets are read again, and what they are is valid.
use Rattle.std.specs.Prelude.{◌≡◌, ℕ, List, Option, Some, Result, MatchResult}
use Rattle.rpki_der.specs.declared.error.DecodeError.{DecodeError}
use Rattle.rpki_der.specs.declared.error.DecodeError.TheVariants.{OutOfMemory}
use Rattle.rpki_der.specs.Prelude.{Format, IsWholeFault, UnlessMemory, SpellsNothing}
use Rattle.rpki.specs.declared.repository.error.ValidationError.{ValidationError}
use Rattle.rpki.specs.declared.repository.error.ValidationError.TheVariants.{Decoding}
use Rattle.rpki.specs.ErrorContent.{validation_text}
use Rattle.rpki_issue.specs.declared.error.IssueError.{IssueError}
use Rattle.rpki_issue.specs.Refusal.{issue_text}
use Rattle.rpki_checked.specs.declared.error.CheckError.{CheckError}
use Rattle.rpki_checked.specs.declared.error.CheckError.TheVariants.{Refused, Invalid}

-- ---- read again

-- the octets are this one alone
pub record AreOnly {V : Type 0} (spells : V → List ℕ → Type 0) (whole : List ℕ) (value : V) : Type 0 where
  pub spelled : spells value whole
  pub only : (x : V) → spells x whole → x ≡ value

-- allocation failed; or they are none, with the error of that
pub data IsUnread {V : Type 0} (spells : V → List ℕ → Type 0) (fault : List ℕ → DecodeError → Type 0)
    (whole : List ℕ) : ValidationError → Type 0 where
  NoMemory : IsUnread spells fault whole (Decoding OutOfMemory)
  NotRead : (d : DecodeError) → UnlessMemory d (SpellsNothing spells whole) × fault whole d
      → IsUnread spells fault whole (Decoding d)

-- what a reader of them returns
abbrev pub ReadsAgain : {V : Type 0} → (V → List ℕ → Type 0) → (List ℕ → DecodeError → Type 0) → List ℕ
    → Result V ValidationError → Type 0
ReadsAgain spells fault whole r = MatchResult r (AreOnly spells whole) (IsUnread spells fault whole)

abbrev pub ReadsFormat : {V : Type 0} → Format V → List ℕ → Result V ValidationError → Type 0
ReadsFormat F = ReadsAgain F.spells (IsWholeFault F.spells F.fault)

-- ---- and verified

-- the octets are this one, which is valid
pub record IsFound {V : Type 0} (spells : V → List ℕ → Type 0) (Valid : V → Type 0) (whole : List ℕ) : Type 0 where
  pub value : V
  pub one : AreOnly spells whole value
  pub valid : Valid value

-- they couldn't be read, or are one that is not valid, with this error
pub data IsUnfound {V : Type 0} (spells : V → List ℕ → Type 0) (fault : List ℕ → DecodeError → Type 0)
    (Wrong : V → ValidationError → Type 0) (whole : List ℕ) : ValidationError → Type 0 where
  OfReading : (e : ValidationError) → IsUnread spells fault whole e → IsUnfound spells fault Wrong whole e
  OfRules : (x : V) (e : ValidationError) → AreOnly spells whole x → Wrong x e → IsUnfound spells fault Wrong whole e

-- ---- why nothing is handed out

-- the second step refuses it; or a validator refuses what that makes
pub data IsCheckRefusal (Unmade : IssueError → Type 0) (Made : List ℕ → Type 0)
    (Wrong : List ℕ → ValidationError → Type 0) : CheckError → Type 0 where
  OfSigning : (w : IssueError) → Unmade w → IsCheckRefusal Unmade Made Wrong (Refused w)
  OfChecking : (whole : List ℕ) (e : ValidationError) → Made whole → Wrong whole e
      → IsCheckRefusal Unmade Made Wrong (Invalid e)

-- what a person reads
abbrev pub check_text : CheckError → Option (List ℕ)
check_text (Refused e) = Some (issue_text e)
check_text (Invalid e) = validation_text e
