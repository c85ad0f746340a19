-- A revocation list that is signed is read as the list that was to be signed.
use Rattle.std.proofs.Common.{◌≡◌, ◌<◌, ◌^◌, ℕ, List, [], ◌∷◌, length, sym, subst, Result, Ok, Err, IfOk}
use Rattle.rpki_der.specs.Listed.{EachHas}
use Rattle.rpki.specs.Provider.{Checkers}
use Rattle.rpki.specs.PublicKey.{KeyParts}
use Rattle.rpki_crl.specs.declared.crl_entry.CrlEntry.{CrlEntry}
use Rattle.rpki_crl.specs.Crl.{entry_of, entries_in, ListParts, crl, crl_parts}
use Rattle.rpki_crl.specs.EncodedCrl.{IsEntry, revoked_octets, list_octets, normal_list, IsShortList, IsListReadBack}
use Rattle.rpki_crl.proofs.ListReadLaws.{revoked-short, behind-read, behind-short, list-read, crl-read}
use Rattle.rpki_issue.specs.declared.error.IssueError.{IssueError}
use Rattle.rpki_issue.specs.declared.error.IssueError.TheVariants.{Uri, Period, Doubled, Resources, TooLong}
use Rattle.rpki_issue.specs.declared.error.IssueError.TheVariants.{Rule, ContentType, Certificate, BadSignature}
use Rattle.rpki_issue.specs.declared.error.IssueError.TheVariants.{OutOfMemory}
use Rattle.rpki_issue.specs.Signing.{signed_parts, signed_whole, IsShortWhole, AreSigned}
use Rattle.rpki_issue.specs.Written.{IsKeyedRefusal}
use Rattle.rpki_issue.specs.SignedList.{ListToSign, AreListKnown, IsListRefused, IsListPlanRefused, IsIssuedList}
use Rattle.rpki_issue.proofs.WrittenTbsLaws.{weaker}

-- its number and its date are those of types
abbrev pub IsKnown : CrlEntry → Type 0
IsKnown x = IsEntry (entry_of x)

pub entries-known : (xs : List CrlEntry) → EachHas IsKnown xs → EachHas IsEntry (entries_in xs)
entries-known [] h = h
entries-known (x ∷ xs) h = (h.0, entries-known xs h.1)

pub issued-list : (by : Checkers) (key : KeyParts) (made : ListToSign) (value : List ℕ)
    (r : Result (List ℕ) IssueError) → (made.octets ≡ list_octets made.list) × IsListReadBack made.list
    → IfOk r (λ w. AreSigned by key made.octets value w) → IfOk r (λ w. IsIssuedList by key made value w)
issued-list by key made value (Ok w) known h =
    let short = subst (λ (o : List ℕ). IsShortWhole o value) known.0 h.short in
    let read = subst
    (λ (o : List ℕ). crl.spells (crl_parts (signed_parts o value) (normal_list made.list)) (signed_whole o value))
    (sym known.0) (crl-read made.list value known.1 short) in
    record {
      signed = h;
      read_back = subst
          (λ (o : List ℕ). crl.spells (crl_parts (signed_parts made.octets value) (normal_list made.list)) o)
          (sym h.written) read;
    }
issued-list by key made value (Err e) known h = h

pub all-read : (x : ListParts) → IsShortList x → AreListKnown x → IsListReadBack x
all-read x short known =
    let behind = behind-short x short in
    list-read x known.head
    (behind-read x known.times.this_update known.times.next_update known.extensions known.revoked behind) short

pub revoked-refused : (x : ListParts) (w : IssueError) → IsKeyedRefusal (length (revoked_octets x.revoked) < 2 ^ 32) w
    → IsListRefused x w
revoked-refused x w h =
    weaker (length (revoked_octets x.revoked) < 2 ^ 32) (IsShortList x) w
    (λ short. revoked-short x (behind-short x short)) h

pub plan-refused : (x : ListParts) (w : IssueError) → IsListRefused x w → IsListPlanRefused x w
plan-refused x Uri h = h
plan-refused x Period h = absurd h
plan-refused x Doubled h = absurd h
plan-refused x Resources h = h
plan-refused x TooLong h = h
plan-refused x (Rule r) h = h
plan-refused x ContentType h = h
plan-refused x Certificate h = h
plan-refused x BadSignature h = h
plan-refused x OutOfMemory h = h
