use Rattle.std.proofs.Common.{◌≡◌, ◌∙◌, Some, None, Option, IfSome, ℕ, true, List, pos, codes, bytes_eq}
use Rattle.std.proofs.Common.{refl, sym}
use Rattle.jiff.specs.Types.{DateTime}
use Rattle.jiff.specs.Words.{civil_nanos}
use Rattle.jiff.proofs.Family.{civil_nanos-parts, days_from_civil-max}
use Rattle.rpki_time.specs.Time.{HasParts}
use Rattle.rpkivalid.specs.Moment.{moment_of, last_moment}
use Rattle.rpkivalid.proofs.MomentLaws.{read-some, read-none, no-moment}
use Rattle.rpkivalid.proofs.moment.named_moment.Goals as goal

last-moment : (text : List ℕ) (e : bytes_eq text (codes "9999-12-31T23:59:59Z") ≡ true) (r : Option DateTime)
    → IfSome r (HasParts (pos 9999) 12 31 23 59 59) → IfSome r (λ t. moment_of text ≡ Some (civil_nanos t))
last-moment text e None h = tt
last-moment text e (Some t) h =
    let nanos : civil_nanos t ≡ last_moment =
    civil_nanos-parts t
    ∙ rw (h.year, h.month, h.day, h.hour, h.minute, h.second, h.subsec, days_from_civil-max) refl
    in
    rw (e, nanos) refl

pub returns-then-eq-clause-some : goal.returns-then-eq-clause-some
returns-then-eq-clause-some c =
    last-moment c.args.word.now (sym c.eq.ensures ∙ c.if-eq.true) c.utc.result c.utc.ensures.value

pub returns-then-is_date_time-clause-some : goal.returns-then-is_date_time-clause-some
returns-then-is_date_time-clause-some c =
    read-some c.args.word.now _ (sym c.eq.ensures ∙ c.if-eq.false) (sym c.is_date_time.ensures ∙ c.if-is_date_time.true)
    c.read_moment.ensures.some

pub returns-then-is_date_time-clause-none : goal.returns-then-is_date_time-clause-none
returns-then-is_date_time-clause-none c =
    read-none c.args.word.now _ (sym c.eq.ensures ∙ c.if-eq.false) (sym c.is_date_time.ensures ∙ c.if-is_date_time.true)
    c.read_moment.ensures.none

pub returns-clause-none : goal.returns-clause-none
returns-clause-none c =
    no-moment c.args.word.now (sym c.eq.ensures ∙ c.if-eq.false) (sym c.is_date_time.ensures ∙ c.if-is_date_time.false)
