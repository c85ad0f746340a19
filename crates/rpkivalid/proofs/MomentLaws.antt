-- The moment that is asked for.
use Rattle.std.proofs.Common.{◌≡◌, ◌∙◌, ℕ, ℤ, Bool, true, false, List, codes, bytes_eq, ap, refl, sym, subst}
use Rattle.std.specs.Prelude.{Option, Some, None, Result, Ok, Err, IfSome, IfNone, IsOkAnd, IsSomeAnd}
use Rattle.jiff.specs.Types.{DateTime}
use Rattle.jiff.specs.Words.{civil_nanos, parse_timestamp, Error}
use Rattle.rpki_time.specs.Time.{IsTimeNanos}
use Rattle.rpkivalid.specs.Moment.{is_date_time, is_now, moment_of, some_ok, IsMomentOf, IsNamed, IsNamedBy}
use Rattle.rpkivalid.specs.Moment.{IsNoMoment, IsUnnamedBy}

-- what the clock has
clock-some : (r : Option DateTime) (clock : Option (Option DateTime)) → IfSome clock (λ at. r ≡ at)
    → IfSome r (λ t. IfSome clock (λ now. now ≡ Some t))
clock-some None clock h = tt
clock-some (Some t) None h = tt
clock-some (Some t) (Some at) h = sym h

pub clock-moment : (word : Option (List ℕ)) (r : Option DateTime) (clock : Option (Option DateTime)) → word ≡ None
    → IfSome clock (λ at. r ≡ at) → IfSome r (IsMomentOf clock word)
clock-moment word r clock e h =
    subst (λ (w : Option (List ℕ)). IfSome r (IsMomentOf clock w)) (sym e) (clock-some r clock h)

-- the moment that a word names
pub now-named : (clock : Option (Option DateTime)) (r : Option DateTime) (word : List ℕ) → is_now word ≡ true
    → IfSome clock (λ at. r ≡ at) → IfSome r (IsNamed clock word)
now-named clock r word e h =
    subst (λ (now : Bool). IfSome r (IsNamedBy now clock word)) (sym e) (clock-some r clock h)

pub text-named : (clock : Option (Option DateTime)) (r : Option DateTime) (word : List ℕ) → is_now word ≡ false
    → IfSome r (λ t. moment_of word ≡ Some (civil_nanos t)) → IfSome r (IsNamed clock word)
text-named clock r word e h = subst (λ (now : Bool). IfSome r (IsNamedBy now clock word)) (sym e) h

-- ---- no moment

clock-none : (r : Option DateTime) (clock : Option (Option DateTime)) → IfSome clock (λ at. r ≡ at)
    → IfNone r (IfSome clock (λ now. now ≡ None))
clock-none None None h = tt
clock-none None (Some at) h = sym h
clock-none (Some t) clock h = tt

pub unclocked : (word : Option (List ℕ)) (r : Option DateTime) (clock : Option (Option DateTime)) → word ≡ None
    → IfSome clock (λ at. r ≡ at) → IfNone r (IsNoMoment clock word)
unclocked word r clock e h =
    subst (λ (w : Option (List ℕ)). IfNone r (IsNoMoment clock w)) (sym e) (clock-none r clock h)

pub now-unnamed : (clock : Option (Option DateTime)) (r : Option DateTime) (word : List ℕ) → is_now word ≡ true
    → IfSome clock (λ at. r ≡ at) → IfNone r (IsUnnamedBy (is_now word) clock word)
now-unnamed clock r word e h =
    subst (λ (now : Bool). IfNone r (IsUnnamedBy now clock word)) (sym e) (clock-none r clock h)

pub text-unnamed : (clock : Option (Option DateTime)) (r : Option DateTime) (word : List ℕ) → is_now word ≡ false
    → IfNone r (IsSomeAnd (moment_of word) IsTimeNanos → ⊥) → IfNone r (IsUnnamedBy (is_now word) clock word)
text-unnamed clock r word e h = subst (λ (now : Bool). IfNone r (IsUnnamedBy now clock word)) (sym e) h

-- ---- the text of a moment

module _ (text : List ℕ) where
  as-read : bytes_eq text (codes "9999-12-31T23:59:59Z") ≡ false → is_date_time text ≡ true
      → moment_of text ≡ some_ok (parse_timestamp text)
  as-read last date = rw (last, date) refl

  pub read-some : (r : Option DateTime) → bytes_eq text (codes "9999-12-31T23:59:59Z") ≡ false
      → is_date_time text ≡ true → IfSome r (λ t. parse_timestamp text ≡ Ok (civil_nanos t))
      → IfSome r (λ t. moment_of text ≡ Some (civil_nanos t))
  read-some None last date h = tt
  read-some (Some t) last date h = as-read last date ∙ ap some_ok h

  not-read : (r : Result ℤ Error) → (IsOkAnd r IsTimeNanos → ⊥) → IsSomeAnd (some_ok r) IsTimeNanos → ⊥
  not-read (Ok n) none h = none h
  not-read (Err e) none h = absurd h

  pub read-none : (r : Option DateTime) → bytes_eq text (codes "9999-12-31T23:59:59Z") ≡ false
      → is_date_time text ≡ true → IfNone r (IsOkAnd (parse_timestamp text) IsTimeNanos → ⊥)
      → IfNone r (IsSomeAnd (moment_of text) IsTimeNanos → ⊥)
  read-none None last date h = λ k.
      not-read (parse_timestamp text) h
      (subst (λ (o : Option ℤ). IsSomeAnd o IsTimeNanos) (as-read last date) k)
  read-none (Some t) last date h = tt

  pub no-moment : bytes_eq text (codes "9999-12-31T23:59:59Z") ≡ false → is_date_time text ≡ false
      → IsSomeAnd (moment_of text) IsTimeNanos → ⊥
  no-moment last date k =
      let none : moment_of text ≡ None = rw (last, date) refl in
      subst (λ (o : Option ℤ). IsSomeAnd o IsTimeNanos) none k
