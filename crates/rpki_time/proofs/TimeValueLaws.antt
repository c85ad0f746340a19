-- Times as values: how long they are, what they are read as, and which are one.
use Rattle.std.proofs.Common.{◌≡◌, ◌↔◌, ℕ, ◌+◌, ◌<◌, ◌≤◌, ◌^◌, Bool, true, false, List, [], ◌++◌, length, Result, Ok}
use Rattle.std.proofs.Common.{refl, sym, ap, ◌∙◌, arith, inl, inr, lit<, length-append}
use Rattle.jiff.specs.Types.{DateTime}
use Rattle.rpki_der.specs.declared.error.DecodeError.{DecodeError}
use Rattle.rpki_der.specs.Prelude.{TagName, utc_time, generalized_time, Spells, Accepts, Reads, IsPrimitive}
use Rattle.rpki_der.proofs.EncodeLaws.{tlv-legal}
use Rattle.rpki_time.specs.Time.{IsTimeYear, cut}
use Rattle.rpki_time.specs.TimeText.{utc_text, generalized_text, is_utc_year, IsUtcYear}
use Rattle.rpki_time.specs.TimeValueLaws.{utc-legal, generalized-legal}
use Rattle.rpki_time.specs.TimeValue.{ReadsAs, SpellsTime, IsTimeFault, octets_where, time_octets, utc_octets}
use Rattle.rpki_time.specs.TimeValue.{generalized_octets}
use Rattle.rpki_time.proofs.ReadBackLaws.{flat-there, reads-back, tlv-short}
use Rattle.rpki_time.proofs.TextLaws.{utc-reads-cut, generalized-reads-cut, in-window}
use Rattle.rpki_time.proofs.TimeReadingLaws.{time-accepted, moved}

-- ---- how long they are

pub utc_fits : (t : DateTime) → length (utc_octets t) < 2 ^ 63
utc_fits t = let size : length (utc_octets t) ≡ 2 + 13 = tlv-short utc_time false (utc_text t) (lit< tt) (lit< tt) in
    omega arith

pub generalized_fits : (t : DateTime) → length (generalized_octets t) < 2 ^ 63
generalized_fits t = let size : length (generalized_octets t) ≡ 2 + 15 = tlv-short generalized_time false
    (generalized_text t) (lit< tt) (lit< tt) in omega arith

few-where : (utc : Bool) (t : DateTime) → length (octets_where utc t) ≤ 17
few-where true t = let size : length (utc_octets t) ≡ 2 + 13 = tlv-short utc_time false (utc_text t) (lit< tt) (lit< tt)
    in omega arith
few-where false t = let size : length (generalized_octets t) ≡ 2 + 15 = tlv-short generalized_time false
    (generalized_text t) (lit< tt) (lit< tt) in omega arith

pub time-few : (t : DateTime) → length (time_octets t) ≤ 17
time-few t = few-where (is_utc_year t.date.year) t

pub time_fits : (t : DateTime) → length (time_octets t) < 2 ^ 63
time_fits t = let few = time-few t in omega arith

pub times-few : (t u : DateTime) → length (time_octets t ++ time_octets u) ≤ 34
times-few t u =
    let a = time-few t in
    let b = time-few u in
    omega (arith, length-append (time_octets t) (time_octets u))

pub times-fit : (t u : DateTime) → length (time_octets t ++ time_octets u) < 2 ^ 32
times-fit t u = let few = times-few t u in omega arith

-- ---- what they are read as

-- times that begin the octets are one
pub time-there : (s : List ℕ) (t : DateTime) (r : List ℕ) → Spells SpellsTime s t r → Accepts SpellsTime s t r
time-there s t r k =
    time-accepted s k.spelled.tag k.spelled.text r t
    (flat-there IsPrimitive k.spelled.tag false s k.spelled.text r refl
    (record { front = k.front; parts = k.parts; spelled = k.spelled.value })) k.spelled.reads

pub utc-spelled : (t : DateTime) → IsUtcYear t.date.year → SpellsTime (cut t) (utc_octets t)
utc-spelled t y = record {
  tag = utc_time;
  text = utc_text t;
  value = tlv-legal utc_time false (utc_text t) utc-legal
      (lit< tt);
  reads = inl (refl, utc-reads-cut t y);
}

pub generalized-spelled : (t : DateTime) → IsTimeYear t.date.year → SpellsTime (cut t) (generalized_octets t)
generalized-spelled t y = record {
  tag = generalized_time;
  text = generalized_text t;
  value = tlv-legal generalized_time
      false (generalized_text t) generalized-legal (lit< tt);
  reads = inr (refl, generalized-reads-cut t y);
}

spelled-where : (utc : Bool) (t : DateTime) → is_utc_year t.date.year ≡ utc → IsTimeYear t.date.year
    → SpellsTime (cut t) (octets_where utc t)
spelled-where true t e y = utc-spelled t (in-window t.date.year e)
spelled-where false t e y = generalized-spelled t y

pub time_spelled : (t : DateTime) → IsTimeYear t.date.year → SpellsTime (cut t) (time_octets t)
time_spelled t y = spelled-where (is_utc_year t.date.year) t refl y

-- what is spelled at the front
pub in-front : (s octets rest : List ℕ) (t : DateTime) → s ≡ octets ++ rest → SpellsTime t octets
    → Spells SpellsTime s t rest
in-front s octets rest t e h = record { front = octets; parts = e; spelled = h }

-- what is written as UTC time is read under that tag
pub utc-read-as : (s rest : List ℕ) (t u : DateTime) (q : List ℕ) → s ≡ utc_octets t ++ rest → Spells SpellsTime s u q
    → ReadsAs utc_time (utc_text t) u
utc-read-as s rest t u q e k =
    let there = flat-there IsPrimitive utc_time false s (utc_text t) rest refl
    (record { front = utc_octets t; parts = e; spelled = tlv-legal utc_time false (utc_text t) utc-legal (lit< tt) }) in
    (moved s utc_time (utc_text t) rest u q there k).0

read-in-window : (t : DateTime) (text : List ℕ) → ReadsAs utc_time text (cut t) → IsUtcYear t.date.year
read-in-window t text (inl h) = h.1.year
read-in-window t text (inr h) = absurd (let e : 23 ≡ 24 = ap (λ (x : TagName). x.number) h.0 in omega arith)

pub utc-only-in-window : (s rest : List ℕ) (t : DateTime) (q : List ℕ) → s ≡ utc_octets t ++ rest
    → Spells SpellsTime s (cut t) q → IsUtcYear t.date.year
utc-only-in-window s rest t q e k = read-in-window t (utc_text t) (utc-read-as s rest t (cut t) q e k)

-- ---- which are one

where-cut : (utc : Bool) (t : DateTime) → octets_where utc (cut t) ≡ octets_where utc t
where-cut true t = refl
where-cut false t = refl

pub time_octets-cut : (t : DateTime) → time_octets (cut t) ≡ time_octets t
time_octets-cut t = where-cut (is_utc_year t.date.year) t

-- two times in front of the same octets are one but for parts of a second, and so is what follows
pub times-in-front : (t u : DateTime) (x y : List ℕ) → IsTimeYear t.date.year → IsTimeYear u.date.year
    → time_octets t ++ x ≡ time_octets u ++ y → (cut t ≡ cut u) × (x ≡ y)
times-in-front t u x y yt yu e =
    let s = time_octets u ++ y in
    let a = time-there s (cut u) y (in-front s (time_octets u) y (cut u) refl (time_spelled u yu)) in
    a.only (cut t) x (in-front s (time_octets t) x (cut t) (sym e) (time_spelled t yt))

pub time-same : (t u : DateTime) → IsTimeYear t.date.year → IsTimeYear u.date.year
    → (time_octets t ≡ time_octets u) ↔ (cut t ≡ cut u)
time-same t u yt yu = (
  λ e. (times-in-front t u [] [] yt yu (ap (λ (w : List ℕ). w ++ []) e)).0,
  λ e. sym (time_octets-cut t) ∙ ap time_octets e ∙ time_octets-cut u,
)

-- octets that spell two times but for parts of a second
spelled-same : (t u : DateTime) (x y : List ℕ) → SpellsTime (cut t) x → SpellsTime (cut u) y → x ≡ y → cut t ≡ cut u
spelled-same t u x y ht hu e =
    let a = time-there (y ++ []) (cut u) [] (in-front (y ++ []) y [] (cut u) refl hu) in
    (a.only (cut t) [] (in-front (y ++ []) x [] (cut t) (ap (λ (w : List ℕ). w ++ []) (sym e)) ht)).0

pub utc-same : (t u : DateTime) → IsUtcYear t.date.year → IsUtcYear u.date.year
    → (utc_octets t ≡ utc_octets u) ↔ (cut t ≡ cut u)
utc-same t u yt yu = (
  λ e. spelled-same t u _ _ (utc-spelled t yt) (utc-spelled u yu) e,
  λ e. sym (where-cut true t) ∙ ap utc_octets e ∙ where-cut true u,
)

pub generalized-same : (t u : DateTime) → IsTimeYear t.date.year → IsTimeYear u.date.year
    → (generalized_octets t ≡ generalized_octets u) ↔ (cut t ≡ cut u)
generalized-same t u yt yu = (
  λ e. spelled-same t u _ _ (generalized-spelled t yt) (generalized-spelled u yu) e,
  λ e. sym (where-cut false t) ∙ ap generalized_octets e ∙ where-cut false u,
)

-- ---- what the reader returns

pub time-read_back : (s r : List ℕ) (x : Result DateTime DecodeError) (t : DateTime) (q : List ℕ)
    → Reads (λ w. w) SpellsTime IsTimeFault s r x → Spells SpellsTime s t q → (x ≡ Ok t) × (r ≡ q)
time-read_back s r x t q h k = reads-back SpellsTime IsTimeFault s r x t q (λ never. never) h (time-there s t q k)
