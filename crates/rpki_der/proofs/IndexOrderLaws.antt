-- An index is in order; and what that says of the members of a value.
use Rattle.std.proofs.Common.{◌≡◌, ◌≢◌, ℕ, zero, suc, ◌+◌, ◌<◌, ◌≤◌, true, false, List, [], ◌∷◌, ◌++◌, length, drop}
use Rattle.std.proofs.Common.{get_or, ◌-◌, Option, Some, None, IfSome, inl, inr, refl, sym, ap, subst, ◌∙◌, arith}
use Rattle.std.proofs.Common.{length-append}
use Rattle.std.specs.Prelude.{◌⊎◌, nat_eq, slice_get}
use Rattle.std.specs.List.{AllByRecursion}
use Rattle.std.specs.Option.{option_eq}
use Rattle.std.proofs.lemmas.Bool.{cases_Bool, cases_lt}
use Rattle.std.proofs.lemmas.Bool.Decides.{nat_tests}
use Rattle.std.proofs.lemmas.Option.{slice_get-get_or}
use Rattle.rpki_der.proofs.MemberLaws.{no-member, members-end}
use Rattle.rpki_der.specs.Members.{Members, Empty, Primitive, Constructed, spell, header_count}
use Rattle.rpki_der.specs.Index.{Entry, entry, entries, IsIndex}
use Rattle.rpki_der.specs.IndexMembers.{numbers_from}
use Rattle.rpki_der.specs.IndexOrder.{Follows, AreInOrder, HasEnd}
use Rattle.rpki_der.proofs.MembersLaws.{header, two-octets}
use Rattle.rpki_der.proofs.IndexingLaws.{length-entries}

abbrev IsBelow : ℕ → Option ℕ → Type 0
IsBelow n parent = IfSome parent (λ m. m < n)

-- the parent is this one, or it has a number from n on
abbrev IsOrFrom : Option ℕ → ℕ → Option ℕ → Type 0
IsOrFrom parent n o = (o ≡ parent) ⊎ ((m : ℕ) × (o ≡ Some m) × (n ≤ m))

-- entries in order, where the first has this number, by the rest of each
abbrev Ordered : ℕ → List Entry → Type 0
Ordered n [] = Unit {0}
Ordered n (e ∷ es) = IsBelow n e.parent × AllByRecursion (Follows n e) es × Ordered (n + 1) es

-- an entry of values between two places, in the value of this parent, where n entries come before
record IsWithin (low high : ℕ) (parent : Option ℕ) (n : ℕ) (e : Entry) : Type 0 where
  begins : low ≤ e.place
  grows : e.place < e.past
  ends : e.past ≤ high
  held : IsOrFrom parent n e.parent

all-map : {P Q : Entry → Type 0} (es : List Entry) → ((e : Entry) → P e → Q e) → AllByRecursion P es
    → AllByRecursion Q es
all-map [] f h = tt
all-map (e ∷ es) f h = (f e h.0, all-map es f h.1)

all-append : (P : Entry → Type 0) (es fs : List Entry) → AllByRecursion P es → AllByRecursion P fs
    → AllByRecursion P (es ++ fs)
all-append P [] fs h k = k
all-append P (e ∷ es) fs h k = (h.0, all-append P es fs h.1 k)

wider : (low low' high high' : ℕ) (parent parent' : Option ℕ) (n n' : ℕ) (e : Entry) → low' ≤ low → high ≤ high'
    → IsOrFrom parent' n' e.parent
    → IsWithin low high parent n e → IsWithin low' high' parent' n' e
wider low low' high high' parent parent' n n' e l h held w =
    record { begins = omega (arith, l, w.begins); grows = w.grows; ends = omega (arith, h, w.ends); held = held }

-- what is held by the value of entry n, or from n + 1 on, is held from n on
from-inside : (parent : Option ℕ) (n : ℕ) (o : Option ℕ) → IsOrFrom (Some n) (n + 1) o → IsOrFrom parent n o
from-inside parent n o (inl e) = inr (n, e, omega arith)
from-inside parent n o (inr h) = inr (h.0, h.1, omega (arith, h.2))

from-later : (parent : Option ℕ) (n k : ℕ) (o : Option ℕ) → n ≤ k → IsOrFrom parent k o → IsOrFrom parent n o
from-later parent n k o le (inl e) = inl e
from-later parent n k o le (inr h) = inr (h.0, h.1, omega (arith, le, h.2))

head-grows : (at : ℕ) (parent : Option ℕ) (t : _) (f : _) (c : List ℕ)
    → (entry at parent t f c).place < (entry at parent t f c).contents
head-grows at parent t f c = omega (arith, two-octets t f (length c))

entries-within : (vs : Members) (at : ℕ) (parent : Option ℕ) (n : ℕ)
    → AllByRecursion (IsWithin at (at + length (spell vs)) parent n) (entries vs at parent n)
entries-within Empty at parent n = tt
entries-within (Primitive t c rest) at parent n =
    let e = entry at parent t false c in
    let size : at + length (spell (Primitive t c rest)) ≡ e.past + length (spell rest) =
    omega (
      arith,
      length-append (header t false (length c) ++ c) (spell rest),
      length-append (header t false (length c))
          c,
    ) in
    let grows = head-grows at parent t false c in (
      record { begins = omega arith; grows = omega (arith, grows); ends = omega (arith, size); held = inl refl },
      all-map (entries rest e.past parent (n + 1))
          (λ f w. wider e.past at (e.past + length (spell rest)) (at + length (spell (Primitive t c rest))) parent
          parent (n + 1) n f
          (omega (arith, grows)) (omega (arith, size)) (from-later parent n (n + 1) f.parent (omega arith) w.held) w)
          (entries-within rest e.past parent (n + 1)),
    )
entries-within (Constructed t ms rest) at parent n =
    let c = spell ms in
    let e = entry at parent t true c in
    let k = n + 1 + header_count ms in
    let all = at + length (spell (Constructed t ms rest)) in
    let size : all ≡ e.past + length (spell rest) =
    omega (
      arith,
      length-append (header t true (length c) ++ c) (spell rest),
      length-append (header t true (length c))
          c,
    ) in
    let grows = head-grows at parent t true c in (
      record { begins = omega arith; grows = omega (arith, grows); ends = omega (arith, size); held = inl refl },
      all-append _ (entries ms e.contents (Some n) (n + 1)) (entries rest e.past parent k)
          (all-map (entries ms e.contents (Some n) (n + 1))
          (λ f w. wider e.contents at (e.contents + length c) all (Some n) parent (n + 1) n f
          (omega (arith, grows)) (omega (arith, size)) (from-inside parent n f.parent w.held) w)
          (entries-within ms e.contents (Some n) (n + 1)))
          (all-map (entries rest e.past parent k)
          (λ f w. wider e.past at (e.past + length (spell rest)) all parent parent k n f
          (omega (arith, grows)) (omega (arith, size)) (from-later parent n k f.parent (omega arith) w.held) w)
          (entries-within rest e.past parent k)),
    )

all-at : (P : Entry → Type 0) (es : List Entry) (i : ℕ) (e : Entry) → AllByRecursion P es → slice_get es i ≡ Some e
    → P e
all-at P [] i e h is = absurd (cc)
all-at P (x ∷ xs) zero e h is = let same : x ≡ e = cc in subst P same h.0
all-at P (x ∷ xs) (suc i) e h is = all-at P xs i e h.1 is

-- ---- the order

same-number : (m n : ℕ) → Some m ≡ Some n → m ≡ n
same-number m n e = cc

-- a parent with a number below n, or from k on, has none between
no-number : (parent o : Option ℕ) (n k m : ℕ) → IsBelow n parent → IsOrFrom parent k o → n ≤ m → m < k → o ≡ Some m → ⊥
no-number None o n k m below (inl e) low high is = absurd (let x = sym e ∙ is in cc)
no-number (Some p) o n k m below (inl e) low high is =
    absurd (let x = same-number p m (sym e ∙ is) in omega (arith, x, below, low))
no-number parent o n k m below (inr h) low high is =
    absurd (let x = same-number h.0 m (sym h.1 ∙ is) in omega (arith, x, h.2, high))

-- a number from n on is no parent below n
other-parent : (parent o : Option ℕ) (n : ℕ) → IsBelow n parent → (m : ℕ) → o ≡ Some m → n ≤ m → o ≢ parent
other-parent None o n below m is low e = absurd (let x = sym e ∙ is in cc)
other-parent (Some p) o n below m is low e =
    absurd (let x = same-number p m (sym e ∙ is) in omega (arith, x, below, low))

-- the entries of the members of e follow it
inside-follows : (n : ℕ) (e f : Entry) (high : ℕ) → IsBelow n e.parent → e.place < e.contents → high ≤ e.past
    → IsWithin e.contents high (Some n) (n + 1) f → Follows n e f
inside-follows n e f high below grows end w =
    let from = from-inside e.parent n f.parent w.held in (
      omega (arith, grows, w.begins),
      λ before. elim w.held [
        | inl is ↦ other-parent e.parent f.parent n below n is (omega arith)
        | inr h ↦ other-parent e.parent f.parent n below h.0 h.1 (omega (arith, h.2))
      ],
      λ is. omega (arith, w.grows, w.ends, end),
    )

-- the entries after the value of e follow it
behind-follows : (n k : ℕ) (e f : Entry) (low high : ℕ) (parent : Option ℕ) → IsBelow n parent → n < k
    → e.place < e.past → e.past ≤ low → IsWithin low high parent k f → Follows n e f
behind-follows n k e f low high parent below above grows end w = (
  omega (arith, grows, end, w.begins),
  λ before. absurd (omega (arith, before, end, w.begins)),
  λ is. absurd (no-number parent f.parent n k n below w.held (omega arith) above is),
)

below-more : (n k : ℕ) (parent : Option ℕ) → n ≤ k → IsBelow n parent → IsBelow k parent
below-more n k None le h = h
below-more n k (Some m) le h = omega (arith, le, h)

-- two lists in order are in order together, where all of the second follows the first
ordered-append : (n k mid low high : ℕ) (parent : Option ℕ) (es fs : List Entry) → k ≡ n + length es → mid ≤ low
    → IsBelow n parent
    → Ordered n es → AllByRecursion (λ e. (e.place < e.past) × (e.past ≤ mid)) es → Ordered k fs
    → AllByRecursion (IsWithin low high parent k) fs
    → Ordered n (es ++ fs)
ordered-append n k mid low high parent [] fs size apart below o ends p within =
    subst (λ (j : ℕ). Ordered j fs) (omega (arith, size)) p
ordered-append n k mid low high parent (e ∷ es) fs size apart below o ends p within = (
  o.0,
  all-append (Follows n e) es fs o.1 (all-map fs
      (λ f w. behind-follows n k e f low high parent below (omega (arith, size)) ends.0.0
      (omega (arith, apart, ends.0.1))
      w) within),
  ordered-append (n + 1) k mid low high parent es fs (omega (arith, size)) apart
      (below-more n (n + 1) parent (omega arith) below) o.2 ends.1 p within,
)

entries-ordered : (vs : Members) (at : ℕ) (parent : Option ℕ) (n : ℕ) → IsBelow n parent
    → Ordered n (entries vs at parent n)
entries-ordered Empty at parent n below = tt
entries-ordered (Primitive t c rest) at parent n below =
    let e = entry at parent t false c in
    let grows = head-grows at parent t false c in (
      below,
      all-map (entries rest e.past parent (n + 1))
          (λ f w. behind-follows n (n + 1) e f e.past (e.past + length (spell rest)) parent below (omega arith)
          (omega (arith, grows)) (omega arith) w)
          (entries-within rest e.past parent (n + 1)),
      entries-ordered rest e.past parent (n + 1) (below-more n (n + 1) parent (omega arith) below),
    )
entries-ordered (Constructed t ms rest) at parent n below =
    let c = spell ms in
    let e = entry at parent t true c in
    let k = n + 1 + header_count ms in
    let grows = head-grows at parent t true c in
    let inner = entries ms e.contents (Some n) (n + 1) in
    let outer = entries rest e.past parent k in
    let in-inner = entries-within ms e.contents (Some n) (n + 1) in
    let in-outer = entries-within rest e.past parent k in (
      below,
      all-append (Follows n e) inner outer
          (all-map inner (λ f w. inside-follows n e f (e.contents + length c) below grows (omega arith) w) in-inner)
          (all-map outer (λ f w. behind-follows n k e f e.past (e.past + length (spell rest)) parent below (omega arith)
          (omega (arith, grows)) (omega arith) w) in-outer),
      ordered-append (n + 1) k e.past e.past (e.past + length (spell rest)) parent inner outer
          (omega (arith, length-entries ms e.contents (Some n) (n + 1))) (omega arith)
          (below-more n (n + 1) parent (omega arith) below)
          (entries-ordered ms e.contents (Some n) (n + 1) (omega arith))
          (all-map inner (λ f w. (w.grows, omega (arith, w.ends))) in-inner)
          (entries-ordered rest e.past parent k (below-more n k parent (omega arith) below))
          in-outer,
    )

-- ---- the members of a value

-- an entry, and one that comes after it
follows-at : (n : ℕ) (es : List Entry) → Ordered n es → (i k : ℕ) (e f : Entry) → i < k → slice_get es i ≡ Some e
    → slice_get es k ≡ Some f → Follows (n + i) e f
follows-at n [] o i k e f lt a b = absurd (cc)
follows-at n (x ∷ xs) o i zero e f lt a b = absurd (omega (arith, lt))
follows-at n (x ∷ xs) o zero (suc k) e f lt a b =
    let same : x ≡ e = cc in
    subst (λ (y : Entry). Follows (n + 0) y f) same
    (subst (λ (m : ℕ). Follows m x f) (omega arith) (all-at (Follows n x) xs k f o.1 b))
follows-at n (x ∷ xs) o (suc i) (suc k) e f lt a b =
    subst (λ (m : ℕ). Follows m e f) (omega arith) (follows-at (n + 1) xs o.2 i k e f (omega (arith, lt)) a b)

-- the parent of an entry comes before it
below-at : (n : ℕ) (es : List Entry) → Ordered n es → (i : ℕ) (e : Entry) → slice_get es i ≡ Some e
    → IsBelow (n + i) e.parent
below-at n [] o i e a = absurd (cc)
below-at n (x ∷ xs) o zero e a = let same : x ≡ e = cc in subst (λ (y : Entry). IsBelow (n + 0) y.parent) same
    (subst (λ (m : ℕ). IsBelow m x.parent) (omega arith) o.0)
below-at n (x ∷ xs) o (suc i) e a = subst (λ (m : ℕ). IsBelow m e.parent) (omega arith) (below-at (n + 1) xs o.2 i e a)

equal-options : (o p : Option ℕ) → option_eq nat_eq o p ≡ true → o ≡ p
equal-options None None e = refl
equal-options None (Some m) e = absurd (cc)
equal-options (Some n) None e = absurd (cc)
equal-options (Some n) (Some m) e = ap Some (grind (arith, nat_tests))

no-equal : (o parent : Option ℕ) → o ≢ parent → option_eq nat_eq o parent ≡ false
no-equal o parent other = elim (cases_Bool (option_eq nat_eq o parent)) [
  | inl same ↦ absurd (other (equal-options o parent same))
  | inr apart ↦ apart
]

one-entry : (es : List Entry) (i k : ℕ) (e f : Entry) → i ≡ k → slice_get es i ≡ Some e → slice_get es k ≡ Some f
    → e ≡ f
one-entry es i k e f same a b = let c : slice_get es i ≡ Some f = ap (slice_get es) same ∙ b in cc

below-means : (n m : ℕ) (parent : Option ℕ) → IsBelow n parent → parent ≡ Some m → m < n
below-means n m None h is = absurd (cc)
below-means n m (Some k) h is = let same = same-number k m is in omega (arith, same, h)

pub index-in-order : {octets : List ℕ} {index : List Entry} → IsIndex octets index → AreInOrder index
index-in-order {octets} {index} i =
    let ordered : Ordered 0 index = subst (λ (es : List Entry). Ordered 0 es) (sym i.is)
    (entries-ordered i.members 0 None 0 tt) in (
      λ n k e f lt a b. subst (λ (m : ℕ). Follows m e f) (omega arith) (follows-at 0 index ordered n k e f lt a b),
      λ n m e a is. below-means n m e.parent
          (subst (λ (x : ℕ). IsBelow x e.parent) (omega arith) (below-at 0 index ordered n e a)) is,
    )

skipped-by : (parent : Option ℕ) (es : List Entry) (x : Entry) (d i j : ℕ) → j ≡ i + d → j ≤ length es
    → ((k : ℕ) (f : Entry) → i ≤ k → k < j → slice_get es k ≡ Some f → f.parent ≢ parent)
    → numbers_from i parent (drop i es) ≡ numbers_from j parent (drop j es)
skipped-by parent es x zero i j gap within other =
    let same : i ≡ j = omega (arith, gap) in
    ap (λ (k : ℕ). numbers_from k parent (drop k es)) same
skipped-by parent es x (suc d) i j gap within other =
    let here : slice_get es i ≡ Some (get_or es i x) = slice_get-get_or es i x (omega (arith, gap, within)) in
    let not : option_eq nat_eq (get_or es i x).parent parent ≡ false =
    no-equal (get_or es i x).parent parent (other i (get_or es i x) (omega arith) (omega (arith, gap)) here) in
    no-member i parent es x (omega (arith, gap, within)) not
    ∙ skipped-by parent es x d (i + 1) j (omega (arith, gap)) within
    (λ k f low high is. other k f (omega (arith, low)) high is)

-- entries that have another parent are left out
pub numbers-skipped : (parent : Option ℕ) (es : List Entry) (x : Entry) (i j : ℕ) → i ≤ j → j ≤ length es
    → ((k : ℕ) (f : Entry) → i ≤ k → k < j → slice_get es k ≡ Some f → f.parent ≢ parent)
    → numbers_from i parent (drop i es) ≡ numbers_from j parent (drop j es)
numbers-skipped parent es x i j le within other = skipped-by parent es x (j - i) i j (omega (arith, le)) within other

-- after a member the next one does not begin in its value
pub siblings-apart : (es : List Entry) → AreInOrder es → (i j : ℕ) (e last : Entry) → slice_get es i ≡ Some e → i < j
    → j < length es
    → slice_get es j ≡ Some last → last.place < e.past
    → numbers_from (i + 1) e.parent (drop (i + 1) es) ≡ numbers_from (j + 1) e.parent (drop (j + 1) es)
siblings-apart es o i j e last at lt within is before =
    numbers-skipped e.parent es e (i + 1) (j + 1) (omega (arith, lt)) (omega (arith, within)) (λ k f low high there.
    let follows = o.0 i k e f (omega (arith, low)) at there in
    follows.1 (elim (cases_lt k j) [
      | inl less ↦ let later = o.0 k j f last less there is in omega (arith, later.0, before)
      | inr more ↦
          let same : k ≡ j = omega (arith, more, high) in
          let one : f ≡ last = one-entry es k j f last same there is in
          subst (λ (g : Entry). g.place < e.past) (sym one) before
    ]))

-- no member begins past the end of its parent
pub members-past : (parent : Option ℕ) (past : ℕ) (es : List Entry) → AreInOrder es → HasEnd parent es past
    → (i : ℕ) (e : Entry) → slice_get es i ≡ Some e → i < length es → past ≤ e.place
    → numbers_from i parent (drop i es) ≡ []
members-past parent past es o ends i e at within beyond =
    numbers-skipped parent es e i (length es) (omega (arith, within)) (omega arith) (λ k f low high there.
    ends k f there (elim (cases_lt i k) [
      | inl less ↦ let later = o.0 i k e f less at there in omega (arith, later.0, beyond)
      | inr more ↦
          let same : k ≡ i = omega (arith, more, low) in
          let one : f ≡ e = one-entry es k i f e same there at in
          subst (λ (g : Entry). past ≤ g.place) (sym one) beyond
    ]))
    ∙ members-end (length es) parent es (omega arith)

-- no entry up to a value's is of its members
pub members-after : (es : List Entry) → AreInOrder es → (q : ℕ) (x : Entry) → q < length es
    → numbers_from 0 (Some q) es ≡ numbers_from (q + 1) (Some q) (drop (q + 1) es)
members-after es o q x within =
    numbers-skipped (Some q) es x 0 (q + 1) (omega arith) (omega (arith, within)) (λ k f low high there same.
    let before = o.1 k q f there same in omega (arith, before, high))

pub has-end : (es : List Entry) → AreInOrder es → (q : ℕ) (e : Entry) → slice_get es q ≡ Some e
    → HasEnd (Some q) es e.past
has-end es o q e at = λ k f there beyond same.
    elim (cases_lt q k) [
      | inl less ↦ let follows = o.0 q k e f less at there in omega (arith, follows.2 same, beyond)
      | inr more ↦ let before = o.1 k q f there same in omega (arith, before, more)
    ]
