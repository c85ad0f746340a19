-- Parts of octets that are in others.
use Rattle.std.proofs.Common.{◌≡◌, ℕ, ◌+◌, ◌-◌, ◌≤◌, Bool, Option, None, Some, Ok, List, [], ◌++◌, length, take, drop}
use Rattle.std.proofs.Common.{refl, sym, ap, subst, ◌∙◌, arith, length-append}
use Rattle.std.specs.Prelude.{slice_range}
use Rattle.std.proofs.Math.Seq.{drop-append-add}
use Rattle.std.proofs.lemmas.List.{append_assoc, append-nil, drop-append-le, take-append-drop, take-append-le, take_all}
use Rattle.std.proofs.lemmas.List.{take_rest, length-drop, length-take, drop-drop}
use Rattle.rpki_der.specs.Header.{identifier_octets, length_octets}
use Rattle.rpki_der.specs.declared.error.DecodeError.{DecodeError}
use Rattle.rpki_der.specs.Reading.{Spells, Accepts, ReadsWhere}
use Rattle.rpki_der.specs.Standing.{StandsIn, StandsBefore}
use Rattle.rpki_der.specs.TagName.{TagName}
use Rattle.rpki_der.specs.Values.{SpellsContents}

-- ---- a part of what is in a source

-- it is the same part of the source
pub part-stands : (source : List ℕ) (end : ℕ) (s : List ℕ) (h : StandsIn source end s) (first i j : ℕ)
    → first ≡ end - length s → i ≤ j → j ≤ length s
    → slice_range source (first + i) (first + j) ≡ slice_range s i j
part-stands source end s h first i j is le within =
    let at : first ≡ length h.before = omega (arith, h.ends, is) in
    let size : first + j - (first + i) ≡ j - i = omega arith in
    let moved : drop (first + i) source ≡ drop i (s ++ h.after) = rw (at, h.parts)
    (drop-append-add h.before (s ++ h.after) i) in
    let inside : drop i (s ++ h.after) ≡ drop i s ++ h.after = drop-append-le i s h.after (omega arith) in
    let left = length-drop i s in
    rw (size, moved, inside) (take-append-le (j - i) (drop i s) h.after (omega arith))

-- all of it, between its places
pub all-stands : (source : List ℕ) (end : ℕ) (s : List ℕ) (h : StandsIn source end s)
    → slice_range source (end - length s) end ≡ s
all-stands source end s h =
    let i = end - length s in
    let start : i + 0 ≡ i = omega arith in
    let last : end ≡ i + length s = omega (arith, h.ends) in
    let whole : slice_range s 0 (length s) ≡ s = take_rest s 0 in
    let part = part-stands source end s h i 0 (length s) refl (omega arith) (omega arith) in
    rw (← last) at (rw start at (part ∙ whole))

-- octets that are a part of the source are there
pub part-is-there : (source : List ℕ) (end : ℕ) (s : List ℕ) → length s ≤ end → end ≤ length source
    → slice_range source (end - length s) end ≡ s → StandsIn source end s
part-is-there source end s fits within is =
    let start = end - length s in
    let rest = drop start source in
    let size : end - start ≡ length s = omega arith in
    let last : start + length s ≡ end = omega arith in
    let part : take (length s) rest ≡ s = rw size at is in
    let after : drop (length s) rest ≡ drop end source = rw last at (drop-drop (length s) start source) in
    record {
      before = take start source;
      after = drop end source;
      parts = sym (take-append-drop start source) ∙ ap (λ (x : List ℕ). take start source ++ x)
          (sym (take-append-drop (length s) rest) ∙ ap (λ (x : List ℕ). x ++ drop (length s) rest) part
          ∙ ap (λ (x : List ℕ). s ++ x) after);
      ends = omega (arith, length-take start source);
    }

-- a part that others follow ends as many octets before
pub part-before : (source : List ℕ) (end : ℕ) (s part rest : List ℕ) → StandsIn source end s → StandsBefore s part rest
    → StandsIn source (end - length rest) part
part-before source end s part rest h inner =
    let front = inner.before in
    let all : source ≡ h.before ++ ((front ++ (part ++ rest)) ++ h.after) = h.parts ∙ ap
    (λ (x : List ℕ). h.before ++ (x ++ h.after)) inner.parts in
    let split : (front ++ (part ++ rest)) ++ h.after ≡ front ++ (part ++ (rest ++ h.after)) =
    append_assoc front (part ++ rest) h.after ∙ ap (λ (x : List ℕ). front ++ x) (append_assoc part rest h.after) in
    record {
      before = h.before ++ front;
      after = rest ++ h.after;
      parts = all ∙ ap (λ (x : List ℕ). h.before ++ x) split ∙ sym
          (append_assoc h.before front (part ++ (rest ++ h.after)));
      ends = omega (
        arith,
        h.ends,
        ap length inner.parts,
        length-append front (part ++ rest),
        length-append part rest,
        length-append h.before front,
      );
    }

-- ---- what is in a list

-- all of it
pub all-in : (s : List ℕ) → StandsIn s (length s) s
all-in s = record { before = []; after = []; parts = sym (append-nil s); ends = omega arith }

-- a part before what follows it
pub stands-at : (s part rest : List ℕ) → StandsBefore s part rest → StandsIn s (length s - length rest) part
stands-at s part rest h = record {
  before = h.before;
  after = rest;
  parts = h.parts;
  ends = omega (arith, ap length h.parts, length-append h.before (part ++ rest), length-append part rest);
}

pub no-longer : (s part rest : List ℕ) → StandsBefore s part rest → length part + length rest ≤ length s
no-longer s part rest h =
    omega (arith, ap length h.parts, length-append h.before (part ++ rest), length-append part rest)

-- a front of it
pub front-stands : (s front following : List ℕ) (n : ℕ) → front ≡ take n s → following ≡ drop n s
    → StandsBefore s front following
front-stands s front following n is left = record {
  before = [];
  parts = sym (take-append-drop n s) ∙ sym (ap (λ (x : List ℕ). x ++ drop n s) is) ∙ sym
      (ap (λ (x : List ℕ). front ++ x) left);
}

-- an end of the contents of a value at its front
pub contents-stand : (t : TagName) (f : Bool) (s c r first part : List ℕ) → Spells (SpellsContents t f) s c r
    → c ≡ first ++ part → StandsBefore s part r
contents-stand t f s c r first part h is =
    let head : List ℕ = identifier_octets t f ++ length_octets (length c) in
    let split : s ≡ (head ++ (first ++ part)) ++ r = h.parts ∙ ap (λ (x : List ℕ). x ++ r)
    (h.spelled.octets ∙ ap (λ (x : List ℕ). head ++ x) is) in
    record {
      before = head ++ first;
      parts = split ∙ ap (λ (x : List ℕ). x ++ r) (sym (append_assoc head first part)) ∙
          append_assoc (head ++ first) part r;
    }

-- a part of a part
pub inner-stands : {s part rest inner more : List ℕ} → StandsBefore s part rest → StandsBefore part inner more
    → StandsBefore s inner (more ++ rest)
inner-stands {s} {part} {rest} {inner} {more} h k =
    let front : List ℕ = k.before in
    let split : (front ++ (inner ++ more)) ++ rest ≡ front ++ (inner ++ (more ++ rest)) =
    append_assoc front (inner ++ more) rest ∙ ap (λ (x : List ℕ). front ++ x) (append_assoc inner more rest) in
    record {
      before = h.before ++ front;
      parts = h.parts ∙ ap (λ (x : List ℕ). h.before ++ (x ++ rest)) k.parts
          ∙ ap (λ (x : List ℕ). h.before ++ x) split ∙ sym (append_assoc h.before front (inner ++ (more ++ rest)));
    }

-- what follows the first octet of a list
pub tail-of : (s c : List ℕ) → s ≡ c → take (length s - 1) (drop 1 s) ≡ drop 1 c
tail-of s c is = take_all (length s - 1) (drop 1 s) (omega (arith, length-drop 1 s)) ∙ ap (drop 1) is

-- the contents of a value at its front, without their first octet
pub tail-stands : (t : TagName) (f : Bool) (s c r whole : List ℕ) → Spells (SpellsContents t f) s c r → whole ≡ c
    → StandsBefore s (take (length whole - 1) (drop 1 whole)) r
tail-stands t f s c r whole h is =
    rw (tail-of whole c is) (contents-stand t f s c r (take 1 c) (drop 1 c) h (sym (take-append-drop 1 c)))

-- ---- what can be kept

-- what remains after a reading
pub held-after : {K V : Type 0} (holds : K → List ℕ → Type 0)
    (law : (k : K) (front rest : List ℕ) → holds k (front ++ rest) → holds k rest)
    {G : V → List ℕ → Type 0} {s r : List ℕ} {v : V} (k : K) → Accepts G s v r → holds k s → holds k r
held-after holds law k a held = law k a.spells.front _ (subst (holds k) a.spells.parts held)

-- the same of an optional reading
pub held-where : {K X V : Type 0} (holds : K → List ℕ → Type 0)
    (law : (k : K) (front rest : List ℕ) → holds k (front ++ rest) → holds k rest)
    (B : List ℕ → Type 0) (view : X → V) (G : V → List ℕ → Type 0) (F : List ℕ → DecodeError → Type 0) {s r : List ℕ}
    (o : Option X) (k : K)
    → ReadsWhere B view G F s r (Ok o) → holds k s → holds k r
held-where holds law B view G F None k h held = subst (holds k) (sym h.1) held
held-where holds law B view G F (Some x) k h held = held-after holds law k h.1 held
