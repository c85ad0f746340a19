-- Laws of the index of values: it is one, each entry is where it says, and values after values have entries after
-- entries.
use Rattle.std.proofs.Common.{◌≡◌, ℕ, suc, ◌+◌, ◌-◌, ◌≤◌, Bool, true, false, cond, List, [], ◌∷◌, ◌++◌, length, take}
use Rattle.std.proofs.Common.{drop, Option, Some, None, refl, sym, ap, ◌∙◌, subst, arith, append_assoc, append-nil}
use Rattle.std.proofs.Common.{length-append, length-drop, take-append-drop}
use Rattle.std.specs.Prelude.{is_none, count_by, if◌then◌else◌}
use Rattle.std.specs.List.{between, AllByRecursion}
use Rattle.std.proofs.lemmas.List.{take_at, drop_at, length-take-le}
use Rattle.std.proofs.lemmas.List.Sums.{sum_by-append}
use Rattle.rpki_der.specs.TagName.{TagName}
use Rattle.rpki_der.specs.Header.{tlv}
use Rattle.rpki_der.specs.Members.{Members, Empty, Primitive, Constructed, spell, HaveHeaders, count, header_count}
use Rattle.rpki_der.specs.Members.{AreValues}
use Rattle.rpki_der.specs.ValueListLaws.{joined, spell-joined, headers-joined}
use Rattle.rpki_der.specs.Index.{Entry, entry, entries, IsIndex, StandsAt}
use Rattle.rpki_der.specs.IndexParts.{IsListed}
use Rattle.rpki_der.proofs.MembersLaws.{header, HasHeader, one-reading}
use Rattle.rpki_der.proofs.IndexingLaws.{length-entries}

-- ---- one index

pub one-index : {octets : List ℕ} {index other : List Entry} → IsIndex octets index → IsIndex octets other
    → other ≡ index
one-index {octets} {index} {other} i j =
    let same = one-reading j.members i.members j.legal i.legal (sym j.spelled ∙ i.spelled) in
    j.is ∙ ap (λ (vs : Members). entries vs 0 None 0) same ∙ sym i.is

-- ---- each entry is where it says

-- a part after pre
pub part-at : (pre x post : List ℕ) (i e : ℕ) → i ≡ length pre → e ≡ i + length x → between i e (pre ++ (x ++ post)) ≡ x
part-at pre x post i e h k =
    let n : e - i ≡ length x = omega arith in
    ap (λ (m : ℕ). take m (drop i (pre ++ (x ++ post)))) n ∙ ap (λ (y : List ℕ). take (length x) y)
    (drop_at pre (x ++ post) i (sym h)) ∙ take_at x post (length x) refl

entry-stands : (pre c post octets : List ℕ) (t : TagName) (f : Bool) (at : ℕ) (parent : Option ℕ)
    → HasHeader t (length c) → at ≡ length pre → octets ≡ pre ++ (tlv t f c ++ post)
    → StandsAt octets (entry at parent t f c)
entry-stands pre c post octets t f at parent legal h is =
    let head : List ℕ = header t f (length c) in
    let contents : ℕ = at + length head in
    let past : ℕ = contents + length c in
    let whole : between at past (pre ++ (tlv t f c ++ post)) ≡ tlv t f c = part-at pre (tlv t f c) post at past h
    (omega (arith, length-append head c)) in
    let regrouped : pre ++ (tlv t f c ++ post) ≡ (pre ++ head) ++ (c ++ post) = ap (λ (x : List ℕ). pre ++ x)
    (append_assoc head c post) ∙ sym (append_assoc pre head (c ++ post)) in
    let inner : between contents past octets ≡ c = ap (λ (x : List ℕ). between contents past x) (is ∙ regrouped) ∙
    part-at (pre ++ head) c post contents past (omega (arith, h, length-append pre head)) refl in
    record {
      tag = legal.0;
      fits = let small = legal.1 in omega arith;
      low = omega arith;
      mid = omega arith;
      high = omega (
        arith,
        h,
        ap length is,
        length-append pre (tlv t f c ++ post),
        length-append (tlv t f c) post,
        length-append head c,
      );
      is = ap (λ (x : List ℕ). between at past x) is ∙ whole ∙ ap (λ (x : List ℕ). tlv t f x) (sym inner);
    }

both-stand : (octets : List ℕ) (es fs : List Entry) → AllByRecursion (StandsAt octets) es
    → AllByRecursion (StandsAt octets) fs → AllByRecursion (StandsAt octets) (es ++ fs)
both-stand octets [] fs h k = k
both-stand octets (e ∷ es) fs h k = (h.0, both-stand octets es fs h.1 k)

-- each entry of values is where it says
entries-stand : (vs : Members) (pre post octets : List ℕ) (at : ℕ) (parent : Option ℕ) (n : ℕ) → HaveHeaders vs
    → at ≡ length pre → octets ≡ pre ++ (spell vs ++ post) → AllByRecursion (StandsAt octets) (entries vs at parent n)
entries-stand Empty pre post octets at parent n legal h is = tt
entries-stand (Primitive t c rest) pre post octets at parent n legal h is =
    let head : List ℕ = header t false (length c) in
    let split : octets ≡ pre ++ (tlv t false c ++ (spell rest ++ post)) = is ∙ ap (λ (x : List ℕ). pre ++ x)
    (append_assoc (tlv t false c) (spell rest) post) in
    let after : octets ≡ (pre ++ tlv t false c) ++ (spell rest ++ post) = split ∙ sym
    (append_assoc pre (tlv t false c) (spell rest ++ post)) in (
      entry-stands pre c (spell rest ++ post) octets t false at parent legal.0 h split,
      entries-stand rest (pre ++ tlv t false c) post octets (at + length head + length c) parent (n + 1) legal.1
          (omega (arith, h, length-append pre (tlv t false c), length-append head c)) after,
    )
entries-stand (Constructed t ms rest) pre post octets at parent n legal h is =
    let c : List ℕ = spell ms in
    let head : List ℕ = header t true (length c) in
    let split : octets ≡ pre ++ (tlv t true c ++ (spell rest ++ post)) = is ∙ ap (λ (x : List ℕ). pre ++ x)
    (append_assoc (tlv t true c) (spell rest) post) in
    let after : octets ≡ (pre ++ tlv t true c) ++ (spell rest ++ post) = split ∙ sym
    (append_assoc pre (tlv t true c) (spell rest ++ post)) in
    let within : octets ≡ (pre ++ head) ++ (c ++ (spell rest ++ post)) =
    split ∙ ap (λ (x : List ℕ). pre ++ x) (append_assoc head c (spell rest ++ post)) ∙ sym
    (append_assoc pre head (c ++ (spell rest ++ post))) in (
      entry-stands pre c (spell rest ++ post) octets t true at parent legal.0 h split,
      both-stand octets (entries ms (at + length head) (Some n) (n + 1))
          (entries rest (at + length head + length c) parent (n + 1 + header_count ms))
          (entries-stand ms (pre ++ head) (spell rest ++ post) octets (at + length head) (Some n) (n + 1) legal.1
          (omega (arith, h, length-append pre head)) within)
          (entries-stand rest (pre ++ tlv t true c) post octets (at + length head + length c) parent
          (n + 1 + header_count ms) legal.2 (omega (arith, h, length-append pre (tlv t true c), length-append head c))
          after),
    )

-- each entry of an index is where it says
pub index-stands : {octets : List ℕ} {index : List Entry} → IsIndex octets index
    → AllByRecursion (StandsAt octets) index
index-stands {octets} {index} i =
    let is : octets ≡ [] ++ (spell i.members ++ []) = i.spelled ∙ sym (append-nil (spell i.members)) in
    subst (λ (x : List Entry). AllByRecursion (StandsAt octets) x) (sym i.is)
    (entries-stand i.members [] [] octets 0 None 0 i.legal refl is)

-- ---- the values that are in no other

-- the entry is in no other
abbrev pub stands_alone : Entry → Bool
stands_alone e = is_none e.parent

-- no entry inside a value is
none-inside : (vs : Members) (at q n : ℕ) → count_by stands_alone (entries vs at (Some q) n) ≡ 0
none-inside Empty at q n = refl
none-inside (Primitive t c rest) at q n =
    none-inside rest (at + length (header t false (length c)) + length c) q (n + 1)
none-inside (Constructed t ms rest) at q n =
    let contents : ℕ = at + length (header t true (length (spell ms))) in
    let inner : List Entry = entries ms contents (Some n) (n + 1) in
    let outer : List Entry = entries rest (contents + length (spell ms)) (Some q) (n + 1 + header_count ms) in
    sum_by-append (λ e. if stands_alone e then 1 else 0) inner outer ∙ omega (
      arith,
      none-inside ms contents n (n + 1),
      none-inside rest (contents + length (spell ms)) q
          (n + 1 + header_count ms),
    )

-- a count of one more
count-first : (e : Entry) (es : List Entry) → e.parent ≡ None
    → count_by stands_alone (e ∷ es) ≡ 1 + count_by stands_alone es
count-first e es h =
    let one : count_by stands_alone (e ∷ []) ≡ 1 = ap (λ (o : Option ℕ). 0 + cond (is_none o) 1 0) h in
    sum_by-append (λ x. if stands_alone x then 1 else 0) (e ∷ []) es ∙ ap (λ (x : ℕ). x + count_by stands_alone es) one

-- each value outside others has one
count-outer : (vs : Members) (at n : ℕ) → count_by stands_alone (entries vs at None n) ≡ count vs
count-outer Empty at n = refl
count-outer (Primitive t c rest) at n =
    let past : ℕ = at + length (header t false (length c)) + length c in
    count-first (entry at None t false c) (entries rest past None (n + 1)) refl ∙ ap (λ (x : ℕ). 1 + x)
    (count-outer rest past (n + 1))
count-outer (Constructed t ms rest) at n =
    let contents : ℕ = at + length (header t true (length (spell ms))) in
    let inner : List Entry = entries ms contents (Some n) (n + 1) in
    let outer : List Entry = entries rest (contents + length (spell ms)) None (n + 1 + header_count ms) in
    let both : count_by stands_alone inner + count_by stands_alone outer ≡ count rest =
    omega (
      arith,
      none-inside ms contents n (n + 1),
      count-outer rest (contents + length (spell ms))
          (n + 1 + header_count ms),
    ) in
    count-first (entry at None t true (spell ms)) (inner ++ outer) refl ∙ ap (λ (x : ℕ). 1 + x)
    (sum_by-append (λ e. if stands_alone e then 1 else 0) inner outer ∙ both)

-- as many values as entries that are in no other
pub index-values : {octets : List ℕ} {index : List Entry} (k : ℕ) → IsIndex octets index
    → k ≡ count_by stands_alone index → AreValues k octets
index-values {octets} {index} k i n = record {
  members = i.members;
  legal = i.legal;
  spelled = i.spelled;
  counted = sym (n ∙ ap (λ (x : List Entry). count_by stands_alone x) i.is ∙ count-outer i.members 0 0);
}

-- ---- values after values

entries-joined : (vs ws : Members) (at : ℕ) (parent : Option ℕ) (n : ℕ)
    → entries (joined vs ws) at parent n ≡ entries vs at parent n ++ entries ws (at + length (spell vs)) parent
    (n + length (entries vs at parent n))
entries-joined Empty ws at parent n =
    let p : at ≡ at + 0 = omega arith in
    let q : n ≡ n + 0 = omega arith in
    ap (λ (x : ℕ). entries ws x parent n) p ∙ ap (λ (x : ℕ). entries ws (at + 0) parent x) q
entries-joined (Primitive t c rest) ws at parent n =
    let e : Entry = entry at parent t false c in
    let size : ℕ = length (entries rest e.past parent (n + 1)) in
    let p : e.past + length (spell rest) ≡ at + length (tlv t false c ++ spell rest) = omega
    (arith, length-append (tlv t false c) (spell rest), length-append (header t false (length c)) c) in
    let q : n + 1 + size ≡ n + suc size = omega arith in
    ap (λ (x : List Entry). e ∷ x) (entries-joined rest ws e.past parent (n + 1)
    ∙ ap (λ (x : ℕ). entries rest e.past parent (n + 1) ++ entries ws x parent (n + 1 + size)) p
    ∙ ap (λ (x : ℕ). entries rest e.past parent (n + 1) ++ entries ws (at + length (tlv t false c ++ spell rest)) parent
    x) q)
entries-joined (Constructed t ms rest) ws at parent n =
    let e : Entry = entry at parent t true (spell ms) in
    let m : ℕ = n + 1 + header_count ms in
    let inner : List Entry = entries ms e.contents (Some n) (n + 1) in
    let outer : List Entry = entries rest e.past parent m in
    let all : ℕ = at + length (tlv t true (spell ms) ++ spell rest) in
    let p : e.past + length (spell rest) ≡ all = omega (
      arith,
      length-append (tlv t true (spell ms)) (spell rest),
      length-append (header t true (length (spell ms)))
          (spell ms),
    ) in
    let q : m + length outer ≡ n + suc (length (inner ++ outer)) = omega
    (arith, length-append inner outer, length-entries ms e.contents (Some n) (n + 1)) in
    ap (λ (x : List Entry). e ∷ x) (ap (λ (x : List Entry). inner ++ x) (entries-joined rest ws e.past parent m
    ∙ ap (λ (x : ℕ). outer ++ entries ws x parent (m + length outer)) p
    ∙ ap (λ (x : ℕ). outer ++ entries ws all parent x) q)
    ∙ sym (append_assoc inner outer (entries ws all parent (n + suc (length (inner ++ outer))))))

-- the entries of the values up to a place
pub record IsIndexed (octets : List ℕ) (place : ℕ) (index : List Entry) : Type 0 where
  pub low : place ≤ length octets
  pub read : IsIndex (take place octets) index

-- one more value
indexed-more : {octets : List ℕ} {place : ℕ} {index : List Entry} (n : ℕ) (more : List Entry)
    → IsIndexed octets place index → n ≤ length (drop place octets)
    → IsListed place index (take n (drop place octets)) more → IsIndexed octets (place + n) more
indexed-more {octets} {place} {index} n more i fits l =
    let r = i.read in
    let size : length (take place octets) ≡ place = length-take-le place octets i.low in
    let at : place ≡ 0 + length (spell r.members) = omega (arith, size, ap length r.spelled) in
    let number : length index ≡ 0 + length (entries r.members 0 None 0) = omega (arith, ap length r.is) in
    let split : octets ≡ take place octets ++ (take n (drop place octets) ++ drop n (drop place octets)) = sym
    (take-append-drop place octets) ∙ ap (λ (x : List ℕ). take place octets ++ x)
    (sym (take-append-drop n (drop place octets))) in
    let grouped : octets ≡ (take place octets ++ take n (drop place octets)) ++ drop n (drop place octets) = split ∙ sym
    (append_assoc (take place octets) (take n (drop place octets)) (drop n (drop place octets))) in
    let width : length (take place octets ++ take n (drop place octets)) ≡ place + n = omega (
      arith,
      length-append (take place octets) (take n (drop place octets)),
      size,
      length-take-le n (drop place octets)
          fits,
    ) in
    let front : take (place + n) octets ≡ take place octets ++ take n (drop place octets) =
    ap (λ (x : List ℕ). take (place + n) x) grouped ∙ take_at (take place octets ++ take n (drop place octets))
    (drop n (drop place octets)) (place + n) width in
    record {
      low = omega (arith, i.low, fits, length-drop place octets);
      read = record {
        members = joined r.members l.members;
        legal = headers-joined r.members l.members r.legal l.legal;
        spelled = front ∙ ap (λ (x : List ℕ). x ++ take n (drop place octets)) r.spelled ∙ ap
            (λ (x : List ℕ). spell r.members ++ x) l.spelled ∙ sym (spell-joined r.members l.members);
        is =
            l.is
            ∙ ap (λ (x : ℕ). index ++ entries l.members x None (length index)) at
            ∙ ap (λ (x : ℕ). index ++ entries l.members (0 + length (spell r.members)) None x) number
            ∙ ap (λ (x : List Entry). x ++ entries l.members (0 + length (spell r.members)) None
            (0 + length (entries r.members 0 None 0))) r.is
            ∙ sym (entries-joined r.members l.members 0 None 0);
      };
    }

pub indexed-rest : {octets rest : List ℕ} {place : ℕ} {index : List Entry} (n : ℕ) (more : List Entry)
    → rest ≡ drop place octets → IsIndexed octets place index → n ≤ length rest
    → IsListed place index (take n rest) more → IsIndexed octets (place + n) more
indexed-rest {octets} {rest} {place} {index} n more is i fits l =
    indexed-more n more i (subst (λ (x : List ℕ). n ≤ length x) is fits)
    (subst (λ (x : List ℕ). IsListed place index (take n x) more) is l)

-- one value, whose entries are all there are
pub index-of-one : {octets : List ℕ} {none index : List Entry} → none ≡ [] → IsListed 0 none octets index
    → IsIndex octets index
index-of-one {octets} {none} {index} z l =
    record {
      members = l.members;
      legal = l.legal;
      spelled = l.spelled;
      is = l.is ∙ ap (λ (x : List Entry). x ++ entries l.members 0 None (length x)) z;
    }
