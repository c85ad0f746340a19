-- The members of a value, by their numbers.
use Rattle.std.proofs.Common.{◌≡◌, ℕ, zero, suc, ◌+◌, ◌<◌, ◌≤◌, ◌^◌, true, false, List, [], ◌∷◌, ◌++◌, length, drop}
use Rattle.std.proofs.Common.{get_or, Option, Some, None, inl, inr, refl, sym, ap, subst, ◌∙◌, arith, append_assoc}
use Rattle.std.proofs.Common.{append-nil, length-append}
use Rattle.std.specs.Prelude.{nat_eq, slice_get, slice_range}
use Rattle.std.specs.List.{AllByRecursion}
use Rattle.std.specs.Option.{option_eq}
use Rattle.std.proofs.lemmas.Bool.{cases_Bool}
use Rattle.std.proofs.lemmas.List.{drop_more, drop_all}
use Rattle.rpki_der.specs.TagName.{TagName, IsTag}
use Rattle.rpki_der.specs.Header.{tlv}
use Rattle.rpki_der.specs.Members.{Members, Empty, Primitive, Constructed, spell, HaveHeaders}
use Rattle.rpki_der.specs.Index.{Entry, entry, entries, IsIndex, StandsAt}
use Rattle.rpki_der.specs.IndexMembers.{numbers_from, member_numbers, HasEntry}
use Rattle.rpki_der.proofs.MembersLaws.{header}
use Rattle.rpki_der.proofs.IndexLaws.{part-at}

-- an entry of an index is where it says
pub stands-of : (octets : List ℕ) (index : List Entry) (n : ℕ) (e : Entry) → AllByRecursion (StandsAt octets) index
    → slice_get index n ≡ Some e → StandsAt octets e
stands-of octets [] n e h is = absurd (cc)
stands-of octets (x ∷ xs) zero e h is = let same : x ≡ e = cc in subst (λ (y : Entry). StandsAt octets y) same h.0
stands-of octets (x ∷ xs) (suc n) e h is = stands-of octets xs n e h.1 is

-- the next entry has the parent, or it has not
pub next-member : (n : ℕ) (parent : Option ℕ) (index : List Entry) (e : Entry) → n < length index
    → option_eq nat_eq (get_or index n e).parent parent ≡ true
    → numbers_from n parent (drop n index) ≡ n ∷ numbers_from (n + 1) parent (drop (n + 1) index)
next-member n parent index e within has = ap (numbers_from n parent) (drop_more index n e within) ∙ rw has refl

pub no-member : (n : ℕ) (parent : Option ℕ) (index : List Entry) (e : Entry) → n < length index
    → option_eq nat_eq (get_or index n e).parent parent ≡ false
    → numbers_from n parent (drop n index) ≡ numbers_from (n + 1) parent (drop (n + 1) index)
no-member n parent index e within has = ap (numbers_from n parent) (drop_more index n e within) ∙ rw has refl

pub members-end : (n : ℕ) (parent : Option ℕ) (index : List Entry) → length index ≤ n
    → numbers_from n parent (drop n index) ≡ []
members-end n parent index end = ap (numbers_from n parent) (drop_all n index end)

-- each number is that of an entry
numbers-within : (octets : List ℕ) (index : List Entry) → IsIndex octets index
    → (n : ℕ) (parent : Option ℕ) (es : List Entry) → n + length es ≤ length index
    → AllByRecursion (HasEntry octets) (numbers_from n parent es)
numbers-within octets index i n parent [] few = tt
numbers-within octets index i n parent (e ∷ es) few =
    let others : AllByRecursion (HasEntry octets) (numbers_from (n + 1) parent es) = numbers-within octets index i
    (n + 1) parent es (omega arith) in
    elim (cases_Bool (option_eq nat_eq e.parent parent)) [
      | inl has ↦ rw has (record { index = index; is = i; within = omega arith }, others)
      | inr has ↦ rw has others
    ]

pub members-within : (octets : List ℕ) (parent : Option ℕ) (index : List Entry) → IsIndex octets index
    → AllByRecursion (HasEntry octets) (member_numbers parent index)
members-within octets parent index i = numbers-within octets index i 0 parent index (omega arith)

-- ---- a value whose members are primitive values

-- each entry's contents are in the octets
abbrev pub AreContents : List ℕ → List Entry → List (List ℕ) → Type 0
AreContents octets [] [] = Unit {0}
AreContents octets [] (c ∷ cs) = ⊥
AreContents octets (e ∷ es) [] = ⊥
AreContents octets (e ∷ es) (c ∷ cs) = (slice_range octets e.contents e.past ≡ c) × AreContents octets es cs

-- primitive values, in sequence, and their contents
abbrev pub primitives : List (TagName × List ℕ) → Members
primitives [] = Empty
primitives (x ∷ xs) = Primitive x.0 x.1 (primitives xs)

abbrev pub contents_of : List (TagName × List ℕ) → List (List ℕ)
contents_of [] = []
contents_of (x ∷ xs) = x.1 ∷ contents_of xs

contents-stand : (xs : List (TagName × List ℕ)) (pre post octets : List ℕ) (at n : ℕ) (parent : Option ℕ)
    → at ≡ length pre → octets ≡ pre ++ (spell (primitives xs) ++ post)
    → AreContents octets (entries (primitives xs) at parent n) (contents_of xs)
contents-stand [] pre post octets at n parent h is = tt
contents-stand (x ∷ xs) pre post octets at n parent h is =
    let t = x.0 in
    let c = x.1 in
    let head : List ℕ = header t false (length c) in
    let rest : List ℕ = spell (primitives xs) ++ post in
    let split : octets ≡ pre ++ (tlv t false c ++ rest) = is ∙ ap (λ (y : List ℕ). pre ++ y)
    (append_assoc (tlv t false c) (spell (primitives xs)) post) in
    let after : octets ≡ (pre ++ tlv t false c) ++ rest = split ∙ sym (append_assoc pre (tlv t false c) rest) in
    let regrouped : octets ≡ (pre ++ head) ++ (c ++ rest) = split ∙ ap (λ (y : List ℕ). pre ++ y)
    (append_assoc head c rest) ∙ sym (append_assoc pre head (c ++ rest)) in
    let contents : ℕ = at + length head in (
      ap (λ (y : List ℕ). slice_range y contents (contents + length c)) regrouped ∙ part-at (pre ++ head) c rest
          contents (contents + length c) (omega (arith, h, length-append pre head)) refl,
      contents-stand xs (pre ++ tlv t false c) post octets (at + length head + length c) (n + 1) parent
          (omega (arith, h, length-append pre (tlv t false c), length-append head c)) after,
    )

-- the entry of such a value, and those of its members
abbrev pub first_entry : TagName → List (TagName × List ℕ) → Entry
first_entry t xs = entry 0 None t true (spell (primitives xs))

abbrev pub member_entries : TagName → List (TagName × List ℕ) → List Entry
member_entries t xs = entries (primitives xs) (first_entry t xs).contents (Some 0) 1

pub index-of-primitives : (t : TagName) (xs : List (TagName × List ℕ)) (octets : List ℕ) → IsTag t
    → length (spell (primitives xs)) < 2 ^ 32 → HaveHeaders (primitives xs)
    → octets ≡ tlv t true (spell (primitives xs)) → IsIndex octets (first_entry t xs ∷ member_entries t xs)
index-of-primitives t xs octets tag fits legal is = record {
  members = Constructed t (primitives xs) Empty;
  legal = ((tag, fits), legal, tt);
  spelled = is ∙ sym (append-nil (tlv t true (spell (primitives xs))));
  is = ap (λ (y : List Entry). first_entry t xs ∷ y) (sym (append-nil (member_entries t xs)));
}

pub contents_of-primitives : (t : TagName) (xs : List (TagName × List ℕ)) (octets : List ℕ)
    → octets ≡ tlv t true (spell (primitives xs)) → AreContents octets (member_entries t xs) (contents_of xs)
contents_of-primitives t xs octets is =
    let c = spell (primitives xs) in
    let head : List ℕ = header t true (length c) in
    let split : octets ≡ head ++ (c ++ []) = is ∙ ap (λ (y : List ℕ). head ++ y) (sym (append-nil c)) in
    contents-stand xs head [] octets (first_entry t xs).contents 1 (Some 0) (omega arith) split
