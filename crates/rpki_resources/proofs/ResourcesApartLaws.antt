-- Resources that are written alike are the same.
use Rattle.std.proofs.Common.{◌≡◌, ◌<◌, ◌^◌, ℕ, true, false, List, [], ◌++◌, length, length-append, refl, sym, ap, ◌∙◌}
use Rattle.std.proofs.Common.{arith, lit<}
use Rattle.std.proofs.lemmas.List.{append-nil}
use Rattle.rpki_der.specs.TagName.{TagName, IsTag, null, sequence, octet_string}
use Rattle.rpki_der.specs.Header.{tlv}
use Rattle.rpki_der.specs.ValueListLaws.{sequence_legal, octet_string_legal}
use Rattle.rpki_der.proofs.EncodeLaws.{tlv-at-least, tlv-same}
use Rattle.rpki_der.proofs.MembersLaws.{same-value, not-nothing}
use Rattle.rpki_resources.specs.declared.block.Block.{Block}
use Rattle.rpki_resources.specs.declared.kind.ResourceKind.{ResourceKind}
use Rattle.rpki_resources.specs.declared.kind.ResourceKind.TheVariants.{Addresses, AsNumbers}
use Rattle.rpki_resources.specs.declared.family.AddressFamily.{AddressFamily}
use Rattle.rpki_resources.specs.declared.family.AddressFamily.TheVariants.{Ipv4, Ipv6}
use Rattle.rpki_resources.specs.declared.choice.ResourcesChoice.{ResourcesChoice}
use Rattle.rpki_resources.specs.declared.choice.ResourcesChoice.TheVariants.{Missing, Inherit, Blocks}
use Rattle.rpki_resources.specs.declared.resources.IpResources.{IpResources}
use Rattle.rpki_resources.specs.declared.resources.AsResources.{AsResources}
use Rattle.rpki_resources.specs.Address.{family_octets}
use Rattle.rpki_resources.specs.Extension.{as_numbers}
use Rattle.rpki_resources.specs.Encoded.{blocks_octets}
use Rattle.rpki_resources.specs.EncodedResources.{IsOfKind, choice_octets, IsShortChoice, named_contents, named_octets}
use Rattle.rpki_resources.specs.EncodedResources.{IsShortNamed, ip_contents, ip_octets, IsShortIp}
use Rattle.rpki_resources.specs.EncodedResources.{as_identifiers_octets, IsIpApart, IsAsApart}
use Rattle.rpki_resources.proofs.KeptLaws.{ip_of, as_of}
use Rattle.rpki_resources.proofs.BlocksApartLaws.{alone, blocks-apart}
use Rattle.rpki_resources.proofs.ResourcesWritingLaws.{short-named, choice-short, numbers-short}

null-or-list : null ≡ sequence → ⊥
null-or-list e = let n = ap (λ (t : TagName). t.number) e in omega (arith, n)

null-legal : IsTag null
null-legal = record { below = lit< tt; named = λ _. lit< tt }

-- ---- resources of one kind

choice-apart : (kind : ResourceKind) (a b : ResourcesChoice) → IsOfKind kind a → IsOfKind kind b → IsShortChoice kind a
    → IsShortChoice kind b → choice_octets kind a ≡ choice_octets kind b → a ≡ b
choice-apart kind Missing Missing h k p q e = refl
choice-apart kind Missing Inherit h k p q e = absurd (not-nothing null false [] [] (alone [] (tlv null false []) e))
choice-apart kind Missing (Blocks ds) h k p q e =
    absurd (not-nothing sequence true (blocks_octets kind ds) []
    (alone [] (tlv sequence true (blocks_octets kind ds)) e))
choice-apart kind Inherit Missing h k p q e =
    absurd (not-nothing null false [] [] (alone [] (tlv null false []) (sym e)))
choice-apart kind Inherit Inherit h k p q e = refl
choice-apart kind Inherit (Blocks ds) h k p q e =
    let d = blocks_octets kind ds in
    let v = same-value null sequence false true [] d [] [] (null-legal, lit< tt) (sequence_legal, q)
    (alone (tlv null false []) (tlv sequence true d) e) in
    absurd (null-or-list v.tag)
choice-apart kind (Blocks bs) Missing h k p q e =
    absurd (not-nothing sequence true (blocks_octets kind bs) []
    (alone [] (tlv sequence true (blocks_octets kind bs)) (sym e)))
choice-apart kind (Blocks bs) Inherit h k p q e =
    let c = blocks_octets kind bs in
    let v = same-value null sequence false true [] c [] [] (null-legal, lit< tt) (sequence_legal, p)
    (alone (tlv null false []) (tlv sequence true c) (sym e)) in
    absurd (null-or-list v.tag)
choice-apart kind (Blocks bs) (Blocks ds) h k p q e =
    let c = blocks_octets kind bs in
    let d = blocks_octets kind ds in
    ap (λ (xs : List Block). Blocks xs) (blocks-apart kind bs ds h.fit k.fit (tlv-same sequence true c d p q e))

-- ---- a family

-- nothing is written, or the name and the resources
data Named (family : AddressFamily) (a : ResourcesChoice) : Type 0 where
  NoName : a ≡ Missing → Named family a
  IsNamed : named_octets family a ≡ tlv sequence true (named_contents family a)
      → length (named_contents family a) < 2 ^ 32
      → Named family a

named : (family : AddressFamily) (a : ResourcesChoice) → IsShortNamed family a → Named family a
named family Missing short = NoName refl
named family Inherit short = IsNamed refl short
named family (Blocks bs) short = IsNamed refl short

same-family : (f g : AddressFamily) → family_octets f ≡ family_octets g → f ≡ g
same-family Ipv4 Ipv4 e = refl
same-family Ipv4 Ipv6 e = let one : ◌≡◌ {A = ℕ} 1 2 = cc in absurd (omega (arith, one))
same-family Ipv6 Ipv4 e = let one : ◌≡◌ {A = ℕ} 2 1 = cc in absurd (omega (arith, one))
same-family Ipv6 Ipv6 e = refl

family-few : (family : AddressFamily) → length (family_octets family) < 2 ^ 32
family-few Ipv4 = lit< tt
family-few Ipv6 = lit< tt

record SameNamed (f g : AddressFamily) (a b : ResourcesChoice) (r s : List ℕ) : Type 0 where
  family : f ≡ g
  resources : choice_octets (Addresses f) a ≡ choice_octets (Addresses g) b
  rest : r ≡ s

named-apart : (f g : AddressFamily) (a b : ResourcesChoice) (r s : List ℕ) → length (named_contents f a) < 2 ^ 32
    → length (named_contents g b) < 2 ^ 32
    → tlv sequence true (named_contents f a) ++ r ≡ tlv sequence true (named_contents g b) ++ s → SameNamed f g a b r s
named-apart f g a b r s few few' e =
    let v = same-value sequence sequence true true (named_contents f a) (named_contents g b) r s (sequence_legal, few)
    (sequence_legal, few') e in
    let u = same-value octet_string octet_string false false (family_octets f) (family_octets g)
    (choice_octets (Addresses f) a) (choice_octets (Addresses g) b) (octet_string_legal, family-few f)
    (octet_string_legal, family-few g) v.contents in
    record { family = same-family f g u.contents; resources = u.rest; rest = v.rest }

not-both : Ipv6 ≡ Ipv4 → ⊥
not-both e = let n = ap family_octets e in let one : ◌≡◌ {A = ℕ} 2 1 = cc in omega (arith, one)

no-octets : (family : AddressFamily) (a : ResourcesChoice) → a ≡ Missing → named_octets family a ≡ []
no-octets family a e = ap (named_octets family) e

-- the second family, which is alone
last-apart : (f : AddressFamily) (b d : ResourcesChoice) → IsOfKind (Addresses f) b → IsOfKind (Addresses f) d
    → IsShortNamed f b
    → IsShortNamed f d → named_octets f b ≡ named_octets f d → b ≡ d
last-apart f b d h k p q e = elim (named f b p) [
  | NoName none ↦ elim (named f d q) [
    | NoName none' ↦ none ∙ sym none'
    | IsNamed is few ↦ absurd (not-nothing sequence true (named_contents f d) []
        (alone [] (tlv sequence true (named_contents f d)) (sym (no-octets f b none) ∙ e ∙ is)))
  ]
  | IsNamed is few ↦ elim (named f d q) [
    | NoName none' ↦ absurd (not-nothing sequence true (named_contents f b) []
        (alone [] (tlv sequence true (named_contents f b)) (sym (no-octets f d none') ∙ sym e ∙ is)))
    | IsNamed is' few' ↦
        let v = named-apart f f b d [] [] few few'
        (alone (tlv sequence true (named_contents f b)) (tlv sequence true (named_contents f d))
        (sym is ∙ e ∙ is')) in
        choice-apart (Addresses f) b d h k (choice-short f b p) (choice-short f d q) v.resources
  ]
]

-- one alone isn't the other, which something follows
six-or-four : (b c : ResourcesChoice) (s : List ℕ) → IsShortNamed Ipv6 b
    → named_octets Ipv4 c ≡ tlv sequence true (named_contents Ipv4 c)
    → length (named_contents Ipv4 c) < 2 ^ 32 → named_octets Ipv6 b ≡ named_octets Ipv4 c ++ s → ⊥
six-or-four b c s p is few e = elim (named Ipv6 b p) [
  | NoName none ↦ not-nothing sequence true (named_contents Ipv4 c) s
      (sym (no-octets Ipv6 b none) ∙ e ∙ ap (λ (w : List ℕ). w ++ s) is)
  | IsNamed is' few' ↦
      let front : tlv sequence true (named_contents Ipv6 b) ++ [] ≡ tlv sequence true (named_contents Ipv4 c) ++ s =
      append-nil (tlv sequence true (named_contents Ipv6 b)) ∙ sym is' ∙ e ∙ ap (λ (w : List ℕ). w ++ s) is in
      let v = named-apart Ipv6 Ipv4 b c [] s few' few front in
      not-both v.family
]

-- ---- both families

families-apart : (a b c d : ResourcesChoice) → IsOfKind (Addresses Ipv4) a → IsOfKind (Addresses Ipv6) b
    → IsOfKind (Addresses Ipv4) c → IsOfKind (Addresses Ipv6) d → IsShortNamed Ipv4 a → IsShortNamed Ipv6 b
    → IsShortNamed Ipv4 c → IsShortNamed Ipv6 d
    → named_octets Ipv4 a ++ named_octets Ipv6 b ≡ named_octets Ipv4 c ++ named_octets Ipv6 d → (a ≡ c) × (b ≡ d)
families-apart a b c d ha hb hc hd pa pb pc pd e = elim (named Ipv4 a pa) [
  | NoName none ↦
      let left : named_octets Ipv4 a ++ named_octets Ipv6 b ≡ named_octets Ipv6 b =
      ap (λ (w : List ℕ). w ++ named_octets Ipv6 b) (no-octets Ipv4 a none) in
      elim (named Ipv4 c pc) [
        | NoName none' ↦
            let right : named_octets Ipv4 c ++ named_octets Ipv6 d ≡ named_octets Ipv6 d =
            ap (λ (w : List ℕ). w ++ named_octets Ipv6 d) (no-octets Ipv4 c none') in
            (none ∙ sym none', last-apart Ipv6 b d hb hd pb pd (sym left ∙ e ∙ right))
        | IsNamed is few ↦ absurd (six-or-four b c (named_octets Ipv6 d) pb is few (sym left ∙ e))
      ]
  | IsNamed is few ↦ elim (named Ipv4 c pc) [
    | NoName none' ↦
        let right : named_octets Ipv4 c ++ named_octets Ipv6 d ≡ named_octets Ipv6 d =
        ap (λ (w : List ℕ). w ++ named_octets Ipv6 d) (no-octets Ipv4 c none') in
        absurd (six-or-four d a (named_octets Ipv6 b) pd is few (sym right ∙ sym e))
    | IsNamed is' few' ↦
        let front = ap (λ (w : List ℕ). w ++ named_octets Ipv6 b) (sym is) ∙ e
        ∙ ap (λ (w : List ℕ). w ++ named_octets Ipv6 d) is' in
        let v = named-apart Ipv4 Ipv4 a c (named_octets Ipv6 b) (named_octets Ipv6 d) few few' front in (
          choice-apart (Addresses Ipv4) a c ha hc (choice-short Ipv4 a pa) (choice-short Ipv4 c pc) v.resources,
          last-apart Ipv6 b d hb hd pb pd v.rest,
        )
  ]
]

short-both : (x : IpResources) → IsShortIp x → IsShortNamed Ipv4 x.v4 × IsShortNamed Ipv6 x.v6
short-both x short =
    let sizes = length-append (named_octets Ipv4 x.v4) (named_octets Ipv6 x.v6) in (
      short-named Ipv4 x.v4 (length (ip_contents x)) (omega (arith, sizes)) short,
      short-named Ipv6 x.v6 (length (ip_contents x)) (omega (arith, sizes)) short,
    )

pub ip-apart : (x : IpResources) → IsIpApart x
ip-apart x y can short can' short' = (
  λ e.
      let p = short-both x short in
      let q = short-both y short' in
      let both = families-apart x.v4 x.v6 y.v4 y.v6 can.v4 can.v6 can'.v4 can'.v6 p.0 p.1 q.0 q.1
      (tlv-same sequence true (ip_contents x) (ip_contents y) short short' e) in
      ap (λ (v : ResourcesChoice). ip_of v x.v6) both.0 ∙ ap (λ (v : ResourcesChoice). ip_of y.v4 v) both.1,
  λ e. ap ip_octets e,
)

pub as-apart : (x : AsResources) → IsAsApart x
as-apart x y can short can' short' = (
  λ e.
      let c = choice_octets AsNumbers x.numbers in
      let d = choice_octets AsNumbers y.numbers in
      let tagged = tlv-same sequence true (tlv as_numbers true c) (tlv as_numbers true d) short short' e in
      let inside = tlv-same as_numbers true c d (omega (arith, short, tlv-at-least as_numbers true c))
      (omega (arith, short', tlv-at-least as_numbers true d)) tagged in
      ap as_of (choice-apart AsNumbers x.numbers y.numbers can.numbers can'.numbers (numbers-short x.numbers short)
      (numbers-short y.numbers short') inside),
  λ e. ap as_identifiers_octets e,
)
