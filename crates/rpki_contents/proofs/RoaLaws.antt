-- Route origin attestations: their families, and what holds of each prefix.
use Rattle.std.proofs.Common.{◌≡◌, ◌≢◌, ◌++◌, ℕ, Bool, true, false, List, [], ◌∷◌, None, Some, refl}
use Rattle.std.proofs.Common.{subst}
use Rattle.rpki_resources.specs.declared.family.AddressFamily.TheVariants.{Ipv4, Ipv6}
use Rattle.rpki_resources.specs.Address.{width}
use Rattle.rpki_contents.specs.declared.roa_family.RoaFamily.{RoaFamily}
use Rattle.rpki_contents.specs.RoaAddress.{Family, roa_family, AreAddressesIn}
use Rattle.rpki_contents.specs.Roa.{Both, alone, together, prefixes_in, families_in, each_family, AreFamilies, families}
use Rattle.rpki_contents.specs.Roa.{attestation, IsAttestation}
use Rattle.rpki_contents.proofs.RoaAddressLaws.{all-in}

-- ---- a list that ends in two families, and has others in front of them

pub too-many : (strict : Bool) (xs : List RoaFamily) (first last : RoaFamily) → xs ≢ []
    → prefixes_in strict (families_in ((xs ++ (first ∷ [])) ++ (last ∷ []))) ≡ None
too-many strict [] first last some = absurd (some refl)
too-many strict (x ∷ []) first last some = refl
too-many strict (x ∷ y ∷ []) first last some = refl
too-many strict (x ∷ y ∷ z ∷ zs) first last some = refl

-- ---- families that were read

-- prefixes of the family, one at least
abbrev IsFamilyIn : Family → Type 0
IsFamilyIn x = AreAddressesIn (width x.0) x.1 × (x.1 ≢ [])

family-in : (x : Family) (p : List ℕ) → roa_family.spells x p → IsFamilyIn x
family-in x p h = all-in (width x.0) x.1 h.spelled.second h.spelled.two

abbrev AreFamiliesIn : List Family → Type 0
AreFamiliesIn [] = Unit {0}
AreFamiliesIn (x ∷ xs) = IsFamilyIn x × AreFamiliesIn xs

families-in : (xs : List Family) (p : List ℕ) → each_family.spells xs p → AreFamiliesIn xs
families-in [] p h = tt
families-in (x ∷ xs) p h = (family-in x h.1.front h.1.spelled, families-in xs h.0 h.2)

abbrev IsBoth : Both → Type 0
IsBoth x = IsAttestation (attestation 0 x.0 x.1)

alone-in : (x : Family) → IsFamilyIn x → IsBoth (alone [] x)
alone-in (Ipv4, xs) h = record { v4 = h.0; v6 = tt; some = λ e f. h.1 e }
alone-in (Ipv6, xs) h = record { v4 = tt; v6 = h.0; some = λ e f. h.1 f }

pub some-is : {X : Type 0} {x y : X} → Some x ≡ Some y → x ≡ y
some-is e = cc

pub none-is : {X : Type 0} {x : X} → None ≡ Some x → ⊥
none-is e = absurd (cc)

together-in : (strict : Bool) (x y : Family) (b : Both) → IsFamilyIn x → IsFamilyIn y → together strict x y ≡ Some b
    → IsBoth b
together-in strict (Ipv4, xs) (Ipv4, ys) b h k e = absurd (cc)
together-in strict (Ipv4, xs) (Ipv6, ys) b h k e =
    subst IsBoth (some-is e) (record { v4 = h.0; v6 = k.0; some = λ p q. h.1 p })
together-in true (Ipv6, xs) (Ipv4, ys) b h k e = absurd (cc)
together-in false (Ipv6, xs) (Ipv4, ys) b h k e =
    subst IsBoth (some-is e) (record { v4 = k.0; v6 = h.0; some = λ p q. k.1 p })
together-in strict (Ipv6, xs) (Ipv6, ys) b h k e = absurd (cc)

both-in : (strict : Bool) (xs : List Family) (b : Both) → AreFamiliesIn xs → AreFamilies strict b xs → IsBoth b
both-in strict [] b h e = absurd (cc)
both-in strict (x ∷ []) b h e = subst IsBoth (some-is e) (alone-in x h.0)
both-in strict (x ∷ y ∷ []) b h e = together-in strict x y b h.0 h.1.0 e
both-in strict (x ∷ y ∷ z ∷ zs) b h e = absurd (cc)

-- an attestation of families that were read
pub is-attestation : (strict : Bool) (as_id : ℕ) (b : Both) (p : List ℕ) → (families strict).spells b p
    → IsAttestation (attestation as_id b.0 b.1)
is-attestation strict as_id b p h =
    let is = both-in strict h.value b (families-in h.value h.spelled.contents h.spelled.spelled) h.stands in
    record { v4 = is.v4; v6 = is.v6; some = is.some }
