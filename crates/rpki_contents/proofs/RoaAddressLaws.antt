-- Prefixes of route origin attestations.
use Rattle.std.proofs.Common.{◌≡◌, ◌≢◌, ◌^◌, ◌∙◌, ℕ, false, true, List, [], ◌∷◌, Option, None, Some}
use Rattle.std.proofs.Common.{refl, sym, ap, subst}
use Rattle.rpki_der.specs.declared.error.DecodeError.TheVariants.{OutOfMemory}
use Rattle.rpki_der.specs.Prelude.{bit_string, integer, sequence, HasTag, IsUnsignedBelow, AtPart, Later, end}
use Rattle.rpki_der.specs.Prelude.{optional_of, optional_then}
use Rattle.rpki_der.proofs.FirstFaultLaws.{inside-no-memory, first-no-memory, optional-no-memory, end-no-memory}
use Rattle.rpki_der.proofs.LeavesLaws.{leaf-no-memory, leaf-tag}
use Rattle.rpki_der.proofs.EachLaws.{leaf-some}
use Rattle.rpki_der.proofs.HeaderReadingLaws.{tag-empty}
use Rattle.rpki_der.proofs.FormatLaws.{Apart, Gives}
use Rattle.rpki_resources.specs.declared.address.Address.{Address}
use Rattle.rpki_resources.specs.Address.{IsAddress, IsAddressOf}
use Rattle.rpki_contents.specs.declared.roa_address.RoaIpAddress.{RoaIpAddress}
use Rattle.rpki_contents.specs.RoaAddress.{IsMaxLength, Parts, address, parts_of, max_length, address_parts}
use Rattle.rpki_contents.specs.RoaAddress.{IsRoaAddress, roa_address, addresses, each_address, IsAddressIn}
use Rattle.rpki_contents.specs.RoaAddress.{AreAddressesIn}

-- an INTEGER that may be left out, in front of nothing more
pub length-apart : Apart integer max_length end
length-apart = record {
  begins = λ s n r h. leaf-tag integer false (IsUnsignedBelow (2 ^ 8)) s n r h;
  apart = λ b s e there. tag-empty integer (subst (HasTag integer) e there);
}

-- nothing more is wanted
pub end-given : {r : List ℕ} → Gives end.spells end.fault r r tt
end-given = record { all = λ e. (e, λ w h. refl); more = λ some. (λ w h. some h, (some, refl)) }

pub same-parts : (a : Address) (o : Option ℕ) → ◌≡◌ {A = Parts} (a, (o, tt)) (a, (optional_of (λ n. n) o, tt))
same-parts a None = refl
same-parts a (Some n) = refl

-- ---- the maximum length of a prefix that was read

abbrev address_from : Parts → RoaIpAddress
address_from p = record { prefix = p.0; max_length = p.1.0 }

-- the parts are those of one prefix
pub one-address : (x y : RoaIpAddress) → parts_of x ≡ parts_of y → x ≡ y
one-address x y e = ap address_from e

module _ (w : ℕ) (x : RoaIpAddress) where
  pub only-address : (y : RoaIpAddress) → IsRoaAddress w y (parts_of x) → y ≡ x
  only-address y h = one-address y x h.same

  pub no-address : (IsMaxLength w x.prefix.size x.max_length → ⊥) → (y : RoaIpAddress) → IsRoaAddress w y (parts_of x)
      → ⊥
  no-address none y h =
      none (subst (λ (z : RoaIpAddress). IsMaxLength w z.prefix.size z.max_length) (only-address y h) h.within)

-- a prefix takes no memory
parts-never : (w : ℕ) (c : List ℕ) → (address_parts w).fault c OutOfMemory → ⊥
parts-never w c k =
    first-no-memory (address w).spells (address w).fault (λ a. (optional_then integer max_length end).fault) c
    (λ l. leaf-no-memory bit_string false (IsAddress w) c OutOfMemory l refl)
    (λ v r l. optional-no-memory (HasTag integer) max_length.spells max_length.fault end.fault r
    (λ m. leaf-no-memory integer false (IsUnsignedBelow (2 ^ 8)) r OutOfMemory m refl) (λ q m. end-no-memory q m) l) k

pub address-never : (w : ℕ) (s : List ℕ) → (roa_address w).fault s OutOfMemory → ⊥
address-never w s (AtPart none k) = inside-no-memory sequence true (address_parts w).fault s (parts-never w) k
address-never w s (Later v r a l) = l.1

-- no prefix is written in no octets
pub address-some : (w : ℕ) (x : RoaIpAddress) → (roa_address w).spells x [] → ⊥
address-some w x h = leaf-some sequence true (address_parts w).spells h.value h.spelled

-- ---- prefixes that were read are of their family

pub is-in : (w : ℕ) (x : RoaIpAddress) (p : List ℕ) → (roa_address w).spells x p → IsAddressIn w x
is-in w x p h =
    let one = h.spelled.spelled.one.spelled in
    let is = sym (ap (λ (q : Parts). q.0) h.stands.same) in
    (subst (λ (a : Address). IsAddressOf w a) is (one.few, one.has.below), h.stands.within)

pub each-in : (w : ℕ) (xs : List RoaIpAddress) (p : List ℕ) → (each_address w).spells xs p → AreAddressesIn w xs
each-in w [] p h = tt
each-in w (x ∷ xs) p h = (is-in w x h.1.front h.1.spelled, each-in w xs h.0 h.2)

-- those of one family, of which there is one at least
pub all-in : (w : ℕ) (xs : List RoaIpAddress) (p : List ℕ) → (addresses w).spells xs p
    → AreAddressesIn w xs × (xs ≢ [])
all-in w xs p h =
    let is = sym h.stands.0 in
    let some = λ (e : xs ≡ []). h.stands.1 (is ∙ e) in
    (subst (AreAddressesIn w) is (each-in w h.value h.spelled.contents h.spelled.spelled), some)
