-- Route origin attestations that are read in place, as a function of their octets: what is found, or the leftmost
-- malformed part, and why. The parts are those of Roa.antt.
use Rattle.std.specs.Prelude.{◌≡◌, ◌&&◌, ◌-◌, ◌*◌, ◌^◌, ℕ, Bool, true, List, [], ◌∷◌, length, Option, None, Some}
use Rattle.std.specs.Prelude.{Result, Ok, Err, if◌then◌else◌, nat_eq, nat_le}
use Rattle.std.specs.Str.{bytes_eq}
use Rattle.rpki_der.specs.Prelude.{Accepts, Bits, Refuses, bit_string, integer, octet_string, sequence}
use Rattle.rpki_parse.specs.Words.{Parser, bind}
use Rattle.rpki_parse.specs.Parts.{at_part}
use Rattle.rpki_parse.specs.Value.{ended, value_at}
use Rattle.rpki_parse.specs.Leaf.{below_in, bits_in, decided, leaf_at, some_if}
use Rattle.rpki_parse.specs.Optional.{optional_at}
use Rattle.rpki_parse.specs.Fold.{fold_at}
use Rattle.rpki_resources.specs.declared.family.AddressFamily.{AddressFamily}
use Rattle.rpki_resources.specs.declared.family.AddressFamily.TheVariants.{Ipv4, Ipv6}
use Rattle.rpki_resources.specs.Address.{family_octets, width}
use Rattle.rpki_contents.specs.declared.family_view.BothView.{BothView}
use Rattle.rpki_contents.specs.declared.family_view.FamilyView.{FamilyView}
use Rattle.rpki_contents.specs.declared.roa_address.RoaIpAddress.{RoaIpAddress}
use Rattle.rpki_contents.specs.declared.roa_view.RoaPart.{RoaPart}
use Rattle.rpki_contents.specs.declared.roa_view.RoaPart.TheVariants as P
use Rattle.rpki_contents.specs.declared.roa_view.RoaView.{RoaView}
use Rattle.rpki_contents.specs.AspaView.{number_at}
use Rattle.rpki_contents.specs.Roa.{Both, alone, together, roa}
use Rattle.rpki_contents.specs.RoaAddress.{each_address, roa_address}

-- ---- a prefix, of w bits at most (RFC 9582 4.3.2)

-- how many bits are used
abbrev pub size_of : Bits → ℕ
size_of b = length b.octets * 8 - b.unused

abbrev pub max_length_at : Parser (Option ℕ)
max_length_at = optional_at integer (leaf_at integer (below_in (2 ^ 8)))

-- the maximum length, where it isn't left out, is from the length of the prefix to that of an address
abbrev pub fits : ℕ → ℕ → Option ℕ → Bool
fits w n None = nat_le n w
fits w n (Some most) = nat_le n most && nat_le most w

unfoldable pub prefix_at : ℕ → Parser (Unit {0})
prefix_at w s =
    bind (value_at sequence true s) (λ c.
    bind (leaf_at bit_string bits_in c.0) (λ b.
    bind (max_length_at b.1) (λ m.
    bind (ended m.1) (λ _.
    if fits w (size_of b.0) m.0 then Ok (tt, c.1) else Err 5))))

-- all of s is prefixes: how many they are, one at least
unfoldable pub count_at : ℕ → List ℕ → Result ℕ ℕ
count_at w s = bind (fold_at (λ _. prefix_at w) tt s) (λ n. if nat_eq n.1 0 then Err 5 else Ok n.1)

-- ---- the prefixes of each family (RFC 9582 4.3.1)

-- the octets of prefixes, in sequence, and how many they are
pub record Listed : Type 0 where
  pub octets : List ℕ
  pub count : ℕ

abbrev pub listed : List ℕ → ℕ → Listed
listed s n = record { octets = s; count = n }

-- 00 01 or 00 02
abbrev pub family_in : List ℕ → Option AddressFamily
family_in c = if bytes_eq c (family_octets Ipv4) then Some Ipv4 else some_if (bytes_eq c (family_octets Ipv6)) Ipv6

unfoldable pub family_at : Parser (AddressFamily × Listed)
family_at s =
    bind (value_at sequence true s) (λ c.
    bind (leaf_at octet_string family_in c.0) (λ f.
    bind (value_at sequence true f.1) (λ a.
    bind (count_at (width f.0) a.0) (λ n.
    bind (ended a.1) (λ _. Ok ((f.0, listed a.0 n), c.1))))))

-- one at least
abbrev pub some_at : {V : Type 0} → Parser V → Parser V
some_at p [] = Err 5
some_at p (x ∷ xs) = p (x ∷ xs)

-- one more, where something remains
abbrev pub one_more : {V : Type 0} → Parser V → Parser (Option V)
one_more p [] = Ok (None, [])
one_more p (x ∷ xs) = bind (p (x ∷ xs)) (λ v. Ok (Some v.0, v.1))

-- no more than that
abbrev pub no_more : List ℕ → Result (Unit {0}) ℕ
no_more [] = Ok tt
no_more (x ∷ xs) = Err 5

abbrev pub in_order : Bool → AddressFamily × Listed → Option (AddressFamily × Listed) → Option (Listed × Listed)
in_order strict x None = Some (alone (listed [] 0) x)
in_order strict x (Some y) = together strict x y

-- a SEQUENCE of one family or of two
unfoldable pub blocks_at : Bool → Parser (Listed × Listed)
blocks_at strict s =
    bind (value_at sequence true s) (λ c.
    bind (some_at family_at c.0) (λ x.
    bind (one_more family_at x.1) (λ y.
    bind (no_more y.1) (λ _. decided (in_order strict x.0 y.0) c.1))))

abbrev pub family_of : FamilyView → AddressFamily × Listed
family_of v = (v.family, listed v.addresses.now v.count)

abbrev pub both_of : BothView → Listed × Listed
both_of v = (listed v.v4.now v.v4_count, listed v.v6.now v.v6_count)

-- ---- the whole

-- what is found
pub record FoundRoa : Type 0 where
  pub as_id : ℕ
  pub v4 : Listed
  pub v6 : Listed

abbrev pub found : ℕ → Listed × Listed → FoundRoa
found n x = record { as_id = n; v4 = x.0; v6 = x.1 }

abbrev pub found_roa : RoaView → FoundRoa
found_roa v = found v.as_id (listed v.v4.now v.v4_count, listed v.v6.now v.v6_count)

-- RouteOriginAttestation: all of s. Strictly, IP version 4 is in front of IP version 6.
abbrev pub route_origin : Bool → List ℕ → Result FoundRoa (RoaPart × ℕ)
route_origin strict s =
    bind (at_part P.Attestation (value_at sequence true s)) (λ c.
    bind (at_part P.Attestation (ended c.1)) (λ _.
    bind (at_part P.AsId (number_at c.0)) (λ n.
    bind (at_part P.AddressBlocks (blocks_at strict n.1)) (λ x.
    bind (at_part P.AddressBlocks (ended x.1)) (λ _. Ok (found n.0 x.0))))))

-- the octets are these prefixes, and as many
pub record AreListed (w : ℕ) (xs : List RoaIpAddress) (x : Listed) : Type 0 where
  pub spelled : (each_address w).spells xs x.octets
  pub count : length xs ≡ x.count

-- s is an attestation in the words of its grammar (Roa.antt), x are its number and the octets of its prefixes
pub record IsRoaOf (strict : Bool) (s : List ℕ) (x : FoundRoa) : Type 0 where
  pub prefixes : Both
  pub spelled : (roa strict).spells (x.as_id, prefixes) s
  pub v4 : AreListed 32 prefixes.0 x.v4
  pub v6 : AreListed 128 prefixes.1 x.v6

-- ---- a cursor over prefixes

-- the prefix in front, and no other, and what follows it; none where there is none, and then nothing is read
abbrev pub Gives : ℕ → List ℕ → Option RoaIpAddress → List ℕ → Type 0
Gives w s (Some x) r = Accepts (roa_address w).spells s x r
Gives w s None r = Refuses (roa_address w).spells s × (r ≡ s)
