-- Attestations of providers that are read in place, as a function of their octets: what is found, or the leftmost
-- malformed part, and why. The parts are those of Aspa.antt.
use Rattle.std.specs.Prelude.{ℕ, Bool, true, not, ◌&&◌, ◌^◌, List, Option, None, Some, Result, Ok, Err}
use Rattle.std.specs.Prelude.{◌≡◌, length, if◌then◌else◌, nat_eq, nat_lt}
use Rattle.rpki_der.specs.Prelude.{integer, sequence}
use Rattle.rpki_parse.specs.Words.{Parser, bind}
use Rattle.rpki_parse.specs.Parts.{at_part}
use Rattle.rpki_parse.specs.Value.{ended, value_at}
use Rattle.rpki_parse.specs.Leaf.{below_in, leaf_at, number_in}
use Rattle.rpki_parse.specs.Fold.{fold_at}
use Rattle.rpki_contents.specs.declared.aspa_view.AspaPart.{AspaPart}
use Rattle.rpki_contents.specs.declared.aspa_view.AspaPart.TheVariants as P
use Rattle.rpki_contents.specs.declared.aspa_view.AspaView.{AspaView}
use Rattle.rpki_contents.specs.Aspa.{version_tag, aspa, aspa_parts, each_number}

-- [0] EXPLICIT INTEGER 1
abbrev pub version_at : Parser (Unit {0})
version_at s =
    bind (value_at version_tag true s) (λ c.
    bind (leaf_at integer (number_in 1) c.0) (λ v.
    bind (ended v.1) (λ _. Ok (tt, c.1))))

-- an AS number
abbrev pub number_at : Parser ℕ
number_at = leaf_at integer (below_in (2 ^ 32))

abbrev pub is_above : Option ℕ → ℕ → Bool
is_above None n = true
is_above (Some last) n = nat_lt last n

-- a provider: a number above the last, and not the customer
unfoldable pub provider_at : ℕ → Option ℕ → List ℕ → Result (Option ℕ × List ℕ) ℕ
provider_at customer last s =
    bind (number_at s) (λ n.
    if is_above last n.0 && not (nat_eq n.0 customer) then Ok (Some n.0, n.1) else Err 5)

-- the last provider, and how many there are: one at least
abbrev pub some_provider : Option ℕ × ℕ → Result ℕ ℕ
some_provider (None, n) = Err 5
some_provider (Some last, n) = Ok n

-- all of s is providers of the customer: how many they are
unfoldable pub providers_at : ℕ → List ℕ → Result ℕ ℕ
providers_at customer s = bind (fold_at (provider_at customer) None s) some_provider

-- what is found: the octets of the providers, and how many they are
pub record FoundAspa : Type 0 where
  pub customer : ℕ
  pub providers : List ℕ
  pub count : ℕ

abbrev pub found_aspa : AspaView → FoundAspa
found_aspa v = record { customer = v.customer; providers = v.providers.now; count = v.count }

-- the parts, which are all of s
abbrev pub members : List ℕ → Result FoundAspa (AspaPart × ℕ)
members s =
    bind (at_part P.Version (version_at s)) (λ v.
    bind (at_part P.Customer (number_at v.1)) (λ n.
    bind (at_part P.Providers (value_at sequence true n.1)) (λ p.
    bind (at_part P.Providers (providers_at n.0 p.0)) (λ k.
    bind (at_part P.Providers (ended p.1)) (λ _.
    Ok (record { customer = n.0; providers = p.0; count = k }))))))

-- ASProviderAttestation: all of s
abbrev pub attestation : List ℕ → Result FoundAspa (AspaPart × ℕ)
attestation s =
    bind (at_part P.Attestation (value_at sequence true s)) (λ c.
    bind (at_part P.Attestation (ended c.1)) (λ _.
    members c.0))

-- s is an attestation in the words of its grammar (Aspa.antt), x are its customer and the octets of its providers
pub record IsAspaOf (s : List ℕ) (x : FoundAspa) : Type 0 where
  pub providers : List ℕ
  pub spelled : aspa.spells (aspa_parts x.customer providers) s
  pub octets : each_number.spells providers x.providers
  pub count : length providers ≡ x.count

-- ---- a cursor over providers

-- the number in front and what follows it; none where there is none, and then nothing is read
abbrev pub given : List ℕ → Result (ℕ × List ℕ) ℕ → Option ℕ × List ℕ
given s (Ok n) = (Some n.0, n.1)
given s (Err e) = (None, s)

abbrev pub given_at : List ℕ → Option ℕ × List ℕ
given_at s = given s (number_at s)
