-- What a status says of the octets of an attestation of providers, and of a provider.
use Rattle.std.specs.Prelude.{◌≡◌, ℕ, List, Ok, Err}
use Rattle.rpki_contents.specs.declared.aspa_view.AspaPart.{AspaPart}
use Rattle.rpki_contents.specs.declared.aspa_view.AspaPart.TheVariants as P
use Rattle.rpki_contents.specs.Aspa.{as_number}
use Rattle.rpki_contents.specs.AspaView.{FoundAspa, attestation}
use Rattle.rpki_c.specs.declared.aspa.AspaParts.{AspaParts as Parts}
use Rattle.rpki_c.specs.declared.span.Span.{Span}
use Rattle.rpki_c.specs.Span.{IsTakenOff}
use Rattle.rpki_c.specs.Whole.{IsRead}

-- the status of octets of which this part is wrong
abbrev pub aspa_part_number : AspaPart → ℕ
aspa_part_number P.Attestation = 148
aspa_part_number P.Version = 149
aspa_part_number P.Customer = 150
aspa_part_number P.Providers = 151

-- what the parts hand out
abbrev pub passed : Parts → FoundAspa
passed p = record { customer = p.customer; providers = p.providers.octets.now; count = p.count }

-- this part is the leftmost that is malformed
abbrev pub IsAspaWrong : List ℕ → AspaPart → Type 0
IsAspaWrong s q = (e : ℕ) × (attestation s ≡ Err (q, e))

-- Status 0: the octets are an attestation of these parts. Else the number of the malformed part, and nothing is
-- written.
abbrev pub IsAspaRead : List ℕ → ℕ → Parts → Parts → Type 0
IsAspaRead s = IsRead (λ p. attestation s ≡ Ok (passed p)) aspa_part_number (IsAspaWrong s)

-- a provider is taken off the span
abbrev pub IsProviderTaken : ℕ → Span → Span → ℕ → ℕ → Type 0
IsProviderTaken = IsTakenOff as_number (λ x number. number ≡ x)
