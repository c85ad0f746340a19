-- Validated ASPA payloads: which autonomous systems are the providers of which (draft-ietf-sidrops-aspa-profile,
-- version 1). That profile has no address families: a provider is one for the routes of both.
use Rattle.std.specs.Prelude.{◌==◌, ℕ, suc, List, [], ◌∷◌, if◌then◌else◌, map}
use Rattle.std.specs.Ordering.{nat_cmp, ordering_then}
use Rattle.std.specs.declared.cmp.Ordering.{Ordering}
use Rattle.rpki_contents.specs.Aspa.{AspaParts, aspa_parts}
use Rattle.rpki_payloads.specs.declared.vap.CustomerProvider.{CustomerProvider}

abbrev pub pair_of : ℕ → ℕ → CustomerProvider
pair_of customer provider = record { customer = customer; provider = provider }

-- by the customer, and then by the provider
abbrev pub pair_cmp : CustomerProvider → CustomerProvider → Ordering
pair_cmp v w = ordering_then (nat_cmp v.customer w.customer) (nat_cmp v.provider w.provider)

-- what an attestation says, a provider each
abbrev pub pairs_of : AspaParts → List CustomerProvider
pairs_of x = map (pair_of x.customer) x.providers

-- ---- the providers of a customer together

abbrev pub put : CustomerProvider → List AspaParts → List AspaParts
put v [] = aspa_parts v.customer (v.provider ∷ []) ∷ []
put v (x ∷ xs) =
    if v.customer == x.customer then aspa_parts v.customer (v.provider ∷ x.providers) ∷ xs
    else aspa_parts v.customer (v.provider ∷ []) ∷ x ∷ xs

-- The customers of pairs in order, each with all its providers, whichever attestations say them: together they are
-- what is known of the customer (draft-ietf-sidrops-aspa-verification).
abbrev pub vaps : List CustomerProvider → List AspaParts
vaps [] = []
vaps (v ∷ vs) = put v (vaps vs)

-- how many of the first are of this customer
abbrev pub run : ℕ → List CustomerProvider → ℕ
run customer [] = 0
run customer (v ∷ vs) = if v.customer == customer then suc (run customer vs) else 0
