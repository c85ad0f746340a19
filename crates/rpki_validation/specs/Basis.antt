-- What validity rests on beside the octets that are published.
use Rattle.std.specs.Prelude.{List, Some, map}
use Rattle.jiff.specs.Types.{DateTime}
use Rattle.rpki_time.specs.Validity.{Period}
use Rattle.rpki.specs.Provider.{Checkers}
use Rattle.rpki.specs.Checkers.{Models, checkers_of}
use Rattle.rpki_valid.specs.declared.staleness.Staleness.TheVariants.{Refused}
use Rattle.rpki_valid.specs.CrlIssued.{InForce}
use Rattle.rpki_valid.specs.Verified.{Authority, Holder, Terms, Verified, holder}

-- what all certificates of a path are checked against: the key of the trust anchor, which rules are kept strictly, and
-- how many steps there are at most below the trust anchor; what signatures and digests are; and the moment
pub record Basis : Type 1 where
  pub terms : Terms
  pub by : Checkers
  pub at : DateTime

-- those of a provider
abbrev pub basis_by : {X : Type 0} → Models X → Terms → X → DateTime → Basis
basis_by models terms provider at = record { terms = terms; by = checkers_of models provider; at = at }

-- those of an authority that was verified
abbrev pub basis_of : {X : Type 0} → Models X → Authority X → DateTime → Basis
basis_of models a at = basis_by models a.terms a.provider at

-- those of its list that counts
abbrev pub basis_in : {X : Type 0} → Models X → InForce X → Basis
basis_in models c = basis_of models c.issuer c.at

-- the certificate of an authority, and its resources
abbrev pub holder_of : {X : Type 0} → Authority X → Holder
holder_of a = holder a.cert a.resources

-- those of several
abbrev pub holders : {X : Type 0} → List (Authority X) → List Holder
holders level = map holder_of level

abbrev pub moment : DateTime → Period
moment at = record { not_before = at; not_after = at }

-- An authority as its own certificate has it: that all of its path is valid at the moment is said apart, by how it is
-- reached, and so the period is the moment. How far down the path it is has no part in what it issues.
abbrev pub verified_at : Basis → Holder → Verified
verified_at basis x = record {
  cert = x.cert;
  resources = x.resources;
  period = moment basis.at;
  terms = basis.terms;
  depth = 0;
  asked = Some Refused;
  by = basis.by;
}
