-- The authorities that count: those that are named, up to the trust anchor; and of what is below those that count, but
-- isn't named so, one for each place where nothing else that counts publishes.
use Rattle.std.specs.Prelude.{◌≡◌, ◌⊎◌, ◌≤◌, ℕ, zero, suc, List}
use Rattle.std.specs.Cmp.Lexicographic.{slice_cmp}
use Rattle.std.specs.declared.cmp.Ordering.{Ordering}
use Rattle.std.specs.declared.cmp.Ordering.TheVariants.{Less}
use Rattle.std.specs.Option.{option_cmp}
use Rattle.std.specs.Ordering.{nat_cmp, ordering_then}
use Rattle.rpki_locator.specs.declared.anchor_uri.AnchorUri.{AnchorUri}
use Rattle.rpki_resources.specs.Equal.{blocks_cmp}
use Rattle.rpki_valid.specs.Verified.{Holder}
use Rattle.rpki_validation.specs.Alike.{PublishTheSame}
use Rattle.rpki_validation.specs.Basis.{Basis}
use Rattle.rpki_validation.specs.Met.{HasMark, Kinds, Mark}
use Rattle.rpki_validation.specs.Named.{IsNamed}
use Rattle.rpki_validation.specs.Reached.{IsBelow}
use Rattle.rpki_validation.specs.Snapshot.{Published}

-- ---- the order in which what waits is taken

abbrev octets_cmp : List ℕ → List ℕ → Ordering
octets_cmp = slice_cmp nat_cmp

abbrev pub kinds_cmp : Kinds → Kinds → Ordering
kinds_cmp x y = ordering_then (ordering_then (blocks_cmp x.0 y.0) (blocks_cmp x.1 y.1)) (blocks_cmp x.2 y.2)

-- by what tells authorities apart: name, key, places, and resources
abbrev pub mark_cmp : Mark → Mark → Ordering
mark_cmp x y =
    ordering_then (ordering_then (ordering_then (ordering_then (ordering_then (octets_cmp x.name y.name)
    (octets_cmp x.key y.key)) (option_cmp octets_cmp x.folder y.folder)) (option_cmp octets_cmp x.manifest y.manifest))
    (octets_cmp x.numbers y.numbers)) (kinds_cmp x.resources y.resources)

-- by fewer steps first
abbrev pub turn_cmp : ℕ × Mark → ℕ × Mark → Ordering
turn_cmp x y = ordering_then (nat_cmp x.0 y.0) (mark_cmp x.1 y.1)

-- the first that P is true of
pub record IsNext (P : ℕ → Holder → Type 0) (k : ℕ) (x : Holder) : Type 0 where
  pub holds : P k x
  pub first : (n : ℕ) (y : Holder) (p q : Mark) → P n y → HasMark x p → HasMark y q
      → turn_cmp (n, q) (k, p) ≡ Less → ⊥

-- ---- what counts

module _ (published : Published) (basis : Basis) (uris : List AnchorUri) where
  -- one that is named publishes the same
  pub record IsPublishedByName (x : Holder) : Type 0 where
    pub steps : ℕ
    pub few : steps ≤ basis.terms.deepest
    pub publisher : Holder
    pub named : IsNamed published basis uris steps publisher
    pub same : PublishTheSame publisher x

  -- It waits, so many steps below the trust anchor, where S is true of those that were taken: it is below one of these,
  -- or one that is named, and nothing that counts publishes the same.
  pub record Waits (S : ℕ → Holder → Type 0) (k : ℕ) (x : Holder) : Type 0 where
    pub steps : ℕ
    pub above : Holder
    pub counts : IsNamed published basis uris steps above ⊎ S steps above
    pub below : IsBelow published basis above x
    pub deeper : k ≡ suc steps
    pub few : k ≤ basis.terms.deepest
    pub unnamed : IsPublishedByName x → ⊥
    pub untaken : (n : ℕ) (y : Holder) → S n y → PublishTheSame y x → ⊥

  -- those that were taken by so many turns: at each the first that waits
  abbrev pub Taken : ℕ → ℕ → Holder → Type 0
  Taken zero k x = ⊥
  Taken (suc r) k x = Taken r k x ⊎ IsNext (Waits (Taken r)) k x

  -- so many steps below the trust anchor it counts
  abbrev pub CountsAt : ℕ → Holder → Type 0
  CountsAt k x = IsNamed published basis uris k x ⊎ ((r : ℕ) × Taken r k x)

-- The authority counts: it is named, or taken, by no more steps than the terms have.
pub record Counts (published : Published) (basis : Basis) (uris : List AnchorUri) (x : Holder) : Type 0 where
  pub steps : ℕ
  pub few : steps ≤ basis.terms.deepest
  pub counted : CountsAt published basis uris steps x
