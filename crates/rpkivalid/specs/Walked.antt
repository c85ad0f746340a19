-- What is found under one locator: what is valid, and what is rejected.
use Rattle.std.specs.Prelude.{ℕ, List, Option, None, if◌then◌else◌, bytes_eq}
use Rattle.std.specs.Option.{option_map}
use Rattle.rpki.specs.PublicKey.{KeyParts}
use Rattle.rpki_locator.specs.declared.anchor_uri.AnchorUri.{AnchorUri}
use Rattle.rpki_validation.specs.Basis.{Basis}
use Rattle.rpki_validation.specs.Finding.{IsNone}
use Rattle.rpki_validation.specs.Reached.{IsFirstAnchor, IsNoAnchor}
use Rattle.rpki_validation.specs.Snapshot.{Published, Where}
use Rattle.rpki_validation.specs.Validated.{AreExactly}
use Rattle.rpkivalid.specs.declared.walked.Walk.{Walk}
use Rattle.rpkivalid.specs.declared.walked.Walk.TheVariants.{Found, NoAnchor}
use Rattle.rpkivalid.specs.Locators.{Holds, NamedParts}
use Rattle.rpkivalid.specs.Paths.{copy_in}

-- exactly what is valid and what is rejected, each with a true reason; or why the locator has no trust anchor
abbrev pub IsWalk : Published → Basis → List AnchorUri → Walk → Type 0
IsWalk published basis uris (Found o) = AreExactly published basis uris o
IsWalk published basis uris (NoAnchor reason) =
    IsNone (IsFirstAnchor published basis uris) × IsNoAnchor published basis uris reason

-- in this folder
abbrev pub IsWalkIn : Holds → (folder : List ℕ) → (KeyParts → Basis) → NamedParts → Walk → Type 0
IsWalkIn holds folder basis l w =
    Where (copy_in folder l.name holds) (λ published. IsWalk published (basis l.key) l.uris w)

-- ---- without one file

-- the files but that at this path: there is none
abbrev pub other_files : List ℕ → (List ℕ → Option (List ℕ)) → List ℕ → Option (List ℕ)
other_files path files other = if bytes_eq other path then None else files other

abbrev pub without : List ℕ → Holds → Holds
without path holds = option_map (other_files path) holds
