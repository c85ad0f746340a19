-- Algorithm identifiers whose object identifier isn't known (RFC 5280 4.1.1.2).
use Rattle.std.specs.Prelude.{◌≡◌, ℕ, List, Result, MatchResult, true, false}
use Rattle.rpki_der.specs.declared.error.DecodeError.{DecodeError}
use Rattle.rpki_der.specs.declared.error.DecodeError.TheVariants.{Truncated, BadTag, BadLength, Unexpected, Content}
use Rattle.rpki_der.specs.declared.error.DecodeError.TheVariants.{Trailing, OutOfMemory}
use Rattle.rpki_der.specs.Prelude.{text_of, oid, sequence, Spells, SpellsContents, SpellsLeaf, IsOidOf}

-- c begins with an object identifier that isn't known
pub record BeginsUnknown (Known : List ℕ → Type 0) (c : List ℕ) : Type 0 where
  pub identifier : List ℕ
  pub rest : List ℕ
  pub begins : Spells (SpellsLeaf oid false IsOidOf) c identifier rest
  pub unknown : Known identifier → ⊥

-- s begins with a SEQUENCE whose contents do
pub record NamesUnknown (Known : List ℕ → Type 0) (s : List ℕ) : Type 0 where
  pub contents : List ℕ
  pub rest : List ℕ
  pub begins : Spells (SpellsContents sequence true) s contents rest
  pub names : BeginsUnknown Known contents

-- an error of contents, with this text
abbrev pub IsContentWith : List ℕ → DecodeError → Type 0
IsContentWith text (Content e) = text_of e ≡ text
IsContentWith text Truncated = ⊥
IsContentWith text BadTag = ⊥
IsContentWith text BadLength = ⊥
IsContentWith text Unexpected = ⊥
IsContentWith text Trailing = ⊥
IsContentWith text OutOfMemory = ⊥

-- the result is that error
abbrev pub IsRefusedWith : {X : Type 0} → List ℕ → Result X DecodeError → Type 0
IsRefusedWith text r = MatchResult r (λ _. ⊥) (IsContentWith text)
