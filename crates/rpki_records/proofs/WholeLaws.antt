-- What a reader in place of whole octets says where it finds nothing.
use Rattle.std.proofs.Common.{ℕ, List}
use Rattle.rpki_der.specs.declared.error.DecodeError.{DecodeError}
use Rattle.rpki_der.specs.Reading.{NeverMemory, SpellsNothing, UnlessMemory}
use Rattle.rpki_der.proofs.ReadingLaws.{unless-memory}

pub nothing : {V : Type 0} (G : V → List ℕ → Type 0) (K : List ℕ → DecodeError → Type 0) (s : List ℕ) (e : DecodeError)
    → UnlessMemory e (SpellsNothing G s) × NeverMemory G K s e → SpellsNothing G s
nothing G K s e h = unless-memory e h.1.other h.0
