use Rattle.std.proofs.Common.{sym, inl, inr, refl, ◌∙◌}
use Rattle.rpki_der.specs.Reading.{SpellsNothing}
use Rattle.rpki.specs.declared.repository.error.ValidationError.TheVariants.{Decoding}
use Rattle.rpki_fields.specs.AccessText.{any_access}
use Rattle.rpki_fields.proofs.MemoryLaws.{unless-memory}
use Rattle.rpki_fields.proofs.access_text.descriptions.Goals as goal

pub returns-in-Ok : goal.returns-in-Ok
returns-in-Ok c = rw c.in-Some.is (inl (rw c.octets.ensures at c.in-Ok.ensures))

pub returns-else-is_memory : goal.returns-else-is_memory
returns-else-is_memory c =
    rw (c.in-Some.is, c.new.ensures.items) (inr (
      unless-memory (Decoding c.in-Err.e) (SpellsNothing any_access.spells c.in-Some.extension.now.content)
          (sym c.is_memory.ensures ∙ c.if-is_memory.false) (rw c.octets.ensures at c.in-Err.ensures).0,
      refl,
    ))
