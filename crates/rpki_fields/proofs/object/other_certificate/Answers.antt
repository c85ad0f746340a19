use Rattle.std.proofs.Common.{sym, ◌∙◌}
use Rattle.rpki_fields.proofs.OtherObjectLaws.{out-of-memory, is-other, not-other, neither}
use Rattle.rpki_fields.proofs.object.other_certificate.Goals as goal

pub returns-then-is_memory : goal.returns-then-is_memory
returns-then-is_memory c =
    out-of-memory c.args.octets.now c.args.e c.requires (sym c.is_memory.ensures ∙ c.if-is_memory.true)

pub returns-then-has_other : goal.returns-then-has_other
returns-then-has_other c =
    is-other c.args.octets.now c.args.e c.requires c.in-Ok.cert (sym c.is_memory.ensures ∙ c.if-is_memory.false)
    (sym c.has_other.ensures ∙ c.if-has_other.true) c.in-Ok.ensures

pub returns-else-has_other : goal.returns-else-has_other
returns-else-has_other c =
    not-other c.args.octets.now c.args.e c.requires c.in-Ok.cert (sym c.has_other.ensures ∙ c.if-has_other.false)
    c.in-Ok.ensures

pub returns-else-is_memory-2 : goal.returns-else-is_memory-2
returns-else-is_memory-2 c =
    neither c.args.octets.now c.args.e c.requires c.in-Err.d
    (sym c.is_memory-in-Err.ensures ∙ c.if-is_memory-2.false) c.in-Err.ensures
