use Rattle.std.proofs.Common.{ap, subst, arith}
use Rattle.rpki_resources.specs.Kept.{IsChoiceOf}
use Rattle.rpki_c.specs.Resources.{inherited_ip, ip_entry, view_count}
use Rattle.rpki_c.proofs.ResourceLaws.{inherited-entries, one-filled}
use Rattle.rpki_c.proofs.ip_blocks.write_family.Goals as goal

pub returns-in-Inherit : goal.returns-in-Inherit
returns-in-Inherit c = λ v h.
    let one = inherited-entries (inherited_ip c.args.family) (ip_entry c.args.family) v
    (subst (IsChoiceOf v) c.in-Inherit.is h) in
    rw (one, c.inherited.ensures)
    (one-filled c.args.from (inherited_ip c.args.family) c.args.entries.now
    (omega (arith, c.requires, ap view_count c.in-Inherit.is)))
