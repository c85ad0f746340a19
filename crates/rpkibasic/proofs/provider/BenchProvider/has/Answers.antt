use Rattle.std.proofs.Common.{ap, ◌∙◌}
use Rattle.rpkibasic.specs.Table.{stands}
use Rattle.rpkibasic.proofs.RowLaws.{stands-kept}
use Rattle.rpkibasic.proofs.provider.BenchProvider.has.Goals as goal

pub returns : goal.returns
returns c =
    rw c.as_slice.ensures.value at c.is_among.ensures
    ∙ stands-kept c.args.bits.now c.args.message.now c.args.signature.now c.self.inside.table.items
    ∙ ap (λ rows. stands rows c.args.bits.now c.args.message.now c.args.signature.now) c.self.view_is
