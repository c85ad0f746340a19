use Rattle.std.proofs.Common.{◌∙◌, ap, sym}
use Rattle.std.specs.Prelude.{Vec}
use Rattle.std.specs.declared.alloc.Global.{Global}
use Rattle.rpki_resources.specs.declared.block.Block.{Block}
use Rattle.rpki_resources.specs.Items.{items_of}
use Rattle.rpki_resources.proofs.EqualBlocksLaws.{equal}
use Rattle.rpki_resources.proofs.blocks.Blocks.sharing.Goals as goal

pub returns-in-Ok : goal.returns-in-Ok
returns-in-Ok c =
    ap (λ (v : Vec Block Global). v.items) c.in-Ok.ensures ∙ ap items_of (sym c.in-Shared.is) ∙ c.other.view_is
    ∙ sym (equal c.args.self c.args.other.now (sym c.eq.ensures ∙ c.if-eq.true))
