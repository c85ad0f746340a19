use Rattle.std.proofs.Common.{◌∷◌, get_or, take}
use Rattle.std.specs.Fmt.{HasWritten, IsPlainFormatter}
use Rattle.rpki_resources.specs.declared.block.Block.{Block}
use Rattle.rpki_resources.specs.ListText.{blocks_text}
use Rattle.rpki_resources.proofs.list_text.write_blocks.Given as goal

-- the first block was written, and then those that were gone over
abbrev pub invariant-each : goal.invariant-each
invariant-each g l =
    let none : Block = record { low = 0; high = 0 } in
    IsPlainFormatter l.fn.f
    → HasWritten g.W.Write.write_str_gives l.fn.f
    (blocks_text l.kind (get_or l.blocks 0 none ∷ take l.block-index l.rest)) l.f
