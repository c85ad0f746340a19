use Rattle.rpki_resources.specs.ListRead.IsBlocksText.{Listed}
use Rattle.rpki_resources.proofs.ListReadLaws.{no-room-behind, not-blank}
use Rattle.rpki_resources.proofs.blocks.Blocks.from_text.Goals as goal

pub returns-in-Ok : goal.returns-in-Ok
returns-in-Ok c =
    Listed c.in_ok-found.found.items (not-blank c.args.text.now c.trim.result.now c.is_empty.result c.trim.ensures.trim
    c.is_empty.ensures c.if-is_empty.false)
    c.in_ok-found.ensures (rw c.as_slice.ensures.value at c.in-Ok.ensures.numbers)

pub returns : goal.returns
returns c = record {
  some = not-blank c.args.text.now c.trim.result.now c.is_empty.result c.trim.ensures.trim c.is_empty.ensures
      c.if-is_empty.false;
  first = no-room-behind c.args.kind _ c.in_ok-found.found.items c.in_ok-found.ensures
      (rw c.as_slice.ensures.value at c.in-Err.ensures.memory);
}
