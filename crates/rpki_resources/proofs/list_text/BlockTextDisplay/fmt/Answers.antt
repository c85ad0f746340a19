use Rattle.std.proofs.Common.{◌≡◌, ap, sym, ◌∙◌}
use Rattle.rpki_resources.specs.declared.kind.ResourceKind.{ResourceKind}
use Rattle.rpki_resources.specs.Text.{as_block_text, ip_block_text}
use Rattle.rpki_resources.specs.ListText.{block_text}
use Rattle.rpki_resources.proofs.ListTextLaws.{as-block, ip-block}
use Rattle.rpki_resources.proofs.list_text.BlockTextDisplay.fmt.Goals as goal

pub returns-in-Some-clause-writes : goal.returns-in-Some-clause-writes
returns-in-Some-clause-writes g c = λ plain ok.
    let e : block_text c.args.self.now.kind c.args.self.now.block ≡ ip_block_text c.in-Some.block =
    ap (λ (kind : ResourceKind). block_text kind c.args.self.now.block) c.in-Addresses.is
    ∙ sym (ip-block c.in-Addresses.family c.in-Some.block c.args.self.now.block c.in-Some.ensures.some) in
    rw e (c.fmt.ensures.writes plain ok)

pub returns-in-Some-of-clause-writes : goal.returns-in-Some-of-clause-writes
returns-in-Some-of-clause-writes g c = λ plain ok.
    let e : block_text c.args.self.now.kind c.args.self.now.block ≡ as_block_text c.in-Some-of.block =
    ap (λ (kind : ResourceKind). block_text kind c.args.self.now.block) c.in-AsNumbers.is
    ∙ sym (as-block c.in-Some-of.block c.args.self.now.block c.in-Some-of.ensures.some) in
    rw e (c.fmt-in-Some-of.ensures.writes plain ok)
