use Rattle.std.proofs.Common.{◌≡◌, Ok, refl}
use Rattle.std.proofs.lemmas.Bool.{iff_false}
use Rattle.rpki_der.proofs.ChoiceLaws.{such-read}
use Rattle.rpki_der.proofs.TriedLaws.{tried-refused}
use Rattle.rpki_resources.specs.declared.block.Block.{Block}
use Rattle.rpki_resources.specs.declared.address.Address.{Address}
use Rattle.rpki_resources.specs.Address.{width, address, prefix_block, prefix}
use Rattle.rpki_resources.proofs.ComposingLaws.{standing-refused}
use Rattle.rpki_resources.proofs.RangeLaws.{takes-range, takes-prefix}
use Rattle.rpki_resources.proofs.prefix.take_block.Goals as goal

pub returns-then-has_tag : goal.returns-then-has_tag
returns-then-has_tag c =
    takes-range (width c.args.family) _ _ _ (c.has_tag.ensures.0 c.if-has_tag.true) c.take_range.ensures

pub returns-in_err-address : goal.returns-in_err-address
returns-in_err-address c =
    let w = width c.args.family in
    takes-prefix w _ _ _ (iff_false c.has_tag.ensures c.if-has_tag.false)
    (tried-refused (λ b. b) (prefix w).spells (prefix w).fault _ _ _ _ c.from_residual.ensures
    (standing-refused (λ (b : Block) (x : Address). b ≡ prefix_block w x) (address w) c.in_err-address.ensures))

pub returns : goal.returns
returns c =
    let w = width c.args.family in
    rw c.prefix.ensures
    (takes-prefix w _ _ (Ok _) (iff_false c.has_tag.ensures c.if-has_tag.false)
    (such-read (λ (b : Block) (x : Address). b ≡ prefix_block w x) (address w)
    (prefix_block w c.in_ok-address.address) c.in_ok-address.ensures refl (λ d k. k)))
