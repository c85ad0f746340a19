use Rattle.rpki_resources.specs.Blocks.{AreNumbersOf}
use Rattle.std.proofs.lemmas.Result.{IfOk-weaker}
use Rattle.rpki_payloads.specs.Shared.{AreAddressesOf}
use Rattle.rpki_payloads.proofs.SharedLaws.{are-addresses, blocks}
use Rattle.rpki_payloads.proofs.shared.addresses_of.Goals as goal

pub returns : goal.returns
returns c =
    IfOk-weaker c.of.result (AreNumbersOf (blocks c.args.width c.args.prefixes.now))
    (AreAddressesOf c.args.width c.args.prefixes.now)
    (λ x h. are-addresses c.args.width c.args.prefixes.now x h.numbers)
    (rw (c.as_slice.ensures.value, c.in_ok-blocks.ensures) at c.of.ensures.numbers)
