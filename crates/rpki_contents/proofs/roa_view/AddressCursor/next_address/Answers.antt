use Rattle.std.proofs.Common.{true}
use Rattle.rpki_der.specs.Prelude.{sequence}
use Rattle.rpki_der.proofs.LeafValueLaws.{contents-shorter}
use Rattle.rpki_resources.specs.Address.{width}
use Rattle.rpki_contents.specs.RoaAddress.{roa_address}
use Rattle.rpki_contents.proofs.InPlaceLaws.{refused}
use Rattle.rpki_contents.proofs.RoaAddressLaws.{address-never}
use Rattle.rpki_contents.proofs.roa_view.AddressCursor.next_address.Goals as goal

pub returns-in-Ok-clause-shorter : goal.returns-in-Ok-clause-shorter
returns-in-Ok-clause-shorter c =
    let h = c.in-Ok.ensures.spells in
    contents-shorter sequence true _ h.spelled.spelled.contents _
    (record { front = h.front; parts = h.parts; spelled = h.spelled.spelled.value })

pub returns-in-Err-clause-given : goal.returns-in-Err-clause-given
returns-in-Err-clause-given c =
    let w = width c.args.self.now.family in
    let h = c.in-Err.ensures in
    (refused (roa_address w).spells (roa_address w).fault _ _ _ (address-never w _) h, h.unchanged)
