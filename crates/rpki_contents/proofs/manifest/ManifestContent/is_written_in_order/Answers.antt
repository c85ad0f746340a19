use Rattle.std.proofs.Common.{◌<ℤ◌, ◌↔◌, FitsSigned, IsTrue, w64}
use Rattle.std.proofs.lemmas.Int.{to_z-of_z}
use Rattle.rpki_contents.proofs.ManifestWritingLaws.{seconds-in-order}
use Rattle.rpki_contents.proofs.manifest.ManifestContent.is_written_in_order.Goals as goal

pub returns : goal.returns
returns c =
    let x = c.args.self.now in
    let a = c.to_binary_time.result in
    let b = c.to_binary_time-2.result in
    let fits : FitsSigned w64 a = record { sfits = c.to_binary_time.type_inv } in
    let fit : FitsSigned w64 b = record { sfits = c.to_binary_time-2.type_inv } in
    let less : IsTrue c.is_less.result ↔ (a <ℤ b) =
    rw (to_z-of_z w64 a fits, to_z-of_z w64 b fit) at c.is_less.ensures in
    let this = rw c.this_update.ensures.time at c.to_binary_time.ensures in
    let next = rw c.next_update.ensures at c.to_binary_time-2.ensures in
    let order = seconds-in-order x.this_update x.next_update a b this next in
    (λ h. order.0 (less.0 h), λ h. less.1 (order.1 h))
