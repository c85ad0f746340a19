use Rattle.std.proofs.Common.{inl, inr}
use Rattle.rpki_x509.proofs.TriedLaws.{tried-fault}
use Rattle.rpki_valid.proofs.RulesLaws.{no-numbers, own-origin-rules}
use Rattle.rpki_valid.proofs.roa.verify_own_roa.Goals as goal

pub returns-in_err-verify_addresses : goal.returns-in_err-verify_addresses
returns-in_err-verify_addresses c =
    let broken =
    rw (c.tbs-cert.ensures, c.cert.ensures, c.object.ensures) at c.in_err-verify_addresses.ensures in
    tried-fault _ _ _ _ c.from_residual.ensures
    (inr (λ k. broken.0 k.2.addresses, inl broken))

pub returns-in_err-verify_own_addresses : goal.returns-in_err-verify_own_addresses
returns-in_err-verify_own_addresses c =
    let addresses =
    rw (c.tbs-cert.ensures, c.cert.ensures, c.object.ensures) at c.in_ok-verify_addresses.ensures in
    let broken =
    rw (c.tbs-cert.ensures, c.cert.ensures, c.object.ensures) at c.in_err-verify_own_addresses.ensures in
    tried-fault _ _ _ _ c.from_residual-in_err-verify_own_addresses.ensures
    (inr (λ k. broken.0 k.2.own, inr (addresses, inl broken)))

pub returns-in_err-verify_no_numbers : goal.returns-in_err-verify_no_numbers
returns-in_err-verify_no_numbers c =
    let addresses =
    rw (c.tbs-cert.ensures, c.cert.ensures, c.object.ensures) at c.in_ok-verify_addresses.ensures in
    let own =
    rw (c.tbs-cert.ensures, c.cert.ensures, c.object.ensures) at c.in_ok-verify_own_addresses.ensures in
    let broken =
    rw (c.tbs-cert.ensures, c.cert.ensures, c.object.ensures) at c.in_err-verify_no_numbers.ensures in
    tried-fault _ _ _ _ c.from_residual-in_err-verify_no_numbers.ensures
    (inr (λ k. broken.0 k.2.numbers, inr (addresses, inr (own, inl broken))))

pub settle_anchor-requires : goal.settle_anchor-requires
settle_anchor-requires c =
    let both = no-numbers c.tbs-cert.result.now.extensions c.in_ok-verify_own_addresses.ensures
    c.in_ok-verify_no_numbers.ensures in
    record { form = both.0; own = both.1 }

pub returns-in_err-held : goal.returns-in_err-held
returns-in_err-held c = tried-fault _ _ _ _ c.from_residual-in_err-held.ensures (inl c.in_err-held.ensures.settled)

pub returns : goal.returns
returns c =
    let addresses =
    rw (c.tbs-cert.ensures, c.cert.ensures, c.object.ensures) at c.in_ok-verify_addresses.ensures in
    let own =
    rw (c.tbs-cert.ensures, c.cert.ensures, c.object.ensures) at c.in_ok-verify_own_addresses.ensures in
    let numbers =
    rw (c.tbs-cert.ensures, c.cert.ensures, c.object.ensures) at c.in_ok-verify_no_numbers.ensures in
    let has =
    rw (c.tbs-cert.ensures, c.cert.ensures, c.object.ensures) at c.in_ok-held.ensures.settled in
    let only =
    rw (c.tbs-cert.ensures, c.cert.ensures, c.object.ensures) at c.in_ok-held.ensures.only in
    own-origin-rules c.args.roa.now c.in_ok-held.held has only addresses own numbers _ c.verify_within.ensures
