use Rattle.std.proofs.Common.{inl, inr}
use Rattle.rpki_x509.proofs.TriedLaws.{tried-fault}
use Rattle.rpki_valid.proofs.RulesLaws.{no-addresses, own-aspa-rules}
use Rattle.rpki_valid.proofs.aspa.verify_own_aspa.Goals as goal

pub returns-in_err-verify_numbers : goal.returns-in_err-verify_numbers
returns-in_err-verify_numbers c =
    let broken =
    rw (c.tbs-cert.ensures, c.cert.ensures, c.object.ensures) at c.in_err-verify_numbers.ensures in
    tried-fault _ _ _ _ c.from_residual.ensures
    (inr (λ k. broken.0 k.2.numbers, inl broken))

pub returns-in_err-verify_own_numbers : goal.returns-in_err-verify_own_numbers
returns-in_err-verify_own_numbers c =
    let numbers =
    rw (c.tbs-cert.ensures, c.cert.ensures, c.object.ensures) at c.in_ok-verify_numbers.ensures in
    let broken =
    rw (c.tbs-cert.ensures, c.cert.ensures, c.object.ensures) at c.in_err-verify_own_numbers.ensures in
    tried-fault _ _ _ _ c.from_residual-in_err-verify_own_numbers.ensures
    (inr (λ k. broken.0 k.2.own, inr (numbers, inl broken)))

pub returns-in_err-verify_no_addresses : goal.returns-in_err-verify_no_addresses
returns-in_err-verify_no_addresses c =
    let numbers =
    rw (c.tbs-cert.ensures, c.cert.ensures, c.object.ensures) at c.in_ok-verify_numbers.ensures in
    let own =
    rw (c.tbs-cert.ensures, c.cert.ensures, c.object.ensures) at c.in_ok-verify_own_numbers.ensures in
    let broken =
    rw (c.tbs-cert.ensures, c.cert.ensures, c.object.ensures) at c.in_err-verify_no_addresses.ensures in
    tried-fault _ _ _ _ c.from_residual-in_err-verify_no_addresses.ensures
    (inr (λ k. broken.0 k.2.addresses, inr (numbers, inr (own, inl broken))))

pub settle_anchor-requires : goal.settle_anchor-requires
settle_anchor-requires c =
    let both = no-addresses c.tbs-cert.result.now.extensions c.in_ok-verify_own_numbers.ensures
    c.in_ok-verify_no_addresses.ensures in
    record { form = both.0; own = both.1 }

pub returns-in_err-held : goal.returns-in_err-held
returns-in_err-held c = tried-fault _ _ _ _ c.from_residual-in_err-held.ensures (inl c.in_err-held.ensures.settled)

pub returns : goal.returns
returns c =
    let numbers =
    rw (c.tbs-cert.ensures, c.cert.ensures, c.object.ensures) at c.in_ok-verify_numbers.ensures in
    let own =
    rw (c.tbs-cert.ensures, c.cert.ensures, c.object.ensures) at c.in_ok-verify_own_numbers.ensures in
    let addresses =
    rw (c.tbs-cert.ensures, c.cert.ensures, c.object.ensures) at c.in_ok-verify_no_addresses.ensures in
    let has =
    rw (c.tbs-cert.ensures, c.cert.ensures, c.object.ensures) at c.in_ok-held.ensures.settled in
    let only =
    rw (c.tbs-cert.ensures, c.cert.ensures, c.object.ensures) at c.in_ok-held.ensures.only in
    own-aspa-rules c.args.aspa.now c.in_ok-held.held has only numbers own addresses _ c.verify_within.ensures
