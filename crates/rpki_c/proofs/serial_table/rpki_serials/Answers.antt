use Rattle.std.proofs.Common.{◌≡◌, refl, ◌∙◌, ap, [], length, arith}
use Rattle.rpki_c.proofs.RevokedLaws.{entries-one}
use Rattle.rpki_c.proofs.serial_table.rpki_serials.Goals as goal

pub returns-then-serials-all-clause-zeroed : goal.returns-then-serials-all-clause-zeroed
returns-then-serials-all-clause-zeroed c = λ none.
    let w = c.write_serials-all.ensures in
    let zero : c.write_serials-all.result ≡ 0 =
    w.counted ∙ ap length (entries-one w.entries [] c.args.octets.now w.spelled none) in
    let never : ⊥ = omega (arith, c.if-serials-all.true, zero) in
    absurd never

pub returns-clause-zeroed : goal.returns-clause-zeroed
returns-clause-zeroed c = λ none.
    let w = c.write_serials-all.ensures in
    (refl, w.counted ∙ ap length (entries-one w.entries [] c.args.octets.now w.spelled none))
