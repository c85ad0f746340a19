use Rattle.std.proofs.Common.{refl, ◌∙◌, ap, []}
use Rattle.rpki_crl.specs.Crl.{is_revoked}
use Rattle.rpki_c.proofs.RevokedLaws.{entries-one}
use Rattle.rpki_c.proofs.crl.rpki_crl_contains.Goals as goal

pub returns-in-Ok-entries_contain-clause-zeroed : goal.returns-in-Ok-entries_contain-clause-zeroed
returns-in-Ok-entries_contain-clause-zeroed c = λ none few.
    let (xs, spelled, found) = c.in-Ok-entries_contain.ensures in
    (refl, found ∙ ap (is_revoked c.in-Ok.number) (entries-one xs [] c.args.octets.now spelled none))

pub returns-in-Err-clause-zeroed : goal.returns-in-Err-clause-zeroed
returns-in-Err-clause-zeroed c = λ none few. absurd (c.in-Err.ensures.0 [] none)
