use Rattle.std.proofs.lemmas.Result.{err_from_is_err_and}
use Rattle.rpki_der.proofs.ComposedLaws.{all-read, more-left, not-read}
use Rattle.rpki.specs.SignedData.{SpellsSigned}
use Rattle.rpki.specs.SignedFault.{signed_sequence}
use Rattle.rpki.proofs.SignedLaws.{again-iff, differ-in-count}
use Rattle.rpki.proofs.repository.x509.signed_data.SignedData.decode.Goals as goal

pub returns-in_err-found-clause-decodes : goal.returns-in_err-found-clause-decodes
returns-in_err-found-clause-decodes g c =
    let h = rw c.new-cons.ensures at c.in_err-found.ensures in
    let p = err_from_is_err_and c.from_residual.result c.from_residual.ensures.1 in
    rw (p.1, p.2) (not-read (SpellsSigned g.Alg.SignatureAlgorithm.spells)
    (signed_sequence g.Alg.SignatureAlgorithm.spells g.Alg.SignatureAlgorithm.fault).fault c.args.bytes _
    c.in_err-found.field-0.0 h)

pub returns-clause-decodes : goal.returns-clause-decodes
returns-clause-decodes g c =
    let h = rw c.new-cons.ensures at c.in_ok-found.ensures in
    all-read (SpellsSigned g.Alg.SignatureAlgorithm.spells) c.args.bytes c.in_ok-found.found _ h c.in_ok-finish.ensures

pub returns-clause-again : goal.returns-clause-again
returns-clause-again g c =
    let h = rw c.new-cons.ensures at c.in_ok-found.ensures in
    let whole = all-read (SpellsSigned g.Alg.SignatureAlgorithm.spells) c.args.bytes c.in_ok-found.found _ h
    c.in_ok-finish.ensures in
    let algorithm = g.Alg.SignatureAlgorithm in
    let laws = g.met.Alg.SignatureAlgorithm in
    λ text unused named is.
    again-iff algorithm.spells algorithm.written c.in_ok-found.found text c.args.bytes unused whole.0.spelled.one
    (laws.spelled_value _ text named) (laws.spelled_value _ _ (laws.written_spells c.in_ok-found.found.algorithm))
    whole.0 is

pub returns-clause-one_count : goal.returns-clause-one_count
returns-clause-one_count g c =
    let h = rw c.new-cons.ensures at c.in_ok-found.ensures in
    let whole = all-read (SpellsSigned g.Alg.SignatureAlgorithm.spells) c.args.bytes c.in_ok-found.found _ h
    c.in_ok-finish.ensures in
    λ other spelled one. differ-in-count g.Alg.SignatureAlgorithm.spells c.in_ok-found.found c.args.bytes other whole.0
    spelled one

pub returns-in_err-finish-clause-decodes : goal.returns-in_err-finish-clause-decodes
returns-in_err-finish-clause-decodes g c =
    let h = rw c.new-cons.ensures at c.in_ok-found.ensures in
    let p = err_from_is_err_and c.from_residual-in_err-finish.result c.from_residual-in_err-finish.ensures.1 in
    rw (p.1, p.2) (rw c.in_err-finish.ensures.0
    (more-left (SpellsSigned g.Alg.SignatureAlgorithm.spells)
    (signed_sequence g.Alg.SignatureAlgorithm.spells g.Alg.SignatureAlgorithm.fault).fault c.args.bytes
    c.in_ok-found.found _ h c.in_err-finish.ensures.1))
