use Rattle.rpki_der.specs.Prelude.{left, AtPart}
use Rattle.rpki_der.proofs.ReadingLaws.{UnlessMemory-weaker}
use Rattle.rpki_der.proofs.FirstFaultLaws.{tried-parts}
use Rattle.rpki.specs.Algorithm.{IsIdentified}
use Rattle.rpki.specs.AlgorithmFault.{identified}
use Rattle.rpki.proofs.AlgorithmLaws.{parameters-all}
use Rattle.rpki.proofs.NamedLaws.{not-identified}
use Rattle.rpki.proofs.crypto.algorithm_identifier.fn.take_algorithm.in_sequence.Goals as goal

pub returns-in_err-skip_oid_if : goal.returns-in_err-skip_oid_if
returns-in_err-skip_oid_if c =
    let o = c.captures.name.now in
    let s = left c.args.contents.now in
    let e = c.in_err-skip_oid_if.field-0.0 in
    let h = c.in_err-skip_oid_if.ensures in
    tried-parts (λ b. b) (IsIdentified o) (identified o).fault s _ e _ c.from_residual.ensures
    (UnlessMemory-weaker e (not-identified o s) h.refuses, AtPart h.refuses h.kind)

pub returns : goal.returns
returns c = parameters-all c.captures.name.now (left c.args.contents.now) _ _ _ c.in_ok-skip_oid_if.ensures
    c.take_null_or_nothing.ensures
