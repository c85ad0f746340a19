use Rattle.std.proofs.Common.{rules, Ok, Err}
use Rattle.rpki_der.proofs.CaptureLaws.{read-captured}
use Rattle.rpki_der.proofs.TriedLaws.{tried-refused}
use Rattle.rpki_der.specs.Cursor.{left}
use Rattle.rpki.specs.NameFault.{IsWalkedNameFault}
use Rattle.rpki.proofs.NameLaws.{AnyName}
use Rattle.rpki.proofs.NameFaultLaws.{name-values, name-kept, kept-named}
use Rattle.rpki.proofs.repository.x509.name.Name.take_from.Goals as goal

pub returns-in_err-captured : goal.returns-in_err-captured
returns-in_err-captured g c =
    tried-refused _ _ _ _ _ _ _ c.from_residual.ensures
    (name-kept (left c.args.cons.now) (left c.capture.new.self) (Err c.in_err-captured.field-0.0)
    (read-captured {X = Unit {0}} (λ u. tt) AnyName IsWalkedNameFault name-values _ (λ b a x h. search rules) _ _
    (Err c.in_err-captured.field-0.0) c.in_err-captured.ensures))

pub invariant_of-result : goal.invariant_of-result
invariant_of-result g c = kept-named _ _ _
    (read-captured {X = Unit {0}} (λ u. tt) AnyName IsWalkedNameFault name-values _ (λ b a x h. search rules) _ _
    (Ok c.in_ok-captured.captured) c.in_ok-captured.ensures)

pub returns : goal.returns
returns g c = name-kept (left c.args.cons.now) (left c.capture.new.self) (Ok c.in_ok-captured.captured)
    (read-captured {X = Unit {0}} (λ u. tt) AnyName IsWalkedNameFault name-values _ (λ b a x h. search rules) _ _
    (Ok c.in_ok-captured.captured) c.in_ok-captured.ensures)
