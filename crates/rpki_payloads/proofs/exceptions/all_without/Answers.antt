use Rattle.rpki_payloads.specs.Exceptions.{IsWithout}
use Rattle.rpki_payloads.proofs.ExceptionLaws.{each-next}
use Rattle.rpki_payloads.proofs.exceptions.all_without.Goals as goal

pub all-preserved : goal.all-preserved
all-preserved c =
    rw c.in_ok-push.ensures.items
    (each-next (IsWithout c.args.prefix_filters.now c.args.key_filters.now) c.args.all.now c.all.left.items
    c.all.one-index c.one-item.result c.in_ok-one.one c.all-test.true c.one-item.is c.all.invariant c.in_ok-one.ensures)
