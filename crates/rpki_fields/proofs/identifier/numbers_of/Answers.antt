use Rattle.rpki_fields.proofs.IdentifierLaws.{ended, going-on, too-large, all-read}
use Rattle.rpki_fields.proofs.identifier.numbers_of.Goals as goal
use Rattle.rpki_fields.proofs.identifier.numbers_of.Goals.{then-octet-lt128+in_ok-push, else-octet-lt128}

pub returns-then-number : goal.returns-then-number
returns-then-number c =
    too-large c.args.octets.now c.octets.numbers.items c.octets.octet-index c.octets.number c.octets-test.true
    c.if-number.true c.octets.invariant

pub octets-preserved : goal.octets-preserved
octets-preserved c = elim c.if-octet-lt128.branch [
  | then-octet-lt128+in_ok-push w ↦
      rw (w.numbers-is, w.number-is, w.in_ok-push.ensures.items)
      (ended c.args.octets.now c.octets.numbers.items c.octets.octet-index c.octets.number c.octets-test.true
      c.if-number.false w.if-octet-lt128.true c.octets.invariant)
  | else-octet-lt128 w ↦
      rw (w.numbers-is, w.number-is)
      (going-on c.args.octets.now c.octets.numbers.items c.octets.octet-index c.octets.number c.octets-test.true
      c.if-number.false w.if-octet-lt128.false c.octets.invariant)
]

pub returns : goal.returns
returns c = all-read c.args.octets.now c.octets.numbers.items c.octets.octet-index c.octets.number c.octets-test.false
    c.octets.invariant
