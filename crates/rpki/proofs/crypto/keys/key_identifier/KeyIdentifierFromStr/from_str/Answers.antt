use Rattle.std.proofs.Common.{sym, ◌∙◌, ap, subst, length, arith}
use Rattle.std.proofs.lemmas.List.{length-set}
use Rattle.rpki.specs.KeyIdentifier.{IsHexOf}
use Rattle.rpki.proofs.KeyIdentifierLaws.{other-length, NoOctet, no-octet, one-more, octets-set, all-digits}
use Rattle.rpki.proofs.crypto.keys.key_identifier.KeyIdentifierFromStr.from_str.Goals as goal

pub returns-then-digits-ne40 : goal.returns-then-digits-ne40
returns-then-digits-ne40 c = λ k h. other-length k c.args.text.now h
    (λ e. c.if-digits-ne40.true (ap length c.as_bytes-digits.ensures.value ∙ e))

pub returns-in-None : goal.returns-in-None
returns-in-None c = λ k h.
    let d = c.args.text.now in
    let e = c.as_bytes-digits.ensures.value in
    no-octet k d c.loop-i.i c.loop-i-test.true h (ap length (sym e) ∙ c.if-digits-ne40.false)
    (subst (NoOctet c.loop-i.i) e c.in-None.ensures.none)

pub loop-i-preserved : goal.loop-i-preserved
loop-i-preserved c =
    let h = c.loop-i.invariant in (
      one-more c.as_bytes-digits.result.now c.loop-i.octets c.loop-i.i c.in-Some.octet c.loop-i-test.true
          c.if-digits-ne40.false h.1 h.0 c.in-Some.ensures.some,
      length-set c.loop-i.octets c.loop-i.i c.in-Some.octet ∙ h.1,
      octets-set c.loop-i.octets c.loop-i.i c.in-Some.octet h.2 c.in-Some.ensures.octet,
    )

pub returns : goal.returns
returns c =
    let h = c.loop-i.invariant in
    let d = c.as_bytes-digits.result.now in
    subst (IsHexOf c.loop-i.octets) c.as_bytes-digits.ensures.value
    (all-digits d c.loop-i.octets c.loop-i.i (omega arith) h.2 c.if-digits-ne40.false h.1 h.0)
