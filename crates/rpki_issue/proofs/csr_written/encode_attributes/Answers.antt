use Rattle.std.proofs.Common.{◌<◌, ◌^◌, length, arith, lit<, subst, sym, refl}
use Rattle.rpki_x509.proofs.WrittenLaws.{appended}
use Rattle.rpki_issue.proofs.RequestLaws.{list-few, values-few, attribute-few, inner-few}
use Rattle.rpki_issue.proofs.csr_written.encode_attributes.Goals as goal

pub returns-clause-short : goal.returns-clause-short
returns-clause-short c =
    let e = c.args.listed.now in
    let few = c.requires in
    let one = list-few e few in
    let two = values-few e few in
    let three = attribute-few e few in
    let four = inner-few e few in
    rw (c.new-3.ensures, c.new-2.ensures, c.new-extensions.ensures, c.new.ensures) (
      (
        (
          c.encode.ensures.short.1 (lit< tt),
          ((((c.values.result, c.values.ensures.count), omega (arith, few)), omega (arith, one))),
        ),
        subst (λ w. length w < 2 ^ 32) (sym (appended c.encode.ensures.encoded refl)) (omega (arith, three)),
      ),
      rw c.encode.ensures.encoded (omega (arith, four)),
    )
