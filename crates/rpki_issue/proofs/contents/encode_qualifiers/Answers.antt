use Rattle.std.proofs.Common.{◌<◌, ◌^◌, length, arith, lit<, subst, sym}
use Rattle.rpki_x509.proofs.WrittenLaws.{appended}
use Rattle.rpki_issue.proofs.ContentsLaws.{qualifier-few, inner-few}
use Rattle.rpki_issue.proofs.contents.encode_qualifiers.Goals as goal

pub returns-clause-short : goal.returns-clause-short
returns-clause-short c =
    let uri = c.args.practices.now in
    let one = qualifier-few uri c.requires in
    let two = inner-few uri c.requires in
    let parts = appended c.encode.ensures.encoded c.encode-2.ensures.encoded in
    rw (c.new-2.ensures, c.new.ensures) (
      (
        (c.encode.ensures.short.1 (lit< tt), c.encode-2.ensures.short.1 (let k = c.requires in omega (arith, k))),
        subst (λ w. length w < 2 ^ 32) (sym parts) (omega (arith, one)),
      ),
      rw (c.encode.ensures.encoded, c.encode-2.ensures.encoded) (omega (arith, two)),
    )
