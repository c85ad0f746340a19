use Rattle.std.proofs.Common.{◌<◌, ◌^◌, length, arith, subst, sym}
use Rattle.rpki_x509.proofs.WrittenLaws.{appended}
use Rattle.rpki_issue.proofs.ContentsLaws.{inside-few}
use Rattle.rpki_issue.proofs.contents.encode_description.Goals as goal

pub returns-clause-short : goal.returns-clause-short
returns-clause-short c =
    let few = inside-few c.args.uri.now c.requires.uri c.args.method.0.now c.requires.method in
    rw c.new.ensures (
      (
        c.encode.ensures.short.1 (omega (arith, c.requires.method)),
        c.encode_general_name.ensures.short.1 (omega (arith, c.requires.uri)),
      ),
      subst (λ w. length w < 2 ^ 32)
          (sym (appended c.encode.ensures.encoded c.encode_general_name.ensures.encoded)) (omega (arith, few)),
    )
