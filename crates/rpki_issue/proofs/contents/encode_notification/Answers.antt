use Rattle.std.proofs.Common.{◌<◌, ◌^◌, length, arith, subst, sym, lit<}
use Rattle.rpki_x509.proofs.WrittenLaws.{appended}
use Rattle.rpki_cert.specs.Access.{rpki_notify}
use Rattle.rpki_issue.proofs.ContentsLaws.{inside-few}
use Rattle.rpki_issue.proofs.contents.encode_notification.Goals as goal

pub returns-clause-short : goal.returns-clause-short
returns-clause-short c =
    let few = inside-few c.args.uri.now c.requires rpki_notify (omega arith) in
    rw c.new.ensures (
      (
        c.encode.ensures.short.1 (lit< tt),
        c.encode_general_name.ensures.short.1 (let k = c.requires in omega (arith, k)),
      ),
      subst (λ w. length w < 2 ^ 32)
          (sym (appended c.encode.ensures.encoded c.encode_general_name.ensures.encoded)) (omega (arith, few)),
    )
