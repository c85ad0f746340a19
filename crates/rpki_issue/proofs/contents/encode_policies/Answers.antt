use Rattle.std.proofs.Common.{◌<◌, ◌^◌, length, arith, lit<, subst, sym}
use Rattle.rpki_x509.proofs.WrittenLaws.{appended}
use Rattle.rpki_issue.proofs.ContentsLaws.{policies-spelled, policy-few, policies-inner}
use Rattle.rpki_issue.proofs.contents.encode_policies.Goals as goal

pub returns-clause-short : goal.returns-clause-short
returns-clause-short c =
    let one = policy-few _ c.requires in
    let two = policies-inner _ c.requires in
    let parts = appended c.encode.ensures.encoded c.encode_statement-qualifiers.ensures.octets in
    rw (c.new-2.ensures, c.new.ensures) (
      (
        (c.encode.ensures.short.1 (lit< tt), c.encode_statement-qualifiers.ensures.short),
        subst (λ w. length w < 2 ^ 32) (sym parts) (omega (arith, one)),
      ),
      rw (c.encode.ensures.encoded, c.encode_statement-qualifiers.ensures.octets) (omega (arith, two)),
    )

pub returns-clause-read_back : goal.returns-clause-read_back
returns-clause-read_back c = policies-spelled _ c.requires
